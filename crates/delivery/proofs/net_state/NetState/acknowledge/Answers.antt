use Rattle.delivery.proofs.Words.All.{no_endpoint}
use Rattle.delivery.proofs.Views.Events.NextFrames.{next_acknowledges}
use Rattle.delivery.proofs.net_state.NetState.acknowledge.Goals as goal

pub returns-clause-ok : goal.returns-clause-ok
returns-clause-ok c k f left asks =
    next_acknowledges k c.args.connection f left c.args.receipt.now c.args.self.now c.write_receipt.new.self no_endpoint asks (c.in_ok-write_receipt.ensures.ok no_endpoint)
