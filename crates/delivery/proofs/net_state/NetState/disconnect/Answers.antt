use Rattle.delivery.proofs.Words.All.{no_endpoint}
use Rattle.delivery.proofs.Views.Events.NextFrames.{next_disconnects}
use Rattle.delivery.proofs.net_state.NetState.disconnect.Goals as goal

pub returns : goal.returns
returns c k f left asks = next_disconnects k c.args.connection f left c.args.receipt c.args.self.now c.begin_leaving.new.self no_endpoint asks (c.begin_leaving.ensures no_endpoint)
