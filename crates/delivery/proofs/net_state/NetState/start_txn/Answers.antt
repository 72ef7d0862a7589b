use Rattle.delivery.proofs.Views.Events.NextTxns.{next_commits, next_idle}
use Rattle.delivery.proofs.net_state.NetState.start_txn.Goals as goal

pub launch-requires-clause-begun : goal.launch-requires-clause-begun
launch-requires-clause-begun c = let asks = c.requires.asks in (next_idle asks.0 c.args.connection asks.1 asks.2 c.args.txn c.args.receipt c.args.self.now asks.3).0

pub launch-requires-clause-idle : goal.launch-requires-clause-idle
launch-requires-clause-idle c = let asks = c.requires.asks in (next_idle asks.0 c.args.connection asks.1 asks.2 c.args.txn c.args.receipt c.args.self.now asks.3).1

pub returns-in-Ok-clause-ok : goal.returns-in-Ok-clause-ok
returns-in-Ok-clause-ok c k f left asks =
    let h = c.in-Ok.ensures in
    next_commits k c.args.connection f left c.args.txn c.args.receipt c.args.self.now c.launch.new.self c.keep_receipt.new.self c.in-Ok.id asks h.id h.last h.ok c.keep_receipt.ensures
