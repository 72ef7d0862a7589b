use Rattle.std.proofs.Common.{sym, subst}
use Rattle.mcast_txn.specs.Lists.{RisesBy}
use Rattle.broker_locks.specs.Inner.Waited.{waited_number}
use Rattle.broker_locks.proofs.Waiting.{rises_filter}
use Rattle.broker_locks.proofs.room.Room.pass_over_full.Goals as goal

pub invariant_of-self : goal.invariant_of-self
invariant_of-self g c = subst (RisesBy waited_number) (sym c.keep_fitting.ensures.kept) (rises_filter _ c.self.inside.waited.items c.self.invariant)
