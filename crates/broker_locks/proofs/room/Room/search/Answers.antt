use Rattle.std.proofs.Common.{rules}
use Rattle.std.proofs.lemmas.List.Sorted.{answers_always}
use Rattle.mcast_txn.proofs.Rising.{searched}
use Rattle.broker_locks.specs.Inner.Waited.{waited_number}
use Rattle.broker_locks.proofs.room.Room.search.Goals as goal

pub returns : goal.returns
returns c =
    let facts = c.binary_search_by_key.ensures in
    rw (← c.self.view_is) (searched waited_number c.self.inside.waited.items c.args.number c.binary_search_by_key.result c.self.invariant (rw (← c.deref.ensures.value) facts.bound)
    (rw (← c.deref.ensures.value) (facts.position waited_number (answers_always _ _ _ (λ f a r g called. search rules)))))
