use Rattle.mcast_txn.specs.Transaction.{topics_of}
use Rattle.broker_server.specs.Lines.{IsRoomAt}
use Rattle.broker_server.proofs.serving.waiting.Waiting.tries.Given as goal

-- it has room at the first of the topics
abbrev pub invariant-loop : goal.invariant-loop
invariant-loop g l =
    (goal.iterator-loop g).can_next l.iterator' × ((goal.iterator-loop g).is_finite l.iterator' × IsRoomAt (topics_of l.txn) l.room)
