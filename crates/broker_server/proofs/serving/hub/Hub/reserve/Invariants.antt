use Rattle.std.proofs.Common.{◌≡◌, ◌++◌, take}
use Rattle.mcast_txn.specs.Transaction.{topics_of}
use Rattle.broker_server.proofs.serving.hub.Hub.reserve.Given as goal

-- room is reserved at the topics so far
abbrev pub invariant-loop-topic : goal.invariant-loop-topic
invariant-loop-topic g l = l.room ≡ l.fn.room ++ take l.topic-index (topics_of l.txn)
