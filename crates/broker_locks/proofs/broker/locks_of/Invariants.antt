use Rattle.std.proofs.Common.{◌≡◌, ◌+◌, vec_len}
use Rattle.std.specs.Vec.Iter.{into_iter_len}
use Rattle.broker_locks.proofs.broker.locks_of.Given as goal

abbrev pub invariant-loop-topic : goal.invariant-loop-topic
invariant-loop-topic g l = vec_len l.locks + into_iter_len l.topic-iterator ≡ vec_len l.fn.opening
