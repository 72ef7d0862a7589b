use Rattle.std.proofs.Common.{◌≡◌, ◌≤◌, ◌+◌, ◌*◌}
use Rattle.std.specs.Vec.Iter.{into_iter_len}
use Rattle.delivery.specs.Topics.{max_topics}
use Rattle.broker_locks.proofs.broker.add_up.Given as goal

abbrev pub invariant-loop-lock : goal.invariant-loop-lock
invariant-loop-lock g l =
    (l.all.parts + into_iter_len l.lock-iterator ≡ max_topics)
    × (l.tally.tickets ≡ l.all.amount)
    × (l.tally.tickets ≡ l.tally.released + l.tally.cancelled + l.tally.pending)
    × (l.tally.tickets ≤ l.all.parts * 18446744073709551616)
