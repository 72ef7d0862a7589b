use Rattle.std.proofs.Common.{◌≡◌, ◌+◌, map, vec_len}
use Rattle.broker_locks.specs.Opening.{opening_places}
use Rattle.broker_locks.proofs.broker.opening_topics.Given as goal

abbrev pub invariant-loop-i : goal.invariant-loop-i
invariant-loop-i g l =
    (map (λ t. t.place) l.opening.items ≡ opening_places l.topics l.keep_trace l.i)
    × (vec_len l.opening ≡ l.i)
    × (l.share.parts + l.i ≡ l.count)
    × (l.share.amount ≡ 0)
