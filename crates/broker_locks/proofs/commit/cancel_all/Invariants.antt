use Rattle.std.proofs.Common.{◌≡◌, ◌++◌, map, take}
use Rattle.broker_locks.specs.Inner.Cancelling.{cancelled_at}
use Rattle.broker_locks.proofs.commit.cancel_all.Given as goal

abbrev pub invariant-loop-k : goal.invariant-loop-k
invariant-loop-k g l =
    (g.P.Places.rows l.places ≡ g.P.Places.rows l.fn.places ++ map (cancelled_at l.id) (take l.k (map (λ t. t.topic) l.tickets)))
    × (g.P.Places.given l.places ≡ g.P.Places.given l.fn.places)
