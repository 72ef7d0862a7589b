use Rattle.std.proofs.Common.{◌≡◌, ◌++◌, map, take}
use Rattle.broker_locks.specs.Inner.Cancelling.{cancelled_at}
use Rattle.broker_locks.proofs.commit.cancel_decided.Given as goal

abbrev pub invariant-loop-row : goal.invariant-loop-row
invariant-loop-row g l =
    (g.P.Places.rows l.places ≡ g.P.Places.rows l.fn.places ++ map (cancelled_at l.id) (take l.row-index (map (λ row. row.topic) l.rows)))
    × (g.P.Places.given l.places ≡ g.P.Places.given l.fn.places)
