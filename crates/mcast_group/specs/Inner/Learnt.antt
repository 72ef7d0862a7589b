-- What a pending part has learnt. It only serves proofs.
use Rattle.std.specs.Prelude.{◌≡◌, Option, IfSome}
use Rattle.mcast_txn.specs.declared.flight.Flight.{Flight}
use Rattle.mcast_txn.specs.declared.stamp.Stamp.{Stamp}
use Rattle.mcast_txn.specs.Flight.{Sight, cell_of}

-- a stamp, if one was learnt, and what the note says that is kept with it, if one is
pub record LearntState : Type 0 where
  pub stamp : Option Stamp
  pub seen : Option Sight

-- What a pending part of this flight keeps.
-- topics: its topics are its part's.
-- own: a note that is kept is of its own flight's cell.
pub record IsPart {T : Type 0} (flight : Flight) (shared own_topics : T) (seen : Option Sight) : Type 0 where
  pub topics : shared ≡ own_topics
  pub own : IfSome seen (λ sight. sight.cell ≡ cell_of flight)
