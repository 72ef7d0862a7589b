-- Notes of decision cells that a topic keeps beside parts that have learnt.
use Rattle.std.specs.Prelude.{◌≡◌, Option, Some}
use Rattle.std.specs.Option.{option_map}
use Rattle.mcast_txn.specs.declared.flight.Flight.{Flight}
use Rattle.mcast_txn.specs.declared.stamp.Stamp.{Stamp}
use Rattle.mcast_txn.specs.Flight.{Sight, cell_of}
use Rattle.mcast_txn.specs.Transaction.{TopicPart}
use Rattle.mcast_group.specs.Machine.{decided_stamp}

-- the stamp is that of the verdict that the note knows
abbrev pub IsStampOf : Stamp → Sight → Type 0
IsStampOf stamp sight = option_map decided_stamp sight.known ≡ Some stamp

-- there is a stamp, and it is that of the verdict that the note knows
abbrev pub HasStampOf : Option Stamp → Sight → Type 0
HasStampOf learnt sight = (stamp : Stamp) × (learnt ≡ Some stamp) × IsStampOf stamp sight

-- a part that left its topic: the flight that it shares with the other parts, the stamp with which it left,
-- and what the note says that was kept beside it, if one was
pub record DepartedState : Type 0 where
  pub part : TopicPart
  pub flight : Flight
  pub stamp : Stamp
  pub seen : Option Sight

-- the note is of this flight's cell, and knows a verdict with this stamp
pub record IsSightOf (flight : Flight) (stamp : Stamp) (sight : Sight) : Type 0 where
  pub cell : sight.cell ≡ cell_of flight
  pub stamp_of : IsStampOf stamp sight
