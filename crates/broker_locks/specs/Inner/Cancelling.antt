-- Parts that are to be cancelled.
use Rattle.std.specs.Prelude.{◌≡◌, true, List, map}
use Rattle.mcast_txn.specs.declared.id.Topic.{Topic}
use Rattle.mcast_txn.specs.declared.id.TxnId.{TxnId}
use Rattle.mcast_txn.specs.Lists.{In, RisesBy}
use Rattle.mcast_txn.specs.Ballot.{ticket_rows}
use Rattle.mcast_txn.specs.Stamp.{greatest, stamp_lt}
use Rattle.sender_gate.specs.Gate.{FlightState, GateState, gate_after}
use Rattle.broker_locks.specs.Rows.{PlaceRow, Cancelled, is_uncancelled}

-- Each of these topics has a part of the transaction that was entered and not cancelled. They rise.
pub record AreUncancelled (topics : List Topic) (id : TxnId) (rows : List PlaceRow) : Type 0 where
  pub rises : RisesBy (λ t. t.0) topics
  pub each : (t : Topic) → In t topics → is_uncancelled t id rows ≡ true

-- the transaction is cancelled at a topic
abbrev pub cancelled_at : TxnId → Topic → PlaceRow
cancelled_at id t = Cancelled t id

-- the topics of a flight that gave a ticket
abbrev pub topics_given : FlightState → List Topic
topics_given flight = map (λ row. row.topic) (ticket_rows flight.tickets)

-- the gate that a verdict leaves: its floor is the greatest of the tickets, and is above the flight's
pub record IsDecidedGate (flight : FlightState) (gate : GateState) : Type 0 where
  pub left : gate ≡ gate_after flight (greatest (ticket_rows flight.tickets))
  pub above : stamp_lt flight.floor gate.floor ≡ true
