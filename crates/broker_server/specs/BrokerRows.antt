-- What a connection asks of the broker, as a list of rows: each call with its answer.
use Rattle.std.specs.Prelude.{◌≡◌, ℕ, Bool, List, [], ◌∷◌, Option, Result}
use Rattle.mcast_group.specs.declared.fault.SubFault.{SubFault}
use Rattle.mcast_txn.specs.declared.id.Topic.{Topic}
use Rattle.mcast_txn.specs.declared.stamp.Stamp.{Stamp}
use Rattle.mcast_txn.specs.Span.{Item}
use Rattle.sender_gate.specs.declared.fault.ClaimFault.{ClaimFault}
use Rattle.sender_gate.specs.Gate.{FlightState, GateState, gate_after}
use Rattle.broker_locks.specs.declared.fault.CommitFault.{CommitFault}

-- which subscription of the broker: its topic, its number there, and its flag, a bit of the word by which its
-- connection is told which of its subscriptions may have something
pub record SubName : Type 0 where
  pub topic : Topic
  pub number : ℕ
  pub flag : ℕ

-- A call of the broker, with what it answered. So `Claims None (Ok gate)` is a CONNECT without client-id that
-- got the gate of a new sender.
pub data BrokerRow : Type 0 where
  -- the names of all topics were looked up: those that the connection knew, and those that it knows then
  LooksUp : List (List ℕ) → List (List ℕ) → BrokerRow
  -- the sender of this client-id, or a new one where there is none, was claimed
  Claims : Option (List ℕ) → Result GateState ClaimFault → BrokerRow
  -- the gate was given back
  GivesBack : GateState → BrokerRow
  -- a subscription was to begin at the topic
  Subscribes : Topic → Result SubName SubFault → BrokerRow
  -- the subscription was ended
  Unsubscribes : SubName → BrokerRow
  -- which subscriptions may have something since this was asked last was asked: their flags, in one word
  TakesFlags : ℕ → BrokerRow
  -- whether the subscription has lagged was asked
  AsksLag : SubName → Bool → BrokerRow
  -- the next item of the subscription's queue was asked for
  Takes : SubName → Option Item → BrokerRow
  -- room at these topics was asked for; whether there was some at each of them, which is then reserved
  AsksRoom : List Topic → Bool → BrokerRow
  -- the room that was reserved was given back
  GivesRoomBack : BrokerRow
  -- the flight was to be committed by the room that was reserved; the gate comes back, also where it was
  -- refused
  Commits : FlightState → Result GateState (GateState × CommitFault) → BrokerRow

-- The gate is as this flight leaves it: of its sender, with its number as the last that was used, and with
-- some floor. So after flight 7 of sender 2, it is the gate of sender 2, whose next number is 8.
abbrev pub IsGateAfter : FlightState → GateState → Type 0
IsGateAfter flight gate = (floor : Stamp) × (gate ≡ gate_after flight floor)

-- These calls, in order, made the new broker of the old one; `called` is what one call makes of it. So by no
-- call it stays as it is.
abbrev pub AsksInOrder : {B : Type 0} → (B → BrokerRow → B → Type 0) → B → List BrokerRow → B → Type 0
AsksInOrder called old [] new = new ≡ old
AsksInOrder {B} called old (row ∷ rows) new =
    (between : B) × called old row between × AsksInOrder called between rows new
