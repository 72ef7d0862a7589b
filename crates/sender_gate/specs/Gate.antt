-- A sender and its transaction on its way.
use Rattle.std.specs.Prelude.{◌+◌, ◌==◌, nat_lt, ℕ, List, Result, Ok, Err, if◌then◌else◌}
use Rattle.mcast_txn.specs.declared.fault.BallotFault.{BallotFault}
use Rattle.mcast_txn.specs.declared.flight.Flight.{Flight}
use Rattle.mcast_txn.specs.declared.id.Sender.{Sender}
use Rattle.mcast_txn.specs.declared.id.TxnId.{TxnId}
use Rattle.mcast_txn.specs.declared.draft.sent_message.SentMessage.{SentMessage}
use Rattle.mcast_txn.specs.declared.stamp.Stamp.{Stamp}
use Rattle.mcast_txn.specs.declared.ballot.ticket.Ticket.{Ticket}
use Rattle.mcast_txn.specs.Ballot.{BallotState, put_answer}
use Rattle.mcast_txn.specs.Part.{parts_of}
use Rattle.mcast_txn.specs.Slots.{Slots, free_slots}
use Rattle.mcast_txn.specs.Transaction.{TopicPart, topics_of}
use Rattle.sender_gate.specs.declared.fault.GateFault.{GateFault}
use Rattle.sender_gate.specs.declared.fault.GateFault.TheVariants.{SeqFull, BelowFloor, NoMemory}
use Rattle.sender_gate.specs.Faults.{gate_fault}

-- the greatest number that a transaction of a sender can have
abbrev pub max_seq : ℕ
max_seq = 18446744073709551615

-- a sender, the number of its last transaction, and the stamp of the last that was decided
pub record GateState : Type 0 where
  pub sender : Sender
  pub seq : ℕ
  pub floor : Stamp

-- a transaction on its way: its sender's floor, each of its topics with the number that it gave, and the
-- parts that weren't taken out
pub record FlightState : Type 0 where
  pub id : TxnId
  pub floor : Stamp
  pub tickets : Slots ℕ
  pub parts : Slots TopicPart

-- a transaction on its way, with the flight that its parts share
pub record FlyingState : Type 0 where
  pub state : FlightState
  pub flight : Flight

-- the id of the sender's next transaction
abbrev pub next_id : GateState → TxnId
next_id gate = record { sender = gate.sender; seq = gate.seq + 1 }

-- the flight of the sender's next transaction, of these SENDs
abbrev pub flight_of : GateState → List SentMessage → FlightState
flight_of gate sends = record {
  id = next_id gate;
  floor = gate.floor;
  tickets = free_slots (topics_of sends);
  parts = parts_of (next_id gate) sends;
}

-- why a flight doesn't begin: there is no next number, or no memory
abbrev pub begin_fault : GateState → GateFault
begin_fault gate = if gate.seq == max_seq then SeqFull else NoMemory

-- the tickets that were put into a flight
abbrev pub ballot_of : FlightState → BallotState
ballot_of flight = record { id = flight.id; tickets = flight.tickets }

-- what a flight with this floor answers where its ballot answers so: the number must be above the floor's
abbrev pub over_floor : Stamp → Ticket → Result Unit BallotFault → Result Unit GateFault
over_floor floor ticket (Ok _) = if nat_lt floor.n ticket.n then Ok tt else Err BelowFloor
over_floor floor ticket (Err fault) = Err (gate_fault fault)

-- what a flight answers to a ticket
abbrev pub flight_answer : FlightState → Ticket → Result Unit GateFault
flight_answer flight ticket = over_floor flight.floor ticket (put_answer (ballot_of flight) ticket)

-- the gate once its flight has ended with this floor
abbrev pub gate_after : FlightState → Stamp → GateState
gate_after flight floor = record { sender = flight.id.sender; seq = flight.id.seq; floor = floor }
