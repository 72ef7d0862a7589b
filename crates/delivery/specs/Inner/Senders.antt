-- Only serves proofs: what the private calls for a sender's transaction make of what the code holds.
use Rattle.std.specs.Prelude.{◌≡◌, ◌-◌, ◌++◌, ◌∷◌, [], ℕ, List, Bool, true, false, map, get_or, set, Option, Some, None, Result, Ok, Err, is_ok, length, nat_lt, ◌==◌, ◌&&◌, slice_get, if◌then◌else◌}
use Rattle.std.specs.List.{list_any, position, remove}
use Rattle.std.specs.Option.{is_none, is_some, option_or}
use Rattle.stomp_frame.specs.ServerFrames.{receipt_frame, error_frame}
use Rattle.stomp_frame.specs.Writing.{spelling_of}
use Rattle.mcast_txn.specs.declared.ballot.ticket.Ticket.{Ticket}
use Rattle.mcast_txn.specs.declared.id.Topic.{Topic}
use Rattle.mcast_txn.specs.declared.id.TxnId.{TxnId}
use Rattle.mcast_txn.specs.declared.draft.sent_message.SentMessage.{SentMessage}
use Rattle.mcast_txn.specs.Ballot.{Decision, ticket_rows, tickets_put}
use Rattle.mcast_txn.specs.Slots.{Slots, held_at, with_slot}
use Rattle.mcast_txn.specs.Span.{LogRow}
use Rattle.mcast_txn.specs.declared.stamp.Stamp.{Stamp}
use Rattle.mcast_txn.specs.Stamp.{zero_stamp, greatest}
use Rattle.mcast_txn.specs.TopicSet.{names}
use Rattle.mcast_txn.specs.Transaction.{TopicPart, topics_of}
use Rattle.mcast_group.specs.declared.fault.ProposeFault.{ProposeFault}
use Rattle.mcast_group.specs.Group.{GroupState, propose_refusal}
use Rattle.mcast_group.specs.Machine.{next_number, propose_fault, after_propose, after_cancel}
use Rattle.sender_gate.specs.Gate.{GateState, flight_of, flight_answer, next_id, gate_after, ballot_of}
use Rattle.delivery.specs.declared.refusal.Refusal.{Refusal}
use Rattle.delivery.specs.declared.refusal.Refusal.TheVariants as refusal
use Rattle.delivery.specs.declared.sending.Sending.{Sending}
use Rattle.delivery.specs.declared.stage.Stage.{Stage}
use Rattle.delivery.specs.Machine.Objections.{Objection, refusal_of}
use Rattle.delivery.specs.Machine.World.{new_sender}
use Rattle.delivery.specs.Inner.View.{View, SenderView, EndpointView, sender_view, no_endpoint, number_among, leaving_endpoint, group_in, no_group}

-- ---- whose transaction it is

-- the number of the sender that a connection speaks for; while it speaks for none, that of the next one
abbrev pub speaker_at : View → ℕ → ℕ
speaker_at v c = number_among v.senders (get_or v.endpoints c no_endpoint)

-- what stands for the sender of this number where there is none yet: a new one
abbrev pub no_sender : ℕ → SenderView
no_sender s = sender_view s new_sender

-- the sender of this number
abbrev pub sender_in : View → ℕ → SenderView
sender_in v s = get_or v.senders s (no_sender s)

-- what stands against any event of a connection of this stage
abbrev pub gone_objection : Stage → Option Objection
gone_objection (Stage.Open endpoint) = None
gone_objection (Stage.Leaving parting) = None
gone_objection Stage.Gone = Some Objection.Gone

-- the same of an endpoint, if there is one
abbrev pub there_objection : Option EndpointView → Option Objection
there_objection None = Some Objection.NoConn
there_objection (Some endpoint) = gone_objection endpoint.stage

-- a connection that is there and isn't gone has this sender; otherwise this is reported
abbrev pub IsSpeaker : Result ℕ Refusal → View → ℕ → Type 0
IsSpeaker (Ok s) v c =
    (there_objection (slice_get v.endpoints c) ≡ None) × (s ≡ speaker_at v c)
IsSpeaker (Err refusal) v c =
    (o : Objection) × (there_objection (slice_get v.endpoints c) ≡ Some o) × (refusal_of o ≡ Some refusal)

-- ---- a transaction begins

-- what stands for a gate that isn't there
abbrev pub no_gate : GateState
no_gate = record { sender = record { 0 = 0 }; seq = 0; floor = zero_stamp }

-- the sender between its transactions, as it is or as it was before the undecided one
abbrev pub gate_of : Sending → GateState
gate_of (Sending.Idle gate) = gate
gate_of Sending.Resting = no_gate
gate_of (Sending.Flying flight topics) = gate_after flight flight.floor
gate_of (Sending.Marked gate tickets fault) = gate

-- a transaction of these SENDs is on its way, if the gate was there
abbrev pub launched_sending : List SentMessage → Sending → Sending
launched_sending sends (Sending.Idle gate) =
    Sending.Flying (flight_of gate sends) (topics_of sends)
launched_sending sends Sending.Resting = Sending.Resting
launched_sending sends (Sending.Flying flight topics) = Sending.Flying flight topics
launched_sending sends (Sending.Marked gate tickets fault) = Sending.Marked gate tickets fault

-- the same of its sender
abbrev pub launched_sender : List SentMessage → SenderView → SenderView
launched_sender sends x = record x { sending = launched_sending sends x.sending }

-- the id that its next transaction has
abbrev pub launched_id : View → ℕ → TxnId
launched_id v c = next_id (gate_of (sender_in v (speaker_at v c)).sending)

-- with a transaction of these SENDs that the connection's sender has begun
abbrev pub launched_view : List SentMessage → ℕ → View → View
launched_view sends c v =
    let s = speaker_at v c in
    record v {
      senders = set v.senders s (launched_sender sends (sender_in v s));
      verdicts = set v.verdicts s (get_or v.verdicts s [] ++ None ∷ []);
    }

-- an open connection's transaction asked for this receipt
abbrev pub asked_stage : Option (List ℕ) → Stage → Stage
asked_stage receipt (Stage.Open endpoint) = Stage.Open (record endpoint { receipt = receipt })
asked_stage receipt (Stage.Leaving parting) = Stage.Leaving parting
asked_stage receipt Stage.Gone = Stage.Gone

-- the same of its endpoint
abbrev pub asked_endpoint : Option (List ℕ) → EndpointView → EndpointView
asked_endpoint receipt endpoint = record endpoint { stage = asked_stage receipt endpoint.stage }

-- the same of what is held
abbrev pub asked_view : Option (List ℕ) → ℕ → View → View
asked_view receipt c v =
    record v { endpoints = set v.endpoints c (asked_endpoint receipt (get_or v.endpoints c no_endpoint)) }

-- ---- it is decided

-- why a sender's transaction isn't decided
abbrev pub decide_refusal : Sending → Option Refusal
decide_refusal (Sending.Idle gate) = Some refusal.NoFlight
decide_refusal Sending.Resting = Some refusal.NoFlight
decide_refusal (Sending.Flying flight topics) =
    if list_any (λ s. is_none s.1) flight.tickets then Some refusal.Incomplete else None
decide_refusal (Sending.Marked gate tickets fault) = Some refusal.Marked

-- what stands for a verdict where there is none
abbrev pub no_decision : Decision
no_decision = record { id = record { sender = record { 0 = 0 }; seq = 0 }; rows = [] }

-- the verdict of its transaction
abbrev pub decision_of : Sending → Decision
decision_of (Sending.Idle gate) = no_decision
decision_of Sending.Resting = no_decision
decision_of (Sending.Flying flight topics) =
    record { id = flight.id; rows = ticket_rows flight.tickets }
decision_of (Sending.Marked gate tickets fault) = no_decision

-- what stands for a row where there is none
abbrev pub no_row : LogRow
no_row = record { id = no_decision.id; topics = []; stamp = zero_stamp }

-- the row of the commit list
abbrev pub decided_row : Sending → LogRow
decided_row (Sending.Idle gate) = no_row
decided_row Sending.Resting = no_row
decided_row (Sending.Flying flight topics) =
    record { id = flight.id; topics = topics; stamp = greatest (ticket_rows flight.tickets) }
decided_row (Sending.Marked gate tickets fault) = no_row

-- the stamp is the sender's new floor
abbrev pub decided_sending : Sending → Sending
decided_sending (Sending.Idle gate) = Sending.Idle gate
decided_sending Sending.Resting = Sending.Resting
decided_sending (Sending.Flying flight topics) =
    Sending.Idle (gate_after flight (greatest (ticket_rows flight.tickets)))
decided_sending (Sending.Marked gate tickets fault) = Sending.Marked gate tickets fault

-- the same of its sender
abbrev pub decided_sender : SenderView → SenderView
decided_sender x = record x { sending = decided_sending x.sending }

-- these lists with the verdict in its sender's slot
abbrev pub verdicts_with : ℕ → Decision → List (List (Option Decision))
    → List (List (Option Decision))
verdicts_with s verdict verdicts =
    set verdicts s (set (get_or verdicts s []) (verdict.id.seq - 1) (Some verdict))

-- with the verdict and the row of this sender's transaction
abbrev pub decided_view : ℕ → View → View
decided_view s v =
    let x = sender_in v s in
    record v {
      senders = set v.senders s (decided_sender x);
      verdicts = verdicts_with s (decision_of x.sending) v.verdicts;
      commits = v.commits ++ decided_row x.sending ∷ [];
    }

-- the receipt that an open connection's transaction asked for
abbrev pub receipt_in : Stage → Option (List ℕ)
receipt_in (Stage.Open endpoint) = endpoint.receipt
receipt_in (Stage.Leaving parting) = None
receipt_in Stage.Gone = None

-- the octets out with its RECEIPT
abbrev pub with_receipt : List ℕ → Option (List ℕ) → List ℕ
with_receipt output None = output
with_receipt output (Some id) = output ++ spelling_of (receipt_frame id)

-- the endpoint of a connection whose transaction is decided, with that RECEIPT
abbrev pub confirmed_endpoint : EndpointView → EndpointView
confirmed_endpoint endpoint = record endpoint {
  stage = asked_stage None endpoint.stage;
  output = with_receipt endpoint.output (receipt_in endpoint.stage);
}

-- the same where there was no memory for it
abbrev pub confirmed_endpoint_if : Bool → EndpointView → EndpointView
confirmed_endpoint_if cut endpoint =
    if cut then leaving_endpoint None endpoint else confirmed_endpoint endpoint

-- the same of what is held
abbrev pub confirmed_view : Bool → ℕ → View → View
confirmed_view cut c v =
    record v { endpoints = set v.endpoints c (confirmed_endpoint_if cut (get_or v.endpoints c no_endpoint)) }

-- ---- it is proposed

-- the topic is one of these
abbrev pub is_slot : {A : Type 0} → Topic → Slots A → Bool
is_slot t slots = names t (map (λ s. s.0) slots)

-- why a part of a sender's transaction isn't proposed at t
abbrev pub part_refusal : Topic → Sending → Option Refusal
part_refusal t (Sending.Idle gate) = Some refusal.NoFlight
part_refusal t Sending.Resting = Some refusal.NoFlight
part_refusal t (Sending.Flying flight topics) =
    if is_slot t flight.tickets
    then (if is_some (held_at t flight.parts) then None else Some refusal.Twice)
    else Some refusal.NotNamed
part_refusal t (Sending.Marked gate tickets fault) = Some refusal.Marked

-- its part at t, if it wasn't taken out
abbrev pub part_in : Topic → Sending → Option TopicPart
part_in t (Sending.Idle gate) = None
part_in t Sending.Resting = None
part_in t (Sending.Flying flight topics) = held_at t flight.parts
part_in t (Sending.Marked gate tickets fault) = None

-- the part at t is taken out
abbrev pub taken_sending : Topic → Sending → Sending
taken_sending t (Sending.Idle gate) = Sending.Idle gate
taken_sending t Sending.Resting = Sending.Resting
taken_sending t (Sending.Flying flight topics) =
    if is_slot t flight.tickets
    then Sending.Flying (record flight { parts = with_slot t None flight.parts }) topics
    else Sending.Flying flight topics
taken_sending t (Sending.Marked gate tickets fault) = Sending.Marked gate tickets fault

-- the same of its sender
abbrev pub taken_sender : Topic → SenderView → SenderView
taken_sender t x = record x { sending = taken_sending t x.sending }

-- why no transaction of a sender is proposed
abbrev pub flight_refusal : Sending → Option Refusal
flight_refusal (Sending.Idle gate) = Some refusal.NoFlight
flight_refusal Sending.Resting = Some refusal.NoFlight
flight_refusal (Sending.Flying flight topics) = None
flight_refusal (Sending.Marked gate tickets fault) = Some refusal.Marked

-- there is a group of this topic
abbrev pub is_group : Topic → List GroupState → Bool
is_group t groups =
    nat_lt t.0 (length groups) && (get_or groups t.0 no_group).topic.topic.0 == t.0

-- why the sender's transaction isn't proposed at t
abbrev pub propose_refusal_in : Topic → ℕ → View → Option Refusal
propose_refusal_in t s v =
    let sending = (sender_in v s).sending in
    option_or (flight_refusal sending)
    (if is_group t v.groups then part_refusal t sending else Some refusal.NotNamed)

-- with the part at t taken out, where there is a group of t
abbrev pub taken_view : Topic → ℕ → View → View
taken_view t s v =
    if is_group t v.groups
    then record v { senders = set v.senders s (taken_sender t (sender_in v s)) }
    else v

-- the floor of a sender
abbrev pub floor_in : View → ℕ → Stamp
floor_in v s = (gate_of (sender_in v s).sending).floor

-- the ticket that the topic gives to this part
abbrev pub ticket_in : Topic → ℕ → TopicPart → View → Ticket
ticket_in t s part v = record {
  id = part.id;
  topic = (group_in v t).topic.topic;
  n = next_number (floor_in v s) (group_in v t).topic;
}

-- the transaction is on its way, and takes the ticket
abbrev pub takes_ticket : Ticket → Sending → Bool
takes_ticket ticket (Sending.Idle gate) = false
takes_ticket ticket Sending.Resting = false
takes_ticket ticket (Sending.Flying flight topics) = is_ok (flight_answer flight ticket)
takes_ticket ticket (Sending.Marked gate tickets fault) = false

-- the ticket is put, where the transaction takes it
abbrev pub put_sending : Ticket → Sending → Sending
put_sending ticket (Sending.Idle gate) = Sending.Idle gate
put_sending ticket Sending.Resting = Sending.Resting
put_sending ticket (Sending.Flying flight topics) =
    if is_ok (flight_answer flight ticket)
    then
    Sending.Flying
    (record flight { tickets = with_slot ticket.topic (Some ticket.n) flight.tickets }) topics
    else Sending.Flying flight topics
put_sending ticket (Sending.Marked gate tickets fault) = Sending.Marked gate tickets fault

-- the same of its sender
abbrev pub put_sender : Ticket → SenderView → SenderView
put_sender ticket x = record x { sending = put_sending ticket x.sending }

-- a topic refused the transaction
abbrev pub failed_sending : ProposeFault → Sending → Sending
failed_sending fault (Sending.Idle gate) = Sending.Idle gate
failed_sending fault Sending.Resting = Sending.Resting
failed_sending fault (Sending.Flying flight topics) =
    Sending.Marked (gate_after flight flight.floor) (tickets_put (ballot_of flight)) fault
failed_sending fault (Sending.Marked gate tickets why) = Sending.Marked gate tickets why

-- the same of its sender
abbrev pub failed_sender : ProposeFault → SenderView → SenderView
failed_sender fault x = record x { sending = failed_sending fault x.sending }

-- the part is pending at its topic, and the sender has its ticket
abbrev pub proposed_view : Topic → ℕ → TopicPart → View → View
proposed_view t s part v =
    let g = group_in v t in
    record v {
      groups = set v.groups t.0 (record g {
        topic = after_propose (floor_in v s) part g.topic;
      });
      senders = set v.senders s
          (put_sender (ticket_in t s part v) (taken_sender t (sender_in v s)));
    }

-- the topic refused the part
abbrev pub failed_view : Topic → ℕ → ProposeFault → View → View
failed_view t s fault v = record v {
  senders = set v.senders s (failed_sender fault (taken_sender t (sender_in v s)));
}

-- what came of a proposal of this part: the number of its ticket, or why there is none
abbrev pub IsProposed : Topic → ℕ → TopicPart → Result ℕ ProposeFault → View → View → Type 0
IsProposed t s part (Ok n) v new =
    (propose_fault (floor_in v s) part (group_in v t).topic ≡ None)
    × (n ≡ (ticket_in t s part v).n) × (new ≡ proposed_view t s part v)
IsProposed t s part (Err fault) v new =
    (fault ≡ propose_refusal (floor_in v s) part (group_in v t).topic)
    × (new ≡ failed_view t s fault v)

-- ---- it is withdrawn

-- why a sender's transaction isn't withdrawn
abbrev pub withdraw_refusal : Sending → Option Refusal
withdraw_refusal (Sending.Idle gate) = Some refusal.NoFlight
withdraw_refusal Sending.Resting = Some refusal.NoFlight
withdraw_refusal (Sending.Flying flight topics) = Some refusal.NotMarked
withdraw_refusal (Sending.Marked gate tickets fault) = None

-- why a topic refused it
abbrev pub failure_of : Sending → Option ProposeFault
failure_of (Sending.Idle gate) = None
failure_of Sending.Resting = None
failure_of (Sending.Flying flight topics) = None
failure_of (Sending.Marked gate tickets fault) = Some fault

-- its tickets are to be cancelled
abbrev pub withdrawn_sender : SenderView → SenderView
withdrawn_sender x = elim x.sending [
  | Sending.Idle gate ↦ x
  | Sending.Resting ↦ x
  | Sending.Flying flight topics ↦ x
  | Sending.Marked gate tickets fault ↦ record {
    sending = Sending.Idle gate;
    leftovers = x.leftovers ++ tickets;
  }
]

-- the same of what is held
abbrev pub withdrawn_view : ℕ → View → View
withdrawn_view s v = record v { senders = set v.senders s (withdrawn_sender (sender_in v s)) }

-- the frames of a connection of this stage are read
abbrev pub reads_frames : Stage → Bool
reads_frames (Stage.Open endpoint) = true
reads_frames (Stage.Leaving parting) = false
reads_frames Stage.Gone = false

-- an open connection is leaving, and nothing is to be written as it is gone
abbrev pub shut_stage : Stage → Stage
shut_stage (Stage.Open endpoint) = Stage.Leaving None
shut_stage (Stage.Leaving parting) = Stage.Leaving parting
shut_stage Stage.Gone = Stage.Gone

-- the octets out with the ERROR of an open connection, which has the receipt that its transaction asked for
abbrev pub with_error : List ℕ → List ℕ → Stage → List ℕ
with_error message output (Stage.Open endpoint) =
    output ++ spelling_of (error_frame message endpoint.receipt false)
with_error message output (Stage.Leaving parting) = output
with_error message output Stage.Gone = output

-- the endpoint of a connection whose transaction is withdrawn, with that ERROR, or without memory for it
abbrev pub refused_endpoint : Bool → List ℕ → EndpointView → EndpointView
refused_endpoint cut message endpoint = record endpoint {
  stage = shut_stage endpoint.stage;
  output = if cut then endpoint.output else with_error message endpoint.output endpoint.stage;
}

-- the same of what is held
abbrev pub refused_view : Bool → List ℕ → ℕ → View → View
refused_view cut message c v =
    record v {
      endpoints = set v.endpoints c (refused_endpoint cut message (get_or v.endpoints c no_endpoint));
    }

-- ---- a ticket is cancelled

-- what stands for a ticket that there isn't
abbrev pub no_ticket : Ticket
no_ticket = record { id = no_decision.id; topic = record { 0 = 0 }; n = 0 }

-- where the first ticket is that the sender has to cancel at t
abbrev pub leftover_at : Topic → SenderView → Option ℕ
leftover_at t x = position (λ k. k.topic.0 == t.0) x.leftovers

-- the ticket at this index
abbrev pub leftover_in : SenderView → ℕ → Ticket
leftover_in x i = get_or x.leftovers i no_ticket

-- why nothing of the sender is cancelled at t: there is no group of it, or no ticket
abbrev pub cancel_refusal_in : Topic → ℕ → View → Option Refusal
cancel_refusal_in t s v =
    if is_group t v.groups && is_some (leftover_at t (sender_in v s)) then None else Some refusal.NotNamed

-- with the part taken out of its topic, and the ticket at this index dropped
abbrev pub leftover_view : Topic → ℕ → View → Option ℕ → View
leftover_view t s v None = v
leftover_view t s v (Some i) =
    let x = sender_in v s in
    let g = group_in v t in
    record v {
      groups = set v.groups t.0 (record g {
        topic = after_cancel (leftover_in x i).id g.topic;
      });
      senders = set v.senders s (record x { leftovers = remove x.leftovers i });
    }

-- with the first one cancelled
abbrev pub cancelled_view : Topic → ℕ → View → View
cancelled_view t s v = leftover_view t s v (leftover_at t (sender_in v s))
