-- Only serves proofs: what the code of the core holds, as a function of a core (its names, its machine and
-- its steps). It isn't the core itself: rows of the commit list have no SENDs, an undecided transaction
-- has lost the parts that were taken out, verdicts are found by sender and seq, and each connection has
-- its endpoint.
use Rattle.std.specs.Prelude.{ℕ, Bool, true, false, not, ◌&&◌, List, [], ◌∷◌, ◌++◌, codes, map, length, nat_lt, get_or, Option, Some, None, if◌then◌else◌}
use Rattle.std.specs.List.{find, range_with_len}
use Rattle.std.specs.Option.{option_map, option_map_or, option_and_then, unwrap_or}
use Rattle.stomp_frame.specs.declared.raw_frame.RawFrame.{RawFrame}
use Rattle.stomp_frame.specs.Reader.{Unread, unread_of, with_piece}
use Rattle.stomp_frame.specs.Receipts.{receipt_of}
use Rattle.mcast_txn.specs.declared.id.Topic.{Topic}
use Rattle.mcast_txn.specs.declared.ballot.ticket.Ticket.{Ticket}
use Rattle.mcast_txn.specs.declared.id.TxnId.{TxnId}
use Rattle.mcast_txn.specs.declared.stamp.Stamp.{Stamp}
use Rattle.mcast_txn.specs.Ballot.{Decision, row_at}
use Rattle.mcast_txn.specs.Part.{part_at}
use Rattle.mcast_txn.specs.Span.{LogRow, Item}
use Rattle.mcast_txn.specs.Transaction.{topics_of}
use Rattle.sub_queue.specs.Shown.{Gauge}
use Rattle.sub_queue.specs.VecQueue.{VecQueue}
use Rattle.sender_gate.specs.Gate.{GateState, FlightState}
use Rattle.mcast_group.specs.declared.cause.Cause.{Cause}
use Rattle.mcast_group.specs.declared.ended.Ended.{Ended}
use Rattle.mcast_group.specs.declared.fault.ProposeFault.{ProposeFault}
use Rattle.mcast_group.specs.Group.{GroupState}
use Rattle.mcast_group.specs.Machine.{TopicState, EntryEnd, new_topic}
use Rattle.stomp_session.specs.Open.{held_after, state_of}
use Rattle.stomp_session.specs.Frames.{has_destination, field, id_of, is_disconnect, wants_parts}
use Rattle.stomp_session.specs.Names.{is_known}
use Rattle.delivery.specs.declared.sending.Sending.{Sending}
use Rattle.delivery.specs.declared.stage.Stage.{Stage}
use Rattle.delivery.specs.Theorem.Due.{log_row}
use Rattle.delivery.specs.Machine.World.{World, Undecided, SenderState, Standing, connection_at, sender_at, speaker, is_in_use, subscription_at}
use Rattle.delivery.specs.Machine.Moves.{has_ticket, find_verdict}
use Rattle.delivery.specs.Core.Connections.{live_numbers}
use Rattle.delivery.specs.Core.Steps.{CoreStep, accepted_of, names_after, reader_limits}
use Rattle.delivery.specs.Core.Output.{receipt_asked, commit_frame, subscribe_frame, text_out}
use Rattle.delivery.specs.Core.Reports.{each_number}
use Rattle.delivery.specs.Core.State.{Core, log_limit, unread_at}

-- ---- topics

-- the gauge of the queue of subscription s
abbrev pub queue_gauge : World → ℕ → Gauge
queue_gauge w s = record { capacity = w.capacity; taken = Some (subscription_at w s).taken }

-- a topic's group
abbrev pub group_view : World → TopicState → GroupState
group_view w x = record { topic = x; gauges = map (λ e. queue_gauge w e.number) x.subscriptions }

-- the group of a topic without subscriptions
abbrev pub new_group : TopicState → GroupState
new_group x = record { topic = x; gauges = [] }

-- what stands for a group that there is none of
abbrev pub no_group : GroupState
no_group = new_group (new_topic (record { 0 = 0 }) 0 0)

-- ---- senders

-- an undecided transaction, of a sender with this floor: a part was taken out where its topic gave a ticket
abbrev pub flight_view : Stamp → Undecided → FlightState
flight_view floor f = record {
  id = f.txn.id;
  floor = floor;
  tickets = map (λ t. (t, row_at t f.given)) (topics_of f.txn.sends);
  parts = map
      (λ t. (t, if has_ticket t f.given then None else Some (part_at f.txn.id f.txn.sends t)))
      (topics_of f.txn.sends);
}

-- the gate of a sender whose last transaction is this
abbrev pub gate_view : Stamp → TxnId → GateState
gate_view floor id = record { sender = id.sender; seq = id.seq; floor = floor }

-- a stamp of a transaction as its ticket
abbrev pub ticket_of : TxnId → Stamp → Ticket
ticket_of id a = record { id = id; topic = a.topic; n = a.n }

-- what an undecided transaction is to its sender: on its way, or marked
abbrev pub undecided_view : Stamp → Undecided → Option ProposeFault → Sending
undecided_view floor f None = Sending.Flying (flight_view floor f) (topics_of f.txn.sends)
undecided_view floor f (Some fault) =
    Sending.Marked (gate_view floor f.txn.id) (map (ticket_of f.txn.id) f.given) fault

-- what sender s, of this seq and floor, does with its transaction, if one is undecided
abbrev pub sending_view : ℕ → ℕ → Stamp → Option Undecided → Sending
sending_view s seq floor None =
    Sending.Idle (record { sender = record { 0 = s }; seq = seq; floor = floor })
sending_view s seq floor (Some f) = undecided_view floor f f.mark

-- a sender: its transaction, and the tickets that it has to cancel
pub record SenderView : Type 0 where
  pub sending : Sending
  pub leftovers : List Ticket

-- sender s in this state, with its gate
abbrev pub sender_view : ℕ → SenderState → SenderView
sender_view s x = record {
  sending = sending_view s x.seq x.floor x.flight;
  leftovers = map (λ k. ticket_of k.id k.ticket) x.leftovers;
}

-- what a sender does without its gate, if it had one between two transactions
abbrev pub rested_sending : Sending → Sending
rested_sending (Sending.Idle gate) = Sending.Resting
rested_sending Sending.Resting = Sending.Resting
rested_sending (Sending.Flying flight topics) = Sending.Flying flight topics
rested_sending (Sending.Marked gate tickets fault) = Sending.Marked gate tickets fault

-- the same of the sender
abbrev pub rested_sender : SenderView → SenderView
rested_sender x = record x { sending = rested_sending x.sending }

-- sender s of this machine: its gate is with it while a connection speaks for it
abbrev pub held_sender : World → ℕ → SenderView
held_sender w s =
    if is_in_use w s then sender_view s (sender_at w s) else rested_sender (sender_view s (sender_at w s))

-- of these verdicts those of sender s, by the seqs of as many transactions
abbrev pub verdict_list : List Decision → ℕ → ℕ → List (Option Decision)
verdict_list verdicts s seq =
    map (λ q. find_verdict (record { sender = record { 0 = s }; seq = q }) verdicts) (range_with_len 1 seq)

-- ---- connections

-- the receipt that an undecided transaction asked for: that of the last accepted frame
abbrev pub pending_receipt : List RawFrame → Option Undecided → Option (List ℕ)
pending_receipt accepted None = None
pending_receipt accepted (Some f) = receipt_asked (commit_frame accepted)

-- the receipt that a DISCONNECT among the accepted frames asked for
abbrev pub parting_receipt : List RawFrame → Option (List ℕ)
parting_receipt accepted = option_and_then receipt_of (find (λ f. is_disconnect f.command) accepted)

-- how far a connection is that accepted these frames and whose reader stands for this
abbrev pub stage_view : List (List ℕ) → Standing → Option Undecided → List RawFrame → Unread → Stage
stage_view names Standing.Open flight accepted unread = Stage.Open (record {
  reader = unread;
  session = state_of (held_after names accepted);
  receipt = pending_receipt accepted flight;
})
stage_view names Standing.Leaving flight accepted unread = Stage.Leaving (parting_receipt accepted)
stage_view names Standing.Gone flight accepted unread = Stage.Gone

-- a connection's endpoint: its sender, once it has one, how far it is, its subscriptions and its octets out
pub record EndpointView : Type 0 where
  pub sender : Option ℕ
  pub stage : Stage
  pub live : List ℕ
  pub output : List ℕ

-- the endpoint of connection c, which accepted these frames, whose reader stands for this, and whose text out
-- is this
abbrev pub endpoint_view : List (List ℕ) → World → ℕ → List RawFrame → Unread → List ℕ → EndpointView
endpoint_view names w c accepted unread text = record {
  sender = (connection_at w c).sender;
  stage = stage_view names (connection_at w c).standing (speaker w c).flight accepted unread;
  live = live_numbers c 0 w.subscriptions;
  output = text;
}

-- what stands for an endpoint that there never was
abbrev pub no_endpoint : EndpointView
no_endpoint = record { sender = None; stage = Stage.Gone; live = []; output = [] }

-- an endpoint that is leaving; with it is the receipt that its DISCONNECT asked for
abbrev pub leaving_endpoint : Option (List ℕ) → EndpointView → EndpointView
leaving_endpoint parting endpoint = record endpoint { stage = Stage.Leaving parting }

-- ---- subscriptions

-- what a closed subscription has left: where its span ends and why, and its queue
pub record LeftView : Type 0 where
  pub to : Stamp
  pub cause : Cause
  pub accepted : List Item
  pub taken : ℕ

-- what the code keeps of it
abbrev pub left_of : Ended VecQueue → LeftView
left_of left = record {
  to = left.to;
  cause = left.cause;
  accepted = left.outlet.accepted;
  taken = left.outlet.taken;
}

-- what the machine keeps of it
abbrev pub left_view : ℕ → EntryEnd → LeftView
left_view taken end =
    record { to = end.to; cause = end.cause; accepted = end.accepted; taken = taken }

-- a subscription: whose it is, its id, whether it asked for parts, its topic, where its span begins, and what
-- it left if it was closed
pub record SubView : Type 0 where
  pub connection : ℕ
  pub id : List ℕ
  pub parts : Bool
  pub topic : Topic
  pub from : Stamp
  pub left : Option LeftView

-- subscription s, which this SUBSCRIBE began
abbrev pub sub_view : World → ℕ → Option RawFrame → SubView
sub_view w s began =
    let x = subscription_at w s in
    record {
      connection = x.connection;
      id = option_map_or id_of began [];
      parts = option_map_or wants_parts began false;
      topic = x.topic;
      from = x.from;
      left = option_map (left_view x.taken) x.closed;
    }

-- ---- all together

-- what the code of the core holds
pub record View : Type 0 where
  pub names : List (List ℕ)
  pub capacity : ℕ
  pub groups : List GroupState
  pub senders : List SenderView
  pub verdicts : List (List (Option Decision))
  pub endpoints : List EndpointView
  pub subs : List SubView
  pub commits : List LogRow

-- what it holds of this machine, where each connection accepted these frames, its reader stands for this and
-- its text out is this, and each subscription was begun by this SUBSCRIBE
abbrev pub view_with : List (List ℕ) → World → (ℕ → List RawFrame) → (ℕ → Unread) → (ℕ → List ℕ)
    → (ℕ → Option RawFrame) → View
view_with names w accepted unread text began = record {
  names = names;
  capacity = w.capacity;
  groups = map (group_view w) w.topics;
  senders = each_number (held_sender w) 0 w.senders;
  verdicts = each_number (λ s. verdict_list w.verdicts s (sender_at w s).seq) 0 w.senders;
  endpoints = each_number (λ c. endpoint_view names w c (accepted c) (unread c) (text c)) 0 w.connections;
  subs = each_number (λ s. sub_view w s (began s)) 0 w.subscriptions;
  commits = map log_row w.commits;
}

-- what it holds after these steps, where it began with topics of these names
abbrev pub view_after : List (List ℕ) → World → List CoreStep → View
view_after opening w steps =
    view_with (names_after opening steps) w (λ c. accepted_of c steps) (λ c. unread_at c steps)
    (λ c. text_out opening c steps) (λ s. subscribe_frame s steps)

-- what it holds of this core
abbrev pub view_of : Core → View
view_of k = view_after k.names k.world k.steps

-- ---- a new topic

-- the group of a topic that is made where there are so many
abbrev pub made_group : ℕ → GroupState
made_group count = new_group (new_topic (record { 0 = count }) log_limit 0)

-- with a group of the last name, where it has none yet
abbrev pub grouped_view : View → View
grouped_view v =
    if nat_lt (length v.groups) (length v.names)
    then record v { groups = v.groups ++ made_group (length v.groups) ∷ [] }
    else v

-- Once the destination of a frame has its topic, whose name stands behind the others: with a group for it,
-- where there was none.
abbrev pub named_view : RawFrame → View → View
named_view f v =
    if has_destination f.command && not (is_known (field (codes "destination") f) v.names)
    then
    record v {
      names = v.names ++ field (codes "destination") f ∷ [];
      groups = v.groups ++ made_group (length v.groups) ∷ [];
    }
    else v

-- ---- a new connection, and octets that one is fed

-- the endpoint of a connection that has just been opened: it speaks for no sender yet
abbrev pub new_endpoint : EndpointView
new_endpoint = record {
  sender = None;
  stage = Stage.Open (record {
    reader = unread_of reader_limits;
    session = state_of (held_after [] []);
    receipt = None;
  });
  live = [];
  output = [];
}

-- with one more connection
abbrev pub with_new_endpoint : View → View
with_new_endpoint v = record v { endpoints = v.endpoints ++ new_endpoint ∷ [] }

-- an open connection is fed these octets
abbrev pub fed_stage : List ℕ → Stage → Stage
fed_stage octets (Stage.Open endpoint) =
    Stage.Open (record endpoint { reader = with_piece endpoint.reader octets })
fed_stage octets (Stage.Leaving parting) = Stage.Leaving parting
fed_stage octets Stage.Gone = Stage.Gone

-- the same of its endpoint
abbrev pub fed_endpoint : List ℕ → EndpointView → EndpointView
fed_endpoint octets endpoint = record endpoint { stage = fed_stage octets endpoint.stage }

-- this text is written to an endpoint
abbrev pub written_endpoint : List ℕ → EndpointView → EndpointView
written_endpoint text endpoint = record endpoint { output = endpoint.output ++ text }

-- ---- reading

-- the number of an endpoint's sender among these; while it has none, that of the next one
abbrev pub number_among : List SenderView → EndpointView → ℕ
number_among senders endpoint = unwrap_or endpoint.sender (length senders)

-- the group of a topic
abbrev pub group_in : View → Topic → GroupState
group_in v t = get_or v.groups t.0 no_group

-- a transaction is undecided
abbrev pub is_undecided : Sending → Bool
is_undecided (Sending.Idle gate) = false
is_undecided Sending.Resting = false
is_undecided (Sending.Flying flight topics) = true
is_undecided (Sending.Marked gate tickets fault) = true

-- a transaction may begin: the gate is there
abbrev pub is_idle : Sending → Bool
is_idle (Sending.Idle gate) = true
is_idle Sending.Resting = false
is_idle (Sending.Flying flight topics) = false
is_idle (Sending.Marked gate tickets fault) = false
