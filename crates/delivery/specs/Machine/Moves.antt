-- The core's moves so far as they touch topics and transactions: what each refuses, what it does, and what
-- it answers.
use Rattle.std.specs.Prelude.{ℕ, ◌-◌, ◌+◌, ◌==◌, nat_lt, Bool, not, ◌&&◌, ◌||◌, List, [], ◌∷◌, ◌++◌, map, length, find, slice_get, Option, Some, None, if◌then◌else◌}
use Rattle.std.specs.List.{list_any, list_all}
use Rattle.std.specs.Option.{is_some, option_map, option_or, unwrap_or}
use Rattle.mcast_txn.specs.declared.id.Topic.{Topic}
use Rattle.mcast_txn.specs.declared.id.TxnId.{TxnId}
use Rattle.mcast_txn.specs.declared.draft.sent_message.SentMessage.{SentMessage}
use Rattle.mcast_txn.specs.declared.stamp.Stamp.{Stamp}
use Rattle.mcast_txn.specs.Stamp.{zero_stamp, greatest}
use Rattle.mcast_txn.specs.Part.{part_at}
use Rattle.mcast_txn.specs.Transaction.{topics_of}
use Rattle.mcast_txn.specs.Agreed.{Transaction}
use Rattle.mcast_txn.specs.Ids.{same_id}
use Rattle.mcast_txn.specs.Lists.{insert_by_number}
use Rattle.mcast_txn.specs.TopicSet.{names}
use Rattle.mcast_txn.specs.Ballot.{Decision}
use Rattle.mcast_group.specs.declared.fault.ProposeFault.{ProposeFault}
use Rattle.mcast_group.specs.declared.fault.LearnFault.{LearnFault}
use Rattle.mcast_group.specs.declared.fault.CancelFault.{CancelFault}
use Rattle.mcast_txn.specs.Checks.{first_refusal}
use Rattle.mcast_txn.specs.Span.{Item}
use Rattle.mcast_group.specs.Machine.{Entry, Pending, new_topic, last_number, next_number, propose_fault, after_propose, learn_fault, after_learn, cancel_fault, after_cancel, due_part, after_release, after_turn, turn_count, after_subscribe, end_of, after_unsubscribe, decided_stamp}
use Rattle.delivery.specs.Machine.Objections.{Objection}
use Rattle.delivery.specs.Machine.World.{World, SenderState, Undecided, Leftover, Subscription, Standing, is_reading, is_gone, topic_at, new_sender, connection_at, speaker_number, speaker, is_in_use, subscription_at, entry_at, with_topic, with_sender, with_standing, with_speaker, with_subscription}
use Rattle.delivery.specs.Machine.Observed.{accepted_at, end_at}

-- what may be asked of the core; a run is a list of these
pub data Move : Type 0 where
  -- a topic is added, with this opening clock
  AddsTopic : (clock : ℕ) → Move
  -- a connection is opened; it speaks for no sender yet
  Opens : Move
  -- the connection speaks for this sender from now on, or for a new one
  Connects : (c : ℕ) (claimed : Option ℕ) → Move
  -- a frame that commits these SENDs
  Commits : (c : ℕ) (sends : List SentMessage) → Move
  -- SUBSCRIBE to t; UNSUBSCRIBE of s; DISCONNECT; a frame with a fault, which an ERROR answers
  Subscribes : (c : ℕ) (t : Topic) → Move
  Unsubscribes : (c s : ℕ) → Move
  Disconnects : (c : ℕ) → Move
  Errs : (c : ℕ) → Move
  -- the connection is lost; the next step of its leaving
  Lost : (c : ℕ) → Move
  Leaves : (c : ℕ) → Move
  -- the undecided transaction is proposed at t, with memory for its part or without
  Proposes : (c : ℕ) (t : Topic) (memory : Bool) → Move
  Decides : (c : ℕ) → Move
  Withdraws : (c : ℕ) → Move
  Cancels : (c : ℕ) (t : Topic) → Move
  Learns : (t : Topic) (id : TxnId) → Move
  Releases : (t : Topic) → Move
  Turns : (t : Topic) → Move
  Takes : (s : ℕ) → Move

-- what a move is answered, with all that a reader of the run needs
pub data Answer : Type 0 where
  Refused : (why : Objection) → Answer
  Done : Answer
  -- a connection was opened: its number
  Opened : (c : ℕ) → Answer
  -- a transaction was made: it is in flight
  Begun : (txn : Transaction) → Answer
  Subscribed : (s c : ℕ) (t : Topic) (from : Stamp) → Answer
  Unsubscribed : (s : ℕ) (to : Stamp) → Answer
  -- the connection is leaving: by itself, or by an ERROR; it is gone
  Leaving Error Gone : (c : ℕ) → Answer
  -- a topic gave a ticket; it refused, and the transaction is marked
  Ticket : (id : TxnId) (ticket : Stamp) → Answer
  Failed : (id : TxnId) (why : ProposeFault) → Answer
  -- the transaction was decided; it was withdrawn, and its connection is leaving by an ERROR
  Decided : (id : TxnId) (stamp : Stamp) → Answer
  Withdrawn : (id : TxnId) (c : ℕ) → Answer
  -- a ticket of it was cancelled at t; t learnt its stamp
  Cancelled Learnt : (id : TxnId) (t : Topic) → Answer
  -- the transaction's part was released at t; count parts were
  Released : (t : Topic) (id : TxnId) → Answer
  Turned : (t : Topic) (count : ℕ) → Answer
  Handed : (s : ℕ) (item : Item) → Answer

-- ---- refusals

-- there is no such connection, or it is gone
abbrev pub needs_connection : World → ℕ → List (Bool × Objection)
needs_connection w c =
    (not (nat_lt c (length w.connections)), Objection.NoConn)
    ∷ (is_gone (connection_at w c).standing, Objection.Gone) ∷ []

-- so too where it is leaving: it is fed nothing, and can't be lost
abbrev pub needs_open : World → ℕ → List (Bool × Objection)
needs_open w c =
    needs_connection w c
    ++ (not (is_reading (connection_at w c).standing), Objection.Busy) ∷ []

-- so too where it is leaving or has an undecided transaction: no frame is read
abbrev pub needs_idle : World → ℕ → List (Bool × Objection)
needs_idle w c =
    needs_connection w c
    ++ (not (is_reading (connection_at w c).standing) || is_some (speaker w c).flight, Objection.Busy) ∷ []

-- what stands against going on as this sender: there is none, or another connection speaks for it; nothing
-- against a new one
abbrev pub claim_refusals : World → Option ℕ → List (Bool × Objection)
claim_refusals w None = []
claim_refusals w (Some s) =
    (not (nat_lt s (length w.senders)), Objection.NoSender) ∷ (is_in_use w s, Objection.InUse) ∷ []

-- there is a topic of this number
abbrev pub is_topic : World → Topic → Bool
is_topic w t = nat_lt t.0 (length w.topics)

-- what stands for a flight that there isn't
abbrev pub no_undecided : Undecided
no_undecided = record {
  txn = record { id = record { sender = record { 0 = 0 }; seq = 0 }; sends = [] };
  given = [];
  mark = None;
}

-- the flight, if there is one
abbrev pub undecided_or_none : Option Undecided → Undecided
undecided_or_none None = no_undecided
undecided_or_none (Some f) = f

-- the undecided transaction of the connection's sender
abbrev pub undecided_at : World → ℕ → Undecided
undecided_at w c = undecided_or_none (speaker w c).flight

-- the topic gave one of these tickets
abbrev pub has_ticket : Topic → List Stamp → Bool
has_ticket t tickets = list_any (λ a. a.topic.0 == t.0) tickets

-- a ticket among others that rise by topic
abbrev pub insert_ticket : Stamp → List Stamp → List Stamp
insert_ticket = insert_by_number (λ a. a.topic.0)

-- each named topic gave a ticket
abbrev pub is_complete : Undecided → Bool
is_complete f = list_all (λ t. has_ticket t f.given) (topics_of f.txn.sends)

-- the first uncancelled ticket of t
abbrev pub find_leftover : Topic → List Leftover → Option Leftover
find_leftover t leftovers = find (λ k. k.ticket.topic.0 == t.0) leftovers

-- these without the first of t
abbrev pub drop_leftover : Topic → List Leftover → List Leftover
drop_leftover t [] = []
drop_leftover t (k ∷ ks) = if k.ticket.topic.0 == t.0 then ks else k ∷ drop_leftover t ks

-- the verdict of this transaction, if it was decided
abbrev pub find_verdict : TxnId → List Decision → Option Decision
find_verdict id verdicts = find (λ v. same_id v.id id) verdicts

-- s is a subscription of c that isn't closed
abbrev pub is_live : ℕ → Subscription → Bool
is_live c x = x.connection == c && not (is_some x.closed)

-- the number of the oldest subscription of c that isn't closed, where the first has number i
abbrev pub oldest_live : ℕ → ℕ → List Subscription → Option ℕ
oldest_live c i [] = None
oldest_live c i (x ∷ xs) = if is_live c x then Some i else oldest_live c (i + 1) xs

-- ---- the topics' own refusals

-- why a verdict isn't learnt
abbrev pub learn_objection_of : LearnFault → Objection
learn_objection_of LearnFault.NotPending = Objection.NotPending
learn_objection_of LearnFault.Foreign = Objection.Foreign
learn_objection_of LearnFault.Clash = Objection.Clash

-- why a part isn't taken out
abbrev pub cancel_objection_of : CancelFault → Objection
cancel_objection_of CancelFault.NotPending = Objection.NotPending
cancel_objection_of CancelFault.Decided = Objection.Decided

-- what stands against learning the verdict that was found at t
abbrev pub learn_objection : World → Topic → TxnId → Option Decision → Option Objection
learn_objection w t id None = Some Objection.NotDecided
learn_objection w t id (Some v) = option_map learn_objection_of (learn_fault id v (topic_at w t))

-- what stands against cancelling the ticket that was found for t
abbrev pub cancel_objection : World → Topic → Option Leftover → Option Objection
cancel_objection w t None = Some Objection.NotNamed
cancel_objection w t (Some k) = option_map cancel_objection_of (cancel_fault k.id (topic_at w t))

-- ---- what is done

-- the transaction that these SENDs make
abbrev pub next_txn : World → ℕ → List SentMessage → Transaction
next_txn w c sends = record {
  id = record { sender = record { 0 = speaker_number w c }; seq = (speaker w c).seq + 1 };
  sends = sends;
}

-- the transaction is in flight under the next seq; of no SENDs there is none
abbrev pub commit_effect : World → ℕ → List SentMessage → World
commit_effect w c [] = w
commit_effect w c (first ∷ others) =
    with_sender w (speaker_number w c) (record (speaker w c) {
      seq = (speaker w c).seq + 1;
      flight = Some (record { txn = next_txn w c (first ∷ others); given = []; mark = None });
    })

-- the senders, with a new one where none of them is gone on with
abbrev pub claimed_senders : List SenderState → Option ℕ → List SenderState
claimed_senders senders None = senders ++ new_sender ∷ []
claimed_senders senders (Some s) = senders

-- The connection speaks for this sender, which goes on with the seq and the floor that it has, or for a new
-- one. So where two have begun, a claim of 0 goes on with the first, and one of none begins 2.
abbrev pub connect_effect : World → ℕ → Option ℕ → World
connect_effect w c claimed =
    record (with_speaker w c (unwrap_or claimed (length w.senders))) {
      senders = claimed_senders w.senders claimed;
    }

-- a subscription of c to t, after those that there are; its topic gives it the items that it releases from
-- now on
abbrev pub subscribe_effect : World → ℕ → Topic → World
subscribe_effect w c t =
    let x = topic_at w t in
    record (with_topic w t (after_subscribe (length w.subscriptions) x)) {
      subscriptions = w.subscriptions
          ++ record { connection = c; topic = t; from = x.frontier; taken = 0; closed = None } ∷ [];
    }

-- the same for the entry that was found, if one was
abbrev pub close_effect_of : World → ℕ → Option Entry → World
close_effect_of w s None = w
close_effect_of w s (Some e) =
    let x = subscription_at w s in
    with_subscription (with_topic w x.topic (after_unsubscribe s (topic_at w x.topic))) s
    (record x { closed = Some (end_of (topic_at w x.topic).frontier e) })

-- the subscription is closed: what its entry leaves is kept, and the entry is dropped
abbrev pub close_effect : World → ℕ → World
close_effect w s = close_effect_of w s (entry_at w s)

-- the next step of leaving: this subscription is closed; where there is none, the connection is gone
abbrev pub leave_effect : World → ℕ → Option ℕ → World
leave_effect w c None = with_standing w c Standing.Gone
leave_effect w c (Some s) = close_effect w s

-- the core where this connection is leaving
abbrev pub with_leaving : World → ℕ → World
with_leaving w c = with_standing w c Standing.Leaving

-- the fault, or else want of memory
abbrev pub or_out_of_memory : Bool → Option ProposeFault → Option ProposeFault
or_out_of_memory memory None = if memory then None else Some ProposeFault.NoMemory
or_out_of_memory memory (Some fault) = Some fault

-- why the topic gives no ticket; want of memory, where nothing else stands against it
abbrev pub proposal_fault : World → ℕ → Topic → Bool → Option ProposeFault
proposal_fault w c t memory =
    let f = undecided_at w c in
    or_out_of_memory memory
    (propose_fault (speaker w c).floor (part_at f.txn.id f.txn.sends t) (topic_at w t))

-- the ticket that the topic gives next
abbrev pub next_ticket : World → ℕ → Topic → Stamp
next_ticket w c t = record { n = next_number (speaker w c).floor (topic_at w t); topic = t }

-- the core with this undecided transaction of the connection's sender
abbrev pub with_undecided : World → ℕ → Undecided → World
with_undecided w c f = with_sender w (speaker_number w c) (record (speaker w c) { flight = Some f })

-- the part is pending at t and its ticket is the flight's, or the flight is marked
abbrev pub propose_effect : World → ℕ → Topic → Option ProposeFault → World
propose_effect w c t None =
    let f = undecided_at w c in
    with_undecided
    (with_topic w t (after_propose (speaker w c).floor (part_at f.txn.id f.txn.sends t) (topic_at w t))) c
    (record f { given = insert_ticket (next_ticket w c t) f.given })
propose_effect w c t (Some fault) = with_undecided w c (record (undecided_at w c) { mark = Some fault })

-- the stamp is the greatest ticket and the sender's floor; the verdict and the row of the commit list are
-- kept
abbrev pub decide_effect : World → ℕ → World
decide_effect w c =
    let f = undecided_at w c in
    record
    (with_sender w (speaker_number w c) (record (speaker w c) {
      floor = greatest f.given;
      flight = None;
    })) {
      commits = w.commits ++ record { txn = f.txn; stamp = greatest f.given } ∷ [];
      verdicts = w.verdicts ++ record { id = f.txn.id; rows = f.given } ∷ [];
    }

-- a ticket of this transaction, to be cancelled
abbrev pub leftover : TxnId → Stamp → Leftover
leftover id ticket = record { id = id; ticket = ticket }

-- the flight ends and its tickets are left over; the connection is leaving
abbrev pub withdraw_effect : World → ℕ → World
withdraw_effect w c =
    let f = undecided_at w c in
    with_leaving (with_sender w (speaker_number w c) (record (speaker w c) {
      flight = None;
      leftovers = (speaker w c).leftovers ++ map (leftover f.txn.id) f.given;
    })) c

-- the part is taken out of t, and its ticket needs no cancelling any more
abbrev pub cancel_effect : World → ℕ → Topic → Option Leftover → World
cancel_effect w c t None = w
cancel_effect w c t (Some k) =
    with_sender (with_topic w t (after_cancel k.id (topic_at w t))) (speaker_number w c)
    (record (speaker w c) { leftovers = drop_leftover t (speaker w c).leftovers })

-- t learns the verdict that was found
abbrev pub learn_effect : World → Topic → TxnId → Option Decision → World
learn_effect w t id None = w
learn_effect w t id (Some v) = with_topic w t (after_learn id (decided_stamp v) (topic_at w t))

-- the queue takes one more item: fewer than its capacity weren't handed on
abbrev pub queue_has_room : World → Entry → Bool
queue_has_room w e = nat_lt (length e.accepted - (subscription_at w e.number).taken) w.capacity

-- the verdict of this transaction in the core's table
abbrev pub verdict_in : World → TxnId → Option Decision
verdict_in w id = find_verdict id w.verdicts

-- the next item is handed on; where there is none, the subscription has lagged, and its connection is leaving
abbrev pub take_effect : World → ℕ → Option Item → World
take_effect w s None = with_leaving w (subscription_at w s).connection
take_effect w s (Some item) =
    with_subscription w s (record (subscription_at w s) { taken = (subscription_at w s).taken + 1 })

-- ---- what is answered

-- the transaction that these SENDs make; of none there is none
abbrev pub commit_answer : World → ℕ → List SentMessage → Answer
commit_answer w c [] = Done
commit_answer w c (first ∷ others) = Begun (next_txn w c (first ∷ others))

-- where the subscription's span would end now
abbrev pub end_now : World → ℕ → Stamp
end_now w s = elim (entry_at w s) [
  | None ↦ zero_stamp
  | Some e ↦ (end_of (topic_at w (subscription_at w s).topic).frontier e).to
]

-- the subscription that is closed, and where; where there is none, the connection is gone
abbrev pub leave_answer : World → ℕ → Option ℕ → Answer
leave_answer w c None = Gone c
leave_answer w c (Some s) = Unsubscribed s (end_now w s)

-- the ticket, or why there is none
abbrev pub propose_answer : World → ℕ → Topic → Option ProposeFault → Answer
propose_answer w c t None = Ticket (undecided_at w c).txn.id (next_ticket w c t)
propose_answer w c t (Some fault) = Failed (undecided_at w c).txn.id fault

-- whose part was taken out
abbrev pub cancel_answer : Topic → Option Leftover → Answer
cancel_answer t None = Done
cancel_answer t (Some k) = Cancelled k.id t

-- which part is released; where none is due, the event is refused before
abbrev pub release_answer : Topic → Option Pending → Answer
release_answer t None = Done
release_answer t (Some p) = Released t p.part.id

-- the item that is handed on; where there is none, an ERROR tells that the subscription has lagged
abbrev pub take_answer : World → ℕ → Option Item → Answer
take_answer w s None = Error (subscription_at w s).connection
take_answer w s (Some item) = Handed s item

-- ---- the moves

-- A move in a world: its refusals, in their order, each with the condition under which it holds; what its
-- topic refuses of it then; and what it does and answers, where nothing stands against it.
pub record MoveRow : Type 0 where
  pub refusals : List (Bool × Objection)
  pub at_topic : Option Objection
  pub effect : World
  pub answer : Answer

abbrev pub move_row : World → Move → MoveRow
move_row w (AddsTopic clock) = record {
  refusals = [];
  at_topic = None;
  effect = record w {
    topics = w.topics
        ++ new_topic (record { 0 = length w.topics }) w.log_limit clock ∷ [];
  };
  answer = Done;
}
move_row w Opens = record {
  refusals = [];
  at_topic = None;
  effect = record w {
    connections = w.connections ++ record { sender = None; standing = Standing.Open } ∷ [];
  };
  answer = Opened (length w.connections);
}
move_row w (Connects c claimed) = record {
  refusals = needs_idle w c
      ++ (is_some (connection_at w c).sender, Objection.HasSender) ∷ claim_refusals w claimed;
  at_topic = None;
  effect = connect_effect w c claimed;
  answer = Done;
}
move_row w (Commits c sends) = record {
  refusals = needs_idle w c
      ++ (not (is_some (connection_at w c).sender), Objection.NoSender)
      ∷ (not (list_all (λ send. is_topic w send.topic) sends), Objection.NotNamed)
      ∷ (nat_lt 0 (length sends) && not (nat_lt (speaker w c).seq last_number), Objection.SeqFull) ∷ [];
  at_topic = None;
  effect = commit_effect w c sends;
  answer = commit_answer w c sends;
}
move_row w (Subscribes c t) = record {
  refusals = needs_idle w c ++ (not (is_topic w t), Objection.NotNamed) ∷ [];
  at_topic = None;
  effect = subscribe_effect w c t;
  answer = Subscribed (length w.subscriptions) c t (topic_at w t).frontier;
}
move_row w (Unsubscribes c s) = record {
  refusals = needs_idle w c
      ++ (not (nat_lt s (length w.subscriptions) && is_live c (subscription_at w s)), Objection.NoSub) ∷ [];
  at_topic = None;
  effect = close_effect w s;
  answer = Unsubscribed s (end_now w s);
}
move_row w (Disconnects c) = record {
  refusals = needs_idle w c;
  at_topic = None;
  effect = with_leaving w c;
  answer = Leaving c;
}
move_row w (Errs c) = record {
  refusals = needs_idle w c;
  at_topic = None;
  effect = with_leaving w c;
  answer = Error c;
}
move_row w (Lost c) = record {
  refusals = needs_open w c;
  at_topic = None;
  effect = with_leaving w c;
  answer = Leaving c;
}
move_row w (Leaves c) = record {
  refusals = needs_connection w c
      ++ (is_reading (connection_at w c).standing, Objection.NotLeaving)
      ∷ (
        not (is_some (oldest_live c 0 w.subscriptions))
            && (is_some (speaker w c).flight || nat_lt 0 (length (speaker w c).leftovers)),
        Objection.Busy,
      ) ∷ [];
  at_topic = None;
  effect = leave_effect w c (oldest_live c 0 w.subscriptions);
  answer = leave_answer w c (oldest_live c 0 w.subscriptions);
}
move_row w (Proposes c t memory) = record {
  refusals = needs_connection w c
      ++ (not (is_some (speaker w c).flight), Objection.NoFlight)
      ∷ (is_some (undecided_at w c).mark, Objection.Marked)
      ∷ (not (is_topic w t && names t (topics_of (undecided_at w c).txn.sends)), Objection.NotNamed)
      ∷ (has_ticket t (undecided_at w c).given, Objection.Twice) ∷ [];
  at_topic = None;
  effect = propose_effect w c t (proposal_fault w c t memory);
  answer = propose_answer w c t (proposal_fault w c t memory);
}
move_row w (Decides c) = record {
  refusals = needs_connection w c
      ++ (not (is_some (speaker w c).flight), Objection.NoFlight)
      ∷ (is_some (undecided_at w c).mark, Objection.Marked)
      ∷ (not (is_complete (undecided_at w c)), Objection.Incomplete) ∷ [];
  at_topic = None;
  effect = decide_effect w c;
  answer = Decided (undecided_at w c).txn.id (greatest (undecided_at w c).given);
}
move_row w (Withdraws c) = record {
  refusals = needs_connection w c
      ++ (not (is_some (speaker w c).flight), Objection.NoFlight)
      ∷ (not (is_some (undecided_at w c).mark), Objection.NotMarked) ∷ [];
  at_topic = None;
  effect = withdraw_effect w c;
  answer = Withdrawn (undecided_at w c).txn.id c;
}
move_row w (Cancels c t) = record {
  refusals = needs_connection w c ++ (not (is_topic w t), Objection.NotNamed) ∷ [];
  at_topic = cancel_objection w t (find_leftover t (speaker w c).leftovers);
  effect = cancel_effect w c t (find_leftover t (speaker w c).leftovers);
  answer = cancel_answer t (find_leftover t (speaker w c).leftovers);
}
move_row w (Learns t id) = record {
  refusals = (not (is_topic w t), Objection.NotNamed) ∷ [];
  at_topic = learn_objection w t id (find_verdict id w.verdicts);
  effect = learn_effect w t id (find_verdict id w.verdicts);
  answer = Learnt id t;
}
move_row w (Releases t) = record {
  refusals = (not (is_topic w t), Objection.NotNamed)
      ∷ (not (is_some (due_part (topic_at w t))), Objection.NothingDue)
      ∷ [];
  at_topic = None;
  effect = with_topic w t (after_release (queue_has_room w) (topic_at w t));
  answer = release_answer t (due_part (topic_at w t));
}
move_row w (Turns t) = record {
  refusals = (not (is_topic w t), Objection.NotNamed) ∷ [];
  at_topic = None;
  effect = with_topic w t (after_turn (queue_has_room w) (verdict_in w) (topic_at w t));
  answer = Turned t (turn_count (queue_has_room w) (verdict_in w) (topic_at w t));
}
move_row w (Takes s) = record {
  refusals = (not (nat_lt s (length w.subscriptions)), Objection.NoSub)
      ∷ (
        is_some (subscription_at w s).closed
            || not (is_reading (connection_at w (subscription_at w s).connection).standing),
        Objection.Gone,
      )
      ∷ (
        not (nat_lt (subscription_at w s).taken (length (accepted_at w s)))
            && not (is_some (end_at w s)),
        Objection.NothingDue,
      ) ∷ [];
  at_topic = None;
  effect = take_effect w s (slice_get (accepted_at w s) (subscription_at w s).taken);
  answer = take_answer w s (slice_get (accepted_at w s) (subscription_at w s).taken);
}

-- all that the move is refused for, in order, but for what its topic refuses
abbrev pub move_refusals : World → Move → List (Bool × Objection)
move_refusals w e = (move_row w e).refusals

-- what the topic refuses of it then
abbrev pub topic_objection : World → Move → Option Objection
topic_objection w e = (move_row w e).at_topic

-- what the move does where it isn't refused
abbrev pub move_effect : World → Move → World
move_effect w e = (move_row w e).effect

-- what the move answers where it isn't refused
abbrev pub move_answer : World → Move → Answer
move_answer w e = (move_row w e).answer

-- why the event has no effect
abbrev pub move_refusal : World → Move → Option Objection
move_refusal w e = option_or (first_refusal (move_refusals w e)) (topic_objection w e)

-- ---- a step

-- the core after an event
abbrev pub world_after : World → Move → World
world_after w e = elim (move_refusal w e) [ None ↦ move_effect w e | Some why ↦ w ]

-- what comes of an event
abbrev pub answer_to : World → Move → Answer
answer_to w e = elim (move_refusal w e) [ None ↦ move_answer w e | Some why ↦ Refused why ]
