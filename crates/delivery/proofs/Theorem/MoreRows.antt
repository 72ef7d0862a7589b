-- More worked rows: what comes of a decision after another's, of an ERROR and of single releases; what two queues share;
-- a settled topic; a topic that is added; what a commit is refused for; a span, a flight and a turn beside their laws.
use Rattle.delivery.proofs.Words.All.{refl, inl, inr, ◌≡◌, ℕ, true, List, [], ◌∷◌, length, map, reverse, None, Some, SentMessage, Stamp, part_at, In, SubFault, LogRow, TopicState, Pending, Entry, subscribe_fault, Objection, World, topic_at, connection_at, subscription_at, log_at, accepted_at, end_at, span_at, frontier_at, Move, world_after, answer_to, run, answers_from, commits_of, delivered_items, IsSettled, IsSilent, AllResolved, Run, answers_of, final_world, shared_marks, AddsTopic, Opens, Connects, Commits, Subscribes, Disconnects, Errs, Lost, Leaves, Proposes, Decides, Learns, Releases, Turns, Takes, Refused, Done, Opened, Begun, Handed, Subscribed, Unsubscribed, Leaving, Error, Gone, Decided, Withdrawn, Learnt, Released, Turned}
use Rattle.delivery.specs.Machine.Moves.Answer.{Ticket}
use Rattle.mcast_group.specs.Machine.{unsubscribe_fault}
use Rattle.delivery.specs.Theorem.Examples.{topic, stamp, id, send, part, transaction, item, run_of, answers_in_order, log_stamps, to_a_and_b, withdrawal, one_send}
use Rattle.delivery.proofs.Theorem.Rows.{ends, four_tickets}

-- a connection that leaves closes its subscriptions by age
abbrev leaves_two : Run
leaves_two = run_of (0 ∷ 0 ∷ []) (
    Opens ∷ Connects 0 None ∷ Subscribes 0 (topic 1) ∷ Subscribes 0 (topic 0) ∷ Disconnects 0 ∷ Leaves 0 ∷ Leaves 0 ∷ Leaves 0 ∷ [])

leaves_two_answers : answers_in_order leaves_two
    ≡ Opened 0 ∷ Done ∷ Subscribed 0 0 (topic 1) (stamp 0 0) ∷ Subscribed 1 0 (topic 0) (stamp 0 0)
    ∷ Leaving 0 ∷ Unsubscribed 0 (stamp 0 0) ∷ Unsubscribed 1 (stamp 0 0) ∷ Gone 0 ∷ []
leaves_two_answers = refl

-- two senders' four tickets: the one decided is released once the other is
abbrev then_decided : Run
then_decided = four_tickets (Decides 1 ∷ Turns (topic 0) ∷ Decides 0 ∷ Turns (topic 0) ∷ [])

then_rows : (answers_in_order then_decided
    ≡ Opened 0 ∷ Done ∷ Opened 1 ∷ Done ∷ Begun (transaction (id 0 1) to_a_and_b) ∷ Begun (transaction (id 1 1) to_a_and_b)
    ∷ Ticket (id 0 1) (stamp 1 0) ∷ Ticket (id 1 1) (stamp 1 1) ∷ Ticket (id 1 1) (stamp 2 0) ∷ Ticket (id 0 1) (stamp 2 1)
    ∷ Decided (id 1 1) (stamp 2 0) ∷ Turned (topic 0) 0 ∷ Decided (id 0 1) (stamp 2 1) ∷ Turned (topic 0) 2 ∷ [])
    × (log_stamps then_decided 0 ≡ stamp 2 0 ∷ stamp 2 1 ∷ [])
then_rows = (refl, refl)

-- two queues that share two transactions
abbrev both_queues : Run
both_queues = run_of (0 ∷ 0 ∷ []) (
    Opens ∷ Connects 0 None ∷ Opens ∷ Connects 1 None ∷ Subscribes 0 (topic 0) ∷ Subscribes 1 (topic 1) ∷ Commits 0 to_a_and_b ∷ Commits 1 to_a_and_b
    ∷ Proposes 0 (topic 0) true ∷ Proposes 1 (topic 1) true ∷ Proposes 1 (topic 0) true ∷ Proposes 0 (topic 1) true
    ∷ Decides 0 ∷ Decides 1 ∷ Turns (topic 0) ∷ Turns (topic 1) ∷ [])

both_shared : map (λ p. p.id) (shared_marks (accepted_at (final_world both_queues) 1) (accepted_at (final_world both_queues) 0)) ≡ id 1 1 ∷ id 0 1 ∷ []
both_shared = refl

-- a settled topic: its one transaction was decided, and a turn came after
abbrev settles : Run
settles = run_of (0 ∷ []) (Opens ∷ Connects 0 None ∷ one_send 1 [])

settles_all : AllResolved (topic 0) (Decided (id 0 1) (stamp 1 0) ∷ Ticket (id 0 1) (stamp 1 0) ∷ Begun (transaction (id 0 1) (send 0 1 ∷ [])) ∷ Done ∷ Opened 0 ∷ [])
settles_all txn (inl e) n = cc
settles_all txn (inr (inl e)) n = cc
settles_all txn (inr (inr (inl e))) n = inl (stamp 1 0, inl cc)
settles_all txn (inr (inr (inr (inl e)))) n = cc
settles_all txn (inr (inr (inr (inr (inl e))))) n = cc
settles_all txn (inr (inr (inr (inr (inr x6))))) n = elim x6 [ ]

settles_settled : IsSettled (topic 0) (answers_of settles)
settles_settled = inl (refl, settles_all)

-- ---- a topic is added in the midst of a run, and a transaction names it: before that it is refused, and nothing stays of it
abbrev added : Run
added = run_of (0 ∷ []) (
    Opens ∷ Connects 0 None ∷ Commits 0 (send 0 1 ∷ send 1 2 ∷ []) ∷ Subscribes 0 (topic 1) ∷ AddsTopic 4 ∷ Subscribes 0 (topic 1)
    ∷ Commits 0 (send 0 1 ∷ send 1 2 ∷ []) ∷ Proposes 0 (topic 0) true ∷ Proposes 0 (topic 1) true ∷ Decides 0
    ∷ Turns (topic 1) ∷ Takes 0 ∷ Turns (topic 0) ∷ [])

added_rows : (answers_in_order added
    ≡ Opened 0 ∷ Done ∷ Refused Objection.NotNamed ∷ Refused Objection.NotNamed ∷ Done ∷ Subscribed 0 0 (topic 1) (stamp 0 0)
    ∷ Begun (transaction (id 0 1) (send 0 1 ∷ send 1 2 ∷ [])) ∷ Ticket (id 0 1) (stamp 1 0) ∷ Ticket (id 0 1) (stamp 5 1) ∷ Decided (id 0 1) (stamp 5 1)
    ∷ Turned (topic 1) 1 ∷ Handed 0 (item (id 0 1) (stamp 5 1) (part 1 2 ∷ [])) ∷ Turned (topic 0) 1 ∷ [])
    × (log_stamps added 0 ∷ log_stamps added 1 ∷ [] ≡ (stamp 5 1 ∷ []) ∷ (stamp 5 1 ∷ []) ∷ [])
added_rows = (refl, refl)

-- ---- what a commit is refused for: a topic that isn't there, and then a sender without numbers; of no SENDs neither

-- a connection whose sender has made so many transactions, and one topic
abbrev pub has_made : ℕ → World
has_made seq = record (final_world (run_of (0 ∷ []) (Opens ∷ Connects 0 None ∷ []))) {
  senders = record { seq = seq; floor = stamp 0 0; flight = None; leftovers = [] } ∷ [];
}

made_rows : (answer_to (has_made 18446744073709551614) (Commits 0 (send 0 1 ∷ [])) ≡ Begun (transaction (id 0 18446744073709551615) (send 0 1 ∷ [])))
    × (answer_to (has_made 18446744073709551615) (Commits 0 (send 0 1 ∷ [])) ≡ Refused Objection.SeqFull)
    × (answer_to (has_made 18446744073709551615) (Commits 0 (send 0 1 ∷ send 1 2 ∷ [])) ≡ Refused Objection.NotNamed)
    × (answer_to (has_made 18446744073709551615) (Commits 0 []) ≡ Done)
made_rows = (refl, refl, refl, refl)

-- ---- an ERROR answers a frame with a fault: the item that wasn't taken isn't handed on, and no frame is read
abbrev errs : Run
errs = run_of (0 ∷ []) (
    Opens ∷ Connects 0 None ∷ Subscribes 0 (topic 0) ∷ one_send 1 (Errs 0 ∷ Takes 0 ∷ Commits 0 (send 0 2 ∷ []) ∷ Errs 0 ∷ Lost 0 ∷ Leaves 0 ∷ Takes 0 ∷ []))

errs_answers : answers_in_order errs
    ≡ Opened 0 ∷ Done ∷ Subscribed 0 0 (topic 0) (stamp 0 0)
    ∷ Begun (transaction (id 0 1) (send 0 1 ∷ [])) ∷ Ticket (id 0 1) (stamp 1 0) ∷ Decided (id 0 1) (stamp 1 0) ∷ Turned (topic 0) 1
    ∷ Error 0 ∷ Refused Objection.Gone ∷ Refused Objection.Busy ∷ Refused Objection.Busy ∷ Refused Objection.Busy
    ∷ Unsubscribed 0 (stamp 1 0) ∷ Refused Objection.Gone ∷ []
errs_answers = refl

errs_handed : (delivered_items 0 (answers_of errs) ≡ []) × (map (λ i. i.stamp) (accepted_at (final_world errs) 0) ≡ stamp 1 0 ∷ [])
errs_handed = (refl, refl)

errs_silent : IsSilent 0 (answers_of errs)
errs_silent = inr (0, topic 0, stamp 0 0, Error 0, inr (inr (inr (inr (inr (inr (inr (inr (inr (inr (inr (inl refl))))))))))), inr (inr (inr (inr (inr (inr (inl refl)))))), refl)

-- ---- one release by itself: nothing is due before the stamp is learnt, nor after it
abbrev releases : Run
releases = run_of (0 ∷ []) (
    Opens ∷ Connects 0 None ∷ Subscribes 0 (topic 0) ∷ Commits 0 (send 0 1 ∷ []) ∷ Proposes 0 (topic 0) true ∷ Decides 0
    ∷ Releases (topic 0) ∷ Learns (topic 0) (id 0 1) ∷ Releases (topic 0) ∷ Releases (topic 0) ∷ Learns (topic 0) (id 0 1) ∷ [])

releases_rows : (answers_in_order releases
    ≡ Opened 0 ∷ Done ∷ Subscribed 0 0 (topic 0) (stamp 0 0)
    ∷ Begun (transaction (id 0 1) (send 0 1 ∷ [])) ∷ Ticket (id 0 1) (stamp 1 0) ∷ Decided (id 0 1) (stamp 1 0)
    ∷ Refused Objection.NothingDue ∷ Learnt (id 0 1) (topic 0) ∷ Released (topic 0) (id 0 1) ∷ Refused Objection.NothingDue ∷ Refused Objection.NotPending ∷ [])
    × (log_at (final_world releases) (topic 0) ≡ record { id = id 0 1; topics = topic 0 ∷ []; stamp = stamp 1 0 } ∷ [])
    × (accepted_at (final_world releases) 0 ≡ record { id = id 0 1; stamp = stamp 1 0; sends = part 0 1 ∷ [] } ∷ [])
releases_rows = (refl, refl, refl)

-- ---- beside the laws: premises that hold, and what follows, computed

-- a flight: the second of two connections commits
abbrev two_open : Run
two_open = run_of (0 ∷ 0 ∷ []) (Opens ∷ Connects 0 None ∷ Opens ∷ Connects 1 None ∷ [])

flight_made : answer_to (final_world two_open) (Commits 1 to_a_and_b) ≡ Begun (transaction (id 1 1) to_a_and_b)
flight_made = refl

flight_own : (c : ℕ) × (sends : List SentMessage) × (Commits 1 to_a_and_b ≡ Commits c sends) × (to_a_and_b ≡ sends)
    × ((connection_at (final_world two_open) c).sender ≡ Some (id 1 1).sender.0)
flight_own = (1, to_a_and_b, refl, refl, refl)

-- a span: its beginning and its end as they were answered
ends_begun : In (Subscribed 0 1 (topic 0) (stamp 0 0)) (answers_of ends)
ends_begun = inr (inr (inr (inr (inr (inr (inr (inr (inl refl))))))))

ends_closed : In (Unsubscribed 0 (stamp 1 0)) (answers_of ends)
ends_closed = inr (inr (inl refl))

ends_there : (length (final_world ends).subscriptions ≡ 1) × ((span_at (final_world ends) 0).topic ≡ topic 0)
    × ((span_at (final_world ends) 0).from ≡ stamp 0 0) × (end_at (final_world ends) 0 ≡ Some (stamp 1 0))
ends_there = (refl, refl, refl, refl)

-- one that begins behind a row: at the frontier
begins_late : (answer_to (final_world settles) (Subscribes 0 (topic 0)) ≡ Subscribed 0 0 (topic 0) (stamp 1 0))
    × (frontier_at (final_world settles) (topic 0) ≡ stamp 1 0)
begins_late = (refl, refl)

-- a transaction that is withdrawn isn't committed
is_withdrawn : In (Withdrawn (id 2 1) 2) (answers_of withdrawal)
is_withdrawn = inr (inr (inr (inr (inr (inr (inr (inr (inr (inr (inr (inr (inr (inl refl)))))))))))))

others_committed : map (λ r. r.txn.id) (commits_of (answers_of withdrawal)) ≡ id 0 1 ∷ id 1 1 ∷ id 3 1 ∷ []
others_committed = refl

-- a queue of two items is full, and a third row is decided: the turn ends the span, and so does the release; the end stays
abbrev full_queue : List Move → Run
full_queue then = record {
  capacity = 2;
  log_limit = 65536;
  clocks = 0 ∷ [];
  events = Opens ∷ Connects 0 None ∷ Opens ∷ Connects 1 None ∷ Subscribes 1 (topic 0)
      ∷ one_send 1 (one_send 2 (Commits 0 (send 0 3 ∷ []) ∷ Proposes 0 (topic 0) true ∷ Decides 0 ∷ then));
}

full_ends : (end_at (final_world (full_queue [])) 0 ≡ None) × (end_at (world_after (final_world (full_queue [])) (Turns (topic 0))) 0 ≡ Some (stamp 2 0))
full_ends = (refl, refl)

full_holds : (length (accepted_at (world_after (final_world (full_queue [])) (Turns (topic 0))) 0) ≡ 2) × (delivered_items 0 (answers_of (full_queue [])) ≡ [])
full_holds = (refl, refl)

-- the entries of topic 0 after these events and a release
abbrev pub by_release : List Move → List Entry
by_release then = (topic_at (world_after (final_world (full_queue then)) (Releases (topic 0))) (topic 0)).subscriptions

full_released : (map (λ e. e.to) (by_release (Learns (topic 0) (id 0 3) ∷ [])) ≡ Some (stamp 2 0) ∷ [])
    × (map (λ e. length e.accepted) (by_release (Learns (topic 0) (id 0 3) ∷ [])) ≡ 2 ∷ [])
full_released = (refl, refl)

-- where one item was taken, there is room: the release gives it the item
room_released : (map (λ e. e.to) (by_release (Takes 0 ∷ Learns (topic 0) (id 0 3) ∷ [])) ≡ None ∷ [])
    × (map (λ e. length e.accepted) (by_release (Takes 0 ∷ Learns (topic 0) (id 0 3) ∷ [])) ≡ 3 ∷ [])
room_released = (refl, refl)

end_stays : end_at (world_after (final_world (full_queue (Turns (topic 0) ∷ []))) (Disconnects 1)) 0 ≡ Some (stamp 2 0)
end_stays = refl

-- the numbers of subscriptions: the next is free, that of one which has lagged isn't, and its entry is there
abbrev lagged : Run
lagged = full_queue (Turns (topic 0) ∷ [])

lagged_numbers : (subscribe_fault 1 (topic_at (final_world lagged) (topic 0)) ≡ None)
    × (subscribe_fault 0 (topic_at (final_world lagged) (topic 0)) ≡ Some SubFault.SubInUse)
lagged_numbers = (refl, refl)

lagged_entry : ((subscription_at (final_world lagged) 0).closed ≡ None) × (unsubscribe_fault 0 (topic_at (final_world lagged) (topic 0)) ≡ None)
lagged_entry = (refl, refl)

-- a turn with two pending parts is two learns and two releases
abbrev waiting : List Move → World
waiting decisions = final_world (four_tickets decisions)

abbrev turn_steps : List Move
turn_steps = Learns (topic 0) (id 0 1) ∷ Learns (topic 0) (id 1 1) ∷ Releases (topic 0) ∷ Releases (topic 0) ∷ []

waiting_rows : (map (λ p. p.part.id) (topic_at (waiting []) (topic 0)).pending ≡ id 0 1 ∷ id 1 1 ∷ [])
    × (reverse (answers_from turn_steps (waiting (Decides 0 ∷ Decides 1 ∷ [])) [])
    ≡ Learnt (id 0 1) (topic 0) ∷ Learnt (id 1 1) (topic 0) ∷ Released (topic 0) (id 1 1) ∷ Released (topic 0) (id 0 1) ∷ [])
waiting_rows = (refl, refl)

-- topic 0 with these pending parts, rows and frontier
abbrev pub turned_topic : List Pending → List LogRow → Stamp → TopicState
turned_topic pending rows frontier = record {
  topic = topic 0;
  clock = 2;
  log_limit = 65536;
  pending = pending;
  base = stamp 0 0;
  held = rows;
  frontier = frontier;
  subscriptions = [];
}

abbrev both_rows : List LogRow
both_rows =
    record { id = id 1 1; topics = topic 0 ∷ topic 1 ∷ []; stamp = stamp 2 0 }
    ∷ record { id = id 0 1; topics = topic 0 ∷ topic 1 ∷ []; stamp = stamp 2 1 } ∷ []

both_turned : (topic_at (world_after (waiting (Decides 0 ∷ Decides 1 ∷ [])) (Turns (topic 0))) (topic 0) ≡ turned_topic [] both_rows (stamp 2 1))
    × (topic_at (run turn_steps (waiting (Decides 0 ∷ Decides 1 ∷ []))) (topic 0) ≡ turned_topic [] both_rows (stamp 2 1))
both_turned = (refl, refl)

-- so too where one of them is undecided: a learn and both releases are refused
refused_answers : reverse (answers_from turn_steps (waiting (Decides 1 ∷ [])) [])
    ≡ Refused Objection.NotDecided ∷ Learnt (id 1 1) (topic 0) ∷ Refused Objection.NothingDue ∷ Refused Objection.NothingDue ∷ []
refused_answers = refl

abbrev half_decided : List Pending
half_decided =
    record { part = part_at (id 0 1) to_a_and_b (topic 0); number = 1; learnt = None }
    ∷ record { part = part_at (id 1 1) to_a_and_b (topic 0); number = 2; learnt = Some (stamp 2 0) } ∷ []

one_rows : (topic_at (world_after (waiting (Decides 1 ∷ [])) (Turns (topic 0))) (topic 0) ≡ turned_topic half_decided [] (stamp 0 0))
    × (topic_at (run turn_steps (waiting (Decides 1 ∷ []))) (topic 0) ≡ turned_topic half_decided [] (stamp 0 0))
one_rows = (refl, refl)
