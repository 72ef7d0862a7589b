-- Rows of what one event makes of a core (`HasStepped`), computed in cores of two topics that are written out. Beside each
-- field stands a step that meets its premise, as the core makes it, and what a wrong machine makes instead: that field alone
-- refuses it.
use Rattle.delivery.proofs.Words.All.{refl, sym, ap, ◌∙◌, subst, inl, inr, arith, ◌≡◌, ℕ, zero, suc, ◌+◌, ◌≤◌, false, List, [], ◌∷◌, ◌++◌, codes, map, length, Option, Some, None, false≢true, ◌⊎◌, Topic, Stamp, LogRow, Item, last_stamp, zero_stamp, TopicState, Pending, some_same, none_some, connection_at, World, SenderState, Subscription, Standing, topic_at, log_at, accepted_at, end_at, Event, Outcome, Refusal, claims_of, sender_claimed, CoreStep, Reading, Core, core_after, names_at, new_core, outcomes, GivesTicket, GivesStamp, DeliversNext, IsNewTopic, LagsFull, Proposed}
use Rattle.delivery.specs.declared.outcome.Outcome.TheVariants.{Opened, Done, Unsubscribed, Failed, Decided, Released, Turned, Handed, Refused, NoMemory}
use Rattle.mcast_group.specs.declared.fault.ProposeFault.TheVariants as proposals
use Rattle.delivery.specs.Core.Stepped.{HasStepped}
use Rattle.delivery.proofs.Core.Acts.{topic_list, topic, stamp, id, log_row, made, opens, part, played, reads, subscribe, A, B}

-- ---- what the rows are written with

-- topic A or B with this clock: no part is pending, and the log is empty
abbrev pub bare : ℕ → ℕ → TopicState
bare t clock = record {
  topic = topic t;
  clock = clock;
  log_limit = 65536;
  pending = [];
  base = zero_stamp;
  held = [];
  frontier = zero_stamp;
  subscriptions = [];
}

-- the connection's sender: its first transaction names these topics and has these tickets; its floor is (7, B)
abbrev pub flying : List ℕ → List Stamp → SenderState
flying topics given = record {
  seq = 1;
  floor = stamp 7 1;
  flight = Some (record {
    txn = record { id = id 0 1; sends = map (λ t. made t [] []) topics };
    given = given;
    mark = None;
  });
  leftovers = [];
}

-- a core of these two topics, this sender and these subscriptions, with one connection and queues of two items
abbrev pub core : TopicState → TopicState → List SenderState → Standing → List Subscription → Core
core a b senders standing subscriptions = record {
  names = A ∷ B ∷ [];
  world = record {
    capacity = 2;
    log_limit = 65536;
    topics = a ∷ b ∷ [];
    senders = senders;
    connections = record { sender = Some 0; standing = standing } ∷ [];
    subscriptions = subscriptions;
    commits = [];
    verdicts = [];
  };
  steps = [];
}

-- the step of an event that reads nothing
abbrev pub step_by : Event → Outcome → CoreStep
step_by e o = record { event = e; reading = Reading.Nothing; outcome = o }

-- the core steps so by an event with this outcome
abbrev Steps : Core → Core → Event → Outcome → Type 0
Steps before later e o = HasStepped before later (step_by e o)

-- the core after an event with this outcome
abbrev pub after : Core → Event → Outcome → Core
after k e o = core_after k (step_by e o)

-- ---- the step is added, and its outcome is one that the event may have (`is_after`, `may`)

-- a core whose only connection is gone
abbrev pub parted : Core
parted = core (bare 0 0) (bare 1 0) [] Standing.Gone []

-- of 87 and 81, which both hold of a gone connection, 87 comes first
gone_rows : (outcomes parted (Event.Lost 0) Reading.Nothing ≡ Refused Refusal.Gone ∷ [])
    × ((after parted (Event.Lost 0) (Refused Refusal.Gone)).steps
    ≡ record { event = Event.Lost 0; reading = Reading.Nothing; outcome = Refused Refusal.Gone } ∷ [])
gone_rows = (refl, refl)

-- the two checks swapped
swapped_checks : Steps parted (after parted (Event.Lost 0) (Refused Refusal.Busy)) (Event.Lost 0) (Refused Refusal.Busy) → Prim.⊥
swapped_checks h = not_busy h.may.outcome
  where
    not_busy : (Refused Refusal.Gone ≡ Refused Refusal.Busy) ⊎ Prim.⊥ → Prim.⊥
    not_busy (inl e) = cc
    not_busy (inr e) = e

-- the step isn't kept
lost_step : Steps parted parted (Event.Lost 0) (Refused Refusal.Gone) → Prim.⊥
lost_step h = let e : 0 ≡ 1 = ap (λ (k : Core). length k.steps) h.is_after in absurd (omega (arith, e))

-- ---- a refusal and want of memory change nothing (`refused`, `no_memory`)

-- topics with clocks 4 and 9, and the sender's transaction, which names both and has these tickets
abbrev pub sending : List Stamp → Core
sending given = core (bare 0 4) (bare 1 9) (flying (0 ∷ 1 ∷ []) given ∷ []) Standing.Open []

nothing_rows : (outcomes (sending []) (Event.Release (topic 0)) Reading.Nothing ≡ Refused Refusal.NothingDue ∷ [])
    × ((after (sending []) (Event.Release (topic 0)) (Refused Refusal.NothingDue)).world ≡ (sending []).world)
nothing_rows = (refl, refl)

-- a release that is refused, and raises its topic's clock
refused_and_done : Steps (sending []) (core (bare 0 5) (bare 1 9) (flying (0 ∷ 1 ∷ []) [] ∷ []) Standing.Open []) (Event.Release (topic 0)) (Refused Refusal.NothingDue)
    → Prim.⊥
refused_and_done h =
    let e : 5 ≡ 4 = ap (λ (w : World). (topic_at w (topic 0)).clock) (h.refused Refusal.NothingDue refl) in absurd (omega (arith, e))

open_rows : (outcomes (sending []) Event.Open Reading.Nothing ≡ Opened 1 ∷ NoMemory ∷ [])
    × ((after (sending []) Event.Open NoMemory).world ≡ (sending []).world)
open_rows = (refl, refl)

-- an Open without memory that opens
opens_without : Steps (sending []) (after (sending []) Event.Open (Opened 1)) Event.Open NoMemory → Prim.⊥
opens_without h = let e : 2 ≡ 1 = ap (λ (w : World). length w.connections) (h.no_memory refl) in absurd (omega (arith, e))

-- ---- a ticket is by its own topic's clock and the sender's floor (`ticket`, `named`)

-- a proposal at A
abbrev pub at_a : Event
at_a = Event.Propose 0 (topic 0)

ticket_may : outcomes (sending []) at_a Reading.Nothing ≡ Proposed 8 ∷ Failed proposals.NoMemory ∷ []
ticket_may = refl

ticket_given : GivesTicket (sending []).world (after (sending []) at_a (Proposed 8)).world 0 (topic 0) 8
ticket_given = record { named = refl; number = refl; clock = refl; given = refl }

-- A with this clock has given a ticket of this number
abbrev pub numbered : ℕ → ℕ → Core
numbered clock n = core (bare 0 clock) (bare 1 9) (flying (0 ∷ 1 ∷ []) (stamp n 0 ∷ []) ∷ []) Standing.Open []

-- what some proposal gives that is the one at A, that one gives
of_proposal : (before later : World) (n : ℕ) → (c : ℕ) × (t : Topic) × (Event.Propose 0 (topic 0) ≡ Event.Propose c t) × GivesTicket before later c t n
    → GivesTicket before later 0 (topic 0) n
of_proposal before later n (c, t, e, g) =
    let one : c ≡ 0 = cc in
    let other : t ≡ topic 0 = cc in
    subst (λ u. GivesTicket before later 0 u n) other (subst (λ d. GivesTicket before later d t n) one g)

-- one counter for all topics: the number is above B's clock
one_counter : Steps (sending []) (numbered 10 10) at_a (Proposed 10) → Prim.⊥
one_counter h =
    let e : 10 ≡ 8 = (of_proposal (sending []).world (numbered 10 10).world 10 (h.ticket 10 refl)).number in absurd (omega (arith, e))

-- the sender's floor is ignored
no_floor : Steps (sending []) (numbered 5 5) at_a (Proposed 5) → Prim.⊥
no_floor h =
    let e : 5 ≡ 8 = (of_proposal (sending []).world (numbered 5 5).world 5 (h.ticket 5 refl)).number in absurd (omega (arith, e))

-- the clock stays
clock_stays : Steps (sending []) (numbered 4 8) at_a (Proposed 8) → Prim.⊥
clock_stays h =
    let e : 4 ≡ 8 = (of_proposal (sending []).world (numbered 4 8).world 8 (h.ticket 8 refl)).clock in absurd (omega (arith, e))

-- a sender whose transaction names A alone, with these tickets
abbrev pub at_a_alone : List Stamp → Core
at_a_alone given = core (bare 0 4) (bare 1 9) (flying (0 ∷ []) given ∷ []) Standing.Open []

unnamed_may : outcomes (at_a_alone []) (Event.Propose 0 (topic 1)) Reading.Nothing ≡ Refused Refusal.NotNamed ∷ Refused Refusal.NotNamed ∷ []
unnamed_may = refl

-- a proposal at any topic: B gives a ticket too
any_topic : Steps (at_a_alone []) (at_a_alone (stamp 10 1 ∷ [])) (Event.Propose 0 (topic 1)) (Proposed 10) → Prim.⊥
any_topic h = false≢true (h.named 0 (stamp 10 1) (inl refl))

-- ---- a stamp is the greatest of one ticket for each named topic (`stamp`)

-- tickets of one number, of A and of B
abbrev pub equal_tickets : List Stamp
equal_tickets = stamp 5 0 ∷ stamp 5 1 ∷ []

stamp_may : outcomes (sending equal_tickets) (Event.Decide 0) Reading.Nothing ≡ Decided (stamp 5 1) false ∷ []
stamp_may = refl

stamp_given : GivesStamp (sending equal_tickets).world (after (sending equal_tickets) (Event.Decide 0) (Decided (stamp 5 1) false)).world 0 (stamp 5 1)
stamp_given = record { of_each = refl; is_greatest = refl; floor = refl; row = refl }

early_may : outcomes (sending (stamp 5 0 ∷ [])) (Event.Decide 0) Reading.Nothing ≡ Refused Refusal.Incomplete ∷ []
early_may = refl

-- the core once the transaction is decided with this stamp, where the sender's floor is this
abbrev pub decided : Stamp → Stamp → Core
decided given floor = record (sending []) {
  world = record (sending []).world {
    senders = record { seq = 1; floor = floor; flight = None; leftovers = [] } ∷ [];
    commits = record { txn = record { id = id 0 1; sends = map (λ t. made t [] []) (0 ∷ 1 ∷ []) }; stamp = given } ∷ [];
  };
}

-- what some Decide gives that is that of connection 0, that one gives
of_decide : (before later : World) (s : Stamp) → (c : ℕ) × (Event.Decide 0 ≡ Event.Decide c) × GivesStamp before later c s → GivesStamp before later 0 s
of_decide before later s (c, e, g) =
    let one : c ≡ 0 = cc in
    subst (λ d. GivesStamp before later d s) one g

-- the least ticket
least_ticket : Steps (sending (stamp 5 0 ∷ stamp 6 1 ∷ [])) (decided (stamp 5 0) (stamp 5 0)) (Event.Decide 0) (Decided (stamp 5 0) false) → Prim.⊥
least_ticket h =
    let g = of_decide (sending (stamp 5 0 ∷ stamp 6 1 ∷ [])).world (decided (stamp 5 0) (stamp 5 0)).world (stamp 5 0) (h.stamp (stamp 5 0) false refl) in
    let e : 5 ≡ 6 = ap (λ (s : Stamp). s.n) g.is_greatest in absurd (omega (arith, e))

-- numbers alone: of two tickets of one number the first
numbers_alone : Steps (sending equal_tickets) (decided (stamp 5 0) (stamp 5 0)) (Event.Decide 0) (Decided (stamp 5 0) false) → Prim.⊥
numbers_alone h =
    let g = of_decide (sending equal_tickets).world (decided (stamp 5 0) (stamp 5 0)).world (stamp 5 0) (h.stamp (stamp 5 0) false refl) in
    let e : 0 ≡ 1 = ap (λ (s : Stamp). s.topic.0) g.is_greatest in absurd (omega (arith, e))

-- a Decide before B gave its ticket
too_early : Steps (sending (stamp 5 0 ∷ [])) (decided (stamp 5 0) (stamp 5 0)) (Event.Decide 0) (Decided (stamp 5 0) false) → Prim.⊥
too_early h =
    let g = of_decide (sending (stamp 5 0 ∷ [])).world (decided (stamp 5 0) (stamp 5 0)).world (stamp 5 0) (h.stamp (stamp 5 0) false refl) in
    let e : 1 ≡ 2 = ap length g.of_each in absurd (omega (arith, e))

-- the floor isn't raised
floor_stays : Steps (sending equal_tickets) (decided (stamp 5 1) (stamp 7 1)) (Event.Decide 0) (Decided (stamp 5 1) false) → Prim.⊥
floor_stays h =
    let g = of_decide (sending equal_tickets).world (decided (stamp 5 1) (stamp 7 1)).world (stamp 5 1) (h.stamp (stamp 5 1) false refl) in
    let e : 7 ≡ 5 = ap (λ (s : Stamp). s.n) g.floor in absurd (omega (arith, e))

-- ---- a Take delivers the next item (`delivered`)

-- the item of stamp (n, A), with as many SENDs
abbrev pub item : ℕ → ℕ → Item
item n zero = record { id = id 0 n; stamp = stamp n 0; sends = [] }
item n (suc m) = record (item n m) { sends = part m [] [] ∷ (item n m).sends }

-- the row of stamp (n, A) in A's log
abbrev pub row : ℕ → LogRow
row n = log_row 0 n n 0 (0 ∷ [])

-- the part of stamp (n, A), which A has learnt
abbrev pub learnt : ℕ → Pending
learnt n = record {
  part = record { id = id 0 n; topic = topic 0; topics = topic 0 ∷ []; sends = part 0 [] [] ∷ [] };
  number = n;
  learnt = Some (stamp n 0);
}

-- topic A with these parts, this log, and subscription 0, whose queue accepted these items and which has this end
abbrev pub queueing : List Pending → List LogRow → List Item → Option Stamp → TopicState
queueing pending rows items end = record {
  topic = topic 0;
  clock = 9;
  log_limit = 65536;
  pending = pending;
  base = zero_stamp;
  held = rows;
  frontier = last_stamp zero_stamp rows;
  subscriptions = record { number = 0; from = zero_stamp; to = end; accepted = items } ∷ [];
}

-- a core with this A, of whose subscription 0 so many items were delivered
abbrev pub queued : TopicState → ℕ → Core
queued a taken = core a (bare 1 9) [] Standing.Open
    (record { connection = 0; topic = topic 0; from = zero_stamp; taken = taken; closed = None } ∷ [])

-- an item of one SEND was delivered, and one of two is next
abbrev pub second_due : ℕ → Core
second_due taken = queued (queueing [] (row 1 ∷ row 2 ∷ []) (item 1 1 ∷ item 2 2 ∷ []) None) taken

take_may : outcomes (second_due 1) (Event.Take 0) Reading.Nothing ≡ Handed 2 ∷ NoMemory ∷ []
take_may = refl

take_delivers : DeliversNext (second_due 1).world (after (second_due 1) (Event.Take 0) (Handed 2)).world 0 2
take_delivers = record { item = item 2 2; is_next = refl; sends = refl; taken = refl }

-- what some Take delivers that is that of subscription 0, that one delivers
of_take : (before later : World) (count : ℕ) → (s : ℕ) × (Event.Take 0 ≡ Event.Take s) × DeliversNext before later s count → DeliversNext before later 0 count
of_take before later count (s, e, g) =
    let one : s ≡ 0 = cc in
    subst (λ r. DeliversNext before later r count) one g

-- the same item twice: the first, of one SEND, once more
same_item : Steps (second_due 1) (second_due 2) (Event.Take 0) (Handed 1) → Prim.⊥
same_item h =
    let g = of_take (second_due 1).world (second_due 2).world 1 (h.delivered 1 refl) in
    let e : 1 ≡ 2 = g.sends ∙ ap (λ (i : Item). length i.sends) (sym (some_same (item 2 2) g.item g.is_next)) in absurd (omega (arith, e))

-- the item isn't taken, so that it comes again
not_taken : Steps (second_due 1) (second_due 1) (Event.Take 0) (Handed 2) → Prim.⊥
not_taken h =
    let e : 1 ≡ 2 = (of_take (second_due 1).world (second_due 1).world 2 (h.delivered 2 refl)).taken in absurd (omega (arith, e))

-- ---- an event at one topic changes no other (`others`)

-- the part of stamp (3, A) is due, and the queue has accepted these items
abbrev pub third_due : List Item → Core
third_due items = queued (queueing (learnt 3 ∷ []) (row 1 ∷ row 2 ∷ []) items None) 0

-- the core after a release of it, with this queue and this end
abbrev pub third_released : List Item → Option Stamp → Core
third_released items end = queued (queueing [] (row 1 ∷ row 2 ∷ row 3 ∷ []) items end) 0

-- a release at A
abbrev pub release_a : Event
release_a = Event.Release (topic 0)

release_rows : (outcomes (third_due (item 2 1 ∷ [])) release_a Reading.Nothing ≡ Released (id 0 3) ∷ [])
    × ((after (third_due (item 2 1 ∷ [])) release_a (Released (id 0 3))).world ≡ (third_released (item 2 1 ∷ item 3 1 ∷ []) None).world)
    × (topic_at (after (third_due (item 2 1 ∷ [])) release_a (Released (id 0 3))).world (topic 1) ≡ topic_at (third_due (item 2 1 ∷ [])).world (topic 1))
release_rows = (refl, refl, refl)

-- a release that releases at two topics
two_topics : Steps (third_due []) (core (queueing [] (row 1 ∷ row 2 ∷ row 3 ∷ []) [] None) (record (bare 1 9) { held = row 3 ∷ [] }) [] Standing.Open []) release_a (Released (id 0 3))
    → Prim.⊥
two_topics h =
    let b : (0 ≡ 1 → Prim.⊥) = λ e. omega (arith, e) in
    let e : 1 ≡ 0 = ap (λ (x : TopicState). length x.held) (h.others (topic 1) (omega arith) (λ e. b (ap number_of e))) in absurd (omega (arith, e))
  where
    number_of : Option Topic → ℕ
    number_of None = 0
    number_of (Some t) = t.0

-- ---- a topic that is made is new, and there is one for each name (`opened`, `as_many`)

-- a core without topics after a connection's SUBSCRIBE to A
abbrev pub used : Core
used = played (new_core (topic_list []) 2) (opens 0 (reads 0 (subscribe (codes "s") A) ∷ []))

made_new : IsNewTopic (topic_at used.world (topic 0))
made_new = (refl, refl, refl, refl)

made_one : length used.world.topics ≡ length (names_at used)
made_one = refl

-- a core of A and B, and one with this topic too, which has no name
abbrev pub two : Core
two = core (bare 0 0) (bare 1 9) [] Standing.Open []

abbrev pub three : TopicState → Core
three t = record two { world = record two.world { topics = bare 0 0 ∷ bare 1 9 ∷ t ∷ [] } }

-- a topic that is made with clock 1
late_clock : Steps two (three (bare 2 1)) (Event.Next 0) Done → Prim.⊥
late_clock h = let e : 1 ≡ 0 = (h.opened (topic 2) (omega arith) (omega arith)).0 in absurd (omega (arith, e))

-- one whose subscriptions begin at (5, A)
late_frontier : Steps two (three (record (bare 2 0) { frontier = stamp 5 0 })) (Event.Next 0) Done → Prim.⊥
late_frontier h =
    let e : 5 ≡ 0 = ap (λ (a : Stamp). a.n) (h.opened (topic 2) (omega arith) (omega arith)).3 in absurd (omega (arith, e))

-- one that has no name
nameless : Steps two (three (bare 2 0)) (Event.Next 0) Done → Prim.⊥
nameless h = let e : 3 ≡ 2 = h.as_many in absurd (omega (arith, e))

-- ---- whom a connection speaks for, and how many senders there are, is as its claim says (`speaks`, `begun`)

-- the connection of that core claimed a sender, the first
used_rows : ((connection_at used.world 0).sender ≡ Some 0)
    × (sender_claimed 0 (claims_of used.steps) ≡ Some 0)
    × (length used.world.senders ≡ 1)
used_rows = (refl, refl, refl)

-- a connection that speaks for a sender which it never claimed
unclaimed : Steps two two (Event.Lost 0) (Refused Refusal.Gone) → Prim.⊥
unclaimed h = none_some 0 (sym (h.speaks 0))

-- a sender that began by no claim
unbegun : Steps (sending []) (sending []) (Event.Lost 0) (Refused Refusal.Gone) → Prim.⊥
unbegun h = let e : 1 ≡ 0 = h.begun in absurd (omega (arith, e))

-- ---- a span ends where it is closed, or where its queue has no room for a row (`ends`)

-- a leaving connection's subscription is closed
abbrev pub leaving : Core
leaving = core (queueing [] (row 1 ∷ []) (item 1 1 ∷ []) None) (bare 1 9) [] Standing.Leaving
    (record { connection = 0; topic = topic 0; from = zero_stamp; taken = 0; closed = None } ∷ [])

leave_rows : (outcomes leaving (Event.Leave 0) Reading.Nothing ≡ Unsubscribed 0 (stamp 1 0) ∷ [])
    × (end_at (after leaving (Event.Leave 0) (Unsubscribed 0 (stamp 1 0))).world 0 ≡ Some (stamp 1 0))
leave_rows = (refl, refl)

-- the same answer, and the span stays open (`closes`)
closes_nothing : Steps leaving (record leaving { steps = step_by (Event.Leave 0) (Unsubscribed 0 (stamp 1 0)) ∷ [] }) (Event.Leave 0) (Unsubscribed 0 (stamp 1 0)) → Prim.⊥
closes_nothing h = none_some (stamp 1 0) (h.closes 0 (stamp 1 0) refl)

-- the queue is full
abbrev pub full : Core
full = third_due (item 1 1 ∷ item 2 1 ∷ [])

full_lags : (after full release_a (Released (id 0 3))).world ≡ (third_released (item 1 1 ∷ item 2 1 ∷ []) (Some (stamp 2 0))).world
full_lags = refl

lags_full : LagsFull full.world (after full release_a (Released (id 0 3))).world release_a 0 (stamp 2 0)
lags_full = record {
  by = inl refl;
  full = refl;
  row = record { rows = []; row = row 3; others = []; log_is = refl; end_is = refl };
}

-- what is left where the span wasn't closed
lagged : (before later : World) (e : Event) (o : Outcome) (end : Stamp) → (o ≡ Unsubscribed 0 end → Prim.⊥)
    → (o ≡ Unsubscribed 0 end) ⊎ LagsFull before later e 0 end → LagsFull before later e 0 end
lagged before later e o end unclosed (inl closed) = absurd (unclosed closed)
lagged before later e o end unclosed (inr lags) = lags

-- a lag where there is room for one item more
lags_with_room : Steps (third_due (item 2 1 ∷ [])) (third_released (item 2 1 ∷ []) (Some (stamp 2 0))) release_a (Released (id 0 3)) → Prim.⊥
lags_with_room h =
    let g = lagged (third_due (item 2 1 ∷ [])).world (third_released (item 2 1 ∷ []) (Some (stamp 2 0))).world release_a (Released (id 0 3)) (stamp 2 0) (λ e. cc)
    (h.ends 0 (stamp 2 0) refl refl) in
    let e : 1 ≡ 2 = g.full in absurd (omega (arith, e))

-- a lag at a Turn of another topic
lags_elsewhere : Steps full (third_released (item 1 1 ∷ item 2 1 ∷ []) (Some (stamp 2 0))) (Event.Turn (topic 1)) (Turned 1) → Prim.⊥
lags_elsewhere h = not_here (lagged full.world (third_released (item 1 1 ∷ item 2 1 ∷ []) (Some (stamp 2 0))).world (Event.Turn (topic 1)) (Turned 1) (stamp 2 0) (λ e. cc)
    (h.ends 0 (stamp 2 0) refl refl)).by
  where
    topic_of : Event → ℕ
    topic_of (Event.Turn t) = t.0
    topic_of e = 2

    not_here : (Event.Turn (topic 1) ≡ Event.Release (topic 0)) ⊎ (Event.Turn (topic 1) ≡ Event.Turn (topic 0)) → Prim.⊥
    not_here (inl e) = let n : 1 ≡ 2 = ap topic_of e in absurd (omega (arith, n))
    not_here (inr e) = let n : 1 ≡ 0 = ap topic_of e in absurd (omega (arith, n))

-- a lag of a full queue, with no row for which it has no room
lags_without_row : Steps full (queued (queueing (learnt 3 ∷ []) (row 1 ∷ row 2 ∷ []) (item 1 1 ∷ item 2 1 ∷ []) (Some (stamp 2 0))) 0) release_a (Released (id 0 3)) → Prim.⊥
lags_without_row h =
    let later = queued (queueing (learnt 3 ∷ []) (row 1 ∷ row 2 ∷ []) (item 1 1 ∷ item 2 1 ∷ []) (Some (stamp 2 0))) 0 in
    let g = lagged full.world later.world release_a (Released (id 0 3)) (stamp 2 0) (λ e. cc) (h.ends 0 (stamp 2 0) refl refl) in
    let n : 2 ≡ length ((log_at full.world (topic 0) ++ g.row.rows) ++ g.row.row ∷ g.row.others) = ap length g.row.log_is in
    not_longer g.row.rows g.row.row g.row.others n
  where
    not_longer : (rows : List LogRow) (r : LogRow) (others : List LogRow) → 2 ≡ length ((row 1 ∷ row 2 ∷ rows) ++ r ∷ others) → Prim.⊥
    not_longer [] r others e = absurd (omega (arith, e))
    not_longer (x ∷ rows) r others e = absurd (omega (arith, e))

-- ---- an open span's queue gets an item for each row, and holds no more than its capacity undelivered (`enters`, `bounded`)

enters_computed : length (accepted_at (after (third_due (item 2 1 ∷ [])) release_a (Released (id 0 3))).world 0) + 2 ≡ 1 + 3
enters_computed = refl

-- a dropped row
drops_row : Steps (third_due (item 2 1 ∷ [])) (third_released (item 2 1 ∷ []) None) release_a (Released (id 0 3)) → Prim.⊥
drops_row h = let e : 1 + 2 ≡ 1 + 3 = h.enters 0 (omega arith) refl in absurd (omega (arith, e))

-- an item twice
enters_twice : Steps (third_due []) (third_released (item 3 1 ∷ item 3 1 ∷ []) None) release_a (Released (id 0 3)) → Prim.⊥
enters_twice h = let e : 2 + 2 ≡ 0 + 3 = h.enters 0 (omega arith) refl in absurd (omega (arith, e))

-- a queue past its capacity
past_capacity : Steps full (third_released (item 1 1 ∷ item 2 1 ∷ item 3 1 ∷ []) None) release_a (Released (id 0 3)) → Prim.⊥
past_capacity h = let l : 3 ≤ 0 + 2 = h.bounded 0 (omega arith) in absurd (omega (arith, l))
