-- What one step makes of a core: the core after it beside the core before it.
use Rattle.std.specs.Prelude.{◌≡◌, ◌≢◌, ℕ, ◌<◌, ◌≤◌, ◌+◌, max, true, ◌⊎◌, [], ◌∷◌, ◌++◌, map}
use Rattle.std.specs.Prelude.{length, slice_get, Bool, List, Option, Some, None}
use Rattle.std.specs.Option.{option_and_then}
use Rattle.mcast_txn.specs.declared.id.Topic.{Topic}
use Rattle.mcast_txn.specs.declared.stamp.Stamp.{Stamp}
use Rattle.mcast_txn.specs.Stamp.{greatest, zero_stamp}
use Rattle.mcast_txn.specs.Transaction.{topics_of}
use Rattle.mcast_txn.specs.TopicSet.{names}
use Rattle.mcast_txn.specs.Lists.{In}
use Rattle.mcast_txn.specs.Span.{Item}
use Rattle.mcast_group.specs.Machine.{TopicState}
use Rattle.stomp_session.specs.Answers.{action_by}
use Rattle.delivery.specs.declared.event.Event.{Event}
use Rattle.delivery.specs.declared.outcome.Outcome.{Outcome}
use Rattle.delivery.specs.declared.refusal.Refusal.{Refusal}
use Rattle.delivery.specs.Topics.{TopicList}
use Rattle.delivery.specs.Machine.World.{connection_at, World, topic_at, speaker, subscription_at}
use Rattle.delivery.specs.Machine.Observed.{log_at, accepted_at, end_at}
use Rattle.delivery.specs.Machine.Moves.{undecided_at, insert_ticket, oldest_live}
use Rattle.delivery.specs.Theorem.Laws.{move_topic, live_topic}
use Rattle.delivery.specs.Theorem.Spans.{EndsBeforeRow}
use Rattle.delivery.specs.Core.Steps.{CoreStep, Reading, frame_in}
use Rattle.delivery.specs.Core.Claims.{begun_count, claims_of, sender_claimed}
use Rattle.delivery.specs.Core.State.{Core, core_of, core_after, names_at, session_at, frame_move}
use Rattle.delivery.specs.Core.Outcomes.{MayStep, IsCoreRun}

-- ---- what an event is about

-- the topic of what was read, if it has one: that of a SUBSCRIBE, or of the subscription that an UNSUBSCRIBE
-- names
abbrev pub read_topic : Core → ℕ → Reading → Option Topic
read_topic k c reading =
    option_and_then
    (λ f. option_and_then (move_topic k.world) (frame_move k c (action_by f.command (session_at k c) f)))
    (frame_in reading)

-- The topic that an event is about, if there is one. So `Propose 0 t` is about t, a Leave about that of the
-- subscription which it closes, and a Decide about none.
abbrev pub event_topic : Core → Event → Reading → Option Topic
event_topic k (Event.Next c) reading = read_topic k c reading
event_topic k (Event.Propose c t) reading = Some t
event_topic k (Event.Cancel c t) reading = Some t
event_topic k (Event.Learn t id) reading = Some t
event_topic k (Event.Release t) reading = Some t
event_topic k (Event.Turn t) reading = Some t
event_topic k (Event.Leave c) reading = live_topic k.world (oldest_live c 0 k.world.subscriptions)
event_topic k e reading = None

-- ---- what an outcome says

-- Topic t gave connection c's transaction a ticket of this number.
-- named: the transaction names t.
-- number: one above the greater of t's own clock and the number of the sender's floor; of 4 and 9 it is 10.
-- clock: it is t's clock then.
-- given: the transaction has this ticket beside those that it had.
pub record GivesTicket (before after : World) (c : ℕ) (t : Topic) (n : ℕ) : Type 0 where
  pub named : names t (topics_of (undecided_at before c).txn.sends) ≡ true
  pub number : n ≡ max (topic_at before t).clock (speaker before c).floor.n + 1
  pub clock : (topic_at after t).clock ≡ n
  pub given : (undecided_at after c).given
      ≡ insert_ticket (record { n = n; topic = t }) (undecided_at before c).given

-- Connection c's transaction was decided with this stamp.
-- of_each: it had one ticket of each topic that it names, and no other.
-- is_greatest: the stamp is the greatest of them, by number and then by topic; of (1, 0), (1, 1) the latter.
-- floor: it is the sender's floor then.
-- row: the commit list has one row more, of this transaction and this stamp.
pub record GivesStamp (before after : World) (c : ℕ) (stamp : Stamp) : Type 0 where
  pub of_each : map (λ ticket. ticket.topic) (undecided_at before c).given
      ≡ topics_of (undecided_at before c).txn.sends
  pub is_greatest : stamp ≡ greatest (undecided_at before c).given
  pub floor : (speaker after c).floor ≡ stamp
  pub row : after.commits ≡ before.commits ++ record { txn = (undecided_at before c).txn; stamp = stamp } ∷ []

-- An item of so many SENDs was delivered of subscription s: the first that its queue had accepted and that
-- wasn't delivered. So where three were accepted and one was delivered, it is the second.
pub record DeliversNext (before after : World) (s count : ℕ) : Type 0 where
  pub item : Item
  pub is_next : slice_get (accepted_at before s) (subscription_at before s).taken ≡ Some item
  pub sends : count ≡ length item.sends
  pub taken : (subscription_at after s).taken ≡ (subscription_at before s).taken + 1

-- the topic of subscription s
abbrev pub sub_topic : World → ℕ → Topic
sub_topic w s = (subscription_at w s).topic

-- The span of subscription s ended by lag.
-- by: a release or a turn of its topic was made.
-- full: as many items as the capacity weren't delivered then.
-- row: one more row came for which there was no room; the end is the frontier before it.
pub record LagsFull (before after : World) (e : Event) (s : ℕ) (end : Stamp) : Type 0 where
  pub by : (e ≡ Event.Release (sub_topic before s)) ⊎ (e ≡ Event.Turn (sub_topic before s))
  pub full : length (accepted_at after s) ≡ (subscription_at before s).taken + before.capacity
  pub row : EndsBeforeRow (log_at before (sub_topic before s)) (log_at after (sub_topic before s)) end

-- ---- a step

-- A topic at which nothing was proposed: its clock is 0, it has no part and no row, and a subscription that
-- begins at it begins at 0.0.
abbrev pub IsNewTopic : TopicState → Type 0
IsNewTopic s = (s.clock ≡ 0) × (s.pending ≡ []) × (s.held ≡ []) × (s.frontier ≡ zero_stamp)

-- What a step makes of a core.
pub record HasStepped (before after : Core) (step : CoreStep) : Type 0 where
  -- the steps so far stay, and this one is added
  pub is_after : after ≡ core_after before step
  -- it reads what its reader gives, and the outcome is one that the event may have: by its checks in their
  -- order, or for want of memory
  pub may : MayStep before step
  -- what is refused changes nothing else, nor does what is answered that there was no memory
  pub refused : (why : Refusal) → step.outcome ≡ Outcome.Refused why → after.world ≡ before.world
  pub no_memory : step.outcome ≡ Outcome.NoMemory → after.world ≡ before.world
  -- a topic that is made has clock 0, no part, an empty log and a frontier that is 0.0, and there is one for
  -- each name and no other
  pub opened : (t : Topic) → length before.world.topics ≤ t.0 → t.0 < length after.world.topics
      → IsNewTopic (topic_at after.world t)
  pub as_many : length after.world.topics ≡ length (names_at after)
  -- whom a connection speaks for is what its claim says, and as many senders have begun as the claims say
  pub speaks : (c : ℕ) → (connection_at after.world c).sender ≡ sender_claimed c (claims_of after.steps)
  pub begun : length after.world.senders ≡ begun_count (claims_of after.steps)
  -- an event at one topic changes no other
  pub others : (t : Topic) → t.0 < length before.world.topics
      → event_topic before step.event step.reading ≢ Some t
      → topic_at after.world t ≡ topic_at before.world t
  -- a ticket is by its topic's own clock and the sender's floor; only topics that are named give one
  pub ticket : (n : ℕ) → step.outcome ≡ Outcome.Proposed n
      → (c : ℕ) × (t : Topic) × (step.event ≡ Event.Propose c t) × GivesTicket before.world after.world c t n
  pub named : (c : ℕ) (ticket : Stamp) → In ticket (undecided_at after.world c).given
      → names ticket.topic (topics_of (undecided_at after.world c).txn.sends) ≡ true
  -- a stamp is the greatest of the transaction's tickets, one of each topic that it names
  pub stamp : (stamp : Stamp) (cut : Bool) → step.outcome ≡ Outcome.Decided stamp cut
      → (c : ℕ) × (step.event ≡ Event.Decide c) × GivesStamp before.world after.world c stamp
  -- a Take delivers the next item
  pub delivered : (count : ℕ) → step.outcome ≡ Outcome.Handed count
      → (s : ℕ) × (step.event ≡ Event.Take s) × DeliversNext before.world after.world s count
  -- an outcome that ends a subscription gives its span that end
  pub closes : (s : ℕ) (end : Stamp) → step.outcome ≡ Outcome.Unsubscribed s end
      → end_at after.world s ≡ Some end
  -- a span that had no end has one only where it is closed, or lags where its queue is full
  pub ends : (s : ℕ) (end : Stamp) → end_at before.world s ≡ None → end_at after.world s ≡ Some end
      → (step.outcome ≡ Outcome.Unsubscribed s end) ⊎ LagsFull before.world after.world step.event s end
  -- while a span has no end, its queue gets an item for each row that its topic's log gets: so it ends where
  -- there is no room for one
  pub enters : (s : ℕ) → s < length before.world.subscriptions → end_at after.world s ≡ None
      → length (accepted_at after.world s) + length (log_at before.world (sub_topic before.world s))
      ≡ length (accepted_at before.world s) + length (log_at after.world (sub_topic before.world s))
  -- no queue has more than its capacity that wasn't delivered
  pub bounded : (s : ℕ) → s < length after.world.subscriptions
      → length (accepted_at after.world s) ≤ (subscription_at after.world s).taken + after.world.capacity

-- Each step of a run is so, over all topics with their opening clocks and all capacities.
abbrev pub StepsHaveStepped : Type 0
StepsHaveStepped =
    (topics : TopicList) (capacity : ℕ) (step : CoreStep) (older : List CoreStep)
    → length topics.clocks ≡ length topics.names → IsCoreRun topics capacity (step ∷ older)
    → HasStepped (core_of topics capacity older) (core_of topics capacity (step ∷ older)) step
