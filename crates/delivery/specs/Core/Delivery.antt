-- What the core is to deliver: the statement over the steps of a run and its report alone, and that each run
-- of the core's definitions meets it. It mentions no clock, no floor and no pending part.
use Rattle.std.specs.Prelude.{◌≡◌, ℕ, ◌+◌, ◌<◌, ◌≤◌, true, false, List, [], ◌∷◌, ◌++◌, map, length, reverse, slice_get, get_or, Some, None}
use Rattle.std.specs.List.{enumerate_from, last_or}
use Rattle.mcast_txn.specs.declared.id.Topic.{Topic}
use Rattle.mcast_txn.specs.declared.stamp.Stamp.{Stamp}
use Rattle.mcast_txn.specs.Stamp.{stamp_lt}
use Rattle.mcast_txn.specs.Transaction.{topics_of}
use Rattle.mcast_txn.specs.TopicSet.{names}
use Rattle.mcast_txn.specs.Lists.{In}
use Rattle.mcast_txn.specs.Agreed.{CommitRow, committed_id, stamp_of, agreed, EachOnce, SenderOrder}
use Rattle.mcast_txn.specs.Span.{Item}
use Rattle.mcast_group.specs.declared.cause.Cause.TheVariants.{Asked, Lag}
use Rattle.delivery.specs.declared.outcome.Outcome.{Outcome}
use Rattle.delivery.specs.declared.kept.Kept.{Kept}
use Rattle.delivery.specs.Topics.{TopicList}
use Rattle.delivery.specs.Theorem.Due.{log_row, due}
use Rattle.delivery.specs.Theorem.Laws.{shared_marks}
use Rattle.delivery.specs.Core.Steps.{CoreStep, kept_of, names_after, AreReadings}
use Rattle.delivery.specs.Core.Told.{Told, committed, told_log, frontier_of, handed_count, told_of, IsSettled, IsSilent}
use Rattle.delivery.specs.Core.Output.{text_out}
use Rattle.delivery.specs.Core.State.{core_of}
use Rattle.delivery.specs.Core.Outcomes.{IsCoreRun}
use Rattle.delivery.specs.Core.Reports.{QueueReport, Report, report_of, out_in}

-- ---- where spans begin and end

-- the subscriptions that began: of each its number, its topic, and its topic's frontier then
abbrev pub begun_in : List Told → List (ℕ × Topic × Stamp)
begun_in [] = []
begun_in (Told.Subscribed s c t ∷ before) = begun_in before ++ (s, t, frontier_of t before) ∷ []
begun_in (o ∷ before) = begun_in before

-- The span of subscription s ended by lag when this was told, after what was told before (past): a row came
-- to its topic's log for which its queue had no room. So where the queue holds 2 and rows 1, 2 and 3 come
-- before a Take, it ends at row 2's stamp.
-- last: the end is the stamp of the last item that was queued, or the span's beginning where none was.
-- reached, passed: the topic's frontier was at most the end before that row came, and is above it then.
-- full: as many items as the capacity weren't handed on then.
pub record Lags (capacity s : ℕ) (q : QueueReport) (end : Stamp) (by : Told) (past : List Told) : Type 0 where
  pub last : last_or (Some q.span.from) (map (λ (i : Item). i.stamp) q.queued) ≡ Some end
  pub reached : stamp_lt end (frontier_of q.span.topic past) ≡ false
  pub passed : stamp_lt end (frontier_of q.span.topic (by ∷ past)) ≡ true
  pub full : length q.queued ≡ handed_count s past + capacity

-- What is reported of subscription s is as the steps tell it.
-- ended: an end that an UNSUBSCRIBE or a Leave was answered is the end.
-- unended: without a cause there is no end.
-- asked: where an end was asked for, one was answered, and it is the topic's frontier then.
-- lag: an end by lag is that of a full queue, when something was told that is among all that was.
-- exactly_due: what its queue accepted is what is due to it, up to the topic's frontier.
-- handed: of that the front was delivered, as many items as Takes handed on.
-- bounded: at no moment did its queue have more than its capacity that wasn't delivered: of what is due to
-- it, what is at most the topic's frontier then. So where the queue holds 1 and rows 1 and 2 come before a
-- Take, it lags: row 2 isn't due to it, whatever is taken later.
pub record IsAsTold (capacity s : ℕ) (told : List Told) (q : QueueReport) : Type 0 where
  pub ended : (to : Stamp) → In (Told.Unsubscribed s to) told → q.span.to ≡ Some to
  pub unended : q.cause ≡ None → q.span.to ≡ None
  pub asked : q.cause ≡ Some Asked → (later before : List Told) × (to : Stamp)
      × (told ≡ later ++ Told.Unsubscribed s to ∷ before) × (to ≡ frontier_of q.span.topic before)
  pub lag : q.cause ≡ Some Lag → (end : Stamp) × (q.span.to ≡ Some end) × (later past : List Told)
      × (by : Told) × (told ≡ later ++ by ∷ past) × Lags capacity s q end by past
  pub exactly_due : q.queued ≡ due (committed told) q.span (frontier_of q.span.topic told)
  pub handed : (rest : List Item) × (q.queued ≡ q.handed ++ rest) × (length q.handed ≡ handed_count s told)
  pub bounded : (later past : List Told) → told ≡ later ++ past
      → length (due (committed told) q.span (frontier_of q.span.topic past)) ≤ handed_count s past + capacity

-- ---- what is delivered

-- What is delivered, by what the steps of the run tell and by the capacity of its queues.
-- `proofs/Core/DeliveredRow` has a run that meets it, and reports that don't.
pub record Delivers (capacity : ℕ) (told : List Told) (r : Report) : Type 0 where
  -- the commits in the order of Decide; no id and no stamp is there twice; each sender's are in its order
  pub commits : r.commits ≡ map log_row (committed told)
  pub each_once : EachOnce committed_id stamp_of (agreed (committed told))
  pub fifo_order : SenderOrder committed_id (agreed (committed told))
  -- each log is as many rows of the agreed sequence as were released: none where the topic isn't there
  pub logs : (t : Topic) → get_or r.logs t.0 [] ≡ told_log t told
  -- each subscription begins where its topic's log ended then; its end, its queue and what was delivered of
  -- it are as told
  pub begins : begun_in told
      ≡ map (λ (p : ℕ × QueueReport). (p.0, p.1.span.topic, p.1.span.from)) (enumerate_from 0 r.subscriptions)
  pub queues : (s : ℕ) (q : QueueReport) → slice_get r.subscriptions s ≡ Some q → IsAsTold capacity s told q
  -- two subscriptions have what they share in one order
  pub total_order : (p q : QueueReport) → In p r.subscriptions → In q r.subscriptions
      → shared_marks p.queued q.queued ≡ shared_marks q.queued p.queued
  -- a settled topic's log leaves no committed transaction out
  pub validity : (t : Topic) (row : CommitRow) → IsSettled t told → In row (committed told)
      → names t (topics_of row.txn.sends) ≡ true → In (log_row row) (get_or r.logs t.0 [])
  -- nothing is delivered to a closed subscription, nor to one of a closed connection
  pub silent_after_close : (later before : List Told) (s : ℕ)
      → told ≡ later ++ Told.Handed s ∷ before → IsSilent s before → Prim.⊥

-- ---- what is written

-- the connections that a step opened
abbrev pub opened_by : Outcome → ℕ
opened_by (Outcome.Opened c) = 1
opened_by o = 0

-- how many connections were opened
abbrev pub opened_in : List CoreStep → ℕ
opened_in [] = 0
opened_in (step ∷ older) = opened_in older + opened_by step.outcome

-- What was written, by the steps.
-- output: each connection's octets out are those that the steps say.
-- counts: there is a log of each topic, those that were made among them, and there are octets out of each
-- connection that was opened.
pub record IsWritten (names : List (List ℕ)) (steps : List CoreStep) (r : Report) : Type 0 where
  pub output : (c : ℕ) → c < length r.outs → out_in r c ≡ text_out names c steps
  pub counts : (length r.logs ≡ length (names_after names steps)) × (length r.outs ≡ opened_in steps)

-- The delivery of a run over these topics whose queues have this capacity, and its report: what was read are
-- the first frames of each connection's octets, what its steps tell is delivered, and each connection's octets
-- out are what the steps say. `proofs/Core/WholeRow` has one.
pub record Delivery (topics : TopicList) (capacity : ℕ) (steps : List CoreStep) (r : Report) : Type 0 where
  pub read : AreReadings steps
  pub delivered : Delivers capacity (told_of topics.names steps) r
  pub written : IsWritten topics.names steps r

-- ---- of every run

-- the kept run of these steps, the oldest event first
abbrev pub kept_run : List CoreStep → List Kept
kept_run steps = reverse (map kept_of steps)

-- A kept run has one list of steps: what each Next read is decided by the octets and the outcomes.
abbrev pub StepsAreKept : Type 0
StepsAreKept =
    (topics : TopicList) (capacity : ℕ) (steps others : List CoreStep) → IsCoreRun topics capacity steps
    → IsCoreRun topics capacity others → kept_run steps ≡ kept_run others → steps ≡ others

-- What each run of the core reports is its delivery, over all topics with their opening clocks, all
-- capacities and all lists of steps that the core may make, refused ones and those without memory among them.
abbrev pub RunsDeliver : Type 0
RunsDeliver =
    (topics : TopicList) (capacity : ℕ) (steps : List CoreStep) → length topics.clocks ≡ length topics.names
    → IsCoreRun topics capacity steps
    → Delivery topics capacity steps (report_of (core_of topics capacity steps))
