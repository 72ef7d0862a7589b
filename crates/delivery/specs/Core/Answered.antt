-- What is delivered, in the words of the machine's answers: the statement over the account of a run and its
-- report of which `Core/Delivery` says the same in fewer words. Here each item that was handed on is told
-- with all that it holds, and an end that was asked for is at the frontier of the topic that the account
-- says.
use Rattle.std.specs.Prelude.{◌≡◌, ℕ, ◌+◌, ◌≤◌, true, false, List, [], ◌∷◌, ◌++◌, map, length, slice_get, Some, None}
use Rattle.mcast_txn.specs.declared.id.Topic.{Topic}
use Rattle.mcast_txn.specs.declared.stamp.Stamp.{Stamp}
use Rattle.mcast_txn.specs.Stamp.{zero_stamp, stamp_lt}
use Rattle.mcast_txn.specs.Transaction.{topics_of}
use Rattle.mcast_txn.specs.TopicSet.{names}
use Rattle.mcast_txn.specs.Lists.{In}
use Rattle.mcast_txn.specs.Agreed.{CommitRow, committed_id, stamp_of, agreed, EachOnce, SenderOrder}
use Rattle.mcast_txn.specs.Span.{Item, last_stamp}
use Rattle.mcast_group.specs.declared.cause.Cause.TheVariants.{Asked, Lag}
use Rattle.delivery.specs.Topics.{TopicList}
use Rattle.delivery.specs.Machine.Moves.{Answer}
use Rattle.delivery.specs.Machine.Runs.{commits_of, delivered_items}
use Rattle.delivery.specs.Theorem.Due.{log_row, due}
use Rattle.delivery.specs.Theorem.Laws.{shared_marks}
use Rattle.delivery.specs.Theorem.Settled.{IsSettled, IsSilent}
use Rattle.delivery.specs.Core.Steps.{CoreStep}
use Rattle.delivery.specs.Core.Account.{released_log, released_frontier, beginning_of, account_of}
use Rattle.delivery.specs.Core.State.{core_of}
use Rattle.delivery.specs.Core.Outcomes.{IsCoreRun}
use Rattle.delivery.specs.Core.Reports.{QueueReport, Report, report_of, log_in}

-- ---- where spans begin and end

-- the subscriptions that began: of each its number, its topic, and its topic's frontier then
abbrev pub begun_in : List Answer → List (ℕ × Topic × Stamp)
begun_in [] = []
begun_in (Answer.Subscribed s c t from ∷ before) = begun_in before ++ (s, t, released_frontier t before) ∷ []
begun_in (o ∷ before) = begun_in before

-- the same of a report, where the first has number i
abbrev pub reported_begun : ℕ → List QueueReport → List (ℕ × Topic × Stamp)
reported_begun i [] = []
reported_begun i (q ∷ qs) = (i, q.span.topic, q.span.from) ∷ reported_begun (i + 1) qs

-- the stamp of the last of these items, or else this one
abbrev pub last_queued : Stamp → List Item → Stamp
last_queued from [] = from
last_queued from (item ∷ items) = last_queued item.stamp items

-- The span of subscription s ended by lag: a row came to its topic's log for which its queue had no room. So
-- where the queue holds 2 and rows 1, 2 and 3 come before a Take, it ends at row 2's stamp.
-- before, by, later: the account before the answer by which that row came, this answer, and the account
-- since.
-- last: the end is the stamp of the last item that was queued, or the span's beginning where none was.
-- reached, passed: the topic's frontier was at most the end before that answer, and is above it then.
-- full: as many items as the capacity weren't delivered then.
pub record LagsAsAnswered (capacity s : ℕ) (account : List Answer) (q : QueueReport) (end : Stamp)
    : Type 0 where
  pub later : List Answer
  pub by : Answer
  pub before : List Answer
  pub account_is : account ≡ later ++ by ∷ before
  pub last : end ≡ last_queued q.span.from q.queued
  pub reached : stamp_lt end (released_frontier q.span.topic before) ≡ false
  pub passed : stamp_lt end (released_frontier q.span.topic (by ∷ before)) ≡ true
  pub full : length q.queued ≡ length (delivered_items s before) + capacity

-- What is reported of subscription s is as the account tells it.
-- told: an end that an UNSUBSCRIBE or a Leave was answered is the end.
-- unended: without a cause there is no end.
-- asked: where an end was asked for, one was answered, and it is the topic's frontier then.
-- lag: an end by lag is that of a full queue.
-- exactly_due: what its queue accepted is what is due to it.
-- handed, handed_prefix: what was delivered is what Takes delivered, the front of the queue.
-- bounded: at no moment did the queue have more than its capacity that wasn't delivered: of what is due,
-- what is at most the topic's frontier then.
pub record IsAsAnswered (capacity s : ℕ) (account : List Answer) (r : Report) (q : QueueReport) : Type 0 where
  pub told : (to : Stamp) → In (Answer.Unsubscribed s to) account → q.span.to ≡ Some to
  pub unended : q.cause ≡ None → q.span.to ≡ None
  pub asked : q.cause ≡ Some Asked → (later before : List Answer) × (to : Stamp)
      × (account ≡ later ++ Answer.Unsubscribed s to ∷ before)
      × (to ≡ released_frontier (beginning_of s before).topic before)
  pub lag : q.cause ≡ Some Lag → (end : Stamp) × (q.span.to ≡ Some end)
      × LagsAsAnswered capacity s account q end
  pub exactly_due : q.queued ≡ due (commits_of account) q.span (last_stamp zero_stamp (log_in r q.span.topic))
  pub handed : q.handed ≡ delivered_items s account
  pub handed_prefix : (rest : List Item) × (q.queued ≡ q.handed ++ rest)
  pub bounded : (later before : List Answer) → account ≡ later ++ before
      → length (due (commits_of account) q.span (released_frontier q.span.topic before))
      ≤ length (delivered_items s before) + capacity

-- ---- what is delivered

-- What is delivered, by the account of the run and the capacity of its queues.
pub record DeliversAnswers (capacity : ℕ) (account : List Answer) (r : Report) : Type 0 where
  -- the commits in the order of Decide; no id and no stamp is there twice; each sender's are in its order
  pub commits : r.commits ≡ map log_row (commits_of account)
  pub each_once : EachOnce committed_id stamp_of (agreed (commits_of account))
  pub fifo_order : SenderOrder committed_id (agreed (commits_of account))
  -- each log is as many rows of the agreed sequence as were released
  pub logs : (t : Topic) → log_in r t ≡ released_log t account
  -- each subscription begins where its topic's log ended then; its end, its queue and what was delivered of
  -- it are as told
  pub begins : reported_begun 0 r.subscriptions ≡ begun_in account
  pub queues : (s : ℕ) (q : QueueReport) → slice_get r.subscriptions s ≡ Some q
      → IsAsAnswered capacity s account r q
  -- two subscriptions have what they share in one order
  pub total_order : (p q : QueueReport) → In p r.subscriptions → In q r.subscriptions
      → shared_marks p.queued q.queued ≡ shared_marks q.queued p.queued
  -- a settled topic's log leaves no committed transaction out
  pub validity : (t : Topic) (row : CommitRow) → IsSettled t account → In row (commits_of account)
      → names t (topics_of row.txn.sends) ≡ true → In (log_row row) (log_in r t)
  -- nothing is delivered to a closed subscription, nor to one of a closed connection
  pub silent_after_close : (later before : List Answer) (s : ℕ) (item : Item)
      → account ≡ later ++ Answer.Handed s item ∷ before → IsSilent s before → Prim.⊥

-- What each run of the core reports is delivered by its account, over all topics with their opening clocks,
-- all capacities and all lists of steps that the core may make.
abbrev pub RunsDeliverAnswers : Type 0
RunsDeliverAnswers =
    (topics : TopicList) (capacity : ℕ) (steps : List CoreStep) → length topics.clocks ≡ length topics.names
    → IsCoreRun topics capacity steps
    → DeliversAnswers capacity (account_of topics.names steps) (report_of (core_of topics capacity steps))
