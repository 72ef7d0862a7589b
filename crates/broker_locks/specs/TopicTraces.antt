-- What topics leave for a run's trace, and what a yes of the audit says of it.
use Rattle.std.specs.Prelude.{◌≡◌, ◌≢◌, ◌&&◌, ◌++◌, not, ℕ, Bool, List, [], ◌∷◌, map, Option}
use Rattle.std.specs.List.{filter, flat_map}
use Rattle.mcast_txn.specs.declared.id.Topic.{Topic}
use Rattle.mcast_txn.specs.declared.stamp.Stamp.{Stamp}
use Rattle.mcast_txn.specs.Lists.{In}
use Rattle.mcast_txn.specs.Span.{LogRow, in_span, last_stamp, row_mark}
use Rattle.mcast_txn.specs.Stamp.{stamp_lt, zero_stamp}
use Rattle.mcast_txn.specs.TopicSet.{names}
use Rattle.mcast_txn.specs.declared.mark.Mark.{Mark}
use Rattle.trace_audit.specs.declared.row.TraceRow.{TraceRow}
use Rattle.trace_audit.specs.declared.row.TraceRow.TheVariants as row
use Rattle.trace_audit.specs.Explained.{IsExplainedBy}
use Rattle.trace_audit.specs.Rows.{with_row}
use Rattle.trace_audit.specs.Trace.{TraceData, no_trace_data}

-- What is kept of a subscription.
-- number: its number.
-- from: the frontier when it began.
-- to: the last stamp of its own, once it has lagged or was ended.
-- marks: the rows that its source pushed, each as its transaction and stamp.
pub record SubTrace : Type 0 where
  pub number : ℕ
  pub from : Stamp
  pub to : Option Stamp
  pub marks : List Mark

-- What a topic leaves for a trace.
-- topic: the topic.
-- log: all rows that it released, drained or not, in order.
-- subs: its subscriptions, ended ones too, by rising number.
pub record TopicTrace : Type 0 where
  pub topic : Topic
  pub log : List LogRow
  pub subs : List SubTrace

-- the row of a trace for a row of a topic's log
abbrev pub logged_row : Topic → LogRow → TraceRow
logged_row t r = row.Log (record { topic = t; row = r })

-- the rows of a trace for a topic's log
abbrev pub log_rows : Topic → List LogRow → List TraceRow
log_rows t log = map (logged_row t) log

-- the row of a trace for a row of a subscription's queue
abbrev pub queue_row : ℕ → Mark → TraceRow
queue_row number m = row.Queue (record { sub = number; id = m.id; stamp = m.stamp })

-- the rows of a trace for a subscription: its span, and then its queue
abbrev pub sub_rows : Topic → SubTrace → List TraceRow
sub_rows t s =
    row.Span (record { sub = s.number; topic = t; from = s.from; to = s.to })
    ∷ map (queue_row s.number) s.marks

-- the rows of a trace for a topic: its log, and then its subscriptions
abbrev pub topic_rows : TopicTrace → List TraceRow
topic_rows x = log_rows x.topic x.log ++ flat_map (sub_rows x.topic) x.subs

-- a trace with these rows more
abbrev pub with_rows : List TraceRow → TraceData → TraceData
with_rows [] trace = trace
with_rows (r ∷ rows) trace = with_rows rows (with_row r trace)

-- the trace of these topics
abbrev pub topics_trace : List TopicTrace → TraceData
topics_trace topics = with_rows (flat_map topic_rows topics) no_trace_data

-- no item's number is that of a later one
abbrev pub NoneTwice : {X : Type 0} → (X → ℕ) → List X → Type 0
NoneTwice number [] = Unit {0}
NoneTwice {X = X} number (x ∷ xs) = ((y : X) → In y xs → number x ≢ number y) × NoneTwice number xs

-- The topics are those of one run: no topic is there twice, and no subscription's number.
pub record AreOfOneRun (topics : List TopicTrace) : Type 0 where
  pub topics_differ : NoneTwice (λ x. x.topic.0) topics
  pub subs_differ : NoneTwice (λ s. s.number) (flat_map (λ x. x.subs) topics)

-- the row names the topic, lies in the subscription's span, and is at most the frontier
abbrev pub is_due_to : Topic → Stamp → SubTrace → LogRow → Bool
is_due_to t frontier s r =
    names t r.topics && (in_span s.from s.to r.stamp && not (stamp_lt frontier r.stamp))

-- the stamp of the last row that the topic released, or zero
abbrev pub trace_frontier : TopicTrace → Stamp
trace_frontier x = last_stamp zero_stamp x.log

-- Where a list of transactions explains the trace of a run's topics, what each subscription's source has
-- pushed is that list restricted to its topic and span, up to the topic's frontier: the equation of the
-- delivery theorem, in transactions and stamps.
abbrev pub ExplainedIsDue : Type 0
ExplainedIsDue =
    (topics : List TopicTrace) (agreed : List LogRow) → AreOfOneRun topics
    → IsExplainedBy agreed (topics_trace topics)
    → (x : TopicTrace) (s : SubTrace) → In x topics → In s x.subs
    → s.marks ≡ map row_mark (filter (is_due_to x.topic (trace_frontier x) s) agreed)
