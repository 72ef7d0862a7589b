-- The trace of a net: the rows of its report, as an auditor takes them.
use Rattle.std.specs.Prelude.{◌≡◌, ℕ, ◌<◌, List, map, length}
use Rattle.std.specs.List.{flat_map, enumerate_from}
use Rattle.mcast_txn.specs.declared.id.Topic.{Topic}
use Rattle.mcast_txn.specs.Span.{LogRow}
use Rattle.trace_audit.specs.declared.row.SpanRow.{SpanRow}
use Rattle.trace_audit.specs.declared.row.QueueRow.{QueueRow}
use Rattle.trace_audit.specs.declared.fault.AuditFault.{AuditFault}
use Rattle.trace_audit.specs.Answers.{IsRefusal}
use Rattle.trace_audit.specs.Explained.{IsExplainedBy, IsCompleteBy}
use Rattle.trace_audit.specs.Logs.{TopicRow}
use Rattle.trace_audit.specs.Trace.{TraceData}
use Rattle.delivery.specs.Topics.{TopicList}
use Rattle.delivery.specs.Nets.{KeptRun, account_of_net, core_of_net, HasReport}
use Rattle.delivery.specs.Theorem.Settled.{IsSettled}
use Rattle.delivery.specs.Machine.Moves.{Answer}
use Rattle.delivery.specs.Core.Steps.{CoreStep, names_after}
use Rattle.delivery.specs.Core.Account.{account_of}
use Rattle.delivery.specs.Core.State.{core_of}
use Rattle.delivery.specs.Core.Outcomes.{IsCoreRun}
use Rattle.delivery.specs.Core.Reports.{QueueReport, Report, report_of}

-- ---- what a trace has

-- the log of the topic of number t, as rows of a trace
abbrev pub traced_log : ℕ → List LogRow → List TopicRow
traced_log t rows = map (λ row. record { topic = record { 0 = t }; row = row }) rows

-- the span of subscription s, as a row of a trace
abbrev pub traced_span : ℕ → QueueReport → SpanRow
traced_span s q = record { sub = s; topic = q.span.topic; from = q.span.from; to = q.span.to }

-- what the queue of subscription s accepted, delivered or not, as rows of a trace
abbrev pub traced_queue : ℕ → QueueReport → List QueueRow
traced_queue s q = map (λ item. record { sub = s; id = item.id; stamp = item.stamp }) q.queued

-- The trace of a report: the logs by topic, each in its order, and by subscription the spans and what the
-- queues accepted. So of a closed subscription 0 of topic 0, whose queue accepted what the log has, it is
-- `log 0 0 1 1.0 0`, `span 0 0 0.0 1.0`, `queue 0 0 1 1.0`.
abbrev pub trace_of : Report → TraceData
trace_of r = record {
  logs = flat_map (λ p. traced_log p.0 p.1) (enumerate_from 0 r.logs);
  spans = map (λ p. traced_span p.0 p.1) (enumerate_from 0 r.subscriptions);
  queues = flat_map (λ p. traced_queue p.0 p.1) (enumerate_from 0 r.subscriptions);
}

-- ---- what an auditor finds

-- how many topics a net has: those that it began with, and those that were made since
abbrev pub topic_count : KeptRun → ℕ
topic_count net = length (names_after net.topics.names net.steps)

-- each of so many topics is settled
abbrev pub AllSettled : ℕ → List Answer → Type 0
AllSettled count account = (t : Topic) → t.0 < count → IsSettled t account

-- A list of transactions explains the trace, and it is complete where each of so many topics is settled by
-- this account. `proofs/Traces/Examples` has a run of two topics with its rows.
pub record IsExplained (count : ℕ) (account : List Answer) (trace : TraceData) : Type 0 where
  pub rows : List LogRow
  pub explained : IsExplainedBy rows trace
  pub complete : AllSettled count account → IsCompleteBy rows trace

-- The trace of a net: that of its core's report, which is delivered. It is explained, and complete where all
-- of its topics are settled by the account of its steps.
pub record IsTraced (net : KeptRun) (trace : TraceData) : Type 0 where
  pub is_trace : trace ≡ trace_of (report_of (core_of_net net))
  pub is_delivered : HasReport net
  pub is_explained : IsExplained (topic_count net) (account_of_net net) trace

-- ---- of every run

-- The trace of each run of the core is explained, and complete where all topics are settled: over all topics
-- with their opening clocks, all capacities and all lists of steps that the core may make.
abbrev pub RunsAreExplained : Type 0
RunsAreExplained =
    (topics : TopicList) (capacity : ℕ) (steps : List CoreStep) → length topics.clocks ≡ length topics.names
    → IsCoreRun topics capacity steps
    → IsExplained (length (names_after topics.names steps)) (account_of topics.names steps)
    (trace_of (report_of (core_of topics capacity steps)))

-- no fault is the refusal of a net's trace
abbrev pub TracesAreAccepted : Type 0
TracesAreAccepted =
    (net : KeptRun) (trace : TraceData) (fault : AuditFault)
    → IsTraced net trace → IsRefusal fault trace → Prim.⊥

-- where each topic is settled, whichever rows explain a net's trace are in the logs of all their topics
abbrev pub TracesAreComplete : Type 0
TracesAreComplete =
    (net : KeptRun) (trace : TraceData) → IsTraced net trace
    → AllSettled (topic_count net) (account_of_net net)
    → (rows : List LogRow) → IsExplainedBy rows trace → IsCompleteBy rows trace
