-- What it is that a list of transactions explains a trace. Nothing here knows of a checker.
use Rattle.std.specs.Prelude.{◌≡◌, ◌≢◌, ◌&&◌, true, List, [], Some}
use Rattle.std.specs.List.{filter}
use Rattle.mcast_txn.specs.declared.id.Topic.{Topic}
use Rattle.mcast_txn.specs.Agreed.{SenderOrder}
use Rattle.mcast_txn.specs.Lists.{In, Rises}
use Rattle.mcast_txn.specs.Span.{LogRow, row_id, row_stamp, last_stamp, up_to}
use Rattle.mcast_txn.specs.Stamp.{zero_stamp}
use Rattle.mcast_txn.specs.TopicSet.{names}
use Rattle.trace_audit.specs.declared.row.SpanRow.{SpanRow}
use Rattle.trace_audit.specs.Trace.{TraceData, rows_of, log_of, queue_of, marks_in}

-- of a list of rows those that name t, up to the last stamp of a log
abbrev pub rows_at : Topic → List LogRow → List LogRow → List LogRow
rows_at t log rows =
    filter (λ row. names t row.topics && up_to (Some (last_stamp zero_stamp log)) row.stamp) rows

-- The list is the distinct rows of all logs by rising stamp, and the trace agrees with it: each sender's
-- transactions come in its order, each log is the list restricted to its topic, and each queue is its
-- topic's log restricted to its span. The worked traces are in proofs/Examples.antt.
pub record IsExplainedBy (rows : List LogRow) (trace : TraceData) : Type 0 where
  -- it rises strictly in stamp
  pub rises : Rises row_stamp rows
  -- each row of it is in a log
  pub of_logs : (row : LogRow) → In row rows → In row (rows_of trace.logs)
  -- each row of a log is in it
  pub all : (row : LogRow) → In row (rows_of trace.logs) → In row rows
  -- each sender's transactions come in its order
  pub senders : SenderOrder row_id rows
  -- each log that isn't empty is the list restricted to its topic, up to the log's last stamp
  pub logs : (t : Topic) → log_of t trace.logs ≢ [] →
      log_of t trace.logs ≡ rows_at t (log_of t trace.logs) rows
  -- each queue is its topic's log restricted to its span
  pub queues : (span : SpanRow) → In span trace.spans →
      queue_of span.sub trace.queues ≡ marks_in span trace.logs

-- each row of the list is in the log of each of its topics
abbrev pub IsCompleteBy : List LogRow → TraceData → Type 0
IsCompleteBy rows trace = (row : LogRow) (t : Topic) → In row rows → names t row.topics ≡ true →
    In row (log_of t trace.logs)
