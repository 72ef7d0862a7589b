-- Traces as plain data: rows of logs, spans and rows of queues, each in the order in which they were added.
use Rattle.std.specs.Prelude.{Bool, true, ◌==◌, ◌&&◌, ℕ, nat_lt, List, [], ◌∷◌, Option, Some, None, map}
use Rattle.std.specs.List.{filter, list_any}
use Rattle.mcast_txn.specs.declared.id.Topic.{Topic}
use Rattle.mcast_txn.specs.Span.{LogRow, in_span, row_mark}
use Rattle.mcast_txn.specs.TopicSet.{names}
use Rattle.trace_audit.specs.Logs.{TopicRow}
use Rattle.mcast_txn.specs.declared.mark.Mark.{Mark}
use Rattle.trace_audit.specs.declared.row.SpanRow.{SpanRow}
use Rattle.trace_audit.specs.declared.row.QueueRow.{QueueRow}

-- what a trace has
pub record TraceData : Type 0 where
  pub logs : List TopicRow
  pub spans : List SpanRow
  pub queues : List QueueRow

-- no rows
abbrev pub no_trace_data : TraceData
no_trace_data = record { logs = []; spans = []; queues = [] }

-- the rows of all logs
abbrev pub rows_of : List TopicRow → List LogRow
rows_of logs = map (λ logged. logged.row) logs

-- a topic's log
abbrev pub log_of : Topic → List TopicRow → List LogRow
log_of t logs = rows_of (filter (λ logged. logged.topic.0 == t.0) logs)

-- a queue row's mark
abbrev pub queue_mark : QueueRow → Mark
queue_mark queued = record { id = queued.id; stamp = queued.stamp }

-- a subscription's queue
abbrev pub queue_of : ℕ → List QueueRow → List Mark
queue_of sub queues = map queue_mark (filter (λ queued. queued.sub == sub) queues)

-- what of its topic's log lies in a span
abbrev pub marks_in : SpanRow → List TopicRow → List Mark
marks_in span logs =
    map row_mark (filter (λ row. in_span span.from span.to row.stamp) (log_of span.topic logs))

-- each topic is above the one before it, and the first above this one; so (1), 2 and 5 rise, and (2), 2 don't
abbrev pub rise_after : Option Topic → List Topic → Bool
rise_after last [] = true
rise_after None (t ∷ topics) = rise_after (Some t) topics
rise_after (Some u) (t ∷ topics) = nat_lt u.0 t.0 && rise_after (Some t) topics

-- its topics rise, and the log's own is one of them
abbrev pub fits : TopicRow → Bool
fits logged = rise_after None logged.row.topics && names logged.topic logged.row.topics

-- there is a span of this subscription
abbrev pub has_span : ℕ → List SpanRow → Bool
has_span sub spans = list_any (λ span. span.sub == sub) spans
