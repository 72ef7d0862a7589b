-- Rows that are added to a trace.
use Rattle.std.specs.Prelude.{Bool, true, false, not, ◌++◌, [], ◌∷◌}
use Rattle.trace_audit.specs.Trace.{TraceData, fits, has_span}
use Rattle.trace_audit.specs.declared.fault.AddFault.{AddFault}
use Rattle.trace_audit.specs.declared.fault.AddFault.TheVariants as add
use Rattle.trace_audit.specs.declared.row.TraceRow.{TraceRow}
use Rattle.trace_audit.specs.declared.row.TraceRow.TheVariants as row

-- The row doesn't fit the trace: a log row whose topics don't rise or aren't its log's, a second span of one
-- subscription, or a queue row before its span.
abbrev pub is_misfit : TraceRow → TraceData → Bool
is_misfit (row.Log logged) trace = not (fits logged)
is_misfit (row.Span span) trace = has_span span.sub trace.spans
is_misfit (row.Queue queued) trace = not (has_span queued.sub trace.spans)

-- the trace with a row at the end of its log or queue, or with one span more
abbrev pub with_row : TraceRow → TraceData → TraceData
with_row (row.Log logged) trace = record trace { logs = trace.logs ++ logged ∷ [] }
with_row (row.Span span) trace = record trace { spans = trace.spans ++ span ∷ [] }
with_row (row.Queue queued) trace = record trace { queues = trace.queues ++ queued ∷ [] }

-- the fault says that the row doesn't fit
abbrev pub says_misfit : AddFault → Bool
says_misfit add.Misfit = true
says_misfit add.NoMemory = false
