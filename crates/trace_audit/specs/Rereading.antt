-- What is printed of a trace is read again.
use Rattle.std.specs.Prelude.{◌≡◌, ℕ, false, ◌==◌, List, [], ◌∷◌}
use Rattle.std.specs.List.{AllByRecursion, filter}
use Rattle.mcast_txn.specs.declared.id.Topic.{Topic}
use Rattle.trace_audit.specs.Parsing.{lines_of, AddsLines}
use Rattle.trace_audit.specs.PrintedRows.{rows_in, text_of, IsReport, NeverFalls}
use Rattle.trace_audit.specs.Rows.{is_misfit, with_row}
use Rattle.trace_audit.specs.Text.{IsRowInRange}
use Rattle.trace_audit.specs.Trace.{TraceData, no_trace_data, log_of, queue_of}
use Rattle.trace_audit.specs.declared.row.TraceRow.{TraceRow}

-- each of these rows fits where it is added, and in order they lead from one trace to the other
abbrev pub AddsRows : List TraceRow → TraceData → TraceData → Type 0
AddsRows [] old new = new ≡ old
AddsRows (r ∷ rows) old new = (is_misfit r old ≡ false) × AddsRows rows (with_row r old) new

-- the traces have the same logs, spans and queues
pub record AreAlike (a b : TraceData) : Type 0 where
  pub logs : (t : Topic) → log_of t a.logs ≡ log_of t b.logs
  pub spans : (sub : ℕ) → filter (λ span. span.sub == sub) a.spans ≡ filter (λ span. span.sub == sub) b.spans
  pub queues : (sub : ℕ) → queue_of sub a.queues ≡ queue_of sub b.queues

-- Where adding rows made a trace, and their numbers are in range, the lines of its rows in a report's order
-- are read as a trace that is alike.
abbrev pub PrintedIsRead : Type 0
PrintedIsRead = (added printed : List TraceRow) (trace : TraceData) → AddsRows added no_trace_data trace
    → AllByRecursion IsRowInRange (rows_in trace) → IsReport printed trace
    → (again : TraceData) × AddsLines (lines_of (text_of printed)) no_trace_data again × AreAlike trace again

-- Where the rows that made a trace were added in a report's order, the lines of its report are read as the
-- very same trace.
abbrev pub SortedIsReadAsItself : Type 0
SortedIsReadAsItself =
    (added printed : List TraceRow) (trace : TraceData) → AddsRows added no_trace_data trace
    → NeverFalls added → AllByRecursion IsRowInRange (rows_in trace) → IsReport printed trace
    → AddsLines (lines_of (text_of printed)) no_trace_data trace
