-- The text of a trace as it is printed: its rows in the order of a report, a line for each.
use Rattle.std.specs.Prelude.{◌≡◌, ℕ, Bool, false, ◌==◌, ◌&&◌, ◌||◌, nat_lt, List, [], ◌∷◌, ◌++◌, map}
use Rattle.std.specs.List.{filter, flat_map}
use Rattle.trace_audit.specs.Text.{row_text}
use Rattle.trace_audit.specs.Trace.{TraceData}
use Rattle.trace_audit.specs.declared.row.TraceRow.{TraceRow}
use Rattle.trace_audit.specs.declared.row.TraceRow.TheVariants as row

-- the rows of a trace: those of its logs, its spans, and those of its queues
abbrev pub rows_in : TraceData → List TraceRow
rows_in trace =
    map (λ logged. row.Log logged) trace.logs ++ map (λ span. row.Span span) trace.spans
    ++ map (λ queued. row.Queue queued) trace.queues

-- where a row is printed: logs come first, by topic, and then subscriptions, by number
abbrev pub print_key : TraceRow → ℕ × ℕ
print_key (row.Log logged) = (0, logged.topic.0)
print_key (row.Span span) = (1, span.sub)
print_key (row.Queue queued) = (1, queued.sub)

-- the key is smaller: by the first number, and then by the second
abbrev pub key_lt : ℕ × ℕ → ℕ × ℕ → Bool
key_lt a b = nat_lt a.0 b.0 || (a.0 == b.0 && nat_lt a.1 b.1)

-- the row is printed at this key
abbrev pub has_key : ℕ × ℕ → TraceRow → Bool
has_key key r = (print_key r).0 == key.0 && (print_key r).1 == key.1

-- no row has a smaller key than the one before it
abbrev pub NeverFalls : List TraceRow → Type 0
NeverFalls [] = Unit {0}
NeverFalls (r ∷ []) = Unit {0}
NeverFalls (r ∷ next ∷ rows) = (key_lt (print_key next) (print_key r) ≡ false) × NeverFalls (next ∷ rows)

-- The rows by key, and those of one key in their order.
pub record IsSortOf (sorted rows : List TraceRow) : Type 0 where
  pub ordered : NeverFalls sorted
  pub same : (key : ℕ × ℕ) → filter (has_key key) sorted ≡ filter (has_key key) rows

-- These are the rows of the trace in a report's order. So a subscription's span is before its queue, and
-- each log and each queue keeps its order.
abbrev pub IsReport : List TraceRow → TraceData → Type 0
IsReport rows trace = IsSortOf rows (rows_in trace)

-- a line for each row, ended by LF
abbrev pub text_of : List TraceRow → List ℕ
text_of rows = flat_map (λ r. row_text r ++ 10 ∷ []) rows
