-- A trace is explained by one list at most, and by one where nothing speaks against it.
use Rattle.std.proofs.Common.{◌≡◌, ℕ, true, false, List, [], ◌∷◌, ◌++◌, None, refl, sym, subst, append-nil, append_assoc}
use Rattle.std.specs.List.{list_all}
use Rattle.std.proofs.lemmas.Bool.{and_parts, and_from, not-false}
use Rattle.mcast_txn.specs.Span.{LogRow, row_stamp}
use Rattle.mcast_txn.proofs.Sorting.{same_rising}
use Rattle.trace_audit.specs.Explained.{IsExplainedBy}
use Rattle.trace_audit.specs.Faults.{audit_fault}
use Rattle.trace_audit.specs.Inner.Sorting.{IsSortingOf, put_row}
use Rattle.trace_audit.specs.Logs.{TopicRow}
use Rattle.trace_audit.specs.Parsing.{AddsLines}
use Rattle.trace_audit.specs.Rows.{is_misfit, with_row}
use Rattle.trace_audit.specs.Trace.{TraceData, no_trace_data, rows_of, fits}
use Rattle.trace_audit.specs.declared.row.TraceRow.{TraceRow}
use Rattle.trace_audit.specs.declared.row.TraceRow.TheVariants as row
use Rattle.trace_audit.proofs.Putting.{put_sorted, sorting_none}
use Rattle.trace_audit.proofs.Refuting.{explains}

-- two lists that explain a trace are the same
pub one_list : (trace : TraceData) (rows others : List LogRow) → IsExplainedBy rows trace → IsExplainedBy others trace → rows ≡ others
one_list trace rows others p q = same_rising row_stamp rows others p.rises q.rises (λ r i. q.all r (p.of_logs r i)) (λ r i. p.all r (q.of_logs r i))

sorting_from : (all done rows : List LogRow) → IsSortingOf rows done → (sorted : List LogRow) × IsSortingOf sorted (done ++ all)
sorting_from [] done rows s = (rows, subst (λ (z : List LogRow). IsSortingOf rows z) (sym (append-nil done)) s)
sorting_from (r ∷ all) done rows s =
    let more = sorting_from all (done ++ r ∷ []) (put_row r rows) (put_sorted rows done r s) in
    (more.0, subst (λ (z : List LogRow). IsSortingOf more.0 z) (append_assoc done (r ∷ []) all) more.1)

-- ---- rows that were added fit

abbrev Fit : List TopicRow → Type 0
Fit logs = list_all (λ (logged : TopicRow). fits logged) logs ≡ true

fit_push : (logs : List TopicRow) (logged : TopicRow) → Fit logs → fits logged ≡ true → Fit (logs ++ logged ∷ [])
fit_push [] logged f e = and_from (fits logged) true e refl
fit_push (l ∷ logs) logged f e =
    let parts = and_parts (fits l) (list_all (λ (z : TopicRow). fits z) logs) f in
    and_from (fits l) (list_all (λ (z : TopicRow). fits z) (logs ++ logged ∷ [])) parts.0 (fit_push logs logged parts.1 e)

row_fits : (r : TraceRow) (old : TraceData) → is_misfit r old ≡ false → Fit old.logs → Fit (with_row r old).logs
row_fits (row.Log logged) old e f = fit_push old.logs logged f (not-false (fits logged) e)
row_fits (row.Span span) old e f = f
row_fits (row.Queue queued) old e f = f

lines_fit : (texts : List (List ℕ)) (old new : TraceData) → AddsLines texts old new → Fit old.logs → Fit new.logs
lines_fit [] old new e f = subst (λ (z : TraceData). Fit z.logs) (sym e) f
lines_fit (text ∷ texts) old new a f = lines_fit texts (with_row a.0 old) new a.3 (row_fits a.0 old a.2 f)

-- where nothing speaks against a trace that lines add up to, some list explains it
pub some_list : (texts : List (List ℕ)) (trace : TraceData) → AddsLines texts no_trace_data trace → audit_fault trace ≡ None → (rows : List LogRow) × IsExplainedBy rows trace
some_list texts trace a none =
    let s = sorting_from (rows_of trace.logs) [] [] sorting_none in
    (s.0, explains trace trace.logs s.0 refl (lines_fit texts no_trace_data trace a refl) none s.1)
