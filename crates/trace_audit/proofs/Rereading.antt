-- Rows that fit in one order fit in a report's order, and what is printed is read again.
use Rattle.std.proofs.Common.{◌≡◌, ℕ, ◌<◌, ◌^◌, Bool, true, false, not, cond, ◌&&◌, ◌||◌, ◌==◌, List, [], ◌∷◌, ◌++◌, map, Option, Some, None, refl, sym, ap, ◌∙◌, inl, inr, subst, append_assoc, arith, true≢false}
use Rattle.std.specs.Prelude.{codes, decimal, IfSome}
use Rattle.std.specs.List.{AllByRecursion, filter}
use Rattle.std.proofs.lemmas.Bool.{cases_Bool, and_parts, eq-eqb, eqb-true}
use Rattle.mcast_txn.specs.declared.id.Topic.{Topic}
use Rattle.mcast_txn.specs.declared.id.TxnId.{TxnId}
use Rattle.mcast_txn.specs.declared.stamp.Stamp.{Stamp}
use Rattle.mcast_txn.specs.Lists.{In}
use Rattle.trace_audit.specs.Logs.{TopicRow}
use Rattle.trace_audit.specs.Parsing.{lines_of, AddsLines}
use Rattle.trace_audit.specs.PrintedRows.{rows_in, print_key, has_key, text_of, IsReport}
use Rattle.trace_audit.specs.Rereading.{AddsRows, AreAlike, PrintedIsRead, SortedIsReadAsItself}
use Rattle.trace_audit.specs.Rows.{is_misfit, with_row}
use Rattle.trace_audit.specs.Text.{row_text, id_text, stamp_text, end_text, topics_text, IsTopicInRange, IsIdInRange, IsStampInRange, IsRowInRange}
use Rattle.trace_audit.specs.Trace.{TraceData, no_trace_data, queue_mark, rows_of, has_span}
use Rattle.trace_audit.specs.declared.row.SpanRow.{SpanRow}
use Rattle.trace_audit.specs.declared.row.QueueRow.{QueueRow}
use Rattle.trace_audit.specs.declared.row.TraceRow.{TraceRow}
use Rattle.trace_audit.specs.declared.row.TraceRow.TheVariants as row
use Rattle.trace_audit.proofs.Cuts.{Without, Without-append, lines_first}
use Rattle.trace_audit.proofs.OneReport.{one_report}
use Rattle.trace_audit.proofs.Spelling.{number_without}

-- ---- rows that fit, whatever they lead to

abbrev Fit : List TraceRow → TraceData → Type 0
Fit [] old = Unit {0}
Fit (r ∷ rows) old = (is_misfit r old ≡ false) × Fit rows (with_row r old)

abbrev after : List TraceRow → TraceData → TraceData
after [] old = old
after (r ∷ rows) old = after rows (with_row r old)

fit_from : (rows : List TraceRow) (old new : TraceData) → AddsRows rows old new → Fit rows old × (new ≡ after rows old)
fit_from [] old new a = (tt, a)
fit_from (r ∷ rows) old new a = let f = fit_from rows (with_row r old) new a.1 in ((a.0, f.0), f.1)

-- two traces have a span of the key's subscription, or neither has
abbrev Agree : ℕ × ℕ → TraceData → TraceData → Type 0
Agree key a b = key.0 ≡ 1 → has_span key.1 a.spans ≡ has_span key.1 b.spans

span_more : (sub : ℕ) (spans : List SpanRow) (s : SpanRow) → has_span sub (spans ++ s ∷ []) ≡ (has_span sub spans || s.sub == sub)
span_more sub [] s = go (s.sub == sub)
  where
    go : (b : Bool) → (b || false) ≡ b
    go true = refl
    go false = refl
span_more sub (t ∷ spans) s = rw (span_more sub spans s) (go (t.sub == sub) (has_span sub spans) (s.sub == sub))
  where
    go : (a b c : Bool) → (a || (b || c)) ≡ ((a || b) || c)
    go true b c = refl
    go false b c = refl

or_none : (b : Bool) → (b || false) ≡ b
or_none true = refl
or_none false = refl

both_agree : (key : ℕ × ℕ) (r : TraceRow) (a b : TraceData) → Agree key a b → Agree key (with_row r a) (with_row r b)
both_agree key (row.Log l) a b h = h
both_agree key (row.Span s) a b h = λ e. rw (span_more key.1 a.spans s, span_more key.1 b.spans s, h e) refl
both_agree key (row.Queue q) a b h = h

one_agrees : (key : ℕ × ℕ) (r : TraceRow) (a b : TraceData) → has_key key r ≡ false → Agree key a b → Agree key (with_row r a) b
one_agrees key (row.Log l) a b other h = h
one_agrees key (row.Span s) a b other h = λ e.
    let o : (s.sub == key.1) ≡ false = not_second (1 == key.0) (s.sub == key.1) (eq-eqb 1 key.0 (sym e)) other in
    rw (span_more key.1 a.spans s, o, or_none (has_span key.1 a.spans)) (h e)
  where
    not_second : (a b : Bool) → a ≡ true → (a && b) ≡ false → b ≡ false
    not_second true b e h = h
    not_second false b e h = absurd cc
one_agrees key (row.Queue q) a b other h = h

fits_alike : (key : ℕ × ℕ) (r : TraceRow) (a b : TraceData) → has_key key r ≡ true → Agree key a b → is_misfit r a ≡ is_misfit r b
fits_alike key (row.Log l) a b at h = refl
fits_alike key (row.Span s) a b at h =
    let p = and_parts (1 == key.0) (s.sub == key.1) at in
    rw (eqb-true s.sub key.1 p.1) (h (sym (eqb-true 1 key.0 p.0)))
fits_alike key (row.Queue q) a b at h =
    let p = and_parts (1 == key.0) (q.sub == key.1) at in
    rw (eqb-true q.sub key.1 p.1) (ap not (h (sym (eqb-true 1 key.0 p.0))))

-- the rows of one key fit alone
part_fits : (key : ℕ × ℕ) (rows : List TraceRow) (a b : TraceData) → Agree key a b → Fit rows a → Fit (filter (has_key key) rows) b
part_fits key [] a b h f = tt
part_fits key (r ∷ rows) a b h f = elim (cases_Bool (has_key key r)) [
  | inl at ↦ rw at (sym (fits_alike key r a b at h) ∙ f.0, part_fits key rows (with_row r a) (with_row r b) (both_agree key r a b h) f.1)
  | inr other ↦ rw other (part_fits key rows (with_row r a) b (one_agrees key r a b other h) f.1)
]

filter_twice : (p : TraceRow → Bool) (rows : List TraceRow) → filter p (filter p rows) ≡ filter p rows
filter_twice p [] = refl
filter_twice p (r ∷ rows) = elim (cases_Bool (p r)) [
  | inl at ↦ rw at (rw at (ap (λ (z : List TraceRow). r ∷ z) (filter_twice p rows)))
  | inr other ↦ rw other (filter_twice p rows)
]

part_moves : (key : ℕ × ℕ) (rows : List TraceRow) (a b : TraceData) → Agree key a b → Fit (filter (has_key key) rows) a → Fit (filter (has_key key) rows) b
part_moves key rows a b h f = subst (λ (z : List TraceRow). Fit z b) (filter_twice (has_key key) rows) (part_fits key (filter (has_key key) rows) a b h f)

own_key : (r : TraceRow) → has_key (print_key r) r ≡ true
own_key (row.Log l) = rw (eq-eqb l.topic.0 l.topic.0 refl) refl
own_key (row.Span s) = rw (eq-eqb s.sub s.sub refl) refl
own_key (row.Queue q) = rw (eq-eqb q.sub q.sub refl) refl

kept : (b : Bool) (r : TraceRow) (rows : List TraceRow) (old : TraceData) → b ≡ true → Fit (cond b (r ∷ rows) rows) old → (is_misfit r old ≡ false) × Fit rows (with_row r old)
kept true r rows old e f = f
kept false r rows old e f = absurd cc

dropped : (b : Bool) (r : TraceRow) (rows : List TraceRow) (old : TraceData) → b ≡ false → Fit (cond b (r ∷ rows) rows) old → Fit rows old
dropped true r rows old e f = absurd cc
dropped false r rows old e f = f

-- rows fit where those of each key do
whole_fits : (rows : List TraceRow) (old : TraceData) → ((key : ℕ × ℕ) → Fit (filter (has_key key) rows) old) → Fit rows old
whole_fits [] old h = tt
whole_fits (r ∷ rows) old h =
    let mine = kept (has_key (print_key r) r) r (filter (has_key (print_key r)) rows) old (own_key r) (h (print_key r)) in (
      mine.0,
      whole_fits rows (with_row r old) (λ key. elim (cases_Bool (has_key key r)) [
        | inl at ↦ (kept (has_key key r) r (filter (has_key key) rows) old at (h key)).1
        | inr other ↦ part_moves key rows old (with_row r old) (λ e. sym (one_agrees key r old old other (λ _. refl) e)) (dropped (has_key key r) r (filter (has_key key) rows) old other (h key))
      ]),
    )

-- ---- the lists of a trace

abbrev logs_of : List TraceRow → List TopicRow
logs_of [] = []
logs_of (row.Log l ∷ rows) = l ∷ logs_of rows
logs_of (row.Span s ∷ rows) = logs_of rows
logs_of (row.Queue q ∷ rows) = logs_of rows

abbrev spans_of : List TraceRow → List SpanRow
spans_of [] = []
spans_of (row.Log l ∷ rows) = spans_of rows
spans_of (row.Span s ∷ rows) = s ∷ spans_of rows
spans_of (row.Queue q ∷ rows) = spans_of rows

abbrev queues_of : List TraceRow → List QueueRow
queues_of [] = []
queues_of (row.Log l ∷ rows) = queues_of rows
queues_of (row.Span s ∷ rows) = queues_of rows
queues_of (row.Queue q ∷ rows) = q ∷ queues_of rows

nothing_more : {X : Type 0} (xs : List X) → xs ≡ xs ++ []
nothing_more [] = refl
nothing_more (x ∷ xs) = ap (λ z. x ∷ z) (nothing_more xs)

logs_after : (rows : List TraceRow) (old : TraceData) → (after rows old).logs ≡ old.logs ++ logs_of rows
logs_after [] old = nothing_more old.logs
logs_after (row.Log l ∷ rows) old = logs_after rows (with_row (row.Log l) old) ∙ append_assoc old.logs (l ∷ []) (logs_of rows)
logs_after (row.Span s ∷ rows) old = logs_after rows (with_row (row.Span s) old)
logs_after (row.Queue q ∷ rows) old = logs_after rows (with_row (row.Queue q) old)

spans_after : (rows : List TraceRow) (old : TraceData) → (after rows old).spans ≡ old.spans ++ spans_of rows
spans_after [] old = nothing_more old.spans
spans_after (row.Log l ∷ rows) old = spans_after rows (with_row (row.Log l) old)
spans_after (row.Span s ∷ rows) old = spans_after rows (with_row (row.Span s) old) ∙ append_assoc old.spans (s ∷ []) (spans_of rows)
spans_after (row.Queue q ∷ rows) old = spans_after rows (with_row (row.Queue q) old)

queues_after : (rows : List TraceRow) (old : TraceData) → (after rows old).queues ≡ old.queues ++ queues_of rows
queues_after [] old = nothing_more old.queues
queues_after (row.Log l ∷ rows) old = queues_after rows (with_row (row.Log l) old)
queues_after (row.Span s ∷ rows) old = queues_after rows (with_row (row.Span s) old)
queues_after (row.Queue q ∷ rows) old = queues_after rows (with_row (row.Queue q) old) ∙ append_assoc old.queues (q ∷ []) (queues_of rows)

abbrev at_topic : ℕ → TopicRow → Bool
at_topic t l = l.topic.0 == t

logs_at : (t : ℕ) (rows : List TraceRow) → filter (at_topic t) (logs_of rows) ≡ logs_of (filter (has_key (0, t)) rows)
logs_at t [] = refl
logs_at t (row.Log l ∷ rows) = elim (cases_Bool (l.topic.0 == t)) [
  | inl at ↦ rw (at, logs_at t rows) refl
  | inr other ↦ rw (other, logs_at t rows) refl
]
logs_at t (row.Span s ∷ rows) = logs_at t rows
logs_at t (row.Queue q ∷ rows) = logs_at t rows

spans_at : (k : ℕ) (rows : List TraceRow) → filter (λ (s : SpanRow). s.sub == k) (spans_of rows) ≡ spans_of (filter (has_key (1, k)) rows)
spans_at k [] = refl
spans_at k (row.Log l ∷ rows) = spans_at k rows
spans_at k (row.Span s ∷ rows) = elim (cases_Bool (s.sub == k)) [
  | inl at ↦ rw (at, spans_at k rows) refl
  | inr other ↦ rw (other, spans_at k rows) refl
]
spans_at k (row.Queue q ∷ rows) = elim (cases_Bool (q.sub == k)) [
  | inl at ↦ rw (at, spans_at k rows) refl
  | inr other ↦ rw (other, spans_at k rows) refl
]

queues_at : (k : ℕ) (rows : List TraceRow) → filter (λ (q : QueueRow). q.sub == k) (queues_of rows) ≡ queues_of (filter (has_key (1, k)) rows)
queues_at k [] = refl
queues_at k (row.Log l ∷ rows) = queues_at k rows
queues_at k (row.Span s ∷ rows) = elim (cases_Bool (s.sub == k)) [
  | inl at ↦ rw (at, queues_at k rows) refl
  | inr other ↦ rw (other, queues_at k rows) refl
]
queues_at k (row.Queue q ∷ rows) = elim (cases_Bool (q.sub == k)) [
  | inl at ↦ rw (at, queues_at k rows) refl
  | inr other ↦ rw (other, queues_at k rows) refl
]

-- ---- the rows of a trace

logs_append : (xs ys : List TraceRow) → logs_of (xs ++ ys) ≡ logs_of xs ++ logs_of ys
logs_append [] ys = refl
logs_append (row.Log l ∷ xs) ys = ap (λ (z : List TopicRow). l ∷ z) (logs_append xs ys)
logs_append (row.Span s ∷ xs) ys = logs_append xs ys
logs_append (row.Queue q ∷ xs) ys = logs_append xs ys

logs_there : (xs : List TopicRow) → logs_of (map (λ (l : TopicRow). row.Log l) xs) ≡ xs
logs_there [] = refl
logs_there (l ∷ xs) = ap (λ (z : List TopicRow). l ∷ z) (logs_there xs)

logs_not_spans : (xs : List SpanRow) → logs_of (map (λ (s : SpanRow). row.Span s) xs) ≡ []
logs_not_spans [] = refl
logs_not_spans (s ∷ xs) = logs_not_spans xs

logs_not_queues : (xs : List QueueRow) → logs_of (map (λ (q : QueueRow). row.Queue q) xs) ≡ []
logs_not_queues [] = refl
logs_not_queues (q ∷ xs) = logs_not_queues xs

spans_append : (xs ys : List TraceRow) → spans_of (xs ++ ys) ≡ spans_of xs ++ spans_of ys
spans_append [] ys = refl
spans_append (row.Log l ∷ xs) ys = spans_append xs ys
spans_append (row.Span s ∷ xs) ys = ap (λ (z : List SpanRow). s ∷ z) (spans_append xs ys)
spans_append (row.Queue q ∷ xs) ys = spans_append xs ys

spans_not_logs : (xs : List TopicRow) → spans_of (map (λ (l : TopicRow). row.Log l) xs) ≡ []
spans_not_logs [] = refl
spans_not_logs (l ∷ xs) = spans_not_logs xs

spans_there : (xs : List SpanRow) → spans_of (map (λ (s : SpanRow). row.Span s) xs) ≡ xs
spans_there [] = refl
spans_there (s ∷ xs) = ap (λ (z : List SpanRow). s ∷ z) (spans_there xs)

spans_not_queues : (xs : List QueueRow) → spans_of (map (λ (q : QueueRow). row.Queue q) xs) ≡ []
spans_not_queues [] = refl
spans_not_queues (q ∷ xs) = spans_not_queues xs

queues_append : (xs ys : List TraceRow) → queues_of (xs ++ ys) ≡ queues_of xs ++ queues_of ys
queues_append [] ys = refl
queues_append (row.Log l ∷ xs) ys = queues_append xs ys
queues_append (row.Span s ∷ xs) ys = queues_append xs ys
queues_append (row.Queue q ∷ xs) ys = ap (λ (z : List QueueRow). q ∷ z) (queues_append xs ys)

queues_not_logs : (xs : List TopicRow) → queues_of (map (λ (l : TopicRow). row.Log l) xs) ≡ []
queues_not_logs [] = refl
queues_not_logs (l ∷ xs) = queues_not_logs xs

queues_not_spans : (xs : List SpanRow) → queues_of (map (λ (s : SpanRow). row.Span s) xs) ≡ []
queues_not_spans [] = refl
queues_not_spans (s ∷ xs) = queues_not_spans xs

queues_there : (xs : List QueueRow) → queues_of (map (λ (q : QueueRow). row.Queue q) xs) ≡ xs
queues_there [] = refl
queues_there (q ∷ xs) = ap (λ (z : List QueueRow). q ∷ z) (queues_there xs)

abbrev log_rows : TraceData → List TraceRow
log_rows trace = map (λ (l : TopicRow). row.Log l) trace.logs

abbrev span_rows : TraceData → List TraceRow
span_rows trace = map (λ (s : SpanRow). row.Span s) trace.spans

abbrev queue_rows : TraceData → List TraceRow
queue_rows trace = map (λ (q : QueueRow). row.Queue q) trace.queues

logs_in : (trace : TraceData) → logs_of (rows_in trace) ≡ trace.logs
logs_in trace =
    logs_append (log_rows trace ++ span_rows trace) (queue_rows trace)
    ∙ ap (λ (z : List TopicRow). z ++ logs_of (queue_rows trace)) (logs_append (log_rows trace) (span_rows trace))
    ∙ rw (logs_there trace.logs, logs_not_spans trace.spans, logs_not_queues trace.queues) (sym (nothing_more (trace.logs ++ [])) ∙ sym (nothing_more trace.logs))

spans_in : (trace : TraceData) → spans_of (rows_in trace) ≡ trace.spans
spans_in trace =
    spans_append (log_rows trace ++ span_rows trace) (queue_rows trace)
    ∙ ap (λ (z : List SpanRow). z ++ spans_of (queue_rows trace)) (spans_append (log_rows trace) (span_rows trace))
    ∙ rw (spans_not_logs trace.logs, spans_there trace.spans, spans_not_queues trace.queues) (sym (nothing_more trace.spans))

queues_in : (trace : TraceData) → queues_of (rows_in trace) ≡ trace.queues
queues_in trace =
    queues_append (log_rows trace ++ span_rows trace) (queue_rows trace)
    ∙ ap (λ (z : List QueueRow). z ++ queues_of (queue_rows trace)) (queues_append (log_rows trace) (span_rows trace))
    ∙ rw (queues_not_logs trace.logs, queues_not_spans trace.spans, queues_there trace.queues) (refl)

-- ---- what is printed

in_filter : (p : TraceRow → Bool) (r : TraceRow) (xs : List TraceRow) → p r ≡ true → In r xs → In r (filter p xs)
in_filter p r [] at i = i
in_filter p r (x ∷ xs) at (inl e) = rw (ap p e ∙ at) (inl e)
in_filter p r (x ∷ xs) at (inr k) = elim (cases_Bool (p x)) [
  | inl t ↦ rw t (inr (in_filter p r xs at k))
  | inr f ↦ rw f (in_filter p r xs at k)
]

of_filter : (p : TraceRow → Bool) (r : TraceRow) (xs : List TraceRow) → In r (filter p xs) → In r xs
of_filter p r [] i = i
of_filter p r (x ∷ xs) i = go (p x) i (λ k. of_filter p r xs k)
  where
    go : (b : Bool) → In r (cond b (x ∷ filter p xs) (filter p xs)) → (In r (filter p xs) → In r xs) → In r (x ∷ xs)
    go true (inl e) later = inl e
    go true (inr k) later = inr (later k)
    go false k later = inr (later k)

one_of : (r : TraceRow) (xs : List TraceRow) → AllByRecursion IsRowInRange xs → In r xs → IsRowInRange r
one_of r [] a i = absurd i
one_of r (x ∷ xs) a (inl e) = subst IsRowInRange e a.0
one_of r (x ∷ xs) a (inr k) = one_of r xs a.1 k

all_of : (xs : List TraceRow) → ((r : TraceRow) → In r xs → IsRowInRange r) → AllByRecursion IsRowInRange xs
all_of [] h = tt
all_of (x ∷ xs) h = (h x (inl refl), all_of xs (λ r k. h r (inr k)))

printed_in_range : (printed : List TraceRow) (trace : TraceData) → IsReport printed trace → AllByRecursion IsRowInRange (rows_in trace) → AllByRecursion IsRowInRange printed
printed_in_range printed trace s a = all_of printed (λ r k.
    let there = in_filter (has_key (print_key r)) r printed (own_key r) k in
    one_of r (rows_in trace) a (of_filter (has_key (print_key r)) r (rows_in trace) (subst (In r) (s.same (print_key r)) there)))

-- a line has no LF
then : (xs ys : List ℕ) → Without 10 xs → Without 10 ys → Without 10 (xs ++ 32 ∷ ys)
then xs ys v w = Without-append 10 xs (32 ∷ ys) v ((λ e. cc), w)

number_line : (n : ℕ) → n < 2 ^ 64 → Without 10 (decimal n)
number_line n lt = number_without 10 n (omega arith) lt

topic_line : (t : Topic) → IsTopicInRange t → Without 10 (decimal t.0)
topic_line t lt = number_line t.0 (omega arith)

id_line : (id : TxnId) → IsIdInRange id → Without 10 (id_text id)
id_line id i = then (decimal id.sender.0) (decimal id.seq) (number_line id.sender.0 i.0) (number_line id.seq i.1)

stamp_line : (s : Stamp) → IsStampInRange s → Without 10 (stamp_text s)
stamp_line s i = Without-append 10 (decimal s.n) (46 ∷ decimal s.topic.0) (number_line s.n i.0) ((λ e. cc), topic_line s.topic i.1)

end_line : (to : Option Stamp) → IfSome to IsStampInRange → Without 10 (end_text to)
end_line None i = ((λ e. cc), tt)
end_line (Some s) i = stamp_line s i

topics_line : (ts : List Topic) → AllByRecursion IsTopicInRange ts → Without 10 (topics_text ts)
topics_line [] i = tt
topics_line (t ∷ []) i = topic_line t i.0
topics_line (t ∷ u ∷ ts) i = Without-append 10 (decimal t.0) (44 ∷ topics_text (u ∷ ts)) (topic_line t i.0) ((λ e. cc), topics_line (u ∷ ts) i.1)

row_line : (r : TraceRow) → IsRowInRange r → Without 10 (row_text r)
row_line (row.Log l) i =
    let n = i.1 in
    let stamped = then (stamp_text l.row.stamp) (topics_text l.row.topics) (stamp_line l.row.stamp n.1) (topics_line l.row.topics n.2) in
    let txn = then (id_text l.row.id) (stamp_text l.row.stamp ++ 32 ∷ topics_text l.row.topics) (id_line l.row.id n.0) stamped in
    then (codes "log") (decimal l.topic.0 ++ 32 ∷ (id_text l.row.id ++ 32 ∷ (stamp_text l.row.stamp ++ 32 ∷ topics_text l.row.topics)))
    ((λ e. cc), ((λ e. cc), ((λ e. cc), tt)))
    (then (decimal l.topic.0) (id_text l.row.id ++ 32 ∷ (stamp_text l.row.stamp ++ 32 ∷ topics_text l.row.topics)) (topic_line l.topic i.0) txn)
row_line (row.Span s) i =
    let ends = then (stamp_text s.from) (end_text s.to) (stamp_line s.from i.2) (end_line s.to i.3) in
    let at = then (decimal s.topic.0) (stamp_text s.from ++ 32 ∷ end_text s.to) (topic_line s.topic i.1) ends in
    then (codes "span") (decimal s.sub ++ 32 ∷ (decimal s.topic.0 ++ 32 ∷ (stamp_text s.from ++ 32 ∷ end_text s.to)))
    ((λ e. cc), ((λ e. cc), ((λ e. cc), ((λ e. cc), tt))))
    (then (decimal s.sub) (decimal s.topic.0 ++ 32 ∷ (stamp_text s.from ++ 32 ∷ end_text s.to)) (number_line s.sub i.0) at)
row_line (row.Queue q) i =
    let txn = then (id_text q.id) (stamp_text q.stamp) (id_line q.id i.1) (stamp_line q.stamp i.2) in
    then (codes "queue") (decimal q.sub ++ 32 ∷ (id_text q.id ++ 32 ∷ stamp_text q.stamp))
    ((λ e. cc), ((λ e. cc), ((λ e. cc), ((λ e. cc), ((λ e. cc), tt)))))
    (then (decimal q.sub) (id_text q.id ++ 32 ∷ stamp_text q.stamp) (number_line q.sub i.0) txn)

text_adds : (rows : List TraceRow) (old : TraceData) → Fit rows old → AllByRecursion IsRowInRange rows → AddsLines (lines_of (text_of rows)) old (after rows old)
text_adds [] old f i = refl
text_adds (r ∷ rows) old f i =
    let lines : lines_of (text_of (r ∷ rows)) ≡ row_text r ∷ lines_of (text_of rows) =
    ap lines_of (append_assoc (row_text r) (10 ∷ []) (text_of rows)) ∙ lines_first (row_text r) (text_of rows) (row_line r i.0) in
    subst (λ (z : List (List ℕ)). AddsLines z old (after rows (with_row r old))) (sym lines)
    (r, (refl, i.0), f.0, text_adds rows (with_row r old) f.1 i.1)

-- ---- the same logs, spans and queues

alike : (printed : List TraceRow) (trace : TraceData) → IsReport printed trace → AreAlike trace (after printed no_trace_data)
alike printed trace s = record {
  logs = λ t. ap rows_of
      (ap (filter (at_topic t.0)) (sym (logs_in trace)) ∙ logs_at t.0 (rows_in trace) ∙ ap logs_of (sym (s.same (0, t.0)))
      ∙ sym (logs_at t.0 printed) ∙ ap (filter (at_topic t.0)) (sym (logs_after printed no_trace_data)));
  spans = λ k.
      ap (filter (λ (z : SpanRow). z.sub == k)) (sym (spans_in trace)) ∙ spans_at k (rows_in trace) ∙ ap spans_of (sym (s.same (1, k)))
      ∙ sym (spans_at k printed) ∙ ap (filter (λ (z : SpanRow). z.sub == k)) (sym (spans_after printed no_trace_data));
  queues = λ k. ap (map queue_mark)
      (ap (filter (λ (z : QueueRow). z.sub == k)) (sym (queues_in trace)) ∙ queues_at k (rows_in trace) ∙ ap queues_of (sym (s.same (1, k)))
      ∙ sym (queues_at k printed) ∙ ap (filter (λ (z : QueueRow). z.sub == k)) (sym (queues_after printed no_trace_data)));
}

-- ---- one group of rows as the trace has it

abbrev AllAt : ℕ × ℕ → List TraceRow → Type 0
AllAt key rows = AllByRecursion (λ r. has_key key r ≡ true) rows

all_at : (key : ℕ × ℕ) (rows : List TraceRow) → AllAt key (filter (has_key key) rows)
all_at key [] = tt
all_at key (r ∷ rows) = elim (cases_Bool (has_key key r)) [
  | inl at ↦ rw at (at, all_at key rows)
  | inr other ↦ rw other (all_at key rows)
]

only_logs : (key : ℕ × ℕ) (g : List TraceRow) → AllAt key g → key.0 ≡ 0
    → (map (λ (l : TopicRow). row.Log l) (logs_of g) ≡ g) × (spans_of g ≡ []) × (queues_of g ≡ [])
only_logs key [] a e = (refl, refl, refl)
only_logs key (row.Log l ∷ g) a e = let h = only_logs key g a.1 e in (ap (λ (z : List TraceRow). row.Log l ∷ z) h.0, h.1, h.2)
only_logs key (row.Span s ∷ g) a e = absurd (let p = eqb-true 1 key.0 (and_parts (1 == key.0) (s.sub == key.1) a.0).0 in omega arith)
only_logs key (row.Queue q ∷ g) a e = absurd (let p = eqb-true 1 key.0 (and_parts (1 == key.0) (q.sub == key.1) a.0).0 in omega arith)

only_queues : (key : ℕ × ℕ) (g : List TraceRow) (old : TraceData) → AllAt key g → key.0 ≡ 1 → has_span key.1 old.spans ≡ true → Fit g old
    → (logs_of g ≡ []) × (spans_of g ≡ []) × (map (λ (q : QueueRow). row.Queue q) (queues_of g) ≡ g)
only_queues key [] old a e h f = (refl, refl, refl)
only_queues key (row.Log l ∷ g) old a e h f = absurd (let p = eqb-true 0 key.0 (and_parts (0 == key.0) (l.topic.0 == key.1) a.0).0 in omega arith)
only_queues key (row.Span s ∷ g) old a e h f =
    let p = eqb-true s.sub key.1 (and_parts (1 == key.0) (s.sub == key.1) a.0).1 in
    absurd (true≢false (sym h ∙ ap (λ (z : ℕ). has_span z old.spans) (sym p) ∙ f.0))
only_queues key (row.Queue q ∷ g) old a e h f =
    let r = only_queues key g (with_row (row.Queue q) old) a.1 e h f.1 in
    (r.0, r.1, ap (λ (z : List TraceRow). row.Queue q ∷ z) r.2)

abbrev by_kind : List TraceRow → List TraceRow
by_kind g =
    map (λ (l : TopicRow). row.Log l) (logs_of g) ++ map (λ (s : SpanRow). row.Span s) (spans_of g)
    ++ map (λ (q : QueueRow). row.Queue q) (queues_of g)

-- rows of one key that fit are logs alone, or a span and then its queue
group_by_kind : (key : ℕ × ℕ) (g : List TraceRow) → AllAt key g → Fit g no_trace_data → by_kind g ≡ g
group_by_kind key [] a f = refl
group_by_kind key (row.Log l ∷ g) a f =
    let e = eqb-true 0 key.0 (and_parts (0 == key.0) (l.topic.0 == key.1) a.0).0 in
    let h = only_logs key g a.1 (sym e) in
    rw (h.1, h.2) (sym (nothing_more (row.Log l ∷ map (λ (l : TopicRow). row.Log l) (logs_of g) ++ [])) ∙ sym (nothing_more (row.Log l ∷ map (λ (l : TopicRow). row.Log l) (logs_of g))) ∙ ap (λ (z : List TraceRow). row.Log l ∷ z) h.0)
group_by_kind key (row.Span s ∷ g) a f =
    let p = and_parts (1 == key.0) (s.sub == key.1) a.0 in
    let there : has_span key.1 (s ∷ []) ≡ true = rw p.1 refl in
    let h = only_queues key g (with_row (row.Span s) no_trace_data) a.1 (sym (eqb-true 1 key.0 p.0)) there f.1 in
    rw (h.0, h.1) (ap (λ (z : List TraceRow). row.Span s ∷ z) h.2)
group_by_kind key (row.Queue q ∷ g) a f = absurd (true≢false f.0)

filter_append : (p : TraceRow → Bool) (xs ys : List TraceRow) → filter p (xs ++ ys) ≡ filter p xs ++ filter p ys
filter_append p [] ys = refl
filter_append p (x ∷ xs) ys = elim (cases_Bool (p x)) [
  | inl at ↦ rw at (ap (λ (z : List TraceRow). x ∷ z) (filter_append p xs ys))
  | inr other ↦ rw other (filter_append p xs ys)
]

group_logs : (p : TraceRow → Bool) (rows : List TraceRow) → filter p (map (λ (l : TopicRow). row.Log l) (logs_of rows)) ≡ map (λ (l : TopicRow). row.Log l) (logs_of (filter p rows))
group_logs p [] = refl
group_logs p (row.Log l ∷ rows) = elim (cases_Bool (p (row.Log l))) [
  | inl at ↦ rw at (ap (λ (z : List TraceRow). row.Log l ∷ z) (group_logs p rows))
  | inr other ↦ rw other (group_logs p rows)
]
group_logs p (row.Span s ∷ rows) = elim (cases_Bool (p (row.Span s))) [
  | inl at ↦ rw at (group_logs p rows)
  | inr other ↦ rw other (group_logs p rows)
]
group_logs p (row.Queue q ∷ rows) = elim (cases_Bool (p (row.Queue q))) [
  | inl at ↦ rw at (group_logs p rows)
  | inr other ↦ rw other (group_logs p rows)
]

group_spans : (p : TraceRow → Bool) (rows : List TraceRow) → filter p (map (λ (s : SpanRow). row.Span s) (spans_of rows)) ≡ map (λ (s : SpanRow). row.Span s) (spans_of (filter p rows))
group_spans p [] = refl
group_spans p (row.Log l ∷ rows) = elim (cases_Bool (p (row.Log l))) [
  | inl at ↦ rw at (group_spans p rows)
  | inr other ↦ rw other (group_spans p rows)
]
group_spans p (row.Span s ∷ rows) = elim (cases_Bool (p (row.Span s))) [
  | inl at ↦ rw at (ap (λ (z : List TraceRow). row.Span s ∷ z) (group_spans p rows))
  | inr other ↦ rw other (group_spans p rows)
]
group_spans p (row.Queue q ∷ rows) = elim (cases_Bool (p (row.Queue q))) [
  | inl at ↦ rw at (group_spans p rows)
  | inr other ↦ rw other (group_spans p rows)
]

group_queues : (p : TraceRow → Bool) (rows : List TraceRow) → filter p (map (λ (q : QueueRow). row.Queue q) (queues_of rows)) ≡ map (λ (q : QueueRow). row.Queue q) (queues_of (filter p rows))
group_queues p [] = refl
group_queues p (row.Log l ∷ rows) = elim (cases_Bool (p (row.Log l))) [
  | inl at ↦ rw at (group_queues p rows)
  | inr other ↦ rw other (group_queues p rows)
]
group_queues p (row.Span s ∷ rows) = elim (cases_Bool (p (row.Span s))) [
  | inl at ↦ rw at (group_queues p rows)
  | inr other ↦ rw other (group_queues p rows)
]
group_queues p (row.Queue q ∷ rows) = elim (cases_Bool (p (row.Queue q))) [
  | inl at ↦ rw at (ap (λ (z : List TraceRow). row.Queue q ∷ z) (group_queues p rows))
  | inr other ↦ rw other (group_queues p rows)
]

group_is : (key : ℕ × ℕ) (rows : List TraceRow) → Fit rows no_trace_data → filter (has_key key) (by_kind rows) ≡ filter (has_key key) rows
group_is key rows f =
    let p = has_key key in
    let ls = map (λ (l : TopicRow). row.Log l) (logs_of rows) in
    let ss = map (λ (s : SpanRow). row.Span s) (spans_of rows) in
    let qs = map (λ (q : QueueRow). row.Queue q) (queues_of rows) in
    let parts : filter p (ls ++ ss ++ qs) ≡ filter p ls ++ filter p ss ++ filter p qs =
    filter_append p (ls ++ ss) qs ∙ ap (λ (z : List TraceRow). z ++ filter p qs) (filter_append p ls ss) in
    parts
    ∙ ap (λ (z : List TraceRow). z ++ filter p ss ++ filter p qs) (group_logs p rows)
    ∙ ap (λ (z : List TraceRow). map (λ (l : TopicRow). row.Log l) (logs_of (filter p rows)) ++ z ++ filter p qs) (group_spans p rows)
    ∙ ap (λ (z : List TraceRow). map (λ (l : TopicRow). row.Log l) (logs_of (filter p rows)) ++ map (λ (s : SpanRow). row.Span s) (spans_of (filter p rows)) ++ z) (group_queues p rows)
    ∙ group_by_kind key (filter p rows) (all_at key rows) (part_fits key rows no_trace_data no_trace_data (λ _. refl) f)

-- rows that were added, kind by kind, are the rows of the trace that they made
turn_is : (rows : List TraceRow) (trace : TraceData) → AddsRows rows no_trace_data trace → by_kind rows ≡ rows_in trace
turn_is rows trace a =
    let f = fit_from rows no_trace_data trace a in
    ap (λ (z : List TopicRow). map (λ (l : TopicRow). row.Log l) z ++ map (λ (s : SpanRow). row.Span s) (spans_of rows) ++ map (λ (q : QueueRow). row.Queue q) (queues_of rows)) (sym (ap (λ (z : TraceData). z.logs) f.1 ∙ logs_after rows no_trace_data))
    ∙ ap (λ (z : List SpanRow). log_rows trace ++ map (λ (s : SpanRow). row.Span s) z ++ map (λ (q : QueueRow). row.Queue q) (queues_of rows)) (sym (ap (λ (z : TraceData). z.spans) f.1 ∙ spans_after rows no_trace_data))
    ∙ ap (λ (z : List QueueRow). log_rows trace ++ span_rows trace ++ map (λ (q : QueueRow). row.Queue q) z) (sym (ap (λ (z : TraceData). z.queues) f.1 ∙ queues_after rows no_trace_data))

-- the rows of a trace that adding rows made fit in the trace's own order
fits_in_turn : (rows : List TraceRow) (trace : TraceData) → AddsRows rows no_trace_data trace → Fit (rows_in trace) no_trace_data
fits_in_turn rows trace a =
    let f = fit_from rows no_trace_data trace a in
    subst (λ (z : List TraceRow). Fit z no_trace_data) (turn_is rows trace a)
    (whole_fits (by_kind rows) no_trace_data (λ key. subst (λ (z : List TraceRow). Fit z no_trace_data) (sym (group_is key rows f.0)) (part_fits key rows no_trace_data no_trace_data (λ _. refl) f.0)))

-- a report of a trace, when read, gives a trace that is alike
pub printed_is_read : PrintedIsRead
printed_is_read added printed trace a i s =
    let f = fits_in_turn added trace a in
    let fits = whole_fits printed no_trace_data (λ key. subst (λ (z : List TraceRow). Fit z no_trace_data) (sym (s.same key)) (part_fits key (rows_in trace) no_trace_data no_trace_data (λ _. refl) f)) in
    (after printed no_trace_data, text_adds printed no_trace_data fits (printed_in_range printed trace s i), alike printed trace s)

-- a report of a trace whose rows were added in that order, when read, gives the same trace
pub sorted_is_read : SortedIsReadAsItself
sorted_is_read added printed trace a sorted i s =
    let f = fit_from added no_trace_data trace a in
    let same : printed ≡ added = one_report printed added s.ordered sorted
    (λ key. s.same key ∙ ap (filter (has_key key)) (sym (turn_is added trace a)) ∙ group_is key added f.0) in
    let read = text_adds printed no_trace_data (subst (λ (z : List TraceRow). Fit z no_trace_data) (sym same) f.0) (printed_in_range printed trace s i) in
    subst (λ (z : TraceData). AddsLines (lines_of (text_of printed)) no_trace_data z) (ap (λ (z : List TraceRow). after z no_trace_data) same ∙ sym f.1) read
