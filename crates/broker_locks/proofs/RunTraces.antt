-- A trace that a broker gathered is that of one run.
use Rattle.std.proofs.Common.{◌≡◌, ◌≢◌, ◌≤◌, ◌+◌, ◌++◌, ◌==◌, ◌||◌, ℕ, Bool, true, false, inl, inr, List, [], ◌∷◌, length, map, Option, Some, None, refl, sym, ap, subst, ◌∙◌, arith}
use Rattle.std.specs.List.{flat_map}
use Rattle.std.proofs.lemmas.Grind.{flat_map-append}
use Rattle.std.proofs.lemmas.Bool.Decides.{nat_tests}
use Rattle.std.proofs.lemmas.List.{map-append}
use Rattle.mcast_txn.specs.declared.id.Topic.{Topic}
use Rattle.mcast_txn.specs.Lists.{In}
use Rattle.mcast_txn.proofs.Members.{In-map, In-map_cases}
use Rattle.mcast_txn.specs.declared.mark.Mark.{Mark}
use Rattle.trace_audit.specs.declared.row.SpanRow.{SpanRow}
use Rattle.trace_audit.specs.declared.row.TraceRow.{TraceRow}
use Rattle.trace_audit.specs.declared.row.TraceRow.TheVariants as row
use Rattle.trace_audit.specs.Explained.{IsExplainedBy}
use Rattle.trace_audit.specs.Rows.{with_row}
use Rattle.trace_audit.specs.Trace.{TraceData, has_span, no_trace_data}
use Rattle.mcast_txn.specs.Span.{LogRow}
use Rattle.broker_locks.specs.Gathering.{AreOfTopics, IsTraceLeft, GatheredIsDue, traces_left}
use Rattle.broker_locks.specs.KeptTrace.{AllFit, KeptTrace, topic_trace}
use Rattle.broker_locks.specs.Place.{PlaceState}
use Rattle.broker_locks.specs.TopicTraces.{AreOfOneRun, NoneTwice, SubTrace, TopicTrace, log_rows, sub_rows, topic_rows}
use Rattle.broker_locks.proofs.TraceRows.{explained_is_due, as_span, span_of}

-- ---- no span is there twice

last_other : (n m : ℕ) (spans : List SpanRow) (s : SpanRow) → s.sub ≡ m → has_span n (spans ++ s ∷ []) ≡ false → (has_span n spans ≡ false) × (m ≢ n)
last_other n m [] s is h = (refl, λ e. grind (arith, nat_tests))
last_other n m (z ∷ spans) s is h = go (z.sub == n) refl h (λ k. last_other n m spans s is k)
  where
    go : (b : Bool) → (z.sub == n) ≡ b → b || has_span n (spans ++ s ∷ []) ≡ false
        → (has_span n (spans ++ s ∷ []) ≡ false → (has_span n spans ≡ false) × (m ≢ n)) → (has_span n (z ∷ spans) ≡ false) × (m ≢ n)
    go true e k ih = cc
    go false e k ih = (rw e (ih k).0, (ih k).1)

-- of rows that each fit, no later span has the number of an earlier one
pub fit_once : (rows : List TraceRow) (trace : TraceData) → AllFit rows trace
    → NoneTwice (λ (s : SpanRow). s.sub) (flat_map as_span rows) × ((y : SpanRow) → In y (flat_map as_span rows) → has_span y.sub trace.spans ≡ false)
fit_once [] trace fit = (tt, λ y k. absurd k)
fit_once (row.Log logged ∷ rows) trace fit = fit_once rows (with_row (row.Log logged) trace) fit.1
fit_once (row.Queue queued ∷ rows) trace fit = fit_once rows (with_row (row.Queue queued) trace) fit.1
fit_once (row.Span span ∷ rows) trace fit =
    let ih = fit_once rows (with_row (row.Span span) trace) fit.1 in
    (((λ y k. (last_other y.sub span.sub trace.spans span refl (ih.1 y k)).1), ih.0), λ y k. first y k ih.1)
  where
    first : (y : SpanRow) → In y (span ∷ flat_map as_span rows)
        → ((y : SpanRow) → In y (flat_map as_span rows) → has_span y.sub (trace.spans ++ span ∷ []) ≡ false) → has_span y.sub trace.spans ≡ false
    first y (inl e) ih = subst (λ (z : SpanRow). has_span z.sub trace.spans ≡ false) e fit.0
    first y (inr k) ih = (last_other y.sub span.sub trace.spans span refl (ih y k)).0

-- ---- by their numbers alone

to_numbers : {X : Type 0} (f : X → ℕ) (xs : List X) → NoneTwice f xs → NoneTwice (λ (n : ℕ). n) (map f xs)
to_numbers f [] h = tt
to_numbers f (x ∷ xs) h = ((λ n k e. (let m = In-map_cases f n xs k in h.0 m.from m.stands (e ∙ sym m.is))), to_numbers f xs h.1)

from_numbers : {X : Type 0} (f : X → ℕ) (xs : List X) → NoneTwice (λ (n : ℕ). n) (map f xs) → NoneTwice f xs
from_numbers f [] h = tt
from_numbers f (x ∷ xs) h = ((λ y k. h.0 (f y) (In-map f y xs k)), from_numbers f xs h.1)

twice_alike : {X Y : Type 0} (f : X → ℕ) (g : Y → ℕ) (xs : List X) (ys : List Y) → map f xs ≡ map g ys → NoneTwice f xs → NoneTwice g ys
twice_alike f g xs ys e h = from_numbers g ys (subst (NoneTwice (λ (n : ℕ). n)) e (to_numbers f xs h))

abbrev sub_number : SpanRow → ℕ
sub_number s = s.sub

abbrev number_of : SubTrace → ℕ
number_of s = s.number

spans_of_logs : (t : Topic) (log : List LogRow) → flat_map as_span (log_rows t log) ≡ []
spans_of_logs t [] = refl
spans_of_logs t (r ∷ log) = spans_of_logs t log

spans_of_marks : (n : ℕ) (marks : List Mark) → flat_map as_span (map (λ m. row.Queue (record { sub = n; id = m.id; stamp = m.stamp })) marks) ≡ []
spans_of_marks n [] = refl
spans_of_marks n (m ∷ marks) = spans_of_marks n marks

spans_of_subs : (t : Topic) (subs : List SubTrace) → flat_map as_span (flat_map (sub_rows t) subs) ≡ map (span_of t) subs
spans_of_subs t [] = refl
spans_of_subs t (s ∷ subs) =
    flat_map-append as_span (sub_rows t s) (flat_map (sub_rows t) subs)
    ∙ (ap (λ z. (span_of t s ∷ z) ++ flat_map as_span (flat_map (sub_rows t) subs)) (spans_of_marks s.number s.marks)
    ∙ ap (λ z. span_of t s ∷ z) (spans_of_subs t subs))

numbers_of : (t : Topic) (subs : List SubTrace) → map sub_number (map (span_of t) subs) ≡ map number_of subs
numbers_of t [] = refl
numbers_of t (s ∷ subs) = ap (λ z. s.number ∷ z) (numbers_of t subs)

spans_are : (topics : List TopicTrace) → map sub_number (flat_map as_span (flat_map topic_rows topics)) ≡ map number_of (flat_map (λ x. x.subs) topics)
spans_are [] = refl
spans_are (x ∷ topics) =
    ap (map sub_number)
    (flat_map-append as_span (topic_rows x) (flat_map topic_rows topics)
    ∙ ap (λ z. z ++ flat_map as_span (flat_map topic_rows topics))
    (flat_map-append as_span (log_rows x.topic x.log) (flat_map (sub_rows x.topic) x.subs)
    ∙ (ap (λ z. z ++ flat_map as_span (flat_map (sub_rows x.topic) x.subs)) (spans_of_logs x.topic x.log) ∙ spans_of_subs x.topic x.subs)))
    ∙ (map-append sub_number (map (span_of x.topic) x.subs) (flat_map as_span (flat_map topic_rows topics))
    ∙ (ap (λ z. z ++ map sub_number (flat_map as_span (flat_map topic_rows topics))) (numbers_of x.topic x.subs)
    ∙ (ap (λ z. map number_of x.subs ++ z) (spans_are topics) ∙ sym (map-append number_of x.subs (flat_map (λ y. y.subs) topics)))))

-- ---- no topic is there twice

-- one place more
pub of_topics_more : (i : ℕ) (places : List PlaceState) (place : PlaceState) (n : ℕ) → AreOfTopics i places → n ≡ i + length places
    → place.cells.group.topic.topic.0 ≡ n → AreOfTopics i (places ++ place ∷ [])
of_topics_more i [] place n each e is = (omega (arith, e, is), tt)
of_topics_more i (p ∷ places) place n each e is = (each.0, of_topics_more (i + 1) places place n each.1 (omega (arith, e)) is)

left_above : (i : ℕ) (places : List PlaceState) → AreOfTopics i places → (x : TopicTrace) → In x (flat_map traces_left places) → i ≤ x.topic.0
left_above i [] each x k = absurd k
left_above i (p ∷ places) each x k = go p.kept k (λ h. left_above (i + 1) places each.1 x h)
  where
    go : (o : Option KeptTrace) → In x ((elim o [ None ↦ [] | Some kept ↦ topic_trace p.cells.group.topic kept ∷ [] ]) ++ flat_map traces_left places)
        → (In x (flat_map traces_left places) → i + 1 ≤ x.topic.0) → i ≤ x.topic.0
    go None k later = let h = later k in omega (arith, h)
    go (Some kept) (inl e) later = let at : p.cells.group.topic.topic.0 ≡ x.topic.0 = ap (λ (z : TopicTrace). z.topic.0) e in omega (arith, at, each.0)
    go (Some kept) (inr k) later = let h = later k in omega (arith, h)

left_once : (i : ℕ) (places : List PlaceState) → AreOfTopics i places → NoneTwice (λ (x : TopicTrace). x.topic.0) (flat_map traces_left places)
left_once i [] each = tt
left_once i (p ∷ places) each = go p.kept (left_once (i + 1) places each.1)
  where
    go : (o : Option KeptTrace) → NoneTwice (λ (x : TopicTrace). x.topic.0) (flat_map traces_left places)
        → NoneTwice (λ (x : TopicTrace). x.topic.0) ((elim o [ None ↦ [] | Some kept ↦ topic_trace p.cells.group.topic kept ∷ [] ]) ++ flat_map traces_left places)
    go None once = once
    go (Some kept) once = ((λ y k e. (let above = left_above (i + 1) places each.1 y k in absurd (omega (arith, above, each.0, e)))), once)

-- ---- together

pub of_one_run : (count : ℕ) (trace : TraceData) (left : IsTraceLeft count trace) → AreOfOneRun (flat_map traces_left left.places)
of_one_run count trace left = record {
  topics_differ = left_once 0 left.places left.topics;
  subs_differ = twice_alike sub_number number_of (flat_map as_span (flat_map topic_rows (flat_map traces_left left.places))) (flat_map (λ (x : TopicTrace). x.subs) (flat_map traces_left left.places))
      (spans_are (flat_map traces_left left.places)) (fit_once (flat_map topic_rows (flat_map traces_left left.places)) no_trace_data left.adds.fit).0;
}

pub gathered_is_due : GatheredIsDue
gathered_is_due count trace agreed left e x s k h =
    explained_is_due (flat_map traces_left left.places) agreed (of_one_run count trace left) (subst (IsExplainedBy agreed) left.adds.is e) x s k h
