-- The subscriptions of a trace's spans.
use Rattle.std.proofs.Common.{◌≡◌, ℕ, Bool, true, false, ◌==◌, ◌||◌, cond, [], ◌∷◌, ◌++◌, List, refl, sym, ap, ◌∙◌, arith}
use Rattle.std.specs.Ordering.{nat_cmp}
use Rattle.std.specs.BTreeMap.{is_at}
use Rattle.std.specs.BTreeSet.{BTreeSet, contains, Updates}
use Rattle.std.proofs.lemmas.Bool.Decides.{nat_tests}
use Rattle.std.proofs.lemmas.List.Folds.{list_any-append}
use Rattle.trace_audit.specs.declared.row.SpanRow.{SpanRow}
use Rattle.trace_audit.specs.Trace.{has_span}

-- numbers are equal exactly where their order says so
at_equal : (a b : ℕ) → is_at (nat_cmp a) b ≡ (a == b)
at_equal a b = grind (arith, nat_tests)

either_way : (is there : Bool) → cond is true there ≡ there || (is || false)
either_way true true = refl
either_way true false = refl
either_way false true = refl
either_way false false = refl

-- one more
pub with_key : (row : SpanRow) (spans : List SpanRow) (old now : BTreeSet ℕ) → Updates nat_cmp old now row.sub true → ((sub : ℕ) → contains nat_cmp old sub ≡ has_span sub spans) → (sub : ℕ) → contains nat_cmp now sub ≡ has_span sub (spans ++ row ∷ [])
with_key row spans old now updates known sub =
    updates.0 sub
    ∙ (ap (λ z. cond z true (contains nat_cmp old sub)) (at_equal row.sub sub)
    ∙ (either_way (row.sub == sub) (contains nat_cmp old sub)
    ∙ (ap (λ z. z || (row.sub == sub || false)) (known sub)
    ∙ sym (list_any-append (λ (span : SpanRow). span.sub == sub) spans (row ∷ [])))))
