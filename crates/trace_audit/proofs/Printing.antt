-- Rows in a report's order, and texts one after the other.
use Rattle.std.proofs.Common.{◌≡◌, ℕ, zero, suc, ◌+◌, ◌<◌, ◌⊎◌, Bool, true, false, not, cond, ◌&&◌, ◌||◌, ◌==◌, List, [], ◌∷◌, ◌++◌, map, length, drop, get_or, refl, sym, ap, ◌∙◌, inl, inr, append_assoc, arith, Less, Equal, Greater}
use Rattle.std.specs.Prelude.{nat_lt}
use Rattle.std.specs.List.{filter}
use Rattle.std.specs.List.Sorted.{IsSortedBy, IsStableBy, ties}
use Rattle.std.specs.Ordering.{nat_cmp, ordering_then, is_lt}
use Rattle.std.proofs.lemmas.Bool.{cases_Bool}
use Rattle.std.proofs.lemmas.List.{append-nil}
use Rattle.std.proofs.lemmas.Bool.Decides.{nat_tests}
use Rattle.trace_audit.specs.Inner.Printing.{row_of_ref, part_after, left_after, IsLonger}
use Rattle.trace_audit.specs.PrintedRows.{print_key, key_lt, has_key, NeverFalls, IsSortOf}
use Rattle.trace_audit.specs.Text.{joined_text}
use Rattle.trace_audit.specs.declared.row.TraceRow.{TraceRow}
use Rattle.trace_audit.specs.declared.text.row_ref.RowRef.{RowRef}

-- the first text, and then the others
joined_first : (b : ℕ) (t : List ℕ) (ts : List (List ℕ)) → joined_text b (t ∷ ts) ≡ t ++ left_after b false ts
joined_first b t [] = sym (append-nil t)
joined_first b t (u ∷ ts) = ap (λ (z : List ℕ). t ++ b ∷ z) (joined_first b u ts)

-- one text more
one_more : (b : ℕ) (first : Bool) (t : List ℕ) (ts : List (List ℕ)) → left_after b first (t ∷ ts) ≡ part_after b first t ++ left_after b false ts
one_more b true t ts = joined_first b t ts
one_more b false t ts = refl

drop_next : {X : Type 0} (xs : List X) (i : ℕ) (d : X) → i < length xs → drop i xs ≡ get_or xs i d ∷ drop (i + 1) xs
drop_next [] i d lt = absurd (omega arith)
drop_next (x ∷ xs) zero d lt = refl
drop_next (x ∷ xs) (suc i) d lt = let e : suc i + 1 ≡ suc (i + 1) = omega arith in rw e (drop_next xs i d (omega arith))

-- the next text is written: what is written and what is left are still the whole
pub part_more : {X : Type 0} (b : ℕ) (f : X → List ℕ) (out new whole : List ℕ) (first : Bool) (xs : List X) (i : ℕ) (d : X) → i < length xs
    → new ≡ out ++ part_after b first (f (get_or xs i d)) → out ++ left_after b first (map f (drop i xs)) ≡ whole → new ++ left_after b false (map f (drop (i + 1) xs)) ≡ whole
part_more {X} b f out new whole first xs i d lt e h =
    let text = f (get_or xs i d) in
    let rest = map f (drop (i + 1) xs) in
    rw e (append_assoc out (part_after b first text) (left_after b false rest)
    ∙ ap (λ (z : List ℕ). out ++ z) (sym (one_more b first text rest))
    ∙ ap (λ (z : List X). out ++ left_after b first (map f z)) (sym (drop_next xs i d lt)) ∙ h)

-- what is after it is longer, too
pub longer_by : (old new newer more : List ℕ) → IsLonger old new → newer ≡ new ++ more → IsLonger old newer
longer_by old new newer more l e = record { more = l.more ++ more; grown = e ∙ (ap (λ (z : List ℕ). z ++ more) l.grown ∙ append_assoc old l.more more) }

-- ---- sorting

-- the key in a report of a reference to a row
abbrev pub key_of_ref : RowRef → ℕ × ℕ
key_of_ref e = print_key (row_of_ref e)

-- as pairs of numbers are compared
abbrev pub ref_lt : RowRef → RowRef → Bool
ref_lt a b = is_lt (ordering_then (nat_cmp (key_of_ref a).0 (key_of_ref b).0) (nat_cmp (key_of_ref a).1 (key_of_ref b).1))

tests_are : (p q r s : Bool) → is_lt (ordering_then (cond p Less (cond q Equal Greater)) (cond r Less (cond s Equal Greater))) ≡ (p || (q && r))
tests_are true q r s = refl
tests_are false true true s = refl
tests_are false true false true = refl
tests_are false true false false = refl
tests_are false false r s = refl

lt_is : (a b : RowRef) → ref_lt a b ≡ key_lt (key_of_ref a) (key_of_ref b)
lt_is a b = tests_are (nat_lt (key_of_ref a).0 (key_of_ref b).0) ((key_of_ref a).0 == (key_of_ref b).0) (nat_lt (key_of_ref a).1 (key_of_ref b).1) ((key_of_ref a).1 == (key_of_ref b).1)

never_falls : (ys : List RowRef) → IsSortedBy ref_lt ys → NeverFalls (map row_of_ref ys)
never_falls [] s = tt
never_falls (x ∷ []) s = tt
never_falls (x ∷ y ∷ ys) s = (
  sym (lt_is y x) ∙ s 0 x (omega arith) (omega arith),
  never_falls (y ∷ ys) (λ k d low high. let e : suc k + 1 ≡ suc (k + 1) = omega arith in rw e at (s (suc k) d (omega arith) (omega arith))),
)

filter_map : (p : TraceRow → Bool) (ys : List RowRef) → filter p (map row_of_ref ys) ≡ map row_of_ref (filter (λ y. p (row_of_ref y)) ys)
filter_map p [] = refl
filter_map p (y ∷ ys) = elim (cases_Bool (p (row_of_ref y))) [
  | inl held ↦ rw (held, filter_map p ys) refl
  | inr not_held ↦ rw (not_held, filter_map p ys) refl
]

filter_same : (p q : RowRef → Bool) → ((y : RowRef) → q y ≡ p y) → (ys : List RowRef) → filter q ys ≡ filter p ys
filter_same p q h [] = refl
filter_same p q h (y ∷ ys) = rw (h y, filter_same p q h ys) refl

found_or_none : (p : RowRef → Bool) (xs : List RowRef) → ((x : RowRef) × (p x ≡ true)) ⊎ (filter p xs ≡ [])
found_or_none p [] = inr refl
found_or_none p (x ∷ xs) = elim (cases_Bool (p x)) [
  | inl held ↦ inl (x, held)
  | inr other ↦ elim (found_or_none p xs) [
    | inl f ↦ inl f
    | inr none ↦ inr (rw other none)
  ]
]

-- what ties with each that passes a test is what passes it
stable_at : (p : RowRef → Bool) (xs ys : List RowRef) → ((x : RowRef) → p x ≡ true → (y : RowRef) → ties ref_lt x y ≡ p y) → IsStableBy ref_lt xs ys → filter p ys ≡ filter p xs
stable_at p xs ys h stable = elim (found_or_none p ys) [
  | inl f ↦ same f.0 f.1
  | inr none ↦ elim (found_or_none p xs) [
    | inl f ↦ same f.0 f.1
    | inr neither ↦ none ∙ sym neither
  ]
]
  where
    same : (x : RowRef) → p x ≡ true → filter p ys ≡ filter p xs
    same x held = sym (filter_same p (ties ref_lt x) (h x held) ys) ∙ stable x ∙ filter_same p (ties ref_lt x) (h x held) xs

keys_tie : (k a b : ℕ × ℕ) → (a.0 == k.0 && a.1 == k.1) ≡ true → (not (key_lt a b) && not (key_lt b a)) ≡ (b.0 == k.0 && b.1 == k.1)
keys_tie k a b e = grind (arith, nat_tests)

-- a stable sort of references by key has their rows in a report's order
pub is_sort_of : (xs ys : List RowRef) → IsSortedBy ref_lt ys → IsStableBy ref_lt xs ys → IsSortOf (map row_of_ref ys) (map row_of_ref xs)
is_sort_of xs ys sorted stable = record {
  ordered = never_falls ys sorted;
  same = λ k.
      let at = stable_at (λ y. has_key k (row_of_ref y)) xs ys
      (λ x held y. rw (lt_is x y, lt_is y x) (keys_tie k (key_of_ref x) (key_of_ref y) held)) stable in
      filter_map (has_key k) ys ∙ ap (map row_of_ref) at ∙ sym (filter_map (has_key k) xs);
}
