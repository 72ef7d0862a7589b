-- A trace has one report, and rows that were added in a report's order are that report.
use Rattle.std.proofs.Common.{◌≡◌, ℕ, true, false, cond, ◌&&◌, ◌==◌, List, [], ◌∷◌, refl, sym, ap, ◌∙◌, inl, inr, subst, arith}
use Rattle.std.specs.List.{filter}
use Rattle.std.proofs.lemmas.Bool.{cases_Bool}
use Rattle.std.proofs.lemmas.Bool.Decides.{nat_tests}
use Rattle.mcast_txn.specs.Lists.{In}
use Rattle.mcast_txn.proofs.Members.{In-filter, In-filter_cases}
use Rattle.trace_audit.specs.PrintedRows.{print_key, key_lt, has_key, NeverFalls}
use Rattle.trace_audit.specs.declared.row.TraceRow.{TraceRow}

not_less : (a b c : ℕ × ℕ) → key_lt b a ≡ false → key_lt c b ≡ false → key_lt c a ≡ false
not_less a b c p q = grind (arith, nat_tests)

neither_less : (a b : ℕ × ℕ) → key_lt a b ≡ false → key_lt b a ≡ false → (b.0 == a.0 && b.1 == a.1) ≡ true
neither_less a b p q = grind (arith, nat_tests)

itself : (a : ℕ × ℕ) → (a.0 == a.0 && a.1 == a.1) ≡ true
itself a = grind (arith, nat_tests)

-- the first of rows that never fall has no greater key than any other
lowest : (r : TraceRow) (rows : List TraceRow) → NeverFalls (r ∷ rows) → (z : TraceRow) → In z rows → key_lt (print_key z) (print_key r) ≡ false
lowest r [] h z i = absurd i
lowest r (n ∷ rows) h z (inl e) = subst (λ (w : TraceRow). key_lt (print_key w) (print_key r) ≡ false) e h.0
lowest r (n ∷ rows) h z (inr i) = not_less (print_key r) (print_key n) (print_key z) h.0 (lowest n rows h.1 z i)

later_never_fall : (r : TraceRow) (rows : List TraceRow) → NeverFalls (r ∷ rows) → NeverFalls rows
later_never_fall r [] h = tt
later_never_fall r (n ∷ rows) h = h.1

abbrev Alike : List TraceRow → List TraceRow → Type 0
Alike xs ys = (key : ℕ × ℕ) → filter (has_key key) xs ≡ filter (has_key key) ys

-- a row of one of two lists whose groups are alike is in the other
found : (x : TraceRow) (xs ys : List TraceRow) → Alike xs ys → In x xs → In x ys
found x xs ys h i =
    let kept = In-filter (has_key (print_key x)) x xs i (itself (print_key x)) in
    (In-filter_cases (has_key (print_key x)) x ys (subst (λ (z : List TraceRow). In x z) (h (print_key x)) kept)).stands

not_below : (x y : TraceRow) (ys : List TraceRow) → NeverFalls (y ∷ ys) → In x (y ∷ ys) → key_lt (print_key x) (print_key y) ≡ false
not_below x y ys h (inl e) = subst (λ (z : TraceRow). key_lt (print_key z) (print_key y) ≡ false) e (not_itself (print_key y))
  where
    not_itself : (a : ℕ × ℕ) → key_lt a a ≡ false
    not_itself a = grind (arith, nat_tests)
not_below x y ys h (inr i) = lowest y ys h x i

head_is : (x y : TraceRow) (xs ys : List TraceRow) → x ∷ xs ≡ y ∷ ys → x ≡ y
head_is x y xs ys e = cc

tail_is : (x y : TraceRow) (xs ys : List TraceRow) → x ∷ xs ≡ y ∷ ys → xs ≡ ys
tail_is x y xs ys e = cc

heads : (x y : TraceRow) (xs ys : List TraceRow) → NeverFalls (x ∷ xs) → NeverFalls (y ∷ ys) → Alike (x ∷ xs) (y ∷ ys) → x ≡ y
heads x y xs ys p q h =
    let up = not_below x y ys q (found x (x ∷ xs) (y ∷ ys) h (inl refl)) in
    let down = not_below y x xs p (found y (y ∷ ys) (x ∷ xs) (λ key. sym (h key)) (inl refl)) in
    let tied : has_key (print_key x) y ≡ true = neither_less (print_key x) (print_key y) up down in
    let group : cond (has_key (print_key x) x) (x ∷ filter (has_key (print_key x)) xs) (filter (has_key (print_key x)) xs) ≡ cond (has_key (print_key x) y) (y ∷ filter (has_key (print_key x)) ys) (filter (has_key (print_key x)) ys) = h (print_key x) in
    head_is x y (filter (has_key (print_key x)) xs) (filter (has_key (print_key x)) ys) (rw (itself (print_key x), tied) at group)

tails : (x y : TraceRow) (xs ys : List TraceRow) → x ≡ y → Alike (x ∷ xs) (y ∷ ys) → Alike xs ys
tails x y xs ys e h key =
    let same : filter (has_key key) (x ∷ xs) ≡ filter (has_key key) (x ∷ ys) = h key ∙ ap (λ (z : TraceRow). filter (has_key key) (z ∷ ys)) (sym e) in
    elim (cases_Bool (has_key key x)) [
      | inl held ↦ tail_is x x (filter (has_key key) xs) (filter (has_key key) ys) (rw held at same)
      | inr other ↦ rw other at same
    ]

-- rows in a report's order, of which those of each key are the same, are the same
pub one_report : (xs ys : List TraceRow) → NeverFalls xs → NeverFalls ys → Alike xs ys → xs ≡ ys
one_report [] [] p q h = refl
one_report [] (y ∷ ys) p q h = absurd (found y (y ∷ ys) [] (λ key. sym (h key)) (inl refl))
one_report (x ∷ xs) [] p q h = absurd (found x (x ∷ xs) [] h (inl refl))
one_report (x ∷ xs) (y ∷ ys) p q h =
    let head = heads x y xs ys p q h in
    ap (λ (z : TraceRow). z ∷ xs) head ∙ ap (λ (z : List TraceRow). y ∷ z) (one_report xs ys (later_never_fall x xs p) (later_never_fall y ys q) (tails x y xs ys head h))
