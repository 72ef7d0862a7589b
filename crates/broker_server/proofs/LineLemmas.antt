-- Room at the first of a transaction's topics.
use Rattle.std.proofs.Common.{◌≡◌, ◌≤◌, ◌<◌, ◌+◌, ◌⊎◌, inl, inr, ℕ, List, [], ◌∷◌, ◌++◌, Some, length, take, slice_get, get_or, suc, sym, ap, ◌∙◌, append-nil, append_assoc, arith}
use Rattle.std.proofs.lemmas.Bool.{cases_lt}
use Rattle.std.proofs.Math.Seq.{take-suc}
use Rattle.std.proofs.lemmas.List.{length-append, length-take, length-take-le, take-take, take_all, take_min}
use Rattle.std.proofs.lemmas.Option.{get_or_from_slice_get, slice_get_within}

-- the first so many of a list are as many of its first as they are
pub first_of : {X : Type 0} (all : List X) (n : ℕ) → take n all ≡ take (length (take n all)) all
first_of all n = sym (ap (λ (k : ℕ). take k all) (length-take n all) ∙ take_min n all)

-- with the next one they are one more
pub one_more : {X : Type 0} (all some : List X) (x : X) → some ≡ take (length some) all → slice_get all (length some) ≡ Some x
    → some ++ x ∷ [] ≡ take (length (some ++ x ∷ [])) all
one_more {X} all some x first is =
    let n = length some in
    let within : n < length all = slice_get_within all n x is in
    let next : take (suc n) all ≡ take n all ++ x ∷ [] = take-suc all n x within
    ∙ ap (λ (y : X). take n all ++ y ∷ []) (get_or_from_slice_get all n x x is) in
    let long : length (some ++ x ∷ []) ≡ suc n = omega (arith, length-append some (x ∷ [])) in
    ap (λ (xs : List X). xs ++ x ∷ []) first ∙ (sym next ∙ sym (ap (λ (k : ℕ). take k all) long))

-- the same of what that came to
pub one_more_now : {X : Type 0} (all some now : List X) (x : X) → now ≡ some ++ x ∷ [] → some ≡ take (length some) all
    → slice_get all (length some) ≡ Some x → now ≡ take (length now) all
one_more_now {X} all some now x is first at =
    is ∙ (one_more all some x first at ∙ sym (ap (λ (xs : List X). take (length xs) all) is))

-- and where nothing came of it
pub no_more_now : {X : Type 0} (all some now : List X) → now ≡ some → some ≡ take (length some) all → now ≡ take (length now) all
no_more_now {X} all some now is first = is ∙ (first ∙ sym (ap (λ (xs : List X). take (length xs) all) is))

-- the first of them are the first, too
pub fewer : {X : Type 0} (all some : List X) (k : ℕ) → some ≡ take (length some) all → take k some ≡ take (length (take k some)) all
fewer {X} all some k first = by (cases_lt (length some) k)
  where
    by : (length some < k) ⊎ (k ≤ length some) → take k some ≡ take (length (take k some)) all
    by (inl more) =
        let same : take k some ≡ some = take_all k some (omega (arith, more)) in
        same ∙ (first ∙ sym (ap (λ (xs : List X). take (length xs) all) same))
    by (inr less) =
        let front : take k some ≡ take k all = ap (λ (xs : List X). take k xs) first ∙ take-take k (length some) all less in
        front ∙ sym (ap (λ (j : ℕ). take j all) (length-take-le k some less))

-- where there are no more, they are all
pub whole : {X : Type 0} (all some : List X) → some ≡ take (length some) all → length all ≤ length some → some ≡ all
whole all some first over = first ∙ take_all (length some) all over

-- those that were, with none of these behind them
pub put_none : {X : Type 0} (old all : List X) → old ≡ old ++ take 0 all
put_none old all = sym (append-nil old)

-- with the next of these behind them
pub put_next : {X : Type 0} (old now all : List X) (i : ℕ) (x : X) → now ≡ old ++ take i all → slice_get all i ≡ Some x
    → now ++ x ∷ [] ≡ old ++ take (i + 1) all
put_next {X} old now all i x is got =
    let within : i < length all = slice_get_within all i x got in
    let one : i + 1 ≡ suc i = omega arith in
    let next : take i all ++ x ∷ [] ≡ take (suc i) all = sym (take-suc all i x within
    ∙ ap (λ (y : X). take i all ++ y ∷ []) (get_or_from_slice_get all i x x got)) in
    ap (λ (xs : List X). xs ++ x ∷ []) is ∙ (append_assoc old (take i all) (x ∷ [])
    ∙ (ap (λ (xs : List X). old ++ xs) next ∙ sym (ap (λ (k : ℕ). old ++ take k all) one)))

-- with all of these behind them
pub put_all : {X : Type 0} (old now all : List X) (i : ℕ) → now ≡ old ++ take i all → length all ≤ i → now ≡ old ++ all
put_all {X} old now all i is over = is ∙ ap (λ (xs : List X). old ++ xs) (take_all i all over)

-- the same, where the next is the one at that index
pub put_at : {X : Type 0} (old now all : List X) (i : ℕ) (d : X) → now ≡ old ++ take i all → i < length all
    → now ++ get_or all i d ∷ [] ≡ old ++ take (i + 1) all
put_at {X} old now all i d is within =
    let one : i + 1 ≡ suc i = omega arith in
    let next : take i all ++ get_or all i d ∷ [] ≡ take (suc i) all = sym (take-suc all i d within) in
    ap (λ (xs : List X). xs ++ get_or all i d ∷ []) is ∙ (append_assoc old (take i all) (get_or all i d ∷ [])
    ∙ (ap (λ (xs : List X). old ++ xs) next ∙ sym (ap (λ (k : ℕ). old ++ take k all) one)))
