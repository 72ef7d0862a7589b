-- Spans of subscriptions by rising number: what halving finds among them, and what an edit of them is.
use Rattle.std.proofs.Common.{◌≡◌, ◌≢◌, ℕ, zero, suc, ◌<◌, ◌==◌, Bool, cond, true, false, List, [], ◌∷◌, map, get_or, set, Some, refl, sym, ap, ◌∙◌, arith}
use Rattle.std.specs.List.{AllByRecursion, list_any}
use Rattle.std.proofs.lemmas.Bool.{eq-eqb, ne_eqb}
use Rattle.mcast_txn.specs.Lists.{RisesBy}
use Rattle.mcast_txn.specs.declared.stamp.Stamp.{Stamp}
use Rattle.mcast_txn.proofs.Members.{In-get_or, any_from}
use Rattle.mcast_txn.proofs.Rising.{IsAt, IsGap, below_later, none_in_gap, rises_alike}
use Rattle.broker_locks.specs.declared.kept_span.KeptSpan.{KeptSpan}
use Rattle.broker_locks.specs.Inner.KeptRows.{span_after_end, span_number}

-- a number that is found was used
pub used_at : (spans : List KeptSpan) (n i : ℕ) → IsAt span_number spans n i → list_any (λ (s : KeptSpan). s.number == n) spans ≡ true
used_at [] n i at = absurd (omega (arith, at.in_range))
used_at (s ∷ spans) n i at =
    any_from (λ (z : KeptSpan). z.number == n) (get_or (s ∷ spans) i s) (s ∷ spans) (In-get_or (s ∷ spans) i s at.in_range) (eq-eqb (get_or (s ∷ spans) i s).number n (at.has_key s))

none_used : (spans : List KeptSpan) (n : ℕ) → AllByRecursion (λ (s : KeptSpan). span_number s ≢ n) spans → list_any (λ (s : KeptSpan). s.number == n) spans ≡ false
none_used [] n all = refl
none_used (s ∷ spans) n all = let a = ne_eqb s.number n all.0 in let ih = none_used spans n all.1 in rw (a, ih) refl

-- one that isn't was not
pub unused_at : (spans : List KeptSpan) (n i : ℕ) → IsGap span_number spans n i → list_any (λ (s : KeptSpan). s.number == n) spans ≡ false
unused_at spans n i gap = none_used spans n (none_in_gap span_number spans n i gap)

none_ended : (spans : List KeptSpan) (n : ℕ) (to : Stamp) → AllByRecursion (λ (s : KeptSpan). span_number s ≢ n) spans → map (span_after_end n to) spans ≡ spans
none_ended [] n to all = refl
none_ended (s ∷ spans) n to all = let a = ne_eqb s.number n all.0 in let ih = none_ended spans n to all.1 in rw (a, ih) refl

-- where none has the number, none ends
pub gap_ended : (spans : List KeptSpan) (n i : ℕ) (to : Stamp) → IsGap span_number spans n i → map (span_after_end n to) spans ≡ spans
gap_ended spans n i to gap = none_ended spans n to (none_in_gap span_number spans n i gap)

all_other : (spans : List KeptSpan) (a : ℕ) → AllByRecursion (λ (s : KeptSpan). a < span_number s) spans → AllByRecursion (λ (s : KeptSpan). span_number s ≢ a) spans
all_other [] a all = tt
all_other (s ∷ spans) a all = ((λ e. (let l : a < s.number = all.0 in absurd (omega arith))), all_other spans a all.1)

-- the one that has the number ends, where it is
pub set_ended : (spans : List KeptSpan) (n i : ℕ) (to : Stamp) (d new : KeptSpan) → RisesBy span_number spans → IsAt span_number spans n i
    → new ≡ record (get_or spans i d) { to = Some to } → set spans i new ≡ map (span_after_end n to) spans
set_ended [] n i to d new rises at is = absurd (omega (arith, at.in_range))
set_ended (s ∷ spans) n zero to d new rises at is =
    let e : s.number ≡ n = at.has_key s in
    let a = eq-eqb s.number n e in
    let rest = none_ended spans s.number to (all_other spans s.number rises.0) in
    let others : map (span_after_end n to) spans ≡ spans = ap (λ (k : ℕ). map (span_after_end k to) spans) (sym e) ∙ rest in
    rw (is, a, others) refl
set_ended (s ∷ spans) n (suc i) to d new rises at is =
    let below : s.number < (get_or spans i d).number = below_later span_number (s ∷ spans) 0 (suc i) d rises (omega arith) at.in_range in
    let e : (get_or spans i d).number ≡ n = at.has_key d in
    let a : (s.number == n) ≡ false = ne_eqb s.number n (λ k. absurd (omega arith)) in
    let ih = set_ended spans n i to d new rises.1 (record { in_range = omega (arith, at.in_range); has_key = λ q. at.has_key q }) is in
    rw (a, ih) refl

same_number : (n : ℕ) (to : Stamp) (s : KeptSpan) → (span_after_end n to s).number ≡ s.number
same_number n to s = go (s.number == n)
  where
    go : (b : Bool) → (cond b (record { number = s.number; from = s.from; to = Some to }) s).number ≡ s.number
    go true = refl
    go false = refl

numbers_alike : (n : ℕ) (to : Stamp) (spans : List KeptSpan) → map span_number spans ≡ map span_number (map (span_after_end n to) spans)
numbers_alike n to [] = refl
numbers_alike n to (s ∷ spans) = let a = same_number n to s in let ih = numbers_alike n to spans in rw (a, ih) refl

-- they rise after one ended
pub rises_ended : (spans : List KeptSpan) (n : ℕ) (to : Stamp) → RisesBy span_number spans → RisesBy span_number (map (span_after_end n to) spans)
rises_ended spans n to rises = rises_alike (λ (k : ℕ). k) span_number span_number spans (map (span_after_end n to) spans) (numbers_alike n to spans) rises
