-- The subscriptions of a topic, by rising number.
use Rattle.std.proofs.Common.{◌≡◌, ◌≢◌, ℕ, ◌<◌, ◌==◌, Bool, true, false, cond, inl, inr, List, [], ◌∷◌, map, Option, Some, None, refl, sym, ap, ◌∙◌, arith}
use Rattle.std.specs.List.{AllByRecursion, filter}
use Rattle.std.specs.Option.{is_some}
use Rattle.std.proofs.lemmas.Bool.{eq-eqb, true≢false}
use Rattle.mcast_txn.specs.Lists.{In, RisesBy}
use Rattle.mcast_txn.proofs.Rising.{rises_alike}
use Rattle.mcast_group.specs.declared.fault.SubFault.{SubFault}
use Rattle.mcast_group.specs.Sound.{NumbersDiffer}
use Rattle.mcast_group.specs.Machine.{TopicState, Entry, find_entry, subscribe_fault}
use Rattle.mcast_group.proofs.Parts.{none_some}

-- ---- numbers that rise

same_numbers : (step : Entry → Entry) → ((e : Entry) → (step e).number ≡ e.number) → (es : List Entry) → map (λ (z : Entry). z.number) es ≡ map (λ (z : Entry). z.number) (map step es)
same_numbers step same [] = refl
same_numbers step same (e ∷ es) =
    let a = same e in let b = same_numbers step same es in rw (a, b) refl

-- entries rise by number after a change of each that keeps its number
pub Numbers-map : (step : Entry → Entry) → ((e : Entry) → (step e).number ≡ e.number) → (es : List Entry) → RisesBy (λ (z : Entry). z.number) es → RisesBy (λ (z : Entry). z.number) (map step es)
Numbers-map step same es h =
    rises_alike (λ (n : ℕ). n) (λ (z : Entry). z.number) (λ (z : Entry). z.number) es (map step es) (same_numbers step same es) h

all_kept : (P : Entry → Type 0) (p : Entry → Bool) (es : List Entry) → AllByRecursion P es → AllByRecursion P (filter p es)
all_kept P p [] all = tt
all_kept P p (e ∷ es) all = go (p e) (all_kept P p es all.1)
  where
    go : (b : Bool) → AllByRecursion P (filter p es) → AllByRecursion P (cond b (e ∷ filter p es) (filter p es))
    go true ih = (all.0, ih)
    go false ih = ih

-- some of the entries rise by number where all do
pub Numbers-filter : (p : Entry → Bool) (es : List Entry) → RisesBy (λ (z : Entry). z.number) es → RisesBy (λ (z : Entry). z.number) (filter p es)
Numbers-filter p [] h = tt
Numbers-filter p (e ∷ es) h = go (p e) (Numbers-filter p es h.1)
  where
    go : (b : Bool) → RisesBy (λ (z : Entry). z.number) (filter p es) → RisesBy (λ (z : Entry). z.number) (cond b (e ∷ filter p es) (filter p es))
    go true ih = (all_kept (λ (z : Entry). e.number < z.number) p es h.0, ih)
    go false ih = ih

other_number : (n : ℕ) (es : List Entry) → AllByRecursion (λ (z : Entry). n < z.number) es → (f : Entry) → In f es → f.number ≢ n
other_number n [] all f i d = absurd i
other_number n (e ∷ es) all f (inl k) d = let l : n < e.number = all.0 in let m = ap (λ (z : Entry). z.number) k in absurd (omega arith)
other_number n (e ∷ es) all f (inr i) d = other_number n es all.1 f i d

-- numbers that rise differ
pub numbers_differ : (es : List Entry) → RisesBy (λ (z : Entry). z.number) es → NumbersDiffer es
numbers_differ [] h = tt
numbers_differ (e ∷ es) h = (other_number e.number es h.0, numbers_differ es h.1)

-- ---- a number that is free

unfound_case : (n : ℕ) (e : Entry) (es : List Entry) (b : Bool) → (e.number == n) ≡ b → cond b (Some e) (find_entry n es) ≡ None → (find_entry n es ≡ None → (f : Entry) → In f es → f.number ≢ n) → (f : Entry) → In f (e ∷ es) → f.number ≢ n
unfound_case n e es true k o ih f i d = none_some e (sym o)
unfound_case n e es false k o ih f (inl j) d = true≢false (sym (eq-eqb e.number n (ap (λ (z : Entry). z.number) j ∙ d)) ∙ k)
unfound_case n e es false k o ih f (inr j) d = ih o f j d

unfound : (n : ℕ) (es : List Entry) → find_entry n es ≡ None → (e : Entry) → In e es → e.number ≢ n
unfound n [] o e i = absurd i
unfound n (x ∷ es) o e i = unfound_case n x es (x.number == n) refl o (unfound n es) e i

none_case : (o : Option Entry) → cond (is_some o) (Some SubFault.SubInUse) None ≡ None → o ≡ None
none_case None k = refl
none_case (Some e) k = none_some SubFault.SubInUse (sym k)

-- a number that the topic doesn't refuse is none of its subscriptions'
pub free_number : (n : ℕ) (x : TopicState) → subscribe_fault n x ≡ None → (e : Entry) → In e x.subscriptions → e.number ≢ n
free_number n x k = unfound n x.subscriptions (none_case (find_entry n x.subscriptions) k)

-- two subscriptions of one number aren't sound
one_number : (e : Entry) → RisesBy (λ (z : Entry). z.number) (e ∷ e ∷ []) → Prim.⊥
one_number e h = let l : e.number < e.number = h.0.0 in absurd (omega arith)
