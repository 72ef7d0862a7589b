-- A sender's verdicts among those of all.
use Rattle.delivery.proofs.Words.All.{◌≡◌, ℕ, ◌<◌, ◌-◌, List, [], ◌∷◌, ◌++◌, map, length, take, get_or, set, zero, suc, Option, None, refl, sym, ap, ◌∙◌, arith, Vec, Box, Global, map-set, map-append, get_or-map, set-get_or, take-map, length-map, length-append, take-append_seam, option_map, Decision}
use Rattle.mcast_txn.specs.declared.ballot.verdict.Verdict.{Verdict}

-- a sender's verdicts as the code has them
abbrev pub Held : Type 0
Held = Vec (Option (Box Verdict Global)) Global

-- a verdict that it has, if it has one
abbrev pub decision : Option (Box Verdict Global) → Option Decision
decision slot = option_map (λ verdict. verdict.value) slot

-- what shows of them
abbrev pub shown : Held → List (Option Decision)
shown verdicts = map decision verdicts.items

-- what shows of a sender's
shown_at : (xs : List Held) (v : List (List (Option Decision))) (s : ℕ) (old d : Held) → map shown xs ≡ v → s < length xs → old ≡ get_or xs s d → shown old ≡ get_or v s []
shown_at xs v s old d is there found = ap shown found ∙ (sym (get_or-map shown xs s d [] there) ∙ ap (λ z. get_or z s []) is)

written : (xs : List Held) (v : List (List (Option Decision))) (s : ℕ) (new : Held) (y : List (Option Decision))
    → map shown xs ≡ v → shown new ≡ y → map shown (set xs s new) ≡ set v s y
written xs v s new y is shows = map-set shown xs s new ∙ (ap (λ z. set z s (shown new)) is ∙ ap (λ z. set v s z) shows)

-- where a sender's stay, all do
pub seqs_kept : (xs : List Held) (v : List (List (Option Decision))) (s : ℕ) (new old d : Held)
    → map shown xs ≡ v → s < length xs → old ≡ get_or xs s d → new.items ≡ old.items → map shown (set xs s new) ≡ v
seqs_kept xs v s new old d is there found same = written xs v s new (get_or v s []) is (ap (λ z. map decision z) same ∙ shown_at xs v s old d is there found) ∙ set-get_or v s []

-- one slot more
pub seq_added : (xs : List Held) (v : List (List (Option Decision))) (s : ℕ) (new old d : Held)
    → map shown xs ≡ v → s < length xs → old ≡ get_or xs s d → new.items ≡ old.items ++ None ∷ [] → map shown (set xs s new) ≡ set v s (get_or v s [] ++ None ∷ [])
seq_added xs v s new old d is there found more =
    written xs v s new (get_or v s [] ++ None ∷ []) is
    (ap (λ z. map decision z) more
    ∙ (map-append decision old.items (None ∷ []) ∙ ap (λ z. z ++ None ∷ []) (shown_at xs v s old d is there found)))

-- one slot fewer
pub seq_dropped : (xs : List Held) (v : List (List (Option Decision))) (s n : ℕ) (new old d : Held)
    → map shown xs ≡ v → s < length xs → old ≡ get_or xs s d → new.items ≡ take (n - 1) old.items → n ≡ length old.items
    → map shown (set xs s new) ≡ set v s (take (length (get_or v s []) - 1) (get_or v s []))
seq_dropped xs v s n new old d is there found fewer many =
    written xs v s new _ is
    (ap (λ z. map decision z) fewer
    ∙ (sym (take-map decision (n - 1) old.items)
    ∙ (ap (λ m. take (m - 1) (shown old)) (many ∙ sym (length-map {B = Option Decision} old.items decision))
    ∙ ap (λ z. take (length z - 1) z) (shown_at xs v s old d is there found))))

-- one slot is filled
pub slot_filled : (xs : List Held) (v : List (List (Option Decision))) (s q : ℕ) (new old d : Held) (slot : Option (Box Verdict Global))
    → map shown xs ≡ v → s < length xs → old ≡ get_or xs s d → new.items ≡ set old.items q slot → map shown (set xs s new) ≡ set v s (set (get_or v s []) q (decision slot))
slot_filled xs v s q new old d slot is there found filled =
    written xs v s new _ is
    (ap (λ z. map decision z) filled
    ∙ (map-set decision old.items q slot ∙ ap (λ z. set z q (decision slot)) (shown_at xs v s old d is there found)))

-- ---- a slot that is added and dropped again

-- a list without the item that was pushed
pub last_dropped : {X : Type 0} (xs : List X) (x : X) → take (length (xs ++ x ∷ []) - 1) (xs ++ x ∷ []) ≡ xs
last_dropped xs x =
    let n = length-append xs (x ∷ []) in let m : length (xs ++ x ∷ []) - 1 ≡ length xs = omega (arith, n) in ap (λ k. take k (xs ++ x ∷ [])) m ∙ take-append_seam xs (x ∷ [])

-- what is there then was there before
pub seqs_restored : (v : List (List (Option Decision))) (s : ℕ) (y z : List (List (Option Decision)))
    → y ≡ set v s (get_or v s [] ++ None ∷ []) → z ≡ set y s (take (length (get_or y s []) - 1) (get_or y s [])) → z ≡ v
seqs_restored v s y z added dropped =
    dropped ∙ (ap (λ w. set w s (take (length (get_or w s []) - 1) (get_or w s []))) added ∙ restored v s)
  where
    restored : (v : List (List (Option Decision))) (s : ℕ) → (let y = set v s (get_or v s [] ++ None ∷ []) in set y s (take (length (get_or y s []) - 1) (get_or y s []))) ≡ v
    restored [] s = refl
    restored (x ∷ xs) zero = ap (λ w. w ∷ xs) (last_dropped x None)
    restored (x ∷ xs) (suc s) = ap (λ w. x ∷ w) (restored xs s)
