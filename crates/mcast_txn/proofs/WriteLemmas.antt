-- Writes to a list that keeps one item in place: it is lent as a slice, and written back whole.
use Rattle.std.proofs.Common.{◌≡◌, ℕ, List, length, set, ap, ◌∙◌}
use Rattle.std.proofs.lemmas.List.{length-set}
use Rattle.std.specs.List.{refill}
use Rattle.smallvec.proofs.SmallVecLemmas.{items-with_items}

-- a list that was lent whole, and written at one index, is the list with that item
pub written_back : {X : Type 0} (xs lent : List X) (i : ℕ) (x : X) → lent ≡ xs → refill (length xs) xs (set lent i x) ≡ set xs i x
written_back xs lent i x same =
    ap (λ ys. refill (length xs) xs (set ys i x)) same ∙ items-with_items (record { items = xs; capacity = length xs }) (set xs i x) (length-set xs i x)

-- a list that was lent whole, and written all over, is what was written
pub rewritten : {X : Type 0} (xs ys : List X) → length ys ≡ length xs → refill (length xs) xs ys ≡ ys
rewritten xs ys long = items-with_items (record { items = xs; capacity = length xs }) ys long
