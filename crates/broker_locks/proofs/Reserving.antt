-- The topics at which room is reserved, behind those that are used up.
use Rattle.std.proofs.Common.{◌≡◌, ℕ, zero, suc, ◌+◌, List, [], ◌∷◌, drop, refl, sym, ap, subst, ◌∙◌, arith}
use Rattle.std.specs.List.{remove}

module _ {X : Type 0} where
  -- the first is used up
  pub first_used : (used : ℕ) (xs : List X) → drop (used + 1) xs ≡ remove (drop used xs) 0
  first_used used xs = let e : used + 1 ≡ suc used = omega arith in subst (λ (k : ℕ). drop k xs ≡ remove (drop used xs) 0) (sym e) (go used xs)
    where
      go : (n : ℕ) (ys : List X) → drop (suc n) ys ≡ remove (drop n ys) 0
      go zero [] = refl
      go zero (y ∷ ys) = refl
      go (suc n) [] = refl
      go (suc n) (y ∷ ys) = go n ys

  none_removed : (k : ℕ) → remove {X = X} [] k ≡ []
  none_removed zero = refl
  none_removed (suc k) = refl

  -- another one is
  pub other_used : (used index : ℕ) (xs : List X) → drop used (remove xs (used + index)) ≡ remove (drop used xs) index
  other_used zero index xs = let e : 0 + index ≡ index = omega arith in ap (λ (k : ℕ). remove xs k) e
  other_used (suc used) index [] = ap (λ (ys : List X). drop (suc used) ys) (none_removed (suc used + index)) ∙ sym (none_removed index)
  other_used (suc used) index (x ∷ xs) =
      let e : suc used + index ≡ suc (used + index) = omega arith in
      subst (λ (k : ℕ). drop (suc used) (remove (x ∷ xs) k) ≡ remove (drop used xs) index) (sym e) (other_used used index xs)
