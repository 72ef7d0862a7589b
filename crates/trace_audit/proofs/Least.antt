-- The least of numbers.
use Rattle.std.proofs.Common.{◌≡◌, ℕ, min, Bool, true, false, cond, nat_lt, ◌+◌, ◌<◌, length, get_or, drop, List, [], ◌∷◌, ◌++◌, map, Option, Some, None, refl, sym, ap, ◌∙◌, arith}
use Rattle.std.specs.List.{filter, flat_map}
use Rattle.std.proofs.lemmas.List.{drop_more}
use Rattle.std.proofs.lemmas.Bool.Decides.{nat_tests}
use Rattle.trace_audit.specs.Faults.{lesser, least}

lesser_min : (a b : ℕ) → lesser (Some a) (Some b) ≡ Some (min a b)
lesser_min a b = go (nat_lt b a) refl
  where
    go : (t : Bool) → nat_lt b a ≡ t → cond t (Some b) (Some a) ≡ Some (min a b)
    go true e = let k : b ≡ min a b = grind (arith, nat_tests) in ap (λ (z : ℕ). Some z) k
    go false e = let k : a ≡ min a b = grind (arith, nat_tests) in ap (λ (z : ℕ). Some z) k

-- the lesser of a number and none is the number
pub lesser_none : (a : Option ℕ) → lesser a None ≡ a
lesser_none None = refl
lesser_none (Some a) = refl

-- lesser is associative
pub lesser_assoc : (a b c : Option ℕ) → lesser (lesser a b) c ≡ lesser a (lesser b c)
lesser_assoc None b c = refl
lesser_assoc (Some a) None c = refl
lesser_assoc (Some a) (Some b) None = lesser_none (lesser (Some a) (Some b))
lesser_assoc (Some a) (Some b) (Some c) =
    ap (λ (z : Option ℕ). lesser z (Some c)) (lesser_min a b)
    ∙ (lesser_min (min a b) c
    ∙ (ap (λ (z : ℕ). Some z) (let e : min (min a b) c ≡ min a (min b c) = omega arith in e)
    ∙ (sym (lesser_min a (min b c)) ∙ ap (lesser (Some a)) (sym (lesser_min b c)))))

-- the least of two lists together is the lesser of their leasts
pub least_append : (xs ys : List ℕ) → least (xs ++ ys) ≡ lesser (least xs) (least ys)
least_append [] ys = refl
least_append (x ∷ xs) ys =
    ap (lesser (Some x)) (least_append xs ys) ∙ sym (lesser_assoc (Some x) (least xs) (least ys))

-- one more that passes
pub one_passes : {X : Type 0} (number : X → ℕ) (p : X → Bool) (best : Option ℕ) (x : X) (xs : List X) → p x ≡ true → lesser (lesser best (Some (number x))) (least (map number (filter p xs))) ≡ lesser best (least (map number (filter p (x ∷ xs))))
one_passes number p best x xs h = rw h (lesser_assoc best (Some (number x)) (least (map number (filter p xs))))

-- the numbers of one item more
pub one_more : {X : Type 0} (f : X → List ℕ) (best : Option ℕ) (x : X) (xs : List X) → lesser (lesser best (least (f x))) (least (flat_map f xs)) ≡ lesser best (least (flat_map f (x ∷ xs)))
one_more f best x xs =
    lesser_assoc best (least (f x)) (least (flat_map f xs))
    ∙ ap (lesser best) (sym (least_append (f x) (flat_map f xs)))

-- the list from a place on is what is at the place, and then the list from the next
pub rest_is : {X : Type 0} (xs : List X) (i : ℕ) (x : X) → i < length xs → x ≡ get_or xs i x → drop i xs ≡ x ∷ drop (i + 1) xs
rest_is xs i x l e = drop_more xs i x l ∙ ap (λ (z : _). z ∷ drop (i + 1) xs) (sym e)
