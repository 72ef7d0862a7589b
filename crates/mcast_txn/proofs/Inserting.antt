-- An item put among others.
use Rattle.std.proofs.Common.{◌≡◌, ◌≢◌, ℕ, zero, suc, ◌<◌, nat_lt, Bool, true, false, cond, ◌⊎◌, inl, inr, List, [], ◌∷◌, map, length, refl, ap, subst, arith}
use Rattle.std.specs.List.{AllByRecursion, insert}
use Rattle.std.proofs.lemmas.Bool.Decides.{nat_tests}
use Rattle.mcast_txn.specs.Lists.{In, RisesBy, insert_before, insert_by_number}
use Rattle.mcast_txn.proofs.Rising.{IsGap}

module _ {X : Type 0} (passes : X → Bool) where
  -- what is in a list after an insertion was there before, or is the new item
  pub In-insert_cases : (q x : X) (xs : List X) → In q (insert_before passes x xs) → (x ≡ q) ⊎ In q xs
  In-insert_cases q x [] i = i
  In-insert_cases q x (y ∷ ys) i = go (passes y) (In-insert_cases q x ys) i
    where
      go : (b : Bool) → (In q (insert_before passes x ys) → (x ≡ q) ⊎ In q ys) → In q (cond b (x ∷ y ∷ ys) (y ∷ insert_before passes x ys)) → (x ≡ q) ⊎ In q (y ∷ ys)
      go true ih j = j
      go false ih (inl e) = inr (inl e)
      go false ih (inr j) = elim (ih j) [ inl e ↦ inl e | inr k ↦ inr (inr k) ]

  -- the new item, and each that was there, is in the list after an insertion
  pub In-insert : (q x : X) (xs : List X) → (x ≡ q) ⊎ In q xs → In q (insert_before passes x xs)
  In-insert q x [] i = i
  In-insert q x (y ∷ ys) i = go (passes y) (In-insert q x ys) i
    where
      go : (b : Bool) → ((x ≡ q) ⊎ In q ys → In q (insert_before passes x ys)) → (x ≡ q) ⊎ In q (y ∷ ys) → In q (cond b (x ∷ y ∷ ys) (y ∷ insert_before passes x ys))
      go true ih j = j
      go false ih (inl e) = inr (ih (inl e))
      go false ih (inr (inl e)) = inl e
      go false ih (inr (inr j)) = inr (ih (inr j))

  -- an insertion adds one to the length
  pub insert_length : (x : X) (xs : List X) → length (insert_before passes x xs) ≡ suc (length xs)
  insert_length x [] = refl
  insert_length x (y ∷ ys) = go (passes y) (insert_length x ys)
    where
      go : (b : Bool) → length (insert_before passes x ys) ≡ suc (length ys) → length (cond b (x ∷ y ∷ ys) (y ∷ insert_before passes x ys)) ≡ suc (suc (length ys))
      go true ih = refl
      go false ih = ap suc ih

  -- what holds of each, the new one too, holds of each after an insertion
  pub insert_one : (P : X → Type 0) (xs : List X) (x : X) → ((q : X) → In q xs → P q) → P x → (q : X) → In q (insert_before passes x xs) → P q
  insert_one P xs x h k q i = elim (In-insert_cases q x xs i) [ inl e ↦ subst P e k | inr j ↦ h q j ]

  -- what holds of each two, the new one among them, holds of each two after an insertion
  pub insert_two : (P : X → X → Type 0) (xs : List X) (v : X) → ((x y : X) → In x xs → In y xs → P x y) → ((x : X) → In x xs → P x v) → ((x : X) → In x xs → P v x) → P v v → (x y : X) → In x (insert_before passes v xs) → In y (insert_before passes v xs) → P x y
  insert_two P xs v old left right new x y i j =
      insert_one (λ (z : _). P z y) xs v
      (λ z k. insert_one (λ (q : _). P z q) xs v (λ q l. old z q k l) (left z k) y j)
      (insert_one (λ (q : _). P v q) xs v right new y j) x i

  all_inserted : (P : X → Type 0) (x : X) (xs : List X) → P x → AllByRecursion P xs → AllByRecursion P (insert_before passes x xs)
  all_inserted P x [] h all = (h, tt)
  all_inserted P x (y ∷ ys) h all = go (passes y) (all_inserted P x ys h all.1)
    where
      go : (b : Bool) → AllByRecursion P (insert_before passes x ys) → AllByRecursion P (cond b (x ∷ y ∷ ys) (y ∷ insert_before passes x ys))
      go true ih = (h, all)
      go false ih = (all.0, ih)

-- the images of a list after an insertion have the new item's image among them
pub map_insert : {X Y : Type 0} (passes : X → Bool) (kept : Y → Bool) (f : X → Y) (x : X) (xs : List X) → ((y : X) → passes y ≡ kept (f y)) → map f (insert_before passes x xs) ≡ insert_before kept (f x) (map f xs)
map_insert passes kept f x [] same = refl
map_insert passes kept f x (y ∷ ys) same = go (passes y) (kept (f y)) (same y) (map_insert passes kept f x ys same)
  where
    go : (b c : Bool) → b ≡ c → map f (insert_before passes x ys) ≡ insert_before kept (f x) (map f ys) → map f (cond b (x ∷ y ∷ ys) (y ∷ insert_before passes x ys)) ≡ cond c (f x ∷ f y ∷ map f ys) (f y ∷ insert_before kept (f x) (map f ys))
    go true true e ih = refl
    go true false e ih = cc
    go false true e ih = cc
    go false false e ih = ap (λ zs. f y ∷ zs) ih

-- ---- by number

below_by_test : (a b : ℕ) → nat_lt a b ≡ true → a < b
below_by_test a b h = grind (arith, nat_tests)

above_by_test : (a b : ℕ) → nat_lt a b ≡ false → b ≢ a → b < a
above_by_test a b h n = grind (arith, nat_tests)

module _ {X : Type 0} (number : X → ℕ) where
  all_above : (a b : ℕ) (xs : List X) → a < b → AllByRecursion (λ x. b < number x) xs → AllByRecursion (λ x. a < number x) xs
  all_above a b [] l all = tt
  all_above a b (x ∷ xs) l all = (let m : b < number x = all.0 in omega arith, all_above a b xs l all.1)

  -- they rise after an insertion, where the new number isn't there
  pub rises_inserted : (x : X) (xs : List X) → RisesBy number xs → ((y : X) → In y xs → number y ≢ number x) → RisesBy number (insert_by_number number x xs)
  rises_inserted x [] h free = (tt, tt)
  rises_inserted x (y ∷ ys) h free = go (nat_lt (number x) (number y)) refl (rises_inserted x ys h.1 (λ z i. free z (inr i)))
    where
      go : (b : Bool) → nat_lt (number x) (number y) ≡ b → RisesBy number (insert_by_number number x ys) → RisesBy number (cond b (x ∷ y ∷ ys) (y ∷ insert_by_number number x ys))
      go true k ih = let l = below_by_test (number x) (number y) k in ((l, all_above (number x) (number y) ys l h.0), h)
      go false k ih =
          let l = above_by_test (number x) (number y) k (free y (inl refl)) in
          (all_inserted (λ z. nat_lt (number x) (number z)) (λ (z : X). number y < number z) x ys l h.0, ih)

  -- one that is put into the gap of its number is at its place
  pub puts_in_gap : (xs : List X) (i : ℕ) (x : X) → IsGap number xs (number x) i → insert xs i x ≡ insert_by_number number x xs
  puts_in_gap [] zero x gap = refl
  puts_in_gap [] (suc i) x gap = refl
  puts_in_gap (y ∷ xs) zero x gap = grind (arith, nat_tests, gap.above 0 x (omega arith) (omega arith))
  puts_in_gap (y ∷ xs) (suc i) x gap =
      let ih = puts_in_gap xs i x (record { in_range = omega (arith, gap.in_range); below = λ j d h. gap.below (suc j) d (omega arith); above = λ j d h l. gap.above (suc j) d (omega arith) (omega arith) }) in
      grind (arith, nat_tests, gap.below 0 x (omega arith))
