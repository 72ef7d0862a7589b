-- The first name in a list that passes a test, and what a map of fingerprints knows of it.
use Rattle.std.proofs.Common.{◌≡◌, ◌⊎◌, inl, inr, ◌+◌, ◌<◌, ◌≤◌, ℕ, zero, suc, Bool, true, false, cond, List, [], ◌∷◌, ◌++◌, Option, Some, None, length, take, min, refl, sym, ap, ◌∙◌, arith, slice_get, get_or, position, nat_eq, nat_lt, eqb}
use Rattle.std.proofs.lemmas.Bool.{true≢false}
use Rattle.std.proofs.lemmas.List.{get_or-take, length-append, length-map, length-take}
use Rattle.std.proofs.lemmas.List.Folds.{position_or_len_push}
use Rattle.std.proofs.lemmas.List.Sums.{fails_before_first, passes_at_first, position_or_len_is}
use Rattle.std.proofs.lemmas.Option.{get_or_from_slice_get, none-some, same_Some}
use Rattle.std.proofs.lemmas.Slice.Eq.{bytes_eq-Decides}
use Rattle.std.specs.Arc.{arc_value}
use Rattle.std.specs.Cmp.Lexicographic.{nat_list_eq_equiv}
use Rattle.std.specs.List.{list_any, position_or_len}
use Rattle.std.specs.declared.alloc.Global.{Global}
use Rattle.std.specs.declared.sync.Arc.{Arc}
use Rattle.std.specs.Map.{lookup}
use Rattle.std.specs.Option.{option_map, option_or}
use Rattle.std.specs.Str.{bytes_eq}
use Rattle.stomp_session.specs.Names.{index_of, is_known}
use Rattle.stomp_session.specs.Inner.Stored.{AreDistinct, FindsFirsts, fingerprint, names_of}

-- ---- where the first is

abbrev first : (List ℕ → Bool) → List (List ℕ) → ℕ
first p xs = position_or_len p xs

-- it is within, or at the end where there is none
pub first_within : (p : List ℕ → Bool) (xs : List (List ℕ)) → first p xs ≤ length xs
first_within p [] = omega arith
first_within p (x ∷ xs) = grind (arith, first_within p xs)

-- some item passes where it is within
pub any_is_first : (p : List ℕ → Bool) (xs : List (List ℕ)) → list_any p xs ≡ nat_lt (first p xs) (length xs)
any_is_first p [] = refl
any_is_first p (x ∷ xs) = grind (arith, any_is_first p xs)

-- one more item
pub position-push : (p : List ℕ → Bool) (xs : List (List ℕ)) (y : List ℕ)
    → position p (xs ++ y ∷ []) ≡ option_or (position p xs) (cond (p y) (Some (length xs)) None)
position-push p xs y =
    ap (λ (n : ℕ). cond (nat_lt (first p (xs ++ y ∷ [])) n) (Some (first p (xs ++ y ∷ []))) None) (length-append xs (y ∷ []))
    ∙ by (first p xs) (length xs) (first p (xs ++ y ∷ [])) (p y) (first_within p xs) (position_or_len_push p xs y)
  where
    by : (n len m : ℕ) (b : Bool) → n ≤ len → m ≡ cond (eqb n len) (len + cond b 0 1) n
        → cond (nat_lt m (len + 1)) (Some m) None ≡ option_or (cond (nat_lt n len) (Some n) None) (cond b (Some len) None)
    by n len m b within is = grind (arith, within, is)

-- the first of those that stand in front
pub first_in_front : (p : List ℕ → Bool) (xs : List (List ℕ)) (count : ℕ) → first p (take count xs) ≡ min count (first p xs)
first_in_front p xs count =
    position_or_len_is p (take count xs) (min count (first p xs)) []
    (omega (arith, first_within p xs, length-take count xs))
    (λ k below. ap p (get_or-take count xs k [] (omega (arith, below))) ∙ fails_before_first p xs k [] (omega (arith, below)))
    (λ within. by within)
  where
    by : min count (first p xs) < length (take count xs) → p (get_or (take count xs) (min count (first p xs)) []) ≡ true
    by within =
        let short : first p xs < count = omega (arith, within, length-take count xs) in
        let same : min count (first p xs) ≡ first p xs = omega (arith, short) in
        ap (λ (k : ℕ). p (get_or (take count xs) k [])) same
        ∙ ap p (get_or-take count xs (first p xs) [] short)
        ∙ passes_at_first p xs [] (omega (arith, within, short, length-take count xs))

-- ---- a narrower test

module _ (p q : List ℕ → Bool) (wider : (x : List ℕ) → p x ≡ true → q x ≡ true) where
  fails_too : (x : List ℕ) → q x ≡ false → p x ≡ false
  fails_too x fails = by (p x) refl
    where
      by : (b : Bool) → p x ≡ b → b ≡ false
      by true it = absurd (true≢false (sym (wider x it) ∙ fails))
      by false it = refl

  none_is_first : (xs : List (List ℕ)) → first q xs ≡ length xs → first p xs ≡ length xs
  none_is_first xs none =
      position_or_len_is p xs (length xs) [] (omega arith)
      (λ k below. fails_too (get_or xs k []) (fails_before_first q xs k [] (omega (arith, below, none))))
      (λ over. absurd (omega (arith, over)))

  is_first_too : (xs : List (List ℕ)) → first q xs < length xs → p (get_or xs (first q xs) []) ≡ true → first p xs ≡ first q xs
  is_first_too xs there passes =
      position_or_len_is p xs (first q xs) [] (omega (arith, there))
      (λ k below. fails_too (get_or xs k []) (fails_before_first q xs k [] below))
      (λ within. passes)

-- ---- what is found by a fingerprint

abbrev pub has_mark : ℕ → List ℕ → Bool
has_mark f name = nat_eq f (fingerprint name)

-- who has these octets has their fingerprint
same_mark : (text name : List ℕ) → bytes_eq text name ≡ true → has_mark (fingerprint text) name ≡ true
same_mark text name same =
    let is : text ≡ name = (bytes_eq-Decides text name).0 same in
    ap (λ (x : List ℕ). nat_eq (fingerprint text) (fingerprint x)) (sym is) ∙ grind arith

-- no name has the octets of a fingerprint that isn't found
pub none_found : (text : List ℕ) (entries : List (ℕ × ℕ)) (names : List (List ℕ)) → FindsFirsts entries names
    → lookup (nat_eq (fingerprint text)) entries ≡ None → position (bytes_eq text) names ≡ None
none_found text entries names finds none =
    let p = bytes_eq text in
    let q = has_mark (fingerprint text) in
    let absent : position q names ≡ None = sym (finds (fingerprint text)) ∙ none in
    let over : first q names ≡ length names = grind (arith, absent, first_within q names) in
    let at : first p names ≡ length names = none_is_first p q (same_mark text) names over in
    grind (arith, at)

-- the first name of a fingerprint is the first that has the octets, if it has them
pub first_found : (text : List ℕ) (entries : List (ℕ × ℕ)) (names : List (List ℕ)) (at : ℕ) (name : List ℕ) → FindsFirsts entries names
    → lookup (nat_eq (fingerprint text)) entries ≡ Some at → slice_get names at ≡ Some name → bytes_eq text name ≡ true
    → position (bytes_eq text) names ≡ Some at
first_found text entries names at name finds found is same =
    let p = bytes_eq text in
    let q = has_mark (fingerprint text) in
    let there : position q names ≡ Some at = sym (finds (fingerprint text)) ∙ found in
    let where_it_is : first q names ≡ at = grind (arith, there, first_within q names) in
    let within : first q names < length names = grind (arith, there, first_within q names) in
    let passes : p (get_or names (first q names) []) ≡ true =
    ap (λ (k : ℕ). p (get_or names k [])) where_it_is ∙ ap p (get_or_from_slice_get names at name [] is) ∙ same in
    let one : first p names ≡ first q names = is_first_too p q (same_mark text) names within passes in
    grind (arith, one, where_it_is, within)

-- one more name, which is noted where no name before it has its fingerprint
pub finds_one_more : (entries later : List (ℕ × ℕ)) (names : List (List ℕ)) (name : List ℕ) → FindsFirsts entries names
    → ((f : ℕ) → lookup (nat_eq f) later ≡ option_or (lookup (nat_eq f) entries) (cond (nat_eq f (fingerprint name)) (Some (length names)) None))
    → FindsFirsts later (names ++ name ∷ [])
finds_one_more entries later names name finds noted f =
    noted f
    ∙ ap (λ o. option_or o (cond (nat_eq f (fingerprint name)) (Some (length names)) None)) (finds f)
    ∙ sym (position-push (has_mark f) names name)

-- ---- what is known of the names in front

-- a name that none of all has is none of those in front
pub unknown_in_front : (name : List ℕ) (names : List (List ℕ)) (count : ℕ) → position (bytes_eq name) names ≡ None
    → count ≤ length names → is_known name (take count names) ≡ false
unknown_in_front name names count none within =
    let p = bytes_eq name in
    let at : first p names ≡ length names = grind (arith, none, first_within p names) in
    any_is_first p (take count names)
    ∙ grind (arith, at, within, first_in_front p names count, length-take count names)

-- one that is the first of all that has the octets is known if it is one of those in front
pub known_in_front : (name : List ℕ) (names : List (List ℕ)) (count at : ℕ) → position (bytes_eq name) names ≡ Some at
    → count ≤ length names → is_known name (take count names) ≡ nat_lt at count
known_in_front name names count at found within =
    let p = bytes_eq name in
    let is : first p names ≡ at = grind (arith, found, first_within p names) in
    any_is_first p (take count names)
    ∙ grind (arith, is, within, first_in_front p names count, length-take count names)

pub index_in_front : (name : List ℕ) (names : List (List ℕ)) (count at : ℕ) → position (bytes_eq name) names ≡ Some at
    → at < count → index_of name (take count names) ≡ at
index_in_front name names count at found within =
    let p = bytes_eq name in
    let is : first p names ≡ at = grind (arith, found, first_within p names) in
    first_in_front p names count ∙ omega (arith, is, within)

-- ---- names each of which is there once

-- a name that isn't known has no place
pub unknown_nowhere : (name : List ℕ) (names : List (List ℕ)) → is_known name names ≡ false → position (bytes_eq name) names ≡ None
unknown_nowhere name names unknown =
    let over : nat_lt (first (bytes_eq name) names) (length names) ≡ false = sym (any_is_first (bytes_eq name) names) ∙ unknown in
    grind (arith, over)

-- an item of a list with one more is one of the list, or that one
get_one_more : (names : List (List ℕ)) (name : List ℕ) (at : ℕ) (one : List ℕ) → slice_get (names ++ name ∷ []) at ≡ Some one
    → (slice_get names at ≡ Some one) ⊎ ((at ≡ length names) × (one ≡ name))
get_one_more [] name zero one is = inr (refl, sym (same_Some name one is))
get_one_more [] name (suc at) one is = absurd (none-some one is)
get_one_more (other ∷ names) name zero one is = inl is
get_one_more (other ∷ names) name (suc at) one is =
    elim (get_one_more names name at one is) [
      | inl before ↦ inl before
      | inr (there, same) ↦ inr (omega (arith, there), same)
    ]

-- one more name, which isn't known
pub distinct_one_more : (names : List (List ℕ)) (name : List ℕ) → AreDistinct names → is_known name names ≡ false
    → AreDistinct (names ++ name ∷ [])
distinct_one_more names name distinct unknown at one is =
    elim (get_one_more names name at one is) [
      | inl before ↦
          position-push (bytes_eq one) names name
          ∙ ap (λ (o : Option ℕ). option_or o (cond (bytes_eq one name) (Some (length names)) None)) (distinct at one before)
      | inr (there, same) ↦
          let none : position (bytes_eq one) names ≡ None = ap (λ (x : List ℕ). position (bytes_eq x) names) same ∙ unknown_nowhere name names unknown in
          let equal : bytes_eq one name ≡ true = (bytes_eq-Decides one name).1 same in
          position-push (bytes_eq one) names name
          ∙ ap (λ (o : Option ℕ). option_or o (cond (bytes_eq one name) (Some (length names)) None)) none
          ∙ ap (λ (b : Bool). cond b (Some (length names)) None) equal
          ∙ ap Some (sym there)
    ]

-- a name isn't known to those in front of it
pub unknown_before : (names : List (List ℕ)) (at : ℕ) (name : List ℕ) → AreDistinct names → slice_get names at ≡ Some name
    → at < length names → is_known name (take at names) ≡ false
unknown_before names at name distinct is within =
    known_in_front name names at at (distinct at name is) (omega (arith, within)) ∙ grind arith

-- a walk over the names that are shared
pub position-names_of : (text : List ℕ) (names : List (Arc (List ℕ) Global)) → position (λ name. bytes_eq (arc_value name) text) names ≡ position (bytes_eq text) (names_of names)
position-names_of text names = grind (arith, first-names_of text names, length-map names (λ (name : Arc (List ℕ) Global). arc_value name))
  where
    first-names_of : (text : List ℕ) (names : List (Arc (List ℕ) Global)) → position_or_len (λ name. bytes_eq (arc_value name) text) names ≡ position_or_len (bytes_eq text) (names_of names)
    first-names_of text [] = refl
    first-names_of text (name ∷ names) = grind (arith, nat_list_eq_equiv.symm text (arc_value name), first-names_of text names)

-- one more of them
pub names_of-push : (names : List (Arc (List ℕ) Global)) (name : Arc (List ℕ) Global) → names_of (names ++ name ∷ []) ≡ names_of names ++ arc_value name ∷ []
names_of-push [] name = refl
names_of-push (one ∷ names) name = ap (λ (more : List (List ℕ)). arc_value one ∷ more) (names_of-push names name)

-- how many they are
pub length-names_of : (names : List (Arc (List ℕ) Global)) → length (names_of names) ≡ length names
length-names_of names = length-map names (λ (name : Arc (List ℕ) Global). arc_value name)

-- the name at an index
pub name_at : (names : List (Arc (List ℕ) Global)) (at : ℕ) (name : Arc (List ℕ) Global) → slice_get names at ≡ Some name → slice_get (names_of names) at ≡ Some (arc_value name)
name_at names at name is = slice_get-map names at ∙ ap (option_map arc_value) is
  where
    slice_get-map : (names : List (Arc (List ℕ) Global)) (at : ℕ) → slice_get (names_of names) at ≡ option_map arc_value (slice_get names at)
    slice_get-map [] at = refl
    slice_get-map (one ∷ names) zero = refl
    slice_get-map (one ∷ names) (suc at) = slice_get-map names at
