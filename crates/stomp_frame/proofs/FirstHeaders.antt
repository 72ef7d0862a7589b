-- The index of a name's first header, and the headers without it.
use Rattle.std.proofs.Common.{◌≡◌, ◌+◌, ℕ, suc, Bool, true, false, cond, not, List, [], ◌∷◌, length, Option, Some, None, nat_lt, refl, ap, subst, ◌∙◌, arith}
use Rattle.std.specs.Prelude.{slice_index_or, find}
use Rattle.std.specs.List.{position, position_or_len, remove}
use Rattle.std.specs.Option.{option_map}
use Rattle.std.specs.Str.{bytes_eq}
use Rattle.std.proofs.lemmas.Slice.Eq.{bytes_eq-Decides}
use Rattle.stomp_frame.specs.Headers.{Header, first_of, without_first}

-- the header has this name
abbrev pub is_named : List ℕ → Header → Bool
is_named name h = bytes_eq h.0 name

-- the index of the name's first header, or the end
abbrev pub place_in : List ℕ → List Header → ℕ
place_in name hs = position_or_len (is_named name) hs

-- the value at that index
place_value : (name : List ℕ) (hs : List Header) (d : Header) → nat_lt (place_in name hs) (length hs) ≡ true → first_of name hs ≡ Some (slice_index_or hs (place_in name hs) d).1
place_value name [] d there = absurd cc
place_value name (h ∷ hs) d there = grind (arith, place_value name hs d)

-- what is left without it
place_rest : (name : List ℕ) (hs : List Header) → remove hs (place_in name hs) ≡ without_first name hs
place_rest name [] = refl
place_rest name (h ∷ hs) = by (bytes_eq h.0 name) (place_rest name hs)
  where
    by : (b : Bool) → remove hs (place_in name hs) ≡ without_first name hs → remove (h ∷ hs) (cond (not b) (1 + place_in name hs) 0) ≡ cond b hs (h ∷ without_first name hs)
    by true rest = refl
    by false rest = let next : 1 + place_in name hs ≡ suc (place_in name hs) = omega arith in rw next (ap (λ (others : List Header). h ∷ others) rest)

-- no index, no value
no_place : (name : List ℕ) (hs : List Header) → nat_lt (place_in name hs) (length hs) ≡ false → first_of name hs ≡ None
no_place name [] none = refl
no_place name (h ∷ hs) none = grind (arith, no_place name hs)

no_rest : (name : List ℕ) (hs : List Header) → nat_lt (place_in name hs) (length hs) ≡ false → hs ≡ without_first name hs
no_rest name [] none = refl
no_rest name (h ∷ hs) none = grind (arith, no_rest name hs)

-- at the index that is found is the name's first header; removing it leaves the headers without it
pub taken : (name : List ℕ) (hs : List Header) (i : ℕ) (d : Header) → position (is_named name) hs ≡ Some i → (first_of name hs ≡ Some (slice_index_or hs i d).1) × (remove hs i ≡ without_first name hs)
taken name hs i d at = by (nat_lt (place_in name hs) (length hs)) refl at
  where
    by : (b : Bool) → nat_lt (place_in name hs) (length hs) ≡ b → cond b (Some (place_in name hs)) None ≡ Some i → (first_of name hs ≡ Some (slice_index_or hs i d).1) × (remove hs i ≡ without_first name hs)
    by true there at = let e : place_in name hs ≡ i = cc in subst (λ i. (first_of name hs ≡ Some (slice_index_or hs i d).1) × (remove hs i ≡ without_first name hs)) e (place_value name hs d there, place_rest name hs)
    by false there at = absurd cc

-- where no index is found, no header has the name
pub untaken : (name : List ℕ) (hs : List Header) → position (is_named name) hs ≡ None → (first_of name hs ≡ None) × (hs ≡ without_first name hs)
untaken name hs at = by (nat_lt (place_in name hs) (length hs)) refl at
  where
    by : (b : Bool) → nat_lt (place_in name hs) (length hs) ≡ b → cond b (Some (place_in name hs)) None ≡ None → (first_of name hs ≡ None) × (hs ≡ without_first name hs)
    by true there at = absurd cc
    by false there at = (no_place name hs there, no_rest name hs there)

same_found : (b : Bool) (h : Header) (x y : Option Header) → option_map (λ (g : Header). g.1) x ≡ option_map (λ (g : Header). g.1) y → option_map (λ (g : Header). g.1) (cond b (Some h) x) ≡ option_map (λ (g : Header). g.1) (cond b (Some h) y)
same_found true h x y same = refl
same_found false h x y same = same

-- the first header of another name stays
pub first_apart : (name other : List ℕ) (hs : List Header) → bytes_eq other name ≡ false → first_of name (without_first other hs) ≡ first_of name hs
first_apart name other [] apart = refl
first_apart name other (h ∷ hs) apart = by (bytes_eq h.0 other) refl (first_apart name other hs apart)
  where
    by : (b : Bool) → bytes_eq h.0 other ≡ b → first_of name (without_first other hs) ≡ first_of name hs → first_of name (cond b hs (h ∷ without_first other hs)) ≡ first_of name (h ∷ hs)
    by true same rest = let no : bytes_eq h.0 name ≡ false = ap (λ n. bytes_eq n name) ((bytes_eq-Decides h.0 other).0 same) ∙ apart in rw no refl
    by false other_name rest = same_found (bytes_eq h.0 name) h (find (λ g. bytes_eq g.0 name) (without_first other hs)) (find (λ g. bytes_eq g.0 name) hs) rest
