-- The tables of the octets as they are written, and of those that the letters stand for.
use Rattle.std.proofs.Common.{◌≡◌, ℕ, ◌+◌, ◌*◌, ◌<◌, ◌⊎◌, inl, inr, true, eqb, List, ◌∷◌, ◌++◌, [], get_or, replicate, Option, Some, None, refl, sym, ap, ◌∙◌, arith}
use Rattle.std.proofs.lemmas.Bool.{agree_below_at, eqb-true}
use Rattle.std.specs.List.{flat_map, range_with_len}
use Rattle.std.specs.Option.{option_map_or}
use Rattle.std.proofs.lemmas.Bool.Decides.{nat_tests}
use Rattle.stomp_escape.specs.Inner.Escaping.{first_written, letter_or_zero}
use Rattle.stomp_escape.specs.Inner.Unescaping.{octet_of}

-- each octet as it is written, in two octets
abbrev pub table : List ℕ
table = flat_map (λ b. first_written b ∷ letter_or_zero b ∷ []) (range_with_len 0 256)

-- the first of an octet's two
pub first_at : (b : ℕ) → b < 256 → get_or table (2 * b) 0 ≡ first_written b
first_at b lt = eqb-true _ _ (agree_below_at (λ x. eqb (get_or table (2 * x) 0) (first_written x)) (λ _. true) 256 b refl lt)

-- and the second
pub second_at : (b : ℕ) → b < 256 → get_or table (2 * b + 1) 0 ≡ letter_or_zero b
second_at b lt = eqb-true _ _ (agree_below_at (λ x. eqb (get_or table (2 * x + 1) 0) (letter_or_zero x)) (λ _. true) 256 b refl lt)

-- the octet whose escape has each letter, or 0
abbrev pub octets : List ℕ
octets = replicate 92 0 ++ 92 ∷ (replicate 6 0 ++ 58 ∷ (replicate 10 0 ++ 10 ∷ 0 ∷ 0 ∷ 0 ∷ 13 ∷ replicate 141 0))

octet_at : (c : ℕ) → c < 256 → get_or octets c 0 ≡ option_map_or (λ o. o) (octet_of c) 0
octet_at c lt = eqb-true _ _ (agree_below_at (λ x. eqb (get_or octets x 0) (option_map_or (λ o. o) (octet_of x) 0)) (λ _. true) 256 c refl lt)

-- an option is Some or None
pub option_cases : (o : Option ℕ) → ((b : ℕ) × (o ≡ Some b)) ⊎ (o ≡ None)
option_cases None = inr refl
option_cases (Some b) = inl (b, refl)

octet_some : (c b : ℕ) → octet_of c ≡ Some b → b ≡ 0 → ⊥
octet_some c b e same = grind (arith, nat_tests)

-- where the table has 0, the letter is of no escape
pub octet_none : (c : ℕ) → c < 256 → get_or octets c 0 ≡ 0 → None ≡ octet_of c
octet_none c lt zero =
    let found = octet_at c lt in
    elim (option_cases (octet_of c)) [
      | inl (b, some) ↦ absurd (octet_some c b some (sym (found ∙ ap (λ o. option_map_or (λ x. x) o 0) some) ∙ zero))
      | inr none ↦ sym none
    ]

-- where it has another octet, the letter is of that octet's escape
pub octet_found : (c : ℕ) → c < 256 → (get_or octets c 0 ≡ 0 → ⊥) → Some (get_or octets c 0) ≡ octet_of c
octet_found c lt ne =
    let found = octet_at c lt in
    elim (option_cases (octet_of c)) [
      | inl (b, some) ↦ ap (λ (x : ℕ). Some x) (found ∙ ap (λ o. option_map_or (λ x. x) o 0) some) ∙ sym some
      | inr none ↦ absurd (ne (found ∙ ap (λ o. option_map_or (λ x. x) o 0) none))
    ]
