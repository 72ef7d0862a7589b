-- What is read is spelled so, and what is spelled so is read.
use Rattle.std.proofs.Common.{◌≡◌, ◌≢◌, ℕ, ◌+◌, ◌⊎◌, inl, inr, List, [], ◌∷◌, ◌++◌, length, Some, None, Result, Ok, Err, refl, sym, ap, subst, ◌∙◌, arith}
use Rattle.std.specs.Prelude.{IfOk, IfErr}
use Rattle.std.proofs.lemmas.Bool.{cases_eq}
use Rattle.std.proofs.lemmas.Bool.Decides.{nat_tests}
use Rattle.std.proofs.lemmas.List.{append-nil}
use Rattle.stomp_escape.specs.declared.fault.EscapeFault.{EscapeFault}
use Rattle.stomp_escape.specs.declared.fault.EscapeFault.TheVariants.{Undefined, Cut, NoMemory}
use Rattle.stomp_escape.specs.Escape.{letter_of, escaped_octet, escaped, Spells, IsFirstFault, IsSpelled, IsFaulty, IsUnbroken, Gives}
use Rattle.stomp_escape.specs.Inner.Unescaping.{octet_of, before, unescaped_from, unescaped, with_front}
use Rattle.stomp_escape.proofs.Steps.{plain_at, escape_at, undefined_at, cut_at, nothing_at}
use Rattle.stomp_escape.proofs.Letters.{option_cases}

-- An escaped text spells what was escaped.
pub Spells-escaped : (v : List ℕ) → Spells (escaped v) v
Spells-escaped [] = refl
Spells-escaped (b ∷ v) = (escaped v, Spells-escaped v, inl refl)

-- the four escapes, and no other
pub octet-letter : (b c : ℕ) → octet_of c ≡ Some b → letter_of b ≡ Some c
octet-letter b c e = grind (arith, nat_tests)

-- The letter of an octet's escape is read as that octet.
pub letter-octet : (b c : ℕ) → letter_of b ≡ Some c → octet_of c ≡ Some b
letter-octet b c e = grind (arith, nat_tests)

-- An octet that has no escape isn't a backslash.
pub no_letter : (b : ℕ) → letter_of b ≡ None → b ≢ 92
no_letter b e same = grind (arith, nat_tests)

with_front-nil : (r : Result (List ℕ) EscapeFault) → with_front [] r ≡ r
with_front-nil (Ok v) = refl
with_front-nil (Err e) = refl

before-with_front : (b : ℕ) (v : List ℕ) (r : Result (List ℕ) EscapeFault) → before b (with_front v r) ≡ with_front (b ∷ v) r
before-with_front b v (Ok w) = refl
before-with_front b v (Err e) = refl

-- Reading goes through what is spelled.
pub through : (v front tail : List ℕ) (at : ℕ) → Spells front v → unescaped_from at (front ++ tail) ≡ with_front v (unescaped_from (at + length front) tail)
through [] front tail at s =
    let none : at + 0 ≡ at = omega arith in
    rw (s, none) (sym (with_front-nil (unescaped_from at tail)))
through (b ∷ v) front tail at (rest, s, inr (ne, e)) =
    let later = through v rest tail (at + 1) s in
    let index : at + 1 + length rest ≡ at + length front = omega (arith, ap length e) in
    rw (e) (plain_at at b (rest ++ tail) ne) ∙ ap (before b) later ∙ rw index (before-with_front b v (unescaped_from (at + length front) tail))
through (b ∷ v) front tail at (rest, s, inl e) =
    elim (option_cases (letter_of b)) [
      | inl (c, l) ↦
          let text : front ≡ 92 ∷ c ∷ rest = e ∙ rw l refl in
          let later = through v rest tail (at + 2) s in
          let index : at + 2 + length rest ≡ at + length front = omega (arith, ap length text) in
          rw text (escape_at at 92 c b (rest ++ tail) refl (letter-octet b c l)) ∙ ap (before b) later ∙ rw index (before-with_front b v (unescaped_from (at + length front) tail))
      | inr none ↦
          let text : front ≡ b ∷ rest = e ∙ rw none refl in
          let later = through v rest tail (at + 1) s in
          let index : at + 1 + length rest ≡ at + length front = omega (arith, ap length text) in
          rw text (plain_at at b (rest ++ tail) (no_letter b none)) ∙ ap (before b) later ∙ rw index (before-with_front b v (unescaped_from (at + length front) tail))
    ]

abbrev Found : ℕ → List ℕ → Result (List ℕ) EscapeFault → Type 0
Found at text (Ok v) = Spells text v
Found at text (Err (Undefined k)) = (v front : List ℕ) × (c : ℕ) × (rest : List ℕ) × Spells front v × (at + length front ≡ k) × (text ≡ front ++ 92 ∷ c ∷ rest) × ((b : ℕ) → letter_of b ≢ Some c)
Found at text (Err Cut) = IsFirstFault text Cut
Found at text (Err NoMemory) = ⊥

Found-plain : (at b : ℕ) (t : List ℕ) (r : Result (List ℕ) EscapeFault) → b ≢ 92 → Found (at + 1) t r → Found at (b ∷ t) (before b r)
Found-plain at b t (Ok v) ne f = (t, f, inr (ne, refl))
Found-plain at b t (Err (Undefined k)) ne (v, front, c, rest, s, len, e, h) = (b ∷ v, b ∷ front, c, rest, (front, s, inr (ne, refl)), omega arith, ap (λ (w : List ℕ). b ∷ w) e, h)
Found-plain at b t (Err Cut) ne (v, front, s, e) = (b ∷ v, b ∷ front, (front, s, inr (ne, refl)), ap (λ (w : List ℕ). b ∷ w) e)
Found-plain at b t (Err NoMemory) ne f = f

Found-escape : (at c o : ℕ) (t : List ℕ) (r : Result (List ℕ) EscapeFault) → letter_of o ≡ Some c → Found (at + 2) t r → Found at (92 ∷ c ∷ t) (before o r)
Found-escape at c o t (Ok v) l f = (t, f, inl (rw l refl))
Found-escape at c o t (Err (Undefined k)) l (v, front, d, rest, s, len, e, h) = (o ∷ v, 92 ∷ c ∷ front, d, rest, (front, s, inl (rw l refl)), omega arith, ap (λ (w : List ℕ). 92 ∷ c ∷ w) e, h)
Found-escape at c o t (Err Cut) l (v, front, s, e) = (o ∷ v, 92 ∷ c ∷ front, (front, s, inl (rw l refl)), ap (λ (w : List ℕ). 92 ∷ c ∷ w) e)
Found-escape at c o t (Err NoMemory) l f = f

-- Reading any text gives the value that it spells, or its first fault.
pub found : (text : List ℕ) (at : ℕ) → Found at text (unescaped_from at text)
found [] at = rw (nothing_at at) refl
found (b ∷ []) at =
    elim (cases_eq b 92) [
      | inl e ↦ rw (cut_at at b e) ([], [], refl, ap (λ (n : ℕ). n ∷ []) e)
      | inr ne ↦ rw (plain_at at b [] ne, nothing_at (at + 1)) (Found-plain at b [] (Ok []) ne refl)
    ]
found (b ∷ c ∷ t) at =
    elim (cases_eq b 92) [
      | inl e ↦
          elim (option_cases (octet_of c)) [
            | inl (o, l) ↦ rw (escape_at at b c o t e l, e) (Found-escape at c o t (unescaped_from (at + 2) t) (octet-letter o c l) (found t (at + 2)))
            | inr none ↦ rw (undefined_at at b c t e none) ([], [], c, t, refl, omega arith, ap (λ (n : ℕ). n ∷ c ∷ t) e, λ o l. absurd (let h = letter-octet o c l in cc))
          ]
      | inr ne ↦ rw (plain_at at b (c ∷ t) ne) (Found-plain at b (c ∷ t) (unescaped_from (at + 1) (c ∷ t)) ne (found (c ∷ t) (at + 1)))
    ]

-- A value that a call returned is spelled by the text.
pub is_found : (text : List ℕ) (r : Result (List ℕ) EscapeFault) → Gives r (unescaped text) → IfOk r (λ v. Spells text v)
is_found text (Ok v) g = subst (Found 0 text) g (found text 0)
is_found text (Err e) g = tt

first_fault : (text : List ℕ) (e : EscapeFault) → Found 0 text (Err e) → IsFirstFault text e
first_fault text (Undefined k) (v, front, c, rest, s, len, e, h) = (v, front, c, rest, s, omega arith, e, h)
first_fault text Cut f = f
first_fault text NoMemory f = f

-- A fault that a call returned is the text's first, or out of memory.
pub is_fault : (text : List ℕ) (r : Result (List ℕ) EscapeFault) → Gives r (unescaped text) → IfErr r (λ e. (e ≡ NoMemory) ⊎ IsFirstFault text e)
is_fault text (Ok v) g = tt
is_fault text (Err (Undefined k)) g = inr (first_fault text (Undefined k) (subst (Found 0 text) g (found text 0)))
is_fault text (Err Cut) g = inr (subst (Found 0 text) g (found text 0))
is_fault text (Err NoMemory) g = inl refl

octet_none : (c : ℕ) → ((b : ℕ) → letter_of b ≢ Some c) → octet_of c ≡ None
octet_none c h = elim (option_cases (octet_of c)) [ inl (o, l) ↦ absurd (h o (octet-letter o c l)) | inr none ↦ none ]

-- A text that has a first fault is read as that fault.
pub fault_again : (text : List ℕ) (e : EscapeFault) → IsFirstFault text e → unescaped text ≡ Err e
fault_again text (Undefined k) (v, front, c, rest, s, len, e, h) =
    let at : 0 + length front ≡ k = omega arith in
    ap unescaped e ∙ through v front (92 ∷ c ∷ rest) 0 s ∙ rw (at, undefined_at k 92 c rest refl (octet_none c h)) refl
fault_again text Cut (v, front, s, e) = ap unescaped e ∙ through v front (92 ∷ []) 0 s ∙ rw (cut_at (0 + length front) 92 refl) refl
fault_again text NoMemory f = absurd f

-- A text that spells a value is read as that value.
pub read_again : (text v : List ℕ) → Spells text v → unescaped text ≡ Ok v
read_again text v s =
    let whole = through v text [] 0 s in
    ap unescaped (sym (append-nil text)) ∙ whole ∙ rw (nothing_at (0 + length text)) (ap (λ (w : List ℕ). Ok w) (append-nil v))

-- A text spells at most one value.
pub Spells-only : (text v w : List ℕ) → Spells text v → Spells text w → v ≡ w
Spells-only text v w s t =
    let same : Ok v ≡ Ok w = sym (read_again text v s) ∙ read_again text w t in
    cc

-- Each text spells a value or has a first fault, never both, and only one.
pub spelled_or_fault : (text : List ℕ) → IsSpelled text ⊎ IsFaulty text
spelled_or_fault text = by_reading text (unescaped text) (found text 0)
  where
    by_reading : (text : List ℕ) (r : Result (List ℕ) EscapeFault) → Found 0 text r → IsSpelled text ⊎ IsFaulty text
    by_reading text (Ok v) f = inl (v, f)
    by_reading text (Err e) f = inr (e, first_fault text e f)

-- No text both spells a value and has a first fault.
pub never_both : (text : List ℕ) → IsSpelled text → ¬ IsFaulty text
never_both text (v, s) (e, f) =
    let same : Ok v ≡ Err e = sym (read_again text v s) ∙ fault_again text e f in
    cc

-- A text has at most one first fault.
pub fault-only : (text : List ℕ) (e f : EscapeFault) → IsFirstFault text e → IsFirstFault text f → e ≡ f
fault-only text e f g h =
    let same : Err e ≡ Err f = sym (fault_again text e g) ∙ fault_again text f h in
    cc

-- What is escaped has no CR, LF or colon.
letter_unbroken : (b c : ℕ) → letter_of b ≡ Some c → (c ≢ 13) × (c ≢ 10) × (c ≢ 58)
letter_unbroken b c e = (λ h. grind (arith, nat_tests), λ h. grind (arith, nat_tests), λ h. grind (arith, nat_tests))

octet_unbroken : (b : ℕ) → letter_of b ≡ None → (b ≢ 13) × (b ≢ 10) × (b ≢ 58)
octet_unbroken b e = (λ h. grind (arith, nat_tests), λ h. grind (arith, nat_tests), λ h. grind (arith, nat_tests))

unbroken-append : (xs ys : List ℕ) → IsUnbroken xs → IsUnbroken ys → IsUnbroken (xs ++ ys)
unbroken-append [] ys h k = k
unbroken-append (x ∷ xs) ys h k = (h.0, unbroken-append xs ys h.1 k)

escaped_octet-unbroken : (b : ℕ) → IsUnbroken (escaped_octet b)
escaped_octet-unbroken b =
    elim (option_cases (letter_of b)) [
      | inl (c, l) ↦ rw l ((λ h. absurd (omega arith), λ h. absurd (omega arith), λ h. absurd (omega arith)), (letter_unbroken b c l, tt))
      | inr none ↦ rw none (octet_unbroken b none, tt)
    ]

-- An escaped text has no CR, LF or colon.
pub escaped-unbroken : (v : List ℕ) → IsUnbroken (escaped v)
escaped-unbroken [] = tt
escaped-unbroken (b ∷ v) = unbroken-append (escaped_octet b) (escaped v) (escaped_octet-unbroken b) (escaped-unbroken v)
