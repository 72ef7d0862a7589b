-- What was written or read, and what waits to be copied after it.
use Rattle.std.proofs.Common.{◌≡◌, ℕ, ◌+◌, ◌-◌, ◌<◌, ◌≤◌, inl, inr, List, [], ◌∷◌, ◌++◌, length, take, drop, get_or, not, eqb, subst, Some, Result, Ok, Err, refl, sym, ap, ◌∙◌, append_assoc, arith, take-add}
use Rattle.std.specs.Prelude.{OnErr}
use Rattle.std.proofs.lemmas.List.{append-nil, take_more, take-append-drop, length-take-le}
use Rattle.std.proofs.lemmas.Grind.{flat_map-append}
use Rattle.stomp_escape.specs.Escape.{letter_of, escaped_octet, escaped, AppendsFront}
use Rattle.stomp_escape.specs.Inner.Escaping.{first_written, letter_or_zero}
use mir.Val.{bool_byte}
use borrow.Rule.Slice.PartMut.{put_mid, post_of}
use Rattle.std.proofs.lemmas.Bool.{cases_eq, ne_eqb}
use Rattle.std.proofs.lemmas.Bool.Decides.{nat_tests}
use Rattle.std.proofs.Math.Seq.{take-append-add}
use Rattle.stomp_escape.specs.declared.fault.EscapeFault.{EscapeFault}
use Rattle.stomp_escape.specs.Inner.Unescaping.{octet_of, unescaped_from, with_front}
use Rattle.stomp_escape.proofs.Steps.{goes_plain, goes_escape}
use Rattle.stomp_escape.proofs.Letters.{option_cases}

escaped_more : (text : List ℕ) (at : ℕ) → at < length text → escaped (take (at + 1) text) ≡ escaped (take at text) ++ escaped_octet (get_or text at 0)
escaped_more text at lt =
    let b = get_or text at 0 in
    ap escaped (take_more text at 0 lt) ∙ flat_map-append escaped_octet (take at text) (b ∷ []) ∙ ap (λ (w : List ℕ). escaped (take at text) ++ w) (append-nil (escaped_octet b))

-- how many octets its escape adds
abbrev pub extra : ℕ → ℕ
extra b = bool_byte (not (eqb (letter_or_zero b) 0))

has_letter : (b c : ℕ) → letter_of b ≡ Some c → c ≡ 0 → ⊥
has_letter b c e same = grind (arith, nat_tests)

-- what was put after the first n, of which k stay
put_front : (xs ys : List ℕ) (n m k : ℕ) → n ≤ length xs → take (n + k) (put_mid n m xs ys) ≡ take n xs ++ take k (ys ++ post_of n m xs)
put_front xs ys n m k within =
    subst (λ (i : ℕ). take (i + k) (put_mid n m xs ys) ≡ take n xs ++ take k (ys ++ post_of n m xs)) (length-take-le n xs within) (take-append-add (take n xs) (ys ++ post_of n m xs) k)

-- two octets put after the first n, of which one or both stay: the octet is escaped there
pub put_escaped : (xs ys : List ℕ) (n m b : ℕ) → n ≤ length xs → ys ≡ first_written b ∷ letter_or_zero b ∷ [] → take (n + (1 + extra b)) (put_mid n m xs ys) ≡ take n xs ++ escaped_octet b
put_escaped xs ys n m b within e =
    put_front xs ys n m (1 + extra b) within ∙ elim (option_cases (letter_of b)) [
      | inl (c, some) ↦ rw (e, some, ne_eqb c 0 (has_letter b c some)) refl
      | inr none ↦ rw (e, none) refl
    ]

-- one more octet is escaped
pub escaped_next : (xs ys front text : List ℕ) (n m at : ℕ) → at < length text → n ≤ length xs → ys ≡ first_written (get_or text at 0) ∷ letter_or_zero (get_or text at 0) ∷ [] → take n xs ≡ front ++ escaped (take at text)
    → take (n + (1 + extra (get_or text at 0))) (put_mid n m xs ys) ≡ front ++ escaped (take (at + 1) text)
escaped_next xs ys front text n m at inside within e so_far =
    let b = get_or text at 0 in
    put_escaped xs ys n m b within e ∙ ap (λ (w : List ℕ). w ++ escaped_octet b) so_far ∙ append_assoc front (escaped (take at text)) (escaped_octet b) ∙ ap (λ (w : List ℕ). front ++ w) (sym (escaped_more text at inside))

-- an escape adds at most one octet
pub extra-le : (b : ℕ) → extra b ≤ 1
extra-le b = elim (cases_eq (letter_or_zero b) 0) [ inl none ↦ rw none (omega arith) | inr some ↦ rw (ne_eqb (letter_or_zero b) 0 some) (omega arith) ]

-- a piece of the text is appended
pub piece_written : (old out new text : List ℕ) (at end : ℕ) → at ≤ end → new ≡ out ++ escaped (take (end - at) (drop at text)) → out ≡ old ++ escaped (take at text) → new ≡ old ++ escaped (take end text)
piece_written old out new text at end le e so_far =
    let piece = take (end - at) (drop at text) in
    let there : at + (end - at) ≡ end = omega arith in
    let whole : escaped (take end text) ≡ escaped (take at text) ++ escaped piece = ap (λ (n : ℕ). escaped (take n text)) (sym there) ∙ ap escaped (take-add at (end - at) text) ∙ flat_map-append escaped_octet (take at text) piece in
    e ∙ ap (λ (w : List ℕ). w ++ escaped piece) so_far ∙ append_assoc old (escaped (take at text)) (escaped piece) ∙ ap (λ (w : List ℕ). old ++ w) (sym whole)

-- Where memory ran out, a front of the escaped text is written.
pub front_written : (old out new text : List ℕ) (at : ℕ) → new ≡ out → out ≡ old ++ escaped (take at text) → AppendsFront (escaped text) old new
front_written old out new text at e so_far =
    let whole : escaped text ≡ escaped (take at text) ++ escaped (drop at text) = ap escaped (sym (take-append-drop at text)) ∙ flat_map-append escaped_octet (take at text) (drop at text) in
    (escaped (take at text), escaped (drop at text), whole, e ∙ so_far)

-- what holds anyway holds of an answer that is an error
pub on_err : {T E P : Type 0} (r : Result T E) → P → OnErr r P
on_err (Ok v) p = tt
on_err (Err e) p = p

-- An octet other than a backslash is read, and waits.
pub read_plain : (out waiting new text : List ℕ) (at : ℕ) (total : Result (List ℕ) EscapeFault) → at < length text → (get_or text at 0 ≡ 92 → ⊥) → new ≡ waiting ++ get_or text at 0 ∷ [] → with_front (out ++ waiting) (unescaped_from at (drop at text)) ≡ total
    → with_front (out ++ new) (unescaped_from (at + 1) (drop (at + 1) text)) ≡ total
read_plain out waiting new text at total lt ne e so_far =
    let more : out ++ new ≡ out ++ waiting ++ get_or text at 0 ∷ [] = ap (λ (w : List ℕ). out ++ w) e ∙ sym (append_assoc out waiting (get_or text at 0 ∷ [])) in
    ap (λ (w : List ℕ). with_front w (unescaped_from (at + 1) (drop (at + 1) text))) more ∙ goes_plain (out ++ waiting) text at total lt ne so_far

-- An escape is read, and its octet waits.
pub read_escape : (out waiting new text : List ℕ) (at o : ℕ) (total : Result (List ℕ) EscapeFault) → at + 1 < length text → get_or text at 0 ≡ 92 → octet_of (get_or text (at + 1) 0) ≡ Some o
    → new ≡ waiting ++ o ∷ [] → with_front (out ++ waiting) (unescaped_from at (drop at text)) ≡ total → with_front (out ++ new) (unescaped_from (at + 2) (drop (at + 2) text)) ≡ total
read_escape out waiting new text at o total lt e h same so_far =
    let more : out ++ new ≡ out ++ waiting ++ o ∷ [] = ap (λ (w : List ℕ). out ++ w) same ∙ sym (append_assoc out waiting (o ∷ [])) in
    ap (λ (w : List ℕ). with_front w (unescaped_from (at + 2) (drop (at + 2) text))) more ∙ goes_escape (out ++ waiting) text at o total lt e h so_far
