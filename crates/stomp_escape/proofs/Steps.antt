-- Reading one octet or one escape after the other, as a loop does.
use Rattle.std.proofs.Common.{◌≡◌, ℕ, ◌+◌, ◌<◌, ◌≤◌, List, [], ◌∷◌, ◌++◌, length, drop, get_or, Some, None, Result, Ok, Err, refl, sym, ap, ◌∙◌, append_assoc, arith}
use Rattle.std.proofs.lemmas.Bool.{eq-eqb, ne_eqb}
use Rattle.std.proofs.lemmas.List.{append-nil, drop_more, nil_from_length, length-drop}
use Rattle.stomp_escape.specs.declared.fault.EscapeFault.{EscapeFault}
use Rattle.stomp_escape.specs.declared.fault.EscapeFault.TheVariants.{Undefined, Cut}
use Rattle.stomp_escape.specs.Inner.Unescaping.{octet_of, before, unescaped_from, with_front}

-- An octet before what is read is the last of the front before it.
pub with_front-before : (front : List ℕ) (b : ℕ) (r : Result (List ℕ) EscapeFault) → with_front front (before b r) ≡ with_front (front ++ b ∷ []) r
with_front-before front b (Ok v) = ap (λ (w : List ℕ). Ok w) (simp append_assoc)
with_front-before front b (Err e) = refl

-- An octet other than a backslash is read as itself.
pub plain_at : (at b : ℕ) (t : List ℕ) → (b ≡ 92 → ⊥) → unescaped_from at (b ∷ t) ≡ before b (unescaped_from (at + 1) t)
unfolding unescaped_from
plain_at at b [] ne = rw (ne_eqb b 92 ne) refl
plain_at at b (c ∷ t) ne = rw (ne_eqb b 92 ne) refl

-- A backslash and the letter of an escape are read as the escape's octet.
pub escape_at : (at b c o : ℕ) (t : List ℕ) → b ≡ 92 → octet_of c ≡ Some o → unescaped_from at (b ∷ c ∷ t) ≡ before o (unescaped_from (at + 2) t)
unfolding unescaped_from
escape_at at b c o t e h = rw (eq-eqb b 92 e, h) refl

-- A backslash and any other octet is an undefined escape.
pub undefined_at : (at b c : ℕ) (t : List ℕ) → b ≡ 92 → octet_of c ≡ None → unescaped_from at (b ∷ c ∷ t) ≡ Err (Undefined at)
unfolding unescaped_from
undefined_at at b c t e h = rw (eq-eqb b 92 e, h) refl

-- A backslash at the end is a cut escape.
pub cut_at : (at b : ℕ) → b ≡ 92 → unescaped_from at (b ∷ []) ≡ Err Cut
unfolding unescaped_from
cut_at at b e = rw (eq-eqb b 92 e) refl

-- In a loop: a plain octet is added to what was read.
pub goes_plain : (front text : List ℕ) (at : ℕ) (total : Result (List ℕ) EscapeFault) → at < length text → (get_or text at 0 ≡ 92 → ⊥) → with_front front (unescaped_from at (drop at text)) ≡ total
    → with_front (front ++ get_or text at 0 ∷ []) (unescaped_from (at + 1) (drop (at + 1) text)) ≡ total
goes_plain front text at total lt ne so_far =
    let b = get_or text at 0 in
    let rest = drop (at + 1) text in
    let one : unescaped_from at (drop at text) ≡ before b (unescaped_from (at + 1) rest) = rw (drop_more text at 0 lt) (plain_at at b rest ne) in
    sym (with_front-before front b (unescaped_from (at + 1) rest)) ∙ ap (with_front front) (sym one) ∙ so_far

cells : (text : List ℕ) (at : ℕ) → at + 1 < length text → drop at text ≡ get_or text at 0 ∷ get_or text (at + 1) 0 ∷ drop (at + 2) text
cells text at lt =
    let near : at < length text = omega arith in
    let two : at + 1 + 1 ≡ at + 2 = omega arith in
    rw (drop_more text at 0 near, drop_more text (at + 1) 0 lt, two) refl

-- In a loop: the octet of an escape is added to what was read.
pub goes_escape : (front text : List ℕ) (at o : ℕ) (total : Result (List ℕ) EscapeFault) → at + 1 < length text → get_or text at 0 ≡ 92 → octet_of (get_or text (at + 1) 0) ≡ Some o
    → with_front front (unescaped_from at (drop at text)) ≡ total → with_front (front ++ o ∷ []) (unescaped_from (at + 2) (drop (at + 2) text)) ≡ total
goes_escape front text at o total lt e h so_far =
    let rest = drop (at + 2) text in
    let one : unescaped_from at (drop at text) ≡ before o (unescaped_from (at + 2) rest) = rw (cells text at lt) (escape_at at (get_or text at 0) (get_or text (at + 1) 0) o rest e h) in
    sym (with_front-before front o (unescaped_from (at + 2) rest)) ∙ ap (with_front front) (sym one) ∙ so_far

-- In a loop: at an undefined escape, that is the answer of the whole text.
pub ends_undefined : (front text : List ℕ) (at : ℕ) (total : Result (List ℕ) EscapeFault) → at + 1 < length text → get_or text at 0 ≡ 92 → octet_of (get_or text (at + 1) 0) ≡ None
    → with_front front (unescaped_from at (drop at text)) ≡ total → total ≡ Err (Undefined at)
ends_undefined front text at total lt e h so_far =
    let one : unescaped_from at (drop at text) ≡ Err (Undefined at) = rw (cells text at lt) (undefined_at at (get_or text at 0) (get_or text (at + 1) 0) (drop (at + 2) text) e h) in
    sym so_far ∙ ap (with_front front) one

-- In a loop: at a backslash at the end, Cut is the answer of the whole text.
pub ends_cut : (front text : List ℕ) (at : ℕ) (total : Result (List ℕ) EscapeFault) → at + 1 ≡ length text → get_or text at 0 ≡ 92
    → with_front front (unescaped_from at (drop at text)) ≡ total → total ≡ Err Cut
ends_cut front text at total last e so_far =
    let lt : at < length text = omega arith in
    let nothing : drop (at + 1) text ≡ [] = nil_from_length (drop (at + 1) text) (omega (arith, length-drop (at + 1) text)) in
    let one : unescaped_from at (drop at text) ≡ Err Cut = rw (drop_more text at 0 lt, nothing) (cut_at at (get_or text at 0) e) in
    sym so_far ∙ ap (with_front front) one

-- In a loop: at the end of the text, what was read is its value.
pub ends : (front text : List ℕ) (at : ℕ) (total : Result (List ℕ) EscapeFault) → length text ≤ at → with_front front (unescaped_from at (drop at text)) ≡ total → total ≡ Ok front
unfolding unescaped_from
ends front text at total le so_far =
    let nothing : drop at text ≡ [] = nil_from_length (drop at text) (omega (arith, length-drop at text)) in
    let one : with_front front (unescaped_from at (drop at text)) ≡ Ok front = rw nothing (ap (λ (w : List ℕ). Ok w) (append-nil front)) in
    sym so_far ∙ one

-- An empty text is read as an empty value.
pub nothing_at : (at : ℕ) → unescaped_from at [] ≡ Ok []
unfolding unescaped_from
nothing_at at = refl
