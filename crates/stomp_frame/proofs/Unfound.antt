-- Searching on from where a search ended.
use Rattle.std.proofs.Common.{◌≡◌, inl, inr, ℕ, ◌+◌, ◌-◌, ◌<◌, ◌≤◌, List, length, take, drop, get_or, Some, None, Ok, Err, refl, sym, ap, ◌∙◌, arith}
use Rattle.std.proofs.lemmas.Bool.{eq-eqb, eqb-true, cases_lt, lt-ltb, le-ltb}
use Rattle.std.proofs.lemmas.List.{length-take, length-drop, get_or-take, get_or-drop, take-append-drop}
use Rattle.memchr.specs.Find.{IsFirstByte, is_byte}
use Rattle.stomp_frame.specs.declared.limits.Limits.{Limits}
use Rattle.stomp_frame.specs.declared.fault.Check.TheVariants.{LineTooLong, BodyTooLong}
use Rattle.stomp_frame.specs.Inner.Parser.{Open, Fault, cut, line_at, uncounted_at}
use Rattle.stomp_frame.specs.Inner.PartialFrames.{IsUnfound}
use Rattle.stomp_frame.proofs.Cuts.{cut_found, cut_none}
use Rattle.stomp_frame.proofs.Steady.{line_open, line_endless, line_steady, uncounted_cut, uncounted_none, uncounted_steady}

-- ---- the index

-- one octet more that isn't it
pub unfound_more : (b : ℕ) (text : List ℕ) (n : ℕ) → IsUnfound b text n → (get_or text n 0 ≡ b → ⊥) → IsUnfound b text (n + 1)
unfound_more b text n unfound ne j lt e = elim (cases_lt j n) [
  | inl before ↦ unfound j before e
  | inr behind ↦
      let same : j ≡ n = omega arith in
      ne (sym (ap (λ (k : ℕ). get_or text k 0) same) ∙ e)
]

window : (text : List ℕ) (searched end i : ℕ) → i < end - searched → get_or (take (end - searched) (drop searched text)) i 0 ≡ get_or text (searched + i) 0
window text searched end i lt = get_or-take (end - searched) (drop searched text) i 0 lt ∙ get_or-drop searched text i 0

size : (text : List ℕ) (searched end : ℕ) → searched ≤ end → end ≤ length text → length (take (end - searched) (drop searched text)) ≡ end - searched
size text searched end le within = omega (arith, length-take (end - searched) (drop searched text), length-drop searched text)

-- a window without the octet: it is nowhere before its end
pub place_none : (b : ℕ) (text : List ℕ) (searched end : ℕ) → searched ≤ end → end ≤ length text → IsUnfound b text searched → IsFirstByte (is_byte b) (take (end - searched) (drop searched text)) None → IsUnfound b text end
place_none b text searched end le within unfound h j lt e =
    elim (cases_lt j searched) [
      | inl before ↦ unfound j before e
      | inr behind ↦
          let there : searched + (j - searched) ≡ j = omega arith in
          let inside : j - searched < end - searched = omega arith in
          let same : get_or (take (end - searched) (drop searched text)) (j - searched) 0 ≡ b = window text searched end (j - searched) inside ∙ ap (λ (k : ℕ). get_or text k 0) there ∙ e in
          h (j - searched) (omega arith) (omega (arith, size text searched end le within)) (eq-eqb _ _ same)
    ]

-- the first index in a window is the first in the text
pub place_found : (b : ℕ) (text : List ℕ) (searched end at : ℕ) → searched ≤ end → end ≤ length text → IsUnfound b text searched → IsFirstByte (is_byte b) (take (end - searched) (drop searched text)) (Some at)
    → (searched + at < end) × (cut b text ≡ Some (take (searched + at) text, drop (searched + at + 1) text))
place_found b text searched end at le within unfound h =
    let long = size text searched end le within in
    let inside : at < end - searched = omega (arith, h.0.high) in
    let near : searched + at < end = omega arith in (
      near,
      cut_found b text (searched + at) (omega arith) (sym (window text searched end at inside) ∙ eqb-true _ _ h.1) (λ j lt e. elim (cases_lt j searched) [
        | inl before ↦ unfound j before e
        | inr behind ↦
            let there : searched + (j - searched) ≡ j = omega arith in
            let within_at : j - searched < at = omega arith in
            let same : get_or (take (end - searched) (drop searched text)) (j - searched) 0 ≡ b = window text searched end (j - searched) (omega arith) ∙ ap (λ (k : ℕ). get_or text k 0) there ∙ e in
            h.0.before (j - searched) (omega arith) within_at (eq-eqb _ _ same)
      ]),
    )

-- ---- bodies

-- a body within the limit
pub body_found : (limits : Limits) (text : List ℕ) (at : ℕ) → at < length text → at ≤ limits.body → cut 0 text ≡ Some (take at text, drop (at + 1) text) → uncounted_at limits text ≡ Ok (take at text, drop (at + 1) text)
body_found limits text at lt le e = uncounted_cut limits text (take at text, drop (at + 1) text) e ∙ rw (le-ltb limits.body (length (take at text)) (omega (arith, length-take at text))) refl

-- a NULL after more octets than the limit
pub body_far : (limits : Limits) (text : List ℕ) (at : ℕ) → at < length text → limits.body < at → cut 0 text ≡ Some (take at text, drop (at + 1) text) → uncounted_at limits text ≡ Err (Fault BodyTooLong)
body_far limits text at lt far e = uncounted_cut limits text (take at text, drop (at + 1) text) e ∙ rw (lt-ltb limits.body (length (take at text)) (omega (arith, length-take at text))) refl

front_none : (b : ℕ) (text : List ℕ) (n : ℕ) → n ≤ length text → IsUnfound b text n → cut b (take n text) ≡ None
front_none b text n le unfound = cut_none b (take n text) (λ j lt e. let near : j < n = omega (arith, length-take n text) in unfound j near (sym (get_or-take n text j 0 near) ∙ e))

-- more octets than the limit, and no NULL among them
pub body_endless : (limits : Limits) (text : List ℕ) (end : ℕ) → limits.body < length text → limits.body < end → IsUnfound 0 text end → uncounted_at limits text ≡ Err (Fault BodyTooLong)
body_endless limits text end long far unfound =
    let n = limits.body + 1 in
    let size : length (take n text) ≡ n = omega (arith, length-take n text) in
    let front : uncounted_at limits (take n text) ≡ Err (Fault BodyTooLong) = uncounted_none limits (take n text) (front_none 0 text n (omega arith) (λ j lt. unfound j (omega arith))) ∙ rw (lt-ltb limits.body (length (take n text)) (omega arith)) refl in
    let whole = rw front at (uncounted_steady limits (take n text) (drop n text)) in
    ap (uncounted_at limits) (sym (take-append-drop n text)) ∙ whole

-- no NULL yet
pub body_open : (limits : Limits) (text : List ℕ) (end : ℕ) → length text ≤ limits.body → length text ≤ end → IsUnfound 0 text end → uncounted_at limits text ≡ Err Open
body_open limits text end short all unfound = uncounted_none limits text (cut_none 0 text (λ j lt. unfound j (omega arith))) ∙ rw (le-ltb limits.body (length text) short) refl

-- ---- lines

-- more octets than a line may have, and no LF among them
pub line_far : (limits : Limits) (text : List ℕ) (end : ℕ) → limits.line + 2 ≤ length text → limits.line + 2 ≤ end → IsUnfound 10 text end → line_at limits text ≡ Err (Fault LineTooLong)
line_far limits text end long far unfound =
    let n = limits.line + 2 in
    let front = line_endless limits (take n text) (front_none 10 text n long (λ j lt. unfound j (omega arith))) (omega (arith, length-take n text)) in
    let whole = rw front at (line_steady limits (take n text) (drop n text)) in
    ap (line_at limits) (sym (take-append-drop n text)) ∙ whole

-- no LF yet
pub line_waits : (limits : Limits) (text : List ℕ) (end : ℕ) → length text < limits.line + 2 → length text ≤ end → IsUnfound 10 text end → line_at limits text ≡ Err Open
line_waits limits text end short all unfound = line_open limits text (cut_none 10 text (λ j lt. unfound j (omega arith))) short
