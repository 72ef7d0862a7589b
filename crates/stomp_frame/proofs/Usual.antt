-- What usual octets at the front of a text tell.
use Rattle.std.proofs.Common.{◌≡◌, ◌≢◌, ℕ, ◌-◌, ◌<◌, ◌≤◌, true, eqb, inl, inr, List, length, take, get_or, refl, ap, ◌∙◌, arith}
use Rattle.std.specs.List.{list_all}
use Rattle.std.proofs.lemmas.Bool.{cases_Bool}
use Rattle.std.proofs.lemmas.Bool.Decides.{nat_tests}
use Rattle.std.proofs.lemmas.List.{get_or-take, length-take}
use Rattle.std.proofs.lemmas.List.Sums.{list_all-from_AllPass}
use Rattle.std.proofs.lemmas.List.Elements.{All-from_get_or}
use Rattle.stomp_frame.specs.Inner.Parser.{is_plain, without_cr}
use Rattle.stomp_frame.specs.Inner.PartialFrames.{IsUnfound}
use Rattle.stomp_frame.specs.Inner.Usual.{is_usual, AreUsual}

is_no_lf : (b : ℕ) → is_usual b ≡ true → b ≢ 10
is_no_lf b e same = grind (arith, nat_tests)

usual_is_plain : (b : ℕ) → is_usual b ≡ true → is_plain b ≡ true
usual_is_plain b e = grind (arith, nat_tests)

-- no LF is among usual octets
pub usual_unfound : (text : List ℕ) (n : ℕ) → AreUsual text 0 n → IsUnfound 10 text n
usual_unfound text n usual i lt = is_no_lf (get_or text i 0) (usual i (omega arith) lt)

-- usual octets are plain
pub usual_plain : (content : List ℕ) → AreUsual content 0 (length content) → list_all is_plain content ≡ true
usual_plain content usual = list_all-from_AllPass is_plain content (All-from_get_or (λ x. is_plain x ≡ true) content 0 (λ k inside. usual_is_plain (get_or content k 0) (usual k (omega arith) inside)))

without_cr-le : (line : List ℕ) → length (without_cr line) ≤ length line
without_cr-le line = elim (cases_Bool (eqb (get_or line (length line - 1) 0) 13)) [ inl cr ↦ rw cr (omega (arith, length-take (length line - 1) line)) | inr none ↦ rw none (omega arith) ]

get_or-without_cr : (line : List ℕ) (i : ℕ) → i < length (without_cr line) → get_or (without_cr line) i 0 ≡ get_or line i 0
get_or-without_cr line i lt = elim (cases_Bool (eqb (get_or line (length line - 1) 0) 13)) [
  | inl cr ↦ rw cr (get_or-take (length line - 1) line i 0 (omega (arith, rw cr at lt, length-take (length line - 1) line)))
  | inr none ↦ rw none refl
]

-- where a line's content is no longer than the usual octets at the front of its text, it is usual
pub usual_content : (text : List ℕ) (at n : ℕ) → AreUsual text 0 n → length (without_cr (take at text)) ≤ n → AreUsual (without_cr (take at text)) 0 (length (without_cr (take at text)))
usual_content text at n usual short i from lt =
    let line = take at text in
    let cut : length line ≤ at = omega (arith, length-take at text) in
    let inside : i < length line = omega (arith, without_cr-le line) in
    ap is_usual (get_or-without_cr line i lt ∙ get_or-take at text i 0 (omega arith)) ∙ usual i from (omega arith)
