-- Cutting a text at the first place of an octet.
use Rattle.std.proofs.Common.{◌≡◌, ◌≢◌, ℕ, zero, suc, ◌+◌, ◌-◌, ◌<◌, List, [], ◌∷◌, ◌++◌, length, length-append, take, drop, get_or, Option, Some, None, inl, inr, refl, sym, ap, ◌∙◌, subst, arith}
use Rattle.std.specs.Option.{option_map}
use Rattle.std.specs.List.{AllByRecursion}
use Rattle.std.proofs.lemmas.Bool.{eq-eqb, ne_eqb, eqb-true, cases_eq}
use Rattle.memchr.specs.Find.{IsFirstByte, is_byte}
use Rattle.trace_audit.specs.Inner.Reading.{text_parts}
use Rattle.trace_audit.specs.Parsing.{cut, lines_of}

cut_found : (b : ℕ) (text : List ℕ) (k : ℕ) → k < length text → get_or text k 0 ≡ b → ((j : ℕ) → j < k → get_or text j 0 ≢ b) → cut b text ≡ Some (take k text, drop (k + 1) text)
cut_found b [] k lt e none = absurd (omega arith)
cut_found b (x ∷ text) zero lt e none = rw (eq-eqb x b e) refl
cut_found b (x ∷ text) (suc k) lt e none =
    let later = cut_found b text k (omega arith) e (λ j h. none (suc j) (omega arith)) in
    let more : suc k + 1 ≡ suc (k + 1) = omega arith in
    rw (ne_eqb x b (none 0 (omega arith)), later, more) refl

cut_none : (b : ℕ) (text : List ℕ) → ((j : ℕ) → j < length text → get_or text j 0 ≢ b) → cut b text ≡ None
cut_none b [] none = refl
cut_none b (x ∷ text) none =
    let later = cut_none b text (λ j h. none (suc j) (omega arith)) in
    rw (ne_eqb x b (none 0 (omega arith)), later) refl

-- where a search for an octet finds none, the text has no cut at it
pub first_none : (b : ℕ) (text : List ℕ) → IsFirstByte (is_byte b) text None → cut b text ≡ None
first_none b text h = cut_none b text (λ j lt e. h j (omega arith) lt (eq-eqb _ _ e))

-- where a search finds an octet at k, the cut is what comes before k, and what comes after it
pub first_some : (b : ℕ) (text : List ℕ) (k : ℕ) → IsFirstByte (is_byte b) text (Some k) → cut b text ≡ Some (take k text, drop (k + 1) text)
first_some b text k h = cut_found b text k h.0.high (eqb-true _ _ h.1) (λ j lt e. h.0.before j (omega arith) lt (eq-eqb _ _ e))

-- ---- what a cut is

-- each octet is another
abbrev pub Without : ℕ → List ℕ → Type 0
Without b text = AllByRecursion (λ x. x ≢ b) text

-- two texts without an octet are without it when joined
pub Without-append : (b : ℕ) (xs ys : List ℕ) → Without b xs → Without b ys → Without b (xs ++ ys)
Without-append b [] ys v w = w
Without-append b (x ∷ xs) ys v w = (v.0, Without-append b xs ys v.1 w)

-- a cut with one octet more in front
abbrev pub behind : ℕ → List ℕ × List ℕ → List ℕ × List ℕ
behind x p = (x ∷ p.0, p.1)

hit : (b x : ℕ) (text : List ℕ) → x ≡ b → cut b (x ∷ text) ≡ Some ([], text)
hit b x text e = rw (eq-eqb x b e) refl

miss : (b x : ℕ) (text : List ℕ) → x ≢ b → cut b (x ∷ text) ≡ option_map (behind x) (cut b text)
miss b x text ne = rw (ne_eqb x b ne) refl

-- options that are equal have equal values
pub some_is : {A : Type 0} (x y : A) → ◌≡◌ {A = Option A} (Some x) (Some y) → x ≡ y
some_is x y e = cc

mapped : {A B : Type 0} (f : A → B) (o : Option A) (y : B) → option_map f o ≡ Some y → (x : A) × (o ≡ Some x) × (f x ≡ y)
mapped f None y e = absurd cc
mapped f (Some x) y e = (x, refl, some_is (f x) y e)

mapped_none : {A B : Type 0} (f : A → B) (o : Option A) → option_map f o ≡ None → o ≡ None
mapped_none f None e = refl
mapped_none f (Some x) e = absurd cc

-- the parts of a text, with the first octet apart
pub cut_splits : (b : ℕ) (text : List ℕ) (p : List ℕ × List ℕ) → cut b text ≡ Some p → (text ≡ p.0 ++ b ∷ p.1) × Without b p.0
cut_splits b [] p e = absurd cc
cut_splits b (x ∷ text) p e = elim (cases_eq x b) [
  | inl same ↦
      let q = some_is ([], text) p (sym (hit b x text same) ∙ e) in
      subst (λ (r : List ℕ × List ℕ). (x ∷ text ≡ r.0 ++ b ∷ r.1) × Without b r.0) q (ap (λ (z : ℕ). z ∷ text) same, tt)
  | inr other ↦
      let m = mapped (behind x) (cut b text) p (sym (miss b x text other) ∙ e) in
      let r = cut_splits b text m.0 m.1 in
      subst (λ (r : List ℕ × List ℕ). (x ∷ text ≡ r.0 ++ b ∷ r.1) × Without b r.0) m.2 (ap (λ (z : List ℕ). x ∷ z) r.0, (other, r.1))
]

-- a text without the octet, the octet and any text are cut into these two texts
pub cut_first : (b : ℕ) (front text : List ℕ) → Without b front → cut b (front ++ b ∷ text) ≡ Some (front, text)
cut_first b [] text w = hit b b text refl
cut_first b (x ∷ front) text w = miss b x (front ++ b ∷ text) w.0 ∙ rw (cut_first b front text w.1) refl

-- a text that has no cut at an octet is without it
pub cut_without : (b : ℕ) (text : List ℕ) → cut b text ≡ None → Without b text
cut_without b [] e = tt
cut_without b (x ∷ text) e = elim (cases_eq x b) [
  | inl same ↦ absurd (let k = sym (hit b x text same) ∙ e in cc)
  | inr other ↦ (other, cut_without b text (mapped_none (behind x) (cut b text) (sym (miss b x text other) ∙ e)))
]

-- what is left is shorter
pub cut_shorter : (b : ℕ) (text : List ℕ) (p : List ℕ × List ℕ) → cut b text ≡ Some p → length p.1 < length text
cut_shorter b text p e =
    let l = ap length (cut_splits b text p e).0 ∙ length-append p.0 (b ∷ p.1) in
    omega arith

-- ---- parts

-- the parts of a text without the octet, the octet and any text: the first text, and the parts of the other
pub parts_first : (b : ℕ) (front text : List ℕ) → Without b front → text_parts b (front ++ b ∷ text) ≡ front ∷ text_parts b text
parts_first b [] text w = rw (eq-eqb b b refl) refl
parts_first b (x ∷ front) text w = rw (ne_eqb x b w.0, parts_first b front text w.1) refl

-- a text without the octet is its only part
pub parts_only : (b : ℕ) (text : List ℕ) → Without b text → text_parts b text ≡ text ∷ []
parts_only b [] w = refl
parts_only b (x ∷ text) w = rw (ne_eqb x b w.0, parts_only b text w.1) refl

-- the parts of a text that has a cut: what comes before it, and the parts of what comes after it
pub parts_cut : (b : ℕ) (text : List ℕ) (p : List ℕ × List ℕ) → cut b text ≡ Some p → text_parts b text ≡ p.0 ∷ text_parts b p.1
parts_cut b text p e = let s = cut_splits b text p e in ap (text_parts b) s.0 ∙ parts_first b p.0 p.1 s.1

-- a text that has no cut is its only part
pub parts_uncut : (b : ℕ) (text : List ℕ) → cut b text ≡ None → text_parts b text ≡ text ∷ []
parts_uncut b text e = parts_only b text (cut_without b text e)

-- ---- lines

-- the lines of a text without LF, an LF and any text: the first text, and the lines of the other
pub lines_first : (front text : List ℕ) → Without 10 front → lines_of (front ++ 10 ∷ text) ≡ front ∷ lines_of text
lines_first [] text w = refl
lines_first (x ∷ front) text w = rw (ne_eqb x 10 w.0, lines_first front text w.1) refl

-- a text without LF that isn't empty is its only line
pub lines_only : (x : ℕ) (text : List ℕ) → Without 10 (x ∷ text) → lines_of (x ∷ text) ≡ (x ∷ text) ∷ []
lines_only x [] w = rw (ne_eqb x 10 w.0) refl
lines_only x (y ∷ text) w = rw (ne_eqb x 10 w.0, lines_only y text w.1) refl

-- the lines of a text that has an LF: what comes before the first, and the lines of what comes after it
pub lines_cut : (text : List ℕ) (p : List ℕ × List ℕ) → cut 10 text ≡ Some p → lines_of text ≡ p.0 ∷ lines_of p.1
lines_cut text p e = let s = cut_splits 10 text p e in ap lines_of s.0 ∙ lines_first p.0 p.1 s.1

-- a text that isn't empty and has no cut at LF is its only line
pub lines_uncut : (text : List ℕ) → 0 < length text → cut 10 text ≡ None → lines_of text ≡ text ∷ []
lines_uncut [] some e = absurd (omega arith)
lines_uncut (x ∷ text) some e = lines_only x text (cut_without 10 (x ∷ text) e)

-- the part of a text from its end on is empty
pub nothing_after : (text : List ℕ) → take (length text - length text) (drop (length text) text) ≡ []
nothing_after text = let e : length text - length text ≡ 0 = omega arith in rw e refl
