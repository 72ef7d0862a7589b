-- A name whose kind isn't among those of some names isn't one of them.
use Rattle.std.proofs.Common.{◌≡◌, ℕ, ◌<◌, Bool, true, false, List, [], ◌∷◌, ◌++◌, length, get_or, set, inl, inr, refl, sym, ap, ◌∙◌}
use Rattle.std.specs.List.{list_any}
use Rattle.std.specs.Str.{bytes_eq}
use Rattle.std.proofs.lemmas.Bool.{cases_Bool, cases_eq}
use Rattle.std.proofs.lemmas.List.{get_or-set_same, get_or-set_other}
use Rattle.std.proofs.lemmas.Slice.Eq.{bytes_eq-Decides}
use Rattle.stomp_frame.specs.Headers.{Header}
use Rattle.stomp_frame.specs.Inner.NameKinds.{kind, HaveKinds}

set_kind : (among : List Bool) (j k : ℕ) → k < length among → get_or among j false ≡ true → get_or (set among k true) j false ≡ true
set_kind among j k lt e = elim (cases_eq j k) [
  | inl same ↦ ap (λ (m : ℕ). get_or (set among k true) m false) same ∙ get_or-set_same among k true false lt
  | inr other ↦ get_or-set_other among k j true false other ∙ e
]

-- the kinds of names stay with one more
pub kinds_more : (among : List Bool) (hs : List Header) (h : Header) → kind h.0 < length among → HaveKinds among hs → HaveKinds (set among (kind h.0) true) (hs ++ h ∷ [])
kinds_more among [] h lt e = (get_or-set_same among (kind h.0) true false lt, tt)
kinds_more among (g ∷ hs) h lt e = (set_kind among (kind g.0) (kind h.0) lt e.0, kinds_more among hs h lt e.1)

unlike : (among : List Bool) (p q : List ℕ) → get_or among (kind p) false ≡ true → get_or among (kind q) false ≡ false → bytes_eq p q ≡ false
unlike among p q there absent = elim (cases_Bool (bytes_eq p q)) [
  | inl same ↦
      let equal : p ≡ q = (bytes_eq-Decides p q).0 same in
      let both : true ≡ false = sym there ∙ ap (λ (n : List ℕ). get_or among (kind n) false) equal ∙ absent in
      absurd cc
  | inr other ↦ other
]

-- a name of another kind is none of them
pub unseen : (among : List Bool) (hs : List Header) (q : List ℕ) → HaveKinds among hs → get_or among (kind q) false ≡ false → list_any (λ h. bytes_eq h.0 q) hs ≡ false
unseen among [] q e absent = refl
unseen among (h ∷ hs) q e absent = rw (unlike among h.0 q e.0 absent, unseen among hs q e.1 absent) refl
