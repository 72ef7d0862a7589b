-- The ends of spans that an account tells, listed: so that a row's account has no other. And that nothing is delivered after a
-- close, said of each delivery.
use Rattle.delivery.proofs.Words.All.{◌≡◌, ℕ, ◌==◌, Bool, true, false, cond, inl, inr, List, [], ◌∷◌, ◌++◌, refl, sym, subst, ◌∙◌, eq-eqb, eqb-true, true≢false, if◌then◌else◌, Stamp, In, Item, not_true, any_from, Answer, IsSilent, SilentAfterClose, closes, has_closed}

-- another number is none
pub no_match : (k n : ℕ) → (k ≡ n → Prim.⊥) → (k == n) ≡ false
no_match k n h = not_true (k == n) refl (λ e. h (eqb-true k n e))

-- the ends of subscription s
abbrev pub ends_of : ℕ → List Answer → List Stamp
ends_of s [] = []
ends_of s (Answer.Unsubscribed r to ∷ before) = if r == s then to ∷ ends_of s before else ends_of s before
ends_of s (o ∷ before) = ends_of s before

-- an end that is told is among them
pub in_ends : (s : ℕ) (to : Stamp) (account : List Answer) → In (Answer.Unsubscribed s to) account → In to (ends_of s account)
in_ends s to [] k = k
in_ends s to (Answer.Unsubscribed r v ∷ before) (inl e) =
    let a : r ≡ s = cc in let b : v ≡ to = cc in subst (λ z. In to (cond z (v ∷ ends_of s before) (ends_of s before))) (sym (eq-eqb r s a)) (inl b)
in_ends s to (Answer.Unsubscribed r v ∷ before) (inr k) = (elim (r == s) as (λ (b : Bool). In to (ends_of s before) → In to (cond b (v ∷ (ends_of s before)) (ends_of s before))) [ true ↦ λ k. inr k | false ↦ λ k. k ]) (in_ends s to before k)
in_ends s to (o ∷ before) (inl e) = cc
in_ends s to (o ∷ before) (inr k) = in_ends s to before k

-- a subscription is silent only where it was closed, or a connection was
pub not_silent : (s : ℕ) (account : List Answer) → ends_of s account ≡ [] → ((c : ℕ) → has_closed c account ≡ false) → IsSilent s account → Prim.⊥
not_silent s account none unclosed (inl h) = subst (λ z. In h.0 z) none (in_ends s h.0 account h.1)
not_silent s account none unclosed (inr h) = true≢false (sym (any_from (closes h.0) h.3 account h.5 h.6) ∙ unclosed h.0)

-- an account that is silent after a close has no delivery above what makes its subscription silent
pub silent_at : (account : List Answer) → SilentAfterClose account → (later before : List Answer) (s : ℕ) (item : Item)
    → account ≡ later ++ Answer.Handed s item ∷ before → IsSilent s before → Prim.⊥
silent_at account h later before s item e k = below later (subst SilentAfterClose e h)
  where
    below : (xs : List Answer) → SilentAfterClose (xs ++ Answer.Handed s item ∷ before) → Prim.⊥
    below [] silent = silent.0 k
    below (Answer.Handed r i ∷ xs) silent = below xs silent.1
    below (o ∷ xs) silent = below xs silent
