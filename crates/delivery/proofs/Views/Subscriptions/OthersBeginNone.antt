-- Outcomes that begin no subscription: those of each event but a Next.
use Rattle.std.proofs.Common.{◌≡◌, true, inl, inr, Some, None, refl, sym, ap, subst}
use Rattle.delivery.proofs.Words.All.{In, some_same, World, Move, move_answer, answer_to, Event, Outcome, Reading, begun_by, Core, outcome_of, cut_of, outcomes, is_faulted, ◌∙◌, ◌⊎◌, false≢true}
use Rattle.delivery.proofs.Core.AccountOfRun.{by_answer}
use Rattle.delivery.proofs.Machine.ByFound.{by_found, InEachCase, always}
use Rattle.delivery.proofs.Core.MoveOfStep.{Comes, IsMoveOf, comes, is_plain}

-- it begins none, nor does it with its reply left out
abbrev Silent : Outcome → Type 0
Silent o = (begun_by o ≡ None) × (begun_by (cut_of o) ≡ None)

one : (o z : Outcome) → Silent o → Some o ≡ Some z → Silent z
one o z h e = subst Silent (some_same o z e) h

-- the move is no SUBSCRIBE's
abbrev IsNoSubscribe : Move → Type 0
IsNoSubscribe (Move.Subscribes c t) = Prim.⊥
IsNoSubscribe m = Unit {0}

in_each : (w : World) (m : Move) → IsNoSubscribe m → InEachCase (λ v a. (z : Outcome) → outcome_of a ≡ Some z → Silent z) w m
in_each w (Move.Subscribes c t) n = absurd n
in_each w (Move.Leaves c) n = ((λ z e. one _ z (refl, refl) e), λ s. always (λ z e. one _ z (refl, refl) e))
in_each w _ n = ((λ z e. one _ z (refl, refl) e), λ k z e. one _ z (refl, refl) e)

answer_silent : (w : World) (m : Move) → IsNoSubscribe m → (z : Outcome) → outcome_of (move_answer w m) ≡ Some z → Silent z
answer_silent w m n = by_found (λ v a. (z : Outcome) → outcome_of a ≡ Some z → Silent z) w m (in_each w m n)

-- the event asks for no frame
abbrev pub IsOther : Event → Type 0
IsOther (Event.Next c) = Prim.⊥
IsOther e = Unit {0}

no_subscribe : (e : Event) (m : Move) → IsOther e → IsMoveOf e m → IsNoSubscribe m
no_subscribe (Event.Next c) m other own = absurd other
no_subscribe (Event.Piece c octets) m other own = absurd own
no_subscribe (Event.Propose c t) m other (memory, own) = subst IsNoSubscribe (sym own) tt
no_subscribe e m other own = subst IsNoSubscribe (sym own) tt

move_silent : (w : World) (m : Move) (z : Outcome) → IsNoSubscribe m → outcome_of (answer_to w m) ≡ Some z → Silent z
move_silent w m z n d = by_answer Silent w m z (λ why x a. (refl, refl)) (λ free a y e. answer_silent w m n y e) d

plain_silent : (o : Outcome) → (is_plain o ≡ true) ⊎ (is_faulted o ≡ true) → begun_by o ≡ None
plain_silent (Outcome.Subscribed s from) h = absurd (elim h [ inl e ↦ false≢true e | inr e ↦ false≢true e ])
plain_silent _ h = refl

cut_silent : (base o : Outcome) → Silent base → (base ≡ o) ⊎ (cut_of base ≡ o) → begun_by o ≡ None
cut_silent base o h (inl e) = ap begun_by (sym e) ∙ h.0
cut_silent base o h (inr e) = ap begun_by (sym e) ∙ h.1

-- what comes of it begins no subscription
pub silent : (k : Core) (e : Event) (rd : Reading) (o : Outcome) → IsOther e → In o (outcomes k e rd) → begun_by o ≡ None
silent k e rd o other i = by_step (comes k e rd o i)
  where
    by_step : Comes k e rd o → begun_by o ≡ None
    by_step (inl h) = plain_silent o (inl h.1)
    by_step (inr (inl h)) = plain_silent o (inr h.faulted)
    by_step (inr (inr (inl h))) = cut_silent h.base o (move_silent k.world h.move h.base (no_subscribe e h.move other h.own) h.is) h.cut
    by_step (inr (inr (inr (inl h)))) = cut_silent h.base o (move_silent k.world (Move.Decides h.connection) h.base tt h.is) h.cut
    by_step (inr (inr (inr (inr h)))) = absurd (subst IsOther h.event other)
