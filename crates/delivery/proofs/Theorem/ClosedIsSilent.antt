-- Nothing is handed on of a closed subscription.
use Rattle.delivery.proofs.Words.All.{◌≡◌, ℕ, true, inl, inr, List, ◌∷◌, None, refl, sym, ap, subst, ◌∙◌, true≢false, is_some, or_parts, not-false, Item, any_from, subscription_at, Answer, answer_to, move_refusal, Run, answers_of, final_world, closes, Handed, Takes}
use Rattle.delivery.specs.Theorem.Laws
use Rattle.delivery.specs.Theorem.Settled.{IsSilent, SilentAfterClose}
use Rattle.delivery.proofs.Words.Steps.{by_refusal, checked, by_run, answer_as}
use Rattle.delivery.proofs.Core.Speaking.{open_in}
use Rattle.delivery.proofs.Theorem.SpansAsAnswered.{known}
use Rattle.delivery.proofs.Views.Endpoints.StandingOfConnection.{calm}

-- a subscription of which an item may be taken isn't closed, and its connection is open; so neither was closed before
not_silent : (r : Run) (s : ℕ) → move_refusal (final_world r) (Takes s) ≡ None → IsSilent s (answers_of r) → Prim.⊥
not_silent r s n silent =
    let w = final_world r in let x = subscription_at w s in let p = or_parts (is_some x.closed) _ (checked w (Takes s) n).1.0 in
    elim silent [
      | inl (to, i) ↦ true≢false (sym ((known r).ended s to i).closed ∙ p.0)
      | inr (c, t, from, o, begun, i, is) ↦ true≢false (sym (any_from (closes c) o (answers_of r) i is)
          ∙ calm r c (λ l. subst (λ d. open_in w.connections d ≡ true) ((known r).begun s c t from begun).owner (not-false (open_in w.connections x.connection) p.1)))
    ]

silent_more : (o : Answer) (past : List Answer) → ((s : ℕ) (item : Item) → o ≡ Handed s item → IsSilent s past → Prim.⊥) → SilentAfterClose past → SilentAfterClose (o ∷ past)
silent_more (Handed s item) past h more = (h s item refl, more)
silent_more _ past h more = more

-- nothing is delivered of a subscription once it, or its connection, was closed
pub closed_is_silent : Laws.ClosedIsSilent
closed_is_silent = by_run (λ past w. SilentAfterClose past) (λ capacity log_limit clocks. tt) (λ r e. let w = final_world r in
    silent_more (answer_to w e) (answers_of r) (λ s item a.
    by_refusal (λ v o. o ≡ Handed s item → IsSilent s (answers_of r) → Prim.⊥) w (Takes s) (λ why d i. cc) (λ n d. not_silent r s n)
    (ap (answer_to w) (sym (answer_as w e a).0) ∙ a)))
