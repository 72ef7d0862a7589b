-- A subscription whose end was asked for has ended at its own topic's frontier then.
use Rattle.std.proofs.Common.{◌≡◌, ℕ, List, [], ◌∷◌, Option, Some, None, refl, sym, ap, ◌∙◌}
use Rattle.delivery.proofs.Words.All.{Topic, EntryEnd, Asked, Stamp, some_same, none_some, World, subscription_at, entry_at, end_at, entry_to, Move, Answer, world_after, answer_to, Run, answers_of, final_world, cause_of, released_frontier, beginning_of, Beginning, ◌++◌}
use Rattle.delivery.proofs.Machine.SpanSteps.{step_tells}
use Rattle.delivery.proofs.Words.Steps.{reached, by_run}
use Rattle.delivery.proofs.Theorem.ClosedAsAnswered.{spans_end_at_frontier, closed_as_told, closes_are_told, closed_stays}
use Rattle.delivery.proofs.Core.Said.{said, released_frontier_said, beginning_said}
use Rattle.delivery.proofs.Core.SaidParts.{said_append}
use Rattle.delivery.proofs.Core.Started.{frontier_of, beginning_is}
use Rattle.delivery.proofs.Core.LagsAsTold.{old_one, end_by}
use Rattle.delivery.proofs.Core.DeliveredAsTold.{EndsAt}

-- subscription s of topic t was closed, and its span ended at its topic's frontier then
record EndedAt (t : Topic) (s : ℕ) (past : List Answer) (to : Stamp) : Type 0 where
  later : List Answer
  before : List Answer
  are : past ≡ later ++ Answer.Unsubscribed s to ∷ before
  topic : (beginning_of s before).topic ≡ t
  frontier : to ≡ released_frontier t before

-- each subscription that was asked to end was
abbrev AskedEnds : List Answer → World → Type 0
AskedEnds past w = (s : ℕ) (end : EntryEnd) → (subscription_at w s).closed ≡ Some end → end.cause ≡ Asked → EndedAt (subscription_at w s).topic s past end.to

-- a subscription that is closed after an event had the topic that it has
same_topic : (r : Run) (e : Move) (s : ℕ) (end : EntryEnd) → (subscription_at (world_after (final_world r) e) s).closed ≡ Some end
    → (subscription_at (world_after (final_world r) e) s).topic ≡ (subscription_at (final_world r) s).topic
same_topic r e s end k =
    let w = final_world r in let v = world_after w e in let ended : end_at v s ≡ Some end.to = ap (λ (z : Option EntryEnd). end_by z (entry_to (entry_at v s))) k in
    ((step_tells (answers_of r) w e (reached r)).each s (old_one r e s end.to ended)).topic

pub none_asked : (o : Option Stamp) → cause_of o ≡ Asked → o ≡ None
none_asked None e = refl
none_asked (Some end) e = cc

asked_case : (r : Run) (e : Move) (s : ℕ) (end : EntryEnd) → AskedEnds (answers_of r) (final_world r) → (o : Option EntryEnd) → (subscription_at (final_world r) s).closed ≡ o
    → (subscription_at (world_after (final_world r) e) s).closed ≡ Some end → end.cause ≡ Asked
    → EndedAt (subscription_at (world_after (final_world r) e) s).topic s (answer_to (final_world r) e ∷ answers_of r) end.to
asked_case r e s end h None n k c =
    let w = final_world r in let a = closes_are_told r e s end n k in let same = same_topic r e s end k in let left = some_same _ end (sym (closed_as_told r e s end.to a) ∙ k) in
    let unended : end_at w s ≡ None = none_asked (end_at w s) (ap (λ (z : EntryEnd). z.cause) left ∙ c) in record {
      later = [];
      before = answers_of r;
      are = ap (λ (z : Answer). z ∷ answers_of r) a;
      topic = ap (λ (z : Beginning). z.topic) (beginning_is r s) ∙ sym same;
      frontier = spans_end_at_frontier r e s end.to a unended
          ∙ (frontier_of r (subscription_at w s).topic
          ∙ ap (λ (t : Topic). released_frontier t (answers_of r)) (sym same));
    }
asked_case r e s end h (Some left) n k c =
    let w = final_world r in let was : left ≡ end = some_same left end (sym (closed_stays r e s left n) ∙ k) in
    let old = h s end (n ∙ ap Some was) c in let same = same_topic r e s end k in record {
      later = answer_to w e ∷ old.later;
      before = old.before;
      are = ap (λ (z : List Answer). answer_to w e ∷ z) old.are;
      topic = old.topic ∙ sym same;
      frontier = old.frontier ∙ ap (λ (z : Topic). released_frontier z old.before) (sym same);
    }

asked_ends : (r : Run) → AskedEnds (answers_of r) (final_world r)
asked_ends =
    by_run AskedEnds (λ capacity log_limit clocks s end k c. none_some end k)
    (λ r e h s end k c. asked_case r e s end h (subscription_at (final_world r) s).closed refl k c)

said_are : {t : Topic} {s : ℕ} {past : List Answer} {to : Stamp} (h : EndedAt t s past to) → said past ≡ said h.later ++ Answer.Unsubscribed s to ∷ said h.before
said_are {s = s} {to = to} h = ap said h.are ∙ said_append h.later (Answer.Unsubscribed s to ∷ h.before)

-- so by an account
pub asked_said : (r : Run) (s : ℕ) (end : EntryEnd) → (subscription_at (final_world r) s).closed ≡ Some end → end.cause ≡ Asked
    → EndsAt (subscription_at (final_world r) s).topic s (said (answers_of r))
asked_said r s end k c =
    let h = asked_ends r s end k c in (said h.later, said h.before, end.to, said_are h, h.frontier ∙ sym (released_frontier_said (subscription_at (final_world r) s).topic h.before))

-- also by the topic that the account says
pub asked_began : (r : Run) (s : ℕ) (end : EntryEnd) → (subscription_at (final_world r) s).closed ≡ Some end → end.cause ≡ Asked
    → (later before : List Answer) × (said (answers_of r) ≡ later ++ Answer.Unsubscribed s end.to ∷ before) × (end.to ≡ released_frontier (beginning_of s before).topic before)
asked_began r s end k c =
    let h = asked_ends r s end k c in let began = ap (λ (z : Beginning). z.topic) (beginning_said s h.before) ∙ h.topic in (
      said h.later,
      said h.before,
      said_are h,
      h.frontier ∙ (sym (released_frontier_said (subscription_at (final_world r) s).topic h.before) ∙ ap (λ (t : Topic). released_frontier t (said h.before)) (sym began)),
    )
