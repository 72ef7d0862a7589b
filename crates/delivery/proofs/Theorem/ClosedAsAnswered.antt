-- A subscription is closed as its event is answered, and what it left stays; an open span ends with its topic's frontier.
use Rattle.delivery.proofs.Words.All.{◌≡◌, ◌≢◌, ℕ, ◌<◌, ◌⊎◌, inl, inr, List, length, get_or, Option, Some, None, refl, sym, ap, subst, ◌∙◌, arith, ltb, ltb-true, and_parts, cases_order, not-false, get_or_past, zero_stamp, Topic, Stamp, Item, Entry, EntryEnd, end_of, at_set, at_set_within, some_same, none_some, World, Subscription, no_subscription, topic_at, subscription_at, entry_at, entry_items, entry_to, accepted_at, end_at, Move, Answer, world_after, answer_to, move_refusal, move_effect, move_answer, is_live, oldest_live, take_effect, take_answer, leave_effect, leave_answer, close_effect_of, Run, answers_of, final_world, cause_of, Subscribes, Unsubscribes, Leaves, Takes, Unsubscribed}
use Rattle.delivery.specs.Theorem.Spans
use Rattle.delivery.proofs.Words.Steps.{at_push_two, new_subscription, taken_more, Reached, by_refusal, checked, by_found, Found, reached, is_oldest}
use Rattle.delivery.proofs.Theorem.SpansAsAnswered.{live_entry}
use Rattle.delivery.proofs.Machine.SpanSteps.{open_end}
use Rattle.delivery.proofs.Theorem.HandedIsPrefix.{open_items, owned_entry}
use Rattle.delivery.proofs.Theorem.TopicsAreSound.{topics_are_sound}

-- ---- what an event makes of what subscriptions left

-- what this entry would leave now
abbrev left_of : World → ℕ → Entry → EntryEnd
left_of w s entry = end_of (topic_at w (subscription_at w s).topic).frontier entry

-- a subscription that wasn't closed is closed, and its end is answered
record Closes (w v : World) (o : Answer) (s : ℕ) : Type 0 where
  unclosed : (subscription_at w s).closed ≡ None
  entry : Entry
  found : entry_at w s ≡ Some entry
  told : o ≡ Unsubscribed s (left_of w s entry).to
  left : (subscription_at v s).closed ≡ Some (left_of w s entry)

-- it is as it was, and no end of it is answered
abbrev Stays : World → World → Answer → ℕ → Type 0
Stays w v o s = ((subscription_at v s).closed ≡ (subscription_at w s).closed) × ((to : Stamp) → o ≡ Unsubscribed s to → Prim.⊥)

abbrev StaysOrCloses : World → World → Answer → ℕ → Type 0
StaysOrCloses w v o s = Stays w v o s ⊎ Closes w v o s

abbrev IsEnd : Answer → Type 0
IsEnd (Unsubscribed s to) = Unit {0}
IsEnd o = Prim.⊥

-- an event that leaves all subscriptions and answers no end
same : (w v : World) (o : Answer) (s : ℕ) → v.subscriptions ≡ w.subscriptions → (IsEnd o → Prim.⊥) → StaysOrCloses w v o s
same w v o s e n = inl (ap (λ (z : List Subscription). (get_or z s no_subscription).closed) e, λ to d. n (subst IsEnd (sym d) tt))

-- ---- a subscription is closed

closed_other : (w : World) (q s : ℕ) (entry : Entry) → s ≢ q → Stays w (close_effect_of w q (Some entry)) (Unsubscribed q (left_of w q entry).to) s
closed_other w q s entry ne = (
  at_set (λ (z : Subscription). z.closed ≡ (subscription_at w s).closed) w.subscriptions q s (record (subscription_at w q) { closed = Some (left_of w q entry) }) no_subscription
      (λ k. absurd (ne k)) refl,
  λ to d. (let a : q ≡ s = cc in ne (sym a)),
)

closed_itself : (w : World) (q : ℕ) (entry : Entry) → q < length w.subscriptions → (subscription_at w q).closed ≡ None → entry_at w q ≡ Some entry → Closes w (close_effect_of w q (Some entry)) (Unsubscribed q (left_of w q entry).to) q
closed_itself w q entry l unclosed e = record {
  unclosed = unclosed;
  entry = entry;
  found = e;
  told = refl;
  left = at_set_within (λ (z : Subscription). z.closed ≡ Some (left_of w q entry)) w.subscriptions q q (record (subscription_at w q) { closed = Some (left_of w q entry) }) no_subscription l
      (λ k. refl) (λ ne. absurd (ne refl));
}

closed_case : (past : List Answer) (w : World) (q s : ℕ) → Reached past w → Found (entry_at w q) → (o : Option Entry) → entry_at w q ≡ o → StaysOrCloses w (close_effect_of w q o) (Unsubscribed q (elim o [ None ↦ zero_stamp | Some e ↦ (left_of w q e).to ])) s
closed_case past w q s r h None e = none_some h.it (sym e ∙ h.is)
closed_case past w q s r h (Some entry) e = elim (cases_order s q) [
  | inl d ↦ (let own = owned_entry past w q r h in
      subst (λ n. StaysOrCloses w (close_effect_of w q (Some entry)) (Unsubscribed q (left_of w q entry).to) n) (sym d) (inr (closed_itself w q entry own.there own.closed e)))
  | inr (inl k) ↦ inl (closed_other w q s entry (λ d. omega arith))
  | inr (inr k) ↦ inl (closed_other w q s entry (λ d. omega arith))
]

left_case : (past : List Answer) (w : World) (c s : ℕ) → Reached past w → (o : Option ℕ) → oldest_live c 0 w.subscriptions ≡ o → StaysOrCloses w (leave_effect w c o) (leave_answer w c o) s
left_case past w c s r None f = same w (leave_effect w c None) (leave_answer w c None) s refl (λ i. i)
left_case past w c s r (Some q) f = let o = is_oldest w c q f in closed_case past w q s r (live_entry past w c q r o.there o.live) (entry_at w q) refl

-- ---- each event

begun_case : (w : World) (c s : ℕ) (t : Topic) → StaysOrCloses w (move_effect w (Subscribes c t)) (move_answer w (Subscribes c t)) s
begun_case w c s t = inl (
  at_push_two (λ (z : Subscription). z.closed ≡ (subscription_at w s).closed) w.subscriptions s (new_subscription w c t) no_subscription
      (λ k. sym (ap (λ (z : Subscription). z.closed) (get_or_past w.subscriptions s no_subscription (omega arith)))) (λ ne. refl),
  λ to d. subst IsEnd (sym d) tt,
)

taken_case : (w : World) (q s : ℕ) (o : Option Item) → StaysOrCloses w (take_effect w q o) (take_answer w q o) s
taken_case w q s None = same w (take_effect w q None) (take_answer w q None) s refl (λ i. i)
taken_case w q s (Some item) = inl (
  at_set (λ (z : Subscription). z.closed ≡ (subscription_at w s).closed) w.subscriptions q s (taken_more w q) no_subscription
      (λ k. ap (λ n. (subscription_at w n).closed) (sym k)) refl,
  λ to d. subst IsEnd (sym d) tt,
)

effect_closes : (past : List Answer) (w : World) (e : Move) (s : ℕ) → Reached past w → move_refusal w e ≡ None → StaysOrCloses w (move_effect w e) (move_answer w e) s
effect_closes past w (Subscribes c t) s r n = begun_case w c s t
effect_closes past w (Unsubscribes c q) s r n =
    let k = and_parts (ltb q (length w.subscriptions)) (is_live c (subscription_at w q)) (not-false _ (checked w (Unsubscribes c q) n).1.1.1.0) in
    closed_case past w q s r (live_entry past w c q r (ltb-true q (length w.subscriptions) k.0) k.1) (entry_at w q) refl
effect_closes past w (Leaves c) s r n = left_case past w c s r (oldest_live c 0 w.subscriptions) refl
effect_closes past w (Takes q) s r n = taken_case w q s _
effect_closes past w e s r n =
    let h = by_found (λ v o. (v.subscriptions ≡ w.subscriptions) × (IsEnd o → Prim.⊥)) w e ((refl, λ i. i), λ k. (refl, λ i. i)) in
    same w (move_effect w e) (move_answer w e) s h.0 h.1

closing : (r : Run) (e : Move) (s : ℕ) → StaysOrCloses (final_world r) (world_after (final_world r) e) (answer_to (final_world r) e) s
closing r e s =
    by_refusal (λ v o. StaysOrCloses (final_world r) v o s) (final_world r) e (λ why. same (final_world r) (final_world r) (Answer.Refused why) s refl (λ i. i))
    (λ n. effect_closes (answers_of r) (final_world r) e s (reached r) n)

closes : (r : Run) (e : Move) (s : ℕ) (to : Stamp) → answer_to (final_world r) e ≡ Unsubscribed s to → Closes (final_world r) (world_after (final_world r) e) (answer_to (final_world r) e) s
closes r e s to d = elim (closing r e s) [ inl k ↦ absurd (k.1 to d) | inr k ↦ k ]

-- ---- the laws

same_end : (to end : Stamp) (o : Answer) (s : ℕ) → o ≡ Unsubscribed s to → o ≡ Unsubscribed s end → to ≡ end
same_end to end o s d e = cc

-- the end and the queue of a subscription that isn't closed are its entry's
end_is : (w : World) (s : ℕ) (entry : Entry) → (subscription_at w s).closed ≡ None → entry_at w s ≡ Some entry → end_at w s ≡ entry.to
end_is w s entry unclosed e = open_end (subscription_at w s).closed (entry_at w s) unclosed ∙ ap entry_to e

items_are : (w : World) (s : ℕ) (entry : Entry) → (subscription_at w s).closed ≡ None → entry_at w s ≡ Some entry → accepted_at w s ≡ entry.accepted
items_are w s entry unclosed e = open_items (subscription_at w s).closed (entry_at w s) unclosed ∙ ap entry_items e

ended_open : (frontier : Stamp) (n : ℕ) (from : Stamp) (to : Option Stamp) (accepted : List Item) → to ≡ None → (end_of frontier (record { number = n; from = from; to = to; accepted = accepted })).to ≡ frontier
ended_open frontier n from None accepted e = refl
ended_open frontier n from (Some end) accepted e = none_some end (sym e)

-- a span that is open until its subscription is closed ends with its topic's frontier
pub spans_end_at_frontier : Spans.SpansEndAtFrontier
spans_end_at_frontier r e s to d none =
    let w = final_world r in let x = topic_at w (subscription_at w s).topic in let k = closes r e s to d in let entry = k.entry in
    same_end to (left_of w s entry).to (answer_to w e) s d k.told
    ∙ (ended_open x.frontier entry.number entry.from entry.to entry.accepted (sym (end_is w s entry k.unclosed k.found) ∙ none)
    ∙ (topics_are_sound r (subscription_at w s).topic).2)

abbrev left_as : Stamp → List Item → Option Stamp → EntryEnd
left_as to accepted end = record { to = to; accepted = accepted; cause = cause_of end }

ended_is : (frontier : Stamp) (n : ℕ) (from : Stamp) (to : Option Stamp) (accepted : List Item) → let left = end_of frontier (record { number = n; from = from; to = to; accepted = accepted }) in left ≡ left_as left.to accepted to
ended_is frontier n from None accepted = refl
ended_is frontier n from (Some end) accepted = refl

-- a closed subscription leaves the end that is answered, what its queue accepted, and the cause
pub closed_as_told : Spans.ClosedAsAnswered
closed_as_told r e s to d =
    let w = final_world r in let x = topic_at w (subscription_at w s).topic in let k = closes r e s to d in let entry = k.entry in let left = left_of w s entry in
    k.left ∙ ap Some (ended_is x.frontier entry.number entry.from entry.to entry.accepted
    ∙ (ap (λ z. left_as z entry.accepted entry.to) (sym (same_end to left.to (answer_to w e) s d k.told))
    ∙ (ap (λ z. left_as to z entry.to) (sym (items_are w s entry k.unclosed k.found))
    ∙ ap (λ z. left_as to (accepted_at w s) z) (sym (end_is w s entry k.unclosed k.found)))))

-- only an event that answers a subscription's end closes it
pub closes_are_told : Spans.ClosesAreAnswered
closes_are_told r e s left none d = elim (closing r e s) [
  | inl k ↦ none_some left (sym none ∙ (sym k.0 ∙ d))
  | inr k ↦ k.told ∙ ap (λ (z : EntryEnd). Unsubscribed s z.to) (some_same (left_of (final_world r) s k.entry) left (sym k.left ∙ d))
]

-- what a closed subscription left stays as it is
pub closed_stays : Spans.ClosedStays
closed_stays r e s left d = elim (closing r e s) [
  | inl k ↦ k.0 ∙ d
  | inr k ↦ none_some left (sym k.unclosed ∙ d)
]
