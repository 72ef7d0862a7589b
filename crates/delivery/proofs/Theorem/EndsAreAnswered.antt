-- Where a span gets its end.
use Rattle.delivery.proofs.Words.All.{◌≡◌, ◌≢◌, ℕ, ◌+◌, ◌<◌, ◌≤◌, ◌⊎◌, inl, inr, List, [], ◌∷◌, ◌++◌, length, Some, None, refl, sym, ap, subst, ◌∙◌, arith, cases_order, cases_lt, Topic, Stamp, Item, TopicState, find_entry, end_of, after_unsubscribe, at_set, at_set_within, some_same, none_some, World, Subscription, no_subscription, topic_at, subscription_at, entry_at, with_topic, accepted_at, end_at, Move, Answer, world_after, answer_to, move_refusal, move_effect, take_effect, close_effect_of, end_now, delivered_items, Run, answers_of, final_world, AddsTopic, Subscribes, Unsubscribes, Leaves, Proposes, Cancels, Learns, Releases, Turns, Takes, Unsubscribed}
use Rattle.delivery.specs.Theorem.Reported
use Rattle.delivery.proofs.Words.Steps.{topic_in, at_topic_from, at_topic, at_push_two, at_added, new_subscription, new_entry, topic_with, taken_more, Reached, by_refusal, step_reached, reached, end_by, InEachCase, by_found, always, Found}
use Rattle.delivery.proofs.Theorem.HandedIsPrefix.{handing, find_kept, find_inserted, owned_entry}
use Rattle.delivery.proofs.Machine.QueueSteps.{Goes, release_goes, turned_goes}
use Rattle.delivery.proofs.Machine.SpanSteps.{end_in, step_tells, moves_topic}
use Rattle.delivery.proofs.Theorem.SpansAsAnswered.{known, end_there, closed_ends}

-- an end that is new
record New (w : World) (s : ℕ) (end : Stamp) (v : World) : Type 0 where
  before : end_at w s ≡ None
  now : end_at v s ≡ Some end

-- one that stays isn't
not_new : {X : Type 0} {w v : World} {s : ℕ} {end : Stamp} → end_at v s ≡ end_at w s → New w s end v → X
not_new {end = end} same new = none_some end (sym new.before ∙ (sym same ∙ new.now))

-- a topic's step that leaves the entries' ends
beside : (w : World) (t : Topic) (y : TopicState) (s : ℕ) → y.subscriptions ≡ (topic_in w.topics t).subscriptions → end_at (with_topic w t y) s ≡ end_at w s
beside w t y s same =
    let x = subscription_at w s in
    ap (end_by x.closed) (at_topic_from (λ u z. find_entry s z.subscriptions ≡ find_entry s (topic_in w.topics u).subscriptions) w.topics t x.topic y (λ o. ap (find_entry s) same) refl)

added : (w : World) (clock s : ℕ) → end_at (move_effect w (AddsTopic clock)) s ≡ end_at w s
added w clock s =
    let x = subscription_at w s in
    ap (end_by x.closed) (at_added (λ u z. find_entry s z.subscriptions ≡ find_entry s (topic_in w.topics u).subscriptions) w.topics w.log_limit clock x.topic (λ k. k) refl)

taken_one : (w : World) (q s : ℕ) (item : Item) → end_at (take_effect w q (Some item)) s ≡ end_at w s
taken_one w q s item =
    at_set (λ (z : Subscription). end_in w.topics s z ≡ end_at w s) w.subscriptions q s (taken_more w q) no_subscription (λ k. ap (λ n. end_in w.topics s (subscription_at w n)) (sym k)) refl

-- UNSUBSCRIBE gives its own subscription an end, and no other
closed_other : (past : List Answer) (w : World) (q s : ℕ) → Reached past w → s ≢ q → (k : Found (entry_at w q)) → end_at (close_effect_of w q (Some k.it)) s ≡ end_at w s
closed_other past w q s r ne k =
    let entry = k.it in let t = (subscription_at w q).topic in let x = topic_in w.topics t in let y = after_unsubscribe q x in
    let v = close_effect_of w q (Some entry) in let left = end_of x.frontier entry in let z = subscription_at w s in
    at_set_within (λ (a : Subscription). end_in v.topics s a ≡ end_at w s) w.subscriptions q s (record (subscription_at w q) { closed = Some left }) no_subscription (owned_entry past w q r k).there
    (λ same. absurd (ne same))
    (λ other. ap (end_by z.closed) (at_topic_from (λ u a. find_entry s a.subscriptions ≡ find_entry s (topic_in w.topics u).subscriptions) w.topics t z.topic y
    (λ o. find_kept q s x.subscriptions ne) refl))

-- SUBSCRIBE gives none an end
begun : (w : World) (c : ℕ) (t : Topic) (s : ℕ) → s < length w.subscriptions → end_at (move_effect w (Subscribes c t)) s ≡ end_at w s
begun w c t s l =
    let v = move_effect w (Subscribes c t) in let z = subscription_at w s in
    at_push_two (λ (a : Subscription). end_in v.topics s a ≡ end_at w s) w.subscriptions s (new_subscription w c t) no_subscription
    (λ k. absurd (omega arith))
    (λ ne. ap (end_by z.closed) (at_topic_from (λ u a. find_entry s a.subscriptions ≡ find_entry s (topic_in w.topics u).subscriptions) w.topics t z.topic (topic_with w t)
    (λ o. find_inserted s (topic_in w.topics t).subscriptions (new_entry w t) (λ e. ne (sym e))) refl))

-- ---- a step of its topic

prefix_length : (xs ys : List Item) → length xs ≤ length (xs ++ ys)
prefix_length [] ys = omega arith
prefix_length (x ∷ xs) ys = let m = prefix_length xs ys in omega arith

lag_topic : (w : World) (t : Topic) (y : TopicState) (s : ℕ) (end : Stamp) → New w s end (with_topic w t y) → (subscription_at w s).topic ≡ t
lag_topic w t y s end new =
    let x = subscription_at w s in
    at_topic (λ u z. end_by x.closed (find_entry s z.subscriptions) ≡ Some end → u ≡ t) w.topics t x.topic y (λ k. refl) (λ k. none_some end (sym new.before ∙ k)) new.now

lag_full : (r : Run) (t : Topic) (y : TopicState) (s : ℕ) (end : Stamp) → s < length (final_world r).subscriptions → Goes (final_world r) (topic_in (final_world r).topics t) y → New (final_world r) s end (with_topic (final_world r) t y) → length (accepted_at (with_topic (final_world r) t y) s) ≡ length (delivered_items s (answers_of r)) + r.capacity
lag_full r t y s end l g new =
    let w = final_world r in let m = moves_topic w t y g s in let k = known r in let h = (handing r).held s l in
    let taken : ℕ = (subscription_at w s).taken in let later : ℕ = length (accepted_at (with_topic w t y) s) in
    let c : taken ≡ length (delivered_items s (answers_of r)) = h.count in
    let p : length (delivered_items s (answers_of r)) ≤ length (accepted_at w s) = subst (λ (z : List Item). length (delivered_items s (answers_of r)) ≤ length z) (sym h.is) (prefix_length (delivered_items s (answers_of r)) h.rest) in
    let most : w.capacity ≡ r.capacity = k.same in let a : later ≤ taken + w.capacity = m.bound (k.bounded s l) in
    let b : taken + w.capacity ≤ later = m.full new.before end new.now (omega arith) in omega arith

-- ---- each event

abbrev Why : Run → Move → ℕ → Stamp → World → Answer → Type 0
Why r e s end v o =
    (o ≡ Unsubscribed s end)
    ⊎ (((e ≡ Releases (subscription_at (final_world r) s).topic) ⊎ (e ≡ Turns (subscription_at (final_world r) s).topic))
    × (length (accepted_at v s) ≡ length (delivered_items s (answers_of r)) + r.capacity))

-- the end of the subscription that is closed is the one that is answered
closed_why : (past : List Answer) (w : World) (q s : ℕ) (end : Stamp) → Reached past w → (k : Found (entry_at w q)) → let v = close_effect_of w q (Some k.it) in
    New w s end v → Unsubscribed q (end_now w q) ≡ Unsubscribed s end
closed_why past w q s end r k new = elim (cases_order s q) [
  | inl d ↦ (let v = close_effect_of w q (Some k.it) in
      let same : end_now w q ≡ end = some_same (end_now w q) end (sym (closed_ends past w q r k).end ∙ (ap (λ n. end_at v n) (sym d) ∙ new.now)) in
      ap (Unsubscribed q) same ∙ ap (λ n. Unsubscribed n end) (sym d))
  | inr (inl l) ↦ not_new (closed_other past w q s r (λ d. omega arith) k) new
  | inr (inr l) ↦ not_new (closed_other past w q s r (λ d. omega arith) k) new
]

-- a release that gives it one leaves its queue full
lag_why : (r : Run) (t : Topic) (s : ℕ) (end : Stamp) → s < length (final_world r).subscriptions → let v = move_effect (final_world r) (Releases t) in New (final_world r) s end v
    → let u = (subscription_at (final_world r) s).topic in ((Releases t ≡ Releases u) ⊎ (Releases t ≡ Turns u)) × (length (accepted_at v s) ≡ length (delivered_items s (answers_of r)) + r.capacity)
lag_why r t s end l new = let w = final_world r in (inl (ap Releases (sym (lag_topic w t _ s end new))), lag_full r t _ s end l (release_goes w (topic_at w t)) new)

effect_why : (r : Run) (e : Move) (s : ℕ) (end : Stamp) → move_refusal (final_world r) e ≡ None → s < length (final_world r).subscriptions
    → InEachCase (λ v o. New (final_world r) s end v → Why r e s end v o) (final_world r) e
effect_why r (AddsTopic clock) s end n l = always (not_new (added (final_world r) clock s))
effect_why r (Subscribes c t) s end n l = always (not_new (begun (final_world r) c t s l))
effect_why r (Unsubscribes c q) s end n l = let w = final_world r in (not_new refl, λ k new. inl (closed_why (answers_of r) w q s end (reached r) k new))
effect_why r (Leaves c) s end n l = (not_new refl, λ q. (not_new refl, λ k new. inl (closed_why (answers_of r) (final_world r) q.it s end (reached r) k new)))
effect_why r (Proposes c t memory) s end n l = (not_new (beside (final_world r) t _ s refl), λ k. not_new refl)
effect_why r (Cancels c t) s end n l = (not_new refl, λ k. not_new (beside (final_world r) t _ s refl))
effect_why r (Learns t id) s end n l = (not_new refl, λ k. not_new (beside (final_world r) t _ s refl))
effect_why r (Releases t) s end n l = ((λ new. inr (lag_why r t s end l new)), λ k new. inr (lag_why r t s end l new))
effect_why r (Turns t) s end n l =
    let w = final_world r in always (λ new. inr (inr (ap Turns (sym (lag_topic w t _ s end new))), lag_full r t _ s end l (turned_goes w (topic_at w t)) new))
effect_why r (Takes q) s end n l = (not_new refl, λ k. not_new (taken_one (final_world r) q s k.it))
effect_why r _ s end n l = (not_new refl, λ k. not_new refl)

-- a span gets its end as it is closed, or by a release or a turn that leaves its queue full
pub ends_are_told : Reported.EndsAreAnswered
ends_are_told r e s end none some =
    let w = final_world r in let h = reached r in let P = λ (v : World) (o : Answer). New w s end v → Why r e s end v o in
    elim (cases_lt s (length w.subscriptions)) [
      | inl l ↦ by_refusal P w e (λ why. not_new refl) (λ n. by_found P w e (effect_why r e s end n l)) (record { before = none; now = some })
      | inr l ↦ none_some end (sym ((step_tells (answers_of r) w e h).fresh s l (end_there (answer_to w e ∷ answers_of r) (world_after w e) s end (step_reached (answers_of r) w e h) some)).0 ∙ some)
    ]
