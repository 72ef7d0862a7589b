-- What a run's outcomes tell of its spans, and the bound of its queues.
use Rattle.delivery.proofs.Words.All.{◌≡◌, ℕ, ◌+◌, ◌<◌, ◌≤◌, ◌==◌, true, not, inl, inr, List, [], ◌∷◌, length, Option, Some, None, refl, sym, ap, subst, ◌∙◌, arith, ltb, is_some, ltb-true, and_parts, not-false, not-true, cases_lt, length_push, zero_stamp, Topic, Stamp, In, Item, Entry, end_of, at_set_within, none_some, World, Subscription, no_subscription, topic_at, subscription_at, entry_at, start, accepted_at, end_at, Move, Answer, world_after, answer_to, move_refusal, move_effect, move_answer, is_live, oldest_live, leave_effect, leave_answer, close_effect, close_effect_of, end_now, run, answers_from, Run, answers_of, final_world, Subscribes, Unsubscribes, Leaves, Subscribed, Unsubscribed}
use Rattle.delivery.specs.Theorem.Reported
use Rattle.delivery.proofs.Words.Steps.{beyond, at_push_two, new_subscription, Reached, tickets, by_refusal, step_reached, checked, reached, start_reached, frontier_is, none_of, Found, answer_as}
use Rattle.delivery.proofs.Machine.SpanSteps.{end_in, none_there, step_tells}
use Rattle.delivery.proofs.Theorem.HandedIsPrefix.{handing, owned_entry, unclosed_entry}

-- ---- an answer that begins a subscription

-- subscription s is there, and has this topic and this beginning
pub record Begins (w : World) (s c : ℕ) (t : Topic) (from : Stamp) : Type 0 where
  pub there : s < length w.subscriptions
  pub topic : (subscription_at w s).topic ≡ t
  pub start : (subscription_at w s).from ≡ from
  pub owner : (subscription_at w s).connection ≡ c

begins_new : (w : World) (c : ℕ) (t : Topic) (s : ℕ) (from : Stamp) → s ≡ length w.subscriptions → from ≡ (topic_at w t).frontier → Begins (move_effect w (Subscribes c t)) s c t from
begins_new w c t s from n f =
    let m = length_push w.subscriptions (new_subscription w c t) in record {
      there = omega arith;
      topic = at_push_two (λ (z : Subscription). z.topic ≡ t) w.subscriptions s (new_subscription w c t) no_subscription (λ k. refl) (λ ne. absurd (ne n));
      start = at_push_two (λ (z : Subscription). z.from ≡ from) w.subscriptions s (new_subscription w c t) no_subscription (λ k. sym f) (λ ne. absurd (ne n));
      owner = at_push_two (λ (z : Subscription). z.connection ≡ c) w.subscriptions s (new_subscription w c t) no_subscription (λ k. refl) (λ ne. absurd (ne n));
    }

begins_now : (w : World) (e : Move) (s c : ℕ) (t : Topic) (from : Stamp) → answer_to w e ≡ Subscribed s c t from → Begins (world_after w e) s c t from
begins_now w e s c t from a =
    let h = answer_as w e a in
    subst (λ z. Begins (world_after w z) s c t from) (sym h.0)
    (by_refusal (λ v o. o ≡ Subscribed s c t from → Begins v s c t from) w (Subscribes c t) (λ why d. cc) (λ n d. begins_new w c t s from h.1 h.2) (ap (answer_to w) (sym h.0) ∙ a))

-- ---- an answer that ends one

-- a live subscription isn't closed
pub live_unclosed : (c : ℕ) (x : Subscription) → is_live c x ≡ true → x.closed ≡ None
live_unclosed c x e = none_of x.closed (not-true (is_some x.closed) (and_parts (x.connection == c) (not (is_some x.closed)) e).1)

-- so it has its entry
pub live_entry : (past : List Answer) (w : World) (c s : ℕ) → Reached past w → s < length w.subscriptions → is_live c (subscription_at w s) ≡ true → Found (entry_at w s)
live_entry past w c s r l live = unclosed_entry past w s r l (live_unclosed c (subscription_at w s) live)

-- it is closed, and its span ends so
pub record Ends (w : World) (s : ℕ) (to : Stamp) : Type 0 where
  pub end : end_at w s ≡ Some to
  pub closed : is_some (subscription_at w s).closed ≡ true

-- as it is when it is closed
pub closed_ends : (past : List Answer) (w : World) (s : ℕ) → Reached past w → (k : Found (entry_at w s)) → Ends (close_effect_of w s (Some k.it)) s (end_now w s)
closed_ends past w s r k =
    let t = (subscription_at w s).topic in let left = end_of (topic_at w t).frontier k.it in let v = close_effect_of w s (Some k.it) in
    let l = (owned_entry past w s r k).there in let new : Subscription = record (subscription_at w s) { closed = Some left } in record {
      end = at_set_within (λ (z : Subscription). end_in v.topics s z ≡ Some left.to) w.subscriptions s s new no_subscription l (λ d. refl) (λ ne. absurd (ne refl))
          ∙ ap (λ (o : Option Entry). Some (elim o [ None ↦ zero_stamp | Some e ↦ (end_of (topic_at w t).frontier e).to ])) (sym k.is);
      closed = at_set_within (λ (z : Subscription). is_some z.closed ≡ true) w.subscriptions s s new no_subscription l (λ d. refl) (λ ne. absurd (ne refl));
    }

ends_now : (past : List Answer) (w : World) (e : Move) (s : ℕ) (to : Stamp) → Reached past w → answer_to w e ≡ Unsubscribed s to → Ends (world_after w e) s to
ends_now past w e s to r a = elim (answer_as w e a) [
  | inl (c, is, live) ↦ by_move (Unsubscribes c s) is (λ n d.
      let k = and_parts (ltb s (length w.subscriptions)) (is_live c (subscription_at w s)) (not-false _ (checked w (Unsubscribes c s) n).1.1.1.0) in
      closes (live_entry past w c s r (ltb-true s (length w.subscriptions) k.0) live) s d)
  | inr (c, is, old) ↦ by_move (Leaves c) is (λ n d. left (live_entry past w c s r old.there old.live) c (oldest_live c 0 w.subscriptions) d)
]
  where
    by_move : (m : Move) → e ≡ m → (move_refusal w m ≡ None → move_answer w m ≡ Unsubscribed s to → Ends (move_effect w m) s to) → Ends (world_after w e) s to
    by_move m is h =
        subst (λ z. Ends (world_after w z) s to) (sym is)
        (by_refusal (λ v o. o ≡ Unsubscribed s to → Ends v s to) w m (λ why d. cc) h (ap (answer_to w) (sym is) ∙ a))

    closes : Found (entry_at w s) → (q : ℕ) → Unsubscribed q (end_now w q) ≡ Unsubscribed s to → Ends (close_effect w q) s to
    closes k q d =
        let same : q ≡ s = cc in let end : end_now w q ≡ to = cc in
        subst (λ n. Ends (close_effect w n) s to) (sym same)
        (subst (λ z. Ends (close_effect w s) s z) (ap (end_now w) (sym same) ∙ end) (subst (λ o. Ends (close_effect_of w s o) s (end_now w s)) (sym k.is) (closed_ends past w s r k)))

    left : Found (entry_at w s) → (c : ℕ) (o : Option ℕ) → leave_answer w c o ≡ Unsubscribed s to → Ends (leave_effect w c o) s to
    left k c None d = cc
    left k c (Some q) d = closes k q d

-- ---- a run

-- only a subscription has an end
pub end_there : (past : List Answer) (w : World) (s : ℕ) (end : Stamp) → Reached past w → end_at w s ≡ Some end → s < length w.subscriptions
end_there past w s end r e = elim (cases_lt s (length w.subscriptions)) [
  | inl l ↦ l
  | inr l ↦ none_some end (sym (ap (end_in w.topics s) (beyond w.subscriptions s no_subscription l) ∙ (none_there past w s (record { 0 = 0 }) r l).0) ∙ e)
]

-- after a run: spans begin and end as they were answered, and queues hold at most their capacity
pub record Known (capacity : ℕ) (past : List Answer) (w : World) : Type 0 where
  pub same : w.capacity ≡ capacity
  pub bounded : (s : ℕ) → s < length w.subscriptions → length (accepted_at w s) ≤ (subscription_at w s).taken + w.capacity
  pub begun : (s c : ℕ) (t : Topic) (from : Stamp) → In (Subscribed s c t from) past → Begins w s c t from
  pub ended : (s : ℕ) (to : Stamp) → In (Unsubscribed s to) past → Ends w s to

step_known : (capacity : ℕ) (past : List Answer) (w : World) (e : Move) → Reached past w → Known capacity past w → Known capacity (answer_to w e ∷ past) (world_after w e)
step_known capacity past w e r h =
    let k = step_tells past w e r in let v = world_after w e in record {
      same = k.same ∙ h.same;
      bounded = λ s l. elim (cases_lt s (length w.subscriptions)) [
        | inl o ↦ subst (λ n. length (accepted_at v s) ≤ (subscription_at v s).taken + n) (sym k.same) ((k.each s o).bound (h.bounded s o))
        | inr o ↦ subst (λ (z : List Item). length z ≤ (subscription_at v s).taken + v.capacity) (sym (k.fresh s o l).1) (omega arith)
      ];
      begun = λ s c t from i. elim i [
        | inl d ↦ begins_now w e s c t from d
        | inr j ↦ (let b = h.begun s c t from j in let l : s < length w.subscriptions = b.there in let m = k.more in record {
          there = omega arith;
          topic = (k.each s l).topic ∙ b.topic;
          start = (k.each s l).from ∙ b.start;
          owner = (k.each s l).owner ∙ b.owner;
        })
      ];
      ended = λ s to i. elim i [
        | inl d ↦ ends_now past w e s to r d
        | inr j ↦ (let f = h.ended s to j in let m = k.each s (end_there past w s to r f.end) in record { end = m.stays to f.end; closed = m.closed f.closed })
      ];
    }

-- Known holds after each run
pub known : (r : Run) → Known r.capacity (answers_of r) (final_world r)
known r = run_known r.events [] (start r.capacity r.log_limit r.clocks) (start_reached r.capacity r.log_limit r.clocks) (record {
  same = refl;
  bounded = λ s l. absurd (omega arith);
  begun = λ s c t from i. absurd i;
  ended = λ s to i. absurd i;
})
  where
    run_known : (es : List Move) (past : List Answer) (w : World) → Reached past w → Known r.capacity past w → Known r.capacity (answers_from es w past) (run es w)
    run_known [] past w h k = k
    run_known (e ∷ es) past w h k = run_known es (answer_to w e ∷ past) (world_after w e) (step_reached past w e h) (step_known r.capacity past w e h k)

-- a span has the topic and the beginning that SUBSCRIBE was answered
pub spans_begin_as_told : Reported.SpansBeginAsAnswered
spans_begin_as_told r s c t from i = let b = (known r).begun s c t from i in (b.there, b.topic, b.start)

-- a span has the end that was answered
pub spans_end_as_told : Reported.SpansEndAsAnswered
spans_end_as_told r s to i = ((known r).ended s to i).end

-- a span begins at its topic's frontier
pub spans_begin_at_frontier : Reported.SpansBeginAtFrontier
spans_begin_at_frontier r e s c t from a = (answer_as (final_world r) e a).2 ∙ frontier_is (tickets (answers_of r)) (final_world r) t (reached r).inv

-- an end that is there stays
pub ends_stay : Reported.EndsStay
ends_stay r e s end d = let h = reached r in ((step_tells (answers_of r) (final_world r) e h).each s (end_there (answers_of r) (final_world r) s end h d)).stays end d

-- of what a queue has accepted, no more than its capacity wasn't delivered
pub queues_are_bounded : Reported.QueuesAreBounded
queues_are_bounded r s l =
    let h = known r in let c = ((handing r).held s l).count in
    subst (λ n. length (accepted_at (final_world r) s) ≤ n + r.capacity) c
    (subst (λ n. length (accepted_at (final_world r) s) ≤ (subscription_at (final_world r) s).taken + n) h.same (h.bounded s l))
