-- At no moment of a run did a queue have more than its capacity that wasn't delivered: what its subscription is due up to its
-- topic's frontier then.
use Rattle.delivery.proofs.Words.All.{◌≡◌, ℕ, ◌+◌, ◌<◌, ◌≤◌, Bool, true, false, cond, not, ◌&&◌, ◌⊎◌, inl, inr, List, [], ◌∷◌, ◌++◌, map, length, Option, Some, None, refl, sym, ap, subst, ◌∙◌, arith, append-nil, true≢false, and_parts, and_from, cases_lt, filter-append, filter, Topic, Stamp, zero_stamp, stamp_lt, CommitRow, agreed, In, Rises, LogRow, Item, Span, last_stamp, row_stamp, item_stamp, in_span, up_to, names, topics_of, IsQueueOf, In-append_right, filter_same, filter_none, filter_twice, lt_irrefl, le_lt, le_trans, zero_least, item_at, is_due, due, World, start, topic_at, subscription_at, accepted_at, end_at, span_at, frontier_at, Move, Answer, world_after, answer_to, commits_of, delivered_items, Run, answers_of, final_world, released_frontier}
use Rattle.delivery.proofs.Words.Steps.{topic_in, In-append_cases, tickets, step_reached, reached, queued, accepted_is_due, by_run}
use Rattle.delivery.proofs.Machine.SpanSteps.{step_tells}
use Rattle.delivery.proofs.Theorem.LogsGrow.{log_grows}
use Rattle.delivery.proofs.Theorem.QueuesGrow.{queues_grow}
use Rattle.delivery.proofs.Theorem.SpansAsAnswered.{known, queues_are_bounded}
use Rattle.delivery.proofs.Traces.Lists.{filter_mapped}
use Rattle.delivery.proofs.Core.AtNext.{at_next}
use Rattle.delivery.proofs.Core.LagsAsTold.{last_grows}
use Rattle.delivery.proofs.Core.Moments.{Always, always_all, always_one, always_both, always_said}
use Rattle.delivery.proofs.Core.Said.{said, commits_said, delivered_said, released_frontier_said}
use Rattle.delivery.proofs.Core.Started.{frontier_of}

-- ---- lists

-- of a log that rises, the later rows are above the last stamp of the earlier ones
above_last : (base : Stamp) (xs ys : List LogRow) (row : LogRow) → Rises row_stamp (xs ++ ys) → ((r : LogRow) → In r (xs ++ ys) → stamp_lt base r.stamp ≡ true)
    → In row ys → stamp_lt (last_stamp base xs) row.stamp ≡ true
above_last base [] ys row rises above k = above row k
above_last base (x ∷ xs) ys row rises above k = above_last x.stamp xs ys row rises.1 rises.0 k

-- of items that rise, the earlier ones are below the later ones
before_more : (xs more : List Item) (x m : Item) → Rises item_stamp (xs ++ more) → In x xs → In m more → stamp_lt x.stamp m.stamp ≡ true
before_more [] more x m rises i k = absurd i
before_more (y ∷ xs) more x m rises (inl e) k = subst (λ (z : Item). stamp_lt z.stamp m.stamp ≡ true) e (rises.0 m (In-append_right m xs more k))
before_more (y ∷ xs) more x m rises (inr i) k = before_more xs more x m rises.1 i k

filter_cons : {X : Type 0} (b : Bool) (x : X) (xs : List X) (n : ℕ) → length xs ≤ n → length (cond b (x ∷ xs) xs) ≤ n + 1
filter_cons true x xs n l = omega (arith, l)
filter_cons false x xs n l = omega (arith, l)

filter_most : {X : Type 0} (p : X → Bool) (xs : List X) → length (filter p xs) ≤ length xs
filter_most p [] = omega arith
filter_most p (x ∷ xs) = let h = filter_cons (p x) x (filter p xs) (length xs) (filter_most p xs) in omega (arith, h)

-- the item is at most at this stamp
abbrev pub is_up_to : Stamp → Item → Bool
is_up_to f item = not (stamp_lt f item.stamp)

cut_same : (c f g : Bool) → (f ≡ false → g ≡ false) → (c && not f) ≡ ((c && not g) && not f)
cut_same false f g h = refl
cut_same true true true h = refl
cut_same true true false h = refl
cut_same true false true h = absurd (true≢false (h refl))
cut_same true false false h = refl

-- what is due up to a frontier is so much of what is due up to a later one
due_cut : (rows : List CommitRow) (span : Span) (f g : Stamp) → stamp_lt g f ≡ false → due rows span f ≡ filter (is_up_to f) (due rows span g)
due_cut rows span f g le =
    ap (map (item_at span.topic))
    (filter_same (is_due span f) (λ (row : CommitRow). is_due span g row && not (stamp_lt f row.stamp)) (agreed rows)
    (λ row k. cut_same (names span.topic (topics_of row.txn.sends) && in_span span.from span.to row.stamp) (stamp_lt f row.stamp) (stamp_lt g row.stamp)
    (λ e. le_trans row.stamp f g e le))
    ∙ sym (filter_twice (λ (row : CommitRow). not (stamp_lt f row.stamp)) (is_due span g) (agreed rows)))
    ∙ sym (filter_mapped (is_up_to f) (item_at span.topic) (filter (is_due span g) (agreed rows)))

-- ---- one event

-- a queue after an event, by its span before
queue_after : (r : Run) (e : Move) (s : ℕ) → s < length (final_world r).subscriptions
    → let v = world_after (final_world r) e in let x = topic_in v.topics (subscription_at (final_world r) s).topic in
    IsQueueOf x.base x.frontier x.held (subscription_at (final_world r) s).from (end_at v s) (accepted_at v s)
queue_after r e s l =
    let w = final_world r in let v = world_after w e in let past = answer_to w e ∷ answers_of r in let h = step_reached (answers_of r) w e (reached r) in
    let tells = step_tells (answers_of r) w e (reached r) in let each = tells.each s l in
    let there : s < length v.subscriptions = (let more = tells.more in omega (arith, l, more)) in let q = (queued (tickets past) v s h.inv there).queue in
    subst (λ (t : Topic). IsQueueOf (topic_in v.topics t).base (topic_in v.topics t).frontier (topic_in v.topics t).held (subscription_at w s).from (end_at v s) (accepted_at v s)) each.topic
    (subst (λ (from : Stamp). let x = topic_in v.topics (subscription_at v s).topic in IsQueueOf x.base x.frontier x.held from (end_at v s) (accepted_at v s)) each.from q)

-- what enters a queue is above its topic's frontier before
enters_above : (r : Run) (e : Move) (s : ℕ) (l : s < length (final_world r).subscriptions) (i : Item) → In i (queues_grow r e s l).0
    → stamp_lt (frontier_at (final_world r) (subscription_at (final_world r) s).topic) i.stamp ≡ true
enters_above r e s l i k = by_test (stamp_lt (frontier_at w t) i.stamp) refl
  where
    w : World
    w = final_world r

    t : Topic
    t = (subscription_at w s).topic

    by_test : (b : Bool) → stamp_lt (frontier_at w t) i.stamp ≡ b → stamp_lt (frontier_at w t) i.stamp ≡ true
    by_test true at = at
    by_test false at =
        let v = world_after w e in let past = answers_of r in let h = step_reached past w e (reached r) in let from = (subscription_at w s).from in
        let grown = queues_grow r e s l in let more = grown.0 in let each = (step_tells past w e (reached r)).each s l in
        let q = (queued (tickets past) w s (reached r).inv l).queue in let q_then = queue_after r e s l in let tied = h.inv.tied t in
        let g = log_grows w e t in let old = (topic_at w t).held in
        let rises : Rises row_stamp (old ++ g.rows) = subst (λ (z : List LogRow). Rises row_stamp z) g.is tied.sound.rises in
        let above : (row : LogRow) → In row (old ++ g.rows) → stamp_lt zero_stamp row.stamp ≡ true =
        λ row j. subst (λ (z : Stamp). stamp_lt z row.stamp ≡ true) tied.undrained (tied.sound.above_base row (subst (λ (z : List LogRow). In row z) (sym g.is) j)) in
        let in_it : In i (accepted_at v s) = subst (λ (z : List Item). In i z) (sym grown.1) (In-append_right i (accepted_at w s) more k) in let within = q_then.within i in_it in
        let positive : stamp_lt zero_stamp i.stamp ≡ true =
        le_lt zero_stamp from i.stamp (zero_least from) (and_parts (stamp_lt from i.stamp) (up_to (end_at v s) i.stamp) within).0 in
        let row = q_then.only_rows i in_it (subst (λ (z : Stamp). stamp_lt z i.stamp ≡ true) (sym tied.undrained) positive) in
        elim (In-append_cases row.row old g.rows (subst (λ (z : List LogRow). In row.row z) g.is row.stands)) [
          | inl j ↦ (let has = q.all_rows row.row j ((elim (end_at w s) as (λ (a : Option Stamp). ((end : Stamp) → a ≡ Some end → (end_at v s) ≡ Some end) → in_span from (end_at v s) row.row.stamp ≡ true → in_span from a row.row.stamp ≡ true) [
            | None ↦ λ h e. and_from (stamp_lt from row.row.stamp) true (and_parts (stamp_lt from row.row.stamp) (up_to (end_at v s) row.row.stamp) e).0 refl
            | Some end ↦ λ h e. subst (λ (o : Option Stamp). in_span from o row.row.stamp ≡ true) (h end refl) e
          ]) each.stays (subst (λ (z : Stamp). in_span from (end_at v s) z ≡ true) row.is.stamp within)) in
              let below = before_more (accepted_at w s) more has.item i (subst (λ (z : List Item). Rises item_stamp z) grown.1 q_then.rises) has.stands k in
              absurd (true≢false (sym below ∙ (ap (λ (z : Stamp). stamp_lt z i.stamp) (has.is.stamp ∙ sym row.is.stamp) ∙ lt_irrefl i.stamp))))
          | inr j ↦ absurd (true≢false (sym (above_last zero_stamp old g.rows row.row rises above j) ∙ (ap (stamp_lt (frontier_at w t)) (sym row.is.stamp) ∙ at)))
        ]

-- ---- frontiers rise

-- no frontier was above what it is
abbrev Rise : List Answer → World → Type 0
Rise past w = (t : Topic) → Always (λ (before : List Answer). stamp_lt (frontier_at w t) (released_frontier t before) ≡ false) past

-- an event lowers none
frontier_rises : (r : Run) (e : Move) (t : Topic) → stamp_lt (frontier_at (world_after (final_world r) e) t) (frontier_at (final_world r) t) ≡ false
frontier_rises r e t =
    let w = final_world r in let h = step_reached (answers_of r) w e (reached r) in let tied = h.inv.tied t in let g = log_grows w e t in let old = (topic_at w t).held in
    subst (λ (z : List LogRow). stamp_lt (last_stamp zero_stamp z) (last_stamp zero_stamp old) ≡ false) (sym g.is)
    (last_grows zero_stamp old g.rows
    (λ row j. subst (λ (z : Stamp). stamp_lt z row.stamp ≡ true) tied.undrained (tied.sound.above_base row (subst (λ (z : List LogRow). In row z) (sym g.is) j)))
    (subst (λ (z : List LogRow). Rises row_stamp z) g.is tied.sound.rises))

rise : (r : Run) → Rise (answers_of r) (final_world r)
rise =
    by_run Rise (λ capacity log_limit clocks t. zero_least (frontier_at (start capacity log_limit clocks) t))
    (λ r e h t.
    let w = final_world r in let v = world_after w e in let past = answer_to w e ∷ answers_of r in
    let is : frontier_at v t ≡ released_frontier t past = at_next (λ p z. frontier_at z t ≡ released_frontier t p) (λ q. frontier_of q t) r e in (
      ap (stamp_lt (frontier_at v t)) (sym is) ∙ lt_irrefl (frontier_at v t),
      always_one (λ (before : List Answer). stamp_lt (frontier_at w t) (released_frontier t before) ≡ false) (λ (before : List Answer). stamp_lt (frontier_at v t) (released_frontier t before) ≡ false)
          (λ before k. le_trans (released_frontier t before) (frontier_at w t) (frontier_at v t) k (frontier_rises r e t)) (answers_of r) (h t),
    ))

-- ---- queues are bounded

-- of what subscription s of this topic has accepted, no more than this capacity was up to the frontier before and wasn't delivered
abbrev IsWithin : Topic → ℕ → ℕ → List Item → List Answer → Type 0
IsWithin t capacity s accepted before = length (filter (is_up_to (released_frontier t before)) accepted) ≤ length (delivered_items s before) + capacity

abbrev Within : List Answer → World → Type 0
Within past w =
    (s : ℕ) → s < length w.subscriptions
    → Always (IsWithin (subscription_at w s).topic w.capacity s (accepted_at w s)) past

-- after a run
bounded_now : (r : Run) (s : ℕ) → s < length (final_world r).subscriptions
    → length (accepted_at (final_world r) s) ≤ length (delivered_items s (answers_of r)) + (final_world r).capacity
bounded_now r s l = subst (λ (n : ℕ). length (accepted_at (final_world r) s) ≤ length (delivered_items s (answers_of r)) + n) (sym (known r).same) (queues_are_bounded r s l)

-- after one event more
bounded_next : (r : Run) (e : Move) (s : ℕ) → s < length (world_after (final_world r) e).subscriptions
    → length (accepted_at (world_after (final_world r) e) s) ≤ length (delivered_items s (answer_to (final_world r) e ∷ answers_of r)) + (world_after (final_world r) e).capacity
bounded_next r e s = at_next (λ p z. s < length z.subscriptions → length (accepted_at z s) ≤ length (delivered_items s p) + z.capacity) (λ q. bounded_now q s) r e

-- at a moment before the event
within_old : (r : Run) (e : Move) (s : ℕ) → s < length (final_world r).subscriptions → (before : List Answer)
    → let w = final_world r in let v = world_after w e in let t = (subscription_at w s).topic in
    stamp_lt (frontier_at w t) (released_frontier t before) ≡ false → IsWithin t w.capacity s (accepted_at w s) before → IsWithin t v.capacity s (accepted_at v s) before
within_old r e s l before le h =
    let w = final_world r in let v = world_after w e in let t = (subscription_at w s).topic in let p = is_up_to (released_frontier t before) in
    let grown = queues_grow r e s l in let more = grown.0 in
    let none : filter p more ≡ [] =
    filter_none p more (λ i k. ap not (le_lt (released_frontier t before) (frontier_at w t) i.stamp le (enters_above r e s l i k))) in
    let same : filter p (accepted_at v s) ≡ filter p (accepted_at w s) =
    ap (filter p) grown.1
    ∙ (filter-append p (accepted_at w s) more
    ∙ (ap (λ (z : List Item). filter p (accepted_at w s) ++ z) none ∙ append-nil (filter p (accepted_at w s)))) in
    subst (λ (n : ℕ). length (filter p (accepted_at v s)) ≤ length (delivered_items s before) + n) (sym (step_tells (answers_of r) w e (reached r)).same)
    (subst (λ (z : List Item). length z ≤ length (delivered_items s before) + w.capacity) (sym same) h)

within : (r : Run) → Within (answers_of r) (final_world r)
within =
    by_run Within (λ capacity log_limit clocks s l. absurd (omega (arith, l)))
    (λ r e h s l. step r e s l (h s) (cases_lt s (length (final_world r).subscriptions)))
  where
    step : (r : Run) (e : Move) (s : ℕ) → s < length (world_after (final_world r) e).subscriptions
        → (s < length (final_world r).subscriptions → Always (IsWithin (subscription_at (final_world r) s).topic (final_world r).capacity s (accepted_at (final_world r) s)) (answers_of r))
        → (s < length (final_world r).subscriptions) ⊎ (length (final_world r).subscriptions ≤ s)
        → let v = world_after (final_world r) e in Always (IsWithin (subscription_at v s).topic v.capacity s (accepted_at v s)) (answer_to (final_world r) e ∷ answers_of r)
    step r e s l h (inl o) =
        let w = final_world r in let v = world_after w e in let t = (subscription_at w s).topic in let past = answer_to w e ∷ answers_of r in
        let each = (step_tells (answers_of r) w e (reached r)).each s o in let bound = bounded_next r e s l in
        let most = filter_most (is_up_to (released_frontier t past)) (accepted_at v s) in
        subst (λ (u : Topic). Always (IsWithin u v.capacity s (accepted_at v s)) past) (sym each.topic) (
          omega (arith, bound, most),
          always_both (λ (before : List Answer). stamp_lt (frontier_at w t) (released_frontier t before) ≡ false) (IsWithin t w.capacity s (accepted_at w s)) (IsWithin t v.capacity s (accepted_at v s))
              (λ before le k. within_old r e s o before le k) (answers_of r) (rise r t) (h o),
        )
    step r e s l h (inr o) =
        let w = final_world r in let v = world_after w e in let past = answer_to w e ∷ answers_of r in let none = ((step_tells (answers_of r) w e (reached r)).fresh s o l).1 in
        subst (λ (z : List Item). Always (IsWithin (subscription_at v s).topic v.capacity s z) past) (sym none)
        (always_all (IsWithin (subscription_at v s).topic v.capacity s []) (λ before. omega arith) past)

-- ---- what is due

-- the same of what is due
due_within : (r : Run) (s : ℕ) → s < length (final_world r).subscriptions → let w = final_world r in let t = (subscription_at w s).topic in
    Always (λ (before : List Answer). length (due (commits_of (answers_of r)) (span_at w s) (released_frontier t before)) ≤ length (delivered_items s before) + r.capacity) (answers_of r)
due_within r s l =
    let w = final_world r in let t = (subscription_at w s).topic in let rows = commits_of (answers_of r) in
    always_both (λ (before : List Answer). stamp_lt (frontier_at w t) (released_frontier t before) ≡ false) (IsWithin t w.capacity s (accepted_at w s))
    (λ (before : List Answer). length (due rows (span_at w s) (released_frontier t before)) ≤ length (delivered_items s before) + r.capacity)
    (λ before le h.
    let f = released_frontier t before in
    let same : due rows (span_at w s) f ≡ filter (is_up_to f) (accepted_at w s) =
    due_cut rows (span_at w s) f (frontier_at w t) le ∙ ap (filter (is_up_to f)) (sym (accepted_is_due r s l)) in
    subst (λ (n : ℕ). length (due rows (span_at w s) f) ≤ length (delivered_items s before) + n) (known r).same
    (subst (λ (z : List Item). length z ≤ length (delivered_items s before) + w.capacity) (sym same) h))
    (answers_of r) (rise r t) (within r s l)

-- and by the account
pub bounded_said : (r : Run) (s : ℕ) → s < length (final_world r).subscriptions → let w = final_world r in let t = (subscription_at w s).topic in let past = said (answers_of r) in
    Always (λ (before : List Answer). length (due (commits_of past) (span_at w s) (released_frontier t before)) ≤ length (delivered_items s before) + r.capacity) past
bounded_said r s l =
    let w = final_world r in let t = (subscription_at w s).topic in let rows = commits_of (said (answers_of r)) in
    always_said (λ (before : List Answer). length (due rows (span_at w s) (released_frontier t before)) ≤ length (delivered_items s before) + r.capacity)
    (λ before h.
    subst (λ (z : List Item). length (due rows (span_at w s) (released_frontier t (said before))) ≤ length z + r.capacity) (sym (delivered_said s before))
    (subst (λ (z : Stamp). length (due rows (span_at w s) z) ≤ length (delivered_items s before) + r.capacity) (sym (released_frontier_said t before)) h))
    (answers_of r)
    (subst (λ (z : List CommitRow). Always (λ (before : List Answer). length (due z (span_at w s) (released_frontier t before)) ≤ length (delivered_items s before) + r.capacity) (answers_of r))
    (sym (commits_said (answers_of r))) (due_within r s l))
