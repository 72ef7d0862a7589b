-- A span that lagged ends at the last item of its queue, which was full as a row came that its topic's log has above the end.
use Rattle.delivery.proofs.Words.All.{◌≡◌, ℕ, ◌+◌, ◌<◌, ◌⊎◌, Bool, true, false, not, inl, inr, List, [], ◌∷◌, ◌++◌, length, Option, Some, None, refl, sym, ap, subst, ◌∙◌, arith, append-nil, true≢false, not-true, and_parts, and_from, cases_lt, option_map, Topic, Stamp, In, Rises, LogRow, Item, last_stamp, row_stamp, item_stamp, up_to, zero_stamp, stamp_lt, Cause, EntryEnd, IsQueueOf, Asked, Lag, In-append_left, In-append_right, lt_irrefl, lt_asym, lt_le, le_trans, same_stamps, zero_least, some_same, none_some, World, subscription_at, entry_at, accepted_at, end_at, log_at, frontier_at, entry_to, Move, Answer, world_after, answer_to, delivered_items, Run, answers_of, final_world, EndsBeforeRow, cause_of, Unsubscribed, released_frontier, QueueReport, queue_report, last_queued, LagsAsAnswered}
use Rattle.mcast_txn.proofs.Sorting.{Rises-back, Rises-front}
use Rattle.delivery.specs.Core.Reports.{cause_at}
use Rattle.delivery.proofs.Words.Steps.{topic_in, tickets, step_reached, reached, start_reached, queued, frontier_is, by_run}
use Rattle.delivery.proofs.Machine.SpanSteps.{step_tells}
use Rattle.delivery.proofs.Theorem.ClosedAsAnswered.{closed_as_told, closed_stays}
use Rattle.delivery.proofs.Theorem.EndsAreAnswered.{ends_are_told}
use Rattle.delivery.proofs.Theorem.LagsEndBeforeRow.{lags_end_before_row}
use Rattle.delivery.proofs.Theorem.QueuesGrow.{queues_grow}
use Rattle.delivery.proofs.Theorem.SpansAsAnswered.{known, end_there, ends_stay}
use Rattle.delivery.proofs.Core.AtNext.{at_next}
use Rattle.delivery.proofs.Core.Said.{said, is_said, released_frontier_said, delivered_said}
use Rattle.delivery.proofs.Core.SaidParts.{said_append, said_kept, unsaid_same}
use Rattle.delivery.proofs.Core.Started.{frontier_of}

-- ---- rising lists

-- items up to an end, one of which is at it if the span isn't empty: the last is
last_item : (from end : Stamp) (xs : List Item) → Rises item_stamp xs → ((i : Item) → In i xs → stamp_lt from i.stamp ≡ true)
    → ((i : Item) → In i xs → stamp_lt end i.stamp ≡ false) → (from ≡ end) ⊎ ((i : Item) × In i xs × (i.stamp ≡ end)) → end ≡ last_queued from xs
last_item from end [] rises above past (inl e) = sym e
last_item from end [] rises above past (inr h) = absurd h.1
last_item from end (x ∷ xs) rises above past (inl e) = absurd (true≢false (sym (above x (inl refl)) ∙ (ap (λ z. stamp_lt z x.stamp) e ∙ past x (inl refl))))
last_item from end (x ∷ xs) rises above past (inr h) =
    last_item x.stamp end xs rises.1 rises.0 (λ i k. past i (inr k)) (elim h.1 [ inl e ↦ inl (ap item_stamp e ∙ h.2) | inr k ↦ inr (h.0, k, h.2) ])

-- no more items come up to the end after one that is at it
none_after : (from end : Stamp) (xs more : List Item) → Rises item_stamp (xs ++ more) → ((i : Item) → In i more → stamp_lt from i.stamp ≡ true)
    → ((i : Item) → In i more → stamp_lt end i.stamp ≡ false) → end ≡ last_queued from xs → more ≡ []
none_after from end [] [] rises above past e = refl
none_after from end [] (m ∷ ms) rises above past e = absurd (true≢false (sym (above m (inl refl)) ∙ (ap (λ z. stamp_lt z m.stamp) (sym e) ∙ past m (inl refl))))
none_after from end (x ∷ xs) more rises above past e = none_after x.stamp end xs more rises.1 (λ i k. rises.0 i (In-append_right i xs more k)) past e

last_row : (base : Stamp) (xs : List LogRow) → (last_stamp base xs ≡ base) ⊎ ((r : LogRow) × In r xs × (r.stamp ≡ last_stamp base xs))
last_row base [] = inl refl
last_row base (x ∷ xs) = elim (last_row x.stamp xs) [ inl e ↦ inr (x, inl refl, sym e) | inr h ↦ inr (h.0, inr h.1, h.2) ]

last_below : (base : Stamp) (xs others : List LogRow) (row : LogRow) → Rises row_stamp (xs ++ row ∷ others) → stamp_lt base row.stamp ≡ true
    → stamp_lt (last_stamp base xs) row.stamp ≡ true
last_below base [] others row rises l = l
last_below base (x ∷ xs) others row rises l = last_below x.stamp xs others row rises.1 (rises.0 row (In-append_right row xs (row ∷ others) (inl refl)))

last_reaches : (base : Stamp) (xs : List LogRow) → ((r : LogRow) → In r xs → stamp_lt base r.stamp ≡ true) → Rises row_stamp xs → stamp_lt (last_stamp base xs) base ≡ false
last_reaches base [] above rises = lt_irrefl base
last_reaches base (x ∷ xs) above rises =
    let last = last_stamp x.stamp xs in lt_asym base last (lt_le base x.stamp last (above x (inl refl)) (last_reaches x.stamp xs rises.0 rises.1))

last_split : (base : Stamp) (xs others : List LogRow) (row : LogRow) → last_stamp base (xs ++ row ∷ others) ≡ last_stamp row.stamp others
last_split base [] others row = refl
last_split base (x ∷ xs) others row = last_split x.stamp xs others row

pub last_grows : (base : Stamp) (xs ys : List LogRow) → ((r : LogRow) → In r (xs ++ ys) → stamp_lt base r.stamp ≡ true) → Rises row_stamp (xs ++ ys)
    → stamp_lt (last_stamp base (xs ++ ys)) (last_stamp base xs) ≡ false
last_grows base [] ys above rises = last_reaches base ys above rises
last_grows base (x ∷ xs) ys above rises = last_grows x.stamp xs ys rises.0 rises.1

-- an end before a row that was added to a log: at or above the last stamp before, below the last one then, and a row's own or zero
record Between (before later : List LogRow) (end : Stamp) : Type 0 where
  reached : stamp_lt end (last_stamp zero_stamp before) ≡ false
  passed : stamp_lt end (last_stamp zero_stamp later) ≡ true
  at_row : (end ≡ zero_stamp) ⊎ ((r : LogRow) × In r later × (r.stamp ≡ end))

between : (before later : List LogRow) (end : Stamp) → EndsBeforeRow before later end → Rises row_stamp later
    → ((r : LogRow) → In r later → stamp_lt zero_stamp r.stamp ≡ true) → Between before later end
between before later end h rises above =
    let xs = before ++ h.rows in let ys = h.row ∷ h.others in let all : Rises row_stamp (xs ++ ys) = subst (λ z. Rises row_stamp z) h.log_is rises in
    let over : (r : LogRow) → In r (xs ++ ys) → stamp_lt zero_stamp r.stamp ≡ true = λ r k. above r (subst (λ z. In r z) (sym h.log_is) k) in
    let rest = Rises-back row_stamp xs ys all in
    let below : stamp_lt end h.row.stamp ≡ true =
    subst (λ z. stamp_lt z h.row.stamp ≡ true) (sym h.end_is) (last_below zero_stamp xs h.others h.row all (over h.row (In-append_right h.row xs ys (inl refl)))) in
    record {
      reached = subst (λ z. stamp_lt z (last_stamp zero_stamp before) ≡ false) (sym h.end_is)
          (last_grows zero_stamp before h.rows (λ r k. over r (In-append_left r xs ys k)) (Rises-front row_stamp xs ys all));
      passed = subst (λ z. stamp_lt end z ≡ true) (sym (ap (last_stamp zero_stamp) h.log_is ∙ last_split zero_stamp xs h.others h.row))
          (lt_le end h.row.stamp (last_stamp h.row.stamp h.others) below (last_reaches h.row.stamp h.others rest.0 rest.1));
      at_row = elim (last_row zero_stamp xs) [
        | inl e ↦ inl (h.end_is ∙ e)
        | inr k ↦ inr (k.0, subst (λ z. In k.0 z) (sym h.log_is) (In-append_left k.0 xs ys k.1), k.2 ∙ sym h.end_is)
      ];
    }

-- a queue whose span ends at a row, or begins there, has its last item there
queue_last : (base frontier : Stamp) (held : List LogRow) (from end : Stamp) (accepted : List Item) → IsQueueOf base frontier held from (Some end) accepted
    → stamp_lt end from ≡ false → (end ≡ zero_stamp) ⊎ ((r : LogRow) × In r held × (r.stamp ≡ end)) → end ≡ last_queued from accepted
queue_last base frontier held from end accepted q le at =
    last_item from end accepted q.rises (λ i k. (in_it i k).0) (λ i k. not-true (stamp_lt end i.stamp) (in_it i k).1) (by_test (stamp_lt from end) refl)
  where
    in_it : (i : Item) → In i accepted → (stamp_lt from i.stamp ≡ true) × (not (stamp_lt end i.stamp) ≡ true)
    in_it i k = and_parts (stamp_lt from i.stamp) (not (stamp_lt end i.stamp)) (q.within i k)

    by_test : (b : Bool) → stamp_lt from end ≡ b → (from ≡ end) ⊎ ((i : Item) × In i accepted × (i.stamp ≡ end))
    by_test false e = inl (same_stamps from end e le)
    by_test true e = elim at [
      | inl z ↦ absurd (true≢false (sym e ∙ (ap (λ s. stamp_lt from s) z ∙ zero_least from)))
      | inr h ↦ (let i = q.all_rows h.0 h.1
          (and_from (stamp_lt from h.0.stamp) (up_to (Some end) h.0.stamp) (ap (λ s. stamp_lt from s) h.2 ∙ e)
          (ap not (ap (λ s. stamp_lt end s) h.2 ∙ lt_irrefl end))) in inr (i.item, i.stands, i.is.stamp ∙ h.2))
    ]

-- ---- a span's cause

-- by its closed subscription's end, or where it lagged
abbrev pub cause_by : Option EntryEnd → Option Stamp → Option Cause
cause_by closed lagged = elim closed [ None ↦ option_map (λ end. Lag) lagged | Some end ↦ Some end.cause ]

-- and its end
abbrev pub end_by : Option EntryEnd → Option Stamp → Option Stamp
end_by closed lagged = elim closed [ None ↦ lagged | Some end ↦ Some end.to ]

asked_no_lag : Some Asked ≡ Some Lag → Prim.⊥
asked_no_lag e = let k : Asked ≡ Lag = some_same Asked Lag e in cc

-- an event that closes an open span doesn't make it lag
not_closed : (r : Run) (e : Move) (s : ℕ) (end : Stamp) → end_at (final_world r) s ≡ None → cause_at (world_after (final_world r) e) s ≡ Some Lag
    → answer_to (final_world r) e ≡ Unsubscribed s end → Prim.⊥
not_closed r e s end none cause a =
    let v = world_after (final_world r) e in
    asked_no_lag (sym (ap (λ z. cause_by z (entry_to (entry_at v s))) (closed_as_told r e s end a) ∙ ap (λ z. Some (cause_of z)) none) ∙ cause)

-- ---- a step

-- a lag is told of a subscription with the same topic, beginning and queue, and of a longer account
lag_stays : (capacity more s : ℕ) (o : Answer) (past : List Answer) (q p : QueueReport) (end : Stamp) → more ≡ capacity → p.span.topic ≡ q.span.topic → p.span.from ≡ q.span.from → p.queued ≡ q.queued
    → LagsAsAnswered capacity s past q end → LagsAsAnswered more s (o ∷ past) p end
lag_stays capacity more s o past q p end same topic from items h = record {
  later = o ∷ h.later;
  by = h.by;
  before = h.before;
  account_is = ap (λ z. o ∷ z) h.account_is;
  last = h.last ∙ (ap (λ z. last_queued z q.queued) (sym from) ∙ ap (λ z. last_queued p.span.from z) (sym items));
  reached = subst (λ (t : Topic). stamp_lt end (released_frontier t h.before) ≡ false) (sym topic) h.reached;
  passed = subst (λ (t : Topic). stamp_lt end (released_frontier t (h.by ∷ h.before)) ≡ true) (sym topic) h.passed;
  full = ap (λ (xs : List Item). length xs) items ∙ (h.full ∙ ap (λ n. length (delivered_items s h.before) + n) (sym same));
}

-- a subscription whose span has an end after an event, if it had none or one before, is an old one
pub old_one : (r : Run) (e : Move) (s : ℕ) (end : Stamp) → end_at (world_after (final_world r) e) s ≡ Some end → s < length (final_world r).subscriptions
old_one r e s end some =
    let w = final_world r in let h = reached r in elim (cases_lt s (length w.subscriptions)) [
      | inl l ↦ l
      | inr l ↦ none_some end (sym ((step_tells (answers_of r) w e h).fresh s l (end_there (answer_to w e ∷ answers_of r) (world_after w e) s end (step_reached (answers_of r) w e h) some)).0 ∙ some)
    ]

-- its queue after the event
queue_then : (r : Run) (e : Move) (s : ℕ) (end : Stamp) → end_at (world_after (final_world r) e) s ≡ Some end
    → let v = world_after (final_world r) e in let x = topic_in v.topics (subscription_at (final_world r) s).topic in
    IsQueueOf x.base x.frontier x.held (subscription_at (final_world r) s).from (Some end) (accepted_at v s)
queue_then r e s end some =
    let w = final_world r in let v = world_after w e in let past = answer_to w e ∷ answers_of r in let h = step_reached (answers_of r) w e (reached r) in
    let each = (step_tells (answers_of r) w e (reached r)).each s (old_one r e s end some) in let q = (queued (tickets past) v s h.inv (end_there past v s end h some)).queue in
    subst (λ (t : Topic). IsQueueOf (topic_in v.topics t).base (topic_in v.topics t).frontier (topic_in v.topics t).held (subscription_at w s).from (Some end) (accepted_at v s)) each.topic
    (subst (λ (from : Stamp). let x = topic_in v.topics (subscription_at v s).topic in IsQueueOf x.base x.frontier x.held from (Some end) (accepted_at v s)) each.from
    (subst (λ (to : Option Stamp). let x = topic_in v.topics (subscription_at v s).topic in IsQueueOf x.base x.frontier x.held (subscription_at v s).from to (accepted_at v s)) some q))

lag_comes : (r : Run) (e : Move) (s : ℕ) (end : Stamp) → end_at (final_world r) s ≡ None → cause_at (world_after (final_world r) e) s ≡ Some Lag
    → end_at (world_after (final_world r) e) s ≡ Some end → length (accepted_at (world_after (final_world r) e) s) ≡ length (delivered_items s (answers_of r)) + r.capacity
    → LagsAsAnswered (world_after (final_world r) e).capacity s (answer_to (final_world r) e ∷ answers_of r) (queue_report (world_after (final_world r) e) s) end
lag_comes r e s end none cause some full =
    let w = final_world r in let past = answers_of r in let v = world_after w e in let later = answer_to w e ∷ past in
    let t = (subscription_at w s).topic in let h = step_reached past w e (reached r) in
    let tells = step_tells past w e (reached r) in let each = tells.each s (old_one r e s end some) in let tied = h.inv.tied t in
    let b = between (log_at w t) (log_at v t) end (lags_end_before_row r e s end none some (not_closed r e s end none cause)) tied.sound.rises
    (λ row k. subst (λ z. stamp_lt z row.stamp ≡ true) tied.undrained (tied.sound.above_base row k)) in
    let q = (queued (tickets past) w s (reached r).inv (old_one r e s end some)).queue in
    let from : stamp_lt (frontier_at w t) (subscription_at w s).from ≡ false =
    subst (λ z. stamp_lt z (subscription_at w s).from ≡ false) (frontier_is (tickets past) w t (reached r).inv) q.from_past in
    let le : stamp_lt end (subscription_at w s).from ≡ false = le_trans (subscription_at w s).from (frontier_at w t) end from b.reached in let x = topic_in v.topics t in
    record {
      later = [];
      by = answer_to w e;
      before = past;
      account_is = refl;
      last = queue_last x.base x.frontier x.held (subscription_at w s).from end (accepted_at v s) (queue_then r e s end some) le b.at_row
          ∙ ap (λ z. last_queued z (accepted_at v s)) (sym each.from);
      reached = subst (λ (u : Topic). stamp_lt end (released_frontier u past) ≡ false) (sym each.topic)
          (subst (λ z. stamp_lt end z ≡ false) (frontier_of r t) b.reached);
      passed = subst (λ (u : Topic). stamp_lt end (released_frontier u later) ≡ true) (sym each.topic)
          (subst (λ z. stamp_lt end z ≡ true) (at_next (λ p z. frontier_at z t ≡ released_frontier t p) (λ q. frontier_of q t) r e) b.passed);
      full = full ∙ ap (λ n. length (delivered_items s past) + n) (sym (tells.same ∙ (known r).same));
    }

-- each span that has lagged has
abbrev LagsAre : List Answer → World → Type 0
LagsAre past w = (s : ℕ) (end : Stamp) → cause_at w s ≡ Some Lag → end_at w s ≡ Some end → LagsAsAnswered w.capacity s past (queue_report w s) end

lag_case : (r : Run) (e : Move) → LagsAre (answers_of r) (final_world r) → (s : ℕ) (end : Stamp) (o : Option Stamp) → end_at (final_world r) s ≡ o
    → cause_at (world_after (final_world r) e) s ≡ Some Lag → end_at (world_after (final_world r) e) s ≡ Some end
    → LagsAsAnswered (world_after (final_world r) e).capacity s (answer_to (final_world r) e ∷ answers_of r) (queue_report (world_after (final_world r) e) s) end
lag_case r e h s end None none cause some = elim (ends_are_told r e s end none some) [
  | inl a ↦ absurd (not_closed r e s end none cause a)
  | inr k ↦ lag_comes r e s end none cause some k.1
]
lag_case r e h s end (Some old) was cause some =
    let w = final_world r in let past = answers_of r in let v = world_after w e in let same : old ≡ end = some_same old end (sym (ends_stay r e s old was) ∙ some) in
    let before = h s end ((elim (subscription_at w s).closed as (λ (o : Option EntryEnd). (subscription_at (final_world r) s).closed ≡ o → cause_at (final_world r) s ≡ Some Lag) [
      | None ↦ λ c. (let lagged = entry_to (entry_at (final_world r) s) in ap (λ z. cause_by z lagged) c ∙ ap (option_map (λ (z : Stamp). Lag)) (sym (ap (λ z. end_by z lagged) c) ∙ was))
      | Some left ↦ λ c. (let v = world_after (final_world r) e in ap (λ z. cause_by z (entry_to (entry_at (final_world r) s))) c ∙ (sym (ap (λ z. cause_by z (entry_to (entry_at v s))) (closed_stays r e s left c)) ∙ cause))
    ]) refl) (was ∙ ap Some same) in
    let l = old_one r e s end some in let tells = step_tells past w e (reached r) in let each = tells.each s l in let grown = queues_grow r e s l in let more = grown.0 in
    let q = queue_then r e s end some in
    let span : (i : Item) → In i more → (stamp_lt (subscription_at w s).from i.stamp ≡ true) × (not (stamp_lt end i.stamp) ≡ true) =
    λ i k. and_parts (stamp_lt (subscription_at w s).from i.stamp) (not (stamp_lt end i.stamp))
    (q.within i (subst (λ z. In i z) (sym grown.1) (In-append_right i (accepted_at w s) more k))) in
    let none : more ≡ [] =
    none_after (subscription_at w s).from end (accepted_at w s) more (subst (λ z. Rises item_stamp z) grown.1 q.rises) (λ i k. (span i k).0)
    (λ i k. not-true (stamp_lt end i.stamp) (span i k).1) before.last in
    lag_stays w.capacity v.capacity s (answer_to w e) past (queue_report w s) (queue_report v s) end tells.same each.topic each.from
    (grown.1 ∙ (ap (λ z. accepted_at w s ++ z) none ∙ append-nil (accepted_at w s))) before

lags_are : (r : Run) → LagsAre (answers_of r) (final_world r)
lags_are =
    by_run LagsAre
    (λ capacity log_limit clocks s end cause some.
    let l = end_there [] (Rattle.delivery.specs.Machine.World.start capacity log_limit clocks) s end (start_reached capacity log_limit clocks) some in absurd (omega (arith, l)))
    (λ r e h s end cause some. lag_case r e h s end (end_at (final_world r) s) refl cause some)

-- ---- by an account

lag_said : (capacity s : ℕ) (past : List Answer) (q : QueueReport) (end : Stamp) → LagsAsAnswered capacity s past q end → LagsAsAnswered capacity s (said past) q end
lag_said capacity s past q end h = by_case (is_said h.by) refl
  where
    reached : stamp_lt end (released_frontier q.span.topic (said h.before)) ≡ false
    reached = subst (λ z. stamp_lt end z ≡ false) (sym (released_frontier_said q.span.topic h.before)) h.reached

    passed : stamp_lt end (released_frontier q.span.topic (said (h.by ∷ h.before))) ≡ true
    passed = subst (λ z. stamp_lt end z ≡ true) (sym (released_frontier_said q.span.topic (h.by ∷ h.before))) h.passed

    by_case : (b : Bool) → is_said h.by ≡ b → LagsAsAnswered capacity s (said past) q end
    by_case true e = record {
      later = said h.later;
      by = h.by;
      before = said h.before;
      account_is = ap said h.account_is ∙ (said_append h.later (h.by ∷ h.before) ∙ ap (λ z. said h.later ++ z) (said_kept h.by h.before e));
      last = h.last;
      reached = reached;
      passed = subst (λ z. stamp_lt end (released_frontier q.span.topic z) ≡ true) (said_kept h.by h.before e) passed;
      full = h.full ∙ ap (λ (xs : List Item). length xs + capacity) (sym (delivered_said s h.before));
    }
    by_case false e = absurd (true≢false (sym (subst (λ z. stamp_lt end (released_frontier q.span.topic z) ≡ true) (unsaid_same h.by h.before e) passed) ∙ reached))

-- after each run, a span that has lagged ends so by the account
pub lag_as_told : (r : Run) (s : ℕ) (end : Stamp) → cause_at (final_world r) s ≡ Some Lag → end_at (final_world r) s ≡ Some end
    → LagsAsAnswered r.capacity s (said (answers_of r)) (queue_report (final_world r) s) end
lag_as_told r s end cause some =
    lag_said r.capacity s (answers_of r) (queue_report (final_world r) s) end
    (subst (λ n. LagsAsAnswered n s (answers_of r) (queue_report (final_world r) s) end) (known r).same (lags_are r s end cause some))
