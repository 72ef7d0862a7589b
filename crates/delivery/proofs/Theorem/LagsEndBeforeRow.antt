-- A span that lags ends with the frontier before the row for which its queue had no room.
use Rattle.delivery.proofs.Words.All.{◌≡◌, ℕ, ◌==◌, Bool, true, false, cond, ◌⊎◌, inl, inr, List, [], ◌∷◌, ◌++◌, map, Option, Some, None, refl, sym, ap, subst, ◌∙◌, append_assoc, append-nil, zero_stamp, Decision, TxnId, Stamp, LogRow, Item, last_stamp, TopicState, Pending, Entry, EntryEnd, find_entry, entry_after, after_release_of, after_release, after_turn, row_of, item_of, some_same, none_some, delivered_number, release_keeps, turn_keeps, World, topic_at, subscription_at, entry_at, with_topic, entry_to, end_at, log_at, Move, world_after, move_effect, queue_has_room, verdict_in, final_world, EndsBeforeRow, Releases, Turns}
use Rattle.mcast_group.proofs.Keeping.{last_push}
use Rattle.delivery.specs.Theorem.Spans
use Rattle.delivery.proofs.Words.Steps.{topic_in, at_topic, by_refusal, end_by}
use Rattle.delivery.proofs.Theorem.EndsAreAnswered.{ends_are_told}
use Rattle.delivery.proofs.Theorem.TopicsAreSound.{topics_are_sound}

-- ---- one topic

-- from x to y, rows were added, the frontier is the stamp of the last row, and each new end is that before one of the new rows
record Lags (x y : TopicState) : Type 0 where
  rows : List LogRow
  log : y.held ≡ x.held ++ rows
  frontier : y.frontier ≡ last_stamp zero_stamp y.held
  ends : (n : ℕ) (end : Stamp) → entry_to (find_entry n x.subscriptions) ≡ None → entry_to (find_entry n y.subscriptions) ≡ Some end → EndsBeforeRow x.held y.held end

Lags-same : (x : TopicState) → x.frontier ≡ last_stamp zero_stamp x.held → Lags x x
Lags-same x f = record { rows = []; log = sym (append-nil x.held); frontier = f; ends = λ n end a b. none_some end (sym a ∙ b) }

-- the end of an entry that is given an item: its old one, or this frontier
given_to : (b : Bool) (frontier end : Stamp) (number : ℕ) (from : Stamp) (accepted items : List Item) → let later : Entry = cond b (record { number = number; from = from; to = None; accepted = items }) (record { number = number; from = from; to = Some frontier; accepted = accepted }) in later.to ≡ Some end → frontier ≡ end
given_to true frontier end number from accepted items e = none_some end e
given_to false frontier end number from accepted items e = some_same frontier end e

delivered_to : (accepts : Entry → Bool) (frontier end : Stamp) (item : Item) (number : ℕ) (from : Stamp) (to : Option Stamp) (accepted : List Item) → (entry_after accepts frontier item (record { number = number; from = from; to = to; accepted = accepted })).to ≡ Some end → (to ≡ Some end) ⊎ (frontier ≡ end)
delivered_to accepts frontier end item number from None accepted e =
    inr (given_to (accepts (record { number = number; from = from; to = None; accepted = accepted })) frontier end number from accepted (accepted ++ item ∷ []) e)
delivered_to accepts frontier end item number from (Some old) accepted e = inl e

-- of two entries of one number: an end of the later is the earlier's, or this frontier
found_case : (frontier end : Stamp) (b : Bool) (e f : Entry) (o p : Option Entry) → (f.to ≡ Some end → (e.to ≡ Some end) ⊎ (frontier ≡ end)) → (entry_to p ≡ Some end → (entry_to o ≡ Some end) ⊎ (frontier ≡ end)) → entry_to (cond b (Some f) p) ≡ Some end → (entry_to (cond b (Some e) o) ≡ Some end) ⊎ (frontier ≡ end)
found_case frontier end true e f o p h k d = h d
found_case frontier end false e f o p h k d = k d

found_to : (accepts : Entry → Bool) (frontier end : Stamp) (item : Item) (n : ℕ) (es : List Entry) → entry_to (find_entry n (map (entry_after accepts frontier item) es)) ≡ Some end → (entry_to (find_entry n es) ≡ Some end) ⊎ (frontier ≡ end)
found_to accepts frontier end item n [] d = none_some end d
found_to accepts frontier end item n (e ∷ es) d =
    let f = entry_after accepts frontier item e in let o = find_entry n es in let p = find_entry n (map (entry_after accepts frontier item) es) in
    found_case frontier end (e.number == n) e f o p (delivered_to accepts frontier end item e.number e.from e.to e.accepted)
    (found_to accepts frontier end item n es)
    (subst (λ (k : ℕ). entry_to (cond (k == n) (Some f) p) ≡ Some end) (delivered_number accepts frontier item e) d)

-- one more row
longer : (xs ys : List LogRow) (end : Stamp) (r : LogRow) → EndsBeforeRow xs ys end → EndsBeforeRow xs (ys ++ r ∷ []) end
longer xs ys end r h = record {
  rows = h.rows;
  row = h.row;
  others = h.others ++ r ∷ [];
  log_is = ap (λ (z : List LogRow). z ++ r ∷ []) h.log_is ∙ append_assoc (xs ++ h.rows) (h.row ∷ h.others) (r ∷ []);
  end_is = h.end_is;
}

Lags-released : (accepts : Entry → Bool) (x y : TopicState) (p : Pending) → Lags x y → Lags x (after_release_of accepts p y)
Lags-released accepts x y p h = record {
  rows = h.rows ++ row_of p ∷ [];
  log = ap (λ (z : List LogRow). z ++ row_of p ∷ []) h.log ∙ append_assoc x.held h.rows (row_of p ∷ []);
  frontier = last_push zero_stamp y.held (row_of p);
  ends = λ n end a b. elim (found_to accepts y.frontier end (item_of p) n y.subscriptions b) [
    | inl k ↦ longer x.held y.held end (row_of p) (h.ends n end a k)
    | inr d ↦ record {
      rows = h.rows;
      row = row_of p;
      others = [];
      log_is = ap (λ (z : List LogRow). z ++ row_of p ∷ []) h.log;
      end_is = sym d ∙ (h.frontier ∙ ap (last_stamp zero_stamp) h.log);
    }
  ];
}

release_lags : (accepts : Entry → Bool) (x : TopicState) → x.frontier ≡ last_stamp zero_stamp x.held → Lags x (after_release accepts x)
release_lags accepts x f = release_keeps (Lags x) accepts x (Lags-same x f) (λ p e. Lags-released accepts x x p (Lags-same x f))

turned_lags : (accepts : Entry → Bool) (find : TxnId → Option Decision) (x : TopicState) → x.frontier ≡ last_stamp zero_stamp x.held → Lags x (after_turn accepts find x)
turned_lags accepts find x f =
    turn_keeps (Lags x) accepts find
    (λ y id v e n h. record { rows = h.rows; log = h.log; frontier = h.frontier; ends = h.ends })
    (λ y p e h. Lags-released accepts x y p h)
    x (Lags-same x f)

-- ---- the core

open_ends : (end : Stamp) (closed : Option EntryEnd) (a b : Option Entry) → end_by closed a ≡ None → end_by closed b ≡ Some end → (entry_to a ≡ None) × (entry_to b ≡ Some end)
open_ends end None a b n d = (n, d)
open_ends end (Some left) a b n d = none_some left.to (sym n)

lag_at : (w : World) (s : ℕ) (end : Stamp) (y : TopicState) → let t = (subscription_at w s).topic in Lags (topic_in w.topics t) y → end_at w s ≡ None → end_at (with_topic w t y) s ≡ Some end → EndsBeforeRow (log_at w t) (log_at (with_topic w t y) t) end
lag_at w s end y h n d =
    let t = (subscription_at w s).topic in
    let k = open_ends end (subscription_at w s).closed (entry_at w s) (entry_at (with_topic w t y) s) n d in
    at_topic (λ u z. entry_to (find_entry s z.subscriptions) ≡ Some end → EndsBeforeRow (log_at w t) z.held end) w.topics t t y
    (λ i. h.ends s end k.0 i) (λ i. none_some end (sym k.0 ∙ i)) k.1

-- an event at the subscription's topic that isn't refused
step_lags : (w : World) (e : Move) (s : ℕ) (end : Stamp) (y : TopicState) → let t = (subscription_at w s).topic in move_effect w e ≡ with_topic w t y → Lags (topic_in w.topics t) y → end_at w s ≡ None → end_at (world_after w e) s ≡ Some end → EndsBeforeRow (log_at w t) (log_at (world_after w e) t) end
step_lags w e s end y f h n =
    let t = (subscription_at w s).topic in
    by_refusal (λ v o. end_at v s ≡ Some end → EndsBeforeRow (log_at w t) (log_at v t) end) w e
    (λ why d. none_some end (sym n ∙ d))
    (λ k. subst (λ v. end_at v s ≡ Some end → EndsBeforeRow (log_at w t) (log_at v t) end) (sym f) (lag_at w s end y h n))

-- a span that lags ends with the frontier before one of its topic's new rows
pub lags_end_before_row : Spans.LagsEndBeforeRow
lags_end_before_row r e s end none some lag =
    let w = final_world r in let t = (subscription_at w s).topic in let x = topic_at w t in let f = (topics_are_sound r t).2 in
    elim (ends_are_told r e s end none some) [
      | inl d ↦ absurd (lag d)
      | inr (inl d, full) ↦ subst (λ z. end_at (world_after w z) s ≡ Some end → EndsBeforeRow (log_at w t) (log_at (world_after w z) t) end) (sym d)
          (step_lags w (Releases t) s end (after_release (queue_has_room w) x) refl (release_lags (queue_has_room w) x f) none) some
      | inr (inr d, full) ↦ subst (λ z. end_at (world_after w z) s ≡ Some end → EndsBeforeRow (log_at w t) (log_at (world_after w z) t) end) (sym d)
          (step_lags w (Turns t) s end (after_turn (queue_has_room w) (verdict_in w) x) refl (turned_lags (queue_has_room w) (verdict_in w) x f) none) some
    ]
