-- What a topic's log gets, the queue of each subscription gets whose span has no end.
use Rattle.std.proofs.Common.{◌≡◌, ℕ, ◌+◌, ◌<◌, Bool, true, false, cond, List, [], ◌∷◌, ◌++◌, map, length, set, Option, Some, None, refl, sym, ap, subst, ◌∙◌, length-append, arith}
use Rattle.delivery.proofs.Words.All.{Decision, Topic, TxnId, Stamp, LogRow, Item, TopicState, Pending, Entry, EntryEnd, new_topic, find_entry, entry_after, end_of, after_release_of, after_release, after_turn, after_unsubscribe, row_of, item_of, at_set, at_set_within, none_some, delivered_number, release_keeps, turn_keeps, World, Subscription, no_subscription, topic_at, subscription_at, entry_at, with_topic, entry_to, entry_items, accepted_at, log_at, Move, Answer, world_after, move_effect, verdict_in, queue_has_room, take_effect, close_effect_of, Run, answers_of, final_world, AddsTopic, Subscribes, Unsubscribes, Leaves, Proposes, Cancels, Learns, Releases, Turns, Takes}
use Rattle.delivery.proofs.Words.Steps.{topic_in, at_topic, map_same, map_map, at_push_two, at_added, new_subscription, new_entry, topic_with, taken_more, Reached, by_refusal, reached, items_by, end_by, by_found, Found, InEachCase, always}
use Rattle.delivery.proofs.Machine.SpanSteps.{end_in, items_in}
use Rattle.delivery.proofs.Theorem.HandedIsPrefix.{find_kept, find_inserted, owned_entry, unclosed_entry}
use Rattle.delivery.proofs.Theorem.StepLaws.{find_stepped}

-- ---- one topic

-- from x to y, the entries are stepped: one that has no end then had none, and has one item more for each row more
record Fills (x y : TopicState) : Type 0 where
  step : Entry → Entry
  are : y.subscriptions ≡ map step x.subscriptions
  number : (e : Entry) → (step e).number ≡ e.number
  unended : (e : Entry) → (step e).to ≡ None → e.to ≡ None
  fills : (e : Entry) → (step e).to ≡ None → length (step e).accepted + length x.held ≡ length e.accepted + length y.held

Fills-same : (x : TopicState) → Fills x x
Fills-same x = record { step = λ e. e; are = map_same x.subscriptions; number = λ e. refl; unended = λ e n. n; fills = λ e n. refl }

Fills-then : (x y z : TopicState) → Fills x y → Fills y z → Fills x z
Fills-then x y z a b = record {
  step = λ e. b.step (a.step e);
  are = b.are ∙ (ap (map b.step) a.are ∙ map_map a.step b.step x.subscriptions);
  number = λ e. b.number (a.step e) ∙ a.number e;
  unended = λ e n. a.unended e (b.unended (a.step e) n);
  fills = λ e n. (let f = a.fills e (b.unended (a.step e) n) in let g = b.fills (a.step e) n in omega (arith, f, g));
}

-- an entry that was open and is given an item
given_open : (b : Bool) (frontier : Stamp) (item : Item) (number : ℕ) (from : Stamp) (accepted : List Item) (rows : ℕ)
    → let later : Entry = cond b (record { number = number; from = from; to = None; accepted = accepted ++ item ∷ [] }) (record { number = number; from = from; to = Some frontier; accepted = accepted }) in
    later.to ≡ None → length later.accepted + rows ≡ length accepted + (rows + 1)
given_open true frontier item number from accepted rows n = let l = length-append accepted (item ∷ []) in omega (arith, l)
given_open false frontier item number from accepted rows n = none_some frontier (sym n)

given_fills : (accepts : Entry → Bool) (frontier : Stamp) (item : Item) (number : ℕ) (from : Stamp) (to : Option Stamp) (accepted : List Item) (rows : ℕ)
    → let later = entry_after accepts frontier item (record { number = number; from = from; to = to; accepted = accepted }) in
    later.to ≡ None → (to ≡ None) × (length later.accepted + rows ≡ length accepted + (rows + 1))
given_fills accepts frontier item number from None accepted rows n =
    (refl, given_open (accepts (record { number = number; from = from; to = None; accepted = accepted })) frontier item number from accepted rows n)
given_fills accepts frontier item number from (Some end) accepted rows n = none_some end (sym n)

Fills-released : (accepts : Entry → Bool) (x : TopicState) (p : Pending) → Fills x (after_release_of accepts p x)
Fills-released accepts x p = record {
  step = entry_after accepts x.frontier (item_of p);
  are = refl;
  number = delivered_number accepts x.frontier (item_of p);
  unended = λ e n. (given_fills accepts x.frontier (item_of p) e.number e.from e.to e.accepted (length x.held) n).0;
  fills = λ e n. (let g = (given_fills accepts x.frontier (item_of p) e.number e.from e.to e.accepted (length x.held) n).1 in
      let l = length-append x.held (row_of p ∷ []) in omega (arith, g, l));
}

release_fills : (accepts : Entry → Bool) (x : TopicState) → Fills x (after_release accepts x)
release_fills accepts x = release_keeps (Fills x) accepts x (Fills-same x) (λ p e. Fills-released accepts x p)

turn_fills : (accepts : Entry → Bool) (find : TxnId → Option Decision) (x : TopicState) → Fills x (after_turn accepts find x)
turn_fills accepts find x =
    turn_keeps (Fills x) accepts find
    (λ y id v e n h. record { step = h.step; are = h.are; number = h.number; unended = h.unended; fills = h.fills })
    (λ y p e h. Fills-then x y (after_release_of accepts p y) h (Fills-released accepts y p)) x (Fills-same x)

-- ---- the core

-- subscription s of w, where it is z among these topics
abbrev pub Enters : World → ℕ → List TopicState → Subscription → Type 0
Enters w s topics z =
    let t = (subscription_at w s).topic in
    end_in topics s z ≡ None → length (items_in topics s z) + length (log_at w t) ≡ length (accepted_at w s) + length (topic_in topics t).held

-- each subscription of w that has no end in v has an item more for each row more of its topic's log
abbrev pub AllEnter : World → World → Type 0
AllEnter w v = (s : ℕ) → s < length w.subscriptions → Enters w s v.topics (subscription_at v s)

-- topics and subscriptions stay
Enter-same : (w : World) → AllEnter w w
Enter-same w s l n = refl

-- what is found at a topic, beside what was found there
abbrev FoundEnters : World → ℕ → Topic → TopicState → Type 0
FoundEnters w s u z =
    (e : Entry) → find_entry s (topic_in w.topics u).subscriptions ≡ Some e → entry_to (find_entry s z.subscriptions) ≡ None
    → length (entry_items (find_entry s z.subscriptions)) + length (topic_in w.topics u).held ≡ length (entry_items (find_entry s (topic_in w.topics u).subscriptions)) + length z.held

-- where the same is found and the log stays
found_stays : (w : World) (s : ℕ) (u : Topic) (z : TopicState) → find_entry s z.subscriptions ≡ find_entry s (topic_in w.topics u).subscriptions
    → z.held ≡ (topic_in w.topics u).held → FoundEnters w s u z
found_stays w s u z same held e found n =
    ap (λ (o : Option Entry). length (entry_items o) + length (topic_in w.topics u).held) same
    ∙ ap (λ (rows : List LogRow). length (entry_items (find_entry s (topic_in w.topics u).subscriptions)) + length rows) (sym held)

-- where entries are stepped
found_stepped : (w : World) (s : ℕ) (u : Topic) (y : TopicState) → Fills (topic_in w.topics u) y → FoundEnters w s u y
found_stepped w s u y h e found n =
    let x = topic_in w.topics u in
    let later : find_entry s y.subscriptions ≡ Some (h.step e) = ap (find_entry s) h.are ∙ find_stepped s h.step h.number x.subscriptions e found in
    let fills = h.fills e (ap entry_to (sym later) ∙ n) in
    ap (λ (o : Option Entry). length (entry_items o) + length x.held) later
    ∙ (fills ∙ ap (λ (o : Option Entry). length (entry_items o) + length y.held) (sym found))

-- so for the subscription, where its own topic's step is so
enters_by : (past : List Answer) (w : World) (s : ℕ) (topics : List TopicState) → Reached past w → s < length w.subscriptions
    → FoundEnters w s (subscription_at w s).topic (topic_in topics (subscription_at w s).topic) → Enters w s topics (subscription_at w s)
enters_by past w s topics r l h = by_closed (subscription_at w s).closed refl
  where
    t : Topic
    t = (subscription_at w s).topic

    by_closed : (closed : Option EntryEnd) → (subscription_at w s).closed ≡ closed → Enters w s topics (subscription_at w s)
    by_closed (Some end) is n = none_some end.to (sym n ∙ ap (λ (o : Option EntryEnd). end_by o (find_entry s (topic_in topics t).subscriptions)) is)
    by_closed None is n =
        let e = unclosed_entry past w s r l is in
        let unended : entry_to (find_entry s (topic_in topics t).subscriptions) ≡ None =
        ap (λ (o : Option EntryEnd). end_by o (find_entry s (topic_in topics t).subscriptions)) (sym is) ∙ n in
        ap (λ (o : Option EntryEnd). length (items_by o (find_entry s (topic_in topics t).subscriptions)) + length (log_at w t)) is
        ∙ (h e.it e.is unended
        ∙ ap (λ (o : Option EntryEnd). length (items_by o (entry_at w s)) + length (topic_in topics t).held) (sym is))

-- a topic's step
Enter-topic : (past : List Answer) (w : World) (t : Topic) (y : TopicState) → Reached past w → ((s : ℕ) → FoundEnters w s t y) → AllEnter w (with_topic w t y)
Enter-topic past w t y r h s l =
    enters_by past w s (set w.topics t.0 y) r l
    (at_topic (FoundEnters w s) w.topics t (subscription_at w s).topic y (h s)
    (found_stays w s (subscription_at w s).topic (topic_in w.topics (subscription_at w s).topic) refl refl))

-- one that keeps entries and log
Enter-beside : (past : List Answer) (w : World) (t : Topic) (y : TopicState) → Reached past w → y.subscriptions ≡ (topic_in w.topics t).subscriptions
    → y.held ≡ (topic_in w.topics t).held → AllEnter w (with_topic w t y)
Enter-beside past w t y r same held = Enter-topic past w t y r (λ s. found_stays w s t y (ap (find_entry s) same) held)

-- ---- each event

begun_enter : (past : List Answer) (w : World) (c : ℕ) (t : Topic) → Reached past w → AllEnter w (move_effect w (Subscribes c t))
begun_enter past w c t r s l =
    let v = move_effect w (Subscribes c t) in
    at_push_two (Enters w s v.topics) w.subscriptions s (new_subscription w c t) no_subscription
    (λ k. absurd (omega arith))
    (λ ne. enters_by past w s v.topics r l
    (at_topic (FoundEnters w s) w.topics t (subscription_at w s).topic (topic_with w t)
    (found_stays w s t (topic_with w t) (find_inserted s (topic_in w.topics t).subscriptions (new_entry w t) (λ e. ne (sym e))) refl)
    (found_stays w s (subscription_at w s).topic (topic_in w.topics (subscription_at w s).topic) refl refl)))

closed_enter : (past : List Answer) (w : World) (q : ℕ) → Reached past w → (k : Found (entry_at w q)) → AllEnter w (close_effect_of w q (Some k.it))
closed_enter past w q r k s l =
    let entry = k.it in let t = (subscription_at w q).topic in let x = topic_in w.topics t in
    let v = close_effect_of w q (Some entry) in let left = end_of x.frontier entry in
    let own = owned_entry past w q r k in
    at_set_within (Enters w s v.topics) w.subscriptions q s (record (subscription_at w q) { closed = Some left }) no_subscription own.there
    (λ k n. none_some left.to (sym n))
    (λ ne. enters_by past w s v.topics r l
    (at_topic (FoundEnters w s) w.topics t (subscription_at w s).topic (after_unsubscribe q x)
    (found_stays w s t (after_unsubscribe q x) (find_kept q s x.subscriptions ne) refl)
    (found_stays w s (subscription_at w s).topic (topic_in w.topics (subscription_at w s).topic) refl refl)))

taken_enter : (w : World) (q : ℕ) (item : Item) → AllEnter w (take_effect w q (Some item))
taken_enter w q item s l =
    at_set (Enters w s w.topics) w.subscriptions q s (taken_more w q) no_subscription
    (λ k. subst (λ n. Enters w n w.topics (taken_more w q)) (sym k) (λ n. refl)) (λ n. refl)

added_enter : (past : List Answer) (w : World) (clock : ℕ) → Reached past w → AllEnter w (move_effect w (AddsTopic clock))
added_enter past w clock r s l =
    let v = move_effect w (AddsTopic clock) in let t = (subscription_at w s).topic in
    enters_by past w s v.topics r l
    (at_added (λ u z. (z.held ≡ (topic_in w.topics t).held) × (find_entry s z.subscriptions ≡ find_entry s (topic_in w.topics t).subscriptions) → FoundEnters w s t z) w.topics w.log_limit clock t
    (λ k h. found_stays w s t (new_topic t w.log_limit clock) h.1 h.0) (λ h. found_stays w s t (topic_in w.topics t) h.1 h.0)
    (at_added (λ u z. (z.held ≡ (topic_in w.topics u).held) × (find_entry s z.subscriptions ≡ find_entry s (topic_in w.topics u).subscriptions)) w.topics w.log_limit clock t (λ k. k) (refl, refl)))

effect_enter : (past : List Answer) (w : World) (e : Move) → Reached past w → InEachCase (λ v o. AllEnter w v) w e
effect_enter past w (AddsTopic clock) r = always (added_enter past w clock r)
effect_enter past w (Subscribes c t) r = always (begun_enter past w c t r)
effect_enter past w (Unsubscribes c s) r = (Enter-same w, λ k. closed_enter past w s r k)
effect_enter past w (Leaves c) r = (Enter-same w, λ s. (Enter-same w, λ k. closed_enter past w s.it r k))
effect_enter past w (Proposes c t memory) r = (Enter-beside past w t _ r refl refl, λ k. Enter-same w)
effect_enter past w (Cancels c t) r = (Enter-same w, λ k. Enter-beside past w t _ r refl refl)
effect_enter past w (Learns t id) r = (Enter-same w, λ k. Enter-beside past w t _ r refl refl)
effect_enter past w (Releases t) r = always (Enter-topic past w t _ r (λ s. found_stepped w s t _ (release_fills (queue_has_room w) (topic_at w t))))
effect_enter past w (Turns t) r = always (Enter-topic past w t _ r (λ s. found_stepped w s t _ (turn_fills (queue_has_room w) (verdict_in w) (topic_at w t))))
effect_enter past w (Takes s) r = (Enter-same w, λ k. taken_enter w s k.it)
effect_enter past w _ r = (Enter-same w, λ k. Enter-same w)

-- each event puts each row that it adds to a log into each queue of the topic whose span has no end then
pub rows_enter : (r : Run) (e : Move) → AllEnter (final_world r) (world_after (final_world r) e)
rows_enter r e =
    let w = final_world r in
    by_refusal (λ v o. AllEnter w v) w e (λ why. Enter-same w) (λ n. by_found (λ v o. AllEnter w v) w e (effect_enter (answers_of r) w e (reached r)))
