-- What was handed on is a prefix of what was accepted.
use Rattle.delivery.proofs.Words.All.{◌≡◌, ◌≢◌, ℕ, ◌+◌, ◌<◌, ◌≤◌, ◌==◌, nat_lt, Bool, true, false, cond, not, List, [], ◌∷◌, ◌++◌, map, length, set, Option, Some, None, refl, sym, ap, subst, ◌∙◌, arith, ltb, append_assoc, slice_get, eqb-true, eq-eqb, ltb-true, not-false, length_push, filter, get_or, Topic, Stamp, Item, TopicState, Entry, EntryEnd, find_entry, insert_entry, end_of, after_unsubscribe, at_set, at_set_within, some_same, none_some, not_true, More, More-same, World, Subscription, no_subscription, topic_at, subscription_at, entry_at, with_topic, entry_items, accepted_at, Move, Answer, move_refusal, move_effect, verdict_in, queue_has_room, take_effect, close_effect_of, delivered_items, Handed, answers_of, final_world, Run}
use Rattle.delivery.specs.Machine.Moves.Move.{AddsTopic, Subscribes, Unsubscribes, Leaves, Proposes, Cancels, Learns, Releases, Turns, Takes}
use Rattle.delivery.specs.Theorem.Laws
use Rattle.delivery.proofs.Words.Steps.{topic_in, Owned, Entries, Entries-same, Keeps-release, Keeps-turned, at_topic_from, at_push_two, at_added, set_length, found_entry, finds_entry, new_subscription, new_entry, topic_with, taken_more, Reached, tickets, finds, checked, items_by, InEachCase, always, Found, by_moves}

-- ---- queues grow

find_more : (n : ℕ) (step : Entry → Entry) → ((e : Entry) → (step e).number ≡ e.number) → ((e : Entry) → More e.accepted (step e).accepted) → (es : List Entry) → More (entry_items (find_entry n es)) (entry_items (find_entry n (map step es)))
find_more n step number grows [] = More-same []
find_more n step number grows (e ∷ es) =
    subst (λ (k : ℕ). More (entry_items (cond (e.number == n) (Some e) (find_entry n es))) (entry_items (cond (k == n) (Some (step e)) (find_entry n (map step es))))) (sym (number e))
    (elim (e.number == n) as (λ (b : Bool). More (entry_items (cond b (Some e) (find_entry n es))) (entry_items (cond b (Some (step e)) (find_entry n (map step es))))) [ true ↦ (grows e) | false ↦ (find_more n step number grows es) ])

-- a subscription's queue has more where its entry's has
pub More-by : (closed : Option EntryEnd) (a b : Option Entry) → More (entry_items a) (entry_items b) → More (items_by closed a) (items_by closed b)
More-by None a b h = h
More-by (Some end) a b h = More-same end.accepted

-- after a step at one topic
pub More-topic : (w : World) (t : Topic) (y : TopicState) (s : ℕ) (x : Subscription) → More (entry_items (find_entry s (topic_in w.topics t).subscriptions)) (entry_items (find_entry s y.subscriptions)) → More (items_by x.closed (find_entry s (topic_in w.topics x.topic).subscriptions)) (items_by x.closed (find_entry s (topic_in (set w.topics t.0 y) x.topic).subscriptions))
More-topic w t y s x h =
    More-by x.closed (find_entry s (topic_in w.topics x.topic).subscriptions) (find_entry s (topic_in (set w.topics t.0 y) x.topic).subscriptions)
    (at_topic_from (λ u z. More (entry_items (find_entry s (topic_in w.topics u).subscriptions)) (entry_items (find_entry s z.subscriptions))) w.topics t x.topic y
    (λ o. h) (More-same (entry_items (find_entry s (topic_in w.topics x.topic).subscriptions))))

-- where a topic's entries have more, so has that of each number
pub entries_more : (x y : TopicState) → Entries x y → (n : ℕ) → More (entry_items (find_entry n x.subscriptions)) (entry_items (find_entry n y.subscriptions))
entries_more x y en n =
    subst (λ z. More (entry_items (find_entry n x.subscriptions)) (entry_items (find_entry n z))) (sym en.are)
    (find_more n en.step en.number en.grows x.subscriptions)

-- each queue of w has more in v
abbrev pub Grow : World → World → Type 0
Grow w v = (s : ℕ) → s < length w.subscriptions → More (accepted_at w s) (accepted_at v s)

-- topics and subscriptions stay
grow_same : (w : World) → Grow w w
grow_same w s l = More-same (accepted_at w s)

grow_topic : (w : World) (t : Topic) (y : TopicState) → Entries (topic_in w.topics t) y → Grow w (with_topic w t y)
grow_topic w t y h s l = More-topic w t y s (subscription_at w s) (entries_more (topic_in w.topics t) y h s)

-- a topic whose subscriptions stay
grow_beside : (w : World) (t : Topic) (y : TopicState) → y.subscriptions ≡ (topic_in w.topics t).subscriptions → Grow w (with_topic w t y)
grow_beside w t y e = grow_topic w t y (Entries-same (topic_in w.topics t) y e)

-- ---- a subscription is closed

-- dropping the entries of one number leaves the entry of another
pub find_kept : (s n : ℕ) (es : List Entry) → n ≢ s → find_entry n (filter (λ z. not (z.number == s)) es) ≡ find_entry n es
find_kept s n [] ne = refl
find_kept s n (e ∷ es) ne = (elim (e.number == s) as (λ (b : Bool). (e.number == s) ≡ b → find_entry n (filter (λ z. not (z.number == s)) es) ≡ find_entry n es → find_entry n (cond (not b) (e ∷ filter (λ z. not (z.number == s)) es) (filter (λ z. not (z.number == s)) es)) ≡ find_entry n (e ∷ es)) [
  | true ↦ λ d ih. (let k : (e.number == n) ≡ false = not_true (e.number == n) refl (λ f. ne (sym (eqb-true e.number n f) ∙ eqb-true e.number s d)) in ih ∙ ap (λ (c : Bool). cond c (Some e) (find_entry n es)) (sym k))
  | false ↦ λ d ih. ap (λ z. cond (e.number == n) (Some e) z) ih
]) refl (find_kept s n es ne)

-- More holds of equal lists
pub More-equal : (xs ys : List Item) → ys ≡ xs → More xs ys
More-equal xs ys e = subst (λ z. More xs z) (sym e) (More-same xs)

-- what an entry leaves has the items that it accepted
pub ended_same : (frontier : Stamp) (n : ℕ) (from : Stamp) (to : Option Stamp) (accepted : List Item) → (end_of frontier (record { number = n; from = from; to = to; accepted = accepted })).accepted ≡ accepted
ended_same frontier n from None accepted = refl
ended_same frontier n from (Some end) accepted = refl

-- what was accepted of a subscription that isn't closed is what its entry accepted
pub open_items : (closed : Option EntryEnd) (entry : Option Entry) → closed ≡ None → items_by closed entry ≡ entry_items entry
open_items None entry e = refl
open_items (Some end) entry e = none_some end (sym e)

-- an entry that is found is its subscription's
pub owned_entry : (past : List Answer) (w : World) (s : ℕ) → Reached past w → (k : Found (entry_at w s)) → Owned w.subscriptions (subscription_at w s).topic s k.it.from
owned_entry past w s r k =
    let t = (subscription_at w s).topic in let f = found_entry s (topic_in w.topics t).subscriptions k.it k.is in
    subst (λ n. Owned w.subscriptions t n k.it.from) f.is (r.inv.subscribes.owned t k.it f.stands)

-- a subscription that isn't closed has one
pub unclosed_entry : (past : List Answer) (w : World) (s : ℕ) → Reached past w → s < length w.subscriptions → (subscription_at w s).closed ≡ None → Found (entry_at w s)
unclosed_entry past w s r l unclosed =
    let h = r.inv.subscribes.live s l unclosed in
    let f = finds_entry s (topic_in w.topics (subscription_at w s).topic).subscriptions h.entry h.stands h.number in record { it = f.entry; is = f.found }

-- closing a subscription leaves of each queue what it accepted
closed_grow : (past : List Answer) (w : World) (s : ℕ) → Reached past w → (k : Found (entry_at w s)) → Grow w (close_effect_of w s (Some k.it))
closed_grow past w s h k r l =
    let entry = k.it in let t = (subscription_at w s).topic in let x = topic_in w.topics t in let y = after_unsubscribe s x in
    let v = close_effect_of w s (Some entry) in let own = owned_entry past w s h k in
    at_set_within (λ (z : Subscription). More (accepted_at w r) (items_by z.closed (find_entry r (topic_in v.topics z.topic).subscriptions))) w.subscriptions s r _ no_subscription own.there
    (λ same. subst (λ n. More (accepted_at w n) (end_of x.frontier entry).accepted) (sym same)
    (More-equal (accepted_at w s) (end_of x.frontier entry).accepted
    (ended_same x.frontier entry.number entry.from entry.to entry.accepted
    ∙ sym (open_items (subscription_at w s).closed (entry_at w s) own.closed ∙ ap entry_items k.is))))
    (λ ne. More-topic w t y r (subscription_at w r) (More-equal _ _ (ap entry_items (find_kept s r x.subscriptions ne))))

-- ---- a subscription begins

insert_case : (b : Bool) (n : ℕ) (e new : Entry) (es : List Entry) → new.number ≢ n → find_entry n (insert_entry new es) ≡ find_entry n es → find_entry n (cond b (new ∷ e ∷ es) (e ∷ insert_entry new es)) ≡ find_entry n (e ∷ es)
insert_case true n e new es ne ih = ap (λ (c : Bool). cond c (Some new) (find_entry n (e ∷ es))) (not_true (new.number == n) refl (λ k. ne (eqb-true new.number n k)))
insert_case false n e new es ne ih = ap (λ (o : Option Entry). cond (e.number == n) (Some e) o) ih

-- a new entry of another number hides none
pub find_inserted : (n : ℕ) (es : List Entry) (new : Entry) → new.number ≢ n → find_entry n (insert_entry new es) ≡ find_entry n es
find_inserted n [] new ne = ap (λ (c : Bool). cond c (Some new) None) (not_true (new.number == n) refl (λ e. ne (eqb-true new.number n e)))
find_inserted n (e ∷ es) new ne = insert_case (nat_lt new.number e.number) n e new es ne (find_inserted n es new ne)

begun_grow : (w : World) (c : ℕ) (t : Topic) → Grow w (move_effect w (Subscribes c t))
begun_grow w c t s l =
    let v = move_effect w (Subscribes c t) in
    at_push_two (λ (z : Subscription). More (accepted_at w s) (items_by z.closed (find_entry s (topic_in v.topics z.topic).subscriptions))) w.subscriptions s (new_subscription w c t) no_subscription
    (λ k. absurd (omega arith))
    (λ ne. More-topic w t (topic_with w t) s (subscription_at w s)
    (More-equal _ _ (ap entry_items (find_inserted s (topic_in w.topics t).subscriptions (new_entry w t) (λ e. ne (sym e))))))

taken_grow : (w : World) (q : ℕ) (item : Item) → Grow w (take_effect w q (Some item))
taken_grow w q item s l =
    at_set (λ (z : Subscription). More (accepted_at w s) (items_by z.closed (find_entry s (topic_in w.topics z.topic).subscriptions))) w.subscriptions q s (taken_more w q) no_subscription
    (λ k. subst (λ n. More (accepted_at w n) (items_by (subscription_at w q).closed (find_entry n (topic_in w.topics (subscription_at w q).topic).subscriptions))) (sym k)
    (More-same (accepted_at w q)))
    (More-same (accepted_at w s))

added_grow : (w : World) (clock : ℕ) → Grow w (move_effect w (AddsTopic clock))
added_grow w clock s l =
    let v = move_effect w (AddsTopic clock) in let x = subscription_at w s in
    More-by x.closed (entry_at w s) (find_entry s (topic_in v.topics x.topic).subscriptions)
    (at_added (λ u z. More (entry_items (find_entry s (topic_in w.topics u).subscriptions)) (entry_items (find_entry s z.subscriptions))) w.topics w.log_limit clock x.topic
    (λ k. k) (More-same (entry_items (entry_at w s))))

-- each move leaves what a queue has accepted, and adds at its end alone
pub moves_grow : (past : List Answer) (w : World) (e : Move) → Reached past w → InEachCase (λ v o. Grow w v) w e
moves_grow past w (AddsTopic clock) r = always (added_grow w clock)
moves_grow past w (Subscribes c t) r = always (begun_grow w c t)
moves_grow past w (Unsubscribes c s) r = (grow_same w, λ k. closed_grow past w s r k)
moves_grow past w (Leaves c) r = (grow_same w, λ s. (grow_same w, λ k. closed_grow past w s.it r k))
moves_grow past w (Proposes c t memory) r = (grow_beside w t _ refl, λ k. grow_same w)
moves_grow past w (Cancels c t) r = (grow_same w, λ k. grow_beside w t _ refl)
moves_grow past w (Learns t id) r = (grow_same w, λ k. grow_beside w t _ refl)
moves_grow past w (Releases t) r = always (grow_topic w t _ (Keeps-release (tickets past) w.commits t (queue_has_room w) (topic_at w t) r.inv.consistent (r.inv.tied t)).entries)
moves_grow past w (Turns t) r =
    always (grow_topic w t _ (Keeps-turned (tickets past) w.commits t (queue_has_room w) (verdict_in w) (topic_at w t) r.inv.consistent (finds (tickets past) w r.inv) (r.inv.tied t)).entries)
moves_grow past w (Takes s) r = (grow_same w, λ k. taken_grow w s k.it)
moves_grow past w _ r = always (grow_same w)

-- ---- the run beside the queues

-- the first `taken` of the accepted items are those that were given
pub record IsTaken (given accepted : List Item) (taken : ℕ) : Type 0 where
  pub rest : List Item
  pub is : accepted ≡ given ++ rest
  pub count : taken ≡ length given

IsTaken-more : {given xs ys : List Item} {m : ℕ} → More xs ys → IsTaken given xs m → IsTaken given ys m
IsTaken-more {given} {m = m} g h = record { rest = h.rest ++ g.more; is = g.is ∙ (ap (λ z. z ++ g.more) h.is ∙ append_assoc given h.rest g.more); count = h.count }

-- of each subscription the taken items of its queue were delivered, and nothing of any other number
pub record Hands (delivered accepted : ℕ → List Item) (subs : List Subscription) : Type 0 where
  pub held : (s : ℕ) → s < length subs → IsTaken (delivered s) (accepted s) (get_or subs s no_subscription).taken
  pub fresh : (s : ℕ) → length subs ≤ s → delivered s ≡ []

-- of a run's answers and its world
abbrev pub Handing : List Answer → World → Type 0
Handing past w = Hands (λ s. delivered_items s past) (λ s. accepted_at w s) w.subscriptions

grown : {delivered accepted later : ℕ → List Item} {subs : List Subscription} → ((s : ℕ) → s < length subs → More (accepted s) (later s)) → Hands delivered accepted subs → Hands delivered later subs
grown g h = record { held = λ s l. IsTaken-more (g s l) (h.held s l); fresh = h.fresh }

-- a subscription is written with what was taken of it
written : {delivered accepted : ℕ → List Item} {subs : List Subscription} (s : ℕ) (x : Subscription) → x.taken ≡ (get_or subs s no_subscription).taken
    → Hands delivered accepted subs → Hands delivered accepted (set subs s x)
written {delivered} {accepted} {subs} s x e h = let m = set_length subs s x in record {
  held = λ r l. at_set (λ (z : Subscription). IsTaken (delivered r) (accepted r) z.taken) subs s r x no_subscription
      (λ k. subst (λ n. IsTaken (delivered r) (accepted r) n) (ap (λ n. (get_or subs n no_subscription).taken) k ∙ sym e) (h.held r (omega arith))) (h.held r (omega arith));
  fresh = λ r l. h.fresh r (omega arith);
}

closed_handing : (past : List Answer) (w : World) (s : ℕ) → Reached past w → Handing past w → (k : Found (entry_at w s)) → Handing past (close_effect_of w s (Some k.it))
closed_handing past w s r h k = written s _ refl (grown (closed_grow past w s r k) h)

begun_handing : (past : List Answer) (w : World) (c : ℕ) (t : Topic) → Handing past w → Handing past (move_effect w (Subscribes c t))
begun_handing past w c t h =
    let v = move_effect w (Subscribes c t) in let m = length_push w.subscriptions (new_subscription w c t) in record {
      held = λ s l. at_push_two (λ (z : Subscription). IsTaken (delivered_items s past) (accepted_at v s) z.taken) w.subscriptions s _ no_subscription
          (λ k. record {
            rest = accepted_at v s;
            is = ap (λ z. z ++ accepted_at v s) (sym (h.fresh s (omega arith)));
            count = ap (λ (z : List Item). length z) (sym (h.fresh s (omega arith)));
          })
          (λ ne. IsTaken-more (begun_grow w c t s (omega arith)) (h.held s (omega arith)));
      fresh = λ s l. h.fresh s (omega arith);
    }

-- ---- an item is handed on

next_of : (xs rest : List Item) (i : Item) → slice_get (xs ++ rest) (length xs) ≡ Some i → (others : List Item) × (rest ≡ i ∷ others)
next_of [] [] i e = none_some i e
next_of [] (r ∷ rest) i e = (rest, ap (λ z. z ∷ rest) (some_same r i e))
next_of (x ∷ xs) rest i e = next_of xs rest i e

taken_next : (given accepted : List Item) (n : ℕ) (i : Item) → IsTaken given accepted n → slice_get accepted n ≡ Some i → IsTaken (given ++ i ∷ []) accepted (n + 1)
taken_next given accepted n i h e =
    let k = next_of given h.rest i (subst (λ z. slice_get (given ++ h.rest) z ≡ Some i) h.count (subst (λ z. slice_get z n ≡ Some i) h.is e)) in
    record { rest = k.0; is = h.is ∙ (ap (λ z. given ++ z) k.1 ∙ sym (append_assoc given (i ∷ []) k.0)); count = ap (λ (z : ℕ). z + 1) h.count ∙ sym (length_push given i) }

handed_other : (s r : ℕ) (i : Item) (past : List Answer) → r ≢ s → delivered_items s (Handed r i ∷ past) ≡ delivered_items s past
handed_other s r i past ne = ap (λ (b : Bool). cond b (delivered_items s past ++ i ∷ []) (delivered_items s past)) (not_true (r == s) refl (λ e. ne (eqb-true r s e)))

handed_same : (s : ℕ) (i : Item) (past : List Answer) → delivered_items s (Handed s i ∷ past) ≡ delivered_items s past ++ i ∷ []
handed_same s i past = ap (λ (b : Bool). cond b (delivered_items s past ++ i ∷ []) (delivered_items s past)) (eq-eqb s s refl)

handed_handing : (past : List Answer) (w : World) (s : ℕ) → s < length w.subscriptions → Handing past w → (k : Found (slice_get (accepted_at w s) (subscription_at w s).taken)) → Handing (Handed s k.it ∷ past) (take_effect w s (Some k.it))
handed_handing past w s l h k =
    let v = take_effect w s (Some k.it) in let m = set_length w.subscriptions s (taken_more w s) in record {
      held = λ r j. at_set_within (λ (z : Subscription). IsTaken (delivered_items r (Handed s k.it ∷ past)) (items_by z.closed (find_entry r (topic_in w.topics z.topic).subscriptions)) z.taken) w.subscriptions s r _ no_subscription l
          (λ e. subst (λ n. IsTaken (delivered_items n (Handed s k.it ∷ past)) (items_by (subscription_at w s).closed (find_entry n (topic_in w.topics (subscription_at w s).topic).subscriptions)) ((subscription_at w s).taken + 1)) (sym e)
          (subst (λ z. IsTaken z (accepted_at w s) ((subscription_at w s).taken + 1)) (sym (handed_same s k.it past))
          (taken_next (delivered_items s past) (accepted_at w s) (subscription_at w s).taken k.it (h.held s l) k.is)))
          (λ ne. subst (λ z. IsTaken z (accepted_at w r) (subscription_at w r).taken) (sym (handed_other r s k.it past (λ e. ne (sym e))))
          (h.held r (omega arith)));
      fresh = λ r j. handed_other r s k.it past (λ e. omega arith) ∙ h.fresh r (omega arith);
    }

-- ---- each event

happens : (past : List Answer) (w : World) (e : Move) → Reached past w → Handing past w → move_refusal w e ≡ None → InEachCase (λ v o. Handing (o ∷ past) v) w e
happens past w (Subscribes c t) r h n = always (begun_handing past w c t h)
happens past w (Unsubscribes c s) r h n = (h, λ k. closed_handing past w s r h k)
happens past w (Leaves c) r h n = (h, λ s. (h, λ k. closed_handing past w s.it r h k))
happens past w (Takes s) r h n = (h, λ k. handed_handing past w s (ltb-true s (length w.subscriptions) (not-false (ltb s (length w.subscriptions)) (checked w (Takes s) n).0)) h k)
happens past w e r h n = let g = moves_grow past w e r in (grown g.0 h, λ k. grown (g.1 k) h)

-- Handing holds after each run
pub handing : (r : Run) → Handing (answers_of r) (final_world r)
handing = by_moves Handing (λ capacity log_limit clocks. record { held = λ n k. absurd (omega arith); fresh = λ n k. refl }) (λ past w why h. h) happens

-- what was delivered is a prefix of what was accepted
pub handed_is_prefix : Laws.HandedIsPrefix
handed_is_prefix r s l = let h = (handing r).held s l in (h.rest, h.is)
