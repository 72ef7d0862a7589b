-- What each event makes of subscriptions: where they begin and end, and how much their queues hold.
use Rattle.delivery.proofs.Words.All.{◌≡◌, ℕ, ◌+◌, ◌<◌, ◌≤◌, ◌==◌, nat_lt, Bool, true, false, cond, List, [], ◌∷◌, length, set, get_or, Option, Some, None, refl, sym, ap, subst, ◌∙◌, arith, length_push, is_some, Topic, Stamp, Item, TopicState, Entry, EntryEnd, find_entry, insert_entry, end_of, after_unsubscribe, at_set, at_set_within, none_some, World, Subscription, no_subscription, topic_at, subscription_at, entry_at, with_topic, entry_items, entry_to, accepted_at, end_at, Move, Answer, world_after, move_effect, take_effect, close_effect_of, AddsTopic, Subscribes, Unsubscribes, Leaves, Proposes, Cancels, Learns, Releases, Turns, Takes}
use Rattle.delivery.proofs.Words.Steps.{topic_in, Owned, at_topic_from, at_push_two, at_added, set_length, found_entry, new_subscription, new_entry, topic_with, taken_more, Reached, by_refusal, end_by, items_by, by_found, Found, InEachCase, always}
use Rattle.delivery.proofs.Theorem.HandedIsPrefix.{find_kept, find_inserted, ended_same, open_items, owned_entry}
use Rattle.delivery.proofs.Machine.QueueSteps.{Moves, Moves-same, Goes, Goes-same, release_goes, turned_goes, entry_moves}

-- where the span of subscription s ends, among these topics
abbrev pub end_in : List TopicState → ℕ → Subscription → Option Stamp
end_in topics s x = end_by x.closed (find_entry s (topic_in topics x.topic).subscriptions)

-- what the queue of subscription s has accepted, among these topics
abbrev pub items_in : List TopicState → ℕ → Subscription → List Item
items_in topics s x = items_by x.closed (find_entry s (topic_in topics x.topic).subscriptions)

-- what an event leaves of a subscription: its topic, its beginning, its end if it has one, and the bound of its queue
pub record Tell (capacity : ℕ) (x y : Subscription) (to end : Option Stamp) (xs ys : List Item) : Type 0 where
  pub topic : y.topic ≡ x.topic
  pub from : y.from ≡ x.from
  pub owner : y.connection ≡ x.connection
  pub closed : is_some x.closed ≡ true → is_some y.closed ≡ true
  pub stays : (s : Stamp) → to ≡ Some s → end ≡ Some s
  pub bound : length xs ≤ x.taken + capacity → length ys ≤ y.taken + capacity

Tell-moves : {capacity : ℕ} {x : Subscription} {to end : Option Stamp} {xs ys : List Item} → Moves x.taken capacity to xs end ys → Tell capacity x x to end xs ys
Tell-moves h = record { topic = refl; from = refl; owner = refl; closed = λ e. e; stays = h.stays; bound = h.bound }

Tell-same : {capacity : ℕ} {x : Subscription} {to : Option Stamp} {xs : List Item} → Tell capacity x x to to xs xs
Tell-same = record { topic = refl; from = refl; owner = refl; closed = λ e. e; stays = λ s e. e; bound = λ l. l }

-- of all of them; a new one has no end and no items
pub record Tells (capacity : ℕ) (topics : List TopicState) (subs : List Subscription) (later : ℕ) (others : List TopicState) (all : List Subscription) : Type 0 where
  pub same : later ≡ capacity
  pub more : length subs ≤ length all
  pub each : (s : ℕ) → s < length subs → let x = get_or subs s no_subscription in let y = get_or all s no_subscription in Tell capacity x y (end_in topics s x) (end_in others s y) (items_in topics s x) (items_in others s y)
  pub fresh : (s : ℕ) → length subs ≤ s → s < length all → let y = get_or all s no_subscription in (end_in others s y ≡ None) × (items_in others s y ≡ [])

-- the same from one core to another
abbrev pub TellsOf : World → World → Type 0
TellsOf w v = Tells w.capacity w.topics w.subscriptions v.capacity v.topics v.subscriptions

-- TellsOf holds from a core to itself
pub Tells-same : (w : World) → TellsOf w w
Tells-same w = record { same = refl; more = omega arith; each = λ s l. Tell-same; fresh = λ s l m. absurd (omega arith) }

-- ---- a step of one topic

Moves-by : (taken capacity : ℕ) (closed : Option EntryEnd) (a b : Option Entry) → Moves taken capacity (entry_to a) (entry_items a) (entry_to b) (entry_items b) → Moves taken capacity (end_by closed a) (items_by closed a) (end_by closed b) (items_by closed b)
Moves-by taken capacity None a b h = h
Moves-by taken capacity (Some end) a b h = Moves-same taken capacity (Some end.to) end.accepted

Moves-equal : (taken capacity : ℕ) (a b : Option Entry) → b ≡ a → Moves taken capacity (entry_to a) (entry_items a) (entry_to b) (entry_items b)
Moves-equal taken capacity a b e =
    subst (λ z. Moves taken capacity (entry_to a) (entry_items a) (entry_to z) (entry_items z)) (sym e) (Moves-same taken capacity (entry_to a) (entry_items a))

abbrev FoundMoves : World → ℕ → Option Entry → Option Entry → Type 0
FoundMoves w s a b = Moves (subscription_at w s).taken w.capacity (entry_to a) (entry_items a) (entry_to b) (entry_items b)

moves_set : (w : World) (t : Topic) (y : TopicState) (s : ℕ) → FoundMoves w s (find_entry s (topic_in w.topics t).subscriptions) (find_entry s y.subscriptions) → let x = subscription_at w s in Moves x.taken w.capacity (end_at w s) (accepted_at w s) (end_in (set w.topics t.0 y) s x) (items_in (set w.topics t.0 y) s x)
moves_set w t y s h =
    let x = subscription_at w s in
    Moves-by x.taken w.capacity x.closed (entry_at w s) (find_entry s (topic_in (set w.topics t.0 y) x.topic).subscriptions)
    (at_topic_from (λ u z. FoundMoves w s (find_entry s (topic_in w.topics u).subscriptions) (find_entry s z.subscriptions)) w.topics t x.topic y
    (λ o. h) (Moves-same x.taken w.capacity (entry_to (entry_at w s)) (entry_items (entry_at w s))))

-- where Goes holds of a topic, the end and the queue of each subscription move
pub moves_topic : (w : World) (t : Topic) (y : TopicState) → Goes w (topic_in w.topics t) y → (s : ℕ) → let x = subscription_at w s in Moves x.taken w.capacity (end_at w s) (accepted_at w s) (end_in (set w.topics t.0 y) s x) (items_in (set w.topics t.0 y) s x)
moves_topic w t y g s = moves_set w t y s (entry_moves w (topic_in w.topics t) y g s)

Tells-topic : (w : World) (t : Topic) (y : TopicState) → Goes w (topic_in w.topics t) y → TellsOf w (with_topic w t y)
Tells-topic w t y g = record { same = refl; more = omega arith; each = λ s l. Tell-moves (moves_topic w t y g s); fresh = λ s l m. absurd (omega arith) }

Tells-added : (w : World) (clock : ℕ) → TellsOf w (move_effect w (AddsTopic clock))
Tells-added w clock =
    let v = move_effect w (AddsTopic clock) in record {
      same = refl;
      more = omega arith;
      each = λ s l. let x = subscription_at w s in
          Tell-moves (Moves-by x.taken w.capacity x.closed (entry_at w s) (find_entry s (topic_in v.topics x.topic).subscriptions)
          (at_added (λ u z. FoundMoves w s (find_entry s (topic_in w.topics u).subscriptions) (find_entry s z.subscriptions)) w.topics w.log_limit clock x.topic
          (λ k. k) (Moves-same x.taken w.capacity (entry_to (entry_at w s)) (entry_items (entry_at w s)))));
      fresh = λ s l m. absurd (omega arith);
    }

-- ---- a subscription begins

abbrev Empty : Option Entry → Type 0
Empty o = (entry_to o ≡ None) × (entry_items o ≡ [])

empty_first : (b : Bool) (new : Entry) (o : Option Entry) → Empty (Some new) → Empty o → Empty (cond b (Some new) o)
empty_first true new o k h = k
empty_first false new o k h = h

empty_inserted_case : (b : Bool) (n : ℕ) (e new : Entry) (es : List Entry) → Empty (Some new) → (Empty (find_entry n es) → Empty (find_entry n (insert_entry new es))) → Empty (find_entry n (e ∷ es)) → Empty (find_entry n (cond b (new ∷ e ∷ es) (e ∷ insert_entry new es)))
empty_inserted_case true n e new es k ih h = empty_first (new.number == n) new (find_entry n (e ∷ es)) k h
empty_inserted_case false n e new es k ih h = (elim (e.number == n) as (λ (b : Bool). Empty (cond b (Some e) (find_entry n es)) → Empty (cond b (Some e) (find_entry n (insert_entry new es)))) [ true ↦ λ h. h | false ↦ λ h. ih h ]) h

empty_inserted : (n : ℕ) (es : List Entry) (new : Entry) → Empty (Some new) → Empty (find_entry n es) → Empty (find_entry n (insert_entry new es))
empty_inserted n [] new k h = empty_first (new.number == n) new None k (refl, refl)
empty_inserted n (e ∷ es) new k h = empty_inserted_case (nat_lt new.number e.number) n e new es k (empty_inserted n es new k) h

none_case : (past : List Answer) (w : World) (s : ℕ) (t : Topic) → Reached past w → length w.subscriptions ≤ s → (o : Option Entry) → find_entry s (topic_in w.topics t).subscriptions ≡ o → Empty o
none_case past w s t r l None e = (refl, refl)
none_case past w s t r l (Some entry) e =
    let f = found_entry s (topic_in w.topics t).subscriptions entry e in
    let own = subst (λ n. Owned w.subscriptions t n entry.from) f.is (r.inv.subscribes.owned t entry f.stands) in
    let k : s < length w.subscriptions = own.there in absurd (omega arith)

-- a number that no subscription has yet has no end and no items at any topic
pub none_there : (past : List Answer) (w : World) (s : ℕ) (t : Topic) → Reached past w → length w.subscriptions ≤ s → Empty (find_entry s (topic_in w.topics t).subscriptions)
none_there past w s t r l = none_case past w s t r l (find_entry s (topic_in w.topics t).subscriptions) refl

Tells-begun : (past : List Answer) (w : World) (c : ℕ) (t : Topic) → Reached past w → TellsOf w (move_effect w (Subscribes c t))
Tells-begun past w c t r =
    let v = move_effect w (Subscribes c t) in let m = length_push w.subscriptions (new_subscription w c t) in record {
      same = refl;
      more = omega arith;
      each = λ s l. at_push_two (λ (z : Subscription). Tell w.capacity (subscription_at w s) z (end_at w s) (end_in v.topics s z) (accepted_at w s) (items_in v.topics s z)) w.subscriptions s (new_subscription w c t) no_subscription
          (λ k. absurd (omega arith))
          (λ ne. let x = subscription_at w s in
          Tell-moves (moves_set w t (topic_with w t) s
          (Moves-equal x.taken w.capacity _ _ (find_inserted s (topic_in w.topics t).subscriptions (new_entry w t) (λ e. ne (sym e))))));
      fresh = λ s l k. at_push_two (λ (z : Subscription). (end_in v.topics s z ≡ None) × (items_in v.topics s z ≡ [])) w.subscriptions s (new_subscription w c t) no_subscription
          (λ e. at_topic_from (λ u z. Empty (find_entry s z.subscriptions)) w.topics t t (topic_with w t)
          (λ h. empty_inserted s (topic_in w.topics t).subscriptions (new_entry w t) (refl, refl) h) (none_there past w s t r l))
          (λ ne. absurd (omega arith));
    }

-- ---- a subscription is closed

ended_to : (frontier : Stamp) (n : ℕ) (from : Stamp) (to : Option Stamp) (accepted : List Item) (s : Stamp) → to ≡ Some s → Some (end_of frontier (record { number = n; from = from; to = to; accepted = accepted })).to ≡ Some s
ended_to frontier n from None accepted s e = none_some s e
ended_to frontier n from (Some end) accepted s e = e

-- a span that isn't closed ends as its entry does
pub open_end : (closed : Option EntryEnd) (entry : Option Entry) → closed ≡ None → end_by closed entry ≡ entry_to entry
open_end None entry e = refl
open_end (Some end) entry e = none_some end (sym e)

Tells-closed : (past : List Answer) (w : World) (s : ℕ) → Reached past w → (k : Found (entry_at w s)) → TellsOf w (close_effect_of w s (Some k.it))
Tells-closed past w s r k =
    let entry = k.it in let e = k.is in let t = (subscription_at w s).topic in let x = topic_in w.topics t in let y = after_unsubscribe s x in
    let v = close_effect_of w s (Some entry) in let left = end_of x.frontier entry in let new : Subscription = record (subscription_at w s) { closed = Some left } in
    let own = owned_entry past w s r k in let m = set_length w.subscriptions s new in
    let to : end_at w s ≡ entry.to = open_end (subscription_at w s).closed (entry_at w s) own.closed ∙ ap entry_to e in
    let items : accepted_at w s ≡ entry.accepted = open_items (subscription_at w s).closed (entry_at w s) own.closed ∙ ap entry_items e in
    let kept : left.accepted ≡ entry.accepted = ended_same x.frontier entry.number entry.from entry.to entry.accepted in
    record {
      same = refl;
      more = omega arith;
      each = λ q l. at_set_within (λ (z : Subscription). Tell w.capacity (subscription_at w q) z (end_at w q) (end_in v.topics q z) (accepted_at w q) (items_in v.topics q z)) w.subscriptions s q new no_subscription own.there
          (λ k. subst (λ n. Tell w.capacity (subscription_at w n) new (end_at w n) (Some left.to) (accepted_at w n) left.accepted) (sym k)
          (record {
            topic = refl;
            from = refl;
            owner = refl;
            closed = λ d. refl;
            stays = λ end d. ended_to x.frontier entry.number entry.from entry.to entry.accepted end (sym to ∙ d);
            bound = λ b. subst (λ (z : List Item). length z ≤ (subscription_at w s).taken + w.capacity) (items ∙ sym kept) b;
          }))
          (λ ne. Tell-moves (moves_set w t y q (Moves-equal (subscription_at w q).taken w.capacity _ _ (find_kept s q x.subscriptions ne))));
      fresh = λ q l k. absurd (omega arith);
    }

-- ---- each event

-- a topic whose subscriptions stay
Tells-beside : (w : World) (t : Topic) (y : TopicState) → y.subscriptions ≡ (topic_at w t).subscriptions → TellsOf w (with_topic w t y)
Tells-beside w t y same = Tells-topic w t y (Goes-same w (topic_at w t) y same)

Tells-handed : (w : World) (s : ℕ) (item : Item) → TellsOf w (take_effect w s (Some item))
Tells-handed w s item =
    let m = set_length w.subscriptions s (taken_more w s) in record {
      same = refl;
      more = omega arith;
      each = λ q l. at_set (λ (z : Subscription). Tell w.capacity (subscription_at w q) z (end_at w q) (end_in w.topics q z) (accepted_at w q) (items_in w.topics q z)) w.subscriptions s q (taken_more w s) no_subscription
          (λ k. subst (λ n. Tell w.capacity (subscription_at w n) (taken_more w s) (end_at w n) (end_in w.topics n (taken_more w s)) (accepted_at w n) (items_in w.topics n (taken_more w s))) (sym k)
          (record { topic = refl; from = refl; owner = refl; closed = λ d. d; stays = λ end d. d; bound = λ b. omega arith })) Tell-same;
      fresh = λ q l k. absurd (omega arith);
    }

effect_tells : (past : List Answer) (w : World) (e : Move) → Reached past w → InEachCase (λ v o. TellsOf w v) w e
effect_tells past w (AddsTopic clock) r = always (Tells-added w clock)
effect_tells past w (Subscribes c t) r = always (Tells-begun past w c t r)
effect_tells past w (Unsubscribes c s) r = (Tells-same w, λ k. Tells-closed past w s r k)
effect_tells past w (Leaves c) r = (Tells-same w, λ s. (Tells-same w, λ k. Tells-closed past w s.it r k))
effect_tells past w (Proposes c t memory) r = (Tells-beside w t _ refl, λ k. Tells-same w)
effect_tells past w (Cancels c t) r = (Tells-same w, λ k. Tells-beside w t _ refl)
effect_tells past w (Learns t id) r = (Tells-same w, λ k. Tells-beside w t _ refl)
effect_tells past w (Releases t) r = always (Tells-topic w t _ (release_goes w (topic_at w t)))
effect_tells past w (Turns t) r = always (Tells-topic w t _ (turned_goes w (topic_at w t)))
effect_tells past w (Takes s) r = (Tells-same w, λ k. Tells-handed w s k.it)
effect_tells past w _ r = always (Tells-same w)

-- each event leaves of every subscription its topic, its beginning, its end and its queue's bound
pub step_tells : (past : List Answer) (w : World) (e : Move) → Reached past w → TellsOf w (world_after w e)
step_tells past w e r = by_refusal (λ v o. TellsOf w v) w e (λ why. Tells-same w) (λ n. by_found (λ v o. TellsOf w v) w e (effect_tells past w e r))
