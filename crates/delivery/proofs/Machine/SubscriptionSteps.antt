-- Subscriptions begin, end and are handed items; topics are added.
use Rattle.delivery.proofs.Words.All.{◌≡◌, ◌≢◌, ℕ, zero, suc, ◌+◌, ◌<◌, ◌≤◌, ◌==◌, Bool, true, false, cond, not, inl, inr, List, [], ◌∷◌, ◌++◌, length, get_or, set, Option, Some, None, refl, sym, ap, subst, ◌∙◌, arith, true≢false, not-true, eqb-true, eq-eqb, length_push, filter, CommitRow, In, Topic, Stamp, Item, IsSound, IsQueueOf, TopicState, Entry, EntryEnd, new_topic, find_entry, insert_entry, after_subscribe, end_of, after_unsubscribe, same_topics, In-insert, In-insert_cases, insert_one, In-filter, In-filter_cases, at_set, at_set_within, Waits, some_same, none_some, not_true, Sound-new, World, Subscription, SenderState, new_sender, no_subscription}
use Rattle.mcast_txn.proofs.Inserting.{insert_two}
use Rattle.mcast_group.proofs.Queues.{Queue-ended}
use Rattle.mcast_group.proofs.Keeping.{Sound-subscribed, Sound-unsubscribed}
use Rattle.delivery.proofs.Machine.Invariant.{Tied, topic_in, Serves, sender_in, HasEntry, Owned, IsClosed, sub_in, Subscribes, Inv, Holds}
use Rattle.delivery.proofs.Machine.TopicSteps.{Serves-topics, at_topic, at_topic_from}

-- ---- lists with one more at the end

-- what is read after a push: as before, or the new one
pub at_push : {X : Type 0} (P : X → Type 0) (xs : List X) (j : ℕ) (v d : X) → (j ≡ length xs → P d → P v) → P (get_or xs j d) → P (get_or (xs ++ v ∷ []) j d)
at_push P [] zero v d h k = h refl k
at_push P [] (suc j) v d h k = k
at_push P (x ∷ xs) zero v d h k = k
at_push P (x ∷ xs) (suc j) v d h k = at_push P xs j v d (λ e. h (ap suc e)) k

-- what is read after a push: the new item at the end, and elsewhere what was read before
pub at_push_two : {X : Type 0} (P : X → Type 0) (xs : List X) (j : ℕ) (v d : X) → (j ≡ length xs → P v) → (j ≢ length xs → P (get_or xs j d)) → P (get_or (xs ++ v ∷ []) j d)
at_push_two P [] zero v d h k = h refl
at_push_two P [] (suc j) v d h k = k (omega arith)
at_push_two P (x ∷ xs) zero v d h k = k (omega arith)
at_push_two P (x ∷ xs) (suc j) v d h k = at_push_two P xs j v d (λ e. h (ap suc e)) (λ n. k (omega arith))

-- before the end, what is read is the same after a push
pub at_old : {X : Type 0} (P : X → Type 0) (xs : List X) (j : ℕ) (v d : X) → j < length xs → P (get_or xs j d) → P (get_or (xs ++ v ∷ []) j d)
at_old P xs j v d l k = at_push P xs j v d (λ e. absurd (let m : j ≡ length xs = e in omega arith)) k

-- at the end, what is read after a push is the new item
pub at_end : {X : Type 0} (P : X → Type 0) (xs : List X) (v d : X) → P v → P (get_or (xs ++ v ∷ []) (length xs) d)
at_end P [] v d h = h
at_end P (x ∷ xs) v d h = at_end P xs v d h

-- beyond a list's end there is what stands for nothing
pub beyond : {X : Type 0} (xs : List X) (j : ℕ) (d : X) → length xs ≤ j → get_or xs j d ≡ d
beyond [] j d l = refl
beyond (x ∷ xs) zero d l = absurd (omega arith)
beyond (x ∷ xs) (suc j) d l = beyond xs j d (omega arith)

-- ---- a change of one topic's subscriptions

Tied-subs : (ts cs : List CommitRow) (t : Topic) (x : TopicState) (subs : List Entry) → Tied ts cs t x → IsSound (record x { subscriptions = subs }) → ((e : Entry) → In e subs → (i : Item) → In i e.accepted → (f : Entry) × In f x.subscriptions × In i f.accepted) → Tied ts cs t (record x { subscriptions = subs })
Tied-subs ts cs t x subs h sound old = record {
  topic = h.topic;
  given = h.given;
  ticketed = h.ticketed;
  decided = h.decided;
  logged = h.logged;
  placed = h.placed;
  items = λ e k i l. let o = old e k i l in h.items o.0 o.1 i o.2;
  undrained = h.undrained;
  sound = sound;
}

-- ---- a subscription begins

-- the subscription of c to t as it begins: from t's frontier, and nothing taken
abbrev pub new_subscription : World → ℕ → Topic → Subscription
new_subscription w c t = record { connection = c; topic = t; from = (topic_in w.topics t).frontier; taken = 0; closed = None }

-- its entry at t
abbrev pub new_entry : World → Topic → Entry
new_entry w t = record { number = length w.subscriptions; from = (topic_in w.topics t).frontier; to = None; accepted = [] }

-- t with that entry
abbrev pub topic_with : World → Topic → TopicState
topic_with w t = after_subscribe (length w.subscriptions) (topic_in w.topics t)

Tied-subscribed : (ts : List CommitRow) (w : World) (t : Topic) → Holds ts w → Tied ts w.commits t (topic_with w t)
Tied-subscribed ts w t inv =
    let x = topic_in w.topics t in let h = inv.tied t in
    Tied-subs ts w.commits t x (insert_entry (new_entry w t) x.subscriptions) h (Sound-subscribed (length w.subscriptions) x h.sound
    (λ e i d. let l : e.number < length w.subscriptions = (inv.subscribes.owned t e i).there in omega arith))
    (λ e k i l. elim (In-insert_cases _ e (new_entry w t) x.subscriptions k) [
      | inl d ↦ absurd (subst (λ (z : Entry). In i z.accepted) (sym d) l)
      | inr o ↦ (e, o, l)
    ])

Owned-more : (subs : List Subscription) (v : Subscription) (t : Topic) (n : ℕ) (from : Stamp) → Owned subs t n from → Owned (subs ++ v ∷ []) t n from
Owned-more subs v t n from h = record {
  there = let m = length_push subs v in let l : n < length subs = h.there in omega arith;
  topic = at_old (λ (z : Subscription). z.topic ≡ t) subs n v no_subscription h.there h.topic;
  closed = at_old (λ (z : Subscription). z.closed ≡ None) subs n v no_subscription h.there h.closed;
  from_is = at_old (λ (z : Subscription). z.from ≡ from) subs n v no_subscription h.there h.from_is;
}

-- what holds of a topic that has the same but for its subscriptions
same_else : (P : Topic → TopicState → Type 0) (topics : List TopicState) (t u : Topic) (subs : List Entry) → ((x : TopicState) → P t x → P t (record x { subscriptions = subs })) → P u (topic_in topics u) → P u (topic_in (set topics t.0 (record (topic_in topics t) { subscriptions = subs })) u)
same_else P topics t u subs h k = at_topic_from P topics t u (record (topic_in topics t) { subscriptions = subs }) (h (topic_in topics t)) k

IsClosed-subs : (cs : List CommitRow) (from : Stamp) (end : EntryEnd) (t : Topic) (x : TopicState) (subs : List Entry) → IsClosed cs from end t x → IsClosed cs from end t (record x { subscriptions = subs })
IsClosed-subs cs from end t x subs h = record { queue = h.queue; items = h.items }

Subscribes-begun : (ts : List CommitRow) (w : World) (c : ℕ) (t : Topic) → Holds ts w → t.0 < length w.topics → Subscribes w.commits (set w.topics t.0 (topic_with w t)) (w.subscriptions ++ new_subscription w c t ∷ [])
Subscribes-begun ts w c t inv room =
    let h = inv.subscribes in let v = new_subscription w c t in let e = new_entry w t in let x = topic_in w.topics t in
    let subs = w.subscriptions in let topics = set w.topics t.0 (topic_with w t) in
    record {
      live = λ s l. at_push_two (λ (z : Subscription). z.closed ≡ None → HasEntry s z.from (topic_in topics z.topic)) subs s v no_subscription
          (λ d n. at_set_within (λ (z : TopicState). HasEntry s x.frontier z) w.topics t.0 t.0 (topic_with w t) (new_topic t 0 0) room
          (λ i. record { entry = e; stands = In-insert _ e e x.subscriptions (inl refl); number = sym d; from_is = refl }) (λ ne. absurd (ne refl)))
          (λ ne n. moved s (sub_in subs s).from (sub_in subs s).topic (h.live s (let m = length_push subs v in omega arith) n));
      owned = λ u. at_topic_from (λ y z. (f : Entry) → In f z.subscriptions → Owned (subs ++ v ∷ []) y f.number f.from) w.topics t u (topic_with w t)
          (λ o. insert_one _ (λ (f : Entry). Owned (subs ++ v ∷ []) t f.number f.from) x.subscriptions e o (record {
            there = let m = length_push subs v in omega arith;
            topic = at_end (λ (z : Subscription). z.topic ≡ t) subs v no_subscription refl;
            closed = at_end (λ (z : Subscription). z.closed ≡ None) subs v no_subscription refl;
            from_is = at_end (λ (z : Subscription). z.from ≡ x.frontier) subs v no_subscription refl;
          }))
          (λ f i. Owned-more subs v u f.number f.from (h.owned u f i));
      one = λ u. at_topic_from (λ y z. (a b : Entry) → In a z.subscriptions → In b z.subscriptions → a.number ≡ b.number → a ≡ b) w.topics t u (topic_with w t)
          (λ o. insert_two _ (λ (a b : Entry). a.number ≡ b.number → a ≡ b) x.subscriptions e o
          (λ a i d. absurd (let k : a.number < length subs = (h.owned t a i).there in omega arith))
          (λ a i d. absurd (let k : a.number < length subs = (h.owned t a i).there in omega arith))
          (λ d. refl))
          (h.one u);
      closed = λ s end. at_push (λ (z : Subscription). z.closed ≡ Some end → IsClosed w.commits z.from end z.topic (topic_in topics z.topic)) subs s v no_subscription
          (λ d o n. none_some end n)
          (λ n. same_else (λ y z. IsClosed w.commits (sub_in subs s).from end y z) w.topics t (sub_in subs s).topic (insert_entry e x.subscriptions)
          (λ z k. IsClosed-subs w.commits (sub_in subs s).from end t z (insert_entry e x.subscriptions) k) (h.closed s end n));
    }
  where
    moved : (s : ℕ) (from : Stamp) (u : Topic) → HasEntry s from (topic_in w.topics u) → HasEntry s from (topic_in (set w.topics t.0 (topic_with w t)) u)
    moved s from u k = at_topic_from (λ y z. HasEntry s from z) w.topics t u (topic_with w t)
        (λ o. record { entry = o.entry; stands = In-insert _ o.entry (new_entry w t) (topic_in w.topics t).subscriptions (inr o.stands); number = o.number; from_is = o.from_is }) k

-- beginning a subscription keeps the invariant
pub subscribe_step : (ts : List CommitRow) (w : World) (c : ℕ) (t : Topic) → Holds ts w → t.0 < length w.topics → Inv ts w.commits w.verdicts (set w.topics t.0 (topic_with w t)) w.senders (w.subscriptions ++ new_subscription w c t ∷ [])
subscribe_step ts w c t inv room = record {
  consistent = inv.consistent;
  tied = λ u. at_topic (λ v z. Tied ts w.commits v z) w.topics t u (topic_with w t) (Tied-subscribed ts w t inv) (inv.tied u);
  serves = λ s. Serves-topics ts w.commits w.topics (set w.topics t.0 (topic_with w t)) s (sender_in w.senders s)
      (λ id u n. at_topic_from (λ v z. Waits id z.pending) w.topics t u (topic_with w t) (λ k. k)) (inv.serves s);
  voted = inv.voted;
  counted = inv.counted;
  subscribes = Subscribes-begun ts w c t inv room;
}

-- ---- a subscription ends

-- an entry that was found
pub record FoundEntry (n : ℕ) (es : List Entry) (e : Entry) : Type 0 where
  pub stands : In e es
  pub is : e.number ≡ n

-- an entry that is found is in the list, and has the number that was looked for
pub found_entry : (n : ℕ) (es : List Entry) (e : Entry) → find_entry n es ≡ Some e → FoundEntry n es e
found_entry n [] e d = cc
found_entry n (x ∷ es) e d = (elim (x.number == n) as (λ (b : Bool). (x.number == n) ≡ b → cond b (Some x) (find_entry n es) ≡ Some e → FoundEntry n (x ∷ es) e) [
  | true ↦ λ k d. (let same = some_same x e d in record { stands = inl same; is = ap (λ (z : Entry). z.number) (sym same) ∙ eqb-true x.number n k })
  | false ↦ λ k d. (let h = (found_entry n es e) d in record { stands = inr h.stands; is = h.is })
]) refl d

-- an entry of this number is found
pub record FindsEntry (n : ℕ) (es : List Entry) : Type 0 where
  pub entry : Entry
  pub found : find_entry n es ≡ Some entry

finds_case : (n : ℕ) (x : Entry) (es : List Entry) (b : Bool) → (b ≡ false → FindsEntry n es) → (x.number == n) ≡ b → FindsEntry n (x ∷ es)
finds_case n x es true ih e = record { entry = x; found = rw e refl }
finds_case n x es false ih e = let h = ih refl in record { entry = h.entry; found = rw e h.found }

-- where the list has an entry of this number, one is found
pub finds_entry : (n : ℕ) (es : List Entry) (e : Entry) → In e es → e.number ≡ n → FindsEntry n es
finds_entry n [] e i d = absurd i
finds_entry n (x ∷ es) e (inl k) d = finds_case n x es true (λ f. absurd (true≢false f)) (eq-eqb x.number n (ap (λ (z : Entry). z.number) k ∙ d))
finds_entry n (x ∷ es) e (inr k) d = finds_case n x es (x.number == n) (λ f. finds_entry n es e k d) refl

-- t without the entries of this number
abbrev pub topic_without : World → Topic → ℕ → TopicState
topic_without w t s = after_unsubscribe s (topic_in w.topics t)

-- the entry stays where subscription s is dropped
abbrev pub kept_by : ℕ → Entry → Bool
kept_by s e = not (e.number == s)

-- subscription s after it was closed with this entry
abbrev pub subscription_after : World → ℕ → Entry → Subscription
subscription_after w s e = let x = sub_in w.subscriptions s in record x { closed = Some (end_of (topic_in w.topics x.topic).frontier e) }

ended_items : (frontier : Stamp) (n : ℕ) (from : Stamp) (to : Option Stamp) (accepted : List Item) (i : Item) → In i (end_of frontier (record { number = n; from = from; to = to; accepted = accepted })).accepted → In i accepted
ended_items frontier n from None accepted i k = k
ended_items frontier n from (Some end) accepted i k = k

-- writing one item leaves the length
pub set_length : {X : Type 0} (xs : List X) (i : ℕ) (v : X) → length (set xs i v) ≡ length xs
set_length [] i v = refl
set_length (x ∷ xs) zero v = refl
set_length (x ∷ xs) (suc i) v = ap suc (set_length xs i v)

has_topic : (topics : List TopicState) (n : ℕ) (d : TopicState) → d.subscriptions ≡ [] → (e : Entry) → In e (get_or topics n d).subscriptions → n < length topics
has_topic [] n d empty e i = absurd (subst (λ z. In e z) empty i)
has_topic (x ∷ xs) zero d empty e i = omega arith
has_topic (x ∷ xs) (suc n) d empty e i = let l = has_topic xs n d empty e i in omega arith

kept_entry : (s r : ℕ) (from : Stamp) (x : TopicState) → r ≢ s → HasEntry r from x → HasEntry r from (after_unsubscribe s x)
kept_entry s r from x ne h = record {
  entry = h.entry;
  stands = In-filter (kept_by s) h.entry x.subscriptions h.stands
      (rw (not_true (h.entry.number == s) refl (λ d. ne (sym h.number ∙ eqb-true h.entry.number s d))) refl);
  number = h.number;
  from_is = h.from_is;
}

Owned-kept : (subs : List Subscription) (s : ℕ) (v : Subscription) (t : Topic) (n : ℕ) (from : Stamp) → n ≢ s → Owned subs t n from → Owned (set subs s v) t n from
Owned-kept subs s v t n from ne h = record {
  there = let m = set_length subs s v in let l : n < length subs = h.there in omega arith;
  topic = at_set (λ (z : Subscription). z.topic ≡ t) subs s n v no_subscription (λ e. absurd (ne e)) h.topic;
  closed = at_set (λ (z : Subscription). z.closed ≡ None) subs s n v no_subscription (λ e. absurd (ne e)) h.closed;
  from_is = at_set (λ (z : Subscription). z.from ≡ from) subs s n v no_subscription (λ e. absurd (ne e)) h.from_is;
}

new_closed : (ts : List CommitRow) (w : World) (t : Topic) (from : Stamp) (e : Entry) (end : EntryEnd) → Holds ts w → In e (topic_in w.topics t).subscriptions → e.from ≡ from → Some (end_of (topic_in w.topics t).frontier e) ≡ Some end → IsClosed w.commits from end t (topic_in w.topics t)
new_closed ts w t from e end inv i f n =
    let x = topic_in w.topics t in
    subst (λ z. IsClosed w.commits from z t x) (some_same (end_of x.frontier e) end n) (record {
      queue = subst (λ z. IsQueueOf x.base x.frontier x.held z (Some (end_of x.frontier e).to) (end_of x.frontier e).accepted) f
          (Queue-ended x.base x.frontier x.held e ((inv.tied t).sound.queues e i));
      items = λ j k. (inv.tied t).items e i j (ended_items x.frontier e.number e.from e.to e.accepted j k);
    })

Subscribes-ended : (ts : List CommitRow) (w : World) (s : ℕ) (e : Entry) → Holds ts w → In e (topic_in w.topics (sub_in w.subscriptions s).topic).subscriptions → e.number ≡ s → let t = (sub_in w.subscriptions s).topic in Subscribes w.commits (set w.topics t.0 (topic_without w t s)) (set w.subscriptions s (subscription_after w s e))
Subscribes-ended ts w s e inv i d =
    let h = inv.subscribes in let subs = w.subscriptions in let x0 = sub_in subs s in let t = x0.topic in let x = topic_in w.topics t in
    let y = topic_without w t s in let topics = set w.topics t.0 y in let v = subscription_after w s e in
    let own : Owned subs t s e.from = subst (λ n. Owned subs t n e.from) d (h.owned t e i) in
    let room : t.0 < length w.topics = has_topic w.topics t.0 (new_topic t 0 0) refl e i in
    record {
      live = λ r l. at_set_within (λ (z : Subscription). z.closed ≡ None → HasEntry r z.from (topic_in topics z.topic)) subs s r v no_subscription own.there
          (λ k n. none_some _ (sym n))
          (λ ne n. at_topic_from (λ a z. HasEntry r (sub_in subs r).from z) w.topics t (sub_in subs r).topic y
          (λ k. kept_entry s r (sub_in subs r).from x ne k)
          (h.live r (let m = set_length subs s v in omega arith) n));
      owned = λ u. at_set_within (λ (z : TopicState). (f : Entry) → In f z.subscriptions → Owned (set subs s v) u f.number f.from) w.topics t.0 u.0 y (new_topic u 0 0) room
          (λ k f j. let m = In-filter_cases (kept_by s) f x.subscriptions j in
          subst (λ a. Owned (set subs s v) a f.number f.from) (sym (same_topics u t k))
          (Owned-kept subs s v t f.number f.from (λ q. true≢false (sym (eq-eqb f.number s q) ∙ not-true (f.number == s) m.passes)) (h.owned t f m.stands)))
          (λ ne f j. Owned-kept subs s v u f.number f.from
          (λ q. ne (ap (λ (z : Topic). z.0) (sym (h.owned u f j).topic ∙ ap (λ n. (sub_in subs n).topic) q)))
          (h.owned u f j));
      one = λ u. at_topic_from (λ a z. (f g : Entry) → In f z.subscriptions → In g z.subscriptions → f.number ≡ g.number → f ≡ g) w.topics t u y
          (λ o f g k l. o f g (In-filter_cases (kept_by s) f x.subscriptions k).stands (In-filter_cases (kept_by s) g x.subscriptions l).stands)
          (h.one u);
      closed = λ r end. at_set_within (λ (z : Subscription). z.closed ≡ Some end → IsClosed w.commits z.from end z.topic (topic_in topics z.topic)) subs s r v no_subscription own.there
          (λ k n. same_else (λ a z. IsClosed w.commits x0.from end a z) w.topics t t y.subscriptions
          (λ z o. IsClosed-subs w.commits x0.from end t z y.subscriptions o) (new_closed ts w t x0.from e end inv i (sym own.from_is) n))
          (λ ne n. same_else (λ a z. IsClosed w.commits (sub_in subs r).from end a z) w.topics t (sub_in subs r).topic y.subscriptions
          (λ z k. IsClosed-subs w.commits (sub_in subs r).from end t z y.subscriptions k) (h.closed r end n));
    }

Tied-unsubscribed : (ts : List CommitRow) (w : World) (t : Topic) (s : ℕ) → Holds ts w → Tied ts w.commits t (topic_without w t s)
Tied-unsubscribed ts w t s inv =
    let x = topic_in w.topics t in let h = inv.tied t in
    Tied-subs ts w.commits t x (filter (kept_by s) x.subscriptions) h (Sound-unsubscribed s x h.sound)
    (λ e k i l. (e, (In-filter_cases (kept_by s) e x.subscriptions k).stands, l))

-- closing a subscription keeps the invariant
pub end_step : (ts : List CommitRow) (w : World) (s : ℕ) (e : Entry) → Holds ts w → find_entry s (topic_in w.topics (sub_in w.subscriptions s).topic).subscriptions ≡ Some e → let t = (sub_in w.subscriptions s).topic in Inv ts w.commits w.verdicts (set w.topics t.0 (topic_without w t s)) w.senders (set w.subscriptions s (subscription_after w s e))
end_step ts w s e inv d =
    let t = (sub_in w.subscriptions s).topic in let f = found_entry s (topic_in w.topics t).subscriptions e d in record {
      consistent = inv.consistent;
      tied = λ u. at_topic (λ v z. Tied ts w.commits v z) w.topics t u (topic_without w t s) (Tied-unsubscribed ts w t s inv) (inv.tied u);
      serves = λ r. Serves-topics ts w.commits w.topics (set w.topics t.0 (topic_without w t s)) r (sender_in w.senders r)
          (λ id u n. at_topic_from (λ v z. Waits id z.pending) w.topics t u (topic_without w t s) (λ k. k)) (inv.serves r);
      voted = inv.voted;
      counted = inv.counted;
      subscribes = Subscribes-ended ts w s e inv f.stands f.is;
    }

-- ---- an item is handed on

-- subscription s with one more item taken
abbrev pub taken_more : World → ℕ → Subscription
taken_more w s = record (sub_in w.subscriptions s) { taken = (sub_in w.subscriptions s).taken + 1 }

-- what doesn't speak of the items handed on holds after one more
at_taken : (P : ℕ → Topic → Stamp → Option EntryEnd → Type 0) (subs : List Subscription) (s r n : ℕ) → let x = sub_in subs r in P r x.topic x.from x.closed → let y = sub_in (set subs s (record (sub_in subs s) { taken = n })) r in P r y.topic y.from y.closed
at_taken P subs s r n h =
    at_set (λ (z : Subscription). P r z.topic z.from z.closed) subs s r (record (sub_in subs s) { taken = n }) no_subscription
    (λ e. subst (λ q. let x = sub_in subs q in P r x.topic x.from x.closed) e h) h

-- taking an item keeps the invariant
pub take_step : (ts : List CommitRow) (w : World) (s : ℕ) → Holds ts w → Inv ts w.commits w.verdicts w.topics w.senders (set w.subscriptions s (taken_more w s))
take_step ts w s inv =
    let subs = w.subscriptions in let n = (sub_in subs s).taken + 1 in let more = set subs s (taken_more w s) in let h = inv.subscribes in record {
      consistent = inv.consistent;
      tied = inv.tied;
      serves = inv.serves;
      voted = inv.voted;
      counted = inv.counted;
      subscribes = record {
        live = λ r l. at_taken (λ q t from closed. closed ≡ None → HasEntry q from (topic_in w.topics t)) subs s r n
            (h.live r (let m = set_length subs s (taken_more w s) in omega arith));
        owned = λ t e i. let o = h.owned t e i in record {
          there = let m = set_length subs s (taken_more w s) in let l : e.number < length subs = o.there in omega arith;
          topic = at_taken (λ q u from closed. u ≡ t) subs s e.number n o.topic;
          closed = at_taken (λ q u from closed. closed ≡ None) subs s e.number n o.closed;
          from_is = at_taken (λ q u from closed. from ≡ e.from) subs s e.number n o.from_is;
        };
        one = h.one;
        closed = λ r end. at_taken (λ q t from closed. closed ≡ Some end → IsClosed w.commits from end t (topic_in w.topics t)) subs s r n (h.closed r end);
      };
    }

-- ---- a topic is added, and a sender

Tied-fresh : (ts cs : List CommitRow) (t : Topic) (log_limit clock : ℕ) → Tied ts cs t (new_topic t 0 0) → Tied ts cs t (new_topic t log_limit clock)
Tied-fresh ts cs t log_limit clock h = record {
  topic = refl;
  given = λ a k e. let l : a.stamp.n ≤ 0 = h.given a k e in omega arith;
  ticketed = λ p k. absurd k;
  decided = λ p k. absurd k;
  logged = λ l k. absurd k;
  placed = h.placed;
  items = λ e k. absurd k;
  undrained = refl;
  sound = Sound-new t log_limit clock;
}

-- what holds of each fresh topic whatever its clock, and of each topic before, holds after one is added
pub at_added : (P : Topic → TopicState → Type 0) (topics : List TopicState) (log_limit clock : ℕ) (u : Topic) → (P u (new_topic u 0 0) → P u (new_topic u log_limit clock)) → P u (topic_in topics u) → P u (topic_in (topics ++ new_topic (record { 0 = length topics }) log_limit clock ∷ []) u)
at_added P topics log_limit clock u h k =
    at_push (P u) topics u.0 (new_topic (record { 0 = length topics }) log_limit clock) (new_topic u 0 0)
    (λ e o. subst (λ z. P u (new_topic z log_limit clock)) (same_topics u (record { 0 = length topics }) e) (h o)) k

-- adding a topic keeps the invariant
pub added_step : (ts : List CommitRow) (w : World) (clock : ℕ) → Holds ts w → Inv ts w.commits w.verdicts (w.topics ++ new_topic (record { 0 = length w.topics }) w.log_limit clock ∷ []) w.senders w.subscriptions
added_step ts w clock inv =
    let h = inv.subscribes in record {
      consistent = inv.consistent;
      tied = λ u. at_added (Tied ts w.commits) w.topics w.log_limit clock u (Tied-fresh ts w.commits u w.log_limit clock) (inv.tied u);
      serves = λ s. Serves-topics ts w.commits w.topics (w.topics ++ new_topic (record { 0 = length w.topics }) w.log_limit clock ∷ []) s (sender_in w.senders s)
          (λ id u n. at_added (λ v z. Waits id z.pending) w.topics w.log_limit clock u (λ k. record { part = k.part; stands = k.stands; is = k.is })) (inv.serves s);
      voted = inv.voted;
      counted = inv.counted;
      subscribes = record {
        live = λ s l n. at_added (λ v z. HasEntry s (sub_in w.subscriptions s).from z) w.topics w.log_limit clock (sub_in w.subscriptions s).topic
            (λ k. absurd k.stands) (h.live s l n);
        owned = λ u. at_added (λ v z. (e : Entry) → In e z.subscriptions → Owned w.subscriptions v e.number e.from) w.topics w.log_limit clock u
            (λ o e i. absurd i) (h.owned u);
        one = λ u. at_added (λ v z. (e f : Entry) → In e z.subscriptions → In f z.subscriptions → e.number ≡ f.number → e ≡ f) w.topics w.log_limit clock u
            (λ o e f i. absurd i) (h.one u);
        closed = λ s end n. at_added (λ v z. IsClosed w.commits (sub_in w.subscriptions s).from end v z) w.topics w.log_limit clock (sub_in w.subscriptions s).topic
            (λ k. record { queue = k.queue; items = k.items }) (h.closed s end n);
      };
    }

-- adding a sender keeps the invariant
pub opened_step : (ts : List CommitRow) (w : World) → Holds ts w → Inv ts w.commits w.verdicts w.topics (w.senders ++ new_sender ∷ []) w.subscriptions
opened_step ts w inv = record {
  consistent = inv.consistent;
  tied = inv.tied;
  serves = λ s. at_push (λ (z : SenderState). Serves ts w.commits w.topics s z) w.senders s new_sender new_sender (λ e o. o) (inv.serves s);
  voted = inv.voted;
  counted = inv.counted;
  subscribes = inv.subscribes;
}
