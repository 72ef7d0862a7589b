-- Each step keeps a topic sound.
use Rattle.std.proofs.Common.{◌≡◌, ◌≢◌, ℕ, suc, ◌+◌, ◌<◌, ◌≤◌, ◌==◌, max, Bool, true, false, cond, not, ◌&&◌, inl, inr, List, [], ◌∷◌, ◌++◌, length, Option, Some, None, refl, sym, ap, subst, ◌∙◌, arith}
use Rattle.std.specs.List.{filter, list_any}
use Rattle.std.proofs.lemmas.Bool.{true≢false, not-false, and_parts, or_parts}
use Rattle.std.proofs.lemmas.List.{length_push}
use Rattle.mcast_txn.specs.Stamp.{stamp_lt, zero_stamp, same_stamp}
use Rattle.mcast_txn.specs.Transaction.{TopicPart}
use Rattle.mcast_txn.specs.Ids.{same_id}
use Rattle.mcast_txn.specs.Lists.{In}
use Rattle.mcast_txn.specs.Ballot.{Decision}
use Rattle.mcast_txn.specs.declared.id.Topic.{Topic}
use Rattle.mcast_txn.specs.declared.id.TxnId.{TxnId}
use Rattle.mcast_txn.specs.declared.stamp.Stamp.{Stamp}
use Rattle.mcast_txn.proofs.Orders.{lt_irrefl, lt_asym, lt_le, le_lt, lt_by_number, strictly, id_equal, id_same, id_turned, id_itself, same_stamp_is, same_stamp_itself}
use Rattle.mcast_txn.proofs.Inserting.{insert_length, insert_one, insert_two, rises_inserted}
use Rattle.mcast_txn.proofs.Members.{In-map_cases, In-filter_cases, any_found, any_from, push_one}
use Rattle.mcast_txn.proofs.Sorting.{Rises-push}
use Rattle.mcast_txn.proofs.Greatest.{greatest_past}
use Rattle.mcast_txn.specs.Span.{LogRow, last_stamp, row_stamp}
use Rattle.mcast_group.specs.Sound.{IsSound, IsQueueOf}
use Rattle.mcast_group.specs.Machine.{TopicState, Pending, Entry, decided_stamp, key, new_topic, next_number, after_propose, is_pending, has_row, is_foreign, has_learnt_other, clashes, learn_fault, learn_fault_of, find_pending, insert_pending, after_learn, with_stamp, after_cancel, after_release_of, row_of, item_of, entry_after, after_subscribe, after_unsubscribe, after_drain}
use Rattle.mcast_group.proofs.Parts.{RisesById-insert, RisesById-told, RisesById-without, not_pending, each_told, each_two_told, part_with_stamp, map_length, Due, others, found_part}
use Rattle.mcast_group.proofs.Numbers.{Numbers-map, Numbers-filter}
use Rattle.mcast_group.proofs.Queues.{delivered_number, Queue-delivered, Queue-new, Queue-drained, Next}

-- a new topic is sound
pub Sound-new : (t : Topic) (log_limit clock : ℕ) → IsSound (new_topic t log_limit clock)
Sound-new t log_limit clock = record {
  rises = tt;
  above_base = λ r k. absurd k;
  frontier = refl;
  past = λ r k. absurd k;
  base_past = lt_irrefl zero_stamp;
  own = λ p k. absurd k;
  by_id = tt;
  one_part = λ p q k. absurd k;
  differ = λ p q k. absurd k;
  above = λ p k. absurd k;
  clock_keys = λ p k. absurd k;
  clock_frontier = omega arith;
  numbers = tt;
  queues = λ e k. absurd k;
  limit = omega arith;
}

-- ---- propose

-- a proposal of a part that isn't pending keeps a topic sound, where the log has room
pub Sound-proposed : (floor : Stamp) (part : TopicPart) (x : TopicState) → IsSound x → part.topic ≡ x.topic → is_pending part.id x.pending ≡ false → length x.pending + length x.held < x.log_limit → IsSound (after_propose floor part x)
Sound-proposed floor part x h own new room =
    let n = next_number floor x in
    let p : Pending = record { part = part; number = n; learnt = None } in
    let far : x.frontier.n ≤ x.clock = h.clock_frontier in
    let more : length (insert_pending p x.pending) ≡ suc (length x.pending) = insert_length _ p x.pending in
    record {
      rises = h.rises;
      above_base = h.above_base;
      frontier = h.frontier;
      past = h.past;
      base_past = h.base_past;
      own = insert_one _ (λ (q : Pending). q.part.topic ≡ x.topic) x.pending p h.own own;
      by_id = RisesById-insert p x.pending h.by_id (λ q k e. not_pending part.id x.pending new q k e);
      one_part = insert_two _ (λ (a b : Pending). same_id a.part.id b.part.id ≡ true → a ≡ b) x.pending p h.one_part
          (λ q k e. absurd (not_pending part.id x.pending new q k e))
          (λ q k e. absurd (not_pending part.id x.pending new q k (id_turned part.id q.part.id e)))
          (λ e. refl);
      differ = insert_two _ (λ (a b : Pending). key a ≡ key b → a ≡ b) x.pending p h.differ
          (λ q k e. absurd (let l : (key q).n ≤ x.clock = h.clock_keys q k in let d : (key q).n ≡ n = ap (λ (s : Stamp). s.n) e in omega arith))
          (λ q k e. absurd (let l : (key q).n ≤ x.clock = h.clock_keys q k in let d : n ≡ (key q).n = ap (λ (s : Stamp). s.n) e in omega arith))
          (λ e. refl);
      above = insert_one _ (λ (q : Pending). stamp_lt x.frontier (key q) ≡ true) x.pending p h.above
          (lt_by_number x.frontier (key p) (omega arith));
      clock_keys = insert_one _ (λ (q : Pending). (key q).n ≤ n) x.pending p
          (λ q k. let l : (key q).n ≤ x.clock = h.clock_keys q k in omega arith) (omega arith);
      clock_frontier = omega arith;
      numbers = h.numbers;
      queues = h.queues;
      limit = omega arith;
    }

-- ---- learn

-- what it means that a topic learns a verdict for a transaction
pub record Learns (id : TxnId) (v : Decision) (x : TopicState) : Type 0 where
  pub part : Pending
  pub stands : In part x.pending
  pub is : part.part.id ≡ id
  pub verdict : v.id ≡ id
  pub row : has_row (record { n = part.number; topic = part.part.topic }) v.rows ≡ true
  pub again : has_learnt_other (decided_stamp v) part.learnt ≡ false
  pub new : (q : Pending) → In q x.pending → key q ≡ decided_stamp v → same_id q.part.id id ≡ true

new_case : (id : TxnId) (v : Decision) (p : Pending) (ps : List Pending) → p.part.id ≡ id → list_any (λ (z : Pending). not (same_id z.part.id p.part.id) && same_stamp (key z) (decided_stamp v)) ps ≡ false → (q : Pending) → In q ps → key q ≡ decided_stamp v → (b : Bool) → same_id q.part.id p.part.id ≡ b → same_id q.part.id id ≡ true
new_case id v p ps e none q k s true d = subst (λ z. same_id q.part.id z ≡ true) e d
new_case id v p ps e none q k s false d =
    absurd (true≢false (sym (any_from (λ (z : Pending). not (same_id z.part.id p.part.id) && same_stamp (key z) (decided_stamp v)) q ps k
    (rw (d, s) (same_stamp_itself (decided_stamp v)))) ∙ none))

learns_clash : (id : TxnId) (v : Decision) (x : TopicState) (p : Pending) → In p x.pending → p.part.id ≡ id → is_foreign v p ≡ false → clashes v p x.pending ≡ false → Learns id v x
learns_clash id v x p i e f c =
    let own = and_parts (same_id v.id p.part.id) (has_row (record { n = p.number; topic = p.part.topic }) v.rows) (not-false _ f) in
    record {
      part = p;
      stands = i;
      is = e;
      verdict = id_equal v.id p.part.id own.0 ∙ e;
      row = own.1;
      again = (or_parts (has_learnt_other (decided_stamp v) p.learnt) _ c).0;
      new = λ q k s. new_case id v p x.pending e (or_parts (has_learnt_other (decided_stamp v) p.learnt) _ c).1 q k s (same_id q.part.id p.part.id) refl;
    }

learns_checks : (id : TxnId) (v : Decision) (x : TopicState) (p : Pending) → In p x.pending → p.part.id ≡ id → (a b : Bool) → is_foreign v p ≡ a → clashes v p x.pending ≡ b → learn_fault_of v x.pending (Some p) ≡ None → Learns id v x
learns_checks id v x p i e true b f c k = absurd (not_none (subst_foreign f k))
  where
    not_none : {X : Type 0} {y : X} → Some y ≡ None → Prim.⊥
    not_none e = cc

    subst_foreign : is_foreign v p ≡ true → learn_fault_of v x.pending (Some p) ≡ None → Some Rattle.mcast_group.specs.declared.fault.LearnFault.LearnFault.Foreign ≡ None
    subst_foreign f k = sym (rw f refl) ∙ k
learns_checks id v x p i e false true f c k = absurd (not_none (subst_clash f c k))
  where
    not_none : {X : Type 0} {y : X} → Some y ≡ None → Prim.⊥
    not_none e = cc

    subst_clash : is_foreign v p ≡ false → clashes v p x.pending ≡ true → learn_fault_of v x.pending (Some p) ≡ None → Some Rattle.mcast_group.specs.declared.fault.LearnFault.LearnFault.Clash ≡ None
    subst_clash f c k = sym (rw (f, c) refl) ∙ k
learns_checks id v x p i e false false f c k = learns_clash id v x p i e f c

learns_found : (id : TxnId) (v : Decision) (x : TopicState) (o : Option Pending) → find_pending id x.pending ≡ o → learn_fault_of v x.pending o ≡ None → Learns id v x
learns_found id v x None f e = cc
learns_found id v x (Some p) f e =
    let k = found_part id x.pending p f in
    learns_checks id v x p k.stands k.is (is_foreign v p) (clashes v p x.pending) refl refl e

-- a verdict that isn't refused is learnt as Learns says
pub learns_is : (id : TxnId) (v : Decision) (x : TopicState) → learn_fault id v x ≡ None → Learns id v x
learns_is id v x e = learns_found id v x (find_pending id x.pending) refl e

-- the stamp learnt is at least the part's key
key_case : (p : Pending) (v : Decision) (o : Option Stamp) → p.learnt ≡ o → has_learnt_other (decided_stamp v) o ≡ false → has_row (record { n = p.number; topic = p.part.topic }) v.rows ≡ true → stamp_lt (decided_stamp v) (key p) ≡ false
key_case p v (Some s) e again row =
    let d : s ≡ decided_stamp v = same_stamp_is s (decided_stamp v) (not-false (same_stamp s (decided_stamp v)) again) in
    rw (e, d) (lt_irrefl (decided_stamp v))
key_case p v None e again row =
    let t : Stamp = record { n = p.number; topic = p.part.topic } in
    let f = any_found (same_stamp t) v.rows row in
    let d : t ≡ f.it = same_stamp_is t f.it f.passes in
    let k : key p ≡ t = ap (λ (o : Option Stamp). key (record p { learnt = o })) e in
    subst (λ z. stamp_lt (decided_stamp v) z ≡ false) (sym (k ∙ d)) (greatest_past v.rows f.it f.stands)

-- the stamp that is learnt is at least the part's key
pub key_past : (id : TxnId) (v : Decision) (x : TopicState) (l : Learns id v x) → stamp_lt (decided_stamp v) (key l.part) ≡ false
key_past id v x l = key_case l.part v l.part.learnt refl l.again l.row

-- learning a verdict keeps a topic sound
pub Sound-learned : (id : TxnId) (v : Decision) (x : TopicState) → IsSound x → Learns id v x → IsSound (after_learn id (decided_stamp v) x)
Sound-learned id v x h l = record {
  rises = h.rises;
  above_base = h.above_base;
  frontier = h.frontier;
  past = h.past;
  base_past = h.base_past;
  own = each_told id (decided_stamp v) x.pending (λ q. q.part.topic ≡ x.topic) (λ p k e. h.own p k) (λ p k e. h.own p k);
  by_id = RisesById-told id (decided_stamp v) x.pending h.by_id;
  one_part = each_two_told id (decided_stamp v) x.pending (λ p q. same_id p.part.id q.part.id ≡ true → p ≡ q)
      (λ p q k i e f s. h.one_part p q k i s)
      (λ p q k i e f s. absurd (apart p q e f s))
      (λ p q k i e f s. absurd (apart q p f e (id_turned p.part.id q.part.id s)))
      (λ p q k i e f s. ap (λ z. part_with_stamp z (decided_stamp v)) (h.one_part p q k i s));
  differ = each_two_told id (decided_stamp v) x.pending (λ p q. key p ≡ key q → p ≡ q)
      (λ p q k i e f s. h.differ p q k i s)
      (λ p q k i e f s. absurd (true≢false (sym (l.new q i (sym s)) ∙ f)))
      (λ p q k i e f s. absurd (true≢false (sym (l.new p k s) ∙ e)))
      (λ p q k i e f s. ap (λ z. part_with_stamp z (decided_stamp v)) (h.one_part p q k i (both p q e f)));
  above = each_told id (decided_stamp v) x.pending (λ q. stamp_lt x.frontier (key q) ≡ true) (λ p k e. h.above p k) (λ p k e. up);
  clock_keys = each_told id (decided_stamp v) x.pending (λ q. (key q).n ≤ max x.clock (decided_stamp v).n)
      (λ p k e. let m : (key p).n ≤ x.clock = h.clock_keys p k in omega arith) (λ p k e. omega arith);
  clock_frontier = let m : x.frontier.n ≤ x.clock = h.clock_frontier in omega arith;
  numbers = h.numbers;
  queues = h.queues;
  limit = let m = map_length (with_stamp id (decided_stamp v)) x.pending in let r : length x.pending + length x.held ≤ x.log_limit = h.limit in omega arith;
}
  where
    up : stamp_lt x.frontier (decided_stamp v) ≡ true
    up = lt_le x.frontier (key l.part) (decided_stamp v) (h.above l.part l.stands) (key_past id v x l)

    apart : (p q : Pending) → same_id p.part.id id ≡ true → same_id q.part.id id ≡ false → same_id p.part.id q.part.id ≡ true → Prim.⊥
    apart p q e f s =
        let a = id_equal p.part.id id e in let b = id_equal p.part.id q.part.id s in
        true≢false (sym (id_same q.part.id id (sym b ∙ a)) ∙ f)

    both : (p q : Pending) → same_id p.part.id id ≡ true → same_id q.part.id id ≡ true → same_id p.part.id q.part.id ≡ true
    both p q e f = id_same p.part.id q.part.id (id_equal p.part.id id e ∙ sym (id_equal q.part.id id f))

-- ---- cancel

filter_le : {X : Type 0} (p : X → Bool) (xs : List X) → length (filter p xs) ≤ length xs
filter_le p [] = omega arith
filter_le p (x ∷ xs) = by (p x) (filter_le p xs)
  where
    by : (b : Bool) → length (filter p xs) ≤ length xs → length (cond b (x ∷ filter p xs) (filter p xs)) ≤ suc (length xs)
    by true l = omega arith
    by false l = omega arith

-- cancelling keeps a topic sound
pub Sound-cancelled : (id : TxnId) (x : TopicState) → IsSound x → IsSound (after_cancel id x)
Sound-cancelled id x h = record {
  rises = h.rises;
  above_base = h.above_base;
  frontier = h.frontier;
  past = h.past;
  base_past = h.base_past;
  own = λ p k. h.own p (others id p x.pending k).stands;
  by_id = RisesById-without id x.pending h.by_id;
  one_part = λ p q k i. h.one_part p q (others id p x.pending k).stands (others id q x.pending i).stands;
  differ = λ p q k i. h.differ p q (others id p x.pending k).stands (others id q x.pending i).stands;
  above = λ p k. h.above p (others id p x.pending k).stands;
  clock_keys = λ p k. h.clock_keys p (others id p x.pending k).stands;
  clock_frontier = h.clock_frontier;
  numbers = h.numbers;
  queues = h.queues;
  limit = let l = filter_le (λ (p : Pending). not (same_id p.part.id id)) x.pending in let r : length x.pending + length x.held ≤ x.log_limit = h.limit in omega arith;
}

-- ---- release

-- after a push the last stamp is that of the new row
pub last_push : (base : Stamp) (rows : List LogRow) (r : LogRow) → r.stamp ≡ last_stamp base (rows ++ r ∷ [])
last_push base [] r = refl
last_push base (q ∷ rows) r = last_push q.stamp rows r

filter_lt_case : {X : Type 0} (n : ℕ) (b : Bool) (x : X) (xs : List X) → length xs < n → length (cond b (x ∷ xs) xs) < suc n
filter_lt_case n true x xs l = omega arith
filter_lt_case n false x xs l = omega arith

-- a filter that drops an item shortens the list
pub filter_lt : {X : Type 0} (p : X → Bool) (x : X) (xs : List X) → In x xs → p x ≡ false → length (filter p xs) < length xs
filter_lt p x [] h e = absurd h
filter_lt p x (y ∷ ys) (inl k) e =
    let f : p y ≡ false = subst (λ z. p z ≡ false) (sym k) e in
    let l = filter_le p ys in rw f (omega arith)
filter_lt p x (y ∷ ys) (inr k) e = filter_lt_case (length ys) (p y) y (filter p ys) (filter_lt p x ys k e)

-- the row and the item of a pending part of a sound topic are above its frontier
pub next_of : (x : TopicState) (p : Pending) → IsSound x → In p x.pending → Next x.frontier x.held (row_of p) (item_of p)
next_of x p h i = record { up = h.above p i; past = h.past; is = record { id = refl; stamp = refl } }

-- releasing the part that is due keeps a topic sound
pub Sound-released : (takes : Entry → Bool) (p : Pending) (x : TopicState) → IsSound x → Due p x → IsSound (after_release_of takes p x)
Sound-released takes p x h due =
    let i = due.least.stands in
    let up : stamp_lt x.frontier (key p) ≡ true = h.above p i in
    record {
      rises = Rises-push row_stamp x.held (row_of p) h.rises (λ q k. le_lt q.stamp x.frontier (key p) (h.past q k) up);
      above_base = push_one (λ (q : LogRow). stamp_lt x.base q.stamp ≡ true) x.held (row_of p) h.above_base
          (le_lt x.base x.frontier (key p) h.base_past up);
      frontier = last_push x.base x.held (row_of p);
      past = push_one (λ (q : LogRow). stamp_lt (key p) q.stamp ≡ false) x.held (row_of p)
          (λ q k. lt_asym q.stamp (key p) (le_lt q.stamp x.frontier (key p) (h.past q k) up)) (lt_irrefl (key p));
      base_past = lt_asym x.base (key p) (le_lt x.base x.frontier (key p) h.base_past up);
      own = λ q k. h.own q (others p.part.id q x.pending k).stands;
      by_id = RisesById-without p.part.id x.pending h.by_id;
      one_part = λ q r k j. h.one_part q r (others p.part.id q x.pending k).stands (others p.part.id r x.pending j).stands;
      differ = λ q r k j. h.differ q r (others p.part.id q x.pending k).stands (others p.part.id r x.pending j).stands;
      above = λ q k. let o = others p.part.id q x.pending k in
          strictly (key p) (key q) (due.least.least q o.stands)
          (λ e. true≢false (sym (id_same q.part.id p.part.id (ap (λ (z : Pending). z.part.id) (h.differ q p o.stands i (sym e)))) ∙ o.differs));
      clock_keys = λ q k. h.clock_keys q (others p.part.id q x.pending k).stands;
      clock_frontier = h.clock_keys p i;
      numbers = Numbers-map (entry_after takes x.frontier (item_of p)) (delivered_number takes x.frontier (item_of p)) x.subscriptions h.numbers;
      queues = λ e k. let m = In-map_cases (entry_after takes x.frontier (item_of p)) e x.subscriptions k in
          subst (λ (z : Entry). IsQueueOf x.base (key p) (x.held ++ row_of p ∷ []) z.from z.to z.accepted) m.is
          (Queue-delivered takes x.base x.frontier x.held (row_of p) (item_of p) m.from (next_of x p h i) (h.queues m.from m.stands));
      limit =
          let l = filter_lt (λ (q : Pending). not (same_id q.part.id p.part.id)) p x.pending i (rw (id_itself p.part.id) refl) in
          let m = length_push x.held (row_of p) in
          let r : length x.pending + length x.held ≤ x.log_limit = h.limit in omega arith;
    }

-- ---- subscriptions and the log

-- beginning a subscription of a free number keeps a topic sound
pub Sound-subscribed : (number : ℕ) (x : TopicState) → IsSound x → ((e : Entry) → In e x.subscriptions → e.number ≢ number) → IsSound (after_subscribe number x)
Sound-subscribed number x h free = record {
  rises = h.rises;
  above_base = h.above_base;
  frontier = h.frontier;
  past = h.past;
  base_past = h.base_past;
  own = h.own;
  by_id = h.by_id;
  one_part = h.one_part;
  differ = h.differ;
  above = h.above;
  clock_keys = h.clock_keys;
  clock_frontier = h.clock_frontier;
  numbers = rises_inserted (λ (e : Entry). e.number) _ x.subscriptions h.numbers free;
  queues = insert_one _ (λ (e : Entry). IsQueueOf x.base x.frontier x.held e.from e.to e.accepted) x.subscriptions _ h.queues
      (Queue-new x.base x.frontier x.held h.past);
  limit = h.limit;
}

-- ending a subscription keeps a topic sound
pub Sound-unsubscribed : (number : ℕ) (x : TopicState) → IsSound x → IsSound (after_unsubscribe number x)
Sound-unsubscribed number x h = record {
  rises = h.rises;
  above_base = h.above_base;
  frontier = h.frontier;
  past = h.past;
  base_past = h.base_past;
  own = h.own;
  by_id = h.by_id;
  one_part = h.one_part;
  differ = h.differ;
  above = h.above;
  clock_keys = h.clock_keys;
  clock_frontier = h.clock_frontier;
  numbers = Numbers-filter (λ (z : Entry). not (z.number == number)) x.subscriptions h.numbers;
  queues = λ e k. h.queues e (In-filter_cases (λ (z : Entry). not (z.number == number)) e x.subscriptions k).stands;
  limit = h.limit;
}

-- draining the log keeps a topic sound
pub Sound-drained : (x : TopicState) → IsSound x → IsSound (after_drain x)
Sound-drained x h = record {
  rises = tt;
  above_base = λ r k. absurd k;
  frontier = refl;
  past = λ r k. absurd k;
  base_past = lt_irrefl x.frontier;
  own = h.own;
  by_id = h.by_id;
  one_part = h.one_part;
  differ = h.differ;
  above = h.above;
  clock_keys = h.clock_keys;
  clock_frontier = h.clock_frontier;
  numbers = h.numbers;
  queues = λ e k. Queue-drained x.base x.frontier x.held e.from e.to e.accepted (h.queues e k);
  limit = let r : length x.pending + length x.held ≤ x.log_limit = h.limit in omega arith;
}
