-- What follows of queues, the agreed sequence and stamps.
use Rattle.delivery.proofs.Words.All.{◌≡◌, ℕ, zero, suc, ◌+◌, ◌<◌, Bool, true, false, not, ◌&&◌, ◌⊎◌, inl, inr, List, [], ◌∷◌, map, length, get_or, Option, Some, None, refl, sym, ap, subst, ◌∙◌, arith, list_any, true≢false, not-true, and_parts, and_from, lt-ltb, cases_order, filter, stamp_lt, TopicPart, topics_of, CommitRow, committed_id, stamp_of, agreed, EachOnce, SenderOrder, same_id, In, Rises, names, Topic, TxnId, Stamp, Item, Span, in_span, last_stamp, item_stamp, IsQueueOf, TopicState, Entry, EntryEnd, new_topic, find_entry, key, lt_irrefl, lt_asym, lt_le, id_equal, id_same, In-map, In-map_cases, In-filter, In-filter_cases, any_found, any_from, In-sorted, In-sorted_cases, Rises-sorted, Rises-filter, Rises-map, same_rising, Waits, none_some, Sound-new, log_row, item_at, is_due, due, World, start, new_topics, subscription_at, entry_at, entry_items, entry_to, accepted_at, end_at, span_at, frontier_at, Move, Answer, world_after, answer_to, run, answers_from, Run, answers_of, final_world, shared_marks}
use Rattle.mcast_txn.specs.declared.id.Sender.{Sender}
use Rattle.mcast_txn.specs.Span.{item_mark}
use Rattle.delivery.specs.Theorem.Laws
use Rattle.mcast_txn.specs.declared.mark.Mark.{Mark}
use Rattle.delivery.proofs.Machine.Invariant.{row, Consistent, Tied, Itemed, topic_in, HasEntry, Holds}
use Rattle.delivery.proofs.Machine.TopicSteps.{one_commit, key_ticket}
use Rattle.delivery.proofs.Machine.SubscriptionSteps.{found_entry, finds_entry}
use Rattle.delivery.proofs.Machine.InvariantIsKept.{Reached, tickets, step_reached}

-- ---- the start

-- what holds of each new topic holds of each that a run begins with
pub at_new : (P : TopicState → Type 0) (i log_limit : ℕ) (clocks : List ℕ) (j : ℕ) (t : Topic) → t.0 ≡ i + j → ((limit clock : ℕ) → P (new_topic t limit clock)) → P (get_or (new_topics i log_limit clocks) j (new_topic t 0 0))
at_new P i log_limit [] j t e h = h 0 0
at_new P i log_limit (clock ∷ clocks) zero t e h = subst (λ z. P (new_topic z log_limit clock)) (named t i (e ∙ plain i)) (h log_limit clock)
  where
    topic : ℕ → Topic
    topic n = record { 0 = n }

    named : (t : Topic) (i : ℕ) → t.0 ≡ i → t ≡ topic i
    named t i e = ap topic e

    plain : (i : ℕ) → i + 0 ≡ i
    plain i = omega arith
at_new P i log_limit (clock ∷ clocks) (suc j) t e h = at_new P (i + 1) log_limit clocks j t (omega arith) h

Tied-start : (t : Topic) (log_limit clock : ℕ) → Tied [] [] t (new_topic t log_limit clock)
Tied-start t log_limit clock = record {
  topic = refl;
  given = λ a k. absurd k;
  ticketed = λ p k. absurd k;
  decided = λ p k. absurd k;
  logged = λ l k. absurd k;
  placed = λ r k. absurd k;
  items = λ e k. absurd k;
  undrained = refl;
  sound = Sound-new t log_limit clock;
}

-- Reached holds at the start of a run
pub start_reached : (capacity log_limit : ℕ) (clocks : List ℕ) → Reached [] (start capacity log_limit clocks)
start_reached capacity log_limit clocks = record {
  inv = record {
    consistent = record {
      one_txn = λ a b k. absurd k;
      one_id = λ a b k. absurd k;
      apart = tt;
      from_ticket = λ r k. absurd k;
      greatest = λ r a k. absurd k;
      ordered = λ r q k. absurd k;
    };
    tied = λ t. at_new (Tied [] [] t) 0 log_limit clocks t.0 t (omega arith) (Tied-start t);
    serves = λ s. record {
      used = λ a k. absurd k;
      floored = λ r k. absurd k;
      flying = λ f e. none_some f e;
      left = λ k i. absurd i;
      left_older = λ k f i. absurd i;
      left_apart = tt;
    };
    voted = λ v k. absurd k;
    counted = λ r k. absurd k;
    subscribes = record {
      live = λ s l. absurd (omega arith);
      owned = λ t. at_new (λ z. (e : Entry) → In e z.subscriptions → Rattle.delivery.proofs.Machine.Invariant.Owned [] t e.number e.from) 0 log_limit clocks t.0 t (omega arith) (λ limit clock e i. absurd i);
      one = λ t. at_new (λ z. (e f : Entry) → In e z.subscriptions → In f z.subscriptions → e.number ≡ f.number → e ≡ f) 0 log_limit clocks t.0 t (omega arith) (λ limit clock e f i. absurd i);
      closed = λ s end e. none_some end e;
    };
  };
  flights = λ s f e. none_some f e;
  commits = refl;
}

-- Reached holds along a run
pub run_reached : (es : List Move) (past : List Answer) (w : World) → Reached past w → Reached (answers_from es w past) (run es w)
run_reached [] past w h = h
run_reached (e ∷ es) past w h = run_reached es (answer_to w e ∷ past) (world_after w e) (step_reached past w e h)

-- Reached holds after each run
pub reached : (r : Run) → Reached (answers_of r) (final_world r)
reached r = run_reached r.events [] (start r.capacity r.log_limit r.clocks) (start_reached r.capacity r.log_limit r.clocks)

-- ---- queues

abbrev span : Topic → Stamp → Option Stamp → Span
span t from to = record { topic = t; from = from; to = to }

-- a committed row that is pending or in the log is in the log where it is at most at the frontier
pub in_log : (ts : List CommitRow) (w : World) (t : Topic) (r : CommitRow) → Holds ts w → In r w.commits → stamp_lt (topic_in w.topics t).frontier r.stamp ≡ false → In (log_row r) (topic_in w.topics t).held ⊎ Waits r.txn.id (topic_in w.topics t).pending → In (log_row r) (topic_in w.topics t).held
in_log ts w t r inv i f (inl l) = l
in_log ts w t r inv i f (inr v) =
    let k = inv.tied t in let x = topic_in w.topics t in let p = v.part in let a = (k.ticketed p v.stands).ticket in
    let ids : a.txn.id ≡ r.txn.id = ap (λ (z : TopicPart). z.id) (k.ticketed p v.stands).part_is ∙ v.is in
    let txn : a.txn ≡ r.txn = inv.consistent.one_id a r (k.ticketed p v.stands).stands (inv.consistent.from_ticket r i) (id_same a.txn.id r.txn.id ids) in
    let below = inv.consistent.greatest r (row a.txn (key p)) i (key_ticket ts w.commits t x p inv.consistent k v.stands) txn in
    absurd (true≢false (sym (lt_le x.frontier (key p) r.stamp (k.sound.above p v.stands) below) ∙ f))

queue_is_due : (ts : List CommitRow) (w : World) (t : Topic) (from : Stamp) (to : Option Stamp) (accepted : List Item) → Holds ts w → let x = topic_in w.topics t in IsQueueOf x.base x.frontier x.held from to accepted → ((i : Item) → In i accepted → Itemed w.commits t i) → accepted ≡ due w.commits (span t from to) x.frontier
queue_is_due ts w t from to accepted inv h items =
    let x = topic_in w.topics t in
    same_rising item_stamp accepted (due w.commits (span t from to) x.frontier) h.rises
    (Rises-map stamp_of item_stamp (item_at t) (filter (is_due (span t from to) x.frontier) (agreed w.commits)) (λ r. refl)
    (Rises-filter stamp_of (is_due (span t from to) x.frontier) (agreed w.commits) (Rises-sorted stamp_of w.commits inv.consistent.apart)))
    to_due from_due
  where
    to_due : (i : Item) → In i accepted → In i (due w.commits (span t from to) (topic_in w.topics t).frontier)
    to_due i k =
        let x = topic_in w.topics t in let g = items i k in let e : g.row.stamp ≡ i.stamp = ap (λ (z : Item). z.stamp) g.is in
        subst (λ z. In z (due w.commits (span t from to) x.frontier)) g.is
        (In-map (item_at t) g.row (filter (is_due (span t from to) x.frontier) (agreed w.commits))
        (In-filter (is_due (span t from to) x.frontier) g.row (agreed w.commits) (In-sorted stamp_of g.row w.commits g.stands)
        (and_from (names t (topics_of g.row.txn.sends) && in_span from to g.row.stamp) (not (stamp_lt x.frontier g.row.stamp))
        (and_from (names t (topics_of g.row.txn.sends)) (in_span from to g.row.stamp) g.named (subst (λ z. in_span from to z ≡ true) (sym e) (h.within i k)))
        (ap not (subst (λ z. stamp_lt x.frontier z ≡ false) (sym e) (h.past i k))))))

    from_due : (i : Item) → In i (due w.commits (span t from to) (topic_in w.topics t).frontier) → In i accepted
    from_due i k =
        let x = topic_in w.topics t in let m = In-map_cases (item_at t) i (filter (is_due (span t from to) x.frontier) (agreed w.commits)) k in
        let n = In-filter_cases (is_due (span t from to) x.frontier) m.from (agreed w.commits) m.stands in let r = m.from in
        let a = and_parts (names t (topics_of r.txn.sends) && in_span from to r.stamp) (not (stamp_lt x.frontier r.stamp)) n.passes in
        let b = and_parts (names t (topics_of r.txn.sends)) (in_span from to r.stamp) a.0 in let old = In-sorted_cases stamp_of r w.commits n.stands in
        let l = in_log ts w t r inv old (not-true (stamp_lt x.frontier r.stamp) a.1) ((inv.tied t).placed r old b.0) in let j = h.all_rows (log_row r) l b.1 in
        let g = items j.item j.stands in let same : g.row ≡ r = one_commit ts w.commits inv.consistent g.row r g.stands old (ap (λ (z : Item). z.id) g.is ∙ j.is.id) in
        subst (λ z. In z accepted) (sym g.is ∙ (ap (item_at t) same ∙ m.is)) j.stands

-- what a queue has accepted: by what the closed subscription left, or by its entry
abbrev pub items_by : Option EntryEnd → Option Entry → List Item
items_by closed entry = elim closed [ None ↦ entry_items entry | Some end ↦ end.accepted ]

-- where a span ends: by what the closed subscription left, or by its entry
abbrev pub end_by : Option EntryEnd → Option Entry → Option Stamp
end_by closed entry = elim closed [ None ↦ entry_to entry | Some end ↦ Some end.to ]

-- the queue has accepted what its span says, and each item is a committed transaction's part
pub record Queued (w : World) (t : Topic) (from : Stamp) (to : Option Stamp) (accepted : List Item) : Type 0 where
  pub queue : let x = topic_in w.topics t in IsQueueOf x.base x.frontier x.held from to accepted
  pub items : (i : Item) → In i accepted → Itemed w.commits t i

queued_entry : (ts : List CommitRow) (w : World) (s : ℕ) (t : Topic) (from : Stamp) → Holds ts w → (h : HasEntry s from (topic_in w.topics t)) → (o : Option Entry) → find_entry s (topic_in w.topics t).subscriptions ≡ o → Queued w t from (entry_to o) (entry_items o)
queued_entry ts w s t from inv h None e = let f = finds_entry s (topic_in w.topics t).subscriptions h.entry h.stands h.number in none_some f.entry (sym e ∙ f.found)
queued_entry ts w s t from inv h (Some entry) e =
    let f = found_entry s (topic_in w.topics t).subscriptions entry e in let same : entry ≡ h.entry = inv.subscribes.one t entry h.entry f.stands h.stands (f.is ∙ sym h.number) in
    subst (λ z. Queued w t z entry.to entry.accepted) (ap (λ (z : Entry). z.from) same ∙ h.from_is) (record {
      queue = (inv.tied t).sound.queues entry f.stands;
      items = (inv.tied t).items entry f.stands;
    })

-- what each subscription's queue has accepted is so
pub queued : (ts : List CommitRow) (w : World) (s : ℕ) → Holds ts w → s < length w.subscriptions → Queued w (subscription_at w s).topic (subscription_at w s).from (end_at w s) (accepted_at w s)
queued ts w s inv l = (elim (subscription_at w s).closed as (λ (o : Option EntryEnd). (subscription_at w s).closed ≡ o → Queued w (subscription_at w s).topic (subscription_at w s).from (end_by o (entry_at w s)) (items_by o (entry_at w s))) [
  | None ↦ λ e. queued_entry ts w s (subscription_at w s).topic (subscription_at w s).from inv (inv.subscribes.live s l e) (entry_at w s) refl
  | Some end ↦ λ e. (let k = inv.subscribes.closed s end e in record { queue = k.queue; items = k.items })
]) refl

-- the stamp of the last row of the log is the frontier
pub frontier_is : (ts : List CommitRow) (w : World) (t : Topic) → Holds ts w → (topic_in w.topics t).frontier ≡ frontier_at w t
frontier_is ts w t inv = let k = inv.tied t in k.sound.frontier ∙ ap (λ z. last_stamp z (topic_in w.topics t).held) k.undrained

-- what a subscription's queue has accepted is what is due to it
pub accepted_is_due : Laws.AcceptedIsDue
accepted_is_due r s l =
    let h = reached r in let w = final_world r in let t = (subscription_at w s).topic in let q = queued (tickets (answers_of r)) w s h.inv l in
    queue_is_due (tickets (answers_of r)) w t (subscription_at w s).from (end_at w s) (accepted_at w s) h.inv q.queue q.items
    ∙ (ap (due w.commits (span_at w s)) (frontier_is (tickets (answers_of r)) w t h.inv)
    ∙ ap (λ z. due z (span_at w s) (frontier_at w t)) (sym h.commits))

-- the commit list is what the core kept of it
pub commits_are_kept : Laws.CommitsAreKept
commits_are_kept r = sym (reached r).commits

-- ---- the agreed sequence

each_once_of : (ts cs rs : List CommitRow) → Consistent ts cs → ((q : CommitRow) → In q rs → In q cs) → Rises stamp_of rs → EachOnce committed_id stamp_of rs
each_once_of ts cs [] all sub up = tt
each_once_of ts cs (x ∷ xs) all sub up = (
  (λ y k. ((λ e. differ x y (up.0 y k) (ap stamp_of (one_commit ts cs all x y (sub x (inl refl)) (sub y (inr k)) e))), differ x y (up.0 y k))),
  each_once_of ts cs xs all (λ q k. sub q (inr k)) up.1,
)
  where
    differ : (x y : CommitRow) → stamp_lt x.stamp y.stamp ≡ true → x.stamp ≡ y.stamp → Prim.⊥
    differ x y l e = true≢false (sym l ∙ (ap (λ z. stamp_lt z y.stamp) e ∙ lt_irrefl y.stamp))

agreed_in : (cs : List CommitRow) (q : CommitRow) → In q (agreed cs) → In q cs
agreed_in cs q k = In-sorted_cases stamp_of q cs k

-- no id and no stamp is twice in the agreed sequence
pub agreed_once : Laws.AgreedOnce
agreed_once r =
    let h = reached r in
    subst (λ z. EachOnce committed_id stamp_of (agreed z)) (sym h.commits)
    (each_once_of (tickets (answers_of r)) (final_world r).commits (agreed (final_world r).commits) h.inv.consistent (agreed_in (final_world r).commits)
    (Rises-sorted stamp_of (final_world r).commits h.inv.consistent.apart))

sender_order_of : (ts cs rs : List CommitRow) → Consistent ts cs → ((q : CommitRow) → In q rs → In q cs) → Rises stamp_of rs → SenderOrder committed_id rs
sender_order_of ts cs [] all sub up = tt
sender_order_of ts cs (x ∷ xs) all sub up = (
  (λ y k e. lt-ltb x.txn.id.seq y.txn.id.seq (elim (cases_order x.txn.id.seq y.txn.id.seq) [
    | inl d ↦ absurd (same x y (up.0 y k) (one_commit ts cs all x y (sub x (inl refl)) (sub y (inr k)) (ids x.txn.id y.txn.id e d)))
    | inr (inl l) ↦ l
    | inr (inr l) ↦ absurd (true≢false (sym (all.ordered y x (sub y (inr k)) (sub x (inl refl)) (ap (λ (z : Sender). z.0) (sym e)) l) ∙ lt_asym x.stamp y.stamp (up.0 y k)))
  ])),
  sender_order_of ts cs xs all (λ q k. sub q (inr k)) up.1,
)
  where
    same : (x y : CommitRow) → stamp_lt x.stamp y.stamp ≡ true → x ≡ y → Prim.⊥
    same x y l e = true≢false (sym l ∙ (ap (λ (z : CommitRow). stamp_lt z.stamp y.stamp) e ∙ lt_irrefl y.stamp))

    id : Sender → ℕ → TxnId
    id s n = record { sender = s; seq = n }

    ids : (a b : TxnId) → a.sender ≡ b.sender → a.seq ≡ b.seq → a ≡ b
    ids a b e d = ap (λ (z : Sender). id z a.seq) e ∙ ap (id b.sender) d

-- each sender's transactions are in its order in the agreed sequence
pub agreed_in_sender_order : Laws.AgreedInSenderOrder
agreed_in_sender_order r =
    let h = reached r in
    subst (λ z. SenderOrder committed_id (agreed z)) (sym h.commits)
    (sender_order_of (tickets (answers_of r)) (final_world r).commits (agreed (final_world r).commits) h.inv.consistent (agreed_in (final_world r).commits)
    (Rises-sorted stamp_of (final_world r).commits h.inv.consistent.apart))

-- ---- two subscriptions

abbrev place_stamp : Mark → Stamp
place_stamp p = p.stamp

abbrev is_in : List Item → Mark → Bool
is_in items p = list_any (λ i. same_id i.id p.id) items

abbrev place : TxnId → Stamp → Mark
place id stamp = record { id = id; stamp = stamp }

-- what stands in both
shared_to : (cs : List CommitRow) (ts : List CommitRow) (t u : Topic) (xs ys : List Item) → Consistent ts cs → ((i : Item) → In i xs → Itemed cs t i) → ((i : Item) → In i ys → Itemed cs u i) → (p : Mark) → In p (shared_marks xs ys) → In p (shared_marks ys xs)
shared_to cs ts t u xs ys all hx hy p k =
    let m = In-filter_cases (is_in ys) p (map item_mark xs) k in let n = In-map_cases item_mark p xs m.stands in let f = any_found (λ (i : Item). same_id i.id p.id) ys m.passes in
    let a = hx n.from n.stands in let b = hy f.it f.stands in let ida : a.row.txn.id ≡ p.id = ap (λ (z : Item). z.id) a.is ∙ ap (λ (z : Mark). z.id) n.is in
    let idb : b.row.txn.id ≡ p.id = ap (λ (z : Item). z.id) b.is ∙ id_equal f.it.id p.id f.passes in
    let same : b.row ≡ a.row = one_commit ts cs all b.row a.row b.stands a.stands (idb ∙ sym ida) in
    let stamp : f.it.stamp ≡ p.stamp = ap (λ (z : Item). z.stamp) (sym b.is) ∙ (ap stamp_of same ∙ (ap (λ (z : Item). z.stamp) a.is ∙ ap (λ (z : Mark). z.stamp) n.is)) in
    let e : item_mark f.it ≡ p = ap (λ z. place z f.it.stamp) (id_equal f.it.id p.id f.passes) ∙ ap (place p.id) stamp in
    In-filter (is_in xs) p (map item_mark ys)
    (subst (λ z. In z (map item_mark ys)) e (In-map item_mark f.it ys f.stands))
    (any_from (λ (i : Item). same_id i.id p.id) n.from xs n.stands (id_same n.from.id p.id (ap (λ (z : Mark). z.id) n.is)))

shared_rises : (xs ys : List Item) → Rises item_stamp xs → Rises place_stamp (shared_marks xs ys)
shared_rises xs ys h = Rises-filter place_stamp (is_in ys) (map item_mark xs) (Rises-map item_stamp place_stamp item_mark xs (λ i. refl) h)

-- two subscriptions have the transactions that they share in one order
pub shared_in_one_order : Laws.SharedInOneOrder
shared_in_one_order r s q l m =
    let h = reached r in let w = final_world r in let a = queued (tickets (answers_of r)) w s h.inv l in let b = queued (tickets (answers_of r)) w q h.inv m in
    let xs = accepted_at w s in let ys = accepted_at w q in
    same_rising place_stamp (shared_marks xs ys) (shared_marks ys xs) (shared_rises xs ys a.queue.rises) (shared_rises ys xs b.queue.rises)
    (shared_to w.commits (tickets (answers_of r)) (subscription_at w s).topic (subscription_at w q).topic xs ys h.inv.consistent a.items b.items)
    (shared_to w.commits (tickets (answers_of r)) (subscription_at w q).topic (subscription_at w s).topic ys xs h.inv.consistent b.items a.items)
