-- A transaction is made, is decided, is withdrawn, and its tickets are cancelled.
use Rattle.delivery.proofs.Words.All.{◌≡◌, ◌≢◌, ℕ, zero, suc, ◌+◌, ◌<◌, ◌≤◌, ◌==◌, Bool, true, false, cond, ◌⊎◌, inl, inr, List, [], ◌∷◌, ◌++◌, map, length, set, Some, None, refl, sym, ap, subst, ◌∙◌, arith, ltb, true≢false, eqb-true, eq-eqb, stamp_lt, greatest, topics_of, insert_topic, Transaction, CommitRow, stamp_of, same_id, In, names, Decision, Topic, TxnId, SentMessage, Stamp, Item, TopicState, new_topic, after_cancel, lt_irrefl, lt_asym, le_lt, id_equal, id_same, same_topics, In-append_left, In-push, In-map_cases, any_found, at_set, at_set_within, push_one, Waits, Waits-without, others, some_same, none_some, log_row, World, Undecided, Leftover, SenderState, Subscription, new_sender, has_ticket, is_complete, leftover, find_leftover, drop_leftover}
use Rattle.mcast_txn.proofs.Members.{all_at, push_two}
use Rattle.mcast_txn.proofs.Sorting.{Apart-push}
use Rattle.mcast_txn.proofs.Greatest.{greatest_in, greatest_past}
use Rattle.mcast_group.proofs.Keeping.{Sound-cancelled}
use Rattle.delivery.proofs.Machine.Invariant.{row, Consistent, Uncommitted, Committed, Itemed, Tied, topic_in, OneEach, LeftApart, Flies, IsLeft, Serves, sender_in, Voted, HasVote, sub_in, Subscribes, Inv, Holds}
use Rattle.delivery.proofs.Machine.TopicSteps.{flies_uncommitted, Entries-same, at_topic, Subscribes-topic, Serves-waiting}
use Rattle.delivery.proofs.Machine.ProposeStep.{within_senders}

-- ---- a change of one sender

-- writing a sender of which Serves holds keeps the invariant
pub sender_step : (ts : List CommitRow) (w : World) (s : ℕ) (x : SenderState) → Holds ts w → Serves ts w.commits w.topics s x → Inv ts w.commits w.verdicts w.topics (set w.senders s x) w.subscriptions
sender_step ts w s x inv h = record {
  consistent = inv.consistent;
  tied = inv.tied;
  serves = λ d. at_set (λ (z : SenderState). Serves ts w.commits w.topics d z) w.senders s d x new_sender
      (λ e. subst (λ v. Serves ts w.commits w.topics v x) (sym e) h) (inv.serves d);
  voted = inv.voted;
  counted = inv.counted;
  subscribes = inv.subscribes;
}

-- ---- a transaction is made

topic_case : (s : Topic) (u : Topic) (us : List Topic) (a b : Bool) → (u.0 == s.0) ≡ b → (s.0 == u.0) ≡ b → names s (insert_topic s us) ≡ true → names s (cond a (s ∷ u ∷ us) (cond b (u ∷ us) (u ∷ insert_topic s us))) ≡ true
topic_case s u us true b e f ih = rw (eq-eqb s.0 s.0 refl) refl
topic_case s u us false true e f ih = rw e refl
topic_case s u us false false e f ih = rw e ih

turn_eq : (a b : ℕ) → (a == b) ≡ (b == a)
turn_eq a b = by (a == b) (b == a) refl refl
  where
    by : (x y : Bool) → (a == b) ≡ x → (b == a) ≡ y → (a == b) ≡ (b == a)
    by true y e f = e ∙ sym (eq-eqb b a (sym (eqb-true a b e)))
    by false true e f = absurd (true≢false (sym (eq-eqb a b (sym (eqb-true b a f))) ∙ e))
    by false false e f = e ∙ sym f

-- a topic set names the topic that was inserted into it
pub names_inserted : (s : Topic) (us : List Topic) → names s (insert_topic s us) ≡ true
names_inserted s [] = rw (eq-eqb s.0 s.0 refl) refl
names_inserted s (u ∷ us) = topic_case s u us (ltb s.0 u.0) (s.0 == u.0) (turn_eq u.0 s.0) refl (names_inserted s us)

-- sender s's transaction of this seq, which has no ticket yet
abbrev pub new_flight : ℕ → ℕ → List SentMessage → Undecided
new_flight s seq sends = record { txn = record { id = record { sender = record { 0 = s }; seq = seq }; sends = sends }; given = []; mark = None }

none_yet : (ts cs : List CommitRow) (topics : List TopicState) (s : ℕ) (x : SenderState) (first : SentMessage) (others : List SentMessage) → Serves ts cs topics s x → (a : CommitRow) → In a ts → same_id a.txn.id (new_flight s (x.seq + 1) (first ∷ others)).txn.id ≡ true → Prim.⊥
none_yet ts cs topics s x first others h a k e =
    let d = id_equal a.txn.id (new_flight s (x.seq + 1) (first ∷ others)).txn.id e in let l : a.txn.id.seq ≤ x.seq = h.used a k (ap (λ (z : TxnId). z.sender.0) d) in
    let m : a.txn.id.seq ≡ x.seq + 1 = ap (λ (z : TxnId). z.seq) d in omega arith

-- making a transaction keeps the invariant
pub flown_step : (ts : List CommitRow) (w : World) (s : ℕ) (first : SentMessage) (others : List SentMessage) → Holds ts w → let x = sender_in w.senders s in Inv ts w.commits w.verdicts w.topics (set w.senders s (record x { seq = x.seq + 1; flight = Some (new_flight s (x.seq + 1) (first ∷ others)) })) w.subscriptions
flown_step ts w s first others inv =
    let x = sender_in w.senders s in let h = inv.serves s in let f = new_flight s (x.seq + 1) (first ∷ others) in let none = none_yet ts w.commits w.topics s x first others h in
    sender_step ts w s (record x { seq = x.seq + 1; flight = Some f }) inv (record {
      used = λ a k e. let l : a.txn.id.seq ≤ x.seq = h.used a k e in omega arith;
      floored = h.floored;
      flying = λ y e. subst (λ (z : Undecided). Flies ts w.commits w.topics s (x.seq + 1) x.floor z) (some_same f y e) (record {
        sender = refl;
        seq_le = omega arith;
        newest = λ r k d. let l : r.txn.id.seq ≤ x.seq = h.used r (inv.consistent.from_ticket r k) d in omega arith;
        same = λ a k d. absurd (none a k d);
        higher = λ a k d. absurd (none a k (id_same a.txn.id f.txn.id (ap (λ (z : Transaction). z.id) d)));
        given_in = λ g i. absurd i;
        given_all = λ a k d. absurd (none a k (id_same a.txn.id f.txn.id (ap (λ (z : Transaction). z.id) d)));
        given_apart = tt;
        waits = λ a k d. absurd (none a k (id_same a.txn.id f.txn.id (ap (λ (z : Transaction). z.id) d)));
        some = first.topic;
        some_named = names_inserted first.topic (topics_of others);
      });
      left = λ k i. let g = h.left k i in record { sender = g.sender; seq_le = let l : k.id.seq ≤ x.seq = g.seq_le in omega arith; uncommitted = g.uncommitted; waits = g.waits };
      left_older = λ k y i e. subst (λ (z : Undecided). k.id.seq < z.txn.id.seq) (some_same f y e)
          (let l : k.id.seq ≤ x.seq = (h.left k i).seq_le in omega arith);
      left_apart = h.left_apart;
    })

-- a flight is marked
pub marked_step : (ts : List CommitRow) (w : World) (s : ℕ) (f g : Undecided) → Holds ts w → (sender_in w.senders s).flight ≡ Some f → g.txn ≡ f.txn → g.given ≡ f.given → let x = sender_in w.senders s in Inv ts w.commits w.verdicts w.topics (set w.senders s (record x { flight = Some g })) w.subscriptions
marked_step ts w s f g inv e txn given =
    let x = sender_in w.senders s in let h = inv.serves s in let k = h.flying f e in
    sender_step ts w s (record x { flight = Some g }) inv (record {
      used = h.used;
      floored = h.floored;
      flying = λ y d. subst (λ (z : Undecided). Flies ts w.commits w.topics s x.seq x.floor z) (some_same g y d) (moved k txn given);
      left = h.left;
      left_older = λ l y i d. subst (λ (z : Undecided). l.id.seq < z.txn.id.seq) (some_same g y d)
          (subst (λ (z : Transaction). l.id.seq < z.id.seq) (sym txn) (h.left_older l f i e));
      left_apart = h.left_apart;
    })
  where
    moved : Flies ts w.commits w.topics s (sender_in w.senders s).seq (sender_in w.senders s).floor f → g.txn ≡ f.txn → g.given ≡ f.given → Flies ts w.commits w.topics s (sender_in w.senders s).seq (sender_in w.senders s).floor g
    moved k a b =
        let by = λ (P : Transaction → List Stamp → Type 0) (p : P f.txn f.given). subst (λ z. P g.txn z) (sym b) (subst (λ z. P z f.given) (sym a) p) in
        record {
          sender = by (λ z v. z.id.sender.0 ≡ s) k.sender;
          seq_le = by (λ z v. z.id.seq ≤ (sender_in w.senders s).seq) k.seq_le;
          newest = by (λ z v. (r : CommitRow) → In r w.commits → r.txn.id.sender.0 ≡ s → r.txn.id.seq < z.id.seq) k.newest;
          same = by (λ z v. (r : CommitRow) → In r ts → same_id r.txn.id z.id ≡ true → r.txn ≡ z) k.same;
          higher = by (λ z v. (r : CommitRow) → In r ts → r.txn ≡ z → stamp_lt (sender_in w.senders s).floor r.stamp ≡ true) k.higher;
          given_in = by (λ z v. (i : Stamp) → In i v → In (row z i) ts) k.given_in;
          given_all = by (λ z v. (r : CommitRow) → In r ts → r.txn ≡ z → In r.stamp v) k.given_all;
          given_apart = by (λ z v. OneEach v) k.given_apart;
          waits = by (λ z v. (r : CommitRow) → In r ts → r.txn ≡ z → Waits z.id (topic_in w.topics r.stamp.topic).pending) k.waits;
          some = k.some;
          some_named = by (λ z v. names k.some (topics_of z.sends) ≡ true) k.some_named;
        }

-- ---- a decision

-- sender s's undecided transaction is f, and each topic that it names gave a ticket
pub record Decides (w : World) (s : ℕ) (f : Undecided) : Type 0 where
  pub flight : (sender_in w.senders s).flight ≡ Some f
  pub complete : is_complete f ≡ true

-- the stamp of a decision: the greatest ticket
abbrev pub stamp_by : Undecided → Stamp
stamp_by f = greatest f.given

-- its row of the commit list
abbrev pub row_by : Undecided → CommitRow
row_by f = row f.txn (stamp_by f)

-- its verdict
abbrev pub verdict_by : Undecided → Decision
verdict_by f = record { id = f.txn.id; rows = f.given }

-- sender s after the decision
abbrev pub decided_sender : World → ℕ → Undecided → SenderState
decided_sender w s f = record (sender_in w.senders s) { floor = stamp_by f; flight = None }

-- a ticket that t gave this transaction
pub record TicketOf (ts : List CommitRow) (txn : Transaction) (t : Topic) : Type 0 where
  pub it : CommitRow
  pub stands : In it ts
  pub txn_is : it.txn ≡ txn
  pub topic_is : it.stamp.topic ≡ t

-- what a decision comes to
record Deciding (ts : List CommitRow) (w : World) (s : ℕ) (f : Undecided) : Type 0 where
  flies : Flies ts w.commits w.topics s (sender_in w.senders s).seq (sender_in w.senders s).floor f
  ticket : In (row_by f) ts
  given : In (stamp_by f) f.given
  greatest : (a : CommitRow) → In a ts → a.txn ≡ f.txn → stamp_lt (stamp_by f) a.stamp ≡ false
  complete : (t : Topic) → names t (topics_of f.txn.sends) ≡ true → TicketOf ts f.txn t

-- each named topic gave a complete flight a ticket
pub complete_at : (ts : List CommitRow) (w : World) (s : ℕ) (f : Undecided) → Flies ts w.commits w.topics s (sender_in w.senders s).seq (sender_in w.senders s).floor f → is_complete f ≡ true → (t : Topic) → names t (topics_of f.txn.sends) ≡ true → TicketOf ts f.txn t
complete_at ts w s f g all t n =
    let q = any_found (λ (u : Topic). u.0 == t.0) (topics_of f.txn.sends) n in let m = all_at (λ (u : Topic). has_ticket u f.given) q.it (topics_of f.txn.sends) all q.stands in
    let v = any_found (λ (a : Stamp). a.topic.0 == q.it.0) f.given m in
    record {
      it = row f.txn v.it;
      stands = g.given_in v.it v.stands;
      txn_is = refl;
      topic_is = same_topics v.it.topic t (eqb-true v.it.topic.0 q.it.0 v.passes ∙ eqb-true q.it.0 t.0 q.passes);
    }

decision : (ts : List CommitRow) (w : World) (s : ℕ) (f : Undecided) → Holds ts w → Decides w s f → Deciding ts w s f
decision ts w s f inv d =
    let g = (inv.serves s).flying f d.flight in let all = complete_at ts w s f g d.complete in let some = all g.some g.some_named in
    let i = there f.given some.it.stamp (g.given_all some.it some.stands some.txn_is) in
    record { flies = g; ticket = g.given_in (stamp_by f) i; given = i; greatest = λ a k e. greatest_past f.given a.stamp (g.given_all a k e); complete = all }
  where
    there : (xs : List Stamp) (a : Stamp) → In a xs → In (greatest xs) xs
    there xs a i = elim (greatest_in xs) [ inl k ↦ k | inr e ↦ absurd (subst (λ z. In a z) e i) ]

decided_past : (ts : List CommitRow) (w : World) (s : ℕ) (f : Undecided) (q : CommitRow) → Holds ts w → Deciding ts w s f → In q w.commits → q.txn.id.sender.0 ≡ s → stamp_lt q.stamp (stamp_by f) ≡ true
decided_past ts w s f q inv dec k e = le_lt q.stamp (sender_in w.senders s).floor (stamp_by f) ((inv.serves s).floored q k e) (dec.flies.higher (row_by f) dec.ticket refl)

Consistent-decided : (ts : List CommitRow) (w : World) (s : ℕ) (f : Undecided) → Holds ts w → Deciding ts w s f → Consistent ts (w.commits ++ row_by f ∷ [])
Consistent-decided ts w s f inv dec =
    let all = inv.consistent in let g = dec.flies in let r = row_by f in record {
      one_txn = all.one_txn;
      one_id = all.one_id;
      apart = Apart-push stamp_of w.commits r all.apart (λ q k e.
          flies_uncommitted ts w.commits w.topics s _ _ f g q k
          (id_same q.txn.id f.txn.id (ap (λ (z : Transaction). z.id) (all.one_txn q r (all.from_ticket q k) dec.ticket e))));
      from_ticket = push_one (λ (q : CommitRow). In q ts) w.commits r all.from_ticket dec.ticket;
      greatest = λ q a k. push_one (λ (z : CommitRow). In a ts → a.txn ≡ z.txn → stamp_lt z.stamp a.stamp ≡ false) w.commits r
          (λ z l. all.greatest z a l) (λ l e. dec.greatest a l e) q k;
      ordered = push_two (λ (x y : CommitRow). x.txn.id.sender.0 ≡ y.txn.id.sender.0 → x.txn.id.seq < y.txn.id.seq → stamp_lt x.stamp y.stamp ≡ true) w.commits r
          all.ordered
          (λ q k e l. decided_past ts w s f q inv dec k (e ∙ g.sender))
          (λ q k e l. let m : q.txn.id.seq < f.txn.id.seq = g.newest q k (sym e ∙ g.sender) in absurd (omega arith))
          (λ e l. absurd (omega arith));
    }

Committed-more : (cs : List CommitRow) (r : CommitRow) (id : TxnId) (stamp : Stamp) → Committed cs id stamp → Committed (cs ++ r ∷ []) id stamp
Committed-more cs r id stamp h = record { row = h.row; stands = In-append_left h.row cs (r ∷ []) h.stands; id_is = h.id_is; stamp_is = h.stamp_is }

Itemed-more : (cs : List CommitRow) (r : CommitRow) (t : Topic) (i : Item) → Itemed cs t i → Itemed (cs ++ r ∷ []) t i
Itemed-more cs r t i h = record { row = h.row; stands = In-append_left h.row cs (r ∷ []) h.stands; is = h.is; named = h.named }

Tied-decided : (ts : List CommitRow) (w : World) (s : ℕ) (f : Undecided) → Holds ts w → Deciding ts w s f → (u : Topic) → Tied ts (w.commits ++ row_by f ∷ []) u (topic_in w.topics u)
Tied-decided ts w s f inv dec u =
    let h = inv.tied u in let r = row_by f in record {
      topic = h.topic;
      given = h.given;
      ticketed = h.ticketed;
      decided = λ p k z e. Committed-more w.commits r p.part.id z (h.decided p k z e);
      logged = λ l k. let g = h.logged l k in record { row = g.row; stands = In-append_left g.row w.commits (r ∷ []) g.stands; is = g.is; named = g.named };
      placed = push_one (λ (q : CommitRow). names u (topics_of q.txn.sends) ≡ true → In (log_row q) (topic_in w.topics u).held ⊎ Waits q.txn.id (topic_in w.topics u).pending) w.commits r h.placed
          (λ e. let a = dec.complete u e in
          inr (subst (λ z. Waits f.txn.id (topic_in w.topics z).pending) a.topic_is (dec.flies.waits a.it a.stands a.txn_is)));
      items = λ e k i l. Itemed-more w.commits r u i (h.items e k i l);
      undrained = h.undrained;
      sound = h.sound;
    }

left_more : (cs : List CommitRow) (topics : List TopicState) (s seq : ℕ) (k : Leftover) (r : CommitRow) → (same_id r.txn.id k.id ≡ true → Prim.⊥) → IsLeft cs topics s seq k → IsLeft (cs ++ r ∷ []) topics s seq k
left_more cs topics s seq k r ne h = record {
  sender = h.sender;
  seq_le = h.seq_le;
  uncommitted = push_one (λ (q : CommitRow). same_id q.txn.id k.id ≡ true → Prim.⊥) cs r h.uncommitted ne;
  waits = h.waits;
}

Serves-decided : (ts : List CommitRow) (w : World) (s : ℕ) (f : Undecided) → Holds ts w → Decides w s f → Deciding ts w s f → (d : ℕ) → Serves ts (w.commits ++ row_by f ∷ []) w.topics d (sender_in (set w.senders s (decided_sender w s f)) d)
Serves-decided ts w s f inv is dec d =
    let r = row_by f in let cs = w.commits ++ r ∷ [] in
    at_set_within (λ (x : SenderState). Serves ts cs w.topics d x) w.senders s d (decided_sender w s f) new_sender
    (within_senders w.senders s f is.flight)
    (λ e. subst (λ v. Serves ts cs w.topics v (decided_sender w s f)) (sym e) (let h = inv.serves s in record {
      used = h.used;
      floored = push_one (λ (q : CommitRow). q.txn.id.sender.0 ≡ s → stamp_lt r.stamp q.stamp ≡ false) w.commits r
          (λ q k i. lt_asym q.stamp r.stamp (decided_past ts w s f q inv dec k i))
          (λ i. lt_irrefl r.stamp);
      flying = λ y i. none_some y i;
      left = λ k i. left_more w.commits w.topics s (sender_in w.senders s).seq k r
          (λ n. let l : k.id.seq < f.txn.id.seq = h.left_older k f i is.flight in
          let m : f.txn.id.seq ≡ k.id.seq = ap (λ (z : TxnId). z.seq) (id_equal f.txn.id k.id n) in omega arith)
          (h.left k i);
      left_older = λ k y i n. none_some y n;
      left_apart = h.left_apart;
    }))
    (λ ne. let h = inv.serves d in record {
      used = h.used;
      floored = push_one (λ (q : CommitRow). q.txn.id.sender.0 ≡ d → stamp_lt (sender_in w.senders d).floor q.stamp ≡ false) w.commits r h.floored
          (λ i. absurd (ne (sym i ∙ dec.flies.sender)));
      flying = λ y i. let g = h.flying y i in record {
        sender = g.sender;
        seq_le = g.seq_le;
        newest = push_one (λ (q : CommitRow). q.txn.id.sender.0 ≡ d → q.txn.id.seq < y.txn.id.seq) w.commits r g.newest (λ j. absurd (ne (sym j ∙ dec.flies.sender)));
        same = g.same;
        higher = g.higher;
        given_in = g.given_in;
        given_all = g.given_all;
        given_apart = g.given_apart;
        waits = g.waits;
        some = g.some;
        some_named = g.some_named;
      };
      left = λ k i. left_more w.commits w.topics d (sender_in w.senders d).seq k r
          (λ n. ne (sym (h.left k i).sender ∙ (ap (λ (z : TxnId). z.sender.0) (sym (id_equal f.txn.id k.id n)) ∙ dec.flies.sender)))
          (h.left k i);
      left_older = h.left_older;
      left_apart = h.left_apart;
    })

-- where no two are of one topic, equal topics have one ticket
one_each : (given : List Stamp) → OneEach given → (a b : Stamp) → In a given → In b given → a.topic ≡ b.topic → a ≡ b
one_each [] h a b i j e = absurd i
one_each (g ∷ rest) h a b (inl i) (inl j) e = sym i ∙ j
one_each (g ∷ rest) h a b (inl i) (inr j) e = absurd (h.0 b j (ap (λ (z : Stamp). z.topic.0) i ∙ ap (λ (z : Topic). z.0) e))
one_each (g ∷ rest) h a b (inr i) (inl j) e = absurd (h.0 a i (ap (λ (z : Stamp). z.topic.0) j ∙ ap (λ (z : Topic). z.0) (sym e)))
one_each (g ∷ rest) h a b (inr i) (inr j) e = one_each rest h.1 a b i j e

Voted-commits : (ts cs : List CommitRow) (v : Decision) (r : CommitRow) → Voted ts cs v → Voted ts (cs ++ r ∷ []) v
Voted-commits ts cs v r h = record { row = h.row; stands = In-append_left h.row cs (r ∷ []) h.stands; id_is = h.id_is; stamp_is = h.stamp_is; one_row = h.one_row; all = h.all }

HasVote-more : (vs : List Decision) (v : Decision) (r : CommitRow) → HasVote vs r → HasVote (vs ++ v ∷ []) r
HasVote-more vs v r h = record { verdict = h.verdict; stands = In-append_left h.verdict vs (v ∷ []) h.stands; id_is = h.id_is }

Subscribes-commits : (cs : List CommitRow) (topics : List TopicState) (subs : List Subscription) (r : CommitRow) → Subscribes cs topics subs → Subscribes (cs ++ r ∷ []) topics subs
Subscribes-commits cs topics subs r h = record {
  live = h.live;
  owned = h.owned;
  one = h.one;
  closed = λ s end e. let k = h.closed s end e in record { queue = k.queue; items = λ i l. Itemed-more cs r (sub_in subs s).topic i (k.items i l) };
}

decision_step : (ts : List CommitRow) (w : World) (s : ℕ) (f : Undecided) → Holds ts w → Decides w s f → Deciding ts w s f → Inv ts (w.commits ++ row_by f ∷ []) (w.verdicts ++ verdict_by f ∷ []) w.topics (set w.senders s (decided_sender w s f)) w.subscriptions
decision_step ts w s f inv is dec =
    let r = row_by f in let v = verdict_by f in record {
      consistent = Consistent-decided ts w s f inv dec;
      tied = Tied-decided ts w s f inv dec;
      serves = Serves-decided ts w s f inv is dec;
      voted = push_one (λ (z : Decision). Voted ts (w.commits ++ r ∷ []) z) w.verdicts v (λ z k. Voted-commits ts w.commits z r (inv.voted z k))
          (record {
            row = r;
            stands = In-push r w.commits;
            id_is = refl;
            stamp_is = refl;
            one_row = one_each f.given dec.flies.given_apart;
            all = λ a k e. dec.flies.given_all a k e;
          });
      counted = push_one (λ (z : CommitRow). HasVote (w.verdicts ++ v ∷ []) z) w.commits r (λ z k. HasVote-more w.verdicts v z (inv.counted z k))
          (record { verdict = v; stands = In-push v w.verdicts; id_is = refl });
      subscribes = Subscribes-commits w.commits w.topics w.subscriptions r inv.subscribes;
    }

-- a decision keeps the invariant
pub decide_step : (ts : List CommitRow) (w : World) (s : ℕ) (f : Undecided) → Holds ts w → Decides w s f → Inv ts (w.commits ++ row_by f ∷ []) (w.verdicts ++ verdict_by f ∷ []) w.topics (set w.senders s (decided_sender w s f)) w.subscriptions
decide_step ts w s f inv is = decision_step ts w s f inv is (decision ts w s f inv is)

-- ---- a withdrawal

-- what is in two lists is in the one or in the other
pub In-append_cases : {X : Type 0} (x : X) (xs ys : List X) → In x (xs ++ ys) → In x xs ⊎ In x ys
In-append_cases x [] ys h = inr h
In-append_cases x (y ∷ xs) ys (inl e) = inl (inl e)
In-append_cases x (y ∷ xs) ys (inr h) = elim (In-append_cases x xs ys h) [ inl k ↦ inl (inr k) | inr k ↦ inr k ]

LeftApart-append : (ks ls : List Leftover) → LeftApart ks → LeftApart ls → ((k l : Leftover) → In k ks → In l ls → k.id ≡ l.id → k.ticket.topic.0 ≢ l.ticket.topic.0) → LeftApart (ks ++ ls)
LeftApart-append [] ls h k ne = k
LeftApart-append (x ∷ ks) ls h k ne = (
  (λ l i. elim (In-append_cases l ks ls i) [ inl j ↦ h.0 l j | inr j ↦ ne x l (inl refl) j ]),
  LeftApart-append ks ls h.1 k (λ y l i. ne y l (inr i)),
)

LeftApart-given : (id : TxnId) (given : List Stamp) → OneEach given → LeftApart (map (leftover id) given)
LeftApart-given id [] h = tt
LeftApart-given id (g ∷ rest) h = (
  (λ l i e. let m = In-map_cases (leftover id) l rest i in
      λ d. h.0 m.from m.stands (d ∙ ap (λ (z : Leftover). z.ticket.topic.0) (sym m.is))),
  LeftApart-given id rest h.1,
)

-- a withdrawal keeps the invariant
pub withdrawn_step : (ts : List CommitRow) (w : World) (s : ℕ) (f : Undecided) → Holds ts w → (sender_in w.senders s).flight ≡ Some f → let x = sender_in w.senders s in Inv ts w.commits w.verdicts w.topics (set w.senders s (record x { flight = None; leftovers = x.leftovers ++ map (leftover f.txn.id) f.given })) w.subscriptions
withdrawn_step ts w s f inv e =
    let x = sender_in w.senders s in let h = inv.serves s in let g = h.flying f e in
    sender_step ts w s (record x { flight = None; leftovers = x.leftovers ++ map (leftover f.txn.id) f.given }) inv (record {
      used = h.used;
      floored = h.floored;
      flying = λ y i. none_some y i;
      left = λ k i. elim (In-append_cases k x.leftovers (map (leftover f.txn.id) f.given) i) [
        | inl j ↦ h.left k j
        | inr j ↦ (let m = In-map_cases (leftover f.txn.id) k f.given j in
            subst (λ z. IsLeft w.commits w.topics s x.seq z) m.is (record {
              sender = g.sender;
              seq_le = g.seq_le;
              uncommitted = flies_uncommitted ts w.commits w.topics s x.seq x.floor f g;
              waits = g.waits (row f.txn m.from) (g.given_in m.from m.stands) refl;
            }))
      ];
      left_older = λ k y i n. none_some y n;
      left_apart = LeftApart-append x.leftovers (map (leftover f.txn.id) f.given) h.left_apart (LeftApart-given f.txn.id f.given g.given_apart)
          (λ k l i j d. let m = In-map_cases (leftover f.txn.id) l f.given j in
          let a : k.id.seq < f.txn.id.seq = h.left_older k f i e in let b : k.id.seq ≡ f.txn.id.seq = ap (λ (z : TxnId). z.seq) d ∙ ap (λ (z : Leftover). z.id.seq) (sym m.is) in
          absurd (omega arith));
    })

-- ---- a cancelling

-- a leftover ticket of t, and those that stay
pub record Taken (t : Topic) (k : Leftover) (ks : List Leftover) : Type 0 where
  pub stands : In k ks
  pub topic : k.ticket.topic ≡ t

-- a leftover ticket that is found is in the list, and is of this topic
pub leftover_found : (t : Topic) (ks : List Leftover) (l : Leftover) → find_leftover t ks ≡ Some l → Taken t l ks
leftover_found t [] l e = cc
leftover_found t (k ∷ ks) l e = (elim (k.ticket.topic.0 == t.0) as (λ (b : Bool). (k.ticket.topic.0 == t.0) ≡ b → cond b (Some k) (find_leftover t ks) ≡ Some l → Taken t l (k ∷ ks)) [
  | true ↦ λ e d. (let same = some_same k l d in record { stands = inl same; topic = subst (λ (z : Leftover). z.ticket.topic ≡ t) same (same_topics k.ticket.topic t (eqb-true k.ticket.topic.0 t.0 e)) })
  | false ↦ λ e d. (let h = (leftover_found t ks l) d in record { stands = inr h.stands; topic = h.topic })
]) refl e

drop_case : (t : Topic) (k l : Leftover) (ks : List Leftover) (b : Bool) → (In l (drop_leftover t ks) → In l ks) → In l (cond b ks (k ∷ drop_leftover t ks)) → In l (k ∷ ks)
drop_case t k l ks true ih i = inr i
drop_case t k l ks false ih (inl e) = inl e
drop_case t k l ks false ih (inr i) = inr (ih i)

-- what is left without the first of a topic was there
pub In-drop : (t : Topic) (l : Leftover) (ks : List Leftover) → In l (drop_leftover t ks) → In l ks
In-drop t l [] i = i
In-drop t l (k ∷ ks) i = drop_case t k l ks (k.ticket.topic.0 == t.0) (In-drop t l ks) i

LeftApart-drop : (t : Topic) (ks : List Leftover) → LeftApart ks → LeftApart (drop_leftover t ks)
LeftApart-drop t [] h = tt
LeftApart-drop t (k ∷ ks) h = elim (k.ticket.topic.0 == t.0) as (λ (b : Bool). LeftApart (cond b ks (k ∷ drop_leftover t ks))) [ true ↦ h.1 | false ↦ ((λ l i. h.0 l (In-drop t l ks i)), (LeftApart-drop t ks h.1)) ]

-- what stays isn't of the cancelled transaction and topic
dropped_case : (t : Topic) (k l x : Leftover) (ks : List Leftover) (b : Bool) → (x.ticket.topic.0 == t.0) ≡ b → LeftApart (x ∷ ks) → (find_leftover t ks ≡ Some k → In l (drop_leftover t ks) → l.id ≡ k.id → l.ticket.topic ≡ t → Prim.⊥) → cond b (Some x) (find_leftover t ks) ≡ Some k → In l (cond b ks (x ∷ drop_leftover t ks)) → l.id ≡ k.id → l.ticket.topic ≡ t → Prim.⊥
dropped_case t k l x ks true e h ih f i same here =
    let d = some_same x k f in h.0 l i (ap (λ (z : Leftover). z.id) d ∙ sym same) (eqb-true x.ticket.topic.0 t.0 e ∙ ap (λ (z : Topic). z.0) (sym here))
dropped_case t k l x ks false e h ih f (inl d) same here =
    true≢false (sym (eq-eqb x.ticket.topic.0 t.0 (ap (λ (z : Leftover). z.ticket.topic.0) d ∙ ap (λ (z : Topic). z.0) here)) ∙ e)
dropped_case t k l x ks false e h ih f (inr i) same here = ih f i same here

dropped_apart : (t : Topic) (k l : Leftover) (ks : List Leftover) → LeftApart ks → find_leftover t ks ≡ Some k → In l (drop_leftover t ks) → l.id ≡ k.id → l.ticket.topic ≡ t → Prim.⊥
dropped_apart t k l [] h f i same here = i
dropped_apart t k l (x ∷ ks) h f i same here = dropped_case t k l x ks (x.ticket.topic.0 == t.0) refl h (λ g j s u. dropped_apart t k l ks h.1 g j s u) f i same here

Tied-cancelled : (ts cs : List CommitRow) (t : Topic) (x : TopicState) (id : TxnId) → Uncommitted cs id → Tied ts cs t x → Tied ts cs t (after_cancel id x)
Tied-cancelled ts cs t x id un h = record {
  topic = h.topic;
  given = h.given;
  ticketed = λ q k. h.ticketed q (others id q x.pending k).stands;
  decided = λ q k. h.decided q (others id q x.pending k).stands;
  logged = h.logged;
  placed = λ r k e. elim (h.placed r k e) [
    | inl i ↦ inl i
    | inr v ↦ elim (Waits-without id r.txn.id x.pending v) [ inl s ↦ absurd (un r k s) | inr z ↦ inr z ]
  ];
  items = h.items;
  undrained = h.undrained;
  sound = Sound-cancelled id x h.sound;
}

-- a part that isn't of the cancelled transaction, or is at another topic, waits on
waits_on : (w : World) (t : Topic) (id other : TxnId) (u : Topic) → (other ≡ id → u ≡ t → Prim.⊥) → Waits other (topic_in w.topics u).pending → Waits other (topic_in (set w.topics t.0 (after_cancel id (topic_in w.topics t))) u).pending
waits_on w t id other u ne v =
    at_set (λ (z : TopicState). Waits other z.pending) w.topics t.0 u.0 (after_cancel id (topic_in w.topics t)) (new_topic u 0 0)
    (λ e. elim (Waits-without id other (topic_in w.topics t).pending (subst (λ z. Waits other (topic_in w.topics z).pending) (same_topics u t e) v)) [
      | inl s ↦ absurd (ne (id_equal other id s) (same_topics u t e))
      | inr k ↦ k
    ])
    v

-- the senders, each of whose parts waits on
Serves-cancelled : (ts : List CommitRow) (w : World) (t : Topic) (id : TxnId) (d : ℕ) (x : SenderState) → ((f : Undecided) → x.flight ≡ Some f → f.txn.id ≡ id → Prim.⊥) → ((k : Leftover) → In k x.leftovers → k.id ≡ id → k.ticket.topic ≡ t → Prim.⊥) → Serves ts w.commits w.topics d x → Serves ts w.commits (set w.topics t.0 (after_cancel id (topic_in w.topics t))) d x
Serves-cancelled ts w t id d x no_flight no_left =
    Serves-waiting ts w.commits w.topics (set w.topics t.0 (after_cancel id (topic_in w.topics t))) d x
    (λ f e g u. waits_on w t id f.txn.id u (λ s k. no_flight f e s)) (λ k i g. waits_on w t id k.id k.ticket.topic (no_left k i))

Serves-dropped : (ts cs : List CommitRow) (topics : List TopicState) (s : ℕ) (x : SenderState) (t : Topic) → Serves ts cs topics s x → Serves ts cs topics s (record x { leftovers = drop_leftover t x.leftovers })
Serves-dropped ts cs topics s x t h = record {
  used = h.used;
  floored = h.floored;
  flying = h.flying;
  left = λ k i. h.left k (In-drop t k x.leftovers i);
  left_older = λ k f i e. h.left_older k f (In-drop t k x.leftovers i) e;
  left_apart = LeftApart-drop t x.leftovers h.left_apart;
}

has_leftover : (senders : List SenderState) (s : ℕ) (k : Leftover) → In k (sender_in senders s).leftovers → s < length senders
has_leftover [] s k i = absurd i
has_leftover (z ∷ zs) zero k i = omega arith
has_leftover (z ∷ zs) (suc s) k i = let l = has_leftover zs s k i in omega arith

-- cancelling a ticket keeps the invariant
pub cancel_step : (ts : List CommitRow) (w : World) (s : ℕ) (t : Topic) (k : Leftover) → Holds ts w → find_leftover t (sender_in w.senders s).leftovers ≡ Some k → let x = sender_in w.senders s in Inv ts w.commits w.verdicts (set w.topics t.0 (after_cancel k.id (topic_in w.topics t))) (set w.senders s (record x { leftovers = drop_leftover t x.leftovers })) w.subscriptions
cancel_step ts w s t k inv e =
    let x = sender_in w.senders s in let found = leftover_found t x.leftovers k e in let h = (inv.serves s).left k found.stands in
    let y = after_cancel k.id (topic_in w.topics t) in record {
      consistent = inv.consistent;
      tied = λ u. at_topic (λ v z. Tied ts w.commits v z) w.topics t u y (Tied-cancelled ts w.commits t (topic_in w.topics t) k.id h.uncommitted (inv.tied t)) (inv.tied u);
      serves = λ d. at_set_within (λ (z : SenderState). Serves ts w.commits (set w.topics t.0 y) d z) w.senders s d (record x { leftovers = drop_leftover t x.leftovers }) new_sender (has_leftover w.senders s k found.stands)
          (λ i. subst (λ v. Serves ts w.commits (set w.topics t.0 y) v (record x { leftovers = drop_leftover t x.leftovers })) (sym i)
          (Serves-cancelled ts w t k.id s (record x { leftovers = drop_leftover t x.leftovers })
          (λ f j same. let a : k.id.seq < f.txn.id.seq = (inv.serves s).left_older k f found.stands j in
          let b : f.txn.id.seq ≡ k.id.seq = ap (λ (z : TxnId). z.seq) same in omega arith)
          (λ l j same here. dropped_apart t k l x.leftovers (inv.serves s).left_apart e j same here)
          (Serves-dropped ts w.commits w.topics s x t (inv.serves s))))
          (λ ne. Serves-cancelled ts w t k.id d (sender_in w.senders d)
          (λ f j same. ne (sym ((inv.serves d).flying f j).sender ∙ (ap (λ (z : TxnId). z.sender.0) same ∙ h.sender)))
          (λ l j same here. ne (sym ((inv.serves d).left l j).sender ∙ (ap (λ (z : TxnId). z.sender.0) same ∙ h.sender)))
          (inv.serves d));
      voted = inv.voted;
      counted = inv.counted;
      subscribes = Subscribes-topic w.commits w.topics w.subscriptions t y (Entries-same (topic_in w.topics t) y refl) (λ from end accepted q. q) inv.subscribes;
    }
