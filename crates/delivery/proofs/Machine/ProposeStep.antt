-- A ticket is given.
use Rattle.delivery.proofs.Words.All.{◌≡◌, ◌≢◌, ℕ, ◌+◌, ◌<◌, ◌≤◌, ◌==◌, Bool, true, false, cond, inl, inr, List, [], ◌∷◌, length, set, Some, None, refl, sym, ap, subst, ◌∙◌, arith, ltb, true≢false, eq-eqb, cases_lt, get_or_past, stamp_lt, part_at, TopicPart, topics_of, Transaction, CommitRow, same_id, In, names, Decision, Topic, TxnId, Stamp, TopicState, Pending, new_topic, is_pending, next_number, after_propose, id_equal, id_same, same_topics, In-insert, In-insert_cases, insert_one, any_from, at_set_within, Waits, some_same, none_some, World, Undecided, Leftover, SenderState, new_sender, has_ticket, insert_ticket}
use Rattle.mcast_txn.proofs.Orders.{lt_by_number, id_turned}
use Rattle.mcast_group.proofs.Keeping.{Sound-proposed}
use Rattle.delivery.proofs.Machine.Invariant.{row, Consistent, Uncommitted, Ticketed, Committed, Tied, topic_in, OneEach, Flies, IsLeft, Serves, sender_in, Voted, Inv, Holds}
use Rattle.delivery.proofs.Machine.TopicSteps.{flies_uncommitted, Entries-same, at_topic_from, Subscribes-topic}

-- ---- lists with one more at the head

-- what holds of each item of a list, and of one more, holds of each of all
pub cons_one : {X : Type 0} (P : X → Type 0) (xs : List X) (v : X) → ((x : X) → In x xs → P x) → P v → (x : X) → In x (v ∷ xs) → P x
cons_one P xs v h k x (inl e) = subst P e k
cons_one P xs v h k x (inr i) = h x i

-- the same of each two items
pub cons_two : {X : Type 0} (P : X → X → Type 0) (xs : List X) (v : X) → ((x y : X) → In x xs → In y xs → P x y) → ((x : X) → In x xs → P x v) → ((x : X) → In x xs → P v x) → P v v → (x y : X) → In x (v ∷ xs) → In y (v ∷ xs) → P x y
cons_two P xs v old left right new x y i j =
    cons_one (λ (z : _). P z y) xs v
    (λ z k. cons_one (λ (q : _). P z q) xs v (λ q l. old z q k l) (left z k) y j)
    (cons_one (λ (q : _). P v q) xs v right new y j) x i

-- ---- tickets by rising topic

one_case : (a b : Stamp) (bs : List Stamp) (c : Bool) → ((g : Stamp) → In g (b ∷ bs) → a.topic.0 ≢ g.topic.0) → OneEach (b ∷ bs) → OneEach (insert_ticket a bs) → OneEach (cond c (a ∷ b ∷ bs) (b ∷ insert_ticket a bs))
one_case a b bs true ne h ih = (ne, h)
one_case a b bs false ne h ih = ((λ g i. elim (In-insert_cases _ g a bs i) [ inl e ↦ (λ d. ne b (inl refl) (ap (λ (z : Stamp). z.topic.0) e ∙ sym d)) | inr k ↦ h.0 g k ]), ih)

-- no two tickets are of one topic after another topic's is inserted
pub OneEach-insert : (a : Stamp) (bs : List Stamp) → ((g : Stamp) → In g bs → a.topic.0 ≢ g.topic.0) → OneEach bs → OneEach (insert_ticket a bs)
OneEach-insert a [] ne h = ((λ g i. absurd i), tt)
OneEach-insert a (b ∷ bs) ne h = one_case a b bs (ltb a.topic.0 b.topic.0) ne h (OneEach-insert a bs (λ g i. ne g (inr i)) h.1)

-- each ticket is of another topic than one that gave none
pub not_given : (t : Topic) (given : List Stamp) → has_ticket t given ≡ false → (g : Stamp) → In g given → t.0 ≢ g.topic.0
not_given t given e g i d = true≢false (sym (any_from (λ (a : Stamp). a.topic.0 == t.0) g given i (eq-eqb g.topic.0 t.0 (sym d))) ∙ e)

-- ---- a new ticket

-- sender s's undecided transaction gets this ticket at t
pub record New (w : World) (s : ℕ) (t : Topic) (f : Undecided) : Type 0 where
  pub flight : (sender_in w.senders s).flight ≡ Some f
  pub room : t.0 < length w.topics
  pub named : names t (topics_of f.txn.sends) ≡ true
  pub unheard : has_ticket t f.given ≡ false
  pub apart : is_pending f.txn.id (topic_in w.topics t).pending ≡ false
  pub limit : let x = topic_in w.topics t in length x.pending + length x.held < x.log_limit

-- the number that t gives sender s next
abbrev pub number : World → ℕ → Topic → ℕ
number w s t = next_number (sender_in w.senders s).floor (topic_in w.topics t)

-- the ticket that t gives sender s next
abbrev pub ticket : World → ℕ → Topic → Stamp
ticket w s t = record { n = number w s t; topic = t }

-- that ticket as a row, with the flight's transaction
abbrev pub heard : World → ℕ → Topic → Undecided → CommitRow
heard w s t f = row f.txn (ticket w s t)

-- topic t after it gave the ticket
abbrev pub topic_after : World → ℕ → Topic → Undecided → TopicState
topic_after w s t f = after_propose (sender_in w.senders s).floor (part_at f.txn.id f.txn.sends t) (topic_in w.topics t)

-- the flight with the ticket
abbrev pub flight_after : World → ℕ → Topic → Undecided → Undecided
flight_after w s t f = record f { given = insert_ticket (ticket w s t) f.given }

-- sender s with that flight
abbrev pub sender_after : World → ℕ → Topic → Undecided → SenderState
sender_after w s t f = record (sender_in w.senders s) { flight = Some (flight_after w s t f) }

flies : (ts : List CommitRow) (w : World) (s : ℕ) (t : Topic) (f : Undecided) → Holds ts w → New w s t f → Flies ts w.commits w.topics s (sender_in w.senders s).seq (sender_in w.senders s).floor f
flies ts w s t f inv new = (inv.serves s).flying f new.flight

new_stamp : (ts : List CommitRow) (w : World) (s : ℕ) (t : Topic) (b : CommitRow) → Holds ts w → In b ts → b.stamp ≡ ticket w s t → Prim.⊥
new_stamp ts w s t b inv k e =
    let l : b.stamp.n ≤ (topic_in w.topics t).clock = (inv.tied t).given b k (ap (λ (z : Stamp). z.topic) e) in let m : b.stamp.n ≡ number w s t = ap (λ (z : Stamp). z.n) e in
    omega arith

Consistent-enter : (ts : List CommitRow) (w : World) (s : ℕ) (t : Topic) (f : Undecided) → Holds ts w → New w s t f → Consistent (heard w s t f ∷ ts) w.commits
Consistent-enter ts w s t f inv new =
    let g = flies ts w s t f inv new in let all = inv.consistent in let a = heard w s t f in record {
      one_txn = cons_two (λ (x y : CommitRow). x.stamp ≡ y.stamp → x.txn ≡ y.txn) ts a all.one_txn
          (λ x k e. absurd (new_stamp ts w s t x inv k e))
          (λ x k e. absurd (new_stamp ts w s t x inv k (sym e)))
          (λ e. refl);
      one_id = cons_two (λ (x y : CommitRow). same_id x.txn.id y.txn.id ≡ true → x.txn ≡ y.txn) ts a all.one_id
          (λ x k e. g.same x k e)
          (λ x k e. sym (g.same x k (id_turned f.txn.id x.txn.id e)))
          (λ e. refl);
      apart = all.apart;
      from_ticket = λ r k. inr (all.from_ticket r k);
      greatest = λ r x k. cons_one (λ (z : CommitRow). z.txn ≡ r.txn → stamp_lt r.stamp z.stamp ≡ false) ts a
          (λ z j d. all.greatest r z k j d)
          (λ d. absurd (flies_uncommitted ts w.commits w.topics s _ _ f g r k (id_same r.txn.id f.txn.id (ap (λ (z : Transaction). z.id) (sym d)))))
          x;
      ordered = all.ordered;
    }

Ticketed-more : (ts : List CommitRow) (a : CommitRow) (part : TopicPart) (n : ℕ) → Ticketed ts part n → Ticketed (a ∷ ts) part n
Ticketed-more ts a part n h = record { ticket = h.ticket; stands = inr h.stands; part_is = h.part_is; stamp_is = h.stamp_is; named = h.named }

-- the topic that gives the ticket
Tied-here : (ts : List CommitRow) (w : World) (s : ℕ) (t : Topic) (f : Undecided) → Holds ts w → New w s t f → Tied (heard w s t f ∷ ts) w.commits t (topic_after w s t f)
Tied-here ts w s t f inv new =
    let x = topic_in w.topics t in let h = inv.tied t in let a = heard w s t f in
    let p : Pending = record { part = part_at f.txn.id f.txn.sends t; number = number w s t; learnt = None } in
    record {
      topic = h.topic;
      given = cons_one (λ (b : CommitRow). b.stamp.topic ≡ t → b.stamp.n ≤ number w s t) ts a
          (λ b k e. let l : b.stamp.n ≤ x.clock = h.given b k e in omega arith) (λ e. omega arith);
      ticketed = insert_one _ (λ (q : Pending). Ticketed (a ∷ ts) q.part q.number) x.pending p
          (λ q k. Ticketed-more ts a q.part q.number (h.ticketed q k))
          (record { ticket = a; stands = inl refl; part_is = refl; stamp_is = refl; named = new.named });
      decided = insert_one _ (λ (q : Pending). (z : Stamp) → q.learnt ≡ Some z → Committed w.commits q.part.id z) x.pending p h.decided
          (λ z e. none_some z e);
      logged = h.logged;
      placed = λ r k e. elim (h.placed r k e) [ inl i ↦ inl i | inr v ↦ inr (record { part = v.part; stands = In-insert _ v.part p x.pending (inr v.stands); is = v.is }) ];
      items = h.items;
      undrained = h.undrained;
      sound = Sound-proposed (sender_in w.senders s).floor (part_at f.txn.id f.txn.sends t) x h.sound (sym h.topic) new.apart new.limit;
    }

-- another topic
Tied-there : (ts : List CommitRow) (cs : List CommitRow) (u : Topic) (x : TopicState) (a : CommitRow) → a.stamp.topic ≢ u → Tied ts cs u x → Tied (a ∷ ts) cs u x
Tied-there ts cs u x a ne h = record {
  topic = h.topic;
  given = cons_one (λ (b : CommitRow). b.stamp.topic ≡ u → b.stamp.n ≤ x.clock) ts a h.given (λ e. absurd (ne e));
  ticketed = λ q k. Ticketed-more ts a q.part q.number (h.ticketed q k);
  decided = h.decided;
  logged = h.logged;
  placed = h.placed;
  items = h.items;
  undrained = h.undrained;
  sound = h.sound;
}

-- a transaction that was pending is so after a ticket was given
pub waits_kept : (w : World) (s : ℕ) (t : Topic) (f : Undecided) (id : TxnId) (u : Topic) → Waits id (topic_in w.topics u).pending → Waits id (topic_in (set w.topics t.0 (topic_after w s t f)) u).pending
waits_kept w s t f id u v =
    at_topic_from (λ y z. Waits id z.pending) w.topics t u (topic_after w s t f)
    (λ h. record { part = h.part; stands = In-insert _ h.part _ (topic_in w.topics t).pending (inr h.stands); is = h.is }) v

-- a sender that has a flight is in the list
pub within_senders : (senders : List SenderState) (s : ℕ) (f : Undecided) → (sender_in senders s).flight ≡ Some f → s < length senders
within_senders senders s f e = elim (cases_lt s (length senders)) [
  | inl l ↦ l
  | inr l ↦ let p : sender_in senders s ≡ new_sender = get_or_past senders s new_sender l in
      none_some f (sym (ap (λ (x : SenderState). x.flight) p) ∙ e)
]

left_kept : (ts : List CommitRow) (w : World) (s d : ℕ) (t : Topic) (f : Undecided) (seq : ℕ) (k : Leftover) → IsLeft w.commits w.topics d seq k → IsLeft w.commits (set w.topics t.0 (topic_after w s t f)) d seq k
left_kept ts w s d t f seq k h = record { sender = h.sender; seq_le = h.seq_le; uncommitted = h.uncommitted; waits = waits_kept w s t f k.id k.ticket.topic h.waits }

-- the sender whose transaction got the ticket
Serves-here : (ts : List CommitRow) (w : World) (s : ℕ) (t : Topic) (f : Undecided) → Holds ts w → New w s t f → Serves (heard w s t f ∷ ts) w.commits (set w.topics t.0 (topic_after w s t f)) s (sender_after w s t f)
Serves-here ts w s t f inv new =
    let h = inv.serves s in let g = flies ts w s t f inv new in let a = heard w s t f in let x = sender_in w.senders s in
    let topics = set w.topics t.0 (topic_after w s t f) in record {
      used = cons_one (λ (b : CommitRow). b.txn.id.sender.0 ≡ s → b.txn.id.seq ≤ x.seq) ts a h.used (λ e. g.seq_le);
      floored = h.floored;
      flying = λ y e. subst (λ (z : Undecided). Flies (a ∷ ts) w.commits topics s x.seq x.floor z) (some_same (flight_after w s t f) y e) (record {
        sender = g.sender;
        seq_le = g.seq_le;
        newest = g.newest;
        same = cons_one (λ (b : CommitRow). same_id b.txn.id f.txn.id ≡ true → b.txn ≡ f.txn) ts a g.same (λ i. refl);
        higher = cons_one (λ (b : CommitRow). b.txn ≡ f.txn → stamp_lt x.floor b.stamp ≡ true) ts a g.higher
            (λ i. lt_by_number x.floor a.stamp (omega arith));
        given_in = λ z i. elim (In-insert_cases _ z (ticket w s t) f.given i) [ inl e ↦ inl (ap (row f.txn) e) | inr k ↦ inr (g.given_in z k) ];
        given_all = cons_one (λ (b : CommitRow). b.txn ≡ f.txn → In b.stamp (insert_ticket (ticket w s t) f.given)) ts a
            (λ b k e. In-insert _ b.stamp (ticket w s t) f.given (inr (g.given_all b k e)))
            (λ e. In-insert _ a.stamp (ticket w s t) f.given (inl refl));
        given_apart = OneEach-insert (ticket w s t) f.given (not_given t f.given new.unheard) g.given_apart;
        waits = cons_one (λ (b : CommitRow). b.txn ≡ f.txn → Waits f.txn.id (topic_in topics b.stamp.topic).pending) ts a
            (λ b k i. waits_kept w s t f f.txn.id b.stamp.topic (g.waits b k i))
            (λ i. at_set_within (λ (z : TopicState). Waits f.txn.id z.pending) w.topics t.0 t.0 (topic_after w s t f) (new_topic t 0 0) new.room
            (λ j. record {
              part = record { part = part_at f.txn.id f.txn.sends t; number = number w s t; learnt = None };
              stands = In-insert _ _ _ (topic_in w.topics t).pending (inl refl);
              is = refl;
            })
            (λ ne. absurd (ne refl)));
        some = g.some;
        some_named = g.some_named;
      });
      left = λ k i. left_kept ts w s s t f x.seq k (h.left k i);
      left_older = λ k y i e. subst (λ (z : Undecided). k.id.seq < z.txn.id.seq) (some_same (flight_after w s t f) y e) (h.left_older k f i new.flight);
      left_apart = h.left_apart;
    }

-- two undecided transactions of one id have one sender
pub one_flight : (ts cs : List CommitRow) (topics : List TopicState) (s d m n : ℕ) (a b : Stamp) (f g : Undecided) → Flies ts cs topics s m a f → Flies ts cs topics d n b g → f.txn.id ≡ g.txn.id → s ≡ d
one_flight ts cs topics s d m n a b f g h k e = sym h.sender ∙ (ap (λ (z : TxnId). z.sender.0) e ∙ k.sender)

-- another sender
Serves-there : (ts : List CommitRow) (w : World) (s : ℕ) (t : Topic) (f : Undecided) → Holds ts w → New w s t f → (d : ℕ) → d ≢ s → Serves (heard w s t f ∷ ts) w.commits (set w.topics t.0 (topic_after w s t f)) d (sender_in w.senders d)
Serves-there ts w s t f inv new d ne =
    let h = inv.serves d in let mine = flies ts w s t f inv new in let a = heard w s t f in let x = sender_in w.senders d in
    let topics = set w.topics t.0 (topic_after w s t f) in record {
      used = cons_one (λ (b : CommitRow). b.txn.id.sender.0 ≡ d → b.txn.id.seq ≤ x.seq) ts a h.used (λ e. absurd (ne (sym e ∙ mine.sender)));
      floored = h.floored;
      flying = λ y e. let g = h.flying y e in record {
        sender = g.sender;
        seq_le = g.seq_le;
        newest = g.newest;
        same = cons_one (λ (b : CommitRow). same_id b.txn.id y.txn.id ≡ true → b.txn ≡ y.txn) ts a g.same
            (λ i. absurd (apart y e (id_equal f.txn.id y.txn.id i)));
        higher = cons_one (λ (b : CommitRow). b.txn ≡ y.txn → stamp_lt x.floor b.stamp ≡ true) ts a g.higher
            (λ i. absurd (apart y e (ap (λ (z : Transaction). z.id) i)));
        given_in = λ z i. inr (g.given_in z i);
        given_all = cons_one (λ (b : CommitRow). b.txn ≡ y.txn → In b.stamp y.given) ts a g.given_all
            (λ i. absurd (apart y e (ap (λ (z : Transaction). z.id) i)));
        given_apart = g.given_apart;
        waits = cons_one (λ (b : CommitRow). b.txn ≡ y.txn → Waits y.txn.id (topic_in topics b.stamp.topic).pending) ts a
            (λ b k i. waits_kept w s t f y.txn.id b.stamp.topic (g.waits b k i))
            (λ i. absurd (apart y e (ap (λ (z : Transaction). z.id) i)));
        some = g.some;
        some_named = g.some_named;
      };
      left = λ k i. left_kept ts w s d t f x.seq k (h.left k i);
      left_older = h.left_older;
      left_apart = h.left_apart;
    }
  where
    apart : (y : Undecided) → (sender_in w.senders d).flight ≡ Some y → f.txn.id ≡ y.txn.id → Prim.⊥
    apart y e i = ne (sym (one_flight ts w.commits w.topics s d _ _ _ _ f y (flies ts w s t f inv new) ((inv.serves d).flying y e) i))

Voted-more : (ts cs : List CommitRow) (v : Decision) (a : CommitRow) → Uncommitted cs a.txn.id → Voted ts cs v → Voted (a ∷ ts) cs v
Voted-more ts cs v a un h = record {
  row = h.row;
  stands = h.stands;
  id_is = h.id_is;
  stamp_is = h.stamp_is;
  one_row = h.one_row;
  all = cons_one (λ (b : CommitRow). b.txn ≡ h.row.txn → In b.stamp v.rows) ts a h.all
      (λ e. absurd (un h.row h.stands (id_same h.row.txn.id a.txn.id (ap (λ (z : Transaction). z.id) (sym e)))));
}

-- giving a ticket keeps the invariant
pub enter_step : (ts : List CommitRow) (w : World) (s : ℕ) (t : Topic) (f : Undecided) → Holds ts w → New w s t f → Inv (heard w s t f ∷ ts) w.commits w.verdicts (set w.topics t.0 (topic_after w s t f)) (set w.senders s (sender_after w s t f)) w.subscriptions
enter_step ts w s t f inv new =
    let a = heard w s t f in let topics = set w.topics t.0 (topic_after w s t f) in record {
      consistent = Consistent-enter ts w s t f inv new;
      tied = λ u. at_set_within (λ (y : TopicState). Tied (a ∷ ts) w.commits u y) w.topics t.0 u.0 (topic_after w s t f) (new_topic u 0 0) new.room
          (λ e. subst (λ v. Tied (a ∷ ts) w.commits v (topic_after w s t f)) (sym (same_topics u t e)) (Tied-here ts w s t f inv new))
          (λ ne. Tied-there ts w.commits u (topic_in w.topics u) a (λ e. ne (ap (λ (z : Topic). z.0) (sym e))) (inv.tied u));
      serves = λ d. at_set_within (λ (x : SenderState). Serves (a ∷ ts) w.commits topics d x) w.senders s d (sender_after w s t f) new_sender (within_senders w.senders s f new.flight)
          (λ e. subst (λ v. Serves (a ∷ ts) w.commits topics v (sender_after w s t f)) (sym e) (Serves-here ts w s t f inv new))
          (λ ne. Serves-there ts w s t f inv new d ne);
      voted = λ v i. Voted-more ts w.commits v a (flies_uncommitted ts w.commits w.topics s _ _ f (flies ts w s t f inv new)) (inv.voted v i);
      counted = inv.counted;
      subscribes = Subscribes-topic w.commits w.topics w.subscriptions t (topic_after w s t f) (Entries-same (topic_in w.topics t) (topic_after w s t f) refl)
          (λ from end accepted q. q) inv.subscribes;
    }
