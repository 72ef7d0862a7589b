-- A settled topic's log leaves no row out.
use Rattle.delivery.proofs.Words.All.{◌≡◌, ℕ, ◌+◌, ◌≤◌, Bool, false, inl, inr, List, [], ◌∷◌, set, Option, Some, None, refl, sym, ap, subst, ◌∙◌, arith, true≢false, TopicPart, topics_of, Transaction, CommitRow, same_id, In, names, Decision, Topic, TxnId, SentMessage, Stamp, TopicState, Pending, Entry, with_stamp, after_learn, after_cancel, after_release, after_turn, decided_stamp, id_equal, In-insert_cases, In-map_cases, at_set, Waits, others, not_true, some_same, release_keeps, turn_keeps, World, Undecided, SenderState, new_sender, speaker, speaker_number, Answer, next_txn, commit_effect, txn_of_id, AllResolved, IsSettled, Begun, Withdrawn, Cancelled, Turned}
use Rattle.delivery.specs.Machine.Moves.Answer.{Ticket}
use Rattle.mcast_group.proofs.Parts.{told_how}
use Rattle.delivery.proofs.Words.Steps.{row, topic_in, sender_in, Holds, at_topic_from, New, heard, cons_one, topic_after, sender_after, flight_after, tickets, FewerFlights, same_flights}

-- nothing is pending at t, and no undecided transaction names it
pub record Calm (topics : List TopicState) (senders : List SenderState) (t : Topic) : Type 0 where
  pub none : (p : Pending) → In p (topic_in topics t).pending → Prim.⊥
  pub still : (s : ℕ) (f : Undecided) → (sender_in senders s).flight ≡ Some f → names t (topics_of f.txn.sends) ≡ false

-- the answer says that this transaction is over: it was withdrawn, or a ticket of it was cancelled
abbrev pub IsOver : TxnId → Answer → Type 0
IsOver id (Withdrawn i c) = i ≡ id
IsOver id (Cancelled i t) = i ≡ id
IsOver id o = Prim.⊥

-- the run beside the core that it leads to
pub record Settling (past : List Answer) (topics : List TopicState) (senders : List SenderState) : Type 0 where
  pub gone : (t : Topic) (p : Pending) (id : TxnId) → In p (topic_in topics t).pending → In (Cancelled id t) past → same_id p.part.id id ≡ false
  pub flew : (s : ℕ) (f : Undecided) → (sender_in senders s).flight ≡ Some f → In (Begun f.txn) past
  pub ticket_flew : (a : CommitRow) → In a (tickets past) → In (Begun a.txn) past
  pub over_old : (id : TxnId) (o : Answer) → In o past → IsOver id o → id.seq ≤ (sender_in senders id.sender.0).seq
  pub not_over : (s : ℕ) (f : Undecided) (id : TxnId) (o : Answer) → (sender_in senders s).flight ≡ Some f → In o past → IsOver id o → same_id f.txn.id id ≡ false
  pub calm : (t : Topic) → IsSettled t past → Calm topics senders t

-- ---- parts that only go

-- from ps to qs no transaction gets a part
abbrev pub Gone_to : List Pending → List Pending → Type 0
Gone_to ps qs = (q : Pending) → In q qs → Waits q.part.id ps

-- no part is added where the parts stay
pub Gone-same : (ps : List Pending) → Gone_to ps ps
Gone-same ps q i = record { part = q; stands = i; is = refl }

Gone-then : (ps qs rs : List Pending) → Gone_to ps qs → Gone_to qs rs → Gone_to ps rs
Gone-then ps qs rs a b r i = let k = b r i in let m = a k.part k.stands in record { part = m.part; stands = m.stands; is = m.is ∙ k.is }

-- no part is added as a stamp is learnt
pub Gone-learned : (id : TxnId) (stamp : Stamp) (x : TopicState) → Gone_to x.pending (after_learn id stamp x).pending
Gone-learned id stamp x q i = let m = In-map_cases (with_stamp id stamp) q x.pending i in
    record { part = m.from; stands = m.stands; is = ap (λ (z : TopicPart). z.id) (sym (told_how id stamp m.from).part) ∙ ap (λ (z : Pending). z.part.id) m.is }

-- no part is added as one is cancelled
pub Gone-without : (id : TxnId) (x : TopicState) → Gone_to x.pending (after_cancel id x).pending
Gone-without id x q i = record { part = q; stands = (others id q x.pending i).stands; is = refl }

-- no part is added at a release
pub Gone-release : (takes : Entry → Bool) (x : TopicState) → Gone_to x.pending (after_release takes x).pending
Gone-release takes x = release_keeps (λ y. Gone_to x.pending y.pending) takes x (Gone-same x.pending) (λ p e. Gone-without p.part.id x)

-- no part is added at a turn
pub Gone-turned : (takes : Entry → Bool) (find : TxnId → Option Decision) (x : TopicState) → Gone_to x.pending (after_turn takes find x).pending
Gone-turned takes find x =
    turn_keeps (λ y. Gone_to x.pending y.pending) takes find
    (λ y id v f e g. Gone-then x.pending y.pending (after_learn id (decided_stamp v) y).pending g (Gone-learned id (decided_stamp v) y))
    (λ y p e g. Gone-then x.pending y.pending (after_cancel p.part.id y).pending g (Gone-without p.part.id y))
    x (Gone-same x.pending)

-- from one core to another: seqs rise, flights may end, parts may go
pub record Fewer (topics : List TopicState) (senders : List SenderState) (new_topics : List TopicState) (new_senders : List SenderState) : Type 0 where
  pub seqs : (s : ℕ) → (sender_in senders s).seq ≤ (sender_in new_senders s).seq
  pub flights : FewerFlights senders new_senders
  pub parts : (t : Topic) → Gone_to (topic_in topics t).pending (topic_in new_topics t).pending

-- Fewer holds from a core to itself
pub Fewer-same : (topics : List TopicState) (senders : List SenderState) → Fewer topics senders topics senders
Fewer-same topics senders = record { seqs = λ s. omega arith; flights = same_flights senders; parts = λ t. Gone-same (topic_in topics t).pending }

-- Fewer holds where one topic's parts change and none is added
pub Fewer-topic : (topics : List TopicState) (senders : List SenderState) (t : Topic) (y : TopicState) → Gone_to (topic_in topics t).pending y.pending → Fewer topics senders (set topics t.0 y) senders
Fewer-topic topics senders t y g = record {
  seqs = λ s. omega arith;
  flights = same_flights senders;
  parts = λ u. at_topic_from (λ v z. Gone_to (topic_in topics v).pending z.pending) topics t u y (λ o. g) (Gone-same (topic_in topics u).pending);
}

-- Fewer holds where one sender gets a seq at least as high and no other flight
pub Fewer-sender : (topics : List TopicState) (senders : List SenderState) (s : ℕ) (x : SenderState) → (sender_in senders s).seq ≤ x.seq → FewerFlights senders (set senders s x) → Fewer topics senders topics (set senders s x)
Fewer-sender topics senders s x l few = record {
  seqs = λ d. at_set (λ (z : SenderState). (sender_in senders d).seq ≤ z.seq) senders s d x new_sender
      (λ e. subst (λ v. (sender_in senders v).seq ≤ x.seq) (sym e) l) (omega arith);
  flights = few;
  parts = λ t. Gone-same (topic_in topics t).pending;
}

-- Fewer is transitive
pub Fewer-then : (a b c : List TopicState) (x y z : List SenderState) → Fewer a x b y → Fewer b y c z → Fewer a x c z
Fewer-then a b c x y z f g = record {
  seqs = λ s. let m = f.seqs s in let n = g.seqs s in omega arith;
  flights = λ s h e. let k = g.flights s h e in let l = f.flights s k.0 k.1 in (l.0, l.1, l.2 ∙ k.2);
  parts = λ t. Gone-then (topic_in a t).pending (topic_in b t).pending (topic_in c t).pending (f.parts t) (g.parts t);
}

-- Settling stays where Fewer holds
pub Settling-fewer : (past : List Answer) (topics : List TopicState) (senders : List SenderState) (new_topics : List TopicState) (new_senders : List SenderState) → Fewer topics senders new_topics new_senders → Settling past topics senders → Settling past new_topics new_senders
Settling-fewer past topics senders nt ns f h = record {
  gone = λ t q id i k. let p = f.parts t q i in subst (λ z. same_id z id ≡ false) p.is (h.gone t p.part id p.stands k);
  flew = λ s g e. let k = f.flights s g e in subst (λ z. In (Begun z) past) k.2 (h.flew s k.0 k.1);
  ticket_flew = h.ticket_flew;
  over_old = λ id o k v. let a = h.over_old id o k v in let b = f.seqs id.sender.0 in omega arith;
  not_over = λ s g id o e i v. let k = f.flights s g e in subst (λ (z : Transaction). same_id z.id id ≡ false) k.2 (h.not_over s k.0 id o k.1 i v);
  calm = λ t e. let k = h.calm t e in record {
    none = λ q i. let p = f.parts t q i in k.none p.part p.stands;
    still = λ s g d. let l = f.flights s g d in subst (λ (z : Transaction). names t (topics_of z.sends) ≡ false) l.2 (k.still s l.0 l.1);
  };
}

-- ---- one more outcome

-- what one more answer, which gives no ticket, has to be for that
record Adds (past : List Answer) (topics : List TopicState) (senders : List SenderState) (o : Answer) : Type 0 where
  tickets : tickets (o ∷ past) ≡ tickets past
  gone : (t : Topic) (p : Pending) (id : TxnId) → In p (topic_in topics t).pending → o ≡ Cancelled id t → same_id p.part.id id ≡ false
  old : (id : TxnId) → IsOver id o → id.seq ≤ (sender_in senders id.sender.0).seq
  over : (s : ℕ) (f : Undecided) (id : TxnId) → (sender_in senders s).flight ≡ Some f → IsOver id o → same_id f.txn.id id ≡ false
  calm : (t : Topic) → IsSettled t (o ∷ past) → Calm topics senders t

note : {past : List Answer} {topics : List TopicState} {senders : List SenderState} {o : Answer} → Adds past topics senders o → Settling past topics senders → Settling (o ∷ past) topics senders
note a h = record {
  gone = λ t p id i k. elim k [ inl e ↦ a.gone t p id i e | inr j ↦ h.gone t p id i j ];
  flew = λ s f e. inr (h.flew s f e);
  ticket_flew = λ b k. inr (h.ticket_flew b (subst (λ z. In b z) a.tickets k));
  over_old = λ id p k v. elim k [ inl e ↦ a.old id (subst (IsOver id) (sym e) v) | inr j ↦ h.over_old id p j v ];
  not_over = λ s f id p e k v. elim k [ inl d ↦ a.over s f id e (subst (IsOver id) (sym d) v) | inr j ↦ h.not_over s f id p e j v ];
  calm = a.calm;
}

-- an outcome that makes nothing, gives no ticket, and withdraws and cancels nothing
pub record Quiet (o : Answer) : Type 0 where
  pub tickets : (past : List Answer) → tickets (o ∷ past) ≡ tickets past
  pub over : (id : TxnId) → IsOver id o → Prim.⊥
  pub settled : (t : Topic) (past : List Answer) → IsSettled t (o ∷ past) → IsSettled t past

-- Settling stays with one more quiet answer
pub note_quiet : (past : List Answer) (topics : List TopicState) (senders : List SenderState) (o : Answer) → Quiet o → Settling past topics senders → Settling (o ∷ past) topics senders
note_quiet past topics senders o q h = note (record {
  tickets = q.tickets past;
  gone = λ t p id i e. absurd (q.over id (subst (IsOver id) (sym e) refl));
  old = λ id k. absurd (q.over id k);
  over = λ s f id e k. absurd (q.over id k);
  calm = λ t e. h.calm t (q.settled t past e);
}) h

-- Settling stays with a withdrawal, where its id was used and has no flight any more
pub note_withdrawn : (past : List Answer) (topics : List TopicState) (senders : List SenderState) (id : TxnId) (c : ℕ) → id.seq ≤ (sender_in senders id.sender.0).seq → ((s : ℕ) (f : Undecided) → (sender_in senders s).flight ≡ Some f → same_id f.txn.id id ≡ false) → Settling past topics senders → Settling (Withdrawn id c ∷ past) topics senders
note_withdrawn past topics senders id c old apart h = note (record {
  tickets = refl;
  gone = λ t p j i e. cc;
  old = λ j n. subst (λ (z : TxnId). z.seq ≤ (sender_in senders z.sender.0).seq) n old;
  over = λ s f j e n. subst (λ z. same_id f.txn.id z ≡ false) n (apart s f e);
  calm = λ t e. h.calm t e.1;
}) h

-- Settling stays with a cancelling, where its id was used, has no flight and isn't pending there
pub note_cancelled : (past : List Answer) (topics : List TopicState) (senders : List SenderState) (id : TxnId) (u : Topic) → id.seq ≤ (sender_in senders id.sender.0).seq → ((s : ℕ) (f : Undecided) → (sender_in senders s).flight ≡ Some f → same_id f.txn.id id ≡ false) → ((p : Pending) → In p (topic_in topics u).pending → same_id p.part.id id ≡ false) → Settling past topics senders → Settling (Cancelled id u ∷ past) topics senders
note_cancelled past topics senders id u old apart none h = note (record {
  tickets = refl;
  gone = λ t p j i e. (let n : id ≡ j = cc in let m : u ≡ t = cc in
      subst (λ z. same_id p.part.id z ≡ false) n (none p (subst (λ z. In p (topic_in topics z).pending) (sym m) i)));
  old = λ j n. subst (λ (z : TxnId). z.seq ≤ (sender_in senders z.sender.0).seq) n old;
  over = λ s f j e n. subst (λ z. same_id f.txn.id z ≡ false) n (apart s f e);
  calm = λ t e. h.calm t e.1;
}) h

-- Settling stays with a turn, where the topic is calm if all there is resolved
pub note_turned : (past : List Answer) (topics : List TopicState) (senders : List SenderState) (u : Topic) (count : ℕ) → (AllResolved u past → Calm topics senders u) → Settling past topics senders → Settling (Turned u count ∷ past) topics senders
note_turned past topics senders u count now h = note (record {
  tickets = refl;
  gone = λ t p j i e. cc;
  old = λ id k. absurd k;
  over = λ s f id e k. absurd k;
  calm = λ t e. elim e [
    | inl r ↦ subst (λ z. Calm topics senders z) r.0 (now (subst (λ z. AllResolved z past) (sym r.0) r.1))
    | inr k ↦ h.calm t k
  ];
}) h

-- ---- a transaction is made

-- making a transaction keeps Settling
pub flying_settling : (past : List Answer) (w : World) (c : ℕ) (first : SentMessage) (others : List SentMessage) → Holds (tickets past) w → Settling past w.topics w.senders → Settling (Begun (next_txn w c (first ∷ others)) ∷ past) w.topics (commit_effect w c (first ∷ others)).senders
flying_settling past w c first others inv h = record {
  gone = λ t p id i k. elim k [ inl e ↦ cc | inr j ↦ h.gone t p id i j ];
  flew = λ d f. moved (λ (z : SenderState). z.flight ≡ Some f → In (Begun f.txn) (Begun txn ∷ past)) d
      (λ k. inl (ap Begun (ap (λ (z : Undecided). z.txn) (some_same new_flight f k)))) (λ k. inr (h.flew d f k));
  ticket_flew = λ a k. inr (h.ticket_flew a k);
  over_old = λ id o k v. elim k [ inl e ↦ absurd (subst (IsOver id) (sym e) v) | inr j ↦ older id (h.over_old id o j v) ];
  not_over = λ d f id o. moved (λ (z : SenderState). z.flight ≡ Some f → In o (Begun txn ∷ past) → IsOver id o → same_id f.txn.id id ≡ false) d
      (λ k i v. elim i [
        | inl e ↦ absurd (subst (IsOver id) (sym e) v)
        | inr j ↦ subst (λ (z : Undecided). same_id z.txn.id id ≡ false) (some_same new_flight f k) (newer id (h.over_old id o j v))
      ])
      (λ k i v. elim i [ inl e ↦ absurd (subst (IsOver id) (sym e) v) | inr j ↦ h.not_over d f id o k j v ]);
  calm = λ t e. let k = h.calm t e.1 in record {
    none = k.none;
    still = λ d f. moved (λ (z : SenderState). z.flight ≡ Some f → names t (topics_of f.txn.sends) ≡ false) d
        (λ n. subst (λ (z : Undecided). names t (topics_of z.txn.sends) ≡ false) (some_same new_flight f n) e.0) (k.still d f);
  };
}
  where
    sender : ℕ
    sender = speaker_number w c

    txn : Transaction
    txn = next_txn w c (first ∷ others)

    new_flight : Undecided
    new_flight = record { txn = next_txn w c (first ∷ others); given = []; mark = None }

    moved : (P : SenderState → Type 0) (d : ℕ) → P (record (speaker w c) { seq = (speaker w c).seq + 1; flight = Some (record { txn = next_txn w c (first ∷ others); given = []; mark = None }) }) → P (sender_in w.senders d) → P (sender_in (commit_effect w c (first ∷ others)).senders d)
    moved P d a b = at_set P w.senders (speaker_number w c) d _ new_sender (λ e. a) b

    older : (id : TxnId) → id.seq ≤ (sender_in w.senders id.sender.0).seq → id.seq ≤ (sender_in (commit_effect w c (first ∷ others)).senders id.sender.0).seq
    older id o = at_set (λ (z : SenderState). id.seq ≤ z.seq) w.senders (speaker_number w c) id.sender.0 _ new_sender
        (λ e. let k : id.seq ≤ (speaker w c).seq = subst (λ v. id.seq ≤ (sender_in w.senders v).seq) e o in omega arith) o

    newer : (id : TxnId) → id.seq ≤ (sender_in w.senders id.sender.0).seq → same_id (next_txn w c (first ∷ others)).id id ≡ false
    newer id o = not_true (same_id (next_txn w c (first ∷ others)).id id) refl (λ s.
        let d = id_equal (next_txn w c (first ∷ others)).id id s in let m : (speaker w c).seq + 1 ≡ id.seq = ap (λ (z : TxnId). z.seq) d in
        let n : speaker_number w c ≡ id.sender.0 = ap (λ (z : TxnId). z.sender.0) d in
        let k : id.seq ≤ (speaker w c).seq = subst (λ v. id.seq ≤ (sender_in w.senders v).seq) (sym n) o in
        omega arith)

-- ---- a ticket

-- giving a ticket keeps Settling
pub ticket_settling : (past : List Answer) (w : World) (s : ℕ) (t : Topic) (f : Undecided) → Holds (tickets past) w → New w s t f → txn_of_id f.txn.id past ≡ f.txn → Settling past w.topics w.senders → Settling (Ticket f.txn.id (heard w s t f).stamp ∷ past) (set w.topics t.0 (topic_after w s t f)) (set w.senders s (sender_after w s t f))
ticket_settling past w s t f inv new is h = record {
  gone = λ u q id i k. elim k [
    | inl e ↦ cc
    | inr j ↦
        at (λ v z. (p : Pending) → In p z.pending → In (Cancelled id v) past → same_id p.part.id id ≡ false) u
        (λ o p l m. elim (In-insert_cases _ p _ (topic_in w.topics t).pending l) [
          | inl e ↦ subst (λ (z : Pending). same_id z.part.id id ≡ false) e (h.not_over s f id (Cancelled id t) new.flight m refl)
          | inr n ↦ h.gone t p id n m
        ])
        (λ p l m. h.gone u p id l m) q i j
  ];
  flew = λ d y. kept (λ (z : SenderState). z.flight ≡ Some y → In (Begun y.txn) (Ticket f.txn.id (heard w s t f).stamp ∷ past)) d
      (λ n k. inr (subst (λ (z : Undecided). In (Begun z.txn) past) (some_same (flight_after w s t f) y k) (h.flew s f new.flight)))
      (λ k. inr (h.flew d y k));
  ticket_flew = cons_one (λ (a : CommitRow). In (Begun a.txn) (Ticket f.txn.id (heard w s t f).stamp ∷ past)) (tickets past) (row (txn_of_id f.txn.id past) (heard w s t f).stamp)
      (λ a k. inr (h.ticket_flew a k)) (inr (subst (λ z. In (Begun z) past) (sym is) (h.flew s f new.flight)));
  over_old = λ id o k v. elim k [
    | inl e ↦ absurd (subst (IsOver id) (sym e) v)
    | inr j ↦ (let old = h.over_old id o j v in kept (λ (z : SenderState). id.seq ≤ z.seq) id.sender.0 (λ e. subst (λ n. id.seq ≤ (sender_in w.senders n).seq) e old) old)
  ];
  not_over = λ d y id o. kept_flight (λ z. In o (Ticket f.txn.id (heard w s t f).stamp ∷ past) → IsOver id o → same_id z.id id ≡ false) d y
      (λ k v. elim k [ inl e ↦ absurd (subst (IsOver id) (sym e) v) | inr j ↦ h.not_over s f id o new.flight j v ])
      (λ e k v. elim k [ inl n ↦ absurd (subst (IsOver id) (sym n) v) | inr j ↦ h.not_over d y id o e j v ]);
  calm = λ u e. let k = h.calm u e in record {
    none = at (λ v z. (v ≡ u) → (q : Pending) → In q z.pending → Prim.⊥) u
        (λ o d q i. true≢false (sym new.named ∙ subst (λ v. names v (topics_of f.txn.sends) ≡ false) (sym d) (k.still s f new.flight)))
        (λ d. k.none) refl;
    still = λ d y. kept_flight (λ z. names u (topics_of z.sends) ≡ false) d y (k.still s f new.flight) (k.still d y);
  };
}
  where
    at : (P : Topic → TopicState → Type 0) (u : Topic) → (P t (topic_in w.topics t) → P t (topic_after w s t f)) → P u (topic_in w.topics u) → P u (topic_in (set w.topics t.0 (topic_after w s t f)) u)
    at P u a b = at_topic_from P w.topics t u (topic_after w s t f) a b

    kept : (P : SenderState → Type 0) (d : ℕ) → (d ≡ s → P (sender_after w s t f)) → P (sender_in w.senders d) → P (sender_in (set w.senders s (sender_after w s t f)) d)
    kept P d a b = at_set P w.senders s d (sender_after w s t f) new_sender a b

    kept_flight : (P : Transaction → Type 0) (d : ℕ) (y : Undecided) → P f.txn → ((sender_in w.senders d).flight ≡ Some y → P y.txn) → (sender_in (set w.senders s (sender_after w s t f)) d).flight ≡ Some y → P y.txn
    kept_flight P d y a b = at_set (λ (z : SenderState). z.flight ≡ Some y → P y.txn) w.senders s d (sender_after w s t f) new_sender
        (λ n k. subst (λ (z : Undecided). P z.txn) (some_same (flight_after w s t f) y k) a) b
