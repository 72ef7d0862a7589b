-- Where each ticket is: its transaction is undecided, or committed, or it is left over from a withdrawal, or was cancelled.
use Rattle.delivery.proofs.Words.All.{◌≡◌, ◌≢◌, ℕ, ◌+◌, ◌<◌, ◌==◌, Bool, true, false, cond, ◌⊎◌, inl, inr, List, [], ◌∷◌, ◌++◌, length, map, set, Option, Some, None, refl, sym, ap, subst, ◌∙◌, arith, is_some, true≢false, cases_order, or_parts, not-false, greatest, topics_of, Transaction, CommitRow, In, names, Topic, SentMessage, Stamp, ProposeFault, In-push, In-append_left, In-append_right, In-map, at_set, at_set_within, push_one, some_same, World, Undecided, Leftover, SenderState, new_sender, speaker, speaker_number, Move, Answer, move_refusal, move_answer, undecided_at, find_leftover, drop_leftover, leftover, insert_ticket, next_txn, next_ticket, commit_effect, commit_answer, propose_effect, propose_answer, decide_effect, withdraw_effect, cancel_effect, connect_effect, txn_of_id, Run, answers_of, final_world}
use Rattle.delivery.specs.Machine.Moves.Move.{Connects, Commits, Leaves, Proposes, Decides, Withdraws, Cancels}
use Rattle.delivery.specs.Machine.Moves.Answer.{Refused, Done, Begun, Ticket, Failed, Decided, Withdrawn, Cancelled}
use Rattle.delivery.proofs.Words.Steps.{row, sender_in, within_senders, cons_one, cons_two, not_given, TicketOf, complete_at, leftover_found, at_push, Reached, tickets, checked, in_flight, Asks, asks_of, InEachCase, always, Found, by_moves}

-- ---- where a ticket is

-- its transaction is sender s's undecided one
abbrev IsUndecided : List SenderState → CommitRow → Type 0
IsUndecided senders a = (s : ℕ) × (f : Undecided) × ((sender_in senders s).flight ≡ Some f) × (f.txn ≡ a.txn)

-- its transaction is committed
abbrev IsCommitted : List CommitRow → CommitRow → Type 0
IsCommitted commits a = (r : CommitRow) × In r commits × (r.txn ≡ a.txn)

-- it is left over from a withdrawal of sender s
abbrev IsLeftOver : List SenderState → CommitRow → Type 0
IsLeftOver senders a = (s : ℕ) × (k : Leftover) × In k (sender_in senders s).leftovers × (k.id ≡ a.txn.id) × (k.ticket ≡ a.stamp)

-- it is in one of these places, or was cancelled
abbrev pub IsSomewhere : List Answer → List SenderState → List CommitRow → CommitRow → Type 0
IsSomewhere past senders commits a = IsUndecided senders a ⊎ IsCommitted commits a ⊎ IsLeftOver senders a ⊎ In (Cancelled a.txn.id a.stamp.topic) past

-- each ticket is somewhere, of a topic that its transaction names, and alone there; and a committed transaction has one of
-- each topic that it names
pub record Accounted (past : List Answer) (senders : List SenderState) (commits : List CommitRow) : Type 0 where
  pub somewhere : (a : CommitRow) → In a (tickets past) → IsSomewhere past senders commits a
  pub one : (a b : CommitRow) → In a (tickets past) → In b (tickets past) → a.txn ≡ b.txn → a.stamp.topic ≡ b.stamp.topic → a ≡ b
  pub named : (a : CommitRow) → In a (tickets past) → names a.stamp.topic (topics_of a.txn.sends) ≡ true
  pub complete : (r : CommitRow) → In r commits → (t : Topic) → names t (topics_of r.txn.sends) ≡ true → TicketOf (tickets past) r.txn t

-- ---- one more outcome

note_where : (past : List Answer) (o : Answer) (senders : List SenderState) (commits : List CommitRow) (a : CommitRow) → IsSomewhere past senders commits a → IsSomewhere (o ∷ past) senders commits a
note_where past o senders commits a (inl h) = inl h
note_where past o senders commits a (inr (inl h)) = inr (inl h)
note_where past o senders commits a (inr (inr (inl h))) = inr (inr (inl h))
note_where past o senders commits a (inr (inr (inr i))) = inr (inr (inr (inr i)))

-- an outcome that gives no ticket
note : (past : List Answer) (o : Answer) (senders : List SenderState) (commits : List CommitRow) → tickets (o ∷ past) ≡ tickets past → Accounted past senders commits → Accounted (o ∷ past) senders commits
note past o senders commits e h = record {
  somewhere = λ a i. note_where past o senders commits a (h.somewhere a (subst (λ z. In a z) e i));
  one = λ a b i j. h.one a b (subst (λ z. In a z) e i) (subst (λ z. In b z) e j);
  named = λ a i. h.named a (subst (λ z. In a z) e i);
  complete = λ r i t n. subst (λ z. TicketOf z r.txn t) (sym e) (h.complete r i t n);
}

-- ---- one sender changes

other_sender : (senders : List SenderState) (s d : ℕ) (x : SenderState) → (d ≢ s) → sender_in (set senders s x) d ≡ sender_in senders d
other_sender senders s d x ne = at_set (λ (z : SenderState). z ≡ sender_in senders d) senders s d x new_sender (λ e. absurd (ne e)) refl

this_sender : (senders : List SenderState) (s : ℕ) (x : SenderState) → s < length senders → sender_in (set senders s x) s ≡ x
this_sender senders s x l = at_set_within (λ (z : SenderState). z ≡ x) senders s s x new_sender l (λ e. refl) (λ ne. absurd (ne refl))

-- the numbers are one, or they differ
same_or_other : (d s : ℕ) → (d ≡ s) ⊎ (d ≢ s)
same_or_other d s = elim (cases_order d s) [
  | inl e ↦ inl e
  | inr (inl l) ↦ inr (λ e. let k : d < s = l in omega arith)
  | inr (inr l) ↦ inr (λ e. let k : s < d = l in omega arith)
]

-- where a ticket is after sender s becomes x: as for others, but for what is known of s
move : (past : List Answer) (o : Answer) (senders : List SenderState) (commits more : List CommitRow) (s : ℕ) (x : SenderState) (a : CommitRow)
    → ((f : Undecided) → (sender_in senders s).flight ≡ Some f → f.txn ≡ a.txn → IsSomewhere (o ∷ past) (set senders s x) more a)
    → ((k : Leftover) → In k (sender_in senders s).leftovers → k.id ≡ a.txn.id → k.ticket ≡ a.stamp → IsSomewhere (o ∷ past) (set senders s x) more a)
    → ((r : CommitRow) → In r commits → In r more) → IsSomewhere past senders commits a → IsSomewhere (o ∷ past) (set senders s x) more a
move past o senders commits more s x a flying left grow (inl h) = elim (same_or_other h.0 s) [
  | inl e ↦ flying h.1 (subst (λ d. (sender_in senders d).flight ≡ Some h.1) e h.2) h.3
  | inr ne ↦ inl (h.0, h.1, ap (λ (z : SenderState). z.flight) (other_sender senders s h.0 x ne) ∙ h.2, h.3)
]
move past o senders commits more s x a flying left grow (inr (inl h)) = inr (inl (h.0, grow h.0 h.1, h.2))
move past o senders commits more s x a flying left grow (inr (inr (inl h))) = elim (same_or_other h.0 s) [
  | inl e ↦ left h.1 (subst (λ d. In h.1 (sender_in senders d).leftovers) e h.2) h.3 h.4
  | inr ne ↦ inr (inr (inl (h.0, h.1, subst (λ (z : SenderState). In h.1 z.leftovers) (sym (other_sender senders s h.0 x ne)) h.2, h.3, h.4)))
]
move past o senders commits more s x a flying left grow (inr (inr (inr i))) = inr (inr (inr (inr i)))

-- sender s keeps what was left over
keep_left : (past : List Answer) (senders : List SenderState) (commits : List CommitRow) (s : ℕ) (x : SenderState) (a : CommitRow) (k : Leftover) → In k (sender_in senders s).leftovers → x.leftovers ≡ (sender_in senders s).leftovers → k.id ≡ a.txn.id → k.ticket ≡ a.stamp → IsSomewhere past (set senders s x) commits a
keep_left past senders commits s x a k i same d e =
    inr (inr (inl (s, k, at_set (λ (z : SenderState). In k z.leftovers) senders s s x new_sender (λ n. subst (λ z. In k z) (sym same) i) i, d, e)))

-- the sender has this transaction in flight
flies_on : (past : List Answer) (senders : List SenderState) (commits : List CommitRow) (s : ℕ) (x : SenderState) (a : CommitRow) (g : Undecided) → s < length senders → x.flight ≡ Some g → g.txn ≡ a.txn → IsSomewhere past (set senders s x) commits a
flies_on past senders commits s x a g l e d = inl (s, g, ap (λ (z : SenderState). z.flight) (this_sender senders s x l) ∙ e, d)

-- ---- a transaction is made

flown_accounted : (past : List Answer) (w : World) (c : ℕ) (sends : List SentMessage) → is_some (speaker w c).flight ≡ false → Accounted past w.senders w.commits → Accounted (commit_answer w c sends ∷ past) (commit_effect w c sends).senders (commit_effect w c sends).commits
flown_accounted past w c [] n h = note past Done w.senders w.commits refl h
flown_accounted past w c (first ∷ others) n h =
    let s = speaker_number w c in let x = speaker w c in let o = Begun (next_txn w c (first ∷ others)) in
    let y : SenderState = record x { seq = x.seq + 1; flight = Some (record { txn = next_txn w c (first ∷ others); given = []; mark = None }) } in record {
      somewhere = λ a i. move past o w.senders w.commits w.commits s y a
          (λ f e d. absurd (true≢false (sym (ap (λ (z : Option Undecided). is_some z) e) ∙ n)))
          (λ k j d e. keep_left (o ∷ past) w.senders w.commits s y a k j refl d e)
          (λ r j. j) (h.somewhere a i);
      one = h.one;
      named = h.named;
      complete = h.complete;
    }

-- ---- a proposal

ticket_accounted : (past : List Answer) (w : World) (c : ℕ) (t : Topic) → Reached past w → Asks w c t → Accounted past w.senders w.commits → Accounted (propose_answer w c t None ∷ past) (propose_effect w c t None).senders (propose_effect w c t None).commits
ticket_accounted past w c t r a h =
    let s = speaker_number w c in let f = undecided_at w c in let is : (speaker w c).flight ≡ Some f = a.flying.is ∙ ap Some (sym a.flying.at) in
    let within = within_senders w.senders s f is in let g = (r.inv.serves s).flying f is in
    let new : CommitRow = row (txn_of_id f.txn.id past) (next_ticket w c t) in let o = Ticket f.txn.id (next_ticket w c t) in
    let later_flight : Undecided = record f { given = insert_ticket (next_ticket w c t) f.given } in let y : SenderState = record (speaker w c) { flight = Some later_flight } in
    let own : new.txn ≡ f.txn = r.flights s f is in
    let fresh : (b : CommitRow) → In b (tickets past) → b.txn ≡ new.txn → b.stamp.topic ≡ t → Prim.⊥ =
    λ b i d e. not_given t f.given a.unheard b.stamp (g.given_all b i (d ∙ own)) (ap (λ (z : Topic). z.0) (sym e)) in record {
      somewhere = cons_one (λ (b : CommitRow). IsSomewhere (o ∷ past) (set w.senders s y) w.commits b) (tickets past) new
          (λ b i. move past o w.senders w.commits w.commits s y b
          (λ g e d. flies_on (o ∷ past) w.senders w.commits s y b later_flight within refl (ap (λ (z : Undecided). z.txn) (some_same f g (sym is ∙ e)) ∙ d))
          (λ k j d e. keep_left (o ∷ past) w.senders w.commits s y b k j refl d e)
          (λ q j. j) (h.somewhere b i))
          (flies_on (o ∷ past) w.senders w.commits s y new later_flight within refl (sym own));
      one = cons_two (λ (x y : CommitRow). x.txn ≡ y.txn → x.stamp.topic ≡ y.stamp.topic → x ≡ y) (tickets past) new h.one
          (λ b i d e. absurd (fresh b i d e))
          (λ b i d e. absurd (fresh b i (sym d) (sym e)))
          (λ d e. refl);
      named = cons_one (λ (b : CommitRow). names b.stamp.topic (topics_of b.txn.sends) ≡ true) (tickets past) new h.named
          (subst (λ (z : Transaction). names t (topics_of z.sends) ≡ true) (sym own) a.named);
      complete = λ q i u n. let k = h.complete q i u n in record { it = k.it; stands = inr k.stands; txn_is = k.txn_is; topic_is = k.topic_is };
    }

proposed_accounted : (past : List Answer) (w : World) (c : ℕ) (t : Topic) (o : Option ProposeFault) → Reached past w → Asks w c t → Accounted past w.senders w.commits → Accounted (propose_answer w c t o ∷ past) (propose_effect w c t o).senders (propose_effect w c t o).commits
proposed_accounted past w c t None r a h = ticket_accounted past w c t r a h
proposed_accounted past w c t (Some fault) r a h =
    let s = speaker_number w c in let f = undecided_at w c in let is : (speaker w c).flight ≡ Some f = a.flying.is ∙ ap Some (sym a.flying.at) in
    let within = within_senders w.senders s f is in let o = Failed f.txn.id fault in
    let later_flight : Undecided = record f { mark = Some fault } in let y : SenderState = record (speaker w c) { flight = Some later_flight } in record {
      somewhere = λ b i. move past o w.senders w.commits w.commits s y b
          (λ g e d. flies_on (o ∷ past) w.senders w.commits s y b later_flight within refl (ap (λ (z : Undecided). z.txn) (some_same f g (sym is ∙ e)) ∙ d))
          (λ k j d e. keep_left (o ∷ past) w.senders w.commits s y b k j refl d e)
          (λ q j. j) (h.somewhere b i);
      one = h.one;
      named = h.named;
      complete = h.complete;
    }

-- ---- a decision

decided_accounted : (past : List Answer) (w : World) (c : ℕ) → Reached past w → move_refusal w (Decides c) ≡ None → Accounted past w.senders w.commits → Accounted (move_answer w (Decides c) ∷ past) (decide_effect w c).senders (decide_effect w c).commits
decided_accounted past w c r n h =
    let p = checked w (Decides c) n in let fl = in_flight w c p.1.1.0 in let s = speaker_number w c in let f = undecided_at w c in
    let is : (speaker w c).flight ≡ Some f = fl.is ∙ ap Some (sym fl.at) in let g = (r.inv.serves s).flying f is in let new : CommitRow = row f.txn (greatest f.given) in
    let o = Decided f.txn.id (greatest f.given) in let y : SenderState = record (speaker w c) { floor = greatest f.given; flight = None } in record {
      somewhere = λ b i. move past o w.senders w.commits (w.commits ++ new ∷ []) s y b
          (λ y e d. inr (inl (new, In-push new w.commits, ap (λ (z : Undecided). z.txn) (some_same f y (sym is ∙ e)) ∙ d)))
          (λ k j d e. keep_left (o ∷ past) w.senders (w.commits ++ new ∷ []) s y b k j refl d e)
          (λ q j. In-append_left q w.commits (new ∷ []) j) (h.somewhere b i);
      one = h.one;
      named = h.named;
      complete = push_one (λ (q : CommitRow). (t : Topic) → names t (topics_of q.txn.sends) ≡ true → TicketOf (tickets past) q.txn t) w.commits new h.complete
          (λ t m. complete_at (tickets past) w s f g (not-false _ p.1.1.1.1.0) t m);
    }

-- ---- a withdrawal

withdrawn_accounted : (past : List Answer) (w : World) (c : ℕ) → Reached past w → move_refusal w (Withdraws c) ≡ None → Accounted past w.senders w.commits → Accounted (move_answer w (Withdraws c) ∷ past) (withdraw_effect w c).senders (withdraw_effect w c).commits
withdrawn_accounted past w c r n h =
    let p = checked w (Withdraws c) n in let fl = in_flight w c p.1.1.0 in let s = speaker_number w c in let f = undecided_at w c in let x = sender_in w.senders s in
    let is : (speaker w c).flight ≡ Some f = fl.is ∙ ap Some (sym fl.at) in let g = (r.inv.serves s).flying f is in
    let y : SenderState = record x { flight = None; leftovers = x.leftovers ++ map (leftover f.txn.id) f.given } in
    let here : (b : CommitRow) (k : Leftover) → In k y.leftovers → k.id ≡ b.txn.id → k.ticket ≡ b.stamp → IsSomewhere (Withdrawn f.txn.id c ∷ past) (set w.senders s y) w.commits b =
    λ b k i d e. inr (inr (inl (s, k, subst (λ (z : SenderState). In k z.leftovers) (sym (this_sender w.senders s y (within_senders w.senders s f is))) i, d, e))) in record {
      somewhere = λ b i. move past (Withdrawn f.txn.id c) w.senders w.commits w.commits s y b
          (λ z e d. let own : b.txn ≡ f.txn = sym (ap (λ (v : Undecided). v.txn) (some_same f z (sym is ∙ e)) ∙ d) in
          here b (leftover f.txn.id b.stamp)
          (In-append_right (leftover f.txn.id b.stamp) x.leftovers (map (leftover f.txn.id) f.given) (In-map (leftover f.txn.id) b.stamp f.given (g.given_all b i own)))
          (ap (λ (v : Transaction). v.id) (sym own)) refl)
          (λ k j d e. here b k (In-append_left k x.leftovers (map (leftover f.txn.id) f.given) j) d e)
          (λ q j. j) (h.somewhere b i);
      one = h.one;
      named = h.named;
      complete = h.complete;
    }

-- ---- a cancelling

-- what was left over still is, but for the one that is found
dropped_case : (t : Topic) (k l m : Leftover) (ks : List Leftover) (b : Bool) → (find_leftover t ks ≡ Some m → In l ks → In l (drop_leftover t ks) ⊎ (l ≡ m)) → cond b (Some k) (find_leftover t ks) ≡ Some m → In l (k ∷ ks) → In l (cond b ks (k ∷ drop_leftover t ks)) ⊎ (l ≡ m)
dropped_case t k l m ks true ih e (inl i) = inr (sym i ∙ some_same k m e)
dropped_case t k l m ks true ih e (inr i) = inl i
dropped_case t k l m ks false ih e (inl i) = inl (inl i)
dropped_case t k l m ks false ih e (inr i) = elim (ih e i) [ inl j ↦ inl (inr j) | inr d ↦ inr d ]

dropped : (t : Topic) (l m : Leftover) (ks : List Leftover) → find_leftover t ks ≡ Some m → In l ks → In l (drop_leftover t ks) ⊎ (l ≡ m)
dropped t l m [] e i = absurd i
dropped t l m (k ∷ ks) e i = dropped_case t k l m ks (k.ticket.topic.0 == t.0) (dropped t l m ks) e i

cancelled_accounted : (past : List Answer) (w : World) (c : ℕ) (t : Topic) (k : Found (find_leftover t (speaker w c).leftovers)) → Accounted past w.senders w.commits → Accounted (Cancelled k.it.id t ∷ past) (cancel_effect w c t (Some k.it)).senders w.commits
cancelled_accounted past w c t found_one h =
    let m = found_one.it in let e = found_one.is in let s = speaker_number w c in let x = sender_in w.senders s in
    let y : SenderState = record x { leftovers = drop_leftover t x.leftovers } in let found = leftover_found t x.leftovers m e in record {
      somewhere = λ b i. move past (Cancelled m.id t) w.senders w.commits w.commits s y b
          (λ f d n. inl (s, f, at_set (λ (z : SenderState). z.flight ≡ Some f) w.senders s s y new_sender (λ k. d) d, n))
          (λ k j d n. elim (dropped t k m x.leftovers e j) [
            | inl l ↦ inr (inr (inl (s, k, at_set (λ (z : SenderState). In k z.leftovers) w.senders s s y new_sender (λ z. l) j, d, n)))
            | inr q ↦ inr (inr (inr (inl (ap (λ z. Cancelled z t) (ap (λ (z : Leftover). z.id) (sym q) ∙ d)
                ∙ ap (Cancelled b.txn.id) (sym found.topic ∙ (ap (λ (z : Leftover). z.ticket.topic) (sym q) ∙ ap (λ (z : Stamp). z.topic) n))))))
          ])
          (λ q j. j) (h.somewhere b i);
      one = h.one;
      named = h.named;
      complete = h.complete;
    }

-- ---- each event

-- a new sender has nothing
opened_accounted : (past : List Answer) (o : Answer) (senders : List SenderState) (commits : List CommitRow) → tickets (o ∷ past) ≡ tickets past → Accounted past senders commits → Accounted (o ∷ past) (senders ++ new_sender ∷ []) commits
opened_accounted past o senders commits e h = let k = note past o senders commits e h in record {
  somewhere = λ a i. there a (k.somewhere a i);
  one = k.one;
  named = k.named;
  complete = k.complete;
}
  where
    same : (d : ℕ) → sender_in (senders ++ new_sender ∷ []) d ≡ sender_in senders d
    same d = at_push (λ (z : SenderState). z ≡ sender_in senders d) senders d new_sender new_sender (λ n x. x) refl

    there : (a : CommitRow) → IsSomewhere (o ∷ past) senders commits a → IsSomewhere (o ∷ past) (senders ++ new_sender ∷ []) commits a
    there a (inl x) = inl (x.0, x.1, ap (λ (z : SenderState). z.flight) (same x.0) ∙ x.2, x.3)
    there a (inr (inl x)) = inr (inl x)
    there a (inr (inr (inl x))) = inr (inr (inl (x.0, x.1, subst (λ (z : SenderState). In x.1 z.leftovers) (sym (same x.0)) x.2, x.3, x.4)))
    there a (inr (inr (inr x))) = inr (inr (inr x))

connected_accounted : (past : List Answer) (w : World) (c : ℕ) (claimed : Option ℕ) → Accounted past w.senders w.commits → Accounted (Done ∷ past) (connect_effect w c claimed).senders w.commits
connected_accounted past w c None h = opened_accounted past Done w.senders w.commits refl h
connected_accounted past w c (Some s) h = note past Done w.senders w.commits refl h

abbrev AreAccounted : List Answer → World → Type 0
AreAccounted past w = Accounted past w.senders w.commits

happens : (past : List Answer) (w : World) (e : Move) → Reached past w → AreAccounted past w → move_refusal w e ≡ None → InEachCase (λ v o. AreAccounted (o ∷ past) v) w e
happens past w (Connects c claimed) r h n = always (connected_accounted past w c claimed h)
happens past w (Commits c sends) r h n =
    let free = or_parts _ (is_some (speaker w c).flight) (checked w (Commits c sends) n).1.1.0 in
    (flown_accounted past w c [] free.1 h, λ k. flown_accounted past w c (k.0 ∷ k.1) free.1 h)
happens past w (Leaves c) r h n = (note past _ w.senders w.commits refl h, λ s. (note past _ w.senders w.commits refl h, λ k. note past _ w.senders w.commits refl h))
happens past w (Proposes c t memory) r h n =
    let asks = asks_of w c t memory n in (proposed_accounted past w c t None r asks h, λ k. proposed_accounted past w c t (Some k.it) r asks h)
happens past w (Decides c) r h n = always (decided_accounted past w c r n h)
happens past w (Withdraws c) r h n = always (withdrawn_accounted past w c r n h)
happens past w (Cancels c t) r h n = (note past Done w.senders w.commits refl h, λ k. cancelled_accounted past w c t k h)
happens past w e r h n = (note past _ w.senders w.commits refl h, λ k. note past _ w.senders w.commits refl h)

-- after a run each ticket is accounted for
pub accounted : (r : Run) → Accounted (answers_of r) (final_world r).senders (final_world r).commits
accounted = by_moves AreAccounted (λ capacity log_limit clocks. record {
  somewhere = λ a i. absurd i;
  one = λ a b i. absurd i;
  named = λ a i. absurd i;
  complete = λ q i. absurd i;
}) (λ past w why h. note past (Refused why) w.senders w.commits refl h) happens
