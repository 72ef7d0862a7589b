-- What every run keeps of connections and their senders: a sender's number of transactions, whose its undecided
-- transaction and its leftover tickets are, and that a connection which isn't open was closed.
use Rattle.delivery.proofs.Words.All.{◌≡◌, ℕ, ◌+◌, ◌<◌, ◌==◌, Bool, true, false, cond, ◌||◌, inl, inr, List, [], ◌∷◌, ◌++◌, map, length, get_or, set, Option, Some, None, refl, sym, ap, subst, ◌∙◌, true≢false, arith, eqb-true, eq-eqb, or_parts, or_right, not-false, length_push, TxnId, SentMessage, Transaction, In, at_set, at_set_within, In-map_cases, some_same, none_some, not_true, World, Connection, Undecided, Leftover, SenderState, Standing, is_reading, nobody, new_sender, connection_at, subscription_at, speaker, speaker_number, speaks_for, is_in_use, Move, Answer, move_refusal, move_effect, move_answer, undecided_at, leftover, next_txn, connect_effect, commit_effect, commit_answer, txn_count, closes, answers_of, final_world, Run, Leaving, Error, has_closed}
use Rattle.delivery.specs.Machine.Moves.Move.{Opens, Connects, Commits, Disconnects, Errs, Lost, Leaves, Proposes, Decides, Withdraws, Cancels, Takes}
use Rattle.delivery.proofs.Words.Steps.{sender_in, In-append_cases, In-drop, at_push, at_end, at_push_two, set_length, checked, in_flight, InEachCase, always, by_runs_moves, has_speaker, claim_free}
use Rattle.delivery.proofs.Theorem.SendersAreOwn.{Speaks, speak, flying_speaks, speaks, reading_there}
use Rattle.delivery.proofs.Core.Tests.{connection_there}

-- the id of the transaction of this sender and this number
abbrev pub id_at : ℕ → ℕ → TxnId
id_at s n = record { sender = record { 0 = s }; seq = n }

-- the connection of this number is open; beyond the last, it isn't
abbrev pub open_in : List Connection → ℕ → Bool
open_in connections c = is_reading (get_or connections c nobody).standing

-- none of these connections that speaks for s is open
abbrev pub NoneOpen : List Connection → ℕ → Type 0
NoneOpen connections s = (c : ℕ) → (get_or connections c nobody).sender ≡ Some s → open_in connections c ≡ false

-- A sender has made as many transactions as were answered, its undecided one is the last of them, and so is that
-- of its leftover tickets, and no connection that speaks for it is open then; a connection that isn't open was closed.
pub record Speaking (count : ℕ → ℕ) (was_shut : ℕ → Bool) (senders : List SenderState) (connections : List Connection) : Type 0 where
  pub seqs : (s : ℕ) → (sender_in senders s).seq ≡ count s
  pub flying : (s : ℕ) (f : Undecided) → (sender_in senders s).flight ≡ Some f → f.txn.id ≡ id_at s (sender_in senders s).seq
  pub left : (s : ℕ) (k : Leftover) → In k (sender_in senders s).leftovers → (k.id ≡ id_at s (sender_in senders s).seq) × NoneOpen connections s
  pub shut : (c : ℕ) → c < length connections → open_in connections c ≡ false → was_shut c ≡ true

-- as the answers so far count and close
abbrev pub IsSaid : List Answer → World → Type 0
IsSaid past w = Speaking (λ s. txn_count s past) (λ c. has_closed c past) w.senders w.connections

-- ---- writing

module _ {count : ℕ → ℕ} {was_shut : ℕ → Bool} {senders : List SenderState} {connections : List Connection} where
  -- a sender is written with its number as it was
  written : (s : ℕ) (x : SenderState) → x.seq ≡ (sender_in senders s).seq → ((f : Undecided) → x.flight ≡ Some f → f.txn.id ≡ id_at s (sender_in senders s).seq)
      → ((k : Leftover) → In k x.leftovers → (k.id ≡ id_at s (sender_in senders s).seq) × NoneOpen connections s)
      → Speaking count was_shut senders connections → Speaking count was_shut (set senders s x) connections
  written s x e g l h = record {
    seqs = λ r. at_set (λ (z : SenderState). z.seq ≡ count r) senders s r x new_sender
        (λ k. e ∙ (h.seqs s ∙ ap count (sym k))) (h.seqs r);
    flying = λ r f. at_set (λ (z : SenderState). z.flight ≡ Some f → f.txn.id ≡ id_at r z.seq) senders s r x new_sender
        (λ k d. g f d ∙ (ap (λ n. id_at s n) (sym e) ∙ ap (λ m. id_at m x.seq) (sym k))) (h.flying r f);
    left = λ r k. at_set (λ (z : SenderState). In k z.leftovers → (k.id ≡ id_at r z.seq) × NoneOpen connections r) senders s r x new_sender
        (λ j i. (let a = l k i in
        (a.0 ∙ (ap (λ n. id_at s n) (sym e) ∙ ap (λ m. id_at m x.seq) (sym j)), subst (λ m. NoneOpen connections m) (sym j) a.1)))
        (h.left r k);
    shut = h.shut;
  }

  -- with its flight and its leftover tickets as they were too
  same_id_flies : (s : ℕ) (f g : Undecided) → (sender_in senders s).flight ≡ Some f → g.txn ≡ f.txn
      → Speaking count was_shut senders connections → Speaking count was_shut (set senders s (record (sender_in senders s) { flight = Some g })) connections
  same_id_flies s f g e t h =
      written s (record (sender_in senders s) { flight = Some g }) refl
      (λ y d. ap (λ (z : Undecided). z.txn.id) (sym (some_same g y d)) ∙ (ap (λ (z : Transaction). z.id) t ∙ h.flying s f e)) (h.left s) h

  -- a connection isn't open any more, and was closed
  stood : {later : ℕ → Bool} (c : ℕ) (x : Connection) → is_reading x.standing ≡ false → later c ≡ true → ((d : ℕ) → was_shut d ≡ true → later d ≡ true)
      → Speaking count was_shut senders connections → Speaking count later senders (set connections c x)
  stood {later} c x n t more h = record {
    seqs = h.seqs;
    flying = h.flying;
    left = λ s k i. (let a = h.left s k i in
        (a.0, λ d. at_set (λ (z : Connection). z.sender ≡ Some s → is_reading z.standing ≡ false) connections c d x nobody (λ j m. n) (a.1 d)));
    shut = λ d l. at_set (λ (z : Connection). is_reading z.standing ≡ false → later d ≡ true) connections c d x nobody
        (λ j e. subst (λ m. later m ≡ true) (sym j) t)
        (λ e. more d (h.shut d (let m : length (set connections c x) ≡ length connections = set_length connections c x in omega arith) e));
  }

  -- a connection is opened
  opened : Speaking count was_shut senders connections → Speaking count was_shut senders (connections ++ record { sender = None; standing = Standing.Open } ∷ [])
  opened h =
      let new : Connection = record { sender = None; standing = Standing.Open } in let n = length_push connections new in record {
        seqs = h.seqs;
        flying = h.flying;
        left = λ s k i. (let a = h.left s k i in
            (a.0, λ c. at_push_two (λ (z : Connection). z.sender ≡ Some s → is_reading z.standing ≡ false) connections c new nobody (λ e m. none_some s m) (λ ne. a.1 c)));
        shut = λ c l. at_push_two (λ (z : Connection). is_reading z.standing ≡ false → was_shut c ≡ true) connections c new nobody
            (λ e d. absurd (true≢false d)) (λ ne. h.shut c (omega arith));
      }

  -- a sender begins
  begun : Speaking count was_shut senders connections → Speaking count was_shut (senders ++ new_sender ∷ []) connections
  begun h = record {
    seqs = λ s. subst (λ (z : SenderState). z.seq ≡ count s) (sym (same s)) (h.seqs s);
    flying = λ s f. subst (λ (z : SenderState). z.flight ≡ Some f → f.txn.id ≡ id_at s z.seq) (sym (same s)) (h.flying s f);
    left = λ s k. subst (λ (z : SenderState). In k z.leftovers → (k.id ≡ id_at s z.seq) × NoneOpen connections s) (sym (same s)) (h.left s k);
    shut = h.shut;
  }
    where
      same : (s : ℕ) → sender_in (senders ++ new_sender ∷ []) s ≡ sender_in senders s
      same s = at_push (λ (z : SenderState). z ≡ sender_in senders s) senders s new_sender new_sender (λ e x. x) refl

  -- a connection speaks for a sender that has nothing to cancel
  joined : (c s : ℕ) → (sender_in senders s).leftovers ≡ [] → Speaking count was_shut senders connections
      → Speaking count was_shut senders (set connections c (record { sender = Some s; standing = (get_or connections c nobody).standing }))
  joined c s idle h =
      let new : Connection = record { sender = Some s; standing = (get_or connections c nobody).standing } in let m = set_length connections c new in record {
        seqs = h.seqs;
        flying = h.flying;
        left = λ r k i. (let a = h.left r k i in (
          a.0,
          λ d. at_set (λ (z : Connection). z.sender ≡ Some r → is_reading z.standing ≡ false) connections c d new nobody
              (λ e q. absurd (subst (λ ks. In k ks) (ap (λ n. (sender_in senders n).leftovers) (sym (some_same s r q)) ∙ idle) i)) (a.1 d),
        ));
        shut = λ d l. at_set (λ (z : Connection). is_reading z.standing ≡ false → was_shut d ≡ true) connections c d new nobody
            (λ e q. subst (λ n. was_shut n ≡ true) (sym e) (h.shut c (omega (arith, e)) q)) (h.shut d (omega arith));
      }

-- a connection is leaving, as it is answered
leaving : {count : ℕ → ℕ} {senders : List SenderState} {connections : List Connection} (past : List Answer) (c : ℕ) (o : Answer) → has_closed c (o ∷ past) ≡ true
    → Speaking count (λ d. has_closed d past) senders connections
    → Speaking count (λ d. has_closed d (o ∷ past)) senders (set connections c (record { sender = (get_or connections c nobody).sender; standing = Standing.Leaving }))
leaving past c o t h = stood c _ refl t (λ d. or_right (closes d o) (has_closed d past)) h

closed_now : (c : ℕ) (past : List Answer) → ((c == c) || has_closed c past) ≡ true
closed_now c past = ap (λ b. b || has_closed c past) (eq-eqb c c refl)

-- ---- each move

flown : (past : List Answer) (w : World) (c : ℕ) (first : SentMessage) (others : List SentMessage) → speaker_number w c < length w.senders
    → (connection_at w c).sender ≡ Some (speaker_number w c) → open_in w.connections c ≡ true
    → IsSaid past w → IsSaid (commit_answer w c (first ∷ others) ∷ past) (commit_effect w c (first ∷ others))
flown past w c first others l own o h =
    let t = speaker_number w c in let x = sender_in w.senders t in
    let y : SenderState = record x { seq = x.seq + 1; flight = Some (record { txn = next_txn w c (first ∷ others); given = []; mark = None }) } in
    record {
      seqs = λ s. at_set_within (λ (z : SenderState). z.seq ≡ cond (t == s) (txn_count s past + 1) (txn_count s past)) w.senders t s y new_sender l
          (λ e. ap (λ (n : ℕ). n + 1) (h.seqs t ∙ ap (λ n. txn_count n past) (sym e)) ∙ ap (λ (b : Bool). cond b (txn_count s past + 1) (txn_count s past)) (sym (eq-eqb t s (sym e))))
          (λ ne. h.seqs s ∙ ap (λ (b : Bool). cond b (txn_count s past + 1) (txn_count s past)) (sym (not_true (t == s) refl (λ e. ne (sym (eqb-true t s e))))));
      flying = λ s f. at_set (λ (z : SenderState). z.flight ≡ Some f → f.txn.id ≡ id_at s z.seq) w.senders t s y new_sender
          (λ k d. ap (λ (z : Undecided). z.txn.id) (sym (some_same _ f d)) ∙ ap (λ m. id_at m (x.seq + 1)) (sym k)) (h.flying s f);
      left = λ s k. at_set (λ (z : SenderState). In k z.leftovers → (k.id ≡ id_at s z.seq) × NoneOpen w.connections s) w.senders t s y new_sender
          (λ j i. absurd (true≢false (sym o ∙ (h.left t k i).1 c own))) (h.left s k);
      shut = h.shut;
    }

withdrawn : (past : List Answer) (w : World) (c : ℕ) → c < length w.connections → Speaks w → speaks_for (speaker_number w c) (connection_at w c) ≡ true → (speaker w c).flight ≡ Some (undecided_at w c)
    → IsSaid past w → IsSaid (move_answer w (Withdraws c) ∷ past) (move_effect w (Withdraws c))
withdrawn past w c l p own e h =
    let f = undecided_at w c in let o = move_answer w (Withdraws c) in let s = speaker_number w c in let g = leaving past c o (closed_now c past) h in
    written s _ refl (λ y d. none_some y d)
    (λ k i. elim (In-append_cases k (sender_in w.senders s).leftovers (map (leftover f.txn.id) f.given) i) [
      | inl j ↦ g.left s k j
      | inr j ↦ (let m = In-map_cases (leftover f.txn.id) k f.given j in
          (ap (λ (z : Leftover). z.id) (sym m.is) ∙ g.flying s f e, shut_there))
    ]) g
  where
    -- no other connection that is open speaks for the sender
    others : (d : ℕ) → (d ≡ c → Prim.⊥) → (connection_at w d).sender ≡ Some (speaker_number w c) → open_in w.connections d ≡ false
    others d ne is =
        not_true (open_in w.connections d) refl
        (λ o. ne (p.own d c (speaker_number w c) (speaks (speaker_number w c) (connection_at w d) (reading_there (connection_at w d).standing o) is) own))

    shut_there : NoneOpen (move_effect w (Withdraws c)).connections (speaker_number w c)
    shut_there d = at_set_within (λ (z : Connection). z.sender ≡ Some (speaker_number w c) → is_reading z.standing ≡ false) w.connections c d _ nobody l (λ k m. refl) (λ ne m. others d ne m)

happens : (past : List Answer) (w : World) (e : Move) → Speaks w → IsSaid past w → move_refusal w e ≡ None → InEachCase (λ v o. IsSaid (o ∷ past) v) w e
happens past w Opens p h n = always (opened h)
happens past w (Connects c claimed) p h n = always ((elim claimed as (λ (claimed : Option ℕ). ((s : ℕ) → claimed ≡ Some s → is_in_use w s ≡ false) → IsSaid past (connect_effect w c claimed)) [
  | None ↦ λ free. joined c (length w.senders) (at_end (λ (z : SenderState). z.leftovers ≡ []) w.senders new_sender new_sender refl) (begun h)
  | Some s ↦ λ free. joined c s (p.resting s (Rattle.delivery.proofs.Theorem.SendersAreOwn.unspoken w s (free s refl))).1 h
]) (claim_free w c claimed n))
happens past w (Commits c sends) p h n =
    let k = checked w (Commits c sends) n in let own = has_speaker w c (not-false _ k.1.1.1.0) in
    (h, λ m. flown past w c m.0 m.1 (p.there c (speaker_number w c) own) own (not-false _ (or_parts _ _ k.1.1.0).0) h)
happens past w (Disconnects c) p h n = always (leaving past c (Leaving c) (closed_now c past) h)
happens past w (Errs c) p h n = always (leaving past c (Error c) (closed_now c past) h)
happens past w (Lost c) p h n = always (leaving past c (Leaving c) (closed_now c past) h)
happens past w (Leaves c) p h n = let k = checked w (Leaves c) n in (stood c _ refl (h.shut c (connection_there w c k.0) k.1.1.0) (λ d e. e) h, λ s. (h, λ m. h))
happens past w (Proposes c t memory) p h n =
    let k = checked w (Proposes c t memory) n in let fl = in_flight w c k.1.1.0 in let is = fl.is ∙ ap Some (sym fl.at) in
    (same_id_flies (speaker_number w c) (undecided_at w c) _ is refl h, λ fault. same_id_flies (speaker_number w c) (undecided_at w c) _ is refl h)
happens past w (Decides c) p h n = let s = speaker_number w c in always (written s _ refl (λ f d. none_some f d) (h.left s) h)
happens past w (Withdraws c) p h n =
    let k = checked w (Withdraws c) n in let fl = in_flight w c k.1.1.0 in
    always (withdrawn past w c (connection_there w c k.0) p (flying_speaks w c k.1.0 k.1.1.0) (fl.is ∙ ap Some (sym fl.at)) h)
happens past w (Cancels c t) p h n = let s = speaker_number w c in (h, λ k. written s _ refl (h.flying s) (λ l i. h.left s l (In-drop t l (sender_in w.senders s).leftovers i)) h)
happens past w (Takes s) p h n = let c = (subscription_at w s).connection in (leaving past c (Error c) (closed_now c past) h, λ k. h)
happens past w _ p h n = always h

-- a world that answers led to
pub record Spoken (past : List Answer) (w : World) : Type 0 where
  pub speaks : Speaks w
  pub speaking : IsSaid past w

-- what a run keeps of connections and senders
pub spoken : (r : Run) → Spoken (answers_of r) (final_world r)
spoken r = record {
  speaks = speak r;
  speaking = by_runs_moves IsSaid (λ capacity log_limit clocks.
      record { seqs = λ s. refl; flying = λ s f e. none_some f e; left = λ s k i. absurd i; shut = λ c l. absurd (omega arith) })
      (λ past w why h. h) (λ q e h n. happens (answers_of q) (final_world q) e (speak q) h n) r;
}
