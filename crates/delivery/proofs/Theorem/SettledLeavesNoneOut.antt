-- Each event keeps the run beside its core, and a settled topic's log leaves no row out.
use Rattle.delivery.proofs.Words.All.{◌≡◌, ℕ, ◌<◌, ◌≤◌, Bool, true, false, ◌⊎◌, inl, inr, List, [], ◌∷◌, set, Option, Some, None, refl, sym, ap, subst, ◌∙◌, arith, true≢false, false≢true, TopicPart, topics_of, CommitRow, same_id, In, names, Decision, Topic, TxnId, SentMessage, Stamp, ProposeFault, TopicState, Pending, Entry, decided_stamp, new_topic, after_learn, after_cancel, due_part, after_turn, id_equal, id_same, id_itself, at_set, at_set_within, Waits, others, not_true, none_some, log_row, World, Undecided, Leftover, SenderState, new_sender, topic_at, speaker, subscription_at, entry_at, new_topics, speaker_number, log_at, Move, Answer, world_after, answer_to, move_refusal, move_effect, move_answer, undecided_at, find_leftover, find_verdict, verdict_in, oldest_live, commit_effect, commit_answer, proposal_fault, propose_effect, propose_answer, withdraw_effect, cancel_effect, cancel_answer, learn_effect, release_answer, queue_has_room, take_answer, leave_effect, leave_answer, close_effect, close_effect_of, connect_effect, commits_of, IsSettled, AllResolved, Run, answers_of, final_world}
use Rattle.mcast_txn.proofs.Members.{at_set_same}
use Rattle.mcast_group.specs.Machine.{turn_count}
use Rattle.mcast_group.proofs.Turning.{turn_none}
use Rattle.delivery.specs.Machine.Moves.Move.{AddsTopic, Connects, Commits, Subscribes, Unsubscribes, Leaves, Proposes, Decides, Withdraws, Cancels, Learns, Releases, Turns, Takes}
use Rattle.delivery.specs.Machine.Moves.Answer.{Refused, Done, Gone, Failed, Decided, Learnt, Handed}
use Rattle.delivery.proofs.Words.Steps.{row, topic_in, sender_in, flies_uncommitted, within_senders, leftover_found, at_push, at_added, Reached, tickets, by_refusal, checked, in_flight, asks_of, Asks, new_ticket, no_fault, same_flights, one_fewer, one_same, one_kept, by_found, at_new, reached, by_run}
use Rattle.delivery.proofs.Machine.AnswerLemmas.{In-ticket, commit_of}
use Rattle.delivery.proofs.Machine.VerdictsFit.{fits, found_one_row, HasCommit}
use Rattle.delivery.proofs.Theorem.SettledSteps.{Calm, Settling, Gone_to, Gone-same, Gone-learned, Gone-without, Gone-release, Gone-turned, Fewer, Fewer-same, Fewer-topic, Fewer-sender, Fewer-then, Settling-fewer, Quiet, note_quiet, note_withdrawn, note_cancelled, note_turned, flying_settling, ticket_settling}

-- ---- quiet outcomes

-- it says nothing of a transaction but that it was decided
abbrev is_quiet : Answer → Bool
is_quiet (Answer.Begun txn) = false
is_quiet (Answer.Ticket id ticket) = false
is_quiet (Answer.Withdrawn id c) = false
is_quiet (Answer.Cancelled id t) = false
is_quiet (Answer.Turned t count) = false
is_quiet o = true

quiet : (o : Answer) → is_quiet o ≡ true → Quiet o
quiet (Answer.Begun txn) q = absurd (false≢true q)
quiet (Answer.Ticket id ticket) q = absurd (false≢true q)
quiet (Answer.Withdrawn id c) q = absurd (false≢true q)
quiet (Answer.Cancelled id t) q = absurd (false≢true q)
quiet (Answer.Turned t count) q = absurd (false≢true q)
quiet (Answer.Decided id stamp) q = record { tickets = λ past. refl; over = λ i k. k; settled = λ t past h. h.1 }
quiet _ q = record { tickets = λ past. refl; over = λ i k. k; settled = λ t past h. h }

-- a quiet outcome of an event after which there is less
fewer_quiet : (past : List Answer) (w v : World) (o : Answer) → Quiet o → Fewer w.topics w.senders v.topics v.senders → Settling past w.topics w.senders → Settling (o ∷ past) v.topics v.senders
fewer_quiet past w v o q f h = note_quiet past v.topics v.senders o q (Settling-fewer past w.topics w.senders v.topics v.senders f h)

-- ---- a turn of a topic where all is resolved

-- a transaction that was decided has a row in the core's commit list
pub committed_of : (past : List Answer) (w : World) (id : TxnId) (stamp : Stamp) → Reached past w → In (Decided id stamp) past → HasCommit w.commits id
committed_of past w id stamp h k = let c = commit_of id stamp past k in record { row = c.it; stands = subst (λ z. In c.it z) h.commits c.stands; id_is = c.id_is }

pending_committed : (past : List Answer) (w : World) (t : Topic) → Reached past w → Settling past w.topics w.senders → AllResolved t past → (p : Pending) → In p (topic_in w.topics t).pending → HasCommit w.commits p.part.id
pending_committed past w t h l all p i =
    let k = h.inv.tied t in let a = k.ticketed p i in let here : p.part.topic ≡ t = k.sound.own p i ∙ k.topic in
    let id : a.ticket.txn.id ≡ p.part.id = ap (λ (z : TopicPart). z.id) a.part_is in
    elim (all a.ticket.txn (l.ticket_flew a.ticket a.stands) (subst (λ z. names z (topics_of a.ticket.txn.sends) ≡ true) here a.named)) [
      | inl d ↦ subst (λ z. HasCommit w.commits z) id (committed_of past w a.ticket.txn.id d.0 h d.1)
      | inr d ↦ absurd (true≢false (sym (id_same p.part.id a.ticket.txn.id (sym id))
          ∙ l.gone t p a.ticket.txn.id i (d.1 a.ticket.stamp (In-ticket a.ticket past a.stands) (ap (λ (z : Stamp). z.topic) a.stamp_is ∙ here))))
    ]

flights_still : (past : List Answer) (w : World) (t : Topic) → Reached past w → Settling past w.topics w.senders → AllResolved t past → (s : ℕ) (f : Undecided) → (sender_in w.senders s).flight ≡ Some f → names t (topics_of f.txn.sends) ≡ false
flights_still past w t h l all s f e = not_true (names t (topics_of f.txn.sends)) refl (λ n.
    elim (all f.txn (l.flew s f e) n) [
      | inl d ↦ (let c = committed_of past w f.txn.id d.0 h d.1 in
          flies_uncommitted (tickets past) w.commits w.topics s _ _ f ((h.inv.serves s).flying f e) c.row c.stands (id_same c.row.txn.id f.txn.id c.id_is))
      | inr d ↦ true≢false (sym (id_itself f.txn.id) ∙ l.not_over s f f.txn.id (Answer.Withdrawn f.txn.id d.0.0) e d.0.1 refl)
    ])

turn_settling : (past : List Answer) (w : World) (t : Topic) → Reached past w → Settling past w.topics w.senders → Settling (move_answer w (Turns t) ∷ past) (set w.topics t.0 (after_turn (queue_has_room w) (verdict_in w) (topic_at w t))) w.senders
turn_settling past w t h l =
    let y = after_turn (queue_has_room w) (verdict_in w) (topic_at w t) in
    note_turned past (set w.topics t.0 y) w.senders t (turn_count (queue_has_room w) (verdict_in w) (topic_at w t))
    (λ all. record {
      none = at_set_same (λ (z : TopicState). (p : Pending) → In p z.pending → Prim.⊥) w.topics t.0 y (new_topic t 0 0)
          (λ p i. subst (λ z. In p z) (turn_none (queue_has_room w) (verdict_in w) (topic_in w.topics t) (h.inv.tied t).sound
          (found_one_row (tickets past) w t h.inv)
          (fits (tickets past) w t h.inv (pending_committed past w t h l all))) i)
          (λ p i. i);
      still = flights_still past w t h l all;
    })
    (Settling-fewer past w.topics w.senders (set w.topics t.0 y) w.senders
    (Fewer-topic w.topics w.senders t y (Gone-turned (queue_has_room w) (verdict_in w) (topic_at w t))) l)

-- ---- each event

proposed_settling : (past : List Answer) (w : World) (c : ℕ) (t : Topic) (memory : Bool) → Reached past w → Settling past w.topics w.senders → Asks w c t → (o : Option ProposeFault) → proposal_fault w c t memory ≡ o → Settling (propose_answer w c t o ∷ past) (propose_effect w c t o).topics (propose_effect w c t o).senders
proposed_settling past w c t memory h l a None e =
    let s = speaker_number w c in let f = undecided_at w c in let new = new_ticket w c t a (no_fault w c t memory _ refl e) in
    ticket_settling past w s t f h.inv new (h.flights s f new.flight) l
proposed_settling past w c t memory h l a (Some fault) e =
    let s = speaker_number w c in let f = undecided_at w c in let k = a.flying.is ∙ ap Some (sym a.flying.at) in
    fewer_quiet past w (propose_effect w c t (Some fault)) (Failed f.txn.id fault) (quiet (Failed f.txn.id fault) refl)
    (Fewer-sender w.topics w.senders s _ (omega arith) (one_same w.senders s _ f _ k refl refl)) l

withdrawn_settling : (past : List Answer) (w : World) (c : ℕ) → Reached past w → Settling past w.topics w.senders → move_refusal w (Withdraws c) ≡ None → Settling (move_answer w (Withdraws c) ∷ past) (withdraw_effect w c).topics (withdraw_effect w c).senders
withdrawn_settling past w c h l e =
    let p = checked w (Withdraws c) e in let fl = in_flight w c p.1.1.0 in let s = speaker_number w c in let f = undecided_at w c in let k = fl.is ∙ ap Some (sym fl.at) in
    let g = (h.inv.serves s).flying f k in let v = withdraw_effect w c in
    note_withdrawn past v.topics v.senders f.txn.id c
    (at_set (λ (z : SenderState). f.txn.id.seq ≤ z.seq) w.senders s f.txn.id.sender.0 _ new_sender (λ n. g.seq_le)
    (subst (λ z. f.txn.id.seq ≤ (sender_in w.senders z).seq) (sym g.sender) g.seq_le))
    (λ d y. at_set_within (λ (z : SenderState). z.flight ≡ Some y → same_id y.txn.id f.txn.id ≡ false) w.senders s d _ new_sender (within_senders w.senders s f k)
    (λ n i. none_some y i)
    (λ ne i. not_true (same_id y.txn.id f.txn.id) refl (λ m.
    ne (sym ((h.inv.serves d).flying y i).sender ∙ (ap (λ (z : TxnId). z.sender.0) (id_equal y.txn.id f.txn.id m) ∙ g.sender)))))
    (Settling-fewer past w.topics w.senders v.topics v.senders (Fewer-sender w.topics w.senders s _ (omega arith) (one_fewer w.senders s _ refl)) l)

cancelled_settling : (past : List Answer) (w : World) (c : ℕ) (t : Topic) → Reached past w → Settling past w.topics w.senders → (o : Option Leftover) → find_leftover t (speaker w c).leftovers ≡ o → Settling (cancel_answer t o ∷ past) (cancel_effect w c t o).topics (cancel_effect w c t o).senders
cancelled_settling past w c t h l None e = note_quiet past w.topics w.senders Done (quiet Done refl) l
cancelled_settling past w c t h l (Some k) e =
    let s = speaker_number w c in let x = sender_in w.senders s in let v = cancel_effect w c t (Some k) in
    let found = leftover_found t x.leftovers k e in let g = (h.inv.serves s).left k found.stands in let y = after_cancel k.id (topic_in w.topics t) in
    note_cancelled past v.topics v.senders k.id t
    (at_set (λ (z : SenderState). k.id.seq ≤ z.seq) w.senders s k.id.sender.0 _ new_sender (λ n. g.seq_le)
    (subst (λ z. k.id.seq ≤ (sender_in w.senders z).seq) (sym g.sender) g.seq_le))
    (λ d f. at_set (λ (z : SenderState). z.flight ≡ Some f → same_id f.txn.id k.id ≡ false) w.senders s d _ new_sender
    (λ n i. apart s f i g.sender (λ j. (h.inv.serves s).left_older k f found.stands j))
    (λ i. not_true (same_id f.txn.id k.id) refl (λ m.
    let d_is : d ≡ s = sym ((h.inv.serves d).flying f i).sender ∙ (ap (λ (z : TxnId). z.sender.0) (id_equal f.txn.id k.id m) ∙ g.sender) in
    true≢false (sym m ∙ apart s f (subst (λ z. (sender_in w.senders z).flight ≡ Some f) d_is i) g.sender (λ j. (h.inv.serves s).left_older k f found.stands j)))))
    (at_set_same (λ (z : TopicState). (p : Pending) → In p z.pending → same_id p.part.id k.id ≡ false) w.topics t.0 y (new_topic t 0 0)
    (λ p i. (others k.id p (topic_in w.topics t).pending i).differs) (λ p i. absurd i))
    (Settling-fewer past w.topics w.senders v.topics v.senders
    (Fewer-then w.topics (set w.topics t.0 y) v.topics w.senders w.senders v.senders
    (Fewer-topic w.topics w.senders t y (Gone-without k.id (topic_in w.topics t)))
    (Fewer-sender (set w.topics t.0 y) w.senders s _ (omega arith) (one_kept w.senders s _ refl))) l)
  where
    apart : (s : ℕ) (f : Undecided) → (sender_in w.senders s).flight ≡ Some f → k.id.sender.0 ≡ s → ((sender_in w.senders s).flight ≡ Some f → k.id.seq < f.txn.id.seq) → same_id f.txn.id k.id ≡ false
    apart s f i own older = not_true (same_id f.txn.id k.id) refl (λ m.
        let a : k.id.seq < f.txn.id.seq = older i in
        let b : f.txn.id.seq ≡ k.id.seq = ap (λ (z : TxnId). z.seq) (id_equal f.txn.id k.id m) in omega arith)

learned_fewer : (w : World) (t : Topic) (id : TxnId) (o : Option Decision) → Fewer w.topics w.senders (learn_effect w t id o).topics (learn_effect w t id o).senders
learned_fewer w t id None = Fewer-same w.topics w.senders
learned_fewer w t id (Some v) = Fewer-topic w.topics w.senders t (after_learn id (decided_stamp v) (topic_at w t)) (Gone-learned id (decided_stamp v) (topic_at w t))

closed_fewer : (w : World) (s : ℕ) (o : Option Entry) → Fewer w.topics w.senders (close_effect_of w s o).topics (close_effect_of w s o).senders
closed_fewer w s None = Fewer-same w.topics w.senders
closed_fewer w s (Some e) = let t = (subscription_at w s).topic in Fewer-topic w.topics w.senders t _ (Gone-same (topic_at w t).pending)

flown_settling : (past : List Answer) (w : World) (c : ℕ) (sends : List SentMessage) → Reached past w → Settling past w.topics w.senders → Settling (commit_answer w c sends ∷ past) (commit_effect w c sends).topics (commit_effect w c sends).senders
flown_settling past w c [] h l = note_quiet past w.topics w.senders Done (quiet Done refl) l
flown_settling past w c (first ∷ others) h l = flying_settling past w c first others h.inv l

connected_settling : (past : List Answer) (w : World) (c : ℕ) (claimed : Option ℕ) → Settling past w.topics w.senders → Settling (Done ∷ past) (connect_effect w c claimed).topics (connect_effect w c claimed).senders
connected_settling past w c None l = fewer_quiet past w (connect_effect w c None) Done (quiet Done refl) (record {
  seqs = λ s. at_push (λ (z : SenderState). (sender_in w.senders s).seq ≤ z.seq) w.senders s new_sender new_sender (λ d o. o) (omega arith);
  flights = λ s f. at_push (λ (z : SenderState). z.flight ≡ Some f → (g : Undecided) × ((sender_in w.senders s).flight ≡ Some g) × (g.txn ≡ f.txn)) w.senders s new_sender new_sender
      (λ d o k. none_some f k) (λ k. (f, k, refl));
  parts = λ t. Gone-same (topic_in w.topics t).pending;
}) l
connected_settling past w c (Some s) l = note_quiet past w.topics w.senders Done (quiet Done refl) l

happens_settling : (past : List Answer) (w : World) (e : Move) → Reached past w → Settling past w.topics w.senders → move_refusal w e ≡ None → Settling (move_answer w e ∷ past) (move_effect w e).topics (move_effect w e).senders
happens_settling past w (AddsTopic clock) h l e = fewer_quiet past w (move_effect w (AddsTopic clock)) Done (quiet Done refl) (record {
  seqs = λ s. omega arith;
  flights = same_flights w.senders;
  parts = λ t. at_added (λ u z. Gone_to (topic_in w.topics u).pending z.pending) w.topics w.log_limit clock t (λ k q i. absurd i) (Gone-same (topic_in w.topics t).pending);
}) l
happens_settling past w (Connects c claimed) h l e = connected_settling past w c claimed l
happens_settling past w (Commits c sends) h l e = flown_settling past w c sends h l
happens_settling past w (Subscribes c t) h l e =
    fewer_quiet past w (move_effect w (Subscribes c t)) (move_answer w (Subscribes c t)) (quiet (move_answer w (Subscribes c t)) refl)
    (Fewer-topic w.topics w.senders t _ (Gone-same (topic_at w t).pending)) l
happens_settling past w (Unsubscribes c s) h l e =
    fewer_quiet past w (close_effect w s) (move_answer w (Unsubscribes c s)) (quiet (move_answer w (Unsubscribes c s)) refl) (closed_fewer w s (entry_at w s)) l
happens_settling past w (Leaves c) h l e = elim (oldest_live c 0 w.subscriptions) as (λ (o : Option ℕ). Settling (leave_answer w c o ∷ past) (leave_effect w c o).topics (leave_effect w c o).senders) [
  | None ↦ note_quiet past w.topics w.senders (Gone c) (quiet (Gone c) refl) l
  | Some s ↦ fewer_quiet past w (close_effect w s) (leave_answer w c (Some s)) (quiet (leave_answer w c (Some s)) refl) (closed_fewer w s (entry_at w s)) l
]
happens_settling past w (Proposes c t memory) h l e = proposed_settling past w c t memory h l (asks_of w c t memory e) (proposal_fault w c t memory) refl
happens_settling past w (Decides c) h l e =
    fewer_quiet past w (move_effect w (Decides c)) (move_answer w (Decides c)) (quiet (move_answer w (Decides c)) refl)
    (Fewer-sender w.topics w.senders (speaker_number w c) _ (omega arith) (one_fewer w.senders (speaker_number w c) _ refl)) l
happens_settling past w (Withdraws c) h l e = withdrawn_settling past w c h l e
happens_settling past w (Cancels c t) h l e = cancelled_settling past w c t h l (find_leftover t (speaker w c).leftovers) refl
happens_settling past w (Learns t id) h l e =
    fewer_quiet past w (move_effect w (Learns t id)) (Learnt id t) (quiet (Learnt id t) refl) (learned_fewer w t id (find_verdict id w.verdicts)) l
happens_settling past w (Releases t) h l e =
    fewer_quiet past w (move_effect w (Releases t)) (move_answer w (Releases t)) (elim (due_part (topic_at w t)) as (λ o. Quiet (release_answer t o)) [ None ↦ quiet Done refl | Some p ↦ quiet (release_answer t (Some p)) refl ])
    (Fewer-topic w.topics w.senders t _ (Gone-release (queue_has_room w) (topic_at w t))) l
happens_settling past w (Turns t) h l e = turn_settling past w t h l
happens_settling past w (Takes s) h l e =
    by_found (λ v o. Settling (o ∷ past) v.topics v.senders) w (Takes s)
    (note_quiet past w.topics w.senders (take_answer w s None) (quiet (take_answer w s None) refl) l, λ k. note_quiet past w.topics w.senders (Handed s k.it) (quiet (Handed s k.it) refl) l)
happens_settling past w e h l n = note_quiet past w.topics w.senders (move_answer w e) (quiet (move_answer w e) refl) l

-- each event keeps Settling
pub step_settling : (past : List Answer) (w : World) (e : Move) → Reached past w → Settling past w.topics w.senders → Settling (answer_to w e ∷ past) (world_after w e).topics (world_after w e).senders
step_settling past w e h l =
    by_refusal (λ v o. Settling (o ∷ past) v.topics v.senders) w e (λ why. note_quiet past w.topics w.senders (Refused why) (quiet (Refused why) refl) l)
    (λ n. happens_settling past w e h l n)

-- ---- over a run

no_parts : (log_limit : ℕ) (clocks : List ℕ) (t : Topic) (p : Pending) → In p (topic_in (new_topics 0 log_limit clocks) t).pending → Prim.⊥
no_parts log_limit clocks t = at_new (λ z. (p : Pending) → In p z.pending → Prim.⊥) 0 log_limit clocks t.0 t (omega arith) (λ limit clock p i. i)

-- a run beside the core that it leads to
pub settling_run : (r : Run) → Settling (answers_of r) (final_world r).topics (final_world r).senders
settling_run = by_run (λ past w. Settling past w.topics w.senders) (λ capacity log_limit clocks. record {
  gone = λ t p id i k. absurd k;
  flew = λ s f e. none_some f e;
  ticket_flew = λ a k. absurd k;
  over_old = λ id o k. absurd k;
  not_over = λ s f id o e k. absurd k;
  calm = λ t e. record { none = no_parts log_limit clocks t; still = λ s f n. none_some f n };
}) (λ r e h. step_settling (answers_of r) (final_world r) e (reached r) h)

logged_of : (w : World) (t : Topic) (r : CommitRow) → Calm w.topics w.senders t → In (log_row r) (topic_in w.topics t).held ⊎ Waits r.txn.id (topic_in w.topics t).pending → In (log_row r) (topic_in w.topics t).held
logged_of w t r k (inl i) = i
logged_of w t r k (inr v) = absurd (k.none v.part v.stands)

-- a committed transaction that names a settled topic is in its log
pub settled_in_log : (r : Run) (t : Topic) (row : CommitRow) → IsSettled t (answers_of r) → In row (commits_of (answers_of r)) → names t (topics_of row.txn.sends) ≡ true
    → In (log_row row) (log_at (final_world r) t)
settled_in_log r t row settled i n =
    let w = final_world r in let h = reached r in logged_of w t row ((settling_run r).calm t settled) ((h.inv.tied t).placed row (subst (λ z. In row z) h.commits i) n)
