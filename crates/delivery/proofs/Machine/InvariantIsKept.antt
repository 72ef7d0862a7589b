-- Every event keeps the invariant, and the commit list of the past is the core's.
use Rattle.delivery.proofs.Words.All.{◌≡◌, ℕ, ◌+◌, ◌<◌, ◌≤◌, Bool, true, false, cond, not, inl, inr, List, [], ◌∷◌, ◌++◌, length, set, Option, Some, None, refl, sym, ap, subst, ◌∙◌, arith, option_or, option_map, is_some, true≢false, and_parts, ltb-true, not-false, greatest, part_at, topics_of, Transaction, CommitRow, same_id, In, names, Decision, Topic, TxnId, SentMessage, ProposeFault, LearnFault, first_refusal, Pending, propose_fault, is_pending, after_learn, due_part, after_release, after_turn, decided_stamp, id_equal, id_itself, at_set, NoneHolds, passes, some_same, none_some, not_true, Objection, World, Undecided, Leftover, SenderState, topic_at, new_sender, speaker, speaker_number, Move, Answer, world_after, answer_to, move_refusal, move_effect, move_answer, undecided_at, undecided_or_none, find_leftover, find_verdict, verdict_in, has_ticket, next_txn, next_ticket, connect_effect, commit_effect, commit_answer, proposal_fault, propose_effect, propose_answer, decide_effect, withdraw_effect, cancel_effect, cancel_answer, learn_effect, learn_objection, release_answer, queue_has_room, or_out_of_memory, learn_objection_of, is_topic, move_refusals, topic_objection, txn_of_id, commits_of}
use Rattle.mcast_group.specs.Machine.{propose_refusals}
use Rattle.delivery.specs.Machine.Moves.Move.{AddsTopic, Connects, Commits, Subscribes, Unsubscribes, Leaves, Proposes, Decides, Withdraws, Cancels, Learns, Releases, Turns, Takes}
use Rattle.delivery.specs.Machine.Moves.Answer.{Refused, Done, Begun, Ticket}
use Rattle.delivery.proofs.Machine.Invariant.{row, sender_in, Inv, Holds}
use Rattle.delivery.proofs.Machine.TopicSteps.{topic_step, Keeps-learned, Keeps-release, Keeps-turned, Finds}
use Rattle.delivery.proofs.Machine.ProposeStep.{New, enter_step}
use Rattle.delivery.proofs.Machine.SenderSteps.{flown_step, marked_step, decide_step, withdrawn_step, cancel_step}
use Rattle.delivery.proofs.Machine.SubscriptionSteps.{subscribe_step, end_step, take_step, added_step, opened_step, at_push}
use Rattle.delivery.proofs.Machine.ByFound.{by_found}

-- ---- refusals

-- an event is refused and nothing is changed, or it isn't
refusal_case : (P : World → Answer → Type 0) (w : World) (e : Move) (o : Option Objection) → ((why : Objection) → P w (Refused why)) → (o ≡ None → P (move_effect w e) (move_answer w e)) → P (elim o [ None ↦ move_effect w e | Some why ↦ w ]) (elim o [ None ↦ move_answer w e | Some why ↦ Refused why ])
refusal_case P w e None h k = k refl
refusal_case P w e (Some why) h k = h why

-- what holds of each refusal, and of each effect with its answer, holds of what an event comes to
pub by_refusal : (P : World → Answer → Type 0) (w : World) (e : Move) → ((why : Objection) → P w (Refused why)) → (move_refusal w e ≡ None → P (move_effect w e) (move_answer w e)) → P (world_after w e) (answer_to w e)
by_refusal P w e h k = refusal_case P w e (move_refusal w e) h k

-- where there is neither of two objections, there is no second one
pub or_else_after : (a b : Option Objection) → option_or a b ≡ None → b ≡ None
or_else_after None b e = e
or_else_after (Some why) b e = none_some why (sym e)

-- what an event that isn't refused says
pub checked : (w : World) (e : Move) → move_refusal w e ≡ None → NoneHolds (move_refusals w e)
checked w e h = passes (move_refusals w e) ((elim (first_refusal (move_refusals w e)) as (λ (a : Option Objection). option_or a (topic_objection w e) ≡ None → a ≡ None) [ None ↦ λ e. refl | Some why ↦ λ e. none_some why (sym e) ]) h)

-- the flight of an event that wants one
pub record InFlight (w : World) (c : ℕ) : Type 0 where
  pub flight : Undecided
  pub is : (speaker w c).flight ≡ Some flight
  pub at : undecided_at w c ≡ flight

flight_case : (w : World) (c : ℕ) (o : Option Undecided) → (speaker w c).flight ≡ o → not (is_some o) ≡ false → InFlight w c
flight_case w c None e h = absurd (true≢false h)
flight_case w c (Some f) e h = record { flight = f; is = e; at = ap undecided_or_none e }

-- where the test for a flight passes, the connection's sender has an undecided transaction
pub in_flight : (w : World) (c : ℕ) → not (is_some (speaker w c).flight) ≡ false → InFlight w c
in_flight w c h = flight_case w c (speaker w c).flight refl h

-- ---- tickets of a past

-- each ticket with its transaction
abbrev pub tickets : List Answer → List CommitRow
tickets [] = []
tickets (Ticket id ticket ∷ before) = row (txn_of_id id before) ticket ∷ tickets before
tickets (o ∷ before) = tickets before

-- each undecided transaction is as it was made
abbrev pub Flights : List Answer → List SenderState → Type 0
Flights past senders = (s : ℕ) (f : Undecided) → (sender_in senders s).flight ≡ Some f → txn_of_id f.txn.id past ≡ f.txn

-- the core that a run leads to: the invariant, its flights as they were made, and the run's commit list
pub record Reached (past : List Answer) (w : World) : Type 0 where
  pub inv : Holds (tickets past) w
  pub flights : Flights past w.senders
  pub commits : commits_of past ≡ w.commits

-- ---- what is found

-- a verdict that is found is in the list, and has the id that was looked for
pub verdict_found : (id : TxnId) (vs : List Decision) (u : Decision) → find_verdict id vs ≡ Some u → In u vs × (u.id ≡ id)
verdict_found id [] u e = cc
verdict_found id (v ∷ vs) u e = (elim (same_id v.id id) as (λ (b : Bool). same_id v.id id ≡ b → cond b (Some v) (find_verdict id vs) ≡ Some u → In u (v ∷ vs) × (u.id ≡ id)) [
  | true ↦ λ e d. (let same = some_same v u d in (inl same, subst (λ (z : Decision). z.id ≡ id) same (id_equal v.id id e)))
  | false ↦ λ e d. (let h = (verdict_found id vs u) d in (inr h.0, h.1))
]) refl e

-- each verdict that the core finds is that of a committed row
pub finds : (ts : List CommitRow) (w : World) → Holds ts w → Finds w.commits (verdict_in w)
finds ts w inv id v e = let f = verdict_found id w.verdicts v e in let k = inv.voted v f.0 in record { row = k.row; stands = k.stands; id_is = k.id_is; stamp_is = k.stamp_is }

-- ---- the core keeps all, and its tickets stay, where no ticket is given

-- one of the senders has less in flight
abbrev pub FewerFlights : List SenderState → List SenderState → Type 0
FewerFlights old new = (s : ℕ) (f : Undecided) → (sender_in new s).flight ≡ Some f → (g : Undecided) × ((sender_in old s).flight ≡ Some g) × (g.txn ≡ f.txn)

-- flights are as they were made after a step for which FewerFlights holds
pub flights_fewer : (past : List Answer) (old new : List SenderState) → FewerFlights old new → Flights past old → Flights past new
flights_fewer past old new h k s f e = let g = h s f e in subst (λ (z : Transaction). txn_of_id z.id past ≡ z) g.2 (k s g.0 g.1)

-- the same senders have no other flights
pub same_flights : (senders : List SenderState) → FewerFlights senders senders
same_flights senders s f e = (f, e, refl)

-- writing a sender that has no flight adds no flight
pub one_fewer : (senders : List SenderState) (s : ℕ) (x : SenderState) → x.flight ≡ None → FewerFlights senders (set senders s x)
one_fewer senders s x n d f = at_set (λ (z : SenderState). z.flight ≡ Some f → (g : Undecided) × ((sender_in senders d).flight ≡ Some g) × (g.txn ≡ f.txn)) senders s d x new_sender
    (λ e k. none_some f (sym n ∙ k)) (λ k. (f, k, refl))

-- writing a sender whose flight has the same transaction adds no flight
pub one_same : (senders : List SenderState) (s : ℕ) (x : SenderState) (f g : Undecided) → (sender_in senders s).flight ≡ Some f → x.flight ≡ Some g → f.txn ≡ g.txn → FewerFlights senders (set senders s x)
one_same senders s x f g e d same r y = at_set (λ (z : SenderState). z.flight ≡ Some y → (h : Undecided) × ((sender_in senders r).flight ≡ Some h) × (h.txn ≡ y.txn)) senders s r x new_sender
    (λ n k. (f, subst (λ v. (sender_in senders v).flight ≡ Some f) (sym n) e, same ∙ ap (λ (z : Undecided). z.txn) (some_same g y (sym d ∙ k)))) (λ k. (y, k, refl))

-- a sender that keeps its flight
pub one_kept : (senders : List SenderState) (s : ℕ) (x : SenderState) → x.flight ≡ (sender_in senders s).flight → FewerFlights senders (set senders s x)
one_kept senders s x e r y = at_set (λ (z : SenderState). z.flight ≡ Some y → (h : Undecided) × ((sender_in senders r).flight ≡ Some h) × (h.txn ≡ y.txn)) senders s r x new_sender
    (λ n k. (y, subst (λ v. (sender_in senders v).flight ≡ Some y) (sym n) (sym e ∙ k), refl)) (λ k. (y, k, refl))

-- ---- each event

made_new : (past : List Answer) (txn : Transaction) → txn_of_id txn.id (Begun txn ∷ past) ≡ txn
made_new past txn = rw (id_itself txn.id) refl

made_other : (past : List Answer) (txn : Transaction) (id : TxnId) → same_id txn.id id ≡ false → txn_of_id id (Begun txn ∷ past) ≡ txn_of_id id past
made_other past txn id e = rw e refl

flown_reached : (past : List Answer) (w : World) (c : ℕ) (sends : List SentMessage) → Reached past w → Reached (commit_answer w c sends ∷ past) (commit_effect w c sends)
flown_reached past w c [] h = record { inv = h.inv; flights = h.flights; commits = h.commits }
flown_reached past w c (first ∷ others) h =
    let s = speaker_number w c in let txn = next_txn w c (first ∷ others) in record {
      inv = flown_step (tickets past) w s first others h.inv;
      flights = λ d f. at_set (λ (z : SenderState). z.flight ≡ Some f → txn_of_id f.txn.id (Begun txn ∷ past) ≡ f.txn) w.senders s d _ new_sender
          (λ n k. made_txn txn f (ap (λ (z : Undecided). z.txn) (some_same _ f k)))
          (λ k. old d f k);
      commits = h.commits;
    }
  where
    made_txn : (txn : Transaction) (f : Undecided) → txn ≡ f.txn → txn_of_id f.txn.id (Begun txn ∷ past) ≡ f.txn
    made_txn txn f e = subst (λ (z : Transaction). txn_of_id z.id (Begun txn ∷ past) ≡ z) e (made_new past txn)

    newer : (d : ℕ) (f : Undecided) → (sender_in w.senders d).flight ≡ Some f → (next_txn w c (first ∷ others)).id ≡ f.txn.id → Prim.⊥
    newer d f e k =
        let g = (h.inv.serves d).flying f e in let l : f.txn.id.seq ≤ (sender_in w.senders d).seq = g.seq_le in
        let m : (sender_in w.senders (speaker_number w c)).seq + 1 ≡ f.txn.id.seq = ap (λ (z : TxnId). z.seq) k in
        let n : speaker_number w c ≡ d = ap (λ (z : TxnId). z.sender.0) k ∙ g.sender in
        let o : f.txn.id.seq ≤ (sender_in w.senders (speaker_number w c)).seq = subst (λ v. f.txn.id.seq ≤ (sender_in w.senders v).seq) (sym n) l in omega arith

    old : (d : ℕ) (f : Undecided) → (sender_in w.senders d).flight ≡ Some f → txn_of_id f.txn.id (Begun (next_txn w c (first ∷ others)) ∷ past) ≡ f.txn
    old d f e =
        made_other past (next_txn w c (first ∷ others)) f.txn.id
        (not_true (same_id (next_txn w c (first ∷ others)).id f.txn.id) refl (λ k. newer d f e (id_equal (next_txn w c (first ∷ others)).id f.txn.id k)))
        ∙ h.flights d f e

-- where no ticket is given and nothing is decided or made, the past says no more of these
quiet : (past : List Answer) (w v : World) → Reached past w → Inv (tickets past) v.commits v.verdicts v.topics v.senders v.subscriptions → FewerFlights w.senders v.senders → v.commits ≡ w.commits → Reached past v
quiet past w v h inv few e = record { inv = inv; flights = flights_fewer past w.senders v.senders few h.flights; commits = h.commits ∙ sym e }

-- ---- propose

-- what a topic's leave for a ticket says
pub record Room (w : World) (c : ℕ) (t : Topic) : Type 0 where
  pub apart : is_pending (undecided_at w c).txn.id (topic_at w t).pending ≡ false
  pub limit : let x = topic_at w t in length x.pending + length x.held < x.log_limit

room_of : (w : World) (c : ℕ) (t : Topic) → propose_fault (speaker w c).floor (part_at (undecided_at w c).txn.id (undecided_at w c).txn.sends t) (topic_at w t) ≡ None → Room w c t
room_of w c t e =
    let p = passes (propose_refusals (speaker w c).floor (part_at (undecided_at w c).txn.id (undecided_at w c).txn.sends t) (topic_at w t)) e in
    record { apart = p.0; limit = ltb-true (length (topic_at w t).pending + length (topic_at w t).held) (topic_at w t).log_limit (not-false _ p.1.1.0) }

-- where a proposal has no fault, its transaction isn't pending at the topic, whose log has room
pub no_fault : (w : World) (c : ℕ) (t : Topic) (memory : Bool) (o : Option ProposeFault) → propose_fault (speaker w c).floor (part_at (undecided_at w c).txn.id (undecided_at w c).txn.sends t) (topic_at w t) ≡ o → or_out_of_memory memory o ≡ None → Room w c t
no_fault w c t memory None e k = room_of w c t e
no_fault w c t memory (Some fault) e k = none_some fault (sym k)

-- what a proposal that isn't refused says
pub record Asks (w : World) (c : ℕ) (t : Topic) : Type 0 where
  pub flying : InFlight w c
  pub room : t.0 < length w.topics
  pub named : names t (topics_of (undecided_at w c).txn.sends) ≡ true
  pub unheard : has_ticket t (undecided_at w c).given ≡ false

-- a proposal that isn't refused is of a flight that names the topic and has no ticket of it
pub asks_of : (w : World) (c : ℕ) (t : Topic) (memory : Bool) → move_refusal w (Proposes c t memory) ≡ None → Asks w c t
asks_of w c t memory e =
    let p = checked w (Proposes c t memory) e in let n = and_parts (is_topic w t) (names t (topics_of (undecided_at w c).txn.sends)) (not-false _ p.1.1.1.1.0) in
    record { flying = in_flight w c p.1.1.0; room = ltb-true t.0 (length w.topics) n.0; named = n.1; unheard = p.1.1.1.1.1.0 }

-- so a proposal without a fault gets a new ticket
pub new_ticket : (w : World) (c : ℕ) (t : Topic) (a : Asks w c t) → Room w c t → New w (speaker_number w c) t (undecided_at w c)
new_ticket w c t a r = record { flight = a.flying.is ∙ ap Some (sym a.flying.at); room = a.room; named = a.named; unheard = a.unheard; apart = r.apart; limit = r.limit }

proposed_case : (past : List Answer) (w : World) (c : ℕ) (t : Topic) (memory : Bool) → Reached past w → Asks w c t → (o : Option ProposeFault) → proposal_fault w c t memory ≡ o → Reached (propose_answer w c t o ∷ past) (propose_effect w c t o)
proposed_case past w c t memory h a None e =
    let s = speaker_number w c in let f = undecided_at w c in
    let new = new_ticket w c t a (no_fault w c t memory (propose_fault (speaker w c).floor (part_at f.txn.id f.txn.sends t) (topic_at w t)) refl e) in record {
      inv = subst (λ (z : Transaction). Holds (row z (next_ticket w c t) ∷ tickets past) (propose_effect w c t None)) (sym (h.flights s f new.flight)) (enter_step (tickets past) w s t f h.inv new);
      flights = flights_fewer past w.senders _ (one_same w.senders s _ f _ new.flight refl refl) h.flights;
      commits = h.commits;
    }
proposed_case past w c t memory h a (Some fault) e =
    let s = speaker_number w c in let f = undecided_at w c in let k = a.flying.is ∙ ap Some (sym a.flying.at) in record {
      inv = marked_step (tickets past) w s f (record f { mark = Some fault }) h.inv k refl refl;
      flights = flights_fewer past w.senders _ (one_same w.senders s _ f _ k refl refl) h.flights;
      commits = h.commits;
    }

-- ---- decide

decided_reached : (past : List Answer) (w : World) (c : ℕ) → Reached past w → move_refusal w (Decides c) ≡ None → Reached (move_answer w (Decides c) ∷ past) (decide_effect w c)
decided_reached past w c h e =
    let p = checked w (Decides c) e in let fl = in_flight w c p.1.1.0 in
    let s = speaker_number w c in let f = undecided_at w c in let k = fl.is ∙ ap Some (sym fl.at) in record {
      inv = decide_step (tickets past) w s f h.inv (record { flight = k; complete = not-false _ p.1.1.1.1.0 });
      flights = flights_fewer past w.senders _ (one_fewer w.senders s _ refl) h.flights;
      commits = ap (λ (z : List CommitRow). z ++ row (txn_of_id f.txn.id past) (greatest f.given) ∷ []) h.commits
          ∙ ap (λ (z : Transaction). w.commits ++ row z (greatest f.given) ∷ []) (h.flights s f k);
    }

-- ---- the others

withdrawn_reached : (past : List Answer) (w : World) (c : ℕ) → Reached past w → move_refusal w (Withdraws c) ≡ None → Reached (move_answer w (Withdraws c) ∷ past) (withdraw_effect w c)
withdrawn_reached past w c h e =
    let p = checked w (Withdraws c) e in let fl = in_flight w c p.1.1.0 in
    let s = speaker_number w c in let f = undecided_at w c in let k = fl.is ∙ ap Some (sym fl.at) in record {
      inv = withdrawn_step (tickets past) w s f h.inv k;
      flights = flights_fewer past w.senders _ (one_fewer w.senders s _ refl) h.flights;
      commits = h.commits;
    }

no_learn_fault : (o : Option LearnFault) → option_map learn_objection_of o ≡ None → o ≡ None
no_learn_fault None e = refl
no_learn_fault (Some fault) e = none_some _ (sym e)

-- a learn leaves the senders and the commit list
pub learned_same : (w : World) (t : Topic) (id : TxnId) (o : Option Decision) → ((learn_effect w t id o).senders ≡ w.senders) × ((learn_effect w t id o).commits ≡ w.commits)
learned_same w t id None = (refl, refl)
learned_same w t id (Some v) = (refl, refl)

learned_reached : (past : List Answer) (w : World) (t : Topic) (id : TxnId) → Reached past w → move_refusal w (Learns t id) ≡ None → Reached past (move_effect w (Learns t id))
learned_reached past w t id h e =
    let o = find_verdict id w.verdicts in let same = learned_same w t id o in record {
      inv = (elim o as (λ (o : Option Decision). find_verdict id w.verdicts ≡ o → learn_objection w t id o ≡ None → Holds (tickets past) (learn_effect w t id o)) [
        | None ↦ λ f e. none_some _ (sym e)
        | Some v ↦ λ f e. topic_step (tickets past) w t (after_learn id (decided_stamp v) (topic_at w t)) h.inv (Keeps-learned (tickets past) w.commits t (topic_at w t) id v (h.inv.tied t) (no_learn_fault _ e) (finds (tickets past) w h.inv id v f))
      ]) refl (or_else_after (first_refusal (move_refusals w (Learns t id))) (learn_objection w t id o) e);
      flights = subst (λ z. Flights past z) (sym same.0) h.flights;
      commits = h.commits ∙ sym same.1;
    }

-- an outcome that says nothing of tickets, transactions and decisions
unspoken : (past : List Answer) (w : World) (o : Answer) → tickets (o ∷ past) ≡ tickets past → ((id : TxnId) → txn_of_id id (o ∷ past) ≡ txn_of_id id past) → commits_of (o ∷ past) ≡ commits_of past → Reached past w → Reached (o ∷ past) w
unspoken past w o a b c h = record { inv = subst (λ z. Holds z w) (sym a) h.inv; flights = λ s f e. b f.txn.id ∙ h.flights s f e; commits = c ∙ h.commits }

-- an event that isn't refused keeps Reached
pub happens_reached : (past : List Answer) (w : World) (e : Move) → Reached past w → move_refusal w e ≡ None → Reached (move_answer w e ∷ past) (move_effect w e)
happens_reached past w (AddsTopic clock) h e = record { inv = added_step (tickets past) w clock h.inv; flights = h.flights; commits = h.commits }
happens_reached past w (Connects c claimed) h e = elim claimed as (λ (claimed : Option ℕ). Reached (Done ∷ past) (connect_effect w c claimed)) [
  | None ↦ record { inv = opened_step (tickets past) w h.inv; flights = λ s f. at_push (λ (z : SenderState). z.flight ≡ Some f → txn_of_id f.txn.id past ≡ f.txn) w.senders s new_sender new_sender (λ d o. o) (h.flights s f); commits = h.commits }
  | Some s ↦ record { inv = h.inv; flights = h.flights; commits = h.commits }
]
happens_reached past w (Commits c sends) h e = flown_reached past w c sends h
happens_reached past w (Subscribes c t) h e =
    let p = checked w (Subscribes c t) e in
    record { inv = subscribe_step (tickets past) w c t h.inv (ltb-true t.0 (length w.topics) (not-false _ p.1.1.1.0)); flights = h.flights; commits = h.commits }
happens_reached past w (Unsubscribes c s) h e =
    by_found (λ v o. Reached (o ∷ past) v) w (Unsubscribes c s)
    (record { inv = h.inv; flights = h.flights; commits = h.commits }, λ k. record { inv = end_step (tickets past) w s k.it h.inv k.is; flights = h.flights; commits = h.commits })
happens_reached past w (Leaves c) h e =
    by_found (λ v o. Reached (o ∷ past) v) w (Leaves c) (
      record { inv = h.inv; flights = h.flights; commits = h.commits },
      λ s. (
        record { inv = h.inv; flights = h.flights; commits = h.commits },
        λ k. record { inv = end_step (tickets past) w s.it k.it h.inv k.is; flights = h.flights; commits = h.commits },
      ),
    )
happens_reached past w (Proposes c t memory) h e = proposed_case past w c t memory h (asks_of w c t memory e) (proposal_fault w c t memory) refl
happens_reached past w (Decides c) h e = decided_reached past w c h e
happens_reached past w (Withdraws c) h e = withdrawn_reached past w c h e
happens_reached past w (Cancels c t) h e = (elim (find_leftover t (speaker w c).leftovers) as (λ (o : Option Leftover). find_leftover t (speaker w c).leftovers ≡ o → Reached (cancel_answer t o ∷ past) (cancel_effect w c t o)) [
  | None ↦ λ e. record { inv = h.inv; flights = h.flights; commits = h.commits }
  | Some k ↦ λ e. (let s = speaker_number w c in record { inv = cancel_step (tickets past) w s t k h.inv e; flights = flights_fewer past w.senders _ (one_kept w.senders s _ refl) h.flights; commits = h.commits })
]) refl
happens_reached past w (Learns t id) h e = unspoken past (move_effect w (Learns t id)) _ refl (λ id. refl) refl (learned_reached past w t id h e)
happens_reached past w (Releases t) h e = (elim (due_part (topic_at w t)) as (λ (o : Option Pending). Reached past (move_effect w (Releases t)) → Reached (release_answer t o ∷ past) (move_effect w (Releases t))) [
  | None ↦ λ h. record { inv = h.inv; flights = h.flights; commits = h.commits }
  | Some p ↦ λ h. record { inv = h.inv; flights = h.flights; commits = h.commits }
]) (record { inv = topic_step (tickets past) w t (after_release (queue_has_room w) (topic_at w t)) h.inv (Keeps-release (tickets past) w.commits t (queue_has_room w) (topic_at w t) h.inv.consistent (h.inv.tied t)); flights = h.flights; commits = h.commits })
happens_reached past w (Turns t) h e = record {
  inv = topic_step (tickets past) w t (after_turn (queue_has_room w) (verdict_in w) (topic_at w t)) h.inv
      (Keeps-turned (tickets past) w.commits t (queue_has_room w) (verdict_in w) (topic_at w t) h.inv.consistent (finds (tickets past) w h.inv) (h.inv.tied t));
  flights = h.flights;
  commits = h.commits;
}
happens_reached past w (Takes s) h e =
    by_found (λ v o. Reached (o ∷ past) v) w (Takes s)
    (record { inv = h.inv; flights = h.flights; commits = h.commits }, λ item. record { inv = take_step (tickets past) w s h.inv; flights = h.flights; commits = h.commits })
happens_reached past w _ h e = record { inv = h.inv; flights = h.flights; commits = h.commits }

-- each event keeps Reached
pub step_reached : (past : List Answer) (w : World) (e : Move) → Reached past w → Reached (answer_to w e ∷ past) (world_after w e)
step_reached past w e h =
    by_refusal (λ v o. Reached (o ∷ past) v) w e (λ why. record { inv = h.inv; flights = h.flights; commits = h.commits })
    (λ n. happens_reached past w e h n)
