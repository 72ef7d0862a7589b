-- The account of a run's steps is what the machine answered to its moves, refusals and what was merely done aside.
use Rattle.delivery.proofs.Words.All.{◌≡◌, ℕ, ◌+◌, ◌<◌, ◌==◌, Bool, true, false, cond, not, ◌&&◌, ◌⊎◌, inl, inr, List, [], ◌∷◌, ◌++◌, length, Option, Some, None, refl, sym, ap, subst, ◌∙◌, true≢false, ltb-true, false≢true, not-false, slice_get, codes, is_some, option_map_or, option_or, option_to_list, Topic, TxnId, SentMessage, greatest, first_refusal, In, Item, ProposeFault, Pending, due_part, RawFrame, Action, Command, first_of, Unread, action_by, commit, held_after, is_ended, transactions_left, sends_in, is_known, has_destination, field, transaction_of, send_of, NoneHolds, some_same, due, Run, answers_of, final_world, Objection, refusal_of, accepted_at, World, Leftover, topic_at, connection_at, subscription_at, speaker, start, speaker_number, Move, Answer, world_after, answer_to, move_refusal, move_effect, move_answer, needs_open, undecided_at, find_leftover, oldest_live, or_out_of_memory, commit_answer, proposal_fault, propose_answer, cancel_answer, release_answer, take_answer, leave_answer, next_ticket, end_now, next_txn, run, answers_from, Commits, Subscribes, Unsubscribes, Disconnects, Errs, Lost, Leaves, Proposes, Decides, Withdraws, Cancels, Learns, Releases, Turns, Takes, Connects, AddsTopic, TopicList, Event, Outcome, Refusal, CoreStep, Reading, frame_in, has_effect, accepted_of, names_after, number_by, account_of, account_of_step, last_of, sends_by, has_closed, replies_to, Core, core_of, moves, session_at, frame_move, topic_moves, is_faulted, is_out_of_memory, outcome_of, move_outcome, unless, cut_of, is_any, reply_outcomes, outcomes, IsCoreRun, claims_of, claimed_sender, sender_of}
use Rattle.stomp_session.specs.declared.action.Action.TheVariants as actions
use Rattle.stomp_frame.specs.declared.command.Command.TheVariants as commands
use Rattle.delivery.proofs.Words.Steps.{sender_in, leftover_found, In-append_cases, made_answer, made_world, refused_answer, checked, in_flight, run_append, answers_append, longer, has_speaker, flying_speaker, cancelling_speaker}
use Rattle.delivery.proofs.Core.ByReading.{in_option, refusal_some, by_next}
use Rattle.delivery.proofs.Core.Said.{said, txn_count_said, has_closed_said}
use Rattle.delivery.proofs.Core.Speaking.{spoken, id_at, open_in}
use Rattle.delivery.proofs.Core.Tests.{connection_there}
use Rattle.delivery.proofs.Core.NextItem.{next_item_is, connection_is}
use Rattle.delivery.proofs.Core.SendsLeft.{sends_are_left}
use Rattle.delivery.proofs.Core.ClaimsStand.{claims_stand, claims_own}
use Rattle.delivery.proofs.Core.Actions.{frame_fits}

-- ---- the run of the machine that a run of the core is

-- all moves of these steps
abbrev pub all_moves : TopicList → ℕ → List CoreStep → List Move
all_moves topics capacity [] = []
all_moves topics capacity (step ∷ older) = all_moves topics capacity older ++ moves (core_of topics capacity older) step.event step.reading step.outcome

-- the run of the machine
abbrev pub run_of : TopicList → ℕ → List CoreStep → Run
run_of topics capacity steps = record { capacity = capacity; log_limit = 65536; clocks = topics.clocks; events = all_moves topics capacity steps }

-- its world is the core's
pub world_is : (topics : TopicList) (capacity : ℕ) (steps : List CoreStep) → (core_of topics capacity steps).world ≡ final_world (run_of topics capacity steps)
world_is topics capacity [] = refl
world_is topics capacity (step ∷ older) =
    let k = core_of topics capacity older in let ms = moves k step.event step.reading step.outcome in
    ap (run ms) (world_is topics capacity older) ∙ sym (run_append (all_moves topics capacity older) ms (start capacity 65536 topics.clocks))

-- the core of this machine, with these steps
abbrev core_with : List (List ℕ) → World → List CoreStep → Core
core_with names w steps = record { names = names; world = w; steps = steps }

-- that of a run of the machine
abbrev pub core_at : List (List ℕ) → Run → List CoreStep → Core
core_at names r steps = core_with names (final_world r) steps

-- ---- answers and outcomes

-- what comes of a move: it is refused, or it has its answer
pub by_answer : (P : Outcome → Type 0) (w : World) (e : Move) (o : Outcome) → ((why : Objection) (x : Refusal) → answer_to w e ≡ Answer.Refused why → P (Outcome.Refused x))
    → (move_refusal w e ≡ None → answer_to w e ≡ move_answer w e → (z : Outcome) → outcome_of (move_answer w e) ≡ Some z → P z) → outcome_of (answer_to w e) ≡ Some o → P o
by_answer P w e o h g d = (elim (move_refusal w e) as (λ (r : Option Objection). move_refusal w e ≡ r → P o) [
  | None ↦ λ n. g n (made_answer w e n) o (ap outcome_of (sym (made_answer w e n)) ∙ d)
  | Some why ↦ λ n. (let a = refused_answer w e why n in let k = refusal_some (refusal_of why) o (ap outcome_of (sym a) ∙ d) in subst P k.is (h why k.why a))
]) refl

-- the account says after these moves what the machine answered to them
abbrev Says : List (List ℕ) → Run → List CoreStep → Event → Reading → Outcome → Type 0
Says names r older e rd o =
    account_of_step (names_after names older) older (said (answers_of r)) e (frame_in rd) o ++ said (answers_of r)
    ≡ said (answers_from (moves (core_at names r older) e rd o) (final_world r) (answers_of r))

-- a refused answer says nothing
unsaid : (a : Answer) (past : List Answer) (why : Objection) → a ≡ Answer.Refused why → said past ≡ said (a ∷ past)
unsaid a past why e = ap (λ z. said (z ∷ past)) (sym e)

-- ---- topics' own moves

learnt_says : (names : List (List ℕ)) (r : Run) (older : List CoreStep) (rd : Reading) (t : Topic) (id : TxnId) (o : Outcome)
    → In o (move_outcome (core_at names r older) (Learns t id)) → Says names r older (Event.Learn t id) rd o
learnt_says names r older rd t id o i =
    let w = final_world r in let past = answers_of r in
    by_answer (Says names r older (Event.Learn t id) rd) w (Learns t id) o
    (λ why x a. unsaid _ past why a)
    (λ n a z d. subst (Says names r older (Event.Learn t id) rd) (some_same Outcome.Learnt z d) (ap (λ b. said (b ∷ past)) (sym a)))
    (in_option o _ i)

turned_says : (names : List (List ℕ)) (r : Run) (older : List CoreStep) (rd : Reading) (t : Topic) (o : Outcome)
    → In o (move_outcome (core_at names r older) (Turns t)) → Says names r older (Event.Turn t) rd o
turned_says names r older rd t o i =
    let w = final_world r in let past = answers_of r in
    by_answer (Says names r older (Event.Turn t) rd) w (Turns t) o
    (λ why x a. unsaid _ past why a)
    (λ n a z d. subst (Says names r older (Event.Turn t) rd) (some_same _ z d) (ap (λ b. said (b ∷ past)) (sym a)))
    (in_option o _ i)

lost_says : (names : List (List ℕ)) (r : Run) (older : List CoreStep) (rd : Reading) (c : ℕ) (o : Outcome)
    → In o (move_outcome (core_at names r older) (Lost c)) → Says names r older (Event.Lost c) rd o
lost_says names r older rd c o i =
    let w = final_world r in let past = answers_of r in
    by_answer (Says names r older (Event.Lost c) rd) w (Lost c) o
    (λ why x a. unsaid _ past why a)
    (λ n a z d. subst (Says names r older (Event.Lost c) rd) (some_same _ z d) (ap (λ b. said (b ∷ past)) (sym a)))
    (in_option o _ i)

released_says : (names : List (List ℕ)) (r : Run) (older : List CoreStep) (rd : Reading) (t : Topic) (o : Outcome)
    → In o (move_outcome (core_at names r older) (Releases t)) → Says names r older (Event.Release t) rd o
released_says names r older rd t o i =
    let w = final_world r in
    by_answer (Says names r older (Event.Release t) rd) w (Releases t) o
    (λ why x a. unsaid _ (answers_of r) why a)
    (λ n a z d. ((elim (due_part (topic_at w t)) as (λ (p : Option Pending). answer_to (final_world r) (Releases t) ≡ release_answer t p → outcome_of (release_answer t p) ≡ Some z → Says names r older (Event.Release t) rd z) [
      | None ↦ λ a d. subst (Says names r older (Event.Release t) rd) (some_same _ z d) (ap (λ b. said (b ∷ answers_of r)) (sym a))
      | Some p ↦ λ a d. subst (Says names r older (Event.Release t) rd) (some_same _ z d) (ap (λ b. said (b ∷ answers_of r)) (sym a))
    ]) a d))
    (in_option o _ i)

-- ---- transactions

-- whom a connection speaks for its claim says
abbrev pub Own : World → List CoreStep → Type 0
Own w older = (c s : ℕ) → (connection_at w c).sender ≡ Some s → s ≡ sender_of c (claims_of older)

-- the id of the last transaction of a connection's sender, as the account counts it
last_is : (r : Run) (older : List CoreStep) (c : ℕ) → Own (final_world r) older → (connection_at (final_world r) c).sender ≡ Some (speaker_number (final_world r) c)
    → id_at (speaker_number (final_world r) c) (speaker (final_world r) c).seq ≡ last_of c older (said (answers_of r))
last_is r older c whose has =
    let w = final_world r in let s = sender_of c (claims_of older) in
    ap (λ n. id_at n (sender_in w.senders n).seq) (whose c (speaker_number w c) has)
    ∙ ap (λ n. id_at s n) ((spoken r).speaking.seqs s ∙ sym (txn_count_said s (answers_of r)))

-- so is that of its undecided one
pub undecided_is : (r : Run) (older : List CoreStep) (c : ℕ) → Own (final_world r) older → not (is_some (speaker (final_world r) c).flight) ≡ false
    → (undecided_at (final_world r) c).txn.id ≡ last_of c older (said (answers_of r))
undecided_is r older c whose f =
    let w = final_world r in let fl = in_flight w c f in
    (spoken r).speaking.flying (speaker_number w c) (undecided_at w c) (fl.is ∙ ap Some (sym fl.at)) ∙ last_is r older c whose (flying_speaker w c (not-false _ f))

proposed_case : (names : List (List ℕ)) (r : Run) (older : List CoreStep) (rd : Reading) (c : ℕ) (t : Topic) (m : Bool) (f : Option ProposeFault) (z : Outcome)
    → (undecided_at (final_world r) c).txn.id ≡ last_of c older (said (answers_of r))
    → m ≡ not (is_out_of_memory z) → answer_to (final_world r) (Proposes c t m) ≡ propose_answer (final_world r) c t f → outcome_of (propose_answer (final_world r) c t f) ≡ Some z
    → Says names r older (Event.Propose c t) rd z
proposed_case names r older rd c t m None z id e a d =
    let w = final_world r in let past = answers_of r in
    ap (λ q. account_of_step (names_after names older) older (said past) (Event.Propose c t) (frame_in rd) q ++ said past) (sym (some_same _ z d))
    ∙ (ap (λ q. Answer.Ticket q (next_ticket w c t) ∷ said past) (sym id)
    ∙ (ap (λ b. said (b ∷ past)) (sym a) ∙ ap (λ q. said (answer_to w (Proposes c t q) ∷ past)) e))
proposed_case names r older rd c t m (Some fault) z id e a d =
    let w = final_world r in let past = answers_of r in
    ap (λ q. account_of_step (names_after names older) older (said past) (Event.Propose c t) (frame_in rd) q ++ said past) (sym (some_same _ z d))
    ∙ (ap (λ q. Answer.Failed q fault ∷ said past) (sym id)
    ∙ (ap (λ b. said (b ∷ past)) (sym a) ∙ ap (λ q. said (answer_to w (Proposes c t q) ∷ past)) e))

-- a proposal that found no memory where the move says so, or found some
pub same_memory : (w : World) (c : ℕ) (t : Topic) (m : Bool) (o : Outcome) (r : Option Objection) (f : Option ProposeFault)
    → outcome_of (elim r [ None ↦ propose_answer w c t (or_out_of_memory m f) | Some why ↦ Answer.Refused why ]) ≡ Some o
    → outcome_of (elim r [ None ↦ propose_answer w c t (or_out_of_memory (not (is_out_of_memory o)) f) | Some why ↦ Answer.Refused why ]) ≡ Some o
same_memory w c t m o (Some why) f d = d
same_memory w c t true o None None d = subst (λ z. outcome_of (propose_answer w c t (or_out_of_memory (not (is_out_of_memory z)) None)) ≡ Some z) (some_same _ o d) refl
same_memory w c t false o None None d = subst (λ z. outcome_of (propose_answer w c t (or_out_of_memory (not (is_out_of_memory z)) None)) ≡ Some z) (some_same _ o d) refl
same_memory w c t m o None (Some fault) d = d

proposed_says : (names : List (List ℕ)) (r : Run) (older : List CoreStep) (whose : Own (final_world r) older) (rd : Reading) (c : ℕ) (t : Topic) (o : Outcome)
    → In o (move_outcome (core_at names r older) (Proposes c t true) ++ move_outcome (core_at names r older) (Proposes c t false)) → Says names r older (Event.Propose c t) rd o
proposed_says names r older whose rd c t o i = elim (In-append_cases o _ _ i) [
  | inl k ↦ by_memory true (in_option o _ k)
  | inr k ↦ by_memory false (in_option o _ k)
]
  where
    by_memory : (m : Bool) → outcome_of (answer_to (final_world r) (Proposes c t m)) ≡ Some o → Says names r older (Event.Propose c t) rd o
    by_memory m d =
        let w = final_world r in let past = answers_of r in let q = not (is_out_of_memory o) in let fault = proposal_fault w c t q in
        by_answer (λ z. z ≡ o → Says names r older (Event.Propose c t) rd z) w (Proposes c t q) o
        (λ why x a e. unsaid _ past why (ap (λ y. answer_to w (Proposes c t (not (is_out_of_memory y)))) e ∙ a))
        (λ n a z d e.
        (let k = checked w (Proposes c t q) n in
        proposed_case names r older rd c t q fault z (undecided_is r older c whose k.1.1.0) (ap (λ y. not (is_out_of_memory y)) (sym e)) a d))
        (same_memory w c t m o (move_refusal w (Proposes c t m)) _ d) refl

cancelled_case : (names : List (List ℕ)) (r : Run) (older : List CoreStep) (whose : Own (final_world r) older) (rd : Reading) (c : ℕ) (t : Topic) (o : Option Leftover) (z : Outcome)
    → c < length (final_world r).connections → find_leftover t (speaker (final_world r) c).leftovers ≡ o
    → answer_to (final_world r) (Cancels c t) ≡ cancel_answer t o → outcome_of (cancel_answer t o) ≡ Some z → Says names r older (Event.Cancel c t) rd z
cancelled_case names r older whose rd c t None z l e a d = subst (Says names r older (Event.Cancel c t) rd) (some_same _ z d) (ap (λ b. said (b ∷ answers_of r)) (sym a))
cancelled_case names r older whose rd c t (Some k) z l e a d =
    let w = final_world r in let past = answers_of r in let s = speaker_number w c in let found = leftover_found t (sender_in w.senders s).leftovers k e in
    let id : k.id ≡ last_of c older (said past) =
    ((spoken r).speaking.left s k found.stands).0 ∙ last_is r older c whose (cancelling_speaker w c k found.stands) in
    subst (Says names r older (Event.Cancel c t) rd) (some_same _ z d)
    (ap (λ q. Answer.Cancelled q t ∷ said past) (sym id) ∙ ap (λ b. said (b ∷ past)) (sym a))

cancelled_says : (names : List (List ℕ)) (r : Run) (older : List CoreStep) (whose : Own (final_world r) older) (rd : Reading) (c : ℕ) (t : Topic) (o : Outcome)
    → In o (move_outcome (core_at names r older) (Cancels c t)) → Says names r older (Event.Cancel c t) rd o
cancelled_says names r older whose rd c t o i =
    let w = final_world r in
    by_answer (Says names r older (Event.Cancel c t) rd) w (Cancels c t) o
    (λ why x a. unsaid _ (answers_of r) why a)
    (λ n a z d. cancelled_case names r older whose rd c t (find_leftover t (speaker w c).leftovers) z (connection_there w c (checked w (Cancels c t) n).0) refl a d)
    (in_option o _ i)

-- ---- replies that may be left out

-- the outcome, or the same with its reply left out, where one is due
pub record IsReplied (k : Core) (c : ℕ) (e : Event) (x : Option Outcome) (o : Outcome) : Type 0 where
  pub base : Outcome
  pub is : x ≡ Some base
  pub cut : (base ≡ o) ⊎ ((cut_of base ≡ o) × (is_any (replies_to c k.steps (account_of k.names k.steps) e Reading.Nothing base) ≡ true))

guarded : {X : Type 0} (x y : X) (b : Bool) → In x (cond b (y ∷ []) []) → (y ≡ x) × (b ≡ true)
guarded x y true (inl e) = (e, refl)
guarded x y true (inr i) = absurd i
guarded x y false i = absurd i

-- a reply's outcome is that of its move, or the same cut
pub replied : (k : Core) (c : ℕ) (e : Event) (x : Option Outcome) (o : Outcome) → In o (reply_outcomes k c e (option_to_list x)) → IsReplied k c e x o
replied k c e None o i = absurd i
replied k c e (Some b) o (inl d) = record { base = b; is = refl; cut = inl d }
replied k c e (Some b) o (inr i) = record { base = b; is = refl; cut = inr (guarded o (cut_of b) _ i) }

-- an outcome, cut or not
pub either_cut : (P : Outcome → Type 0) (b o : Outcome) {Q : Type 0} → P b × P (cut_of b) → (b ≡ o) ⊎ ((cut_of b ≡ o) × Q) → P o
either_cut P b o h (inl e) = subst P e h.0
either_cut P b o h (inr e) = subst P e.0 h.1

left_says : (names : List (List ℕ)) (r : Run) (older : List CoreStep) (rd : Reading) (c : ℕ) (o : Outcome)
    → In o (reply_outcomes (core_at names r older) c (Event.Leave c) (move_outcome (core_at names r older) (Leaves c))) → Says names r older (Event.Leave c) rd o
left_says names r older rd c o i =
    let w = final_world r in let P = Says names r older (Event.Leave c) rd in let h = replied (core_at names r older) c (Event.Leave c) _ o i in
    either_cut P h.base o
    (by_answer (λ z. P z × P (cut_of z)) w (Leaves c) h.base
    (λ why x a. (unsaid _ (answers_of r) why a, unsaid _ (answers_of r) why a))
    (λ n a z d. ((elim (oldest_live c 0 w.subscriptions) as (λ (s : Option ℕ). answer_to (final_world r) (Leaves c) ≡ leave_answer (final_world r) c s → outcome_of (leave_answer (final_world r) c s) ≡ Some z → Says names r older (Event.Leave c) rd z × Says names r older (Event.Leave c) rd (cut_of z)) [
      | None ↦ λ a d. subst (λ q. Says names r older (Event.Leave c) rd q × Says names r older (Event.Leave c) rd (cut_of q)) (some_same _ z d) (ap (λ b. said (b ∷ answers_of r)) (sym a), ap (λ b. said (b ∷ answers_of r)) (sym a))
      | Some s ↦ λ a d. subst (λ q. Says names r older (Event.Leave c) rd q × Says names r older (Event.Leave c) rd (cut_of q)) (some_same _ z d) (ap (λ b. said (b ∷ answers_of r)) (sym a), ap (λ b. said (b ∷ answers_of r)) (sym a))
    ]) a d)) h.is) h.cut

withdrawn_says : (names : List (List ℕ)) (r : Run) (older : List CoreStep) (whose : Own (final_world r) older) (rd : Reading) (c : ℕ) (o : Outcome)
    → In o (reply_outcomes (core_at names r older) c (Event.Withdraw c) (move_outcome (core_at names r older) (Withdraws c))) → Says names r older (Event.Withdraw c) rd o
withdrawn_says names r older whose rd c o i =
    let w = final_world r in let past = answers_of r in let P = Says names r older (Event.Withdraw c) rd in let h = replied (core_at names r older) c (Event.Withdraw c) _ o i in
    either_cut P h.base o
    (by_answer (λ z. P z × P (cut_of z)) w (Withdraws c) h.base
    (λ why x a. (unsaid _ past why a, unsaid _ past why a))
    (λ n a z d.
    (let k = checked w (Withdraws c) n in
    let e = ap (λ q. Answer.Withdrawn q c ∷ said past) (sym (undecided_is r older c whose k.1.1.0)) ∙ ap (λ b. said (b ∷ past)) (sym a) in
    subst (λ q. P q × P (cut_of q)) (some_same _ z d) (e, e))) h.is) h.cut

-- ---- a decision

-- none of these tests holds, so nothing is refused
unpassed : {F : Type 0} (cs : List (Bool × F)) → NoneHolds cs → first_refusal cs ≡ None
unpassed [] h = refl
unpassed (c ∷ cs) h = ap (λ b. cond b (Some c.1) (first_refusal cs)) h.0 ∙ unpassed cs h.1

unguarded : {X : Type 0} (b : Bool) (xs : List X) → is_any (cond b xs []) ≡ true → b ≡ true
unguarded true xs e = refl
unguarded false xs e = absurd (false≢true e)

not_closed : (a b : Bool) → (a && not b) ≡ true → b ≡ false
not_closed true false e = refl
not_closed true true e = absurd (false≢true e)
not_closed false b e = absurd (false≢true e)

-- a connection that wasn't closed is open
still_open : (r : Run) (c : ℕ) → c < length (final_world r).connections → has_closed c (answers_of r) ≡ false → open_in (final_world r).connections c ≡ true
still_open r c l h = (elim (open_in (final_world r).connections c) as (λ (b : Bool). open_in (final_world r).connections c ≡ b → open_in (final_world r).connections c ≡ true) [
  | true ↦ λ e. e
  | false ↦ λ e. absurd (true≢false (sym ((spoken r).speaking.shut c l e) ∙ h))
]) refl

-- with its RECEIPT left out, a decision is also its connection's loss
lost_after : (r : Run) (c : ℕ) → move_refusal (final_world r) (Decides c) ≡ None → has_closed c (answers_of r) ≡ false
    → answer_to (world_after (final_world r) (Decides c)) (Lost c) ≡ Answer.Leaving c
lost_after r c n h =
    let w = final_world r in let k = checked w (Decides c) n in let v = move_effect w (Decides c) in let o = still_open r c (connection_there w c k.0) h in
    ap (λ z. answer_to z (Lost c)) (made_world w (Decides c) n)
    ∙ made_answer v (Lost c)
    (ap (λ (z : Option Objection). option_or z None) (unpassed (needs_open v c) (k.0, (k.1.0, (ap not o, tt)))))

decided_says : (names : List (List ℕ)) (r : Run) (older : List CoreStep) (whose : Own (final_world r) older) (rd : Reading) (c : ℕ) (o : Outcome) → account_of names older ≡ said (answers_of r)
    → In o (reply_outcomes (core_at names r older) c (Event.Decide c) (move_outcome (core_at names r older) (Decides c))) → Says names r older (Event.Decide c) rd o
decided_says names r older whose rd c o acc i =
    let h = replied (core_at names r older) c (Event.Decide c) _ o i in by_cut h.base h.is h.cut
  where
    w : World
    w = final_world r

    P : Outcome → Type 0
    P = Says names r older (Event.Decide c) rd

    Due : Outcome → Type 0
    Due z = is_any (replies_to c older (account_of names older) (Event.Decide c) Reading.Nothing z) ≡ true

    id_is : move_refusal w (Decides c) ≡ None → (undecided_at w c).txn.id ≡ last_of c older (said (answers_of r))
    id_is n = let k = checked w (Decides c) n in undecided_is r older c whose k.1.1.0

    uncut : move_refusal w (Decides c) ≡ None → answer_to w (Decides c) ≡ move_answer w (Decides c) → P (Outcome.Decided (greatest (undecided_at w c).given) false)
    uncut n a = ap (λ q. Answer.Decided q (greatest (undecided_at w c).given) ∷ said (answers_of r)) (sym (id_is n)) ∙ ap (λ b. said (b ∷ answers_of r)) (sym a)

    cut : move_refusal w (Decides c) ≡ None → answer_to w (Decides c) ≡ move_answer w (Decides c) → Due (Outcome.Decided (greatest (undecided_at w c).given) false)
        → P (Outcome.Decided (greatest (undecided_at w c).given) true)
    cut n a due =
        let g = greatest (undecided_at w c).given in let past = answers_of r in
        let open_still : has_closed c past ≡ false =
        sym (has_closed_said c past) ∙ (ap (λ z. has_closed c z) (sym acc) ∙ not_closed (c == c) (has_closed c (account_of names older)) (unguarded _ _ due)) in
        ap (λ q. Answer.Leaving c ∷ Answer.Decided q g ∷ said past) (sym (id_is n))
        ∙ (ap (λ b. said (Answer.Leaving c ∷ b ∷ past)) (sym a)
        ∙ ap (λ b. said (b ∷ answer_to w (Decides c) ∷ past)) (sym (lost_after r c n open_still)))

    by_cut : (b : Outcome) → outcome_of (answer_to w (Decides c)) ≡ Some b → (b ≡ o) ⊎ ((cut_of b ≡ o) × Due b) → P o
    by_cut b d (inl e) =
        subst P e
        (by_answer P w (Decides c) b (λ why x a. unsaid _ (answers_of r) why a)
        (λ n a z f. subst P (some_same _ z f) (uncut n a)) d)
    by_cut b d (inr e) =
        subst P e.0
        (by_answer (λ z. Due z → P (cut_of z)) w (Decides c) b (λ why x a due. unsaid _ (answers_of r) why a)
        (λ n a z f. subst (λ q. Due q → P (cut_of q)) (some_same _ z f) (cut n a)) d e.1)

-- ---- a delivery

taken_case : (names : List (List ℕ)) (r : Run) (older : List CoreStep) (rd : Reading) (s : ℕ) (o : Option Item) (z : Outcome)
    → s < length (final_world r).subscriptions → slice_get (accepted_at (final_world r) s) (subscription_at (final_world r) s).taken ≡ o
    → answer_to (final_world r) (Takes s) ≡ take_answer (final_world r) s o → outcome_of (take_answer (final_world r) s o) ≡ Some z → Says names r older (Event.Take s) rd z
taken_case names r older rd s None z l e a d =
    subst (Says names r older (Event.Take s) rd) (some_same _ z d)
    (ap (λ q. Answer.Error q ∷ said (answers_of r)) (connection_is r s) ∙ ap (λ b. said (b ∷ answers_of r)) (sym a))
taken_case names r older rd s (Some item) z l e a d =
    subst (Says names r older (Event.Take s) rd) (some_same _ z d)
    (ap (λ q. Answer.Handed s q ∷ said (answers_of r)) (next_item_is r s item l e) ∙ ap (λ b. said (b ∷ answers_of r)) (sym a))

taken_says : (names : List (List ℕ)) (r : Run) (older : List CoreStep) (rd : Reading) (s : ℕ) (o : Outcome)
    → In o (outcomes (core_at names r older) (Event.Take s) rd) → Says names r older (Event.Take s) rd o
taken_says names r older rd s o i = by_case (move_refusal (final_world r) (Takes s)) refl i
  where
    P : Outcome → Type 0
    P = Says names r older (Event.Take s) rd

    by_case : (why : Option Objection) → move_refusal (final_world r) (Takes s) ≡ why
        → In o (unless why (move_outcome (core_at names r older) (Takes s) ++ Outcome.NoMemory ∷ [])) → P o
    by_case (Some why) n i =
        let k = refusal_some (refusal_of why) o (in_option o _ i) in subst P k.is (unsaid _ (answers_of r) why (refused_answer (final_world r) (Takes s) why n))
    by_case None n i = elim (In-append_cases o _ _ i) [
      | inl j ↦ by_answer P (final_world r) (Takes s) o (λ why x a. unsaid _ (answers_of r) why a)
          (λ m a z d. taken_case names r older rd s _ z (ltb-true s (length (final_world r).subscriptions) (not-false _ (checked (final_world r) (Takes s) n).0)) refl a d)
          (in_option o _ j)
      | inr j ↦ elim j [ inl e ↦ subst P e refl | inr k ↦ absurd k ]
    ]

-- ---- the topic that a frame makes

-- the run with the topic of a frame, where it makes one
abbrev pub for_frame : List (List ℕ) → Run → List CoreStep → RawFrame → Run
for_frame names r older f = longer r (topic_moves (names_after names older) f)

-- its world
pub framed_world : (names : List (List ℕ)) (r : Run) (older : List CoreStep) (f : RawFrame)
    → final_world (for_frame names r older f) ≡ run (topic_moves (names_after names older) f) (final_world r)
framed_world names r older f = run_append r.events (topic_moves (names_after names older) f) (start r.capacity r.log_limit r.clocks)

topic_silent : (b : Bool) (w : World) (past : List Answer) → said (answers_from (cond b (AddsTopic 0 ∷ []) []) w past) ≡ said past
topic_silent true w past = refl
topic_silent false w past = refl

-- the account says nothing of a topic that is made
framed_said : (names : List (List ℕ)) (r : Run) (older : List CoreStep) (f : RawFrame) → said (answers_of (for_frame names r older f)) ≡ said (answers_of r)
framed_said names r older f =
    ap said (answers_append r.events (topic_moves (names_after names older) f) (start r.capacity r.log_limit r.clocks) [])
    ∙ topic_silent (has_destination f.command && not (is_known (field (codes "destination") f) (names_after names older))) (final_world r) (answers_of r)

-- the moves of an accepted frame after the one that makes its topic
abbrev own_moves : List (List ℕ) → Run → List CoreStep → ℕ → RawFrame → Action → List Move
own_moves names r older c f action = option_to_list (frame_move (core_at names r older) c action)

-- the account says after a frame's own move what the machine answered to it, over the run with the frame's topic
abbrev SaysMove : List (List ℕ) → Run → List CoreStep → ℕ → RawFrame → Outcome → Type 0
SaysMove names r older c f o =
    let q = for_frame names r older f in
    account_of_step (names_after names older) older (said (answers_of q)) (Event.Next c) (Some f) o ++ said (answers_of q)
    ≡ said (answers_from (own_moves names r older c f (action_by f.command (session_at (core_at names r older) c) f)) (final_world q) (answers_of q))

-- so the account says it of both
says_both : (names : List (List ℕ)) (r : Run) (older : List CoreStep) (c : ℕ) (f : RawFrame) (left : Unread) (z : Outcome) → has_effect z ≡ true → is_faulted z ≡ false
    → SaysMove names r older c f z → Says names r older (Event.Next c) (Reading.Finds f left) z
says_both names r older c f left z effect sound h =
    let ts = topic_moves (names_after names older) f in let ms = own_moves names r older c f (action_by f.command (session_at (core_at names r older) c) f) in
    let w = final_world r in let past = answers_of r in let s = start r.capacity r.log_limit r.clocks in
    let moves_are : cond (is_faulted z) (Errs c ∷ []) (cond (has_effect z) (ts ++ ms) []) ≡ ts ++ ms =
    ap (λ (b : Bool). cond b (Errs c ∷ []) (cond (has_effect z) (ts ++ ms) [])) sound ∙ ap (λ (b : Bool). cond b (ts ++ ms) []) effect in
    ap (λ (p : List Answer). account_of_step (names_after names older) older p (Event.Next c) (Some f) z ++ p) (sym (framed_said names r older f))
    ∙ (h
    ∙ (ap (λ (v : World). said (answers_from ms v (answers_of (for_frame names r older f)))) (run_append r.events ts s)
    ∙ (ap (λ (p : List Answer). said (answers_from ms (run ts w) p)) (answers_append r.events ts s [])
    ∙ (ap said (sym (answers_append ts ms w past))
    ∙ ap (λ (es : List Move). said (answers_from es w past)) (sym moves_are)))))

-- so it is once the frame's topic was made
framed_owns : (names : List (List ℕ)) (r : Run) (older : List CoreStep) (f : RawFrame) → Own (final_world r) older → Own (final_world (for_frame names r older f)) older
framed_owns names r older f h =
    subst (λ w. Own w older) (sym (framed_world names r older f))
    (elim (has_destination f.command && not (is_known (field (codes "destination") f) (names_after names older))) as (λ (b : Bool). Own (run (cond b (AddsTopic 0 ∷ []) []) (final_world r)) older) [ true ↦ h | false ↦ h ])

-- the SENDs that an action commits
abbrev committed_by : Action → List SentMessage
committed_by (actions.Commit sends) = sends
committed_by action = []

-- whether there is any
abbrev has_any : {A : Type 0} → List A → Bool
has_any [] = false
has_any (x ∷ xs) = true

cons_none : {A : Type 0} {x : A} {xs : List A} → [] ≡ x ∷ xs → Prim.⊥
cons_none e = absurd (false≢true (ap has_any e))

-- those that a frame commits are those of what it asks for, if it asks for a transaction
sends_committed : (command : Command) (names : List (List ℕ)) (accepted : List RawFrame) (f : RawFrame) (first : SentMessage) (others : List SentMessage)
    → action_by command (held_after names accepted) f ≡ actions.Commit (first ∷ others) → sends_by command names accepted f ≡ first ∷ others
sends_committed commands.Commit names accepted f first others e =
    sym (sends_are_left (transaction_of f) names accepted) ∙ (elim (is_ended accepted) as (λ (b : Bool). commit (sends_in (transaction_of f) (cond b [] (transactions_left names accepted))) ≡ actions.Commit (first ∷ others) → sends_in (transaction_of f) (transactions_left names accepted) ≡ first ∷ others) [
      | true ↦ λ d. absurd (cons_none (ap committed_by d))
      | false ↦ λ d. (elim (sends_in (transaction_of f) (transactions_left names accepted)) as (λ (sends : List SentMessage). sends ≡ committed_by (commit sends)) [ [] ↦ refl | send ∷ sends ↦ refl ]) ∙ ap committed_by d
    ]) e
sends_committed commands.Send names accepted f first others e = (elim (first_of (codes "transaction") f.headers) as (λ (o : Option (List ℕ)). option_map_or (λ transaction. actions.Nothing) o (commit (send_of names f ∷ [])) ≡ actions.Commit (first ∷ others) → option_map_or (λ x. []) o (send_of names f ∷ []) ≡ first ∷ others) [
  | None ↦ λ d. ap committed_by d
  | Some x ↦ λ d. ap committed_by d
]) e
sends_committed command names accepted f first others e = ap committed_by e

flown_case : (names : List (List ℕ)) (r : Run) (older : List CoreStep) (whose : Own (final_world r) older) (c : ℕ) (f : RawFrame) (left : Unread) (sends : List SentMessage) (z : Outcome)
    → (connection_at (final_world (for_frame names r older f)) c).sender ≡ Some (speaker_number (final_world (for_frame names r older f)) c) → action_by f.command (session_at (core_at names r older) c) f ≡ actions.Commit sends
    → answer_to (final_world (for_frame names r older f)) (Commits c sends) ≡ commit_answer (final_world (for_frame names r older f)) c sends
    → outcome_of (commit_answer (final_world (for_frame names r older f)) c sends) ≡ Some z → Says names r older (Event.Next c) (Reading.Finds f left) z
flown_case names r older whose c f left [] z l e a d =
    let q = for_frame names r older f in
    subst (Says names r older (Event.Next c) (Reading.Finds f left)) (some_same _ z d)
    (says_both names r older c f left Outcome.Done refl refl
    (ap (λ b. said (b ∷ answers_of q)) (sym a)
    ∙ ap (λ b. said (answers_from (own_moves names r older c f b) (final_world q) (answers_of q))) (sym e)))
flown_case names r older whose c f left (first ∷ others) z l e a d =
    let q = for_frame names r older f in let past = answers_of q in let last = last_of c older (said past) in
    subst (Says names r older (Event.Next c) (Reading.Finds f left)) (some_same _ z d)
    (says_both names r older c f left (Outcome.Flying (next_txn (final_world q) c (first ∷ others)).id) refl refl
    (ap (λ ss. Answer.Begun (record { id = record last { seq = last.seq + 1 }; sends = ss }) ∷ said past)
    (sends_committed f.command (names_after names older) (accepted_of c older) f first others e)
    ∙ (ap (λ (b : TxnId). Answer.Begun (record { id = record b { seq = b.seq + 1 }; sends = first ∷ others }) ∷ said past) (sym (last_is q older c (framed_owns names r older f whose) l))
    ∙ (ap (λ b. said (b ∷ past)) (sym a)
    ∙ ap (λ b. said (answers_from (own_moves names r older c f b) (final_world q) past)) (sym e)))))

accepted_says : (names : List (List ℕ)) (r : Run) (older : List CoreStep) (whose : Own (final_world r) older) (c : ℕ) (f : RawFrame) (left : Unread) (o : Outcome) (action : Action)
    → action_by f.command (session_at (core_at names r older) c) f ≡ action
    → In o (option_map_or (move_outcome (core_at names (for_frame names r older f) older)) (frame_move (core_at names r older) c action) (Outcome.Done ∷ []))
    → Says names r older (Event.Next c) (Reading.Finds f left) o
accepted_says names r older whose c f left o (actions.Connected client) e i =
    let q = for_frame names r older f in let mv = Connects c (claimed_sender client (claims_of older)) in
    let w = final_world q in let past = answers_of q in let P = Says names r older (Event.Next c) (Reading.Finds f left) in
    by_answer P w mv o (λ why x a. refl)
    (λ n a z d. subst P (some_same Outcome.Done z d)
    (says_both names r older c f left Outcome.Done refl refl
    (ap (λ b. said (b ∷ past)) (sym a)
    ∙ ap (λ b. said (answers_from (own_moves names r older c f b) w past)) (sym e))))
    (in_option o _ i)
accepted_says names r older whose c f left o actions.Nothing e (inl d) =
    let q = for_frame names r older f in
    subst (Says names r older (Event.Next c) (Reading.Finds f left)) d
    (says_both names r older c f left Outcome.Done refl refl (ap (λ b. said (answers_from (own_moves names r older c f b) (final_world q) (answers_of q))) (sym e)))
accepted_says names r older whose c f left o actions.Nothing e (inr i) = absurd i
accepted_says names r older whose c f left o (actions.Subscribe id t) e i =
    let q = for_frame names r older f in let w = final_world q in let past = answers_of q in let P = Says names r older (Event.Next c) (Reading.Finds f left) in
    by_answer P w (Subscribes c t) o (λ why x a. refl)
    (λ n a z d. subst P (some_same _ z d)
    (says_both names r older c f left (Outcome.Subscribed (length w.subscriptions) (topic_at w t).frontier) refl refl
    (ap (λ u. Answer.Subscribed (length w.subscriptions) c u (topic_at w t).frontier ∷ said past)
    (frame_fits f.command (session_at (core_at names r older) c) f e).2
    ∙ (ap (λ b. said (b ∷ past)) (sym a)
    ∙ ap (λ b. said (answers_from (own_moves names r older c f b) w past)) (sym e)))))
    (in_option o _ i)
accepted_says names r older whose c f left o (actions.Unsubscribe id) e i =
    let q = for_frame names r older f in let w = final_world q in let past = answers_of q in let P = Says names r older (Event.Next c) (Reading.Finds f left) in
    let s = number_by c id older in
    by_answer P w (Unsubscribes c s) o (λ why x a. refl)
    (λ n a z d. subst P (some_same _ z d)
    (says_both names r older c f left (Outcome.Unsubscribed s (end_now w s)) refl refl
    (ap (λ b. Answer.Unsubscribed (number_by c b older) (end_now w s) ∷ said past) (frame_fits f.command (session_at (core_at names r older) c) f e).1
    ∙ (ap (λ b. said (b ∷ past)) (sym a)
    ∙ ap (λ b. said (answers_from (own_moves names r older c f b) w past)) (sym e)))))
    (in_option o _ i)
accepted_says names r older whose c f left o (actions.Commit sends) e i =
    let w = final_world (for_frame names r older f) in let P = Says names r older (Event.Next c) (Reading.Finds f left) in
    by_answer P w (Commits c sends) o (λ why x a. refl)
    (λ n a z d. flown_case names r older whose c f left sends z (has_speaker w c (not-false _ (checked w (Commits c sends) n).1.1.1.0)) e a d)
    (in_option o _ i)
accepted_says names r older whose c f left o actions.Disconnect e i =
    let q = for_frame names r older f in let w = final_world q in let past = answers_of q in let P = Says names r older (Event.Next c) (Reading.Finds f left) in
    by_answer P w (Disconnects c) o (λ why x a. refl)
    (λ n a z d. subst P (some_same _ z d)
    (says_both names r older c f left Outcome.Leaving refl refl
    (ap (λ b. said (b ∷ past)) (sym a)
    ∙ ap (λ b. said (answers_from (own_moves names r older c f b) w past)) (sym e))))
    (in_option o _ i)

-- ---- a Next

next_says : (names : List (List ℕ)) (r : Run) (older : List CoreStep) (whose : Own (final_world r) older) (rd : Reading) (c : ℕ) (o : Outcome)
    → In o (outcomes (core_at names r older) (Event.Next c) rd) → Says names r older (Event.Next c) rd o
next_says names r older whose rd c o i =
    by_next (core_at names r older) c (Says names r older (Event.Next c))
    (λ rd why. ap (λ z. z ++ said (answers_of r)) (elim (frame_in rd) as (λ (read : Option RawFrame). account_of_step (names_after names older) older (said (answers_of r)) (Event.Next c) read (Outcome.Refused why) ≡ []) [ None ↦ refl | Some f ↦ refl ]))
    (λ rd fault cut n.
    ap (λ z. z ++ said (answers_of r)) (elim (frame_in rd) as (λ (read : Option RawFrame). account_of_step (names_after names older) older (said (answers_of r)) (Event.Next c) read (Outcome.Faulted fault cut) ≡ Answer.Error c ∷ []) [ None ↦ refl | Some f ↦ refl ])
    ∙ ap (λ b. said (b ∷ answers_of r)) (sym (made_answer (final_world r) (Errs c) (ap (λ (z : Option Objection). option_or z None) n))))
    (λ f left o n e j. accepted_says names r older whose c f left o (action_by f.command (session_at (core_at names r older) c) f) refl
    (subst (λ (w : World). In o (option_map_or (move_outcome (core_with names w older)) (frame_move (core_at names r older) c (action_by f.command (session_at (core_at names r older) c) f)) (Outcome.Done ∷ [])))
    (sym (framed_world names r older f)) j))
    rd o i

-- ---- every event

opened_says : (names : List (List ℕ)) (r : Run) (older : List CoreStep) (rd : Reading) (o : Outcome)
    → In o (outcomes (core_at names r older) Event.Open rd) → Says names r older Event.Open rd o
opened_says names r older rd o i = elim i [
  | inl e ↦ subst (Says names r older Event.Open rd) e refl
  | inr j ↦ elim j [ inl e ↦ subst (Says names r older Event.Open rd) e refl | inr k ↦ absurd k ]
]

event_says : (names : List (List ℕ)) (r : Run) (older : List CoreStep) (whose : Own (final_world r) older) (e : Event) (rd : Reading) (o : Outcome) → account_of names older ≡ said (answers_of r)
    → In o (outcomes (core_at names r older) e rd) → Says names r older e rd o
event_says names r older whose Event.Open rd o acc i = opened_says names r older rd o i
event_says names r older whose (Event.Piece c octets) rd o acc i = refl
event_says names r older whose (Event.Next c) rd o acc i = next_says names r older whose rd c o i
event_says names r older whose (Event.Propose c t) rd o acc i = proposed_says names r older whose rd c t o i
event_says names r older whose (Event.Decide c) rd o acc i = decided_says names r older whose rd c o acc i
event_says names r older whose (Event.Withdraw c) rd o acc i = withdrawn_says names r older whose rd c o i
event_says names r older whose (Event.Cancel c t) rd o acc i = cancelled_says names r older whose rd c t o i
event_says names r older whose (Event.Learn t id) rd o acc i = learnt_says names r older rd t id o i
event_says names r older whose (Event.Release t) rd o acc i = released_says names r older rd t o i
event_says names r older whose (Event.Turn t) rd o acc i = turned_says names r older rd t o i
event_says names r older whose (Event.Take s) rd o acc i = taken_says names r older rd s o i
event_says names r older whose (Event.Leave c) rd o acc i = left_says names r older rd c o i
event_says names r older whose (Event.Lost c) rd o acc i = lost_says names r older rd c o i

-- a run of the core is one of the machine
pub core_is : (topics : TopicList) (capacity : ℕ) (steps : List CoreStep) → core_of topics capacity steps ≡ core_at topics.names (run_of topics capacity steps) steps
core_is topics capacity [] = refl
core_is topics capacity (step ∷ older) =
    ap (λ (n : List (List ℕ)). record { names = n; world = (core_of topics capacity (step ∷ older)).world; steps = step ∷ (core_of topics capacity older).steps })
    (ap (λ (k : Core). k.names) (core_is topics capacity older))
    ∙ (ap (λ (s : List CoreStep). record { names = topics.names; world = (core_of topics capacity (step ∷ older)).world; steps = step ∷ s })
    (ap (λ (k : Core). k.steps) (core_is topics capacity older))
    ∙ ap (λ w. core_with topics.names w (step ∷ older)) (world_is topics capacity (step ∷ older)))

-- the account of a run of the core is what the machine answered
pub account_is : (topics : TopicList) (capacity : ℕ) (steps : List CoreStep) → IsCoreRun topics capacity steps
    → account_of topics.names steps ≡ said (answers_of (run_of topics capacity steps))
account_is topics capacity [] run = refl
account_is topics capacity (step ∷ older) run =
    let r = run_of topics capacity older in let k = core_of topics capacity older in
    let whose : Own (final_world r) older = subst (λ w. Own w older) (world_is topics capacity older) (claims_own older (claims_stand topics capacity older run.1)) in
    let acc = account_is topics capacity older run.1 in let c = core_is topics capacity older in
    let i : In step.outcome (outcomes (core_at topics.names r older) step.event step.reading) =
    subst (λ z. In step.outcome (outcomes z step.event step.reading)) c run.0.outcome in
    let ms = moves k step.event step.reading step.outcome in
    ap (λ z. account_of_step (names_after topics.names older) older z step.event (frame_in step.reading) step.outcome ++ z) acc
    ∙ (event_says topics.names r older whose step.event step.reading step.outcome acc i
    ∙ (ap (λ z. said (answers_from (moves z step.event step.reading step.outcome) (final_world r) (answers_of r))) (sym c)
    ∙ ap said (sym (answers_append (all_moves topics capacity older) ms (start capacity 65536 topics.clocks) []))))
