-- The account has why an undecided transaction is marked: the last of its proposals that failed.
use Rattle.delivery.proofs.Words.All.{◌≡◌, ℕ, ◌+◌, ◌<◌, Bool, false, cond, List, [], ◌∷◌, ◌++◌, length, set, Option, Some, None, refl, sym, ap, ◌∙◌, not-false, Topic, TxnId, SentMessage, same_id, propose_title, ProposeFault, at_set, at_set_within, id_equal, id_itself, some_same, none_some, not_true, World, Undecided, Leftover, SenderState, new_sender, speaker, speaker_number, Move, Answer, move_refusal, undecided_at, next_txn, next_ticket, insert_ticket, commit_effect, commit_answer, propose_effect, propose_answer, cancel_effect, cancel_answer, claimed_senders, Run, answers_of, final_world, Connects, Commits, Leaves, Proposes, Decides, Withdraws, Cancels, account_of, failed_title, Core, IsReached}
use Rattle.delivery.proofs.Words.Steps.{sender_in, at_push_two, checked, in_flight, InEachCase, always, by_runs_moves, flying_speaker}
use Rattle.delivery.proofs.Core.Said.{said}
use Rattle.delivery.proofs.Core.Speaking.{spoken}
use Rattle.delivery.proofs.Views.Runs.ByRunOfCore.{by_account}

-- why a transaction was refused reads the same of what is said
failed_said : (id : TxnId) (past : List Answer) → failed_title id (said past) ≡ failed_title id past
failed_said id [] = refl
failed_said id (Answer.Failed i why ∷ past) = ap (λ (z : List ℕ). cond (same_id i id) (propose_title why) z) (failed_said id past)
failed_said id (_ ∷ past) = failed_said id past

-- each marked transaction was refused for what it is marked with
abbrev AreMarked : List Answer → List SenderState → Type 0
AreMarked past senders =
    (s : ℕ) (f : Undecided) (fault : ProposeFault) → (sender_in senders s).flight ≡ Some f → f.mark ≡ Some fault → failed_title f.txn.id past ≡ propose_title fault

-- an answer that refuses no proposal
abbrev IsQuiet : List Answer → Answer → Type 0
IsQuiet past o = (id : TxnId) → failed_title id (o ∷ past) ≡ failed_title id past

noted : (past : List Answer) (senders : List SenderState) (o : Answer) → IsQuiet past o → AreMarked past senders → AreMarked (o ∷ past) senders
noted past senders o q h s f fault e m = q f.txn.id ∙ h s f fault e m

written : (past : List Answer) (senders : List SenderState) (t : ℕ) (x : SenderState)
    → ((f : Undecided) (fault : ProposeFault) → x.flight ≡ Some f → f.mark ≡ Some fault → failed_title f.txn.id past ≡ propose_title fault)
    → AreMarked past senders → AreMarked past (set senders t x)
written past senders t x g h s f fault =
    at_set (λ (z : SenderState). z.flight ≡ Some f → f.mark ≡ Some fault → failed_title f.txn.id past ≡ propose_title fault) senders t s x new_sender
    (λ k. g f fault) (h s f fault)

-- ---- each move

flown : (past : List Answer) (w : World) (c : ℕ) (first : SentMessage) (others : List SentMessage) → AreMarked past w.senders
    → AreMarked (commit_answer w c (first ∷ others) ∷ past) (commit_effect w c (first ∷ others)).senders
flown past w c first others h =
    let x = speaker w c in let new : Undecided = record { txn = next_txn w c (first ∷ others); given = []; mark = None } in
    written (commit_answer w c (first ∷ others) ∷ past) w.senders (speaker_number w c) (record x { seq = x.seq + 1; flight = Some new })
    (λ f fault e m. none_some fault (ap (λ (z : Undecided). z.mark) (some_same new f e) ∙ m))
    (noted past w.senders (commit_answer w c (first ∷ others)) (λ id. refl) h)

proposed : (r : Run) (c : ℕ) (t : Topic) (o : Option ProposeFault) → (speaker_number (final_world r) c) < length (final_world r).senders
    → (speaker (final_world r) c).flight ≡ Some (undecided_at (final_world r) c)
    → AreMarked (answers_of r) (final_world r).senders → AreMarked (propose_answer (final_world r) c t o ∷ answers_of r) (propose_effect (final_world r) c t o).senders
proposed r c t None l e h s' y fault' =
    let w = final_world r in let past = answers_of r in let s = speaker_number w c in let o = propose_answer w c t None in let g = noted past w.senders o (λ id. refl) h in
    let new : Undecided = record (undecided_at w c) { given = insert_ticket (next_ticket w c t) (undecided_at w c).given } in
    written (o ∷ past) w.senders s (record (speaker w c) { flight = Some new })
    (λ f fault d m.
    (let q = some_same new f d in
    ap (λ (z : Undecided). failed_title z.txn.id past) (sym q) ∙ h s (undecided_at w c) fault e (ap (λ (z : Undecided). z.mark) q ∙ m)))
    g s' y fault'
proposed r c t (Some why) l e h s f fault =
    let w = final_world r in let past = answers_of r in let n = speaker_number w c in let id = (undecided_at w c).txn.id in let flying = (spoken r).speaking.flying in
    at_set_within (λ (z : SenderState). z.flight ≡ Some f → f.mark ≡ Some fault → failed_title f.txn.id (Answer.Failed id why ∷ past) ≡ propose_title fault)
    w.senders n s (record (speaker w c) { flight = Some (record (undecided_at w c) { mark = Some why }) }) new_sender l
    (λ k d m.
    (let q = some_same (record (undecided_at w c) { mark = Some why }) f d in
    ap (λ (z : Undecided). cond (same_id id z.txn.id) (propose_title why) (failed_title z.txn.id past)) (sym q)
    ∙ (ap (λ (b : Bool). cond b (propose_title why) (failed_title id past)) (id_itself id)
    ∙ ap propose_title (some_same why fault (ap (λ (z : Undecided). z.mark) q ∙ m)))))
    (λ ne d m.
    (let differs : same_id id f.txn.id ≡ false = not_true (same_id id f.txn.id) refl (λ same.
    (let a : id.sender.0 ≡ n = ap (λ (z : TxnId). z.sender.0) (flying n (undecided_at w c) e) in
    let b : f.txn.id.sender.0 ≡ s = ap (λ (z : TxnId). z.sender.0) (flying s f d) in
    ne (sym b ∙ (sym (ap (λ (z : TxnId). z.sender.0) (id_equal id f.txn.id same)) ∙ a)))) in
    ap (λ (b : Bool). cond b (propose_title why) (failed_title f.txn.id past)) differs ∙ h s f fault d m))

cancelled : (past : List Answer) (w : World) (c : ℕ) (t : Topic) (k : Leftover) → AreMarked past w.senders → AreMarked (cancel_answer t (Some k) ∷ past) (cancel_effect w c t (Some k)).senders
cancelled past w c t k h =
    let s = speaker_number w c in let g = noted past w.senders (cancel_answer t (Some k)) (λ id. refl) h in written (cancel_answer t (Some k) ∷ past) w.senders s _ (g s) g

opened : (past : List Answer) (w : World) → AreMarked past w.senders → AreMarked past (w.senders ++ new_sender ∷ [])
opened past w h s f fault =
    at_push_two (λ (z : SenderState). z.flight ≡ Some f → f.mark ≡ Some fault → failed_title f.txn.id past ≡ propose_title fault) w.senders s new_sender new_sender
    (λ k e m. none_some f e) (λ ne. h s f fault)

happens : (r : Run) (e : Move) → AreMarked (answers_of r) (final_world r).senders → move_refusal (final_world r) e ≡ None
    → InEachCase (λ v o. AreMarked (o ∷ answers_of r) v.senders) (final_world r) e
happens r (Connects c claimed) h n = always (elim claimed as (λ (claimed : Option ℕ). AreMarked (answers_of r) (claimed_senders (final_world r).senders claimed)) [ None ↦ opened (answers_of r) (final_world r) h | Some s ↦ h ])
happens r (Commits c sends) h n = (h, λ k. flown (answers_of r) (final_world r) c k.0 k.1 h)
happens r (Leaves c) h n = (h, λ s. (h, λ k. h))
happens r (Proposes c t memory) h n =
    let w = final_world r in let k = checked w (Proposes c t memory) n in let fl = in_flight w c k.1.1.0 in
    let there = (spoken r).speaks.there c (speaker_number w c) (flying_speaker w c (not-false _ k.1.1.0)) in let is = fl.is ∙ ap Some (sym fl.at) in
    (proposed r c t None there is h, λ k. proposed r c t (Some k.it) there is h)
happens r (Decides c) h n = let w = final_world r in always (written (answers_of r) w.senders (speaker_number w c) _ (λ f fault e m. none_some f e) h)
happens r (Withdraws c) h n = let w = final_world r in always (written (answers_of r) w.senders (speaker_number w c) _ (λ f fault e m. none_some f e) h)
happens r (Cancels c t) h n = (h, λ k. cancelled (answers_of r) (final_world r) c t k.it h)
happens r _ h n = always h

-- after each run the marked ones were refused so
pub marked : (r : Run) → AreMarked (answers_of r) (final_world r).senders
marked =
    by_runs_moves (λ past w. AreMarked past w.senders) (λ capacity log_limit clocks s f fault e m. none_some f e)
    (λ past w why h. noted past w.senders (Answer.Refused why) (λ id. refl) h) happens

-- the account says why an undecided transaction is marked
pub failed_is : (k : Core) (c : ℕ) (f : Undecided) (fault : ProposeFault) → IsReached k → (speaker k.world c).flight ≡ Some f → f.mark ≡ Some fault
    → failed_title f.txn.id (account_of k.names k.steps) ≡ propose_title fault
failed_is k c f fault reached flight mark =
    by_account (λ account w. (speaker w c).flight ≡ Some f → failed_title f.txn.id account ≡ propose_title fault) k reached
    (λ r e. failed_said f.txn.id (answers_of r) ∙ marked r (speaker_number (final_world r) c) f fault e mark) flight
