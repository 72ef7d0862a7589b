-- A sender's floor is the stamp of its last row in the commit list.
use Rattle.delivery.proofs.Words.All.{◌≡◌, ◌≢◌, ℕ, ◌==◌, Bool, cond, List, [], ◌∷◌, ◌++◌, set, Option, Some, None, refl, sym, ap, subst, ◌∙◌, eqb-true, eq-eqb, zero_stamp, greatest, CommitRow, Stamp, at_set, at_set_within, not_true, World, SenderState, new_sender, speaker, speaker_number, Move, Answer, move_refusal, undecided_at, decide_effect, connect_effect, Run, final_world, Connects, Commits, Leaves, Proposes, Decides, Withdraws, Cancels}
use Rattle.delivery.specs.Theorem.Tied.{floor_after}
use Rattle.delivery.proofs.Words.Steps.{row, sender_in, within_senders, at_push, Reached, checked, in_flight, InEachCase, always, by_moves}

-- one more row: it is the last of its own sender's, and no other's
floor_push : (s : ℕ) (floor : Stamp) (rows : List CommitRow) (r : CommitRow) → floor_after s floor (rows ++ r ∷ []) ≡ cond (r.txn.id.sender.0 == s) r.stamp (floor_after s floor rows)
floor_push s floor [] r = refl
floor_push s floor (q ∷ rows) r = floor_push s (cond (q.txn.id.sender.0 == s) q.stamp floor) rows r

own_row : (s : ℕ) (rows : List CommitRow) (r : CommitRow) → r.txn.id.sender.0 ≡ s → floor_after s zero_stamp (rows ++ r ∷ []) ≡ r.stamp
own_row s rows r e = floor_push s zero_stamp rows r ∙ ap (λ (b : Bool). cond b r.stamp (floor_after s zero_stamp rows)) (eq-eqb r.txn.id.sender.0 s e)

other_row : (s : ℕ) (rows : List CommitRow) (r : CommitRow) → r.txn.id.sender.0 ≢ s → floor_after s zero_stamp (rows ++ r ∷ []) ≡ floor_after s zero_stamp rows
other_row s rows r ne =
    floor_push s zero_stamp rows r
    ∙ ap (λ (b : Bool). cond b r.stamp (floor_after s zero_stamp rows)) (not_true (r.txn.id.sender.0 == s) refl (λ e. ne (eqb-true r.txn.id.sender.0 s e)))

-- each sender's floor is that
abbrev Floors : List SenderState → List CommitRow → Type 0
Floors senders commits = (s : ℕ) → (sender_in senders s).floor ≡ floor_after s zero_stamp commits

-- a sender that keeps its floor
floor_kept : (senders : List SenderState) (commits : List CommitRow) (s : ℕ) (x : SenderState) → x.floor ≡ (sender_in senders s).floor → Floors senders commits → Floors (set senders s x) commits
floor_kept senders commits s x e h d =
    at_set (λ (z : SenderState). z.floor ≡ floor_after d zero_stamp commits) senders s d x new_sender
    (λ n. subst (λ (k : ℕ). x.floor ≡ floor_after k zero_stamp commits) (sym n) (e ∙ h s)) (h d)

decided_floors : (past : List Answer) (w : World) (c : ℕ) → Reached past w → move_refusal w (Decides c) ≡ None → Floors w.senders w.commits → Floors (decide_effect w c).senders (decide_effect w c).commits
decided_floors past w c r n h d =
    let fl = in_flight w c (checked w (Decides c) n).1.1.0 in let s = speaker_number w c in let f = undecided_at w c in
    let is : (speaker w c).flight ≡ Some f = fl.is ∙ ap Some (sym fl.at) in let own = ((r.inv.serves s).flying f is).sender in let new : CommitRow = row f.txn (greatest f.given) in
    let y : SenderState = record (speaker w c) { floor = greatest f.given; flight = None } in
    at_set_within (λ (z : SenderState). z.floor ≡ floor_after d zero_stamp (w.commits ++ new ∷ [])) w.senders s d y new_sender (within_senders w.senders s f is)
    (λ e. sym (own_row d w.commits new (own ∙ sym e)))
    (λ ne. h d ∙ sym (other_row d w.commits new (λ e. ne (sym e ∙ own))))

connected_floors : (w : World) (c : ℕ) (claimed : Option ℕ) → Floors w.senders w.commits → Floors (connect_effect w c claimed).senders w.commits
connected_floors w c None h = λ d. at_push (λ (z : SenderState). z.floor ≡ floor_after d zero_stamp w.commits) w.senders d new_sender new_sender (λ e k. k) (h d)
connected_floors w c (Some s) h = h

abbrev HasFloors : List Answer → World → Type 0
HasFloors past w = Floors w.senders w.commits

happens : (past : List Answer) (w : World) (e : Move) → Reached past w → HasFloors past w → move_refusal w e ≡ None → InEachCase (λ v o. HasFloors (o ∷ past) v) w e
happens past w (Connects c claimed) r h n = always (connected_floors w c claimed h)
happens past w (Commits c sends) r h n = (h, λ k. floor_kept w.senders w.commits (speaker_number w c) _ refl h)
happens past w (Leaves c) r h n = (h, λ s. (h, λ k. h))
happens past w (Proposes c t memory) r h n = (floor_kept w.senders w.commits (speaker_number w c) _ refl h, λ k. floor_kept w.senders w.commits (speaker_number w c) _ refl h)
happens past w (Decides c) r h n = always (decided_floors past w c r n h)
happens past w (Withdraws c) r h n = always (floor_kept w.senders w.commits (speaker_number w c) _ refl h)
happens past w (Cancels c t) r h n = (h, λ k. floor_kept w.senders w.commits (speaker_number w c) _ refl h)
happens past w e r h n = always h

-- after a run each sender's floor is the stamp of its last row in the commit list
pub floors : (r : Run) → Floors (final_world r).senders (final_world r).commits
floors = by_moves HasFloors (λ capacity log_limit clocks s. refl) (λ past w why h. h) happens
