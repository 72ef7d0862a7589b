-- No transaction is both withdrawn and decided.
use Rattle.delivery.proofs.Words.All.{◌≡◌, ℕ, inl, inr, List, ◌∷◌, Some, None, sym, ap, subst, ◌∙◌, false, not, is_some, true≢false, refl, In, TxnId, Stamp, id_same, undecided_at, World, Undecided, speaker, speaker_number, Move, Answer, answer_to, move_refusal, Decides, Withdraws, Decided, Withdrawn, answers_of, final_world, Leaves}
use Rattle.delivery.specs.Theorem.Laws
use Rattle.delivery.proofs.Words.Steps.{sender_in, flies_uncommitted, Reached, tickets, by_refusal, checked, in_flight, InEachCase, by_found, reached, by_run}
use Rattle.delivery.proofs.Theorem.SettledSteps.{Settling}
use Rattle.delivery.proofs.Theorem.SettledLeavesNoneOut.{committed_of, settling_run}

-- the transaction is in flight
record IsFlying (w : World) (id : TxnId) : Type 0 where
  sender : ℕ
  flight : Undecided
  is : (sender_in w.senders sender).flight ≡ Some flight
  own : flight.txn.id ≡ id

-- what is decided or withdrawn is in flight
abbrev Ends : World → Answer → Type 0
Ends w (Decided id stamp) = IsFlying w id
Ends w (Withdrawn id c) = IsFlying w id
Ends w o = Unit {0}

flies : (w : World) (c : ℕ) → not (is_some (speaker w c).flight) ≡ false → IsFlying w (undecided_at w c).txn.id
flies w c there = let f = in_flight w c there in record { sender = speaker_number w c; flight = f.flight; is = f.is; own = ap (λ (z : Undecided). z.txn.id) (sym f.at) }

answer_ends : (w : World) (e : Move) → move_refusal w e ≡ None → InEachCase (λ v o. Ends w o) w e
answer_ends w (Decides c) n = let f = flies w c (checked w (Decides c) n).1.1.0 in (f, λ k. f)
answer_ends w (Withdraws c) n = let f = flies w c (checked w (Withdraws c) n).1.1.0 in (f, λ k. f)
answer_ends w (Leaves c) n = (tt, λ k. (tt, λ q. tt))
answer_ends w _ n = (tt, λ k. tt)

outcome_ends : (w : World) (e : Move) → Ends w (answer_to w e)
outcome_ends w e = by_refusal (λ v o. Ends w o) w e (λ why. tt) (λ n. by_found (λ v o. Ends w o) w e (answer_ends w e n))

-- what was decided or withdrawn before isn't in flight
not_decided : (past : List Answer) (w : World) (id : TxnId) (stamp : Stamp) → Reached past w → IsFlying w id → In (Decided id stamp) past → Prim.⊥
not_decided past w id stamp h f i =
    let c = committed_of past w id stamp h i in
    flies_uncommitted (tickets past) w.commits w.topics f.sender _ _ f.flight ((h.inv.serves f.sender).flying f.flight f.is) c.row c.stands
    (id_same c.row.txn.id f.flight.txn.id (c.id_is ∙ sym f.own))

not_withdrawn : (past : List Answer) (w : World) (id : TxnId) (c : ℕ) → Settling past w.topics w.senders → IsFlying w id → In (Withdrawn id c) past → Prim.⊥
not_withdrawn past w id c l f i = true≢false (sym (id_same f.flight.txn.id id f.own) ∙ l.not_over f.sender f.flight id (Withdrawn id c) f.is i refl)

-- so far, none is both
abbrev Apart : List Answer → Type 0
Apart past = (id : TxnId) (c : ℕ) (stamp : Stamp) → In (Withdrawn id c) past → In (Decided id stamp) past → Prim.⊥

step_apart : (past : List Answer) (w : World) (o : Answer) → Reached past w → Settling past w.topics w.senders → Ends w o → Apart past → Apart (o ∷ past)
step_apart past w o h l f old id c stamp (inl e) (inl d) = both (sym e ∙ d)
  where
    both : Withdrawn id c ≡ Decided id stamp → Prim.⊥
    both k = cc
step_apart past w o h l f old id c stamp (inl e) (inr j) = not_decided past w id stamp h (subst (λ z. Ends w z) e f) j
step_apart past w o h l f old id c stamp (inr i) (inl d) = not_withdrawn past w id c l (subst (λ z. Ends w z) d f) i
step_apart past w o h l f old id c stamp (inr i) (inr j) = old id c stamp i j

-- no transaction is both withdrawn and decided
pub withdrawn_is_undecided : Laws.WithdrawnIsUndecided
withdrawn_is_undecided = by_run (λ past w. Apart past) (λ capacity log_limit clocks id c stamp i. absurd i) (λ r e old. let w = final_world r in
    step_apart (answers_of r) w (answer_to w e) (reached r) (settling_run r) (outcome_ends w e) old)
