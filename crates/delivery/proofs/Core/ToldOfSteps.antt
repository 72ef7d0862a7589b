-- What a run's steps tell is what is told of its account.
use Rattle.delivery.proofs.Words.All.{◌≡◌, ℕ, ◌+◌, ◌==◌, Bool, true, false, cond, ◌&&◌, List, [], ◌∷◌, ◌++◌, Option, Some, refl, sym, ap, ◌∙◌, eqb-true, TxnId, SentMessage, Transaction, same_id, RawFrame, id_same, Answer, txn_of_id, txn_count, Event, Outcome, claims_of, sender_of, CoreStep, frame_in, accepted_of, names_after, account_of, account_of_step, Told, sends_by, told_of}
use Rattle.delivery.specs.Core.Told.{last_by, told_by}
use Rattle.delivery.proofs.Core.Tells.{tell, owner_told}

-- the transaction of this sender and number
abbrev num : ℕ → ℕ → TxnId
num s n = record { sender = record { 0 = s }; seq = n }

-- a sender's last transaction is the one whose number counts its transactions
abbrev pub LastIs : List Answer → Type 0
LastIs past = (s : ℕ) → ((last_by s (tell past)).id ≡ num s (txn_count s past)) × (txn_of_id (num s (txn_count s past)) past ≡ last_by s (tell past))

-- so too once a sender has made its next one
last_begun : (s : ℕ) (sends : List SentMessage) (past : List Answer) → LastIs past → LastIs (Answer.Begun (record { id = num s (txn_count s past + 1); sends = sends }) ∷ past)
last_begun s sends past h q = by (s == q) refl
  where
    txn : Transaction
    txn = record { id = num s (txn_count s past + 1); sends = sends }

    count : Bool → ℕ
    count b = cond b (txn_count q past + 1) (txn_count q past)

    Last : Bool → Type 0
    Last b =
        ((cond b txn (last_by q (tell past))).id ≡ num q (count b))
        × (cond (same_id txn.id (num q (count b))) txn (txn_of_id (num q (count b)) past) ≡ cond b txn (last_by q (tell past)))

    by : (b : Bool) → (s == q) ≡ b → Last b
    by true e =
        let same : txn.id ≡ num q (txn_count q past + 1) = ap (λ (k : ℕ). num k (txn_count k past + 1)) (eqb-true s q e) in
        (same, ap (λ (b : Bool). cond b txn (txn_of_id (num q (txn_count q past + 1)) past)) (id_same txn.id (num q (txn_count q past + 1)) same))
    by false e =
        let other : same_id txn.id (num q (txn_count q past)) ≡ false = ap (λ (b : Bool). b && (txn.id.seq == txn_count q past)) e in
        ((h q).0, ap (λ (b : Bool). cond b txn (txn_of_id (num q (txn_count q past)) past)) other ∙ (h q).1)

-- what a step tells is what is told of the answers that it adds to the account
record Kept (new : List Told) (answers past : List Answer) : Type 0 where
  same : new ++ tell past ≡ tell (answers ++ past)
  last : LastIs (answers ++ past)

step_told : (names : List (List ℕ)) (older : List CoreStep) (past : List Answer) (e : Event) (read : Option RawFrame) (o : Outcome) → LastIs past
    → Kept (told_by names older (tell past) e read o) (account_of_step names older past e read o) past
step_told names older past (Event.Next c) (Some f) (Outcome.Flying id) h =
    let s = sender_of c (claims_of older) in let sends = sends_by f.command names (accepted_of c older) f in
    record { same = ap (λ (z : TxnId). Told.Begun (record { id = record z { seq = z.seq + 1 }; sends = sends }) ∷ tell past) (h s).0; last = last_begun s sends past h }
step_told names older past (Event.Propose c t) read (Outcome.Proposed n) h =
    record { same = ap (λ (z : TxnId). Told.Ticket z t ∷ tell past) (h (sender_of c (claims_of older))).0; last = h }
step_told names older past (Event.Decide c) read (Outcome.Decided stamp true) h =
    record { same = ap (λ (z : Transaction). Told.Closed c ∷ Told.Decided z stamp ∷ tell past) (sym (h (sender_of c (claims_of older))).1); last = h }
step_told names older past (Event.Decide c) read (Outcome.Decided stamp false) h =
    record { same = ap (λ (z : Transaction). Told.Decided z stamp ∷ tell past) (sym (h (sender_of c (claims_of older))).1); last = h }
step_told names older past (Event.Withdraw c) read (Outcome.Withdrawn cut) h =
    record { same = ap (λ (z : Transaction). Told.Closed c ∷ Told.Withdrawn z ∷ tell past) (sym (h (sender_of c (claims_of older))).1); last = h }
step_told names older past (Event.Cancel c t) read Outcome.Cancelled h =
    record { same = ap (λ (z : TxnId). Told.Cancelled z t ∷ tell past) (h (sender_of c (claims_of older))).0; last = h }
step_told names older past (Event.Take s) read (Outcome.Faulted fault cut) h = record { same = ap (λ (k : ℕ). Told.Closed k ∷ tell past) (owner_told s past); last = h }
step_told names older past Event.Open read (Outcome.Opened c) h = record { same = refl; last = h }
step_told names older past (Event.Next c) read (Outcome.Faulted fault cut) h = record { same = refl; last = h }
step_told names older past (Event.Learn t id) read Outcome.Learnt h = record { same = refl; last = h }
step_told names older past (Event.Release t) read (Outcome.Released id) h = record { same = refl; last = h }
step_told names older past (Event.Turn t) read (Outcome.Turned count) h = record { same = refl; last = h }
step_told names older past (Event.Leave c) read (Outcome.Gone cut) h = record { same = refl; last = h }
step_told names older past (Event.Lost c) read Outcome.Leaving h = record { same = refl; last = h }
step_told names older past e read o h = record { same = refl; last = h }

-- what a run's steps tell is what is told of its account
pub told_is : (names : List (List ℕ)) (steps : List CoreStep) → (told_of names steps ≡ tell (account_of names steps)) × LastIs (account_of names steps)
told_is names [] = (refl, λ s. (refl, refl))
told_is names (step ∷ older) =
    let past = told_is names older in
    let k = step_told (names_after names older) older (account_of names older) step.event (frame_in step.reading) step.outcome past.1 in (
      ap (λ (z : List Told). told_by (names_after names older) older z step.event (frame_in step.reading) step.outcome ++ z) past.0 ∙ k.same,
      k.last,
    )
