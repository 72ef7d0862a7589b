-- The verdict of a transaction by its sender and seq is the one that a search finds.
use Rattle.delivery.proofs.Words.All.{◌≡◌, ◌≢◌, ℕ, zero, suc, ◌+◌, ◌-◌, ◌<◌, ◌≤◌, ◌==◌, Bool, true, false, cond, inl, inr, List, [], ◌∷◌, length, Option, Some, None, refl, sym, ap, subst, ◌∙◌, arith, eqb-true, eq-eqb, false≢true, cases_lt, slice_get-get_or, slice_get_past, slice_get, option_and_then, Topic, TxnId, Transaction, Decision, same_id, In, topics_of, names, id_equal, World, Undecided, SenderState, new_sender, sender_at, speaker_number, Move, Answer, move_refusal, move_effect, undecided_at, find_verdict, Numbered, txn_of_id, txn_count, Run, answers_of, final_world, Leaves, Decides, Core, each_number, IsReached, verdict_at, view_of, verdict_list}
use Rattle.delivery.proofs.Words.Steps.{InEachCase, always, by_runs_moves, sender_in, In-append_cases, checked, in_flight, verdict_found, reached, beyond}
use Rattle.std.proofs.lemmas.List.FromFn.{length-map-range_with_len, get_or-map-range_with_len}
use Rattle.delivery.proofs.Theorem.SeqsCount.{seqs_count}
use Rattle.delivery.proofs.Views.Lists.ByNumber.{get_or-each_number, length-each_number}
use Rattle.delivery.proofs.Views.Runs.ByRunOfCore.{by_world}

-- ---- no transaction has seq 0

begun_case : (id : TxnId) (s : Topic) (txn later : Transaction) (n : ℕ) (b : Bool) → same_id txn.id id ≡ b → txn.id.seq ≡ n + 1
    → (names s (topics_of later.sends) ≡ true → id.seq ≢ 0) → names s (topics_of (cond b txn later).sends) ≡ true → id.seq ≢ 0
begun_case id s txn later n true e m h k z = let i = ap (λ (d : TxnId). d.seq) (id_equal txn.id id e) in absurd (omega arith)
begun_case id s txn later n false e m h k z = h k z

made_seq : (id : TxnId) (s : Topic) (past : List Answer) → Numbered past → names s (topics_of (txn_of_id id past).sends) ≡ true → id.seq ≢ 0
made_seq id s [] h k = absurd (false≢true k)
made_seq id s (Answer.Begun txn ∷ past) h k = begun_case id s txn (txn_of_id id past) (txn_count txn.id.sender.0 past) (same_id txn.id id) refl h.0 (made_seq id s past h.1) k
made_seq id s (_ ∷ past) h k = made_seq id s past h k

-- an undecided transaction's seq isn't 0
pub flight_seq : (r : Run) (s : ℕ) (f : Undecided) → (sender_in (final_world r).senders s).flight ≡ Some f → f.txn.id.seq ≢ 0
flight_seq r s f e =
    let h = reached r in let k = (h.inv.serves s).flying f e in
    made_seq f.txn.id k.some (answers_of r) (seqs_count r)
    (ap (λ (t : Transaction). names k.some (topics_of t.sends)) (h.flights s f e) ∙ k.some_named)

-- ---- nor has a verdict

-- each verdict is of a transaction
abbrev AreOf : List Answer → World → Type 0
AreOf past w = (v : Decision) → In v w.verdicts → v.id.seq ≢ 0

decided : (r : Run) (c : ℕ) → AreOf [] (final_world r) → move_refusal (final_world r) (Decides c) ≡ None → AreOf [] (move_effect (final_world r) (Decides c))
decided r c h n =
    let w = final_world r in let fl = in_flight w c (checked w (Decides c) n).1.1.0 in
    λ v i. elim (In-append_cases v w.verdicts (record { id = (undecided_at w c).txn.id; rows = (undecided_at w c).given } ∷ []) i) [
      | inl j ↦ h v j
      | inr j ↦ elim j [
        | inl e ↦ subst (λ (z : Decision). z.id.seq ≢ 0) e (flight_seq r (speaker_number w c) (undecided_at w c) (fl.is ∙ ap Some (sym fl.at)))
        | inr k ↦ absurd k
      ]
    ]

happens : (r : Run) (e : Move) → AreOf [] (final_world r) → move_refusal (final_world r) e ≡ None → InEachCase (λ v o. AreOf [] v) (final_world r) e
happens r (Decides c) h n = always (decided r c h n)
happens r (Leaves c) h n = (h, λ s. (h, λ k. h))
happens r _ h n = always h

of_transactions : (r : Run) → AreOf [] (final_world r)
of_transactions = by_runs_moves (λ past w. AreOf [] w) (λ capacity log_limit clocks v i. absurd i) (λ past w why h. h) happens

-- ---- where a verdict is

-- the sender of a verdict is there, and its seq is one of the sender's
record Stands (w : World) (id : TxnId) : Type 0 where
  there : id.sender.0 < length w.senders
  first : id.seq ≢ 0
  last : id.seq ≤ (sender_at w id.sender.0).seq

found_stands : (r : Run) (id : TxnId) (u : Decision) → find_verdict id (final_world r).verdicts ≡ Some u → Stands (final_world r) id
found_stands r id u e =
    let w = final_world r in let f = verdict_found id w.verdicts u e in let inv = (reached r).inv in let v = inv.voted u f.0 in let same : v.row.txn.id ≡ id = v.id_is ∙ f.1 in
    let used : v.row.txn.id.seq ≤ (sender_in w.senders v.row.txn.id.sender.0).seq =
    (inv.serves v.row.txn.id.sender.0).used v.row (inv.consistent.from_ticket v.row v.stands) refl in
    let last : id.seq ≤ (sender_in w.senders id.sender.0).seq = subst (λ (z : TxnId). z.seq ≤ (sender_in w.senders z.sender.0).seq) same used in
    let first : id.seq ≢ 0 = subst (λ (z : TxnId). z.seq ≢ 0) f.1 (of_transactions r u f.0) in
    record {
      there = elim (cases_lt id.sender.0 (length w.senders)) [
        | inl l ↦ l
        | inr l ↦ absurd (first (let b : (sender_in w.senders id.sender.0).seq ≡ 0 = ap (λ (z : SenderState). z.seq) (beyond w.senders id.sender.0 new_sender l) in omega arith))
      ];
      first = first;
      last = last;
    }

-- the verdicts of a sender in a world
abbrev pub list_in : World → ℕ → List (Option Decision)
list_in w s = verdict_list w.verdicts s (sender_at w s).seq

-- what is held of verdicts
abbrev pub table : World → List (List (Option Decision))
table w = each_number (list_in w) 0 w.senders

-- a sender that is there has a list
pub list_of : (w : World) (s : ℕ) → s < length w.senders → slice_get (table w) s ≡ Some (list_in w s)
list_of w s l =
    let n = length-each_number (list_in w) 0 w.senders in let z : 0 + s ≡ s = omega arith in
    slice_get-get_or (table w) s [] (omega arith)
    ∙ (ap Some (get_or-each_number (list_in w) 0 w.senders s [] l) ∙ ap (λ (m : ℕ). Some (list_in w m)) z)

no_list : (w : World) (s : ℕ) → length w.senders ≤ s → slice_get (table w) s ≡ None
no_list w s l = let n = length-each_number (list_in w) 0 w.senders in slice_get_past (table w) s (omega arith)

-- the verdict of this sender and this seq
abbrev verdict_of : World → ℕ → ℕ → Option Decision
verdict_of w s q = find_verdict (record { sender = record { 0 = s }; seq = q }) w.verdicts

in_list : (w : World) (s q : ℕ) → q ≢ 0 → q ≤ (sender_at w s).seq → slice_get (list_in w s) (q - 1) ≡ Some (verdict_of w s q)
in_list w s q z l =
    let n = length-map-range_with_len (verdict_of w s) 1 (sender_at w s).seq in let p : 0 < q = positive q z in
    slice_get-get_or (list_in w s) (q - 1) None (omega arith)
    ∙ ap Some (get_or-map-range_with_len (verdict_of w s) 1 (sender_at w s).seq (q - 1) q None (omega arith) (omega arith))
  where
    positive : (m : ℕ) → m ≢ 0 → 0 < m
    positive zero h = absurd (h refl)
    positive (suc m) h = omega arith

-- a later seq is not in it
pub not_in_list : (w : World) (s q : ℕ) → (sender_at w s).seq < q → slice_get (list_in w s) (q - 1) ≡ None
not_in_list w s q l = let n = length-map-range_with_len (verdict_of w s) 1 (sender_at w s).seq in slice_get_past (list_in w s) (q - 1) (omega arith)

-- what isn't found where it can't stand
none_found : (r : Run) (id : TxnId) → (Stands (final_world r) id → Prim.⊥) → None ≡ find_verdict id (final_world r).verdicts
none_found r id h = (elim (find_verdict id (final_world r).verdicts) as (λ (o : Option Decision). find_verdict id (final_world r).verdicts ≡ o → None ≡ find_verdict id (final_world r).verdicts) [
  | None ↦ λ e. sym e
  | Some u ↦ λ e. absurd (h (found_stands r id u e))
]) refl

seq_case : (r : Run) (id : TxnId) (b : Bool) → (id.seq == 0) ≡ b
    → cond b None (option_and_then (λ found. found) (option_and_then (λ verdicts. slice_get verdicts (id.seq - 1)) (slice_get (table (final_world r)) id.sender.0)))
    ≡ find_verdict id (final_world r).verdicts
seq_case r id true e = none_found r id (λ h. h.first (eqb-true id.seq 0 e))
seq_case r id false e =
    let w = final_world r in let s = id.sender.0 in
    elim (cases_lt s (length w.senders)) [
      | inr l ↦ ap (λ (o : Option (List (Option Decision))). option_and_then (λ found. found) (option_and_then (λ verdicts. slice_get verdicts (id.seq - 1)) o)) (no_list w s l)
          ∙ none_found r id (λ h. (let t = h.there in absurd (omega arith)))
      | inl l ↦ ap (λ (o : Option (List (Option Decision))). option_and_then (λ found. found) (option_and_then (λ verdicts. slice_get verdicts (id.seq - 1)) o)) (list_of w s l)
          ∙ elim (cases_lt (sender_at w s).seq id.seq) [
            | inl m ↦ ap (λ (o : Option (Option Decision)). option_and_then (λ found. found) o) (not_in_list w s id.seq m)
                ∙ none_found r id (λ h. (let t = h.last in absurd (omega arith)))
            | inr m ↦ ap (λ (o : Option (Option Decision)). option_and_then (λ found. found) o)
                (in_list w s id.seq (λ z. false≢true (sym e ∙ eq-eqb id.seq 0 z)) m)
          ]
    ]

-- the verdict that is found by sender and seq is the one that is found by a search
pub verdict_is : (k : Core) (id : TxnId) → IsReached k → verdict_at id (view_of k).verdicts ≡ find_verdict id k.world.verdicts
verdict_is k id reached = by_world (λ w. verdict_at id (table w) ≡ find_verdict id w.verdicts) k reached (λ r. seq_case r id (id.seq == 0) refl)
