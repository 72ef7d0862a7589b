-- A run makes each transaction once: what is looked up by its id is the transaction itself.
use Rattle.delivery.proofs.Words.All.{◌≡◌, ℕ, ◌+◌, ◌≤◌, ◌==◌, Bool, true, false, cond, inl, inr, List, [], ◌∷◌, refl, ap, subst, ◌∙◌, arith, eq-eqb, Transaction, same_id, In, TxnId, not_head, id_equal, id_itself, not_true, Answer, txn_of_id, txn_count, Numbered, Begun}

more_made : (n : ℕ) (b : Bool) → n ≤ cond b (n + 1) n
more_made n true = omega arith
more_made n false = omega arith

one_made : (n : ℕ) (b : Bool) → b ≡ true → n + 1 ≤ cond b (n + 1) n
one_made n true e = omega arith
one_made n false e = cc

seq_case : (x txn : Transaction) (before : List Answer) → x.id.seq ≡ txn_count x.id.sender.0 before + 1 → (In (Begun txn) before → txn.id.seq ≤ txn_count txn.id.sender.0 before) → In (Begun txn) (Begun x ∷ before) → txn.id.seq ≤ txn_count txn.id.sender.0 (Begun x ∷ before)
seq_case x txn before n ih (inl e) =
    let d : x ≡ txn = cc in
    subst (λ (z : Transaction). z.id.seq ≤ cond (x.id.sender.0 == z.id.sender.0) (txn_count z.id.sender.0 before + 1) (txn_count z.id.sender.0 before)) d
    (let l = one_made (txn_count x.id.sender.0 before) (x.id.sender.0 == x.id.sender.0) (eq-eqb x.id.sender.0 x.id.sender.0 refl) in omega arith)
seq_case x txn before n ih (inr k) = let m = ih k in let l = more_made (txn_count txn.id.sender.0 before) (x.id.sender.0 == txn.id.sender.0) in omega arith

-- its seq is at most the number of its sender's
seq_le : (past : List Answer) → Numbered past → (txn : Transaction) → In (Begun txn) past → txn.id.seq ≤ txn_count txn.id.sender.0 past
seq_le [] n txn i = absurd i
seq_le (Begun x ∷ before) n txn i = seq_case x txn before n.0 (seq_le before n.1 txn) i
seq_le (o ∷ before) n txn i = seq_le before n txn (not_head (Begun txn) _ before (λ e. cc) i)

made_case : (x txn : Transaction) (before : List Answer) → x.id.seq ≡ txn_count x.id.sender.0 before + 1 → (In (Begun txn) before → txn.id.seq ≤ txn_count txn.id.sender.0 before) → (In (Begun txn) before → txn_of_id txn.id before ≡ txn) → In (Begun txn) (Begun x ∷ before) → txn_of_id txn.id (Begun x ∷ before) ≡ txn
made_case x txn before n old ih (inl e) =
    let d : x ≡ txn = cc in
    subst (λ (z : Transaction). cond (same_id x.id z.id) x (txn_of_id z.id before) ≡ z) d (ap (λ (b : Bool). cond b x (txn_of_id x.id before)) (id_itself x.id))
made_case x txn before n old ih (inr k) =
    ap (λ (b : Bool). cond b x (txn_of_id txn.id before)) (not_true (same_id x.id txn.id) refl (λ s.
    let d = id_equal x.id txn.id s in let m : txn.id.seq ≤ txn_count txn.id.sender.0 before = old k in let a : x.id.seq ≡ txn.id.seq = ap (λ (z : TxnId). z.seq) d in
    let b : txn_count x.id.sender.0 before ≡ txn_count txn.id.sender.0 before = ap (λ (z : TxnId). txn_count z.sender.0 before) d in
    omega arith)) ∙ ih k

-- a transaction that was made is what was made under its id
pub made_is : (past : List Answer) → Numbered past → (txn : Transaction) → In (Begun txn) past → txn_of_id txn.id past ≡ txn
made_is [] n txn i = absurd i
made_is (Begun x ∷ before) n txn i = made_case x txn before n.0 (seq_le before n.1 txn) (made_is before n.1 txn) i
made_is (o ∷ before) n txn i = made_is before n txn (not_head (Begun txn) _ before (λ e. cc) i)
