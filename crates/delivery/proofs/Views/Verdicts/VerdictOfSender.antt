-- A verdict among those of its sender.
use Rattle.delivery.proofs.Words.All.{◌≡◌, ◌≢◌, ℕ, zero, suc, ◌+◌, ◌-◌, ◌<◌, ◌≤◌, ◌==◌, Bool, true, false, cond, ◌&&◌, List, [], ◌∷◌, ◌++◌, map, set, Option, Some, None, refl, sym, ap, ◌∙◌, arith, range_with_len, TxnId, Decision, same_id, id_itself, none_some, Undecided, sender_at, find_verdict, Run, final_world, Core, IsReached, verdict_list}
use Rattle.delivery.proofs.Words.Steps.{verdict_found, reached}
use Rattle.delivery.proofs.Words.Changes.{by_world, differ}
use Rattle.delivery.proofs.Views.Verdicts.FoundVerdict.{flight_seq}

-- ---- an undecided transaction has none

unvoted_in : (r : Run) (s : ℕ) (f : Undecided) → (sender_at (final_world r) s).flight ≡ Some f → find_verdict f.txn.id (final_world r).verdicts ≡ None
unvoted_in r s f flight = by_case (find_verdict f.txn.id (final_world r).verdicts) refl
  where
    by_case : (o : Option Decision) → find_verdict f.txn.id (final_world r).verdicts ≡ o → o ≡ None
    by_case None e = refl
    by_case (Some u) e =
        let inv = (reached r).inv in let found = verdict_found f.txn.id (final_world r).verdicts u e in let v = inv.voted u found.0 in let flies = (inv.serves s).flying f flight in
        let same = v.id_is ∙ found.1 in let before = flies.newest v.row v.stands (ap (λ (id : TxnId). id.sender.0) same ∙ flies.sender) in
        let seq = ap (λ (id : TxnId). id.seq) same in absurd (omega (arith, before, seq))

-- an undecided transaction has no verdict
pub undecided_unvoted : (k : Core) (s : ℕ) (f : Undecided) → IsReached k → (sender_at k.world s).flight ≡ Some f → find_verdict f.txn.id k.world.verdicts ≡ None
undecided_unvoted k s f reached = by_world (λ w. (sender_at w s).flight ≡ Some f → find_verdict f.txn.id w.verdicts ≡ None) k reached (λ r. unvoted_in r s f)

-- nor has it seq 0
pub undecided_seq : (k : Core) (s : ℕ) (f : Undecided) → IsReached k → (sender_at k.world s).flight ≡ Some f → f.txn.id.seq ≢ 0
undecided_seq k s f reached = by_world (λ w. (sender_at w s).flight ≡ Some f → f.txn.id.seq ≢ 0) k reached (λ r. flight_seq r s f)

-- ---- one more verdict

-- where none was found, it is found
pub found_new : (id : TxnId) (vs : List Decision) (v : Decision) → find_verdict id vs ≡ None → same_id v.id id ≡ true → find_verdict id (vs ++ v ∷ []) ≡ Some v
found_new id [] v none same = ap (λ (b : Bool). cond b (Some v) None) same
found_new id (u ∷ us) v none same = (elim (same_id u.id id) as (λ (b : Bool). (find_verdict id us ≡ None → find_verdict id (us ++ v ∷ []) ≡ Some v) → cond b (Some u) (find_verdict id us) ≡ None → cond b (Some u) (find_verdict id (us ++ v ∷ [])) ≡ Some v) [
  | true ↦ λ later e. none_some u (sym e)
  | false ↦ λ later e. later e
]) (λ e. found_new id us v e same) none

-- of another transaction what was found is found
pub found_old : (id : TxnId) (vs : List Decision) (v : Decision) → same_id v.id id ≡ false → find_verdict id (vs ++ v ∷ []) ≡ find_verdict id vs
found_old id [] v other = ap (λ (b : Bool). cond b (Some v) None) other
found_old id (u ∷ us) v other = ap (λ (o : Option Decision). cond (same_id u.id id) (Some u) o) (found_old id us v other)

-- ---- lists by seq

range_same : {Y : Type 0} (f g : ℕ → Y) (a n : ℕ) → ((q : ℕ) → a ≤ q → f q ≡ g q) → map f (range_with_len a n) ≡ map g (range_with_len a n)
range_same f g a zero same = refl
range_same {Y = Y} f g a (suc n) same =
    ap (λ (y : Y). y ∷ map f (range_with_len (a + 1) n)) (same a (omega arith))
    ∙ ap (λ (ys : List Y). g a ∷ ys) (range_same f g (a + 1) n (λ q low. same q (omega (arith, low))))

-- one value is another
range_set : {Y : Type 0} (f g : ℕ → Y) (a n i : ℕ) (y : Y) → i < n → g (a + i) ≡ y → ((q : ℕ) → a ≤ q → q ≢ a + i → f q ≡ g q)
    → set (map f (range_with_len a n)) i y ≡ map g (range_with_len a n)
range_set f g a zero i y within is same = absurd (omega (arith, within))
range_set {Y = Y} f g a (suc n) zero y within is same =
    let e : a + 0 ≡ a = omega arith in
    ap (λ (z : Y). z ∷ map f (range_with_len (a + 1) n)) (sym is ∙ ap g e)
    ∙ ap (λ (ys : List Y). g a ∷ ys) (range_same f g (a + 1) n (λ q low. same q (omega (arith, low)) (λ z. absurd (omega (arith, low, z)))))
range_set {Y = Y} f g a (suc n) (suc i) y within is same =
    let e : a + suc i ≡ (a + 1) + i = omega arith in
    ap (λ (z : Y). z ∷ set (map f (range_with_len (a + 1) n)) i y) (same a (omega arith) (λ z. absurd (omega (arith, z))))
    ∙ ap (λ (ys : List Y). g a ∷ ys)
    (range_set f g (a + 1) n i y (omega (arith, within)) (ap g (sym e) ∙ is) (λ q low other. same q (omega (arith, low)) (λ z. other (z ∙ e))))

other_sender : (v : Decision) (s n q : ℕ) → v.id.sender.0 ≡ s → n ≢ s → same_id v.id (record { sender = record { 0 = n }; seq = q }) ≡ false
other_sender v s n q own other = ap (λ (b : Bool). b && (v.id.seq == q)) (differ v.id.sender.0 n (λ z. other (sym z ∙ own)))

-- another sender's list stays
pub list_stays : (vs : List Decision) (v : Decision) (s n seq : ℕ) → v.id.sender.0 ≡ s → n ≢ s → verdict_list vs n seq ≡ verdict_list (vs ++ v ∷ []) n seq
list_stays vs v s n seq own other = range_same _ _ 1 seq (λ q low. sym (found_old (record { sender = record { 0 = n }; seq = q }) vs v (other_sender v s n q own other)))

-- the sender's has it in its slot
pub list_filled : (vs : List Decision) (v : Decision) (s seq : ℕ) → v.id ≡ record { sender = record { 0 = s }; seq = seq } → seq ≢ 0
    → find_verdict v.id vs ≡ None → set (verdict_list vs s seq) (v.id.seq - 1) (Some v) ≡ verdict_list (vs ++ v ∷ []) s seq
list_filled vs v s seq own some none =
    let q = ap (λ (id : TxnId). id.seq) own in let place : 1 + (v.id.seq - 1) ≡ seq = omega (arith, q, some) in let id : TxnId = record { sender = record { 0 = s }; seq = seq } in
    let new : find_verdict (record { sender = record { 0 = s }; seq = 1 + (v.id.seq - 1) }) (vs ++ v ∷ []) ≡ Some v =
    ap (λ (m : ℕ). find_verdict (record { sender = record { 0 = s }; seq = m }) (vs ++ v ∷ [])) place
    ∙ (ap (λ (i : TxnId). find_verdict i (vs ++ v ∷ [])) (sym own) ∙ found_new v.id vs v none (id_itself v.id)) in
    range_set (λ m. find_verdict (record { sender = record { 0 = s }; seq = m }) vs) (λ m. find_verdict (record { sender = record { 0 = s }; seq = m }) (vs ++ v ∷ [])) 1 seq (v.id.seq - 1) (Some v)
    (omega (arith, q, some)) new
    (λ m low other. sym (found_old (record { sender = record { 0 = s }; seq = m }) vs v
    (ap (λ (b : Bool). (v.id.sender.0 == s) && b) (differ v.id.seq m (λ z. other (sym z ∙ (q ∙ sym place)))) ∙ elim (v.id.sender.0 == s) as (λ (b : Bool). b && false ≡ false) [ true ↦ refl | false ↦ refl ])))
