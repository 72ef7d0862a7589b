-- Room for what may have to be cancelled.
use Rattle.std.proofs.Common.{◌≡◌, ◌≤◌, ◌+◌, ◌||◌, ◌++◌, Bool, true, false, if◌then◌else◌, List, [], ◌∷◌, length, sym, subst, arith}
use Rattle.std.specs.List.{list_any}
use Rattle.mcast_txn.specs.declared.id.Topic.{Topic}
use Rattle.mcast_txn.specs.declared.id.TxnId.{TxnId}
use Rattle.broker_locks.specs.Rows.{PlaceRow, Entered, Cancelled, is_pair, is_uncancelled, uncancelled_after, pairs_without}
use Rattle.broker_locks.proofs.Cancels.{after_both}

without_fewer : (t : Topic) (id : TxnId) (pairs : List (Topic × TxnId)) → length (pairs_without t id pairs) ≤ length pairs
without_fewer t id [] = omega arith
without_fewer t id (pair ∷ pairs) = by_case (is_pair t id pair) (without_fewer t id pairs)
  where
    by_case : (b : Bool) → length (pairs_without t id pairs) ≤ length pairs → length (if b then pairs else pair ∷ pairs_without t id pairs) ≤ length (pair ∷ pairs)
    by_case true h = omega arith
    by_case false h = omega (arith, h)

without_one : (t : Topic) (id : TxnId) (pairs : List (Topic × TxnId)) → list_any (is_pair t id) pairs ≡ true → length (pairs_without t id pairs) + 1 ≤ length pairs
without_one t id [] is = cc
without_one t id (pair ∷ pairs) is = by_case (is_pair t id pair) (without_one t id pairs) is
  where
    by_case : (b : Bool) → (list_any (is_pair t id) pairs ≡ true → length (pairs_without t id pairs) + 1 ≤ length pairs) → b || list_any (is_pair t id) pairs ≡ true
        → length (if b then pairs else pair ∷ pairs_without t id pairs) + 1 ≤ length (pair ∷ pairs)
    by_case true h is = omega arith
    by_case false h is = omega (arith, h is)

after_few : (pairs : List (Topic × TxnId)) (rows : List PlaceRow) → length (uncancelled_after pairs rows) ≤ length pairs + length rows
after_few pairs [] = omega arith
after_few pairs (Entered part floor n ∷ rows) = omega (arith, after_few ((part.topic, part.id) ∷ pairs) rows)
after_few pairs (Cancelled t id ∷ rows) = omega (arith, after_few (pairs_without t id pairs) rows, without_fewer t id pairs)

-- no more is uncancelled than there are rows
pub uncancelled_few : (rows : List PlaceRow) → length (uncancelled_after [] rows) ≤ length rows
uncancelled_few rows = omega (arith, after_few [] rows)

-- one more after a part was entered
pub uncancelled_entered : (rows : List PlaceRow) (row : PlaceRow) → length (uncancelled_after [] (rows ++ row ∷ [])) ≤ length (uncancelled_after [] rows) + 1
uncancelled_entered rows row =
    subst (λ (l : List (Topic × TxnId)). length l ≤ length (uncancelled_after [] rows) + 1) (sym (after_both [] rows (row ∷ []))) (after_few (uncancelled_after [] rows) (row ∷ []))

-- one less after it was cancelled
pub uncancelled_cancelled : (rows : List PlaceRow) (t : Topic) (id : TxnId) → is_uncancelled t id rows ≡ true
    → length (uncancelled_after [] (rows ++ Cancelled t id ∷ [])) + 1 ≤ length (uncancelled_after [] rows)
uncancelled_cancelled rows t id is =
    subst (λ (l : List (Topic × TxnId)). length l + 1 ≤ length (uncancelled_after [] rows)) (sym (after_both [] rows (Cancelled t id ∷ []))) (without_one t id (uncancelled_after [] rows) is)
