-- Several subscriptions end, one after the other.
use Rattle.std.proofs.Common.{◌≡◌, ◌<◌, ◌+◌, ℕ, zero, List, take, get_or, arith, [], ◌∷◌, ◌++◌, length, suc, Some, Result, Ok, Err, IfOk, IfErr, OnOk, OnErr, refl, sym, ap, subst, ◌∙◌}
use Rattle.sub_queue.specs.Shown.{Shown}
use Rattle.mcast_group.specs.declared.ended.Ended.{Ended}
use Rattle.mcast_group.specs.declared.fault.NoSub.{NoSub}
use Rattle.mcast_group.specs.Group.{HasLeft}
use Rattle.mcast_group.specs.Machine.{unsubscribe_fault}
use Rattle.broker_locks.specs.Place.{EndsInOrder, EndsOne, PlaceState, place_after_unsubscribe}
use Rattle.broker_locks.specs.Room.{RoomState, waiting_without}
use Rattle.broker_locks.specs.Inner.Waited.{waiting_without_each}

module _ {Q : Type 0} (shown : Q → Shown) where
  -- what one end answers says what it did
  pub ends_one : (number : ℕ) (r : Result (Ended Q) NoSub) (old new : PlaceState) → IfOk r (λ left. HasLeft number old.cells.group (shown left.outlet) left.to left.cause) → OnOk r (new ≡ place_after_unsubscribe number old)
      → IfErr r (λ fault. unsubscribe_fault number old.cells.group.topic ≡ Some fault) → OnErr r (new ≡ old) → EndsOne shown number r old new
  ends_one number (Ok left) old new leaves ok fault err = (leaves, ok)
  ends_one number (Err why) old new leaves ok fault err = (fault, err)

  -- one more
  pub ends_more : (numbers : List ℕ) (answers : List (Result (Ended Q) NoSub)) (number : ℕ) (answer : Result (Ended Q) NoSub) (a b c : PlaceState) → EndsInOrder shown numbers answers a b → EndsOne shown number answer b c
      → EndsInOrder shown (numbers ++ number ∷ []) (answers ++ answer ∷ []) a c
  ends_more [] [] number answer a b c e one = (c, subst (λ (x : PlaceState). EndsOne shown number answer x c) e one, refl)
  ends_more (n ∷ numbers) (x ∷ answers) number answer a b c (mid, first, rest) one = (mid, first, ends_more numbers answers number answer mid b c rest one)
  ends_more [] (x ∷ answers) number answer a b c e one = absurd e
  ends_more (n ∷ numbers) [] number answer a b c e one = absurd e

  -- each has its answer
  pub ends_many : (numbers : List ℕ) (answers : List (Result (Ended Q) NoSub)) (a b : PlaceState) → EndsInOrder shown numbers answers a b → length answers ≡ length numbers
  ends_many [] [] a b e = refl
  ends_many (n ∷ numbers) (x ∷ answers) a b (mid, first, rest) = ap (λ k. suc k) (ends_many numbers answers mid b rest)
  ends_many [] (x ∷ answers) a b e = absurd e
  ends_many (n ∷ numbers) [] a b e = absurd e

-- one more is waited for no longer
pub without_more : (numbers : List ℕ) (number : ℕ) (state : RoomState) → waiting_without_each (numbers ++ number ∷ []) state ≡ waiting_without number (waiting_without_each numbers state)
without_more [] number state = refl
without_more (n ∷ numbers) number state = without_more numbers number (waiting_without n state)

-- the first so many numbers, and the next one
take_suc : (xs : List ℕ) (i d : ℕ) → i < length xs → take (suc i) xs ≡ take i xs ++ get_or xs i d ∷ []
take_suc [] i d l = absurd (omega (arith, l))
take_suc (x ∷ xs) zero d l = refl
take_suc (x ∷ xs) (suc i) d l =
    let less : i < length xs = omega (arith, l) in ap (λ (ys : List ℕ). x ∷ ys) (take_suc xs i d less)

pub take_next : (xs : List ℕ) (i d : ℕ) → i < length xs → take (i + 1) xs ≡ take i xs ++ get_or xs i d ∷ []
take_next xs i d l =
    let e : i + 1 ≡ suc i = omega arith in ap (λ k. take k xs) e ∙ take_suc xs i d l
