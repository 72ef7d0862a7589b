-- Items that rise in stamp: one above the last of them is above all, and may follow them.
use Rattle.std.proofs.Common.{◌≡◌, ℕ, suc, ◌-◌, ◌<◌, true, List, [], ◌∷◌, ◌++◌, length, Option, Some, None, IfSome, inl, inr, refl, sym, subst, arith}
use Rattle.std.proofs.lemmas.List.{length_push}
use Rattle.std.specs.List.{last_or, slice_get}
use Rattle.mcast_txn.specs.declared.stamp.Stamp.{Stamp}
use Rattle.mcast_txn.specs.Lists.{In, Rises}
use Rattle.mcast_txn.specs.Span.{Item, item_stamp}
use Rattle.mcast_txn.specs.Stamp.{stamp_lt}
use Rattle.mcast_txn.proofs.Orders.{lt_by_number, lt_trans}
use Rattle.mcast_txn.proofs.Sorting.{Rises-push}
use Rattle.sub_queue.specs.Shown.{IsAboveLast}
use Rattle.sub_queue.specs.VecQueue.{KeepsCapacity}

-- where items rise, a stamp above that of the last is above that of each
pub above_all : (items : List Item) (stamp : Stamp) → Rises item_stamp items → IsAboveLast items stamp → (i : Item) → In i items → stamp_lt i.stamp stamp ≡ true
above_all [] stamp up last i k = absurd k
above_all (x ∷ []) stamp up last i (inl e) = subst (λ (z : Item). stamp_lt z.stamp stamp ≡ true) e last
above_all (x ∷ []) stamp up last i (inr k) = absurd k
above_all (x ∷ y ∷ ys) stamp up last i (inl e) =
    subst (λ (z : Item). stamp_lt z.stamp stamp ≡ true) e (lt_trans x.stamp y.stamp stamp (up.0 y (inl refl)) (above_all (y ∷ ys) stamp up.1 last y (inl refl)))
above_all (x ∷ y ∷ ys) stamp up last i (inr k) = above_all (y ∷ ys) stamp up.1 last i k

-- an item above the last keeps the rise
pub rises_after_push : (items : List Item) (item : Item) → Rises item_stamp items → IsAboveLast items item.stamp → Rises item_stamp (items ++ item ∷ [])
rises_after_push items item up last = Rises-push item_stamp items item up (above_all items item.stamp up last)

-- a queue with room keeps its capacity as it accepts an item above the last
pub keeps_after_push : (items after : List Item) (item : Item) (capacity taken : ℕ) → after ≡ items ++ item ∷ [] → length items - taken < capacity → IsAboveLast items item.stamp → KeepsCapacity items capacity taken → KeepsCapacity after capacity taken
keeps_after_push items after item capacity taken e room last keeps = subst (λ xs. KeepsCapacity xs capacity taken) (sym e) (record {
  prefix = let n = length_push items item in let p = keeps.prefix in omega arith;
  bounded = let n = length_push items item in let p = keeps.prefix in let b = keeps.bounded in omega arith;
  rises = rises_after_push items item keeps.rises last;
})

-- the last item is that of the last index
pub last_by_index : (items : List Item) → last_or None items ≡ slice_get items (length items - 1)
last_by_index [] = refl
last_by_index (x ∷ xs) =
    let e : length xs ≡ suc (length xs) - 1 = omega arith in
    subst (λ i. last_or (Some x) xs ≡ slice_get (x ∷ xs) i) e (go x xs)
  where
    go : (x : Item) (xs : List Item) → last_or (Some x) xs ≡ slice_get (x ∷ xs) (length xs)
    go x [] = refl
    go x (y ∷ ys) = go y ys

-- a stamp whose number is above that of the last item is above it
pub above_by_number : (items : List Item) (stamp : Stamp) → IfSome (last_or None items) (λ item. item.stamp.n < stamp.n) → IsAboveLast items stamp
above_by_number items stamp = go (last_or None items)
  where
    go : (last : Option Item) → IfSome last (λ item. item.stamp.n < stamp.n) → IfSome last (λ item. stamp_lt item.stamp stamp ≡ true)
    go None below = below
    go (Some item) below = lt_by_number item.stamp stamp below

-- the last item after a push is the one that was pushed
pub last_after_push : (items : List Item) (item : Item) → last_or None (items ++ item ∷ []) ≡ Some item
last_after_push items item = go None items
  where
    go : (last : Option Item) (items : List Item) → last_or last (items ++ item ∷ []) ≡ Some item
    go last [] = refl
    go last (x ∷ xs) = go (Some x) xs
