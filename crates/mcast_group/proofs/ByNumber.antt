-- Subscriptions by rising number: what halving finds among them, and what an edit of them keeps.
use Rattle.std.proofs.Common.{◌≡◌, ◌≢◌, ℕ, zero, suc, ◌<◌, ◌==◌, ltb, Bool, true, false, inl, inr, List, [], ◌∷◌, map, length, get_or, set, Some, None, Result, Ok, Err, IfOk, IfErr, OnErr, refl, sym, ap, subst, ◌∙◌, arith}
use Rattle.std.specs.List.{AllByRecursion, insert, position, position_or_len, remove}
use Rattle.std.proofs.lemmas.Bool.Decides.{nat_tests}
use Rattle.std.proofs.lemmas.Bool.{ne_eqb}
use Rattle.mcast_txn.specs.Lists.{In, RisesBy}
use Rattle.mcast_txn.specs.declared.stamp.Stamp.{Stamp}
use Rattle.mcast_txn.specs.Span.{Item}
use Rattle.mcast_txn.proofs.Inserting.{puts_in_gap, rises_inserted}
use Rattle.mcast_txn.proofs.Rising.{Finds, IsAt, IsGap, below_later, none_in_gap, rises_alike, rises-map, rises-unmap}
use Rattle.sub_queue.specs.Shown.{Shown}
use Rattle.mcast_group.specs.declared.subscription.Subscription.{Subscription}
use Rattle.mcast_group.specs.Machine.{Entry}
use Rattle.mcast_group.specs.Group.{entries_after}
use Rattle.mcast_group.specs.Inner.GroupInvariant.{Gave, entry_of}
use Rattle.mcast_group.specs.Inner.Subscriptions.{IsIndexFor}
use Rattle.mcast_group.proofs.Parts.{map_length}
use Rattle.mcast_group.proofs.Queues.{delivered_number}
use Rattle.mcast_group.proofs.Taking.{map_set}

-- the number of a subscription
abbrev pub number_of : {Q : Type 0} → Subscription Q → ℕ
number_of s = s.number

-- ---- what halving finds

first_index : {X : Type 0} (p : X → Bool) (xs : List X) (i : ℕ) (d : X) → i < length xs → p (get_or xs i d) ≡ true → ((k : ℕ) → k < i → p (get_or xs k d) ≡ false) → position_or_len p xs ≡ i
first_index p [] i d l e f = absurd (omega arith)
first_index p (x ∷ xs) zero d l e f = rw e refl
first_index p (x ∷ xs) (suc i) d l e f =
    let a : p x ≡ false = f zero (omega arith) in
    let ih = first_index p xs i d (omega arith) e (λ k m. f (suc k) (omega arith)) in
    rw (a, ih) (omega arith)

found_at_index : {X : Type 0} (p : X → Bool) (xs : List X) (i : ℕ) → i < length xs → position_or_len p xs ≡ i → position p xs ≡ Some i
found_at_index p xs i l e =
    let t : ltb i (length xs) ≡ true = grind (arith, nat_tests) in
    rw (e, t) refl

same_test : (a n : ℕ) → a ≡ n → (a == n) ≡ true
same_test a n e = grind (arith, nat_tests)

-- the subscription at an index has the number: it is the first that has it
pub number_found : {Q : Type 0} (subs : List (Subscription Q)) (n i : ℕ) → RisesBy number_of subs → IsAt number_of subs n i → position (λ (z : Subscription Q). z.number == n) subs ≡ Some i
number_found {Q = Q} [] n i rises at = absurd (omega (arith, at.in_range))
number_found {Q = Q} (s ∷ subs) n i rises at =
    let e : (get_or (s ∷ subs) i s).number ≡ n = at.has_key s in
    found_at_index (λ (z : Subscription Q). z.number == n) (s ∷ subs) i at.in_range
    (first_index (λ (z : Subscription Q). z.number == n) (s ∷ subs) i s at.in_range (same_test (get_or (s ∷ subs) i s).number n e)
    (λ k l. ne_eqb (get_or (s ∷ subs) k s).number n (λ d. (let m : (get_or (s ∷ subs) k s).number < (get_or (s ∷ subs) i s).number = below_later number_of (s ∷ subs) k i s rises l at.in_range in absurd (omega arith)))))

end_index : {Q : Type 0} (subs : List (Subscription Q)) (n : ℕ) → AllByRecursion (λ (z : Subscription Q). z.number ≢ n) subs → position_or_len (λ (z : Subscription Q). z.number == n) subs ≡ length subs
end_index [] n free = refl
end_index (s ∷ subs) n free =
    let a : (s.number == n) ≡ false = ne_eqb s.number n free.0 in
    let ih = end_index subs n free.1 in
    rw (a, ih) (omega arith)

-- where no subscription has the number, none is found
pub number_not_found : {Q : Type 0} (subs : List (Subscription Q)) (n : ℕ) → AllByRecursion (λ (z : Subscription Q). z.number ≢ n) subs → position (λ (z : Subscription Q). z.number == n) subs ≡ None
number_not_found {Q = Q} subs n free =
    let e = end_index subs n free in
    let t : ltb (length subs) (length subs) ≡ false = grind (arith, nat_tests) in
    rw (e, t) refl

-- the gap of a number is the index for it
pub index_found : {Q : Type 0} (subs : List (Subscription Q)) (n i : ℕ) → IsGap number_of subs n i → IsIndexFor n subs i
index_found {Q = Q} subs n i gap = record {
  within = gap.in_range;
  free = none_in_gap number_of subs n i gap;
  puts = λ s e. puts_in_gap number_of subs i s (subst (λ (k : ℕ). IsGap number_of subs k i) (sym e) gap);
}

-- ---- what an edit keeps

each_in : {X : Type 0} (P : X → Type 0) (xs : List X) → AllByRecursion P xs → (x : X) → In x xs → P x
each_in P [] all x i = absurd i
each_in P (y ∷ ys) all x (inl e) = subst P e all.0
each_in P (y ∷ ys) all x (inr i) = each_in P ys all.1 x i

all_removed : {Q : Type 0} (P : Subscription Q → Type 0) (subs : List (Subscription Q)) (i : ℕ) → AllByRecursion P subs → AllByRecursion P (remove subs i)
all_removed P [] zero all = tt
all_removed P [] (suc i) all = tt
all_removed P (s ∷ subs) zero all = all.1
all_removed P (s ∷ subs) (suc i) all = (all.0, all_removed P subs i all.1)

-- they rise after one was taken out
pub rises_removed : {Q : Type 0} (subs : List (Subscription Q)) (i : ℕ) → RisesBy number_of subs → RisesBy number_of (remove subs i)
rises_removed [] zero rises = tt
rises_removed [] (suc i) rises = tt
rises_removed (s ∷ subs) zero rises = rises.1
rises_removed {Q = Q} (s ∷ subs) (suc i) rises =
    (all_removed (λ (y : Subscription Q). s.number < y.number) subs i rises.0, rises_removed subs i rises.1)

-- they rise where their entries are those of some that do
pub rises_same : {Q : Type 0} (shown : Q → Shown) (old new : List (Subscription Q)) → map (entry_of shown) new ≡ map (entry_of shown) old → RisesBy number_of old → RisesBy number_of new
rises_same shown old new e rises =
    rises_alike (λ (z : Entry). z.number) (entry_of shown) (entry_of shown) old new (sym e) rises

numbers_after : (f : Stamp) (item : Item) (bs : List Bool) (es : List Entry) → length bs ≡ length es → map (λ (z : Entry). z.number) (entries_after f item bs es) ≡ map (λ (z : Entry). z.number) es
numbers_after f item [] [] l = refl
numbers_after f item [] (e ∷ es) l = absurd (omega arith)
numbers_after f item (b ∷ bs) [] l = absurd (omega arith)
numbers_after f item (b ∷ bs) (e ∷ es) l =
    let a = delivered_number (λ _. b) f item e in
    let ih = numbers_after f item bs es (omega arith) in
    rw (a, ih) refl

-- they rise after an item was given to each
pub rises_given : {Q : Type 0} (shown : Q → Shown) (may : Shown → Bool → Type 0) (f : Stamp) (item : Item) (old new : List (Subscription Q)) → Gave shown may f item old new → RisesBy number_of old → RisesBy number_of new
rises_given shown may f item old new gave rises =
    let before : RisesBy (λ (z : Entry). z.number) (map (entry_of shown) old) = rises-map (λ (z : Entry). z.number) (entry_of shown) old rises in
    let numbers = numbers_after f item gave.answers (map (entry_of shown) old) (gave.many ∙ sym (map_length (entry_of shown) old)) in
    let after : RisesBy (λ (z : Entry). z.number) (map (entry_of shown) new) = rises_alike (λ (n : ℕ). n) (λ (z : Entry). z.number) (λ (z : Entry). z.number) (map (entry_of shown) old) (map (entry_of shown) new) (sym (ap (map (λ (z : Entry). z.number)) gave.entries ∙ numbers)) before in
    rises-unmap (λ (z : Entry). z.number) (entry_of shown) new after

-- they rise after one was replaced by another of its number
pub rises_set : {Q : Type 0} (subs : List (Subscription Q)) (i : ℕ) (new d : Subscription Q) → i < length subs → new.number ≡ (get_or subs i d).number → RisesBy number_of subs → RisesBy number_of (set subs i new)
rises_set {Q = Q} subs i new d l e rises =
    rises_alike (λ (n : ℕ). n) number_of number_of subs (set subs i new) (sym (map_set number_of subs i new d e l)) rises

-- ---- what the list's calls answer

-- what a search of subscriptions that rise answers
pub record HasSearched {Q : Type 0} (subs : List (Subscription Q)) (n : ℕ) (r : Result ℕ ℕ) : Type 0 where
  pub found : IfOk r (λ i. position (λ (z : Subscription Q). z.number == n) subs ≡ Some i)
  pub absent : OnErr r (position (λ (z : Subscription Q). z.number == n) subs ≡ None)
  pub index : IfErr r (IsIndexFor n subs)

-- a binary search by number finds the first of the number, or the index for it
pub has_searched : {Q : Type 0} (subs : List (Subscription Q)) (n : ℕ) (r : Result ℕ ℕ) → RisesBy number_of subs → Finds number_of subs n r → HasSearched subs n r
has_searched subs n (Ok i) rises finds = record { found = number_found subs n i rises finds.found; absent = tt; index = tt }
has_searched subs n (Err i) rises finds = record {
  found = tt;
  absent = number_not_found subs n (none_in_gap number_of subs n i finds.absent);
  index = index_found subs n i finds.absent;
}

-- they rise after an insertion at the index for its number
pub rises_put : {Q : Type 0} (subs : List (Subscription Q)) (i : ℕ) (s : Subscription Q) → IsIndexFor s.number subs i → RisesBy number_of subs → RisesBy number_of (insert subs i s)
rises_put {Q = Q} subs i s index rises =
    subst (RisesBy number_of) (sym (index.puts s refl))
    (rises_inserted number_of s subs rises (each_in (λ (z : Subscription Q). z.number ≢ s.number) subs index.free))
