-- Subscriptions by rising number. It only serves proofs.
use Rattle.std.specs.Prelude.{◌≡◌, ◌≢◌, ℕ, ◌≤◌, not, List, filter, length}
use Rattle.std.specs.List.{AllByRecursion, insert}
use Rattle.std.specs.Option.{is_some}
use Rattle.mcast_txn.specs.Lists.{RisesBy, insert_by_number}
use Rattle.mcast_group.specs.declared.subscription.Subscription.{Subscription}

-- a subscription among others that rise by number
abbrev pub insert_sub : {Q : Type 0} → Subscription Q → List (Subscription Q) → List (Subscription Q)
insert_sub = insert_by_number (λ s. s.number)

-- The index at which a subscription of this number comes among others.
-- within: it is at most their length.
-- free: none has the number.
-- puts: to put one that has it there is insert_sub.
pub record IsIndexFor {Q : Type 0} (number : ℕ) (subs : List (Subscription Q)) (i : ℕ) : Type 0 where
  pub within : i ≤ length subs
  pub free : AllByRecursion (λ z. z.number ≢ number) subs
  pub puts : (s : Subscription Q) → s.number ≡ number → insert subs i s ≡ insert_sub s subs

-- how many of these have no end
abbrev pub endless_count : {Q : Type 0} → List (Subscription Q) → ℕ
endless_count subs = length (filter (λ s. not (is_some s.to)) subs)

-- What the subscriptions of a topic keep.
-- rises: their numbers rise.
-- counted: so many have no end.
pub record AreCounted {Q : Type 0} (subs : List (Subscription Q)) (many : ℕ) : Type 0 where
  pub rises : RisesBy (λ z. z.number) subs
  pub counted : many ≡ endless_count subs
