-- Serves proofs only: where a topic's slot is in a list of them; no public contract cites it.
use Rattle.std.specs.Prelude.{◌≡◌, ◌≢◌, ℕ, ◌<◌, List, length}
use Rattle.std.specs.List.{AllByRecursion, HoldsAt}
use Rattle.mcast_txn.specs.declared.id.Topic.{Topic}
use Rattle.mcast_txn.specs.declared.parts.slot.Slot.{Slot}

-- the slot at index i is the topic's
pub record IsIndexOf {A : Type 0} (t : Topic) (slots : List (Slot A)) (i : ℕ) : Type 0 where
  pub in_range : i < length slots
  pub has_topic : HoldsAt (λ slot. slot.topic ≡ t) slots i

-- the topic has no slot
pub record HasNone {A : Type 0} (t : Topic) (slots : List (Slot A)) : Type 0 where
  pub others : AllByRecursion (λ slot. slot.topic.0 ≢ t.0) slots
