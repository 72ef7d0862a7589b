-- Serves proofs only: where a topic's row is in a verdict; no public contract cites it.
use Rattle.std.specs.Prelude.{◌≡◌, ◌≢◌, ℕ, ◌<◌, List, length}
use Rattle.std.specs.List.{AllByRecursion, HoldsAt}
use Rattle.mcast_txn.specs.declared.id.Topic.{Topic}
use Rattle.mcast_txn.specs.declared.stamp.Stamp.{Stamp}

-- the row at index i is the topic's
pub record IsRowOf (t : Topic) (rows : List Stamp) (i : ℕ) : Type 0 where
  pub in_range : i < length rows
  pub has_topic : HoldsAt (λ row. row.topic ≡ t) rows i

-- the topic has no row
pub record HasNoRow (t : Topic) (rows : List Stamp) : Type 0 where
  pub others : AllByRecursion (λ row. row.topic.0 ≢ t.0) rows
