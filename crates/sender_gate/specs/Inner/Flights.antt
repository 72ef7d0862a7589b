-- What a flight stores. Only proofs go by it; no public contract speaks of it.
use Rattle.std.specs.Prelude.{◌≡◌, ◌≢◌, ◌<◌, ℕ, [], map}
use Rattle.std.specs.List.{AllByRecursion}
use Rattle.mcast_txn.specs.declared.stamp.Stamp.{Stamp}
use Rattle.mcast_txn.specs.Ballot.{ticket_rows}
use Rattle.mcast_txn.specs.Slots.{Slots}
use Rattle.mcast_txn.specs.Transaction.{TopicPart}

-- there is a topic, ballot and parts are of the same topics, and each number that was given is above the
-- floor's
pub record IsFlying (floor : Stamp) (tickets : Slots ℕ) (parts : Slots TopicPart) : Type 0 where
  pub some : tickets ≢ []
  pub alike : map (λ slot. slot.0) parts ≡ map (λ slot. slot.0) tickets
  pub above : AllByRecursion (λ row. floor.n < row.n) (ticket_rows tickets)
