-- What is due at a topic and untaken in one queue has few octets (own).
use Rattle.std.specs.Prelude.{◌≡◌, ◌≤◌, ◌+◌, ◌*◌, ◌++◌, ℕ, List, [], ◌∷◌, length, sum, Some, Ok}
use Rattle.mcast_txn.specs.Lists.{In}
use Rattle.sub_queue.specs.Shown.{Shown, untaken}
use Rattle.mcast_group.specs.Group.{GroupState, shown_at}
use Rattle.broker_locks.specs.PartOctets.{HaveRanks, largest}
use Rattle.broker_locks.specs.Room.{RoomState, due_at, reserve_answer}

-- What keeps the octets few that are due at a topic, or untaken in the queue of one that is waited for there: of its
-- parts, in the order in which room was reserved for them, each keeps a rank that it may have.
-- few: in a queue of at most 64 they are together at most 64 MiB beside the largest.
-- leaves: one of them leaves, as it is taken, taken out or given back.
-- reserved: room is reserved for one more, beside what this one is known to have untaken and what is due.
-- first: the same beside what is due alone. So what is due keeps its ranks in an empty queue, with which one begins that
-- is waited for.
pub record KeepsOctetsFew : Type 0 where
  pub few : (capacity : ℕ) (parts : List ℕ)
      → capacity ≤ 64 → HaveRanks capacity 1 parts → sum parts ≤ 64 * 1048576 + largest parts
  pub leaves : (capacity : ℕ) (before : List ℕ) (octets : ℕ) (behind : List ℕ)
      → HaveRanks capacity 1 (before ++ octets ∷ behind) → HaveRanks capacity 1 (before ++ behind)
  pub reserved : (capacity octets start : ℕ) (state : RoomState) (g : GroupState)
      (number : ℕ) (shown : Shown) (parts : List ℕ)
      → reserve_answer capacity octets start state g ≡ Ok tt → In number state.waited
      → shown_at number g ≡ Some shown → shown.gauge.capacity ≡ capacity
      → length parts ≤ untaken shown + due_at state g
      → HaveRanks capacity 1 parts → HaveRanks capacity 1 (parts ++ octets ∷ [])
  pub first : (capacity octets start : ℕ) (state : RoomState) (g : GroupState) (parts : List ℕ)
      → reserve_answer capacity octets start state g ≡ Ok tt → length parts ≤ due_at state g
      → HaveRanks capacity 1 parts → HaveRanks capacity 1 (parts ++ octets ∷ [])
