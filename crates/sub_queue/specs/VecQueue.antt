-- A queue that knows which of its items were taken.
use Rattle.std.specs.Prelude.{ℕ, ◌+◌, ◌≤◌, nat_lt, List, length, Some, if◌then◌else◌}
use Rattle.mcast_txn.specs.Lists.{Rises}
use Rattle.mcast_txn.specs.Span.{Item, item_stamp}
use Rattle.sub_queue.specs.Shown.{Shown}

-- A queue.
-- accepted: the items that it accepted, in order.
-- capacity: at most this many are untaken.
-- taken: how many were taken, the first of those accepted.
-- spare: how many pushes need no memory.
pub record VecQueue : Type 0 where
  pub accepted : List Item
  pub capacity : ℕ
  pub taken : ℕ
  pub spare : ℕ

-- What a queue keeps.
-- prefix: those taken are among those accepted.
-- bounded: at most as many as the capacity are untaken.
-- rises: the items rise in stamp.
pub record KeepsCapacity (accepted : List Item) (capacity taken : ℕ) : Type 0 where
  pub prefix : taken ≤ length accepted
  pub bounded : length accepted ≤ taken + capacity
  pub rises : Rises item_stamp accepted

-- what a queue shows
abbrev pub shown_of : VecQueue → Shown
shown_of q = record { accepted = q.accepted; gauge = record { capacity = q.capacity; taken = Some q.taken } }

-- one more item is taken, where one was untaken
abbrev pub after_take : VecQueue → VecQueue
after_take q = record q { taken = if nat_lt q.taken (length q.accepted) then q.taken + 1 else q.taken }
