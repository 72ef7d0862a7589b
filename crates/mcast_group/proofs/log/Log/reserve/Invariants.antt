use Rattle.std.proofs.Common.{◌≡◌, ◌-◌, ◌≤◌, length}
use Rattle.mcast_group.proofs.log.Log.reserve.Given as goal

-- the rows are as they were, and there is at least as much room
abbrev pub invariant-loop-self : goal.invariant-loop-self
invariant-loop-self l = (l.self.items ≡ l.initial.self.items) × (l.initial.self.capacity ≤ l.self.capacity)

-- the room that is missing
abbrev pub decreases-loop-self : goal.decreases-loop-self
decreases-loop-self l = l.more - (l.self.capacity - length l.self.items)
