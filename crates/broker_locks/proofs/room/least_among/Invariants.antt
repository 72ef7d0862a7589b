use Rattle.std.proofs.Common.{◌≡◌, ◌≤◌, ◌+◌, ℕ, true, take}
use Rattle.mcast_txn.specs.Lists.{In}
use Rattle.broker_locks.specs.Room.{HasHeard, fits}
use Rattle.broker_locks.proofs.room.least_among.Given as goal

-- those that were asked so far have the least spare
abbrev pub invariant-loop-number : goal.invariant-loop-number
invariant-loop-number g l = record {
  heard : HasHeard l.fn.place l.place;
  at_most : l.least ≤ l.most;
  asked : (n : ℕ) → In n (take l.number-index l.waited) → fits (l.due + l.least) l.place.cells.group n ≡ true;
}
