use Rattle.std.proofs.Common.{◌≡◌, ◌++◌, take}
use Rattle.broker_locks.specs.Room.{HasHeard}
use Rattle.broker_locks.proofs.Waiting.{lack}
use Rattle.broker_locks.proofs.room.add_lacking.Given as goal

-- those that were asked so far, and lack room, were added
abbrev pub invariant-loop-number : goal.invariant-loop-number
invariant-loop-number g l = record {
  heard : HasHeard l.fn.place l.place;
  added : l.list.items ≡ l.fn.list.items ++ lack l.due l.place.cells.group (take l.number-index l.waited);
}
