use Rattle.std.proofs.lemmas.List.Filters.{FiltersInPlace}
use Rattle.broker_locks.specs.Room.{HasHeard, fits}
use Rattle.broker_locks.proofs.room.keep_fitting.Given as goal

-- of those that were asked so far, those that have room stand in front
abbrev pub invariant-loop-index : goal.invariant-loop-index
invariant-loop-index g l = record {
  heard : HasHeard l.fn.place l.place;
  kept : FiltersInPlace (fits l.due l.place.cells.group) l.fn.waited.items l.waited.items l.kept l.index;
}
