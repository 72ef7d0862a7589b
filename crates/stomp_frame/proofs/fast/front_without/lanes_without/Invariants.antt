use Rattle.std.proofs.Common.{◌≤◌, ◌-◌}
use Rattle.stomp_frame.specs.Inner.PartialFrames.{IsUnfound}
use Rattle.stomp_frame.proofs.fast.front_without.lanes_without.Given as goal

abbrev pub invariant-loop-at : goal.invariant-loop-at
invariant-loop-at l = record {
  within : l.at ≤ l.end;
  one : IsUnfound l.one l.text l.at;
  other : IsUnfound l.other l.text l.at;
}

abbrev pub decreases-loop-at : goal.decreases-loop-at
decreases-loop-at l = l.end - l.at
