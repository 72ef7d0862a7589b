use Rattle.std.proofs.Common.{◌≤◌, ◌-◌}
use Rattle.stomp_frame.specs.Inner.Usual.{AreUsual}
use Rattle.stomp_frame.proofs.fast.usual_run.usual_front.Given as goal

abbrev pub invariant-loop-at : goal.invariant-loop-at
invariant-loop-at l = record {
  within : l.at ≤ l.end;
  usual : AreUsual l.text 0 l.at;
}

abbrev pub decreases-loop-at : goal.decreases-loop-at
decreases-loop-at l = l.end - l.at
