use Rattle.std.proofs.Common.{◌≡◌, ◌≤◌, ◌-◌, length, drop}
use Rattle.stomp_frame.specs.Inner.Parser.{after_eols}
use Rattle.stomp_frame.proofs.reading.lines.eols_from.Given as goal

abbrev pub invariant-loop-at : goal.invariant-loop-at
invariant-loop-at l = record {
  within : l.at ≤ length l.text;
  skipped : after_eols (drop l.at l.text) ≡ after_eols (drop l.fn.start l.text);
}

abbrev pub decreases-loop-at : goal.decreases-loop-at
decreases-loop-at l = length l.text - l.at
