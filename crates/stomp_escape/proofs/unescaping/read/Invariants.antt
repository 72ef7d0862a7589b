use Rattle.std.proofs.Common.{length, ◌-◌, ◌≡◌, ◌≤◌, drop}
use Rattle.stomp_escape.specs.Inner.Unescaping.{unescaped, unescaped_after}
use Rattle.stomp_escape.proofs.unescaping.read.Given as goal

abbrev pub invariant-loop-at : goal.invariant-loop-at
invariant-loop-at l = record {
  within : l.at ≤ length l.text;
  sized : length l.waiting ≡ 64;
  reads : unescaped_after l.out l.at (drop l.at l.text) ≡ unescaped l.text;
}

abbrev pub decreases-loop-at : goal.decreases-loop-at
decreases-loop-at l = length l.text - l.at
