use Rattle.std.proofs.Common.{length, ◌-◌, ◌+◌, ◌≡◌, ◌≤◌, take, drop}
use Rattle.stomp_escape.specs.Inner.Unescaping.{unescaped_from, unescaped_after}
use Rattle.stomp_escape.proofs.unescaping.read_piece.Given as goal

abbrev pub invariant-loop-at : goal.invariant-loop-at
invariant-loop-at l = record {
  from : l.start ≤ l.at;
  within : l.at ≤ length l.text;
  room : l.start + l.n ≤ l.at;
  few : l.start + l.n ≤ l.end;
  sized : length l.waiting ≡ 64;
  reads : unescaped_after (take l.n l.waiting) l.at (drop l.at l.text) ≡ unescaped_from l.start (drop l.start l.text);
}

abbrev pub decreases-loop-at : goal.decreases-loop-at
decreases-loop-at l = length l.text - l.at
