use Rattle.std.proofs.Common.{◌≡◌, ◌≤◌, ◌+◌, ◌*◌, ◌++◌, length, take}
use Rattle.stomp_escape.specs.Escape.{escaped}
use Rattle.stomp_escape.proofs.escaping.escape_at.Given as goal

abbrev pub invariant-loop-at : goal.invariant-loop-at
invariant-loop-at l = record {
  room : l.end ≤ l.start + 2 * l.at;
  sized : length l.line ≡ length l.fn.line;
  so_far : take l.end l.line ≡ take l.start l.fn.line ++ escaped (take l.at l.text);
}
