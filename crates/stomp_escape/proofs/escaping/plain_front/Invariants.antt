use Rattle.std.proofs.Common.{◌≡◌, take}
use Rattle.stomp_escape.specs.Escape.{escaped}
use Rattle.stomp_escape.proofs.escaping.plain_front.Given as goal

abbrev pub invariant-loop-at : goal.invariant-loop-at
invariant-loop-at l = escaped (take l.at l.text) ≡ take l.at l.text
