use Rattle.std.proofs.Common.{◌≡◌, ◌++◌, vec_len}
use Rattle.delivery.proofs.Words.All.{part_of}
use Rattle.delivery.proofs.oracle.due.part.Given as goal

-- the part of the SENDs that are left, and then what was gathered
abbrev pub invariant-loop-send : goal.invariant-loop-send
invariant-loop-send l = part_of l.topic l.sends.items ++ l.part.items ≡ part_of l.topic l.fn.sends.items

abbrev pub decreases-loop-send : goal.decreases-loop-send
decreases-loop-send l = vec_len l.sends
