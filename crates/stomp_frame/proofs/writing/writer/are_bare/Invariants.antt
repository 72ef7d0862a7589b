use Rattle.std.proofs.Common.{take, false}
use Rattle.std.specs.List.{AllByRecursion}
use Rattle.stomp_frame.specs.Writing.{IsBare}
use Rattle.stomp_frame.proofs.writing.writer.are_bare.Given as goal

abbrev pub invariant-loop-i : goal.invariant-loop-i
invariant-loop-i l = AllByRecursion (λ h. IsBare false h) (take l.i l.headers)
