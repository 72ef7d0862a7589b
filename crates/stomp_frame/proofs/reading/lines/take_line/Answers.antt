use Rattle.std.proofs.Common.{refl, arith}
use Rattle.stomp_frame.proofs.Unfound.{line_far, line_waits}
use Rattle.stomp_frame.proofs.reading.lines.take_line.Goals as goal

pub returns-then-text-limits-clause-read : goal.returns-then-text-limits-clause-read
returns-then-text-limits-clause-read c = line_far c.args.limits.now c.args.text.now c.max-end.result (omega arith) (omega arith) (c.in-None.ensures.none refl)

pub returns-else-text-gt1-clause-read : goal.returns-else-text-gt1-clause-read
returns-else-text-gt1-clause-read c = line_waits c.args.limits.now c.args.text.now c.max-end.result (omega arith) (omega arith) (c.in-None.ensures.none refl)
