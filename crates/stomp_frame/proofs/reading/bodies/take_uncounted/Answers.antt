use Rattle.std.proofs.Common.{refl, arith}
use Rattle.stomp_frame.proofs.Unfound.{body_found, body_far, body_endless, body_open}
use Rattle.stomp_frame.proofs.reading.bodies.take_uncounted.Goals as goal

pub returns-then-at-limits-clause-read : goal.returns-then-at-limits-clause-read
returns-then-at-limits-clause-read c = body_far c.args.limits.now c.args.text.now c.in-Some.at (omega (arith, c.in-Some.ensures.found.0)) (omega arith) c.in-Some.ensures.found.1

pub returns-else-at-limits-clause-read : goal.returns-else-at-limits-clause-read
returns-else-at-limits-clause-read c = body_found c.args.limits.now c.args.text.now c.in-Some.at (omega (arith, c.in-Some.ensures.found.0)) (omega arith) c.in-Some.ensures.found.1

pub returns-then-text-limits-clause-read : goal.returns-then-text-limits-clause-read
returns-then-text-limits-clause-read c = body_endless c.args.limits.now c.args.text.now c.max-end.result (omega arith) (omega arith) (c.in-None.ensures.none refl)

pub returns-else-text-limits-clause-read : goal.returns-else-text-limits-clause-read
returns-else-text-limits-clause-read c = body_open c.args.limits.now c.args.text.now c.max-end.result (omega arith) (omega arith) (c.in-None.ensures.none refl)
