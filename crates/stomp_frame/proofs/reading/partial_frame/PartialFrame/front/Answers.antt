use Rattle.std.proofs.Common.{drop, arith}
use Rattle.stomp_frame.proofs.PartialFrames.{front_stays, front_stays_body, front_goes, front_order, front_same}
use Rattle.stomp_frame.proofs.reading.partial_frame.PartialFrame.front.Goals as goal

pub returns-in-HeaderLine-clause-skipped : goal.returns-in-HeaderLine-clause-skipped
returns-in-HeaderLine-clause-skipped c =
    let partial = c.args.self.now in
    front_stays (drop c.args.front c.args.text.now) partial.awaited partial.headers partial.parsed _ c.in-HeaderLine.is c.requires.partial.begun

pub returns-in-Body-clause-skipped : goal.returns-in-Body-clause-skipped
returns-in-Body-clause-skipped c =
    let partial = c.args.self.now in
    front_stays_body (drop c.args.front c.args.text.now) partial.awaited partial.headers partial.parsed _ _ c.in-Body.is c.requires.partial.begun

pub returns-then-start-front-clause-same : goal.returns-then-start-front-clause-same
returns-then-start-front-clause-same c = λ more. front_goes (drop c.args.front c.args.text.now) (drop c.eols_from-start.result c.args.text.now) more c.eols_from-start.ensures.skipped

pub returns-else-start-front-clause-order : goal.returns-else-start-front-clause-order
returns-else-start-front-clause-order c = front_order c.args.text.now c.args.front c.eols_from-start.result c.requires.within c.eols_from-start.ensures.within c.eols_from-start.ensures.skipped

pub returns-else-start-front-clause-partial : goal.returns-else-start-front-clause-partial
returns-else-start-front-clause-partial c =
    let partial = c.args.self.now in
    front_same c.args.limits.now c.args.text.now partial.awaited partial.headers partial.parsed partial.searched c.args.front c.eols_from-start.result c.requires.within c.eols_from-start.ensures.within (omega arith) c.eols_from-start.ensures.skipped c.requires.partial

pub returns-else-start-front-clause-same : goal.returns-else-start-front-clause-same
returns-else-start-front-clause-same c = λ more. front_goes (drop c.args.front c.args.text.now) (drop c.eols_from-start.result c.args.text.now) more c.eols_from-start.ensures.skipped
