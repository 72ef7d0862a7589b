use Rattle.broker_locks.proofs.RunTraces.{gathered_is_due}
use Rattle.broker_locks.proofs.law.gathered_is_due.Goals as goal

pub returns : goal.returns
returns c = gathered_is_due
