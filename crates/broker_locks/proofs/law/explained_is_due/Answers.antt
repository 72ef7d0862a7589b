use Rattle.broker_locks.proofs.TraceRows.{explained_is_due}
use Rattle.broker_locks.proofs.law.explained_is_due.Goals as goal

pub returns : goal.returns
returns c = explained_is_due
