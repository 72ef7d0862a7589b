use Rattle.broker_locks.proofs.Roomy.{stays_roomy}
use Rattle.broker_locks.proofs.law.stays_roomy.Goals as goal

pub returns : goal.returns
returns c = stays_roomy _
