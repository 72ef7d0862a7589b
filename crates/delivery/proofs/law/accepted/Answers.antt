use Rattle.delivery.proofs.Theorem.AcceptedIsDue.{accepted_is_due}
use Rattle.delivery.proofs.law.accepted.Goals as goal

pub returns : goal.returns
returns c = accepted_is_due
