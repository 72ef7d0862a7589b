use Rattle.delivery.proofs.Theorem.AcceptedIsDue.{agreed_once}
use Rattle.delivery.proofs.law.each_once.Goals as goal

pub returns : goal.returns
returns c = agreed_once
