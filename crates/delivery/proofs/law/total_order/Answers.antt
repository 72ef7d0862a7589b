use Rattle.delivery.proofs.Theorem.AcceptedIsDue.{shared_in_one_order}
use Rattle.delivery.proofs.law.total_order.Goals as goal

pub returns : goal.returns
returns c = shared_in_one_order
