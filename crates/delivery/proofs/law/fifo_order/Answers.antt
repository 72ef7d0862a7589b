use Rattle.delivery.proofs.Theorem.AcceptedIsDue.{agreed_in_sender_order}
use Rattle.delivery.proofs.law.fifo_order.Goals as goal

pub returns : goal.returns
returns c = agreed_in_sender_order
