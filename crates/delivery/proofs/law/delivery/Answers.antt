use Rattle.delivery.proofs.Core.DeliveryOfRun.{delivery, delivery_answers}
use Rattle.delivery.proofs.law.delivery.Goals as goal

pub returns : goal.returns
returns c = record { told = delivery; answered = delivery_answers }
