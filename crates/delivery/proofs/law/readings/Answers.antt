use Rattle.delivery.proofs.Core.StepsOfRun.{one_list_of_steps}
use Rattle.delivery.proofs.law.readings.Goals as goal

pub returns : goal.returns
returns c = one_list_of_steps
