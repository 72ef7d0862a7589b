use Rattle.delivery.proofs.Core.StepsStepped.{steps_stepped}
use Rattle.delivery.proofs.law.steps.Goals as goal

pub returns : goal.returns
returns c = steps_stepped
