use Rattle.delivery.proofs.Theorem.StepLaws.{refusals_change_nothing}
use Rattle.delivery.proofs.law.refusals_change_nothing.Goals as goal

pub returns : goal.returns
returns c = refusals_change_nothing
