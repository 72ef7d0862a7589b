use Rattle.delivery.proofs.Theorem.MovesAreAnswered.{events_are_answered}
use Rattle.delivery.proofs.law.answers.Goals as goal

pub returns : goal.returns
returns c = events_are_answered
