use Rattle.delivery.proofs.Theorem.TopicsAreSound.{settled_leaves_none_out}
use Rattle.delivery.proofs.law.validity.Goals as goal

pub returns : goal.returns
returns c = settled_leaves_none_out
