use Rattle.delivery.proofs.Theorem.TopicsAreSound.{topics_are_sound}
use Rattle.delivery.proofs.law.topics_are_sound.Goals as goal

pub returns : goal.returns
returns c = topics_are_sound
