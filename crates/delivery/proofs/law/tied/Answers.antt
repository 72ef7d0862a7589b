use Rattle.delivery.proofs.Theorem.TopicsAreTied.{topics_are_tied, senders_are_floored}
use Rattle.delivery.proofs.law.tied.Goals as goal

pub returns : goal.returns
returns c = record { topics = topics_are_tied; senders = senders_are_floored }
