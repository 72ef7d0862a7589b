use Rattle.delivery.proofs.Theorem.QueuesGrow.{queues_grow}
use Rattle.delivery.proofs.law.queues.Goals as goal

pub returns : goal.returns
returns c = queues_grow
