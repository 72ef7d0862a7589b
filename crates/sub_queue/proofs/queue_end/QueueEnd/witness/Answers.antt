use Rattle.sub_queue.proofs.InOrderStays.{witnesses}
use Rattle.sub_queue.proofs.queue_end.QueueEnd.witness.Goals as goal

pub another-requires-clause-rule : goal.another-requires-clause-rule
another-requires-clause-rule c = witnesses _ _
