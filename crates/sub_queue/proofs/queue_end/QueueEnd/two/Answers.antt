use Rattle.std.proofs.Common.{rules}
use Rattle.sub_queue.proofs.InOrderStays.{begins, splits}
use Rattle.sub_queue.proofs.queue_end.QueueEnd.two.Goals as goal

pub ruled-requires-clause-rule : goal.ruled-requires-clause-rule
ruled-requires-clause-rule c = begins

pub another-theirs-requires-clause-rule : goal.another-theirs-requires-clause-rule
another-theirs-requires-clause-rule c = splits _ _ (search rules) (search rules)
