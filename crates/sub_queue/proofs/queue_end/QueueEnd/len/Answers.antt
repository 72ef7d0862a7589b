use Rattle.std.proofs.Common.{ap, ◌∙◌}
use Rattle.sub_queue.specs.Inner.EndState.{EndState}
use Rattle.sub_queue.proofs.InOrderStays.{left_is_held}
use Rattle.sub_queue.proofs.queue_end.QueueEnd.len.Goals as goal

pub len_as-requires-clause-rule : goal.len_as-requires-clause-rule
len_as-requires-clause-rule g c = left_is_held _ _ (ap (λ (e : EndState). e.knows.pushes) c.self.view_is ∙ c.requires.rights.0) (ap (λ (e : EndState). e.knows.takes) c.self.view_is ∙ c.requires.rights.1)
