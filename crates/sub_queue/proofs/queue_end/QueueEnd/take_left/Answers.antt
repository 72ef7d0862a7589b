use Rattle.std.proofs.Common.{ap, ◌∙◌}
use Rattle.sub_queue.specs.Inner.EndState.{EndState}
use Rattle.sub_queue.proofs.InOrderStays.{left_gives, left_is_held}
use Rattle.sub_queue.proofs.queue_end.QueueEnd.take_left.Goals as goal

pub pop_as-requires-clause-rule : goal.pop_as-requires-clause-rule
pop_as-requires-clause-rule g c = (
  left_gives _ _ (ap (λ (e : EndState). e.knows.pushes) c.self.view_is ∙ c.requires.rights.0) (ap (λ (e : EndState). e.knows.takes) c.self.view_is ∙ c.requires.rights.1),
  left_is_held _ _ (ap (λ (e : EndState). e.knows.pushes) c.self.view_is ∙ c.requires.rights.0) (ap (λ (e : EndState). e.knows.takes) c.self.view_is ∙ c.requires.rights.1),
)
