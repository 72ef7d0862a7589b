use Rattle.std.proofs.Common.{ap, ◌∙◌}
use Rattle.sub_queue.specs.Inner.EndState.{EndState}
use Rattle.sub_queue.proofs.InOrderStays.{take_gives, take_finds_empty}
use Rattle.sub_queue.proofs.queue_end.QueueEnd.take.Goals as goal

pub pop_as-requires-clause-rule : goal.pop_as-requires-clause-rule
pop_as-requires-clause-rule g c = (take_gives _ _ (ap (λ (e : EndState). e.knows.takes) c.self.view_is ∙ c.requires.right), take_finds_empty _ _ (ap (λ (e : EndState). e.knows.takes) c.self.view_is ∙ c.requires.right))
