use Rattle.std.proofs.Common.{ap, ◌∙◌}
use Rattle.sub_queue.specs.Inner.EndState.{EndState}
use Rattle.sub_queue.specs.declared.rule.Knowledge.{Knowledge}
use Rattle.sub_queue.proofs.InOrderStays.{hears, knows_pushed}
use Rattle.sub_queue.proofs.queue_end.QueueEnd.hear.Goals as goal

pub absorb-requires-clause-rule : goal.absorb-requires-clause-rule
absorb-requires-clause-rule c = hears _ _ _ _ (ap (λ (e : EndState). e.knows.takes) c.self.view_is ∙ c.requires.rights.1)

pub learn_as-requires-clause-rule : goal.learn_as-requires-clause-rule
learn_as-requires-clause-rule c = knows_pushed _ _ (ap (λ (v : Knowledge). v.pushes) c.absorb.ensures.rule ∙ (ap (λ (e : EndState). e.knows.pushes) c.self.view_is ∙ c.requires.rights.0))
