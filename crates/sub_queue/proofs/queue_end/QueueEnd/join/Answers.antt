use Rattle.std.proofs.Common.{ap, ◌∙◌}
use Rattle.sub_queue.specs.Inner.EndState.{EndState}
use Rattle.sub_queue.specs.declared.rule.Knowledge.{Knowledge}
use Rattle.sub_queue.proofs.InOrderStays.{joins, left_is_held}
use Rattle.sub_queue.proofs.queue_end.QueueEnd.join.Goals as goal

pub absorb-requires-clause-rule : goal.absorb-requires-clause-rule
absorb-requires-clause-rule c = joins _ _ _ _ (ap (λ (e : EndState). e.knows.pushes) c.self.view_is ∙ c.requires.rights.0) (ap (λ (v : Knowledge). v.takes) c.into_pass.ensures.knows ∙ c.requires.rights.1)

pub learn_as-requires-clause-rule : goal.learn_as-requires-clause-rule
learn_as-requires-clause-rule c = left_is_held _ _ (ap (λ (v : Knowledge). v.pushes) c.absorb.ensures.rule) (ap (λ (v : Knowledge). v.takes) c.absorb.ensures.rule)
