use Rattle.std.proofs.Common.{ap, ◌∙◌, subst, sym}
use Rattle.sub_queue.specs.Inner.EndState.{EndState}
use Rattle.sub_queue.specs.Shown.{IsAboveLast}
use Rattle.sub_queue.proofs.InOrderStays.{push_enters, push_finds_full}
use Rattle.sub_queue.proofs.queue_end.QueueEnd.push.Goals as goal

pub push_as-requires-clause-rule : goal.push_as-requires-clause-rule
push_as-requires-clause-rule g c = (
  push_enters _ _ _ _ (ap (λ (e : EndState). e.knows.pushes) c.self.view_is ∙ c.requires.right)
      (subst (λ (e : EndState). IsAboveLast e.knows.pushed c.args.item.stamp) (sym c.self.view_is) c.requires.above),
  push_finds_full _ _ (ap (λ (e : EndState). e.knows.pushes) c.self.view_is ∙ c.requires.right),
)
