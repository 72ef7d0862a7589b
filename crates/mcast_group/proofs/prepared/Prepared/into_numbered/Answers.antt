use Rattle.std.proofs.Common.{ap, sym, subst, ◌∙◌}
use Rattle.mcast_txn.specs.Transaction.{TopicPart}
use Rattle.mcast_group.specs.Inner.Copies.{AreOf}
use Rattle.mcast_group.specs.Machine.{Pending}
use Rattle.mcast_group.proofs.prepared.Prepared.into_numbered.Goals as goal

pub enough-requires-clause-of : goal.enough-requires-clause-of
enough-requires-clause-of c = subst (λ (z : Pending). AreOf z.part c.self.inside.copies) (sym c.part.ensures) c.self.invariant.copied

pub returns-clause-copies : goal.returns-clause-copies
returns-clause-copies c = subst (λ (z : TopicPart). AreOf z c.in_ok-copies.copies) (ap (λ (z : Pending). z.part) c.part.ensures ∙ c.self.view_is) c.in_ok-copies.ensures.copies
