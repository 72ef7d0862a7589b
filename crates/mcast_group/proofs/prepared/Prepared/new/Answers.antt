use Rattle.std.proofs.Common.{ap, subst, ◌∙◌, arith}
use Rattle.mcast_group.specs.Inner.Copies.{AreOf}
use Rattle.mcast_group.specs.Machine.{Pending}
use Rattle.mcast_group.proofs.prepared.Prepared.new.Goals as goal

pub invariant_of-result : goal.invariant_of-result
invariant_of-result c = record {
  waits = ap (λ (z : Pending). z.learnt) (c.in_ok-boxed.ensures ∙ c.in_ok-new.ensures);
  copied = subst (λ (z : Pending). AreOf z.part c.in_ok-copies.copies) c.part.ensures c.in_ok-copies.ensures.of;
  enough = (let e = c.in_ok-copies.ensures.many in omega arith);
}
