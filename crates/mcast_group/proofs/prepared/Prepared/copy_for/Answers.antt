use Rattle.std.proofs.Common.{subst, arith}
use Rattle.mcast_group.specs.Inner.Copies.{AreOf}
use Rattle.mcast_group.specs.Machine.{Pending}
use Rattle.mcast_group.proofs.prepared.Prepared.copy_for.Goals as goal

pub invariant_of-self : goal.invariant_of-self
invariant_of-self c = record {
  waits = c.self.invariant.waits;
  copied = subst (λ (z : Pending). AreOf z.part c.in_ok-self-inside.field-0) c.part.ensures c.in_ok-self-inside.ensures.of;
  enough = (let e = c.in_ok-self-inside.ensures.many in omega arith);
}
