use Rattle.std.proofs.Common.{◌≡◌, not, true, false, get_or, Option, sym, ap, subst}
use Rattle.mcast_txn.specs.Span.{up_to}
use Rattle.mcast_txn.specs.declared.stamp.Stamp.{Stamp}
use Rattle.broker_locks.proofs.log_section.LogSection.count_up_to.Goals as goal

pub returns-in-Some-clause-before : goal.returns-in-Some-clause-before
returns-in-Some-clause-before g c i d h =
    subst (λ (o : Option Stamp). up_to o (get_or c.args.self.now i d).stamp ≡ true) (sym c.in-Some.is) (ap not (c.count_to.ensures.past i d h))

pub returns-in-Some-clause-after : goal.returns-in-Some-clause-after
returns-in-Some-clause-after g c i d h k =
    subst (λ (o : Option Stamp). up_to o (get_or c.args.self.now i d).stamp ≡ false) (sym c.in-Some.is) (ap not (c.count_to.ensures.above i d h k))
