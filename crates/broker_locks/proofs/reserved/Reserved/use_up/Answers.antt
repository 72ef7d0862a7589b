use Rattle.std.proofs.Common.{List, ℕ, sym, ap, drop, ◌∙◌}
use Rattle.std.specs.List.{remove}
use Rattle.mcast_txn.specs.declared.id.Topic.{Topic}
use Rattle.broker_locks.proofs.Reserving.{first_used, other_used}
use Rattle.broker_locks.proofs.reserved.Reserved.use_up.Goals as goal

pub returns-then-index-eq0 : goal.returns-then-index-eq0
returns-then-index-eq0 c =
    first_used c.self.inside.used c.self.inside.topics.items
    ∙ (ap (λ (k : ℕ). remove (drop c.self.inside.used c.self.inside.topics.items) k) (sym c.if-index-eq0.true) ∙ ap (λ (xs : List Topic). remove xs c.args.index) c.self.view_is)

pub returns-else-index-eq0 : goal.returns-else-index-eq0
returns-else-index-eq0 c =
    ap (λ (xs : List Topic). drop c.self.inside.used xs) c.remove.ensures.items
    ∙ (other_used c.self.inside.used c.args.index c.self.inside.topics.items ∙ ap (λ (xs : List Topic). remove xs c.args.index) c.self.view_is)
