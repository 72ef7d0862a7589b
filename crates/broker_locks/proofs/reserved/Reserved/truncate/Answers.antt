use Rattle.std.proofs.Common.{List, ap, drop, take, ◌∙◌}
use Rattle.std.proofs.lemmas.List.{drop-take}
use Rattle.mcast_txn.specs.declared.id.Topic.{Topic}
use Rattle.broker_locks.proofs.reserved.Reserved.truncate.Goals as goal

pub returns-then-kept-len : goal.returns-then-kept-len
returns-then-kept-len c =
    ap (λ (xs : List Topic). drop c.self.inside.used xs) c.truncate.ensures.items
    ∙ (drop-take c.self.inside.used c.args.kept c.self.inside.topics.items ∙ ap (λ (xs : List Topic). take c.args.kept xs) c.self.view_is)
