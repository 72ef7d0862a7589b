use Rattle.std.proofs.Common.{not, rules}
use Rattle.mcast_txn.specs.Ids.{same_id}
use Rattle.mcast_group.specs.CellGroup.{Waiting}
use Rattle.std.proofs.lemmas.Fn.{filter_same}
use Rattle.mcast_group.proofs.waiting.take_out.Goals as goal

pub returns-clause-items : goal.returns-clause-items
returns-clause-items c =
    filter_same _ (λ (w : Waiting). not (same_id w.id c.args.id)) _ (λ x b f called. search rules) c.args.waiting.now.items c.retain.new.self.items c.retain.ensures.filtered
