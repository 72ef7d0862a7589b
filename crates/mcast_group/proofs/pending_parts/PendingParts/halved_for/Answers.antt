use Rattle.std.proofs.Common.{◌≡◌, List, length, subst, rules, arith}
use Rattle.mcast_txn.specs.Ids.{id_lt}
use Rattle.mcast_group.specs.Machine.{Pending}
use Rattle.mcast_group.specs.Inner.Keys.{IsIndexPast}
use Rattle.std.proofs.lemmas.List.Sorted.{IsPartitionPoint-from_clause}
use Rattle.mcast_group.proofs.ByKey.{parts_parted}
use Rattle.mcast_group.proofs.KeyIndices.{index_from}
use Rattle.mcast_group.proofs.pending_parts.PendingParts.halved_for.Goals as goal

pub returns-clause-index : goal.returns-clause-index
returns-clause-index c =
    let ps = c.self.inside.parts.items in
    let l : c.self.inside.parts.len ≡ length ps = c.self.inside.parts.ok.0 in
    let facts = c.partition_point.ensures in
    let p = λ (q : Pending). id_lt q.part.id c.args.id in
    let bound = facts.bound in
    let point = IsPartitionPoint-from_clause p ps c.partition_point.result facts.partitioned (parts_parted c.args.id ps c.self.invariant.by_id) (λ a r f called. search rules) in
    subst (λ (zs : List Pending). IsIndexPast p zs c.partition_point.result) c.self.view_is (index_from p ps c.partition_point.result (omega arith) point)
