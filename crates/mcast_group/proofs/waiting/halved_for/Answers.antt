use Rattle.std.proofs.Common.{◌≡◌, length, rules, arith}
use Rattle.mcast_txn.specs.Ids.{id_lt}
use Rattle.mcast_group.specs.CellGroup.{Waiting}
use Rattle.std.proofs.lemmas.List.Sorted.{IsPartitionPoint-from_clause}
use Rattle.mcast_group.proofs.KeyIndices.{index_from}
use Rattle.mcast_group.proofs.Waits.{waiting_parted}
use Rattle.mcast_group.proofs.waiting.halved_for.Goals as goal

pub returns-clause-index : goal.returns-clause-index
returns-clause-index c =
    let ws = c.args.waiting.now.items in
    let l : c.args.waiting.now.len ≡ length ws = c.args.waiting.now.ok.0 in
    let facts = c.partition_point.ensures in
    let p = λ (w : Waiting). id_lt w.id c.args.id in
    let bound = facts.bound in
    let point = IsPartitionPoint-from_clause p ws c.partition_point.result facts.partitioned (waiting_parted c.args.id ws c.requires) (λ a r f called. search rules) in
    index_from p ws c.partition_point.result (omega arith) point
