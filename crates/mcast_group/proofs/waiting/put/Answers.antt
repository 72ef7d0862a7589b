use Rattle.std.proofs.Common.{ap, subst, ◌∙◌}
use Rattle.mcast_txn.specs.Ids.{id_lt}
use Rattle.mcast_txn.specs.declared.id.TxnId.{TxnId}
use Rattle.mcast_group.specs.CellGroup.{Waiting}
use Rattle.mcast_group.specs.Inner.Keys.{IsIndexPast}
use Rattle.mcast_group.proofs.ByKey.{put_past}
use Rattle.mcast_group.proofs.waiting.put.Goals as goal

pub returns : goal.returns
returns c =
    let ws = c.args.waiting.now.items in
    let w = c.args.part in
    let i = c.index_for-index.result in
    let items = rw c.unwrap.ensures at c.insert.ensures.items in
    let own = ap (λ (z : Waiting). z.id) c.part.view_is in
    items ∙ put_past (λ (v : Waiting). v.id) w ws i (subst (λ (z : TxnId). IsIndexPast (λ (v : Waiting). id_lt v.id z) ws i) own c.index_for-index.ensures.index) c.requires.free
