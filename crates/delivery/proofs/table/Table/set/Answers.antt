use Rattle.std.proofs.Common.{◌<◌, ◌-◌, [], length, get_or, set, Some, ap, ◌∙◌, arith}
use Rattle.delivery.proofs.Words.All.{Decision}
use Rattle.delivery.proofs.Views.Verdicts.VerdictTable.{slot_filled}
use Rattle.delivery.proofs.table.Table.set.Goals as goal

pub returns-then-sender-len : goal.returns-then-sender-len
returns-then-sender-len c =
    let xs = c.self.inside.senders.items in let old = c.index_mut.result.now in
    let there : c.args.sender < length xs = omega (arith, c.if-sender-len.true, c.len.ensures, c.self.inside.senders.ok.0) in
    let index = c.saturating_sub-index.ensures
    ∙ (ap (λ (id : Rattle.mcast_txn.specs.declared.id.TxnId.TxnId). id.seq - 1) c.id.ensures ∙ ap (λ (v : Decision). v.id.seq - 1) c.deref.ensures) in
    slot_filled xs _ c.args.sender c.saturating_sub-index.result c.fill.new.verdicts old _ (Some c.args.verdict) c.self.view_is there c.index_mut.ensures.value c.fill.ensures
    ∙ ap (λ q. set c.args.self.now c.args.sender (set (get_or c.args.self.now c.args.sender []) q (Some c.args.verdict.value))) index
