use Rattle.std.proofs.Common.{◌≡◌, ◌<◌, length, take, ap, ◌∙◌, arith}
use Rattle.delivery.proofs.Views.Verdicts.VerdictTable.{seq_dropped}
use Rattle.delivery.proofs.table.Table.drop_seq.Goals as goal

pub returns-then-sender-len : goal.returns-then-sender-len
returns-then-sender-len c =
    let xs = c.self.inside.senders.items in let old = c.index_mut-verdicts.result.now in
    let there : c.args.sender < length xs = omega (arith, c.if-sender-len.true, c.len.ensures, c.self.inside.senders.ok.0) in let n = c.len-then-sender-len.result in
    let many : n ≡ length old.items = omega (arith, c.len-then-sender-len.ensures, old.ok.0) in
    seq_dropped xs _ c.args.sender n c.truncate.new.self old _ c.self.view_is there c.index_mut-verdicts.ensures.value
    (c.truncate.ensures.items ∙ ap (λ m. take m old.items) c.saturating_sub.ensures) many
