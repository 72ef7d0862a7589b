use Rattle.std.proofs.Common.{◌<◌, length, arith}
use Rattle.delivery.proofs.Views.Verdicts.VerdictTable.{seqs_kept, seq_added}
use Rattle.delivery.proofs.table.Table.add_seq.Goals as goal
use Rattle.delivery.proofs.table.Table.add_seq.Goals.{in-Ok, in-Err}

pub returns-clause-ok : goal.returns-clause-ok
returns-clause-ok c =
    let xs = c.self.inside.senders.items in let there : c.args.sender < length xs = omega (arith, c.if-sender-len.false, c.len.ensures, c.self.inside.senders.ok.0) in
    elim c.match-push.branch [
      | in-Ok w ↦ rw w.result-is
          (seq_added xs _ c.args.sender c.push.new.self c.index_mut-verdicts.result.now _ c.self.view_is there c.index_mut-verdicts.ensures.value w.in-Ok.ensures.items)
      | in-Err w ↦ rw w.result-is tt
    ]

pub returns-clause-err : goal.returns-clause-err
returns-clause-err c =
    let xs = c.self.inside.senders.items in let there : c.args.sender < length xs = omega (arith, c.if-sender-len.false, c.len.ensures, c.self.inside.senders.ok.0) in
    elim c.match-push.branch [
      | in-Ok w ↦ rw w.result-is tt
      | in-Err w ↦ rw w.result-is
          (seqs_kept xs _ c.args.sender c.push.new.self c.index_mut-verdicts.result.now _ c.self.view_is there c.index_mut-verdicts.ensures.value w.in-Err.ensures.items)
    ]
