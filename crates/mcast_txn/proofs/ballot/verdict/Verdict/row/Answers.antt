use Rattle.std.proofs.Common.{sym}
use Rattle.mcast_txn.proofs.RowLemmas.{row_at-index, row_at-none}
use Rattle.mcast_txn.proofs.ballot.verdict.Verdict.row.Goals as goal

pub returns-in_err-index : goal.returns-in_err-index
returns-in_err-index c = rw c.from_residual.ensures (sym (row_at-none c.args.self.now.rows c.args.topic c.in_err-index.ensures.absent.others))

pub returns : goal.returns
returns c =
    let at = rw (← c.self.view_is) at c.in_ok-index.ensures.found in
    rw (← c.self.view_is, c.deref.ensures) (sym (row_at-index c.self.inside.rows.items c.in_ok-index.index _ c.args.topic c.self.invariant.rising at))
