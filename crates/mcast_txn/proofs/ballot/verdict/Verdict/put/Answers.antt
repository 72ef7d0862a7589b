use Rattle.mcast_txn.proofs.RowLemmas.{row_put}
use Rattle.mcast_txn.proofs.WriteLemmas.{written_back}
use Rattle.mcast_txn.proofs.ballot.verdict.Verdict.put.Goals as goal

pub invariant_of-self : goal.invariant_of-self
invariant_of-self c =
    let at = rw (← c.self.view_is) at c.requires.of_topic in
    let raised = rw (← c.self.view_is) at c.requires.raised in
    rw (written_back c.self.inside.rows.items c.deref_mut.result.now c.args.index c.args.row c.deref_mut.ensures.value, c.later-self-inside.ensures) (row_put c.self.inside.rows.items c.self.inside.stamp c.args.index c.args.row at raised c.self.invariant)
