use Rattle.mcast_group.proofs.Turns.{one_row_each}
use Rattle.mcast_group.proofs.law.has_one_row_each.Goals as goal

pub returns : goal.returns
returns c = one_row_each c.args.verdict.now c.rows.ensures.rising
