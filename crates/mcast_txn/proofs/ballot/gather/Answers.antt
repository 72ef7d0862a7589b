use Rattle.std.proofs.Common.{false, arith}
use Rattle.mcast_txn.specs.Stamp.{zero_stamp}
use Rattle.mcast_txn.proofs.TicketLemmas.{gathers_none, gathers_more, gathers_same, gathers_all}
use Rattle.mcast_txn.proofs.ballot.gather.Goals.{then-is_given, else-is_given}
use Rattle.mcast_txn.proofs.ballot.gather.Goals as goal

pub loop-index-init : goal.loop-index-init
loop-index-init c = gathers_none c.args.rows.now c.args.given.now

pub loop-index-preserved : goal.loop-index-preserved
loop-index-preserved c =
    elim c.if-is_given.branch [
      | then-is_given w ↦
          rw (w.rows-is, w.many-is) (gathers_more c.args.rows.now c.loop-index.rows c.args.given.now c.requires c.loop-index.many c.loop-index.index c.loop-index.invariant c.loop-index-test.true zero_stamp false w.if-is_given.true)
      | else-is_given w ↦
          rw (w.rows-is, w.many-is) (gathers_same c.args.rows.now c.loop-index.rows c.args.given.now c.requires c.loop-index.many c.loop-index.index c.loop-index.invariant c.loop-index-test.true false w.if-is_given.false)
    ]

pub returns : goal.returns
returns c = gathers_all c.args.rows.now c.loop-index.rows c.args.given.now c.loop-index.many c.loop-index.index c.requires c.loop-index.invariant (omega arith)
