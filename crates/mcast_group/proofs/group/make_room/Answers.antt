use Rattle.std.proofs.Common.{arith}
use Rattle.mcast_group.proofs.Copying.{copies_kept}
use Rattle.mcast_group.proofs.group.make_room.Goals as goal

pub returns-in_err-reserve-clause-cut : goal.returns-in_err-reserve-clause-cut
returns-in_err-reserve-clause-cut g c = λ n h. copies_kept n n c.args.pending.now c.args.copies.now.items (omega arith) h
