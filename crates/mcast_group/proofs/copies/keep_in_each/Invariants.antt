use Rattle.std.proofs.Common.{◌≡◌}
use Rattle.mcast_group.proofs.Copying.{kept_front}
use Rattle.mcast_group.proofs.copies.keep_in_each.Given as goal

-- the first ones were cut
abbrev pub invariant-loop-i : goal.invariant-loop-i
invariant-loop-i l = l.copies.items ≡ kept_front l.most l.i l.fn.copies.items
