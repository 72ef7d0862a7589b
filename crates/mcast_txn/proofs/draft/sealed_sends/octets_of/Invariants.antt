use Rattle.std.proofs.Common.{◌≡◌, ◌-◌, ◌^◌, min, take}
use Rattle.mcast_txn.specs.Transaction.{octets_with}
use Rattle.mcast_txn.proofs.draft.sealed_sends.octets_of.Given as goal

-- the octets of the body and of the headers that were looked at
abbrev pub invariant-loop-index : goal.invariant-loop-index
invariant-loop-index l = l.octets ≡ min (octets_with (take l.index l.headers) l.body) (2 ^ 64 - 1)
