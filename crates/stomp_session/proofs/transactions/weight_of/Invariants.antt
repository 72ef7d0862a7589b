use Rattle.std.proofs.Common.{◌≡◌, ◌-◌, ◌^◌, min, sum_by, take}
use Rattle.mcast_txn.specs.Transaction.{weight}
use Rattle.stomp_session.proofs.transactions.weight_of.Given as goal

-- what the drafts weigh that were looked at
abbrev pub invariant-loop-index : goal.invariant-loop-index
invariant-loop-index l = l.sum ≡ min (sum_by (λ entry. weight entry.1) (take l.index l.drafts.entries)) (2 ^ 64 - 1)
