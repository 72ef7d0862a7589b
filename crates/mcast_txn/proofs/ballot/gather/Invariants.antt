use Rattle.mcast_txn.proofs.TicketLemmas.{Gathers}
use Rattle.mcast_txn.proofs.ballot.gather.Given as goal

-- the rows that were looked at, and whose numbers were given, are in front
abbrev pub invariant-loop-index : goal.invariant-loop-index
invariant-loop-index l = Gathers l.initial.rows l.rows l.given l.many l.index
