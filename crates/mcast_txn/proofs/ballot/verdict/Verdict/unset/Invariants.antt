use Rattle.std.proofs.Common.{◌≡◌, ◌≤◌, length, map, take}
use Rattle.mcast_txn.specs.Inner.TicketSlots.{unset_row}
use Rattle.mcast_txn.specs.Stamp.{greatest}
use Rattle.mcast_txn.proofs.ballot.verdict.Verdict.unset.Given as goal

-- a row for each of the topics that were looked at, the greatest of them, and room for the others
abbrev pub invariant-loop-topic : goal.invariant-loop-topic
invariant-loop-topic l = record {
  unset : l.rows.items ≡ map unset_row (take l.topic-index l.topics);
  latest : l.stamp ≡ greatest l.rows.items;
  few : length l.rows.items ≤ l.topic-index;
  room : length l.topics ≤ l.rows.capacity;
}
