use Rattle.std.proofs.Common.{◌≡◌, ◌+◌, List, length, take, drop}
use Rattle.broker_server.specs.BrokerRows.{AsksInOrder, BrokerRow}
use Rattle.broker_server.specs.Delivering.{has_item}
use Rattle.broker_server.proofs.DeliveringLemmas.{GoesOn}
use Rattle.broker_server.proofs.conversation.taking.drain_all.Given as goal

-- the queues so far were emptied, by calls that are a beginning; the others are as they were
abbrev pub invariant-loop-queue : goal.invariant-loop-queue
invariant-loop-queue g l = record {
  taken : (asked : List BrokerRow) × AsksInOrder g.C.BrokerCalls.called l.fn.calls asked l.calls
      × GoesOn l.fn.extent l.capacity l.flags asked l.fn.queues (take l.queue-index l.queues) (drop l.queue-index l.queues) l.fn.wire l.wire
      × (l.any ≡ has_item asked);
  many : l.left + l.queue-index ≡ length l.queues;
}
