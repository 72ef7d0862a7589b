use Rattle.std.proofs.Common.{◌≡◌, ℕ, List, ◌++◌}
use Rattle.broker_server.specs.declared.conversation.drained.Taking.{Taking}
use Rattle.broker_server.specs.BrokerRows.{AsksInOrder, BrokerRow}
use Rattle.broker_server.specs.Conversations.{OpenSubState}
use Rattle.broker_server.specs.Delivering.{Drains, has_item}
use Rattle.broker_server.proofs.conversation.taking.take_items.Given as goal

-- the calls so far are a beginning: whatever is taken from here on is taken behind them
abbrev pub invariant-loop-call : goal.invariant-loop-call
invariant-loop-call g l =
    record {
      taken : (asked : List BrokerRow) × AsksInOrder g.C.BrokerCalls.called l.fn.calls asked l.calls
          × ((rows : List BrokerRow) (end : Taking) (new : OpenSubState) (after : List ℕ)
          → Drains l.fn.extent l.capacity l._call rows l.queue l.wire end new after
          → Drains l.fn.extent l.capacity 0 (asked ++ rows) l.fn.queue l.fn.wire end new after)
          × (l.any ≡ has_item asked);
    }
