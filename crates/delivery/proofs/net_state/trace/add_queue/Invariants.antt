use Rattle.std.proofs.Common.{◌≡◌, ◌++◌, map, take}
use Rattle.delivery.proofs.Traces.Made.{queue_row}
use Rattle.delivery.proofs.net_state.trace.add_queue.Given as goal

-- the items so far are there
abbrev pub invariant-loop-i : goal.invariant-loop-i
invariant-loop-i l = l.trace ≡ record l.fn.trace { queues = l.fn.trace.queues ++ map (queue_row l.sub) (take l.i l.fn.queue.queued) }
