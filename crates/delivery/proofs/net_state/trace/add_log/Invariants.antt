use Rattle.std.proofs.Common.{◌≡◌, ◌++◌, take}
use Rattle.delivery.proofs.Words.All.{traced_log}
use Rattle.delivery.proofs.net_state.trace.add_log.Given as goal

-- the rows so far are there
abbrev pub invariant-loop-i : goal.invariant-loop-i
invariant-loop-i l = l.trace ≡ record l.fn.trace { logs = l.fn.trace.logs ++ traced_log l.topic.0 (take l.i l.fn.group.topic.held) }
