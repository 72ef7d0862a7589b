use Rattle.std.proofs.Common.{◌≡◌, ◌++◌, map, take}
use Rattle.delivery.proofs.Words.All.{GroupState, traced_log}
use Rattle.delivery.proofs.Traces.Lists.{made_of}
use Rattle.delivery.proofs.net_state.NetState.add_logs.Given as goal

-- the logs so far are there
abbrev pub invariant-loop-i : goal.invariant-loop-i
invariant-loop-i l = l.trace
    ≡ record l.fn.trace { logs = l.fn.trace.logs ++ made_of traced_log 0 (take l.i (map (λ (g : GroupState). g.topic.held) l.fn.self.groups)) }
