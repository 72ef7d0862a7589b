use Rattle.std.proofs.Common.{◌≤◌}
use Rattle.broker_server.proofs.serving.room_wait.pass_over.Given as goal

-- as many were passed over as came so far, at most
abbrev pub invariant-loop-sub : goal.invariant-loop-sub
invariant-loop-sub g l = l.count ≤ l.sub-index
