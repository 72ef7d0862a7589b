use Rattle.std.proofs.Common.{◌≡◌, ◌+◌, vec_len}
use Rattle.broker_server.proofs.serving.waiters.Waiters.close.Given as goal

-- so many were taken out
abbrev pub invariant-loop-number : goal.invariant-loop-number
invariant-loop-number g l = vec_len l.waiters + l._number ≡ vec_len l.fn.self.waiters
