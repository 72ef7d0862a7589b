use Rattle.std.proofs.Common.{◌≡◌, ◌≤◌, vec_len, vec_capacity}
use Rattle.broker_server.proofs.serving.waiters.Waiters.new.Given as goal

-- there is one for each desk so far, and memory for those that are left
abbrev pub invariant-loop-number : goal.invariant-loop-number
invariant-loop-number g l = (vec_len l.waiters ≡ l._number) × (256 ≤ vec_capacity l.waiters)
