use Rattle.std.proofs.Common.{◌≡◌, vec_len}
use Rattle.broker_server.proofs.serving.desks.Desks.new.Given as goal

abbrev pub invariant-loop-number : goal.invariant-loop-number
invariant-loop-number g l = vec_len l.desks ≡ l.number
