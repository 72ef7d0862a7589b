use Rattle.broker_server.proofs.WireLemmas.{IsOut}
use Rattle.broker_server.proofs.draining.drain_wire.Given as goal

-- what went out so far is counted
abbrev pub invariant-writes : goal.invariant-writes
invariant-writes g l =
    let contents = g.W.Write.contents in
    record { out : IsOut (contents l.fn.writer) (contents l.writer) l.fn.wire l.wire l.sent }
