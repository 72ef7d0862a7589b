use Rattle.std.proofs.Common.{◌≡◌, take}
use Rattle.stomp_session.proofs.names.Names.is_front_of.Given as goal

-- the first of both are the same
abbrev pub invariant-loop-index : goal.invariant-loop-index
invariant-loop-index l = take l.index l.fn.all ≡ take l.index l.fn.self
