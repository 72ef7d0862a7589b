use Rattle.std.proofs.Common.{◌≡◌, take}
use Rattle.stomp_session.proofs.name_set.NameSet.copy.Given as goal

-- the first of the names
abbrev pub invariant-loop-index : goal.invariant-loop-index
invariant-loop-index l = l.copy ≡ take l.index l.fn.self
