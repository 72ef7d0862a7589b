use Rattle.std.proofs.Common.{length, ◌-◌}
use Rattle.stomp_frame.specs.Inner.PartialFrames.{IsPartial}
use Rattle.stomp_frame.proofs.reading.partial_frame.PartialFrame.frame.Given as goal

abbrev pub invariant-loop-self : goal.invariant-loop-self
invariant-loop-self l = IsPartial l.limits l.text l.self

abbrev pub decreases-loop-self : goal.decreases-loop-self
decreases-loop-self l = length l.text - l.self.parsed
