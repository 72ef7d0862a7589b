use Rattle.sender_gate.proofs.FlightLemmas.{flying_part}
use Rattle.sender_gate.proofs.flying.Flying.part.Goals as goal

pub invariant_of-self : goal.invariant_of-self
invariant_of-self c = rw c.part.ensures.taken (flying_part c.self.inside.floor c.self.inside.ballot.tickets c.self.inside.parts.slots c.self.invariant c.args.topic)
