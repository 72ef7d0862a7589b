use Rattle.sender_gate.proofs.FlightLemmas.{flying_new}
use Rattle.sender_gate.proofs.gate.Gate.begin.Goals as goal

pub new-requires-in-Ok-split : goal.new-requires-in-Ok-split
new-requires-in-Ok-split c =
    rw (c.in-Ok.ensures, c.topics.ensures.value, c.in-Ok-split.ensures.parts, c.take_charge-charge.ensures) (flying_new c.self.inside.floor _ c.args.txn (rw c.topics.ensures.value at c.topics.ensures.rising))
