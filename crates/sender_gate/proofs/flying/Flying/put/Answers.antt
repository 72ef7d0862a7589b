use Rattle.std.proofs.Common.{ap, ◌∙◌}
use Rattle.std.proofs.lemmas.Result.{err_from_is_err_and}
use Rattle.sender_gate.specs.Gate.{over_floor}
use Rattle.sender_gate.proofs.FlightLemmas.{flying_put, too_low, high_enough}
use Rattle.sender_gate.proofs.flying.Flying.put.Goals as goal

pub returns-in_err-check-clause-answer : goal.returns-in_err-check-clause-answer
returns-in_err-check-clause-answer c =
    let p = err_from_is_err_and c.from_residual.result c.from_residual.ensures.1 in
    rw (p.1, p.2, ← c.self.view_is) (ap (over_floor c.self.inside.floor c.args.ticket) c.in_err-check.ensures)

pub returns-then-ticket-self-clause-answer : goal.returns-then-ticket-self-clause-answer
returns-then-ticket-self-clause-answer c =
    rw (← c.self.view_is) (too_low c.self.inside.floor c.args.ticket c.if-ticket-self.true ∙ ap (over_floor c.self.inside.floor c.args.ticket) c.in_ok-check.ensures)

pub invariant_of-self-2 : goal.invariant_of-self-2
invariant_of-self-2 c =
    rw c.in_ok-put.ensures.ok (flying_put c.self.inside.floor c.self.inside.ballot.tickets c.self.inside.parts.slots c.self.invariant c.args.ticket.topic c.args.ticket.n c.if-ticket-self.false)

pub returns-clause-answer : goal.returns-clause-answer
returns-clause-answer c =
    rw (← c.self.view_is) (high_enough c.self.inside.floor c.args.ticket c.if-ticket-self.false ∙ ap (over_floor c.self.inside.floor c.args.ticket) c.in_ok-check.ensures)
