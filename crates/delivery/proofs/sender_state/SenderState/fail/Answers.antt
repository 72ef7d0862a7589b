use Rattle.delivery.proofs.Words.All.{◌≡◌, List, length, sym, ap, ◌∙◌, arith, length-map, Ticket, ticket_rows, Sending}
use Rattle.delivery.specs.Inner.Rooms.{tickets_to_keep}
use Rattle.delivery.proofs.Views.Senders.RoomLasts.{few_tickets}
use Rattle.delivery.proofs.sender_state.SenderState.fail.Goals as goal

pub invariant_of-self : goal.invariant_of-self
invariant_of-self c =
    let flying = c.in-Flying.flying in let is : c.self.inside.sending ≡ Sending.Flying flying c.in-Flying.field-1 = sym c.replace.ensures.value ∙ c.in-Flying.is in
    let keep = ap tickets_to_keep is in let few = few_tickets flying.tickets in let tickets = ap (λ (ts : List Ticket). length ts) c.withdraw-gate.ensures.tickets in
    let many = length-map {B = Ticket} (ticket_rows flying.tickets) (λ row. record { id = flying.id; topic = row.topic; n = row.n }) in let room = c.self.invariant.room in
    record { room = omega (arith, keep, few, tickets, many, room); own = tt }
