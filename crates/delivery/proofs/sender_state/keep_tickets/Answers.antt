use Rattle.delivery.proofs.Words.All.{◌≡◌, ◌<◌, ◌∷◌, [], ◌++◌, List, length, take, get_or, sym, ap, ◌∙◌, arith, append_assoc, take_more, slice_get-get_or, Ticket, some_same}
use Rattle.delivery.proofs.sender_state.keep_tickets.Goals as goal

pub loop-i-preserved : goal.loop-i-preserved
loop-i-preserved c =
    let tickets = c.args.tickets.now in let i = c.loop-i.i in let ticket = c.get.result in let within : i < length tickets = omega arith in
    let found : ticket ≡ get_or tickets i ticket = some_same ticket (get_or tickets i ticket) (sym c.get.ensures ∙ slice_get-get_or tickets i ticket within) in
    let len = c.push_reserved.ensures.len in let before = c.loop-i.invariant.len in
    record {
      items = c.push_reserved.ensures.items
          ∙ (ap (λ (xs : List Ticket). xs ++ ticket ∷ []) c.loop-i.invariant.items
          ∙ (append_assoc c.args.leftovers.now.items (take i tickets) (ticket ∷ [])
          ∙ ap (λ (xs : List Ticket). c.args.leftovers.now.items ++ xs)
          (ap (λ (x : Ticket). take i tickets ++ x ∷ []) found ∙ sym (take_more tickets i ticket within))));
      len = omega (arith, len, before);
      capacity = c.push_reserved.ensures.capacity ∙ c.loop-i.invariant.capacity;
    }
