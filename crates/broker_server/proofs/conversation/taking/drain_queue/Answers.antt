use Rattle.std.proofs.Common.{◌≡◌, [], Option, Some, refl, inr, sym, subst, ◌∙◌}
use Rattle.broker_server.specs.declared.conversation.item_rest.ItemRest.{ItemRest}
use Rattle.broker_server.specs.Conversations.{OpenSubState, unwritten}
use Rattle.broker_server.specs.Delivering.{BreaksOff}
use Rattle.broker_server.proofs.conversation.taking.drain_queue.Goals as goal

pub returns-in-Err : goal.returns-in-Err
returns-in-Err g c =
    let held = c.queue.inside in
    let with : Option ItemRest → OpenSubState = λ rest. record {
      id = held.id;
      parts = held.parts;
      sub = g.C.BrokerCalls.name held.sub;
      until_lag = held.until_lag;
      lagged = held.lagged;
      left = unwritten held.parts held.id rest;
    } in
    let end = c.in-Err.end in
    let new = c.put_left.new in
    let rest_is : held.rest ≡ Some c.in-Some.rest = sym c.take.ensures.value ∙ c.in-Some.is in
    let taken = subst (λ (rest : Option ItemRest). BreaksOff (unwritten held.parts held.id (Some c.in-Some.rest)) (with rest) c.args.wire.now end new.queue new.wire) c.take.ensures.after c.in-Err.ensures.breaks_off in
    let off = subst (λ (rest : Option ItemRest). BreaksOff (unwritten held.parts held.id rest) (record (with rest) { left = [] }) c.args.wire.now end new.queue new.wire) (sym rest_is) taken in
    ([], refl, inr (refl, subst (λ (q : OpenSubState). BreaksOff q.left (record q { left = [] }) c.args.wire.now end new.queue new.wire) c.queue.view_is off), refl)
