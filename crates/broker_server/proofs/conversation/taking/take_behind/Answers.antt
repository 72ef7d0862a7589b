use Rattle.std.proofs.Common.{[], refl}
use Rattle.broker_server.proofs.DeliveringLemmas.{stops_behind, takes_behind}
use Rattle.broker_server.proofs.conversation.taking.take_behind.Goals as goal

pub returns-in-Rest : goal.returns-in-Rest
returns-in-Rest g c =
    ([], refl, stops_behind c.args.extent c.args.capacity c.args.queue.now c.args.wire.now c.in-Rest.is, refl)

pub returns-in_default : goal.returns-in_default
returns-in_default g c =
    let did = c.take_items.ensures in
    let new = c.take_items.new in
    (did.0, did.1, takes_behind c.args.extent c.args.capacity did.0 c.args.queue.now c.args.wire.now c.take_items.result.end new.queue new.wire c.in_default.not-Rest did.2, did.3)
