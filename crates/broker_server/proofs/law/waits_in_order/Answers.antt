use Rattle.broker_server.proofs.FoundLemmas.{finds_room_at_once}
use Rattle.broker_server.proofs.WaitingLemmas.{waits_in_order}
use Rattle.broker_server.proofs.law.waits_in_order.Goals as goal

pub returns : goal.returns
returns c = record { order = waits_in_order; room = finds_room_at_once }
