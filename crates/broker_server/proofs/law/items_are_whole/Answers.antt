use Rattle.broker_server.proofs.WholeItems.{items_are_whole}
use Rattle.broker_server.proofs.law.items_are_whole.Goals as goal

pub returns : goal.returns
returns c = items_are_whole
