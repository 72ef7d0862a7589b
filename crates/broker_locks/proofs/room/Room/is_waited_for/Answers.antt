use Rattle.std.proofs.Common.{◌∙◌}
use Rattle.broker_locks.proofs.Waiting.{search_is}
use Rattle.broker_locks.proofs.room.Room.is_waited_for.Goals as goal

pub returns : goal.returns
returns c = c.is_ok.ensures.value ∙ search_is c.args.self.now.waited c.args.number c.search.result c.search.ensures
