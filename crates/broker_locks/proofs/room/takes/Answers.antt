use Rattle.std.proofs.Common.{◌∙◌}
use Rattle.broker_locks.proofs.Waiting.{spare_says}
use Rattle.broker_locks.proofs.room.takes.Goals as goal

pub returns-clause-answer : goal.returns-clause-answer
returns-clause-answer g c = c.is_some.ensures ∙ spare_says c.args.due c.args.number c.spare_of.new.place.cells.group c.spare_of.result c.spare_of.ensures.some c.spare_of.ensures.none
