use Rattle.std.proofs.Common.{sym, ◌∙◌}
use Rattle.broker_locks.proofs.Waiting.{spare_passes}
use Rattle.broker_locks.proofs.room.Room.enter.Goals as goal

pub returns-then-spare-gt0-clause-room : goal.returns-then-spare-gt0-clause-room
returns-then-spare-gt0-clause-room g c =
    spare_passes c.args.with_reserved c.args.self.now c.args.place.now.cells.group (sym c.has_reserved.ensures ∙ c.if-has_reserved.false) (c.requires c.if-spare-gt0.true)
