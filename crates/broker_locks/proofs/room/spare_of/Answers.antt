use Rattle.broker_locks.proofs.Hearing.{heard_told}
use Rattle.broker_locks.proofs.room.spare_of.Goals as goal

pub returns-in_err-room-clause-heard : goal.returns-in_err-room-clause-heard
returns-in_err-room-clause-heard g c = heard_told c.args.number c.args.place.now c.room.new.self c.room.ensures.told c.room.ensures.same

pub returns-then-room-due-clause-heard : goal.returns-then-room-due-clause-heard
returns-then-room-due-clause-heard g c = heard_told c.args.number c.args.place.now c.room.new.self c.room.ensures.told c.room.ensures.same

pub returns-else-room-due-clause-heard : goal.returns-else-room-due-clause-heard
returns-else-room-due-clause-heard g c = heard_told c.args.number c.args.place.now c.room.new.self c.room.ensures.told c.room.ensures.same
