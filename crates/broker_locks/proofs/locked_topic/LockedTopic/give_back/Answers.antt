use Rattle.std.proofs.Common.{sym, subst}
use Rattle.std.proofs.Math.Logic.{∥∥₁_map}
use Rattle.broker_locks.specs.Room.{KeepsRoom, RoomState, more_reserved}
use Rattle.broker_locks.proofs.RoomKept.{keeps_given_back}
use Rattle.broker_locks.proofs.locked_topic.LockedTopic.give_back.Goals as goal

pub invariant_of-self-clause-roomy : goal.invariant_of-self-clause-roomy
invariant_of-self-clause-roomy g c =
    let group = c.args.self.now.place.cells.group in
    ∥∥₁_map c.args.self.now.roomy (λ k. subst (λ (s : RoomState). KeepsRoom (more_reserved c.args.self.now.spare s) group) (sym c.give_back.ensures) (keeps_given_back c.args.self.now.spare c.args.self.now.room group k))
