use Rattle.std.proofs.Math.Logic.{∥∥₁_map}
use Rattle.broker_locks.specs.Place.{PlaceState, place_after_cancel}
use Rattle.broker_locks.specs.Room.{KeepsRoom, more_reserved}
use Rattle.broker_locks.proofs.Roomy.{keeps_cancelled}
use Rattle.broker_locks.proofs.RoomKept.{either}
use Rattle.broker_locks.proofs.locked_topic.LockedTopic.cancel.Goals as goal

pub invariant_of-self-clause-roomy : goal.invariant_of-self-clause-roomy
invariant_of-self-clause-roomy g c =
    let old = c.args.self.now.place in
    let room = more_reserved c.args.self.now.spare c.args.self.now.room in
    ∥∥₁_map c.args.self.now.roomy (λ k. either (λ (p : PlaceState). KeepsRoom room p.cells.group) c.cancel.result old (place_after_cancel c.args.id old) c.cancel.new.self c.cancel.ensures.ok c.cancel.ensures.err
    (keeps_cancelled room c.args.id old.cells.group k) k)
