use Rattle.std.proofs.Common.{sym, subst}
use Rattle.std.proofs.Math.Logic.{∥∥₁_map}
use Rattle.broker_locks.specs.Place.{PlaceState, place_after_unsubscribe}
use Rattle.broker_locks.specs.Room.{KeepsRoom, RoomState, more_reserved, waiting_without}
use Rattle.sub_queue.specs.Ends.{shown_of_source}
use Rattle.broker_locks.proofs.Ends.{ends_one}
use Rattle.broker_locks.proofs.RoomKept.{either, keeps_ended, keeps_without}
use Rattle.broker_locks.proofs.locked_topic.LockedTopic.unsubscribe.Goals as goal

pub invariant_of-self-clause-roomy : goal.invariant_of-self-clause-roomy
invariant_of-self-clause-roomy g c =
    let old = c.args.self.now.place in
    let room = more_reserved c.args.self.now.spare c.args.self.now.room in
    ∥∥₁_map c.args.self.now.roomy (λ k. subst (λ (s : RoomState). KeepsRoom (more_reserved c.args.self.now.spare s) c.unsubscribe.new.self.cells.group) (sym c.forget.ensures)
    (either (λ (p : PlaceState). KeepsRoom (waiting_without c.args.number room) p.cells.group) c.unsubscribe.result old (place_after_unsubscribe c.args.number old) c.unsubscribe.new.self c.unsubscribe.ensures.ok c.unsubscribe.ensures.err
    (keeps_ended room c.args.number old c.balanced.ensures k) (keeps_without c.args.number room old.cells.group k)))

pub returns-clause-ends : goal.returns-clause-ends
returns-clause-ends g c =
    let e = c.unsubscribe.ensures in
    ends_one shown_of_source c.args.number c.unsubscribe.result c.args.self.now.place c.unsubscribe.new.self e.left e.ok e.fault e.err
