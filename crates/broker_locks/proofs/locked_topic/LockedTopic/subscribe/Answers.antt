use Rattle.std.proofs.Common.{sym, ap, subst, ◌∙◌}
use Rattle.std.proofs.Math.Logic.{∥∥₁_map}
use Rattle.sub_queue.specs.Ends.{shown_of_source}
use Rattle.broker_locks.specs.Place.{PlaceState}
use Rattle.broker_locks.specs.Room.{KeepsRoom, more_reserved}
use Rattle.broker_locks.proofs.RoomKept.{keeps_begun}
use Rattle.broker_locks.proofs.locked_topic.LockedTopic.subscribe.Goals as goal

pub invariant_of-self-clause-roomy : goal.invariant_of-self-clause-roomy
invariant_of-self-clause-roomy g c =
    let old = c.args.self.now.place in
    let room = more_reserved c.args.self.now.spare c.args.self.now.room in
    ∥∥₁_map c.args.self.now.roomy (λ k. subst (λ (p : PlaceState). KeepsRoom room p.cells.group) (sym c.in-Ok.ensures.ok)
    (keeps_begun room c.in-Some-number_of.number (shown_of_source c.args.source).gauge old c.in-Ok.ensures.allowed k))

pub invariant_of-self-in-Err-1 : goal.invariant_of-self-in-Err-1
invariant_of-self-in-Err-1 g c = record {
  limit = ap (λ (p : PlaceState). p.cells.group.topic.log_limit) c.in-Err.ensures.err ∙ c.args.self.now.limit;
  one = c.args.self.now.one;
  counted = c.args.self.now.counted ∙ sym (ap (λ (p : PlaceState). p.tickets) c.in-Err.ensures.err);
  roomy = subst (λ (p : PlaceState). ∥ KeepsRoom (more_reserved c.args.self.now.spare c.args.self.now.room) p.cells.group ∥₁) (sym c.in-Err.ensures.err) c.args.self.now.roomy;
}
