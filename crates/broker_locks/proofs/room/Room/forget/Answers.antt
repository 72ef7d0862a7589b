use Rattle.std.proofs.Common.{◌==◌, ℕ, not, List, sym, ap, subst, ◌∙◌}
use Rattle.mcast_txn.specs.Lists.{RisesBy}
use Rattle.mcast_txn.proofs.Rising.{IsAt, IsGap}
use Rattle.broker_locks.specs.Inner.Waited.{waited_number}
use Rattle.broker_locks.specs.Room.{RoomState, waiting_without}
use Rattle.broker_locks.proofs.Waiting.{out_found, out_none, rises_filter}
use Rattle.broker_locks.proofs.room.Room.forget.Goals as goal

pub invariant_of-self : goal.invariant_of-self
invariant_of-self c =
    let xs = c.self.inside.waited.items in
    let at = subst (λ (s : RoomState). IsAt waited_number s.waited c.args.number c.in-Ok.index) (sym c.self.view_is) c.in-Ok.ensures.found in
    subst (RisesBy waited_number) (sym (c.remove.ensures.items ∙ out_found xs c.args.number c.in-Ok.index c.self.invariant at)) (rises_filter (λ (m : ℕ). not (m == c.args.number)) xs c.self.invariant)

pub returns-in-Ok : goal.returns-in-Ok
returns-in-Ok c =
    let xs = c.self.inside.waited.items in
    let at = subst (λ (s : RoomState). IsAt waited_number s.waited c.args.number c.in-Ok.index) (sym c.self.view_is) c.in-Ok.ensures.found in
    c.free_empty.ensures ∙ (ap (λ (ys : List ℕ). record { reserved = c.self.inside.reserved; waited = ys }) (c.remove.ensures.items ∙ out_found xs c.args.number c.in-Ok.index c.self.invariant at) ∙ ap (waiting_without c.args.number) c.self.view_is)

pub returns-in_default : goal.returns-in_default
returns-in_default c =
    ap (λ (ys : List ℕ). record { reserved = c.args.self.now.reserved; waited = ys }) (out_none c.args.self.now.waited c.args.number c.in_default.field-0 c.in_default.ensures.absent)
