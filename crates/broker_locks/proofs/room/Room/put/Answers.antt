use Rattle.std.proofs.Common.{sym, ap, subst, ◌∙◌}
use Rattle.std.specs.Result.{is_ok}
use Rattle.mcast_txn.proofs.Rising.{IsGap}
use Rattle.broker_locks.specs.Inner.Waited.{waited_number}
use Rattle.broker_locks.specs.Room.{RoomState, waiting_for}
use Rattle.broker_locks.proofs.Waiting.{put_rises, put_waits}
use Rattle.broker_locks.proofs.room.Room.put.Goals as goal

pub invariant_of-self : goal.invariant_of-self
invariant_of-self c =
    let gap = subst (λ (k : RoomState). IsGap waited_number k.waited c.args.number c.args.index) (sym c.self.view_is) c.requires in
    put_rises (is_ok c.insert.result) c.self.inside.waited.items c.insert.new.self.items c.args.index c.args.number gap c.self.invariant c.insert.ensures.items

pub returns-clause-yes : goal.returns-clause-yes
returns-clause-yes c is =
    let gap = subst (λ (k : RoomState). IsGap waited_number k.waited c.args.number c.args.index) (sym c.self.view_is) c.requires in
    let state : RoomState = record { reserved = c.self.inside.reserved; waited = c.self.inside.waited.items } in
    put_waits state (is_ok c.insert.result) c.insert.new.self.items c.args.index c.args.number gap c.insert.ensures.items (sym c.is_ok.ensures.value ∙ is) ∙ ap (waiting_for c.args.number) c.self.view_is
