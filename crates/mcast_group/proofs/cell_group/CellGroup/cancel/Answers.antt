use Rattle.std.proofs.Common.{sym, ap, ◌∙◌, arith}
use Rattle.mcast_group.specs.CellGroup.{waiting_ids}
use Rattle.mcast_group.specs.Group.{GroupState}
use Rattle.mcast_group.proofs.Waits.{cancelled_ids, ids}
use Rattle.mcast_group.proofs.cell_group.CellGroup.cancel.Goals as goal

pub invariant_of-self-2 : goal.invariant_of-self-2
invariant_of-self-2 g c =
    let s = c.self.inside in
    let less = c.take_out.ensures.fewer in
    let room = c.self.invariant.room in
    record {
      sound = c.sound.ensures;
      ids = ap ids c.take_out.ensures.items
          ∙ (cancelled_ids c.args.id s.group.topic.pending s.waiting.items c.self.invariant.ids
          ∙ ap (λ (z : GroupState). waiting_ids z.topic.pending) (sym c.in_ok-cancel.ensures.ok));
      room = omega arith;
    }
