use Rattle.std.proofs.Common.{sym, ap, subst, ◌∙◌}
use Rattle.mcast_group.specs.CellGroup.{waiting_ids}
use Rattle.mcast_group.specs.Group.{GroupState}
use Rattle.mcast_group.specs.Machine.{TopicState}
use Rattle.mcast_group.specs.Sound.{IsSound}
use Rattle.mcast_group.proofs.cell_group.CellGroup.room.Goals as goal

pub invariant_of-self : goal.invariant_of-self
invariant_of-self g c =
    let same = ap (λ (z : GroupState). z.topic) (sym c.room.ensures.told.2) in
    record {
      sound = subst IsSound same c.self.invariant.sound;
      ids = c.self.invariant.ids ∙ ap (λ (x : TopicState). waiting_ids x.pending) same;
      room = c.self.invariant.room;
    }
