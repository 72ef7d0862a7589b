use Rattle.std.proofs.Common.{sym, ◌∙◌}
use Rattle.mcast_group.proofs.ByNumber.{rises_same}
use Rattle.mcast_group.proofs.Endless.{endless_same}
use Rattle.mcast_group.proofs.subscriptions.Subscriptions.reserve_each.Goals as goal

pub invariant_of-self : goal.invariant_of-self
invariant_of-self g c = record {
  rises = rises_same g.Q.Outlet.shown c.self.inside.subs.items c.reserve_in_each.new.subs.items c.reserve_in_each.ensures.entries c.self.invariant.rises;
  counted = c.self.invariant.counted ∙ sym (endless_same g.Q.Outlet.shown c.self.inside.subs.items c.reserve_in_each.new.subs.items c.reserve_in_each.ensures.entries);
}
