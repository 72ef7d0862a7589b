use Rattle.mcast_group.specs.Machine.{item_of}
use Rattle.mcast_group.proofs.ByNumber.{rises_given}
use Rattle.mcast_group.proofs.subscriptions.Subscriptions.give_all.Goals as goal

pub invariant_of-self : goal.invariant_of-self
invariant_of-self g c = record {
  rises = rises_given g.Q.Outlet.shown g.Q.Outlet.may_accept c.args.frontier (item_of c.args.part.now) c.self.inside.subs.items c.give_each-left.new.subs.items c.give_each-left.ensures.gave c.self.invariant.rises;
  counted = c.give_each-left.ensures.left;
}
