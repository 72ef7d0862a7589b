use Rattle.mcast_group.specs.Inner.GroupInvariant.{entry_of}
use Rattle.mcast_group.proofs.Subscribing.{lag_state}
use Rattle.mcast_group.proofs.subscription.Subscription.state.Goals as goal

pub returns-in-Some : goal.returns-in-Some
returns-in-Some g c = lag_state (entry_of g.Q.Outlet.shown c.args.self.now) c.in-Some.to c.in-Some.is
