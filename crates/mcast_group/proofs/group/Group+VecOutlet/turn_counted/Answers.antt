use Rattle.std.proofs.Common.{subst}
use Rattle.mcast_group.specs.Group.{GroupState}
use Rattle.mcast_group.specs.Sound.{NumbersDiffer}
use Rattle.mcast_group.proofs.Numbers.{numbers_differ}
use Rattle.mcast_group.proofs.Counting.{counted_turns}
use Rattle.mcast_group.proofs.group.Group+VecOutlet.turn_counted.Goals as goal

pub returns-clause-turned : goal.returns-clause-turned
returns-clause-turned g c =
    let t = c.turn.ensures.turned in
    (t.find, t.found, counted_turns t.find c.args.self.now c.turn.new.self (subst (λ (z : GroupState). NumbersDiffer z.topic.subscriptions) c.self.view_is (numbers_differ _ c.self.invariant.sound.numbers)) t.releases, t.none_pending)
