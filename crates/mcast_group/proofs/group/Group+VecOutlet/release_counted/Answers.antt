use Rattle.std.proofs.Common.{subst}
use Rattle.mcast_group.specs.Group.{GroupState}
use Rattle.mcast_group.specs.Sound.{NumbersDiffer}
use Rattle.mcast_group.proofs.Numbers.{numbers_differ}
use Rattle.mcast_group.proofs.Counting.{counted_releases}
use Rattle.mcast_group.proofs.group.Group+VecOutlet.release_counted.Goals as goal

pub returns-clause-released : goal.returns-clause-released
returns-clause-released c =
    counted_releases c.args.self.now c.release.new.self (subst (λ (z : GroupState). NumbersDiffer z.topic.subscriptions) c.self.view_is (numbers_differ _ c.self.invariant.sound.numbers)) c.release.ensures.released
