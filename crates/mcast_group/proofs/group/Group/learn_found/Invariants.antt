use Rattle.std.proofs.Common.{◌≡◌, List, Option, length}
use Rattle.mcast_txn.specs.Ballot.{Decision}
use Rattle.mcast_group.specs.Group.{MayBeFound}
use Rattle.mcast_group.proofs.Learning.{FoundEach, parts, tried_each}
use Rattle.mcast_group.proofs.group.Group.learn_found.Given as goal

-- so many parts were tried, by what was found for each
abbrev pub invariant-loop-index : goal.invariant-loop-index
invariant-loop-index g l = record {
  found : List (Option Decision);
  many : length found ≡ l.index;
  same : parts l.self.topic.pending ≡ parts l.fn.self.topic.pending;
  each : FoundEach (MayBeFound (g.V.Verdicts.finds l.verdicts)) found l.fn.self.topic.pending;
  is : l.self ≡ record { topic = tried_each found l.fn.self.topic.pending l.fn.self.topic; gauges = l.fn.self.gauges };
}
