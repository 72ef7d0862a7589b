use Rattle.std.proofs.Common.{◌≡◌, ◌+◌, ◌≤◌, Bool, List, length}
use Rattle.mcast_group.specs.Group.{AnswersEach, group_after_releases}
use Rattle.mcast_group.specs.Machine.{Entry}
use Rattle.mcast_group.proofs.group.Group.release_all.Given as goal

-- so many parts were released, with an answer for each
abbrev pub invariant-loop : goal.invariant-loop
invariant-loop g l = record {
  answers : List (Entry → Bool);
  many : length answers + length l.self.topic.pending ≤ length l.fn.self.topic.pending;
  may : AnswersEach g.Q.Outlet.may_accept answers l.fn.self;
  is : l.self ≡ group_after_releases answers l.fn.self;
}

abbrev pub decreases-loop : goal.decreases-loop
decreases-loop g l = length l.self.topic.pending
