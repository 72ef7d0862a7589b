use Rattle.std.proofs.Common.{◌≡◌, ℕ, ◌+◌, List, length}
use Rattle.broker_locks.specs.Commits.{AreTold, parts_in, topics_in}
use Rattle.broker_locks.specs.Inner.Proposing.{HasProposed, parts_after}
use Rattle.broker_locks.proofs.commit.propose_all.Given as goal

-- one part for each number was entered, and taken out
abbrev pub invariant-loop-k : goal.invariant-loop-k
invariant-loop-k g l = record {
  numbers : List ℕ;
  many : length numbers ≡ l.k;
  so_far : HasProposed (parts_in l.fn.flying.state.parts) l.fn.flying.state numbers l.flying.state (g.P.Places.rows l.fn.places) (g.P.Places.rows l.places);
  parts : l.flying.state.parts ≡ parts_after (parts_in l.fn.flying.state.parts) numbers;
  given : g.P.Places.given l.places ≡ g.P.Places.given l.fn.places + l.k;
  own : l.flying.flight ≡ l.fn.flying.flight;
  told : AreTold g.Q.Point.told (topics_in l.fn.flying.state) l.k l.fn.point l.point;
}
