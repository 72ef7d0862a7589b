use Rattle.std.proofs.Common.{◌≡◌, ◌≤◌, [], drop, length}
use Rattle.broker_server.specs.Listening.{known_with}
use Rattle.broker_server.proofs.serving.running.names_of.Given as goal

-- what the names that are left make of it is what all of them make, and each made one more at most
abbrev pub invariant-loop-i : goal.invariant-loop-i
invariant-loop-i l = record {
  so_far : known_with (drop l.i l.fn.topics.names) l.names ≡ known_with l.fn.topics.names [];
  few : length l.names ≤ l.i;
}
