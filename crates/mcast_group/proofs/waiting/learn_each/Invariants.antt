use Rattle.std.proofs.Common.{◌+◌, ◌≤◌, length, vec_capacity}
use Rattle.mcast_group.proofs.Waits.{Stepping}
use Rattle.mcast_group.proofs.waiting.learn_each.Given as goal

-- so many parts had their step
abbrev pub invariant-loop : goal.invariant-loop
invariant-loop g l = record {
  made : Stepping l.fn.waiting.items l.waiting.items l.fn.notes.items l.notes.items l.fn.group l.group l.counter;
  room : length l.waiting.items + length l.notes.items ≤ vec_capacity l.notes;
}
