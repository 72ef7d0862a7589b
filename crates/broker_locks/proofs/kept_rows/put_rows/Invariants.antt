use Rattle.std.proofs.Common.{◌≡◌, ◌≤◌, ◌+◌, ◌++◌, length, vec_capacity, vec_len}
use Rattle.broker_locks.proofs.kept_rows.put_rows.Given as goal

-- the rows so far and those that are left, for which there is room
abbrev pub invariant-loop-row : goal.invariant-loop-row
invariant-loop-row l = record {
  rows : l.drained.items ++ l.rows ≡ l.fn.drained.items ++ l.fn.rows;
  room : vec_len l.drained + length l.rows ≤ vec_capacity l.drained;
}

abbrev pub decreases-loop-row : goal.decreases-loop-row
decreases-loop-row l = length l.rows
