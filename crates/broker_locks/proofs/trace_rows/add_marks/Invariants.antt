use Rattle.std.proofs.Common.{map, take}
use Rattle.broker_locks.specs.KeptTrace.{AddsAll, marks_between}
use Rattle.broker_locks.specs.TopicTraces.{queue_row}
use Rattle.broker_locks.proofs.trace_rows.add_marks.Given as goal

-- the rows so far that lie in the span were added
abbrev pub invariant-loop-i : goal.invariant-loop-i
invariant-loop-i g l = AddsAll (map (queue_row l.span.sub) (marks_between l.span.from l.span.to (take l.i l.log))) l.fn.trace l.trace
