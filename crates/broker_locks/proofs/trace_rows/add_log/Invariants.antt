use Rattle.std.proofs.Common.{take}
use Rattle.broker_locks.specs.KeptTrace.{AddsAll}
use Rattle.broker_locks.specs.TopicTraces.{log_rows}
use Rattle.broker_locks.proofs.trace_rows.add_log.Given as goal

-- the rows so far were added
abbrev pub invariant-loop-i : goal.invariant-loop-i
invariant-loop-i g l = AddsAll (log_rows l.topic (take l.i l.log)) l.fn.trace l.trace
