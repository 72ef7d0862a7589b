use Rattle.std.proofs.Common.{take}
use Rattle.trace_audit.specs.Inner.Orders.{rows_of_refs, log_rows_of_refs}
use Rattle.trace_audit.specs.Inner.Sorting.{IsSortingOf}
use Rattle.trace_audit.specs.Trace.{rows_of}
use Rattle.trace_audit.proofs.auditor.agreed_rows.Given as goal

-- they are the rows before this one, sorted, each of them once
abbrev pub invariant-loop-row : goal.invariant-loop-row
invariant-loop-row l = IsSortingOf (log_rows_of_refs l.rows.items) (rows_of (rows_of_refs (take l.row-index l.by_stamp)))
