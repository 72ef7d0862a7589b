use Rattle.std.proofs.Common.{map, take}
use Rattle.std.specs.List.{AllByRecursion}
use Rattle.trace_audit.specs.Text.{IsRowInRange}
use Rattle.trace_audit.specs.declared.row.TraceRow.TheVariants as row_kind
use Rattle.trace_audit.proofs.ranges.logs_fit.Given as goal

-- the numbers of the rows so far fit
abbrev pub invariant-loop-row : goal.invariant-loop-row
invariant-loop-row l = AllByRecursion IsRowInRange (map (λ logged. row_kind.Log logged) (take l.row-index l.fn.logs))
