use Rattle.std.proofs.Common.{◌≡◌, ◌++◌, map, take}
use Rattle.trace_audit.specs.Inner.Printing.{row_of_ref}
use Rattle.trace_audit.specs.declared.row.TraceRow.TheVariants as row
use Rattle.trace_audit.proofs.text.trace_printing.put_queues.Given as goal

-- the rows so far are there
abbrev pub invariant-loop-row : goal.invariant-loop-row
invariant-loop-row l = map row_of_ref l.refs.items ≡ map row_of_ref l.fn.refs.items ++ map (λ queued. row.Queue queued) (take l.row-index l.fn.queues)
