use Rattle.std.proofs.Common.{◌≡◌, ◌++◌, map, drop}
use Rattle.trace_audit.specs.Inner.Printing.{row_of_ref}
use Rattle.trace_audit.specs.PrintedRows.{text_of}
use Rattle.trace_audit.proofs.text.trace_printing.put_rows.Given as goal

-- what is written and what is left make all lines
abbrev pub invariant-loop-row_ref : goal.invariant-loop-row_ref
invariant-loop-row_ref l = l.out ++ text_of (map row_of_ref (drop l.row_ref-index l.refs)) ≡ l.fn.out ++ text_of (map row_of_ref l.fn.refs)
