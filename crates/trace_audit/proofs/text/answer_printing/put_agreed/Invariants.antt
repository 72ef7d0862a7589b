use Rattle.std.proofs.Common.{◌≡◌, ◌++◌, drop}
use Rattle.std.specs.List.{flat_map}
use Rattle.trace_audit.specs.AuditText.{agreed_line}
use Rattle.trace_audit.specs.Inner.Orders.{log_rows_of_refs}
use Rattle.trace_audit.proofs.text.answer_printing.put_agreed.Given as goal

-- what is written and what is left make all lines
abbrev pub invariant-loop-row : goal.invariant-loop-row
invariant-loop-row l = l.out ++ flat_map agreed_line (log_rows_of_refs (drop l.row-index l.rows)) ≡ l.fn.out ++ flat_map agreed_line (log_rows_of_refs l.fn.rows)
