use Rattle.std.proofs.Common.{◌≡◌, drop}
use Rattle.std.specs.List.{list_all}
use Rattle.trace_audit.specs.Faults.{is_whole, log_has_row}
use Rattle.trace_audit.proofs.log_checks.is_whole.Given as goal

-- the rows that are left are whole exactly where all are
abbrev pub invariant-loop-row : goal.invariant-loop-row
invariant-loop-row l =
    list_all (λ logged. list_all (λ t. log_has_row t logged.row.id l.fn.logs) logged.row.topics) (drop l.row-index l.logs) ≡ is_whole l.fn.logs
