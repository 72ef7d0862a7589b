use Rattle.std.proofs.Common.{◌≡◌, drop}
use Rattle.std.specs.List.{list_all}
use Rattle.trace_audit.specs.Faults.{log_has_row}
use Rattle.trace_audit.specs.Inner.Orders.{rows_of_refs}
use Rattle.trace_audit.proofs.log_checks.is_everywhere.Given as goal

-- what is left has the row exactly where all have it
abbrev pub invariant-loop-topic : goal.invariant-loop-topic
invariant-loop-topic l =
    list_all (λ t. log_has_row t l.fn.row.row.id (rows_of_refs l.fn.by_topic)) (drop l.topic-index l.topic-items)
    ≡ list_all (λ t. log_has_row t l.fn.row.row.id (rows_of_refs l.fn.by_topic)) l.fn.row.row.topics
