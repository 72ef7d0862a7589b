use Rattle.std.proofs.Common.{◌≡◌, map, drop}
use Rattle.std.specs.List.{filter}
use Rattle.trace_audit.specs.Faults.{is_hole, least, lesser}
use Rattle.trace_audit.specs.Inner.Orders.{rows_of_refs}
use Rattle.trace_audit.proofs.log_checks.hole_of.Given as goal

-- the best and what is left give the least
abbrev pub invariant-loop-topic : goal.invariant-loop-topic
invariant-loop-topic l =
    lesser l.best (least (map (λ t. t.0) (filter (λ t. is_hole (rows_of_refs l.fn.by_topic) l.fn.row.row t) (drop l.topic-index l.topic-items))))
    ≡ least (map (λ t. t.0) (filter (λ t. is_hole (rows_of_refs l.fn.by_topic) l.fn.row.row t) l.fn.row.row.topics))
