use Rattle.std.proofs.Common.{◌≡◌, map, drop}
use Rattle.std.specs.List.{filter, flat_map}
use Rattle.trace_audit.specs.Faults.{is_hole, holes, least, lesser}
use Rattle.trace_audit.proofs.log_checks.first_hole.Given as goal

-- the best and what is left give the least
abbrev pub invariant-loop-row : goal.invariant-loop-row
invariant-loop-row l =
    lesser l.best (least (flat_map (λ logged. map (λ t. t.0) (filter (λ t. is_hole l.fn.logs logged.row t) logged.row.topics)) (drop l.row-index l.logs)))
    ≡ least (holes l.fn.logs)
