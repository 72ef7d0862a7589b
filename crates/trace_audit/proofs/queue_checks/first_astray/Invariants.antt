use Rattle.std.proofs.Common.{◌≡◌, map, drop}
use Rattle.std.specs.List.{filter}
use Rattle.trace_audit.specs.Faults.{astray_subs, is_astray, least, lesser}
use Rattle.trace_audit.proofs.queue_checks.first_astray.Given as goal

-- the best and what is left give the least
abbrev pub invariant-loop-span : goal.invariant-loop-span
invariant-loop-span l =
    lesser l.best (least (map (λ span. span.sub) (filter (λ span. is_astray l.fn.trace span) (drop l.span-index l.span-items))))
    ≡ least (astray_subs l.fn.trace)
