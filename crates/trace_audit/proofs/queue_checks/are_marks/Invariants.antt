use Rattle.std.proofs.Common.{◌≡◌, drop, map}
use lib.Pointwise.{pointwise}
use Rattle.trace_audit.specs.Faults.{same_mark}
use Rattle.trace_audit.specs.Inner.Orders.{rows_of_refs}
use Rattle.trace_audit.specs.Trace.{queue_mark}
use Rattle.mcast_txn.specs.Span.{row_mark}
use Rattle.trace_audit.proofs.queue_checks.are_marks.Given as goal

-- what is left is the same exactly where all is
abbrev pub invariant-loop-index : goal.invariant-loop-index
invariant-loop-index l =
    pointwise same_mark (map queue_mark (rows_of_refs (drop l.index l.queue))) (map (λ logged. row_mark logged.row) (rows_of_refs (drop l.index l.log)))
    ≡ pointwise same_mark (map queue_mark (rows_of_refs l.fn.queue)) (map (λ logged. row_mark logged.row) (rows_of_refs l.fn.log))
