use Rattle.std.proofs.Common.{List, Bor, subst, ◌∙◌}
use Rattle.trace_audit.specs.Logs.{TopicRow}
use Rattle.trace_audit.specs.Inner.Orders.{rows_of_refs, log_rows_of_refs}
use Rattle.trace_audit.specs.Inner.Sorting.{IsSortingOf}
use Rattle.trace_audit.specs.Trace.{rows_of}
use Rattle.trace_audit.proofs.Putting.{sorting_moved}
use Rattle.trace_audit.proofs.auditor.agree.Goals as goal

pub returns-clause-sorted : goal.returns-clause-sorted
returns-clause-sorted c =
    let rows = log_rows_of_refs c.in_ok-rows.rows.items in
    sorting_moved rows c.args.logs.now (rows_of_refs c.args.orders.by_stamp.items) c.requires.orders.stamps_moved
    (subst (λ (z : List (Bor TopicRow)). IsSortingOf rows (rows_of (rows_of_refs z))) (c.deref-2.ensures.value ∙ c.into_by_stamp-by_stamp.ensures) c.in_ok-rows.ensures)
