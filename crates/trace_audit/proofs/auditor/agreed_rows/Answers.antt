use Rattle.std.proofs.Common.{◌+◌, List, take, sym, subst}
use Rattle.mcast_txn.specs.Span.{LogRow}
use Rattle.trace_audit.specs.Inner.Orders.{rows_of_refs, log_rows_of_refs}
use Rattle.trace_audit.specs.Inner.Sorting.{IsSortingOf, put_row}
use Rattle.trace_audit.specs.Trace.{rows_of}
use Rattle.trace_audit.proofs.Putting.{one_shown, put_sorted, taken_below}
use Rattle.trace_audit.proofs.auditor.agreed_rows.Goals as goal

pub put-requires-clause-below : goal.put-requires-clause-below
put-requires-clause-below c = λ row i.
    taken_below c.args.by_stamp.now c.loop-row.row-index c.row-item.result c.requires c.loop-row-test.true c.row-item.is row (c.loop-row.invariant.of_all row i)

pub loop-row-preserved : goal.loop-row-preserved
loop-row-preserved c =
    let rows = c.args.by_stamp.now in let i = c.loop-row.row-index in let d = c.row-item.result in
    subst (λ (z : List LogRow). IsSortingOf z (rows_of (rows_of_refs (take (i + 1) rows)))) (sym c.in_ok-put.ensures)
    (subst (λ (z : List LogRow). IsSortingOf (put_row d.now.row (log_rows_of_refs c.loop-row.rows.items)) z) (sym (one_shown rows i d c.loop-row-test.true c.row-item.is))
    (put_sorted (log_rows_of_refs c.loop-row.rows.items) (rows_of (rows_of_refs (take i rows))) d.now.row c.loop-row.invariant))
