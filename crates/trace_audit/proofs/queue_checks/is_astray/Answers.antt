use Rattle.std.proofs.Common.{List, map, not, sym, ap, ◌∙◌}
use lib.Pointwise.{pointwise}
use Rattle.trace_audit.specs.Faults.{same_mark}
use Rattle.trace_audit.specs.Inner.Orders.{rows_of_refs}
use Rattle.trace_audit.specs.Logs.{TopicRow}
use Rattle.trace_audit.specs.Trace.{queue_mark, queue_of}
use Rattle.mcast_txn.specs.Span.{row_mark}
use Rattle.mcast_txn.specs.declared.mark.Mark.{Mark}
use Rattle.trace_audit.specs.declared.row.QueueRow.{QueueRow}
use Rattle.trace_audit.proofs.Slices.{marks_are}
use Rattle.trace_audit.proofs.queue_checks.is_astray.Goals as goal

pub returns : goal.returns
returns c =
    let log = rows_of_refs c.log_in-log.result.now in
    ap not (c.are_marks.ensures
    ∙ (ap (λ (z : List QueueRow). pointwise same_mark (map queue_mark z) (map (λ (logged : TopicRow). row_mark logged.row) log)) c.queue_in-queue.ensures
    ∙ ap (λ (z : List Mark). pointwise same_mark (queue_of c.args.span.now.sub (rows_of_refs c.args.by_sub.now)) z)
    (ap (map (λ (logged : TopicRow). row_mark logged.row)) c.log_in-log.ensures ∙ sym (marks_are c.args.span.now (rows_of_refs c.args.by_topic.now)))))
