use Rattle.std.proofs.Common.{◌-◌, ◌==◌, ◌&&◌, length, take, drop, sym, subst, rules}
use Rattle.std.specs.List.Sorted.{IsPartitionedBy}
use Rattle.std.proofs.lemmas.List.{take_rest}
use Rattle.std.proofs.lemmas.List.Sorted.{IsPartitionPoint-from_clause}
use Rattle.mcast_txn.specs.Span.{in_span}
use Rattle.trace_audit.specs.Inner.Chained.{is_up_to_from, is_up_to_end}
use Rattle.trace_audit.proofs.Slices.{between_rest, span_is, span_begins, span_ends}
use Rattle.trace_audit.proofs.queue_checks.log_in.Goals as goal

pub returns : goal.returns
returns c =
    let rows = c.args.by_topic.now in
    let span = c.args.span.now in
    let m = c.partition_point-start.result in
    let n = c.partition_point-len.result in
    let e = take_rest rows m in
    between_rest (is_up_to_from span) (is_up_to_end span) (λ logged. logged.topic.0 == span.topic.0 && in_span span.from span.to logged.row.stamp) rows (take (length rows - m) (drop m rows)) m n e (span_is span)
    (IsPartitionPoint-from_clause (λ r. is_up_to_from span r.now) rows m c.partition_point-start.ensures.partitioned (span_begins span rows c.requires) (λ a r q k. search rules))
    (IsPartitionPoint-from_clause (λ r. is_up_to_end span r.now) (take (length rows - m) (drop m rows)) n c.partition_point-len.ensures.partitioned
    (subst (λ z. IsPartitionedBy (λ r. is_up_to_end span r.now) z) (sym e) (span_ends span m rows c.requires)) (λ a r q k. search rules))
