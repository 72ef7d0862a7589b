use Rattle.std.proofs.Common.{◌+◌, ℕ, List, map, drop, Option, sym, ap, ◌∙◌}
use Rattle.std.specs.List.{filter, flat_map}
use Rattle.mcast_txn.specs.declared.id.Topic.{Topic}
use Rattle.trace_audit.specs.Faults.{is_hole, least, lesser}
use Rattle.trace_audit.specs.Logs.{TopicRow}
use Rattle.trace_audit.specs.Inner.Orders.{rows_of_refs}
use Rattle.trace_audit.proofs.Indexed.{holes_moved, row_within}
use Rattle.trace_audit.proofs.Least.{one_more, rest_is}
use Rattle.trace_audit.proofs.log_checks.first_hole.Goals as goal

pub hole_of-requires-clause-within : goal.hole_of-requires-clause-within
hole_of-requires-clause-within c =
    row_within c.args.logs.now (rows_of_refs c.args.by_topic.now) c.loop-row.row-index c.row-item.result c.requires.moved c.loop-row-test.true c.row-item.is

pub loop-row-preserved : goal.loop-row-preserved
loop-row-preserved c =
    let logs = c.args.logs.now in
    let i = c.loop-row.row-index in
    let f : TopicRow → List ℕ = λ logged. map (λ (t : Topic). t.0) (filter (λ (t : Topic). is_hole logs logged.row t) logged.row.topics) in
    let rest = drop (i + 1) logs in
    ap (λ (z : Option ℕ). lesser z (least (flat_map f rest))) (c.lesser-best.ensures ∙ ap (lesser c.loop-row.best) (c.hole_of.ensures ∙ ap least (holes_moved c.row-item.result.row logs (rows_of_refs c.args.by_topic.now) c.requires.moved)))
    ∙ (one_more f c.loop-row.best c.row-item.result rest
    ∙ (ap (λ (z : List TopicRow). lesser c.loop-row.best (least (flat_map f z))) (sym (rest_is logs i c.row-item.result c.loop-row-test.true c.row-item.is))
    ∙ c.loop-row.invariant))
