use Rattle.std.proofs.Common.{true, false, sym, subst, ◌∙◌}
use Rattle.trace_audit.specs.Faults.{are_different, are_colliding, are_disordered}
use Rattle.trace_audit.specs.Inner.Chained.{IsIndex}
use Rattle.trace_audit.proofs.Indexed.{indexed}
use Rattle.trace_audit.proofs.LogFaults.{two_is, order_is, at_verdicts, at_stamps, at_order, at_senders, at_hole, at_none}
use Rattle.trace_audit.proofs.auditor.find_log_fault.Goals as goal

pub returns-then-has_two_verdicts : goal.returns-then-has_two_verdicts
returns-then-has_two_verdicts c =
    at_verdicts c.args.logs.now
    (two_is are_different c.args.logs.now c.args.orders.now.by_id.items c.deref.result.now c.has_two_verdicts.result true c.has_two_verdicts.ensures c.deref.ensures.value c.requires.ids_moved c.if-has_two_verdicts.true)

pub returns-then-has_same_stamp : goal.returns-then-has_same_stamp
returns-then-has_same_stamp c =
    at_stamps c.args.logs.now
    (two_is are_different c.args.logs.now c.args.orders.now.by_id.items c.deref.result.now c.has_two_verdicts.result false c.has_two_verdicts.ensures c.deref.ensures.value c.requires.ids_moved c.if-has_two_verdicts.false)
    (two_is are_colliding c.args.logs.now c.args.orders.now.by_stamp.items c.deref-2.result.now c.has_same_stamp.result true c.has_same_stamp.ensures c.deref-2.ensures.value c.requires.stamps_moved c.if-has_same_stamp.true)

pub returns-then-is_out_of_order : goal.returns-then-is_out_of_order
returns-then-is_out_of_order c =
    at_order c.args.logs.now
    (two_is are_different c.args.logs.now c.args.orders.now.by_id.items c.deref.result.now c.has_two_verdicts.result false c.has_two_verdicts.ensures c.deref.ensures.value c.requires.ids_moved c.if-has_two_verdicts.false)
    (two_is are_colliding c.args.logs.now c.args.orders.now.by_stamp.items c.deref-2.result.now c.has_same_stamp.result false c.has_same_stamp.ensures c.deref-2.ensures.value c.requires.stamps_moved c.if-has_same_stamp.false)
    (order_is c.args.logs.now c.args.orders.now.by_topic.items c.deref-3.result.now c.is_out_of_order.result true c.is_out_of_order.ensures c.deref-3.ensures.value c.requires.grouping c.if-is_out_of_order.true)

pub returns-then-has_sender_disorder : goal.returns-then-has_sender_disorder
returns-then-has_sender_disorder c =
    at_senders c.args.logs.now
    (two_is are_different c.args.logs.now c.args.orders.now.by_id.items c.deref.result.now c.has_two_verdicts.result false c.has_two_verdicts.ensures c.deref.ensures.value c.requires.ids_moved c.if-has_two_verdicts.false)
    (two_is are_colliding c.args.logs.now c.args.orders.now.by_stamp.items c.deref-2.result.now c.has_same_stamp.result false c.has_same_stamp.ensures c.deref-2.ensures.value c.requires.stamps_moved c.if-has_same_stamp.false)
    (order_is c.args.logs.now c.args.orders.now.by_topic.items c.deref-3.result.now c.is_out_of_order.result false c.is_out_of_order.ensures c.deref-3.ensures.value c.requires.grouping c.if-is_out_of_order.false)
    (two_is are_disordered c.args.logs.now c.args.orders.now.by_id.items c.deref-4.result.now c.has_sender_disorder.result true c.has_sender_disorder.ensures c.deref-4.ensures.value c.requires.ids_moved c.if-has_sender_disorder.true)

pub returns-in-Some : goal.returns-in-Some
returns-in-Some c =
    at_hole c.args.logs.now
    c.in-Some.topic (two_is are_different c.args.logs.now c.args.orders.now.by_id.items c.deref.result.now c.has_two_verdicts.result false c.has_two_verdicts.ensures c.deref.ensures.value c.requires.ids_moved c.if-has_two_verdicts.false)
    (two_is are_colliding c.args.logs.now c.args.orders.now.by_stamp.items c.deref-2.result.now c.has_same_stamp.result false c.has_same_stamp.ensures c.deref-2.ensures.value c.requires.stamps_moved c.if-has_same_stamp.false)
    (order_is c.args.logs.now c.args.orders.now.by_topic.items c.deref-3.result.now c.is_out_of_order.result false c.is_out_of_order.ensures c.deref-3.ensures.value c.requires.grouping c.if-is_out_of_order.false)
    (two_is are_disordered c.args.logs.now c.args.orders.now.by_id.items c.deref-4.result.now c.has_sender_disorder.result false c.has_sender_disorder.ensures c.deref-4.ensures.value c.requires.ids_moved c.if-has_sender_disorder.false)
    (sym c.first_hole.ensures ∙ c.in-Some.is)

pub returns-in-None : goal.returns-in-None
returns-in-None c =
    at_none c.args.logs.now
    (two_is are_different c.args.logs.now c.args.orders.now.by_id.items c.deref.result.now c.has_two_verdicts.result false c.has_two_verdicts.ensures c.deref.ensures.value c.requires.ids_moved c.if-has_two_verdicts.false)
    (two_is are_colliding c.args.logs.now c.args.orders.now.by_stamp.items c.deref-2.result.now c.has_same_stamp.result false c.has_same_stamp.ensures c.deref-2.ensures.value c.requires.stamps_moved c.if-has_same_stamp.false)
    (order_is c.args.logs.now c.args.orders.now.by_topic.items c.deref-3.result.now c.is_out_of_order.result false c.is_out_of_order.ensures c.deref-3.ensures.value c.requires.grouping c.if-is_out_of_order.false)
    (two_is are_disordered c.args.logs.now c.args.orders.now.by_id.items c.deref-4.result.now c.has_sender_disorder.result false c.has_sender_disorder.ensures c.deref-4.ensures.value c.requires.ids_moved c.if-has_sender_disorder.false)
    (sym c.first_hole.ensures ∙ c.in-None.is)

pub first_hole-requires-clause-index : goal.first_hole-requires-clause-index
first_hole-requires-clause-index c =
    subst IsIndex (sym c.deref-5.ensures.value)
    (indexed c.args.logs.now c.args.orders.now.by_id.items c.args.orders.now.by_stamp.items c.args.orders.now.by_topic.items c.requires
    (two_is are_different c.args.logs.now c.args.orders.now.by_id.items c.deref.result.now c.has_two_verdicts.result false c.has_two_verdicts.ensures c.deref.ensures.value c.requires.ids_moved c.if-has_two_verdicts.false)
    (two_is are_colliding c.args.logs.now c.args.orders.now.by_stamp.items c.deref-2.result.now c.has_same_stamp.result false c.has_same_stamp.ensures c.deref-2.ensures.value c.requires.stamps_moved c.if-has_same_stamp.false)
    (order_is c.args.logs.now c.args.orders.now.by_topic.items c.deref-3.result.now c.is_out_of_order.result false c.is_out_of_order.ensures c.deref-3.ensures.value c.requires.grouping c.if-is_out_of_order.false))
