use Rattle.std.proofs.Common.{◌≡◌, ◌≤◌, List, map, Some, sym, ap, subst, ◌∙◌}
use Rattle.std.specs.Option.{option_map}
use Rattle.std.specs.Prelude.{slice_get}
use Rattle.std.proofs.lemmas.Option.{slice_get_within}
use Rattle.mcast_txn.specs.Span.{LogRow, row_mark}
use Rattle.trace_audit.specs.declared.fault.AddFault.{AddFault}
use Rattle.mcast_txn.specs.declared.mark.Mark.{Mark}
use Rattle.trace_audit.specs.Rows.{is_misfit, says_misfit, with_row}
use Rattle.broker_locks.specs.KeptTrace.{AddsAll, AddsFirst, marks_between}
use Rattle.broker_locks.specs.TopicTraces.{queue_row}
use Rattle.broker_locks.proofs.Adding.{adds_no_row, adds_none, adds_one, err_is, lies_in, marks_done, marks_first, marks_more_rows, marks_none_yet}
use Rattle.broker_locks.proofs.trace_rows.add_marks.Goals as goal

pub loop-i-init : goal.loop-i-init
loop-i-init g c =
    adds_no_row _ c.args.trace.now (ap (map (queue_row c.args.span.sub)) (marks_none_yet c.args.span.from c.args.span.to c.args.log.now c.count_to-i.result c.count_to-i.ensures.past))

pub returns-in_err-add-clause-err : goal.returns-in_err-add-clause-err
returns-in_err-add-clause-err g c =
    let log = c.args.log.now in
    let span = c.args.span in
    let r = c.unwrap-row.result.now in
    let fault = c.in_err-add.field-0.0 in
    let is : slice_get log c.loop-i.i ≡ Some r = sym c.row.ensures ∙ ap (option_map _) c.unwrap-row.ensures in
    let there = slice_get_within log c.loop-i.i r is in
    let begins : c.count_to-i.result ≤ c.loop-i.i = c.loop-i.auto.i in
    let within = lies_in span.from span.to log c.loop-i.i r is (c.count_to-i.ensures.above c.loop-i.i r begins there) (c.count_up_to-end.ensures.before c.loop-i.i r c.loop-i-test.true) in
    let misfit : is_misfit (queue_row span.sub (row_mark r)) c.loop-i.trace ≡ says_misfit fault = c.in_err-add.ensures.fault in
    err_is c.from_residual.result fault (λ (f : AddFault). AddsFirst f (map (queue_row span.sub) (marks_between span.from span.to log)) c.args.trace.now c.add.new.self) c.from_residual.ensures.1
    (marks_first span.sub span.from span.to log c.loop-i.i r is within c.args.trace.now c.loop-i.trace c.add.new.self c.loop-i.invariant fault
    (adds_none fault (queue_row span.sub (row_mark r)) _ c.loop-i.trace c.add.new.self c.in_err-add.ensures.kept misfit))

pub loop-i-preserved : goal.loop-i-preserved
loop-i-preserved g c =
    let span = c.args.span in
    let r = c.unwrap-row.result.now in
    let is : slice_get c.args.log.now c.loop-i.i ≡ Some r = sym c.row.ensures ∙ ap (option_map _) c.unwrap-row.ensures in
    let there = slice_get_within c.args.log.now c.loop-i.i r is in
    let begins : c.count_to-i.result ≤ c.loop-i.i = c.loop-i.auto.i in
    let within = lies_in span.from span.to c.args.log.now c.loop-i.i r is (c.count_to-i.ensures.above c.loop-i.i r begins there) (c.count_up_to-end.ensures.before c.loop-i.i r c.loop-i-test.true) in
    marks_more_rows span.sub span.from span.to c.args.log.now c.loop-i.i r is within c.args.trace.now c.loop-i.trace c.add.new.self c.loop-i.invariant
    (adds_one (queue_row span.sub (row_mark r)) c.loop-i.trace c.add.new.self c.in_ok-add.ensures.fits
    (c.in_ok-add.ensures.added ∙ ap (λ (z : LogRow). with_row (queue_row span.sub (row_mark z)) c.loop-i.trace) c.row-in-loop-i.view_is))

pub returns-clause-ok : goal.returns-clause-ok
returns-clause-ok g c =
    subst (λ (ms : List Mark). AddsAll (map (queue_row c.args.span.sub) ms) c.args.trace.now c.loop-i.trace)
    (marks_done c.args.span.from c.args.span.to c.args.log.now c.count_up_to-end.result c.count_up_to-end.ensures.after c.loop-i.i c.loop-i-test.false) c.loop-i.invariant
