use Rattle.std.proofs.Common.{◌++◌, [], ◌∷◌, List, refl, ap, subst, sym, map}
use Rattle.mcast_txn.specs.Span.{row_stamp}
use Rattle.mcast_txn.proofs.Sorting.{Rises-back, Rises-front}
use Rattle.trace_audit.specs.declared.fault.AddFault.{AddFault}
use Rattle.trace_audit.specs.declared.row.TraceRow.{TraceRow}
use Rattle.trace_audit.specs.declared.row.TraceRow.TheVariants as row
use Rattle.broker_locks.specs.Inner.KeptRows.{sub_in_log}
use Rattle.broker_locks.specs.KeptTrace.{AddsAll, AddsFirst, marks_between}
use Rattle.broker_locks.specs.TopicTraces.{queue_row, sub_rows}
use Rattle.broker_locks.proofs.Adding.{adds_before, adds_more, adds_none, adds_one, adds_then, err_is, if_err, marks_of_both, on_ok}
use Rattle.broker_locks.proofs.trace_rows.add_subscription.Goals as goal

pub returns-in_err-add-clause-err : goal.returns-in_err-add-clause-err
returns-in_err-add-clause-err g c =
    let span = c.args.span in
    let fault = c.in_err-add.field-0.0 in
    err_is c.from_residual.result fault (λ (f : AddFault). AddsFirst f (sub_rows span.topic (sub_in_log span (c.args.drained.now ++ c.args.held.now))) c.args.trace.now c.add.new.self) c.from_residual.ensures.1
    (adds_none fault (row.Span span) _ c.args.trace.now c.add.new.self c.in_err-add.ensures.kept c.in_err-add.ensures.fault)

pub add_marks-requires : goal.add_marks-requires
add_marks-requires g c = Rises-front row_stamp c.args.drained.now c.args.held.now c.requires

pub returns-in_err-add_marks-clause-err : goal.returns-in_err-add_marks-clause-err
returns-in_err-add_marks-clause-err g c =
    let span = c.args.span in
    let fault = c.in_err-add_marks.field-0.0 in
    let a = map (queue_row span.sub) (marks_between span.from span.to c.args.drained.now) in
    let b = map (queue_row span.sub) (marks_between span.from span.to c.args.held.now) in
    let both = marks_of_both span.sub span.from span.to c.args.drained.now c.args.held.now in
    let opened = adds_one (row.Span span) c.args.trace.now c.add.new.self c.in_ok-add.ensures.fits c.in_ok-add.ensures.added in
    err_is c.from_residual-in_err-add_marks.result fault (λ (f : AddFault). AddsFirst f (sub_rows span.topic (sub_in_log span (c.args.drained.now ++ c.args.held.now))) c.args.trace.now c.add_marks.new.trace) c.from_residual-in_err-add_marks.ensures.1
    (adds_more fault _ (row.Span span ∷ []) (a ++ b) c.args.trace.now c.add.new.self c.add_marks.new.trace (ap (λ (z : List TraceRow). row.Span span ∷ z) both) opened
    (adds_before fault (a ++ b) a b c.add.new.self c.add_marks.new.trace refl c.in_err-add_marks.ensures.err))

pub add_marks-requires-2 : goal.add_marks-requires-2
add_marks-requires-2 g c = Rises-back row_stamp c.args.drained.now c.args.held.now c.requires

pub returns-clause-ok : goal.returns-clause-ok
returns-clause-ok g c =
    let span = c.args.span in
    let a = map (queue_row span.sub) (marks_between span.from span.to c.args.drained.now) in
    let b = map (queue_row span.sub) (marks_between span.from span.to c.args.held.now) in
    let both = marks_of_both span.sub span.from span.to c.args.drained.now c.args.held.now in
    let opened = adds_one (row.Span span) c.args.trace.now c.add.new.self c.in_ok-add.ensures.fits c.in_ok-add.ensures.added in
    on_ok c.add_marks-2.result (λ adds.
    subst (λ (z : List TraceRow). AddsAll z c.args.trace.now c.add_marks-2.new.trace) (sym (ap (λ (z : List TraceRow). row.Span span ∷ z) both))
    (adds_then (row.Span span ∷ []) (a ++ b) c.args.trace.now c.add.new.self c.add_marks-2.new.trace opened
    (adds_then a b c.add.new.self c.add_marks.new.trace c.add_marks-2.new.trace c.in_ok-add_marks.ensures.ok adds))) c.add_marks-2.ensures.ok

pub returns-clause-err : goal.returns-clause-err
returns-clause-err g c =
    let span = c.args.span in
    let a = map (queue_row span.sub) (marks_between span.from span.to c.args.drained.now) in
    let b = map (queue_row span.sub) (marks_between span.from span.to c.args.held.now) in
    let both = marks_of_both span.sub span.from span.to c.args.drained.now c.args.held.now in
    let opened = adds_one (row.Span span) c.args.trace.now c.add.new.self c.in_ok-add.ensures.fits c.in_ok-add.ensures.added in
    if_err c.add_marks-2.result (λ fault first.
    adds_more fault _ (row.Span span ∷ []) (a ++ b) c.args.trace.now c.add.new.self c.add_marks-2.new.trace (ap (λ (z : List TraceRow). row.Span span ∷ z) both) opened
    (adds_more fault (a ++ b) a b c.add.new.self c.add_marks.new.trace c.add_marks-2.new.trace refl c.in_ok-add_marks.ensures.ok first)) c.add_marks-2.ensures.err
