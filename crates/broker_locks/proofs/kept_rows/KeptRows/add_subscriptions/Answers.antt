use Rattle.std.proofs.Common.{◌≡◌, ◌<◌, ◌++◌, [], List, None, get_or, length, refl, ap, subst, ◌∙◌}
use Rattle.std.proofs.lemmas.Option.{slice_get-get_or}
use Rattle.mcast_txn.specs.Stamp.{zero_stamp}
use Rattle.trace_audit.specs.declared.fault.AddFault.{AddFault}
use Rattle.trace_audit.specs.declared.row.SpanRow.{SpanRow}
use Rattle.broker_locks.specs.declared.kept_span.KeptSpan.{KeptSpan}
use Rattle.broker_locks.specs.Inner.KeptRows.{RowsKept, span_row, span_trace, spans_rows, sub_in_log}
use Rattle.broker_locks.specs.KeptTrace.{AddsAll, AddsFirst}
use Rattle.broker_locks.specs.TopicTraces.{sub_rows}
use Rattle.broker_locks.proofs.Adding.{adds_no_row, err_is, flat_first, flat_more}
use Rattle.broker_locks.proofs.kept_rows.KeptRows.add_subscriptions.Goals as goal

abbrev no_span : KeptSpan
no_span = record { number = 0; from = zero_stamp; to = None }

pub loop-span-init : goal.loop-span-init
loop-span-init g c = adds_no_row [] c.args.trace.now refl

pub returns-in_err-add_subscription-clause-err : goal.returns-in_err-add_subscription-clause-err
returns-in_err-add_subscription-clause-err g c =
    let x = c.args.group.now.topic in
    let log = c.args.drained.now ++ c.args.held.now in
    let i = c.loop-span.span-index in
    let fault = c.in_err-add_subscription.field-0.0 in
    let same : c.deref-span-items.result.now ≡ c.args.self.now.spans = c.deref-span-items.ensures.value ∙ ap (λ (k : RowsKept). k.spans) c.self.view_is in
    let here : i < length c.args.self.now.spans = subst (λ (l : List KeptSpan). i < length l) same c.loop-span-test.true in
    let s = get_or c.args.self.now.spans i no_span in
    let is : c.span_row.result ≡ span_row x s = c.span_row.ensures ∙ ap (λ (l : List KeptSpan). span_row x (get_or l i no_span)) same in
    err_is c.from_residual.result fault (λ (f : AddFault). AddsFirst f (spans_rows x log c.args.self.now.spans) c.args.trace.now c.add_subscription.new.trace) c.from_residual.ensures.1
    (flat_first (λ (z : KeptSpan). sub_rows x.topic (span_trace x log z)) c.args.self.now.spans i s (slice_get-get_or c.args.self.now.spans i no_span here)
    c.args.trace.now c.loop-span.trace c.add_subscription.new.trace c.loop-span.invariant fault
    (subst (λ (r : SpanRow). AddsFirst fault (sub_rows r.topic (sub_in_log r log)) c.loop-span.trace c.add_subscription.new.trace) is c.in_err-add_subscription.ensures.err))

pub loop-span-preserved : goal.loop-span-preserved
loop-span-preserved g c =
    let x = c.args.group.now.topic in
    let log = c.args.drained.now ++ c.args.held.now in
    let i = c.loop-span.span-index in
    let same : c.deref-span-items.result.now ≡ c.args.self.now.spans = c.deref-span-items.ensures.value ∙ ap (λ (k : RowsKept). k.spans) c.self.view_is in
    let here : i < length c.args.self.now.spans = subst (λ (l : List KeptSpan). i < length l) same c.loop-span-test.true in
    let s = get_or c.args.self.now.spans i no_span in
    let is : c.span_row.result ≡ span_row x s = c.span_row.ensures ∙ ap (λ (l : List KeptSpan). span_row x (get_or l i no_span)) same in
    flat_more (λ (z : KeptSpan). sub_rows x.topic (span_trace x log z)) c.args.self.now.spans i s (slice_get-get_or c.args.self.now.spans i no_span here)
    c.args.trace.now c.loop-span.trace c.add_subscription.new.trace c.loop-span.invariant
    (subst (λ (r : SpanRow). AddsAll (sub_rows r.topic (sub_in_log r log)) c.loop-span.trace c.add_subscription.new.trace) is c.in_ok-add_subscription.ensures.ok)
