use Rattle.std.proofs.Common.{◌≡◌, ◌++◌, List, refl, sym, ap, subst, ◌∙◌}
use Rattle.mcast_txn.specs.Lists.{Rises}
use Rattle.mcast_txn.specs.Span.{LogRow, row_stamp}
use Rattle.mcast_txn.specs.declared.id.Topic.{Topic}
use Rattle.trace_audit.specs.declared.fault.AddFault.{AddFault}
use Rattle.trace_audit.specs.declared.row.TraceRow.{TraceRow}
use Rattle.broker_locks.specs.Inner.KeptRows.{RowsKept, spans_rows, trace_kept}
use Rattle.broker_locks.specs.KeptTrace.{AddsAll, AddsFirst, topic_trace}
use Rattle.broker_locks.specs.TopicTraces.{log_rows, topic_rows}
use Rattle.broker_locks.proofs.Adding.{adds_before, adds_more, adds_then, err_is, if_err, on_ok, rows_are}
use Rattle.broker_locks.proofs.kept_rows.KeptRows.rows.Goals as goal

pub returns-in_err-add_log-clause-err : goal.returns-in_err-add_log-clause-err
returns-in_err-add_log-clause-err g c =
    let x = c.args.group.now.topic in
    let k = c.args.self.now in
    let drained : c.of_drained-drained.result ≡ k.drained = c.of_drained-drained.ensures ∙ (c.deref.ensures.value ∙ ap (λ (z : RowsKept). z.drained) c.self.view_is) in
    let a = log_rows x.topic k.drained in
    let b = log_rows x.topic x.held in
    let s = spans_rows x (k.drained ++ x.held) k.spans in
    let all : topic_rows (topic_trace x (trace_kept x.held k)) ≡ a ++ (b ++ s) = rows_are x k c.requires.sound c.requires.traced in
    let first_is : log_rows c.topic.result c.of_drained-drained.result ≡ a = ap (λ (t : Topic). log_rows t c.of_drained-drained.result) c.topic.ensures ∙ ap (log_rows x.topic) drained in
    let fault = c.in_err-add_log.field-0.0 in
    err_is c.from_residual.result fault (λ (f : AddFault). AddsFirst f (topic_rows (topic_trace x (trace_kept x.held k))) c.args.trace.now c.add_log.new.trace) c.from_residual.ensures.1
    (adds_before fault (topic_rows (topic_trace x (trace_kept x.held k))) a (b ++ s) c.args.trace.now c.add_log.new.trace all
    (subst (λ (z : List TraceRow). AddsFirst fault z c.args.trace.now c.add_log.new.trace) first_is c.in_err-add_log.ensures.err))

pub returns-in_err-add_log-2-clause-err : goal.returns-in_err-add_log-2-clause-err
returns-in_err-add_log-2-clause-err g c =
    let x = c.args.group.now.topic in
    let k = c.args.self.now in
    let drained : c.of_drained-drained.result ≡ k.drained = c.of_drained-drained.ensures ∙ (c.deref.ensures.value ∙ ap (λ (z : RowsKept). z.drained) c.self.view_is) in
    let a = log_rows x.topic k.drained in
    let b = log_rows x.topic x.held in
    let s = spans_rows x (k.drained ++ x.held) k.spans in
    let all : topic_rows (topic_trace x (trace_kept x.held k)) ≡ a ++ (b ++ s) = rows_are x k c.requires.sound c.requires.traced in
    let first_is : log_rows c.topic.result c.of_drained-drained.result ≡ a = ap (λ (t : Topic). log_rows t c.of_drained-drained.result) c.topic.ensures ∙ ap (log_rows x.topic) drained in
    let second_is : log_rows c.topic-2.result c.of_held-held.result ≡ b = ap (λ (t : Topic). log_rows t c.of_held-held.result) c.topic-2.ensures ∙ ap (log_rows x.topic) c.of_held-held.ensures in
    let first : AddsAll a c.args.trace.now c.add_log.new.trace = subst (λ (z : List TraceRow). AddsAll z c.args.trace.now c.add_log.new.trace) first_is c.in_ok-add_log.ensures.ok in
    let fault = c.in_err-add_log-2.field-0.0 in
    err_is c.from_residual-in_err-add_log-2.result fault (λ (f : AddFault). AddsFirst f (topic_rows (topic_trace x (trace_kept x.held k))) c.args.trace.now c.add_log-2.new.trace) c.from_residual-in_err-add_log-2.ensures.1
    (adds_more fault (topic_rows (topic_trace x (trace_kept x.held k))) a (b ++ s) c.args.trace.now c.add_log.new.trace c.add_log-2.new.trace all first
    (adds_before fault (b ++ s) b s c.add_log.new.trace c.add_log-2.new.trace refl
    (subst (λ (z : List TraceRow). AddsFirst fault z c.add_log.new.trace c.add_log-2.new.trace) second_is c.in_err-add_log-2.ensures.err)))

pub add_subscriptions-requires : goal.add_subscriptions-requires
add_subscriptions-requires g c =
    let x = c.args.group.now.topic in
    let k = c.args.self.now in
    let drained : c.of_drained-drained.result ≡ k.drained = c.of_drained-drained.ensures ∙ (c.deref.ensures.value ∙ ap (λ (z : RowsKept). z.drained) c.self.view_is) in
    let log : c.of_drained-drained.result ++ c.of_held-held.result ≡ k.drained ++ x.held = ap (λ (z : List LogRow). z ++ c.of_held-held.result) drained ∙ ap (λ (z : List LogRow). k.drained ++ z) c.of_held-held.ensures in
    subst (Rises row_stamp) (sym log) c.requires.traced.rises

pub returns-clause-ok : goal.returns-clause-ok
returns-clause-ok g c =
    let x = c.args.group.now.topic in
    let k = c.args.self.now in
    let drained : c.of_drained-drained.result ≡ k.drained = c.of_drained-drained.ensures ∙ (c.deref.ensures.value ∙ ap (λ (z : RowsKept). z.drained) c.self.view_is) in
    let a = log_rows x.topic k.drained in
    let b = log_rows x.topic x.held in
    let s = spans_rows x (k.drained ++ x.held) k.spans in
    let all : topic_rows (topic_trace x (trace_kept x.held k)) ≡ a ++ (b ++ s) = rows_are x k c.requires.sound c.requires.traced in
    let first_is : log_rows c.topic.result c.of_drained-drained.result ≡ a = ap (λ (t : Topic). log_rows t c.of_drained-drained.result) c.topic.ensures ∙ ap (log_rows x.topic) drained in
    let second_is : log_rows c.topic-2.result c.of_held-held.result ≡ b = ap (λ (t : Topic). log_rows t c.of_held-held.result) c.topic-2.ensures ∙ ap (log_rows x.topic) c.of_held-held.ensures in
    let first : AddsAll a c.args.trace.now c.add_log.new.trace = subst (λ (z : List TraceRow). AddsAll z c.args.trace.now c.add_log.new.trace) first_is c.in_ok-add_log.ensures.ok in
    let second : AddsAll b c.add_log.new.trace c.add_log-2.new.trace = subst (λ (z : List TraceRow). AddsAll z c.add_log.new.trace c.add_log-2.new.trace) second_is c.in_ok-add_log-2.ensures.ok in
    let log : c.of_drained-drained.result ++ c.of_held-held.result ≡ k.drained ++ x.held = ap (λ (z : List LogRow). z ++ c.of_held-held.result) drained ∙ ap (λ (z : List LogRow). k.drained ++ z) c.of_held-held.ensures in
    let third_is : spans_rows x (c.of_drained-drained.result ++ c.of_held-held.result) k.spans ≡ s = ap (λ (z : List LogRow). spans_rows x z k.spans) log in
    on_ok c.add_subscriptions.result (λ adds.
    subst (λ (z : List TraceRow). AddsAll z c.args.trace.now c.add_subscriptions.new.trace) (sym all)
    (adds_then a (b ++ s) c.args.trace.now c.add_log.new.trace c.add_subscriptions.new.trace first
    (adds_then b s c.add_log.new.trace c.add_log-2.new.trace c.add_subscriptions.new.trace second
    (subst (λ (z : List TraceRow). AddsAll z c.add_log-2.new.trace c.add_subscriptions.new.trace) third_is adds)))) c.add_subscriptions.ensures.ok

pub returns-clause-err : goal.returns-clause-err
returns-clause-err g c =
    let x = c.args.group.now.topic in
    let k = c.args.self.now in
    let drained : c.of_drained-drained.result ≡ k.drained = c.of_drained-drained.ensures ∙ (c.deref.ensures.value ∙ ap (λ (z : RowsKept). z.drained) c.self.view_is) in
    let a = log_rows x.topic k.drained in
    let b = log_rows x.topic x.held in
    let s = spans_rows x (k.drained ++ x.held) k.spans in
    let all : topic_rows (topic_trace x (trace_kept x.held k)) ≡ a ++ (b ++ s) = rows_are x k c.requires.sound c.requires.traced in
    let first_is : log_rows c.topic.result c.of_drained-drained.result ≡ a = ap (λ (t : Topic). log_rows t c.of_drained-drained.result) c.topic.ensures ∙ ap (log_rows x.topic) drained in
    let second_is : log_rows c.topic-2.result c.of_held-held.result ≡ b = ap (λ (t : Topic). log_rows t c.of_held-held.result) c.topic-2.ensures ∙ ap (log_rows x.topic) c.of_held-held.ensures in
    let first : AddsAll a c.args.trace.now c.add_log.new.trace = subst (λ (z : List TraceRow). AddsAll z c.args.trace.now c.add_log.new.trace) first_is c.in_ok-add_log.ensures.ok in
    let second : AddsAll b c.add_log.new.trace c.add_log-2.new.trace = subst (λ (z : List TraceRow). AddsAll z c.add_log.new.trace c.add_log-2.new.trace) second_is c.in_ok-add_log-2.ensures.ok in
    let log : c.of_drained-drained.result ++ c.of_held-held.result ≡ k.drained ++ x.held = ap (λ (z : List LogRow). z ++ c.of_held-held.result) drained ∙ ap (λ (z : List LogRow). k.drained ++ z) c.of_held-held.ensures in
    let third_is : spans_rows x (c.of_drained-drained.result ++ c.of_held-held.result) k.spans ≡ s = ap (λ (z : List LogRow). spans_rows x z k.spans) log in
    if_err c.add_subscriptions.result (λ fault stops.
    adds_more fault (topic_rows (topic_trace x (trace_kept x.held k))) a (b ++ s) c.args.trace.now c.add_log.new.trace c.add_subscriptions.new.trace all first
    (adds_more fault (b ++ s) b s c.add_log.new.trace c.add_log-2.new.trace c.add_subscriptions.new.trace refl second
    (subst (λ (z : List TraceRow). AddsFirst fault z c.add_log-2.new.trace c.add_subscriptions.new.trace) third_is stops))) c.add_subscriptions.ensures.err
