use Rattle.delivery.proofs.Words.All.{◌≡◌, ◌<◌, length, Some, ap, sym, ◌∙◌, arith, slice_get, TraceData, has_span}
use Rattle.delivery.proofs.Traces.Made.{next_has_none, subs_grow}
use Rattle.delivery.proofs.net_state.trace.add_subscriptions.Goals as goal

pub add_subscription-requires : goal.add_subscription-requires
add_subscription-requires c =
    let qs = c.args.report.now.subscriptions in
    let there : c.loop-sub.sub < length qs = omega (arith, c.loop-sub-test.true, c.loop-sub.auto.sub-end, c.subscriptions_len-sub-end.ensures) in
    ap (λ (z : TraceData). has_span c.loop-sub.sub z.spans) c.loop-sub.invariant ∙ next_has_none c.loop-sub.sub qs there

pub loop-sub-preserved : goal.loop-sub-preserved
loop-sub-preserved c =
    let qs = c.args.report.now.subscriptions in let is : slice_get qs c.loop-sub.sub ≡ Some c.unwrap-queue.result = sym c.subscription.ensures ∙ c.unwrap-queue.ensures in
    subs_grow c.args.trace.now c.loop-sub.trace c.add_subscription.new.trace qs c.loop-sub.sub c.unwrap-queue.result
    is c.loop-sub.invariant c.in_ok-add_subscription.ensures
