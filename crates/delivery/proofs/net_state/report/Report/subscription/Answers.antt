use Rattle.delivery.proofs.Words.All.{◌≡◌, List, slice_get, Option, Some, None, sym, ap, ◌∙◌, option_map, slice_get_past, slice_get-get_or, Report, View, SubView, sub_report}
use Rattle.delivery.proofs.Views.Runs.ReportOfView.{sub_reported}
use Rattle.delivery.proofs.net_state.report.Report.subscription.Goals as goal

pub returns-in_err-subscription : goal.returns-in_err-subscription
returns-in_err-subscription c =
    let v = c.self.inside.state.now in let subs : v.subs ≡ c.deref.result.now = ap (λ (u : View). u.subs) (sym c.state.view_is) ∙ sym c.deref.ensures.value in
    let is : slice_get v.subs c.args.sub ≡ None =
    ap (λ (xs : List SubView). slice_get xs c.args.sub) subs ∙ slice_get_past c.deref.result.now c.args.sub c.in_err-subscription.ensures.lookup.3 in
    c.from_residual.ensures
    ∙ sym (ap (λ (r : Report). slice_get r.subscriptions c.args.sub) (sym c.self.view_is)
    ∙ (sub_reported v c.args.sub ∙ ap (λ (o : Option SubView). option_map (sub_report v.groups c.args.sub) o) is))

pub returns : goal.returns
returns c =
    let v = c.self.inside.state.now in let h = c.in_ok-subscription.ensures.lookup in
    let subs : v.subs ≡ c.deref.result.now = ap (λ (u : View). u.subs) (sym c.state.view_is) ∙ sym c.deref.ensures.value in
    let is : slice_get v.subs c.args.sub ≡ Some c.in_ok-subscription.subscription.now =
    ap (λ (xs : List SubView). slice_get xs c.args.sub) subs
    ∙ (slice_get-get_or c.deref.result.now c.args.sub c.in_ok-subscription.subscription.now h.3.0 ∙ ap (λ (x : SubView). Some x) (sym h.1)) in
    ap (λ (q : Rattle.delivery.specs.Core.Reports.QueueReport). Some q) c.queue_report.ensures
    ∙ sym (ap (λ (r : Report). slice_get r.subscriptions c.args.sub) (sym c.self.view_is)
    ∙ (sub_reported v c.args.sub ∙ ap (λ (o : Option SubView). option_map (sub_report v.groups c.args.sub) o) is))
