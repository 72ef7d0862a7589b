use Rattle.std.proofs.Common.{◌≡◌, length, sym, ap, ◌∙◌, arith}
use Rattle.delivery.proofs.Words.All.{Report, View}
use Rattle.delivery.proofs.Views.Runs.ReportOfView.{subs_length}
use Rattle.delivery.proofs.net_state.report.Report.subscriptions_len.Goals as goal

pub returns : goal.returns
returns c =
    let many : c.len.result ≡ length c.state.inside.subs.items = omega (arith, c.state.inside.subs.ok.0, c.len.ensures) in
    many
    ∙ (ap (λ (v : View). length v.subs) c.state.view_is
    ∙ (sym (subs_length c.self.inside.state.now)
    ∙ ap (λ (r : Report). length r.subscriptions) c.self.view_is))
