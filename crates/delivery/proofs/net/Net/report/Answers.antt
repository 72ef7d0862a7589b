use Rattle.std.proofs.Common.{refl, subst}
use Rattle.delivery.proofs.Words.All.{KeptRun, IsDelivered, report_in}
use Rattle.delivery.proofs.Views.Runs.KeptRuns.{is_delivered}
use Rattle.delivery.proofs.net.Net.report.Goals as goal

pub returns : goal.returns
returns c =
    let is : IsDelivered c.args.self.now (report_in c.self.inside.state) =
    subst (λ (net : KeptRun). IsDelivered net (report_in c.self.inside.state)) c.self.view_is
    (is_delivered _ c.self.inside.state refl c.self.invariant.run) in
    record { kept = is.kept; read = is.read; delivered = is.delivered; written = is.written; answered = is.answered }
