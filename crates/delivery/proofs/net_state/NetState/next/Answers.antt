use Rattle.std.proofs.Common.{refl, sym, ap, subst, ◌∙◌}
use Rattle.delivery.proofs.Words.All.{Event, Outcome, idle_objection, Makes, View}
use Rattle.delivery.proofs.Views.Events.ReadingChecks.{idle_within}
use Rattle.delivery.proofs.Views.Events.NextFaults.{next_refused}
use Rattle.delivery.proofs.Views.Clients.BothOfStep.{silent_both}
use Rattle.delivery.proofs.net_state.NetState.next.Goals as goal

pub read_frame-requires-clause-idle : goal.read_frame-requires-clause-idle
read_frame-requires-clause-idle c =
    let is = c.requires.2 in (c.requires.0, c.requires.1, sym (ap (λ (v : View). idle_objection v c.args.connection) is) ∙ c.in-Ok.ensures, is, c.requires.3)

pub read_frame-requires-clause-there : goal.read_frame-requires-clause-there
read_frame-requires-clause-there c = idle_within c.args.self.now c.args.connection c.in-Ok.ensures

pub returns-in-Ok : goal.returns-in-Ok
returns-in-Ok c k reached is kept = c.read_frame.ensures k reached (sym (ap (λ (v : View). idle_objection v c.args.connection) is) ∙ c.in-Ok.ensures) is kept

pub returns-in-Err : goal.returns-in-Err
returns-in-Err c k reached is kept =
    let h = c.in-Err.ensures in let why = sym (ap (λ (v : View). idle_objection v c.args.connection) is) ∙ h.1 in
    silent_both k c.args.connection (Outcome.Refused c.in-Err.refusal) c.args.self.now c.args.clients.now refl
    (subst (λ (v : View). Makes k (Event.Next c.args.connection) (Outcome.Refused c.in-Err.refusal) v) (sym is)
    (next_refused k c.args.connection h.0 c.in-Err.refusal why h.2)) kept
