use Rattle.delivery.proofs.Words.All.{get_or, set, None, sym, ap, subst, ◌∙◌, slice_get, Event, Outcome, Makes, endpoint_objection, View, leaving_endpoint, no_endpoint}
use Rattle.delivery.proofs.Views.Endpoints.DisconnectIsLast.{not_parting}
use Rattle.delivery.proofs.Views.Events.LostStep.{lost_makes, lost_refused}
use Rattle.delivery.proofs.net_state.NetState.lost.Goals as goal

pub returns-in-Ok : goal.returns-in-Ok
returns-in-Ok c k reached is =
    let free = ap (λ (v : View). endpoint_objection (slice_get v.endpoints c.args.connection)) (sym is) ∙ c.in-Ok.ensures in
    let new = c.begin_leaving.ensures no_endpoint ∙ ap (λ (v : View). record v { endpoints = set v.endpoints c.args.connection (leaving_endpoint None (get_or v.endpoints c.args.connection no_endpoint)) }) is in
    subst (λ (v : View). Makes k (Event.Lost c.args.connection) Outcome.Leaving v) (sym new) (lost_makes k c.args.connection no_endpoint (not_parting k c.args.connection reached) free)

pub returns-in-Err : goal.returns-in-Err
returns-in-Err c k reached is =
    let h = c.in-Err.ensures in let why = ap (λ (v : View). endpoint_objection (slice_get v.endpoints c.args.connection)) (sym is) ∙ h.1 in
    subst (λ (v : View). Makes k (Event.Lost c.args.connection) (Outcome.Refused c.in-Err.refusal) v) (sym is)
    (lost_refused k c.args.connection h.0 c.in-Err.refusal why h.2)
