use Rattle.delivery.proofs.Words.All.{sym, ap, subst, ◌∙◌, slice_get, Event, Outcome, there_objection, speaker_at, cancel_refusal_in, cancelled_view, Makes, View}
use Rattle.delivery.proofs.Views.Events.CancelStep.{cancel_gone, cancel_refused, cancel_makes}
use Rattle.delivery.proofs.net_state.NetState.cancel.Goals as goal

pub returns-in-Err : goal.returns-in-Err
returns-in-Err c k reached is =
    let h = c.in-Err.ensures in let why = ap (λ (v : View). there_objection (slice_get v.endpoints c.args.connection)) (sym is) ∙ h.1 in
    subst (λ (v : View). Makes k (Event.Cancel c.args.connection c.args.topic) (Outcome.Refused c.in-Err.refusal) v) (sym is)
    (cancel_gone k c.args.connection c.args.topic h.0 c.in-Err.refusal why h.2)

pub returns-in-Ok-cancel_of : goal.returns-in-Ok-cancel_of
returns-in-Ok-cancel_of c k reached is =
    let t = c.args.topic in let s = c.in-Ok.sender in let h = c.in-Ok.ensures in let d = c.in-Ok-cancel_of.ensures in
    let free = ap (λ (v : View). there_objection (slice_get v.endpoints c.args.connection)) (sym is) ∙ h.0 in
    let own = h.1 ∙ ap (λ (v : View). speaker_at v c.args.connection) is in
    subst (λ (v : View). Makes k (Event.Cancel c.args.connection t) Outcome.Cancelled v) (sym (d.ok ∙ ap (cancelled_view t s) is))
    (cancel_makes k c.args.connection s t reached free own (d.refused ∙ ap (cancel_refusal_in t s) is))

pub returns-in-Err-cancel_of : goal.returns-in-Err-cancel_of
returns-in-Err-cancel_of c k reached is =
    let t = c.args.topic in let s = c.in-Ok.sender in let h = c.in-Ok.ensures in let d = c.in-Err-cancel_of.ensures in
    let free = ap (λ (v : View). there_objection (slice_get v.endpoints c.args.connection)) (sym is) ∙ h.0 in
    let own = h.1 ∙ ap (λ (v : View). speaker_at v c.args.connection) is in
    subst (λ (v : View). Makes k (Event.Cancel c.args.connection t) (Outcome.Refused c.in-Err-cancel_of.refusal) v) (sym (d.err ∙ is))
    (cancel_refused k c.args.connection s t c.in-Err-cancel_of.refusal reached free own (d.refused ∙ ap (cancel_refusal_in t s) is))
