use Rattle.delivery.proofs.Words.All.{◌≡◌, ◌<◌, List, length, get_or, true, sym, ap, subst, ◌∙◌, slice_get, is_some, Event, Outcome, there_objection, speaker_at, sender_in, decide_refusal, decided_row, decided_view, receipt_in, confirmed_view, Makes, View, EndpointView, view_of, no_endpoint}
use Rattle.delivery.proofs.Views.Events.ConnectionIsThere.{endpoint_there}
use Rattle.delivery.proofs.Views.Events.DecideStep.{decide_gone, decide_refused, decide_makes}
use Rattle.delivery.proofs.net_state.NetState.decide.Goals as goal

pub returns-in-Err : goal.returns-in-Err
returns-in-Err c k reached is =
    let h = c.in-Err.ensures in let why = ap (λ (v : View). there_objection (slice_get v.endpoints c.args.connection)) (sym is) ∙ h.1 in
    subst (λ (v : View). Makes k (Event.Decide c.args.connection) (Outcome.Refused c.in-Err.refusal) v) (sym is)
    (decide_gone k c.args.connection h.0 c.in-Err.refusal why h.2)

pub confirm-requires : goal.confirm-requires
confirm-requires c =
    subst (λ (ls : List EndpointView). c.args.connection < length ls) (sym (ap (λ (v : View). v.endpoints) c.in-Ok-decide_of.ensures.ok))
    (endpoint_there c.args.self.now.endpoints c.args.connection c.in-Ok.ensures.0)

pub returns-in-Ok-decide_of : goal.returns-in-Ok-decide_of
returns-in-Ok-decide_of c k reached is =
    let h = c.in-Ok.ensures in let d = c.in-Ok-decide_of.ensures in let s = c.in-Ok.sender in
    let free = ap (λ (v : View). there_objection (slice_get v.endpoints c.args.connection)) (sym is) ∙ h.0 in
    let own = h.1 ∙ ap (λ (v : View). speaker_at v c.args.connection) is in let allowed = d.refused ∙ ap (λ (v : View). decide_refusal (sender_in v s).sending) is in
    let stamp = d.stamp ∙ ap (λ (v : View). (decided_row (sender_in v s).sending).stamp) is in
    let decided : c.decide_of.new.self ≡ decided_view s (view_of k) = d.ok ∙ ap (decided_view s) is in
    let asked = subst (λ (v : View). c.confirm.result ≡ true → is_some (receipt_in (get_or v.endpoints c.args.connection no_endpoint).stage) ≡ true) decided c.confirm.ensures.asked in
    let new = c.confirm.ensures.new ∙ ap (confirmed_view c.confirm.result c.args.connection) decided in
    subst (λ (v : View). Makes k (Event.Decide c.args.connection) (Outcome.Decided c.in-Ok-decide_of.stamp c.confirm.result) v) (sym new)
    (decide_makes k c.args.connection s c.in-Ok-decide_of.stamp c.confirm.result reached free own allowed stamp asked)

pub returns-in-Err-decide_of : goal.returns-in-Err-decide_of
returns-in-Err-decide_of c k reached is =
    let h = c.in-Ok.ensures in let free = ap (λ (v : View). there_objection (slice_get v.endpoints c.args.connection)) (sym is) ∙ h.0 in
    let s = h.1 ∙ ap (λ (v : View). speaker_at v c.args.connection) is in
    let refused = c.in-Err-decide_of.ensures.refused ∙ ap (λ (v : View). decide_refusal (sender_in v c.in-Ok.sender).sending) is in
    subst (λ (v : View). Makes k (Event.Decide c.args.connection) (Outcome.Refused c.in-Err-decide_of.refusal) v) (sym (c.in-Err-decide_of.ensures.err ∙ is))
    (decide_refused k c.args.connection c.in-Ok.sender c.in-Err-decide_of.refusal reached free s refused)
