use Rattle.delivery.proofs.Words.All.{◌≡◌, ◌<◌, List, length, get_or, true, sym, ap, subst, ◌∙◌, slice_get, propose_title, Event, Outcome, there_objection, speaker_at, sender_in, withdraw_refusal, failure_of, withdrawn_view, reads_frames, refused_view, Makes, View, EndpointView, view_of, no_endpoint}
use Rattle.delivery.proofs.Views.Events.ConnectionIsThere.{endpoint_there}
use Rattle.delivery.proofs.Views.Events.WithdrawStep.{withdraw_gone, withdraw_refused, withdraw_makes}
use Rattle.delivery.proofs.net_state.NetState.withdraw.Goals as goal

pub returns-in-Err : goal.returns-in-Err
returns-in-Err c k reached is =
    let h = c.in-Err.ensures in let why = ap (λ (v : View). there_objection (slice_get v.endpoints c.args.connection)) (sym is) ∙ h.1 in
    subst (λ (v : View). Makes k (Event.Withdraw c.args.connection) (Outcome.Refused c.in-Err.refusal) v) (sym is)
    (withdraw_gone k c.args.connection h.0 c.in-Err.refusal why h.2)

pub end_by_error-requires : goal.end_by_error-requires
end_by_error-requires c =
    subst (λ (ls : List EndpointView). c.args.connection < length ls) (sym (ap (λ (v : View). v.endpoints) c.in-Ok-withdraw_of.ensures.ok))
    (endpoint_there c.args.self.now.endpoints c.args.connection c.in-Ok.ensures.0)

pub returns-in-Ok-withdraw_of : goal.returns-in-Ok-withdraw_of
returns-in-Ok-withdraw_of c k reached is =
    let h = c.in-Ok.ensures in let d = c.in-Ok-withdraw_of.ensures in let s = c.in-Ok.sender in let fault = c.in-Ok-withdraw_of.fault in
    let free = ap (λ (v : View). there_objection (slice_get v.endpoints c.args.connection)) (sym is) ∙ h.0 in
    let own = h.1 ∙ ap (λ (v : View). speaker_at v c.args.connection) is in let allowed = d.refused ∙ ap (λ (v : View). withdraw_refusal (sender_in v s).sending) is in
    let kept = d.fault ∙ ap (λ (v : View). failure_of (sender_in v s).sending) is in
    let withdrawn : c.withdraw_of.new.self ≡ withdrawn_view s (view_of k) = d.ok ∙ ap (withdrawn_view s) is in
    let asked = subst (λ (v : View). c.end_by_error.result ≡ true → reads_frames (get_or v.endpoints c.args.connection no_endpoint).stage ≡ true) withdrawn c.end_by_error.ensures.asked in
    let new = c.end_by_error.ensures.new
    ∙ (ap (λ (m : List _). refused_view c.end_by_error.result m c.args.connection c.withdraw_of.new.self) c.title.ensures
    ∙ ap (refused_view c.end_by_error.result (propose_title fault) c.args.connection) withdrawn) in
    subst (λ (v : View). Makes k (Event.Withdraw c.args.connection) (Outcome.Withdrawn c.end_by_error.result) v) (sym new)
    (withdraw_makes k c.args.connection s fault c.end_by_error.result reached free own allowed kept asked)

pub returns-in-Err-withdraw_of : goal.returns-in-Err-withdraw_of
returns-in-Err-withdraw_of c k reached is =
    let h = c.in-Ok.ensures in let free = ap (λ (v : View). there_objection (slice_get v.endpoints c.args.connection)) (sym is) ∙ h.0 in
    let own = h.1 ∙ ap (λ (v : View). speaker_at v c.args.connection) is in
    let refused = c.in-Err-withdraw_of.ensures.refused ∙ ap (λ (v : View). withdraw_refusal (sender_in v c.in-Ok.sender).sending) is in
    subst (λ (v : View). Makes k (Event.Withdraw c.args.connection) (Outcome.Refused c.in-Err-withdraw_of.refusal) v) (sym (c.in-Err-withdraw_of.ensures.err ∙ is))
    (withdraw_refused k c.args.connection c.in-Ok.sender c.in-Err-withdraw_of.refusal reached free own refused)
