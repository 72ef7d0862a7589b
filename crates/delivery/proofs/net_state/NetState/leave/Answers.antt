use Rattle.delivery.proofs.Words.All.{◌<◌, ℕ, true, false, List, length, get_or, sym, ap, subst, ◌∙◌, slice_get, false≢true, SendersState, Event, Outcome, MakesBoth, given_back, rested_view, Makes, EndpointView, View, no_endpoint, view_of, leave_objection, oldest_end, oldest_closed, has_parting, gone_view}
use Rattle.delivery.proofs.Views.Events.LeaveStep.{leave_refused, leave_closes, leave_gone, none_closed, leave_endpoint, oldest_endpoints}
use Rattle.delivery.proofs.Views.Clients.BothOfStep.{leave_refused_both, leave_closes_both, leave_gone_both}
use Rattle.delivery.proofs.Views.Clients.GivenBack.{rested_endpoints}
use Rattle.delivery.proofs.net_state.NetState.leave.Goals as goal

pub returns-in-Err : goal.returns-in-Err
returns-in-Err c k reached is kept =
    let h = c.in-Err.ensures in let why = ap (λ (v : View). leave_objection v.senders (slice_get v.endpoints c.args.connection)) (sym is) ∙ h.1 in
    leave_refused_both k c.args.connection h.0 (Outcome.Refused c.in-Err.refusal) c.args.self.now c.args.clients.now why
    (subst (λ (v : View). Makes k (Event.Leave c.args.connection) (Outcome.Refused c.in-Err.refusal) v) (sym is)
    (leave_refused k c.args.connection h.0 c.in-Err.refusal why h.2)) kept

pub close_oldest-requires : goal.close_oldest-requires
close_oldest-requires c = leave_endpoint c.args.self.now c.args.connection c.in_default.ensures

pub returns-in-Some : goal.returns-in-Some
returns-in-Some c k reached is kept =
    let n = c.args.connection in let h = c.in-Some.ensures in let free = ap (λ (v : View). leave_objection v.senders (slice_get v.endpoints n)) (sym is) ∙ c.in_default.ensures in
    let end = ap (λ (v : View). oldest_end v n) (sym is) ∙ sym h.end in let new = h.closed ∙ ap (λ (v : View). oldest_closed v n) is in
    leave_closes_both k n c.in-Some.sub c.in-Some.to (Outcome.Unsubscribed c.in-Some.sub c.in-Some.to) c.close_oldest.new.self c.args.clients.now reached free end
    (subst (λ (v : View). Makes k (Event.Leave n) (Outcome.Unsubscribed c.in-Some.sub c.in-Some.to) v) (sym new)
    (leave_closes k n c.in-Some.sub c.in-Some.to reached free end)) kept

pub give_back-requires : goal.give_back-requires
give_back-requires c =
    let v = c.args.self.now in let there = leave_endpoint v c.args.connection c.in_default.ensures in
    let many = ap (λ (u : View). length u.endpoints) c.close_oldest.ensures.closed ∙ oldest_endpoints v c.args.connection in
    subst (λ (m : ℕ). c.args.connection < m) (sym many) there

pub depart-requires : goal.depart-requires
depart-requires c =
    let v = c.args.self.now in let n = c.args.connection in let there = leave_endpoint v n c.in_default.ensures in
    let many = ap (λ (u : View). length u.endpoints) c.give_back.ensures.rested
    ∙ (ap (λ (ls : List EndpointView). length ls) (rested_endpoints n c.close_oldest.new.self)
    ∙ (ap (λ (u : View). length u.endpoints) c.close_oldest.ensures.closed ∙ oldest_endpoints v n)) in
    subst (λ (m : ℕ). n < m) (sym many) there

pub returns-in-Ok : goal.returns-in-Ok
returns-in-Ok c k reached is kept =
    let n = c.args.connection in let h = c.in_default-close_oldest.ensures in
    let free = ap (λ (v : View). leave_objection v.senders (slice_get v.endpoints n)) (sym is) ∙ c.in_default.ensures in
    let none = ap (λ (v : View). oldest_end v n) (sym is) ∙ sym h.end in let same = h.closed ∙ (ap (λ (v : View). oldest_closed v n) is ∙ none_closed k n reached free none) in
    let new = c.in-Ok.ensures.gone ∙ ap (gone_view false n) (c.give_back.ensures.rested ∙ ap (rested_view n) same) in
    subst (λ (z : SendersState). MakesBoth k (Event.Leave n) (Outcome.Gone false) c.depart.new.self z)
    (sym (c.give_back.ensures.given ∙ ap (λ (v : View). given_back v n c.args.clients.now) same))
    (leave_gone_both k n (Outcome.Gone false) c.depart.new.self c.args.clients.now reached free none
    (subst (λ (v : View). Makes k (Event.Leave n) (Outcome.Gone false) v) (sym new)
    (leave_gone k n false reached free none (λ e. absurd (false≢true e)))) kept)

pub returns-in-Err-depart : goal.returns-in-Err-depart
returns-in-Err-depart c k reached is kept =
    let n = c.args.connection in let h = c.in_default-close_oldest.ensures in
    let free = ap (λ (v : View). leave_objection v.senders (slice_get v.endpoints n)) (sym is) ∙ c.in_default.ensures in
    let none = ap (λ (v : View). oldest_end v n) (sym is) ∙ sym h.end in let same = h.closed ∙ (ap (λ (v : View). oldest_closed v n) is ∙ none_closed k n reached free none) in
    let rested = c.give_back.ensures.rested ∙ ap (rested_view n) same in let new = c.in-Err-depart.ensures.gone ∙ ap (gone_view true n) rested in
    let stage = ap (λ (v : View). has_parting (get_or v.endpoints n no_endpoint).stage) rested
    ∙ ap (λ (ls : List EndpointView). has_parting (get_or ls n no_endpoint).stage) (rested_endpoints n (view_of k)) in
    subst (λ (z : SendersState). MakesBoth k (Event.Leave n) (Outcome.Gone true) c.depart.new.self z)
    (sym (c.give_back.ensures.given ∙ ap (λ (v : View). given_back v n c.args.clients.now) same))
    (leave_gone_both k n (Outcome.Gone true) c.depart.new.self c.args.clients.now reached free none
    (subst (λ (v : View). Makes k (Event.Leave n) (Outcome.Gone true) v) (sym new)
    (leave_gone k n true reached free none (λ e. sym stage ∙ c.in-Err-depart.ensures.asked))) kept)
