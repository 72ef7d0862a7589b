use Rattle.std.proofs.Common.{◌≡◌, ℕ, length, sym, ap, subst, ◌∙◌, arith}
use Rattle.delivery.proofs.Words.All.{Event, Outcome, accepted_of, text_out, unread_at, names_at, Makes, View, view_of, endpoint_view, with_new_endpoint}
use Rattle.delivery.proofs.Views.Lists.ByNumber.{length-each_number}
use Rattle.delivery.proofs.Views.Endpoints.NothingBeforeOpen.{untouched}
use Rattle.delivery.proofs.Views.Events.OpenStep.{open_makes, open_without}
use Rattle.delivery.proofs.net_state.NetState.open.Goals as goal

pub returns-in-Ok : goal.returns-in-Ok
returns-in-Ok c k reached is =
    let many : c.len-connection.result ≡ length c.self.inside.endpoints.items = omega (arith, c.self.inside.endpoints.ok.0, c.len-connection.ensures) in
    let f = λ (n : ℕ). endpoint_view (names_at k) k.world n (accepted_of n k.steps) (unread_at n k.steps) (text_out k.names n k.steps) in
    let number : c.len-connection.result ≡ length k.world.connections =
    many ∙ (ap (λ (v : View). length v.endpoints) (c.self.view_is ∙ is) ∙ length-each_number f 0 k.world.connections) in
    let new = c.in-Ok.ensures.ok ∙ ap with_new_endpoint is in
    subst (λ (v : View). Makes k Event.Open (Outcome.Opened c.len-connection.result) v) (sym new)
    (subst (λ (n : ℕ). Makes k Event.Open (Outcome.Opened n) (with_new_endpoint (view_of k))) (sym number) (open_makes k (untouched k (length k.world.connections) reached (omega arith))))

pub returns-in-Err : goal.returns-in-Err
returns-in-Err c k reached is = subst (λ (v : View). Makes k Event.Open Outcome.NoMemory v) (sym (c.in-Err.ensures.err ∙ is)) (open_without k)
