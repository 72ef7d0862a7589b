use Rattle.delivery.proofs.Words.All.{◌≡◌, ◌<◌, ℕ, Option, length, get_or, Some, sym, ap, ◌∙◌, arith, slice_get, option_and_then, slice_get-get_or, idle_gate, is_flying, EndpointView, SenderView, View, no_endpoint}
use Rattle.delivery.proofs.Views.Events.ConnectionIsThere.{endpoint_found}
use Rattle.delivery.proofs.Views.Senders.RoomLasts.{count_same}
use Rattle.delivery.proofs.net_state.NetState.take_gate.Goals as goal

pub invariant_of-self : goal.invariant_of-self
invariant_of-self c =
    let senders = c.self.inside.senders.items in let there : c.in-Some.sender < length senders = omega (arith, c.if-index-len.false, c.len.ensures, c.self.inside.senders.ok.0) in
    let same = c.rest.ensures.flying ∙ ap (λ (x : SenderView). is_flying x.sending) c.index_mut-state.ensures.value in
    c.self.invariant ∙ count_same senders c.in-Some.sender c.rest.new.self _ there same

pub returns-clause-gate : goal.returns-clause-gate
returns-clause-gate c =
    let v = c.args.self.now in let senders = c.self.inside.senders.items in let s = c.in-Some.sender in let x = c.index_mut-state.result.now in
    let endpoint = c.index-endpoint.result.now in let there : s < length senders = omega (arith, c.if-index-len.false, c.len.ensures, c.self.inside.senders.ok.0) in
    let found : slice_get senders s ≡ Some x = slice_get-get_or senders s x there ∙ ap (λ (y : SenderView). Some y) (sym c.index_mut-state.ensures.value) in
    let at = c.index-endpoint.ensures ∙ ap (λ (u : View). get_or u.endpoints c.args.connection endpoint) c.self.view_is in
    let sender : (get_or v.endpoints c.args.connection no_endpoint).sender ≡ Some s =
    ap (λ (l : EndpointView). l.sender) (sym (endpoint_found v.endpoints c.args.connection endpoint no_endpoint c.requires at) ∙ sym c.endpoint.view_is) ∙ c.in-Some.is in
    c.rest.ensures.gate
    ∙ (ap (λ (o : Option SenderView). option_and_then idle_gate o) (sym found)
    ∙ (ap (λ (u : View). option_and_then idle_gate (slice_get u.senders s)) c.self.view_is
    ∙ ap (λ (o : Option ℕ). option_and_then (λ n. option_and_then idle_gate (slice_get v.senders n)) o) (sym sender)))
