use Rattle.std.proofs.Common.{List, get_or, refl, sym, ap, ◌∙◌}
use Rattle.delivery.proofs.Words.All.{none_some, Objection, gone_objection, there_objection, stage_objection, endpoint_objection, View, EndpointView}
use Rattle.delivery.proofs.Views.Events.OneMove.{endpoint_read}
use Rattle.delivery.proofs.Views.Events.ConnectionIsThere.{endpoint_there}
use Rattle.delivery.proofs.net_state.NetState.check_open.Goals as goal

pub returns-in-Leaving : goal.returns-in-Leaving
returns-in-Leaving c =
    let v = c.args.self.now in let endpoint = c.index-endpoint.result.now in let endpoints = ap (λ (x : View). x.endpoints) c.self.view_is in
    let at = c.index-endpoint.ensures ∙ ap (λ (ls : List EndpointView). get_or ls c.args.connection endpoint) endpoints in
    let found = endpoint_read v.endpoints c.args.connection endpoint (endpoint_there v.endpoints c.args.connection c.in_ok-check_there.ensures.0) at in (
      Objection.Busy,
      ap endpoint_objection found ∙ (ap (λ (l : EndpointView). stage_objection l.stage) (sym c.endpoint.view_is) ∙ ap stage_objection c.in-Leaving.is),
      refl,
    )

pub returns-in-Open : goal.returns-in-Open
returns-in-Open c =
    let v = c.args.self.now in let endpoint = c.index-endpoint.result.now in let endpoints = ap (λ (x : View). x.endpoints) c.self.view_is in
    let at = c.index-endpoint.ensures ∙ ap (λ (ls : List EndpointView). get_or ls c.args.connection endpoint) endpoints in
    let found = endpoint_read v.endpoints c.args.connection endpoint (endpoint_there v.endpoints c.args.connection c.in_ok-check_there.ensures.0) at in
    ap endpoint_objection found ∙ (ap (λ (l : EndpointView). stage_objection l.stage) (sym c.endpoint.view_is) ∙ ap stage_objection c.in-Open.is)

pub unreachable-requires : goal.unreachable-requires
unreachable-requires c =
    let v = c.args.self.now in let endpoint = c.index-endpoint.result.now in let endpoints = ap (λ (x : View). x.endpoints) c.self.view_is in
    let at = c.index-endpoint.ensures ∙ ap (λ (ls : List EndpointView). get_or ls c.args.connection endpoint) endpoints in let free = c.in_ok-check_there.ensures.0 in
    let found = endpoint_read v.endpoints c.args.connection endpoint (endpoint_there v.endpoints c.args.connection free) at in
    let stage = ap (λ (l : EndpointView). l.stage) (sym c.endpoint.view_is) in let here = ap gone_objection (sym stage) ∙ (sym (ap there_objection found) ∙ free) in
    none_some Objection.Gone (sym here ∙ ap gone_objection c.in-Gone.is)
