use Rattle.delivery.proofs.Words.All.{◌≡◌, List, get_or, refl, sym, ap, ◌∙◌, slice_get, slice_get_past, Objection, gone_objection, there_objection, View, EndpointView, no_endpoint, number_among}
use Rattle.delivery.proofs.Views.Events.OneMove.{endpoint_read}
use Rattle.delivery.proofs.Views.Events.ConnectionIsThere.{endpoint_found}
use Rattle.delivery.proofs.net_state.NetState.check_there.Goals as goal

pub returns-in_default : goal.returns-in_default
returns-in_default c =
    let endpoints : c.args.self.now.endpoints ≡ c.deref.result.now = ap (λ (v : View). v.endpoints) (sym c.self.view_is) ∙ sym c.deref.ensures.value in
    (Objection.NoConn, ap (λ (ls : List EndpointView). there_objection (slice_get ls c.args.connection)) endpoints ∙ ap there_objection (slice_get_past c.deref.result.now c.args.connection c.in_default.ensures.lookup.3), refl)

pub returns-in-Open : goal.returns-in-Open
returns-in-Open c =
    let endpoints : c.args.self.now.endpoints ≡ c.deref.result.now = ap (λ (v : View). v.endpoints) (sym c.self.view_is) ∙ sym c.deref.ensures.value in
    let h = c.in-Some.ensures.lookup in (
      ap (λ (ls : List EndpointView). there_objection (slice_get ls c.args.connection)) endpoints
          ∙ (ap there_objection (endpoint_read c.deref.result.now c.args.connection c.in-Some.endpoint.now h.3.0 h.1)
          ∙ (ap (λ (l : EndpointView). gone_objection l.stage) (sym c.endpoint.view_is) ∙ ap gone_objection c.in-Open.is)),
      c.number_of.ensures
          ∙ (ap (number_among c.args.self.now.senders) (endpoint_found c.deref.result.now c.args.connection c.in-Some.endpoint.now no_endpoint h.3.0 h.1)
          ∙ ap (λ (ls : List EndpointView). number_among c.args.self.now.senders (get_or ls c.args.connection no_endpoint)) (sym endpoints)),
    )

pub returns-in-Leaving : goal.returns-in-Leaving
returns-in-Leaving c =
    let endpoints : c.args.self.now.endpoints ≡ c.deref.result.now = ap (λ (v : View). v.endpoints) (sym c.self.view_is) ∙ sym c.deref.ensures.value in
    let h = c.in-Some.ensures.lookup in (
      ap (λ (ls : List EndpointView). there_objection (slice_get ls c.args.connection)) endpoints
          ∙ (ap there_objection (endpoint_read c.deref.result.now c.args.connection c.in-Some.endpoint.now h.3.0 h.1)
          ∙ (ap (λ (l : EndpointView). gone_objection l.stage) (sym c.endpoint.view_is) ∙ ap gone_objection c.in-Leaving.is)),
      c.number_of-in-Leaving.ensures
          ∙ (ap (number_among c.args.self.now.senders) (endpoint_found c.deref.result.now c.args.connection c.in-Some.endpoint.now no_endpoint h.3.0 h.1)
          ∙ ap (λ (ls : List EndpointView). number_among c.args.self.now.senders (get_or ls c.args.connection no_endpoint)) (sym endpoints)),
    )

pub returns-in-Gone : goal.returns-in-Gone
returns-in-Gone c =
    let endpoints : c.args.self.now.endpoints ≡ c.deref.result.now = ap (λ (v : View). v.endpoints) (sym c.self.view_is) ∙ sym c.deref.ensures.value in
    let h = c.in-Some.ensures.lookup in (
      Objection.Gone,
      ap (λ (ls : List EndpointView). there_objection (slice_get ls c.args.connection)) endpoints
          ∙ (ap there_objection (endpoint_read c.deref.result.now c.args.connection c.in-Some.endpoint.now h.3.0 h.1)
          ∙ (ap (λ (l : EndpointView). gone_objection l.stage) (sym c.endpoint.view_is) ∙ ap gone_objection c.in-Gone.is)),
      refl,
    )
