use Rattle.delivery.proofs.Words.All.{rules, ◌≡◌, true, false, List, refl, sym, ap, ◌∙◌, slice_get, Objection, Stage, View, EndpointView, waits, leaving_objection, leave_objection}
use Rattle.delivery.proofs.Views.Events.LeaveStep.{no_leave, endpoint_leaves}
use Rattle.delivery.proofs.net_state.NetState.check_leaving.Goals as goal

pub returns-in_default : goal.returns-in_default
returns-in_default c =
    let v = c.args.self.now in let endpoints : v.endpoints ≡ c.deref.result.now = ap (λ (v : View). v.endpoints) (sym c.self.view_is) ∙ sym c.deref.ensures.value in
    (Objection.NoConn, ap (λ (ls : List EndpointView). leave_objection v.senders (slice_get ls c.args.connection)) endpoints ∙ no_leave v.senders c.deref.result.now c.args.connection c.in_default.ensures.lookup.3, refl)

pub returns-in-Open : goal.returns-in-Open
returns-in-Open c =
    let v = c.args.self.now in let endpoints : v.endpoints ≡ c.deref.result.now = ap (λ (v : View). v.endpoints) (sym c.self.view_is) ∙ sym c.deref.ensures.value in
    let h = c.in-Some.ensures.lookup in
    let endpoint = c.in-Some.endpoint.now in (
      Objection.NotLeaving,
      ap (λ (ls : List EndpointView). leave_objection v.senders (slice_get ls c.args.connection)) endpoints
          ∙ (endpoint_leaves v.senders c.deref.result.now c.args.connection endpoint h.3.0 h.1
          ∙ (ap (λ (l : EndpointView). leaving_objection l.stage (waits v.senders endpoint)) (sym c.endpoint.view_is) ∙ ap (λ (s : Stage). leaving_objection s (waits v.senders endpoint)) c.in-Open.is)),
      refl,
    )

pub returns-in-Leaving : goal.returns-in-Leaving
returns-in-Leaving c =
    let v = c.args.self.now in let endpoints : v.endpoints ≡ c.deref.result.now = ap (λ (v : View). v.endpoints) (sym c.self.view_is) ∙ sym c.deref.ensures.value in
    let h = c.in-Some.ensures.lookup in let endpoint = c.in-Some.endpoint.now in
    let waiting : waits v.senders endpoint ≡ true = search rules in (
      Objection.Busy,
      ap (λ (ls : List EndpointView). leave_objection v.senders (slice_get ls c.args.connection)) endpoints
          ∙ (endpoint_leaves v.senders c.deref.result.now c.args.connection endpoint h.3.0 h.1
          ∙ (ap (λ (l : EndpointView). leaving_objection l.stage (waits v.senders endpoint)) (sym c.endpoint.view_is) ∙ (ap (λ (s : Stage). leaving_objection s (waits v.senders endpoint)) c.in-Leaving.is
          ∙ ap (leaving_objection (Stage.Leaving c.in-Leaving.field-0)) waiting))),
      refl,
    )

pub returns-in-Leaving-2 : goal.returns-in-Leaving-2
returns-in-Leaving-2 c =
    let v = c.args.self.now in let endpoints : v.endpoints ≡ c.deref.result.now = ap (λ (v : View). v.endpoints) (sym c.self.view_is) ∙ sym c.deref.ensures.value in
    let h = c.in-Some.ensures.lookup in let endpoint = c.in-Some.endpoint.now in let waiting : waits v.senders endpoint ≡ false = search rules in
    ap (λ (ls : List EndpointView). leave_objection v.senders (slice_get ls c.args.connection)) endpoints
    ∙ (endpoint_leaves v.senders c.deref.result.now c.args.connection endpoint h.3.0 h.1
    ∙ (ap (λ (l : EndpointView). leaving_objection l.stage (waits v.senders endpoint)) (sym c.endpoint.view_is) ∙ (ap (λ (s : Stage). leaving_objection s (waits v.senders endpoint)) c.in-Leaving-2.is
    ∙ ap (leaving_objection (Stage.Leaving c.in-Leaving-2.field-0)) waiting)))

pub returns-in-Leaving-2-2 : goal.returns-in-Leaving-2-2
returns-in-Leaving-2-2 c =
    let v = c.args.self.now in let endpoints : v.endpoints ≡ c.deref.result.now = ap (λ (v : View). v.endpoints) (sym c.self.view_is) ∙ sym c.deref.ensures.value in
    let h = c.in-Some.ensures.lookup in let endpoint = c.in-Some.endpoint.now in let waiting : waits v.senders endpoint ≡ false = search rules in
    ap (λ (ls : List EndpointView). leave_objection v.senders (slice_get ls c.args.connection)) endpoints
    ∙ (endpoint_leaves v.senders c.deref.result.now c.args.connection endpoint h.3.0 h.1
    ∙ (ap (λ (l : EndpointView). leaving_objection l.stage (waits v.senders endpoint)) (sym c.endpoint.view_is) ∙ (ap (λ (s : Stage). leaving_objection s (waits v.senders endpoint)) c.in-Leaving-2.is
    ∙ ap (leaving_objection (Stage.Leaving c.in-Leaving-2.field-0)) waiting)))

pub returns-in-Gone : goal.returns-in-Gone
returns-in-Gone c =
    let v = c.args.self.now in let endpoints : v.endpoints ≡ c.deref.result.now = ap (λ (v : View). v.endpoints) (sym c.self.view_is) ∙ sym c.deref.ensures.value in
    let h = c.in-Some.ensures.lookup in
    let endpoint = c.in-Some.endpoint.now in (
      Objection.Gone,
      ap (λ (ls : List EndpointView). leave_objection v.senders (slice_get ls c.args.connection)) endpoints
          ∙ (endpoint_leaves v.senders c.deref.result.now c.args.connection endpoint h.3.0 h.1
          ∙ (ap (λ (l : EndpointView). leaving_objection l.stage (waits v.senders endpoint)) (sym c.endpoint.view_is) ∙ ap (λ (s : Stage). leaving_objection s (waits v.senders endpoint)) c.in-Gone.is)),
      refl,
    )
