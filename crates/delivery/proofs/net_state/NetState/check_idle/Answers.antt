use Rattle.std.proofs.Common.{Bool, List, Some, None, cond, refl, sym, ap, ◌∙◌, get_or}
use Rattle.delivery.proofs.Words.All.{Objection, sending_objection, View, EndpointView}
use Rattle.delivery.proofs.Views.Events.ReadingChecks.{idle_of}
use Rattle.delivery.proofs.net_state.NetState.check_idle.Goals as goal

pub returns-then-is_sending : goal.returns-then-is_sending
returns-then-is_sending c =
    let v = c.args.self.now in let endpoint = c.index.result.now in let endpoints = ap (λ (x : View). x.endpoints) c.self.view_is in
    let at = c.index.ensures ∙ ap (λ (ls : List EndpointView). get_or ls c.args.connection endpoint) endpoints in
    let sender = c.number_of.ensures in (
      Objection.Busy,
      idle_of v c.args.connection endpoint c.in_ok-check_open.ensures at
          ∙ (ap (sending_objection v.senders) (sym sender)
          ∙ ap (λ (b : Bool). cond b (Some Objection.Busy) None) (sym c.is_sending.ensures ∙ c.if-is_sending.true)),
      refl,
    )

pub returns : goal.returns
returns c =
    let v = c.args.self.now in let endpoint = c.index.result.now in let endpoints = ap (λ (x : View). x.endpoints) c.self.view_is in
    let at = c.index.ensures ∙ ap (λ (ls : List EndpointView). get_or ls c.args.connection endpoint) endpoints in let sender = c.number_of.ensures in
    idle_of v c.args.connection endpoint c.in_ok-check_open.ensures at
    ∙ (ap (sending_objection v.senders) (sym sender)
    ∙ ap (λ (b : Bool). cond b (Some Objection.Busy) None) (sym c.is_sending.ensures ∙ c.if-is_sending.false))
