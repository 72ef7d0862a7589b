use Rattle.std.proofs.Common.{◌≡◌, List, sym, ap, ◌∙◌}
use Rattle.delivery.proofs.Words.All.{Stamp, Decision, ticket_rows, greatest, GateState, Sending, decision_of, decided_row, decided_sender, SenderView}
use Rattle.sender_gate.specs.Gate.{gate_after}
use Rattle.delivery.specs.Inner.Senders.{decided_sending}
use Rattle.delivery.proofs.Views.Senders.TicketsOfTopics.{rows_of_slots}
use Rattle.delivery.proofs.sender_state.SenderState.decide.Goals as goal

pub returns-in-Ok-clause-verdict : goal.returns-in-Ok-clause-verdict
returns-in-Ok-clause-verdict c =
    let flying = c.in-Flying.flying in let verdict = c.in-Ok.verdict.value in
    let is : c.self.inside.sending ≡ Sending.Flying flying c.in-Flying.shared = sym c.replace.ensures.value ∙ c.in-Flying.is in
    let rows : verdict.rows ≡ ticket_rows flying.tickets = sym (rows_of_slots verdict.rows) ∙ ap ticket_rows c.in-Ok.ensures.rows in
    let id : verdict.id ≡ flying.id = c.in-Ok.ensures.id in
    (λ i. record { id = id i; rows = rows i })
    ∙ (ap decision_of (sym is) ∙ ap (λ (x : SenderView). decision_of x.sending) c.self.view_is)

pub returns-in-Ok-clause-row : goal.returns-in-Ok-clause-row
returns-in-Ok-clause-row c =
    let flying = c.in-Flying.flying in let verdict = c.in-Ok.verdict.value in
    let is : c.self.inside.sending ≡ Sending.Flying flying c.in-Flying.shared = sym c.replace.ensures.value ∙ c.in-Flying.is in
    let rows : verdict.rows ≡ ticket_rows flying.tickets = sym (rows_of_slots verdict.rows) ∙ ap ticket_rows c.in-Ok.ensures.rows in
    let stamp : c.stamp-stamp.result ≡ greatest (ticket_rows flying.tickets) = c.stamp-stamp.ensures ∙ (ap (λ (v : Decision). greatest v.rows) c.deref.ensures ∙ ap (λ (rs : List Stamp). greatest rs) rows) in
    (λ i. record { id = c.id-id.ensures i; topics = c.shared.view_is i; stamp = stamp i })
    ∙ (ap decided_row (sym is) ∙ ap (λ (x : SenderView). decided_row x.sending) c.self.view_is)

pub returns-in-Ok-clause-ok : goal.returns-in-Ok-clause-ok
returns-in-Ok-clause-ok c =
    let flying = c.in-Flying.flying in let verdict = c.in-Ok.verdict.value in
    let is : c.self.inside.sending ≡ Sending.Flying flying c.in-Flying.shared = sym c.replace.ensures.value ∙ c.in-Flying.is in
    let rows : verdict.rows ≡ ticket_rows flying.tickets = sym (rows_of_slots verdict.rows) ∙ ap ticket_rows c.in-Ok.ensures.rows in
    let gate : c.in-Ok.gate ≡ gate_after flying (greatest (ticket_rows flying.tickets)) = c.in-Ok.ensures.gate ∙ ap (λ (rs : List Stamp). gate_after flying (greatest rs)) rows in
    ap (λ (g : GateState). record { sending = Sending.Idle g; leftovers = c.self.inside.leftovers.items }) gate
    ∙ (ap (λ (z : Sending). record { sending = decided_sending z; leftovers = c.self.inside.leftovers.items }) (sym is) ∙ ap decided_sender c.self.view_is)
