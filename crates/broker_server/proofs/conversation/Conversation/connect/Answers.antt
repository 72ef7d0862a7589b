use Rattle.std.proofs.Common.{ℕ, List, [], ◌∷◌, Option, Some, Ok, Err, refl, sym, subst, inl, inr}
use Rattle.broker_server.specs.BrokerRows.{Claims}
use Rattle.broker_server.specs.Conversations.{Connects, ConversationState}
use Rattle.broker_server.proofs.ConversationLemmas.{asks_one}
use Rattle.broker_server.proofs.conversation.Conversation.connect.Goals as goal

pub returns-in-Ok : goal.returns-in-Ok
returns-in-Ok g c =
    let called = g.C.BrokerCalls.called in
    let gate = c.in-Ok.gate in
    let row = Claims c.args.client (Ok gate) in
    let one = subst (λ (id : Option (List ℕ)). called c.args.calls.now (Claims id (Ok gate)) c.claim.new.self) c.slice_in.ensures c.in-Ok.ensures.claimed in (
      row ∷ [],
      asks_one called c.args.calls.now c.claim.new.self row one,
      subst (λ (s : ConversationState). Connects c.args.client c.args.self.now (row ∷ []) (Ok tt) (record s { gate = Some gate })) (sym c.self.view_is)
          (inl (gate, refl, refl, refl)),
    )

pub returns : goal.returns
returns g c =
    let called = g.C.BrokerCalls.called in
    let why = c.in-Err.fault in
    let row = Claims c.args.client (Err why) in
    let one = subst (λ (id : Option (List ℕ)). called c.args.calls.now (Claims id (Err why)) c.claim.new.self) c.slice_in.ensures c.in-Err.ensures.refused in (
      row ∷ [],
      asks_one called c.args.calls.now c.claim.new.self row one,
      inr (why, refl, refl, refl),
    )
