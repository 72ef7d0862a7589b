use Rattle.std.proofs.Common.{◌≡◌, [], ◌∷◌, true, false, Some, refl, sym, subst, inl, inr}
use Rattle.mcast_txn.specs.Transaction.{topics_of}
use Rattle.broker_server.specs.declared.conversation.held.Held.{Held}
use Rattle.broker_server.specs.declared.conversation.held.Held.TheVariants as helds
use Rattle.broker_server.specs.BrokerRows.{AsksRoom}
use Rattle.broker_server.specs.Hearing.{GoesOnHalfway}
use Rattle.broker_server.proofs.ConversationLemmas.{asks_one}
use Rattle.broker_server.proofs.conversation.Conversation.go_on_halfway.Goals as goal

pub returns-in-Some : goal.returns-in-Some
returns-in-Some g c =
    let txn = c.in-Waits.txn in
    let receipt = c.in-Waits.receipt in
    let row = AsksRoom (topics_of txn) true in
    let did = c.commit-came_to.ensures in
    let rows = row ∷ did.0 in (
      rows,
      (c.reserve.new.self, c.in-Some.ensures, did.1),
      subst (λ (h : Held). GoesOnHalfway h c.args.self.now rows c.hold.new.self) (sym c.in-Waits.is)
          (inr (c.commit-came_to.result, c.commit-came_to.new.self, (did.0, refl, did.2), c.hold.ensures)),
    )

pub returns-in-None : goal.returns-in-None
returns-in-None g c =
    let called = g.C.BrokerCalls.called in
    let row = AsksRoom (topics_of c.in-Waits.txn) false in (
      row ∷ [],
      asks_one called c.args.calls.now c.reserve.new.self row c.in-None.ensures,
      subst (λ (h : Held). GoesOnHalfway h c.args.self.now (row ∷ []) c.hold-in-None.new.self) (sym c.in-Waits.is) (inl (refl, c.hold-in-None.ensures)),
    )
