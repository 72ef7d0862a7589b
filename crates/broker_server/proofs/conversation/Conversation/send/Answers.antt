use Rattle.std.proofs.Common.{[], ◌∷◌, ◌++◌, true, false, refl, inl, inr}
use Rattle.mcast_txn.specs.Transaction.{topics_of}
use Rattle.broker_server.specs.BrokerRows.{AsksRoom}
use Rattle.broker_server.proofs.ConversationLemmas.{asks_on, asks_one}
use Rattle.broker_server.proofs.conversation.Conversation.send.Goals as goal

pub returns-in-Some : goal.returns-in-Some
returns-in-Some g c =
    let called = g.C.BrokerCalls.called in
    let row = AsksRoom (topics_of c.args.txn) true in
    let one = c.in-Some.ensures in
    let did = c.commit-done.ensures in
    let told = c.conclude.ensures in (
      (row ∷ did.0) ++ told.0,
      asks_on called c.args.calls.now c.commit-done.new.calls c.conclude.new.calls (row ∷ did.0) told.0 (c.reserve.new.self, one, did.1) told.1,
      inl (record {
        first = row ∷ did.0;
        rest = told.0;
        between = c.commit-done.new.self;
        result = c.commit-done.result;
        performs = (did.0, refl, did.2);
        concludes = told.2;
        all = refl;
      }),
    )

pub returns-in-None : goal.returns-in-None
returns-in-None g c =
    let called = g.C.BrokerCalls.called in
    let row = AsksRoom (topics_of c.args.txn) false in
    let one = c.in-None.ensures in
    (row ∷ [], asks_one called c.args.calls.now c.reserve.new.self row one, inr (c.args.txn, refl, refl, c.hold.ensures))
