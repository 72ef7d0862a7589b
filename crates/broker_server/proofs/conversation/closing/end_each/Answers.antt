use Rattle.std.proofs.Common.{List, [], ◌∷◌, ◌++◌, map, sym, ap, subst, ◌∙◌, append_assoc}
use Rattle.std.proofs.lemmas.List.{map-append}
use Rattle.std.specs.Vec.Iter.{into_iter_items}
use Rattle.broker_server.specs.BrokerRows.{AsksInOrder, BrokerRow, SubName, Unsubscribes}
use Rattle.broker_server.specs.Conversations.{OpenSubState}
use Rattle.broker_server.proofs.ConversationLemmas.{asks_on, asks_one}
use Rattle.broker_server.proofs.conversation.closing.end_each.Goals as goal

pub loop-open-preserved : goal.loop-open-preserved
loop-open-preserved g c =
    let called = g.C.BrokerCalls.called in
    let was = c.loop-open.yielded in
    let it = c.in-Some.open in
    let row = λ (o : OpenSubState). Unsubscribes o.sub in
    let name = ap (λ (o : OpenSubState). o.sub) c.open.view_is in
    let one = subst (λ (n : SubName). called c.loop-open.calls (Unsubscribes n) c.unsubscribe.new.self) name c.unsubscribe.ensures in
    let both = asks_on called c.args.calls.now c.loop-open.calls c.unsubscribe.new.self (map row was) (row it ∷ []) c.loop-open.invariant.asked
    (asks_one called c.loop-open.calls c.unsubscribe.new.self (row it) one) in
    record {
      cut = append_assoc was (it ∷ []) (into_iter_items c.next.new.self) ∙ ap (λ xs. was ++ xs) (sym c.in-Some.ensures.steps.0) ∙ c.loop-open.invariant.cut;
      asked = subst (λ (rows : List BrokerRow). AsksInOrder called c.args.calls.now rows c.unsubscribe.new.self) (sym (map-append row was (it ∷ []))) both;
    }

pub loop-open-preserved-in-Some : goal.loop-open-preserved-in-Some
loop-open-preserved-in-Some g c =
    let called = g.C.BrokerCalls.called in
    let was = c.loop-open.yielded in
    let it = c.in-Some.open in
    let row = λ (o : OpenSubState). Unsubscribes o.sub in
    let name = ap (λ (o : OpenSubState). o.sub) c.open.view_is in
    let one = subst (λ (n : SubName). called c.loop-open.calls (Unsubscribes n) c.unsubscribe.new.self) name c.unsubscribe.ensures in
    let both = asks_on called c.args.calls.now c.loop-open.calls c.unsubscribe.new.self (map row was) (row it ∷ []) c.loop-open.invariant.asked
    (asks_one called c.loop-open.calls c.unsubscribe.new.self (row it) one) in
    record {
      cut = append_assoc was (it ∷ []) (into_iter_items c.next.new.self) ∙ ap (λ xs. was ++ xs) (sym c.in-Some.ensures.steps.0) ∙ c.loop-open.invariant.cut;
      asked = subst (λ (rows : List BrokerRow). AsksInOrder called c.args.calls.now rows c.unsubscribe.new.self) (sym (map-append row was (it ∷ []))) both;
    }
