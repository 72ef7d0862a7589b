use Rattle.std.proofs.Common.{map, Option, subst}
use Rattle.sender_gate.specs.Gate.{GateState}
use Rattle.broker_server.specs.BrokerRows.{AsksInOrder, Unsubscribes}
use Rattle.broker_server.specs.Conversations.{ConversationState, OpenSubState, closing_rows, gate_rows}
use Rattle.broker_server.proofs.ConversationLemmas.{asks_on}
use Rattle.broker_server.proofs.conversation.Conversation.close.Goals as goal

pub returns-clause-rows : goal.returns-clause-rows
returns-clause-rows g c =
    let called = g.C.BrokerCalls.called in
    let row = λ (o : OpenSubState). Unsubscribes o.sub in
    let held = c.self.inside in
    let ended = subst (λ v. AsksInOrder called c.args.calls.now (map row v.items) c.end_subs.new.calls) c.replace-subs.ensures.value c.end_subs.ensures in
    let given = subst (λ (gate : Option GateState). AsksInOrder called c.end_subs.new.calls (gate_rows gate) c.give_up.new.calls) c.take.ensures.value c.give_up.ensures in
    subst (λ (s : ConversationState). AsksInOrder called c.args.calls.now (closing_rows s) c.give_up.new.calls) c.self.view_is
    (asks_on called c.args.calls.now c.end_subs.new.calls c.give_up.new.calls (map row held.subs.items) (gate_rows held.gate) ended given)
