use Rattle.std.proofs.Common.{◌≡◌, [], ◌∷◌, Option, None, refl, sym, ap, ◌∙◌, inr}
use Rattle.sender_gate.specs.Gate.{GateState}
use Rattle.broker_server.specs.BrokerRows.{GivesRoomBack}
use Rattle.broker_server.specs.Conversations.{ConversationState}
use Rattle.broker_server.proofs.ConversationLemmas.{asks_one}
use Rattle.broker_server.proofs.conversation.Conversation.commit.Goals as goal

pub returns-in_default : goal.returns-in_default
returns-in_default g c =
    let called = g.C.BrokerCalls.called in
    let held = c.self.inside in
    let with : Option GateState → ConversationState = λ gate. record {
      reader = held.reader;
      session = held.session;
      names = held.names;
      gate = gate;
      subs = held.subs.items;
      held = held.held;
      wire = held.wire;
      exit = held.exit;
      cut = held.cut;
      more = held.more;
      half = held.half;
      capacity = held.capacity;
      next = held.next;
      flags = held.flags;
    } in
    let none : held.gate ≡ None = sym c.take.ensures.value ∙ c.in_default.is in (
      GivesRoomBack ∷ [],
      asks_one called c.args.calls.now c.give_room_back.new.self GivesRoomBack c.give_room_back.ensures,
      inr (
        sym (ap (λ (s : ConversationState). s.gate) c.self.view_is) ∙ none,
        refl,
        refl,
        ap with (c.take.ensures.after ∙ sym none) ∙ c.self.view_is,
      ),
    )
