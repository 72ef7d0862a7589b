use Rattle.std.proofs.Common.{ℕ, Bool, List, [], ◌∷◌, ◌++◌, Ok, Err, refl, ap, ◌∙◌, inl, inr}
use Rattle.stomp_session.specs.Open.{asks_parts}
use Rattle.broker_server.specs.BrokerRows.{Subscribes}
use Rattle.broker_server.specs.Conversations.{ConversationState, OpenSubState, begun_sub}
use Rattle.broker_server.proofs.ConversationLemmas.{asks_one}
use Rattle.broker_server.proofs.conversation.Conversation.subscribe.Goals as goal

pub returns-then-is_err : goal.returns-then-is_err
returns-then-is_err g c =
    let held = c.self.inside in
    let with : List OpenSubState → ConversationState = λ subs. record {
      reader = held.reader;
      session = held.session;
      names = held.names;
      gate = held.gate;
      subs = subs;
      held = held.held;
      wire = held.wire;
      exit = held.exit;
      cut = held.cut;
      more = held.more;
      half = held.half;
      capacity = held.capacity;
      next = held.next;
      flags = held.flags;
    } in
    ([], refl, inr (inr (refl, refl, ap with c.reserve.ensures.items ∙ c.self.view_is)))

pub returns-in-Ok : goal.returns-in-Ok
returns-in-Ok g c =
    let called = g.C.BrokerCalls.called in
    let name = g.C.BrokerCalls.name c.in-Ok.sub in
    let row = Subscribes c.args.topic (Ok name) in
    let sub : Bool → ℕ → OpenSubState = λ parts capacity. begun_sub c.args.id parts name capacity in
    let held = c.self.inside in
    let parts_is = c.asks_parts-parts.ensures ∙ ap (λ (id : List ℕ). asks_parts id held.session) c.as_slice.ensures in
    let with : List OpenSubState → ConversationState = λ subs. record {
      reader = held.reader;
      session = held.session;
      names = held.names;
      gate = held.gate;
      subs = subs;
      held = held.held;
      wire = held.wire;
      exit = held.exit;
      cut = held.cut;
      more = held.more;
      half = held.half;
      capacity = held.capacity;
      next = held.next;
      flags = held.flags;
    } in (
      row ∷ [],
      asks_one called c.args.calls.now c.subscribe.new.self row c.in-Ok.ensures.begun,
      inl (
        name,
        refl,
        refl,
        ap with (c.push_reserved.ensures.items ∙ ap (λ (subs : List OpenSubState). subs ++ sub c.asks_parts-parts.result held.capacity ∷ []) c.reserve.ensures.items)
            ∙ (ap (λ (parts : Bool). with (held.subs.items ++ sub parts held.capacity ∷ [])) parts_is
            ∙ ap (λ (s : ConversationState). record s { subs = s.subs ++ sub (asks_parts c.args.id s.session) s.capacity ∷ [] }) c.self.view_is),
      ),
    )

pub returns-in-Err : goal.returns-in-Err
returns-in-Err g c =
    let called = g.C.BrokerCalls.called in
    let row = Subscribes c.args.topic (Err c.in-Err.fault) in
    let held = c.self.inside in
    let with : List OpenSubState → ConversationState = λ subs. record {
      reader = held.reader;
      session = held.session;
      names = held.names;
      gate = held.gate;
      subs = subs;
      held = held.held;
      wire = held.wire;
      exit = held.exit;
      cut = held.cut;
      more = held.more;
      half = held.half;
      capacity = held.capacity;
      next = held.next;
      flags = held.flags;
    } in (
      row ∷ [],
      asks_one called c.args.calls.now c.subscribe.new.self row c.in-Err.ensures.refused,
      inr (inl (c.in-Err.fault, refl, refl, ap with c.reserve.ensures.items ∙ c.self.view_is)),
    )
