use Rattle.std.proofs.Common.{◌≡◌, true, false, ◌++◌, Option, Some, None, refl, sym, ap, subst, ◌∙◌, inr}
use Rattle.broker_server.specs.declared.conversation.held.Held.{Held}
use Rattle.broker_server.specs.Conversations.{ConversationState}
use Rattle.broker_server.specs.Hearing.{Finishes, GoesOnHalfway}
use Rattle.broker_server.proofs.ConversationLemmas.{asks_on}
use Rattle.broker_server.proofs.HearingLemmas.{if_half, if_whole}
use Rattle.broker_server.proofs.conversation.Conversation.go_on.Goals as goal

pub returns-then-self : goal.returns-then-self
returns-then-self g c =
    let what = c.in-Some.held in
    let did = c.go_on_halfway.ensures in
    let inside = c.self.inside in
    let with : Option Held → ConversationState = λ h. record {
      reader = inside.reader;
      session = inside.session;
      names = inside.names;
      gate = inside.gate;
      subs = inside.subs.items;
      held = h;
      wire = inside.wire;
      exit = inside.exit;
      cut = inside.cut;
      more = inside.more;
      half = inside.half;
      capacity = inside.capacity;
      next = inside.next;
      flags = inside.flags;
    } in
    let is : inside.held ≡ Some what = sym c.take.ensures.value ∙ c.in-Some.is in
    let free = ap with c.take.ensures.after ∙ ap (λ (s : ConversationState). record s { held = None }) c.self.view_is in
    let half : c.args.self.now.half ≡ true = sym (ap (λ (s : ConversationState). s.half) c.self.view_is) ∙ c.if-self.true in (
      did.0,
      did.1,
      inr (
        what,
        sym (ap (λ (s : ConversationState). s.held) c.self.view_is) ∙ is,
        if_half c.args.self.now.half _ _ half (subst (λ (s : ConversationState). GoesOnHalfway what s did.0 c.go_on_halfway.new.self) free did.2),
      ),
    )

pub returns : goal.returns
returns g c =
    let called = g.C.BrokerCalls.called in
    let what = c.in-Some.held in
    let did = c.finish.ensures in
    let more = c.hear_all.ensures in
    let inside = c.self.inside in
    let with : Option Held → ConversationState = λ h. record {
      reader = inside.reader;
      session = inside.session;
      names = inside.names;
      gate = inside.gate;
      subs = inside.subs.items;
      held = h;
      wire = inside.wire;
      exit = inside.exit;
      cut = inside.cut;
      more = inside.more;
      half = inside.half;
      capacity = inside.capacity;
      next = inside.next;
      flags = inside.flags;
    } in
    let is : inside.held ≡ Some what = sym c.take.ensures.value ∙ c.in-Some.is in
    let free = ap with c.take.ensures.after ∙ ap (λ (s : ConversationState). record s { held = None }) c.self.view_is in
    let whole : c.args.self.now.half ≡ false = sym (ap (λ (s : ConversationState). s.half) c.self.view_is) ∙ c.if-self.false in (
      did.0 ++ more.0,
      asks_on called c.args.calls.now c.finish.new.calls c.hear_all.new.calls did.0 more.0 did.1 more.1,
      inr (
        what,
        sym (ap (λ (s : ConversationState). s.held) c.self.view_is) ∙ is,
        if_whole c.args.self.now.half _ _ whole
            (c.finish.new.self, did.0, more.0, refl, subst (λ (s : ConversationState). Finishes what s did.0 c.finish.new.self) free did.2, more.2),
      ),
    )
