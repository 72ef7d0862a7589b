use Rattle.std.proofs.Common.{[], ◌∷◌, refl, sym, inl, inr, subst, ◌∙◌}
use Rattle.stomp_frame.specs.ClientFrames.{raw_of}
use Rattle.broker_server.specs.declared.conversation.conversation_fault.ConversationFault.{ConversationFault}
use Rattle.broker_server.specs.BrokerRows.{LooksUp}
use Rattle.broker_server.specs.Conversations.{ConversationState}
use Rattle.broker_server.specs.Hearing.{AcceptsFrame, DeniesFrame}
use Rattle.broker_server.specs.Judging.{IsFrameRefused}
use Rattle.broker_server.proofs.ConversationLemmas.{asks_one}
use Rattle.broker_server.proofs.HearingLemmas.{not_asked, not_lacking}
use Rattle.broker_server.proofs.conversation.Conversation.judge.Goals as goal

pub returns-in-Ok-clause-accepted : goal.returns-in-Ok-clause-accepted
returns-in-Ok-clause-accepted g c =
    let held = c.self.inside in
    let f = raw_of c.args.frame in
    let new : ConversationState = record {
      reader = held.reader;
      session = c.step.new.self;
      names = c.step.new.names;
      gate = held.gate;
      subs = held.subs.items;
      held = held.held;
      wire = held.wire;
      exit = held.exit;
      cut = held.cut;
      more = held.more;
      half = held.half;
      capacity = held.capacity;
      next = held.next;
      flags = held.flags;
    } in (
      [],
      refl,
      subst (λ (s : ConversationState). AcceptsFrame f c.in-Ok.step s [] new) c.self.view_is (record {
        known = held.names;
        looks = inl (c.is_known.ensures.known c.if-is_known.true, refl, refl);
        accepted = record { judged = c.in-Ok.ensures.accepted; named = c.in-Ok.ensures.named };
        same = refl;
      }),
    )

pub returns-in-Err-clause-refused : goal.returns-in-Err-clause-refused
returns-in-Err-clause-refused g c =
    let held = c.self.inside in
    let f = raw_of c.args.frame in
    let new : ConversationState = record {
      reader = held.reader;
      session = c.step.new.self;
      names = c.step.new.names;
      gate = held.gate;
      subs = held.subs.items;
      held = held.held;
      wire = held.wire;
      exit = held.exit;
      cut = held.cut;
      more = held.more;
      half = held.half;
      capacity = held.capacity;
      next = held.next;
      flags = held.flags;
    } in (
      [],
      refl,
      subst (λ (s : ConversationState). DeniesFrame f c.from.result s [] new) c.self.view_is (record {
        known = held.names;
        looks = inl (c.is_known.ensures.known c.if-is_known.true, refl, refl);
        refused = subst (λ (w : ConversationFault). IsFrameRefused f w held.session held.names) (sym c.from.ensures) c.in-Err.ensures.refused;
        lacks = λ e. absurd (not_lacking _ (sym c.from.ensures ∙ e));
        stay = λ none. c.in-Err.ensures.unnamed;
        same = refl;
      }),
    )

pub returns-in-Ok-step-clause-accepted : goal.returns-in-Ok-step-clause-accepted
returns-in-Ok-step-clause-accepted g c =
    let held = c.self.inside in
    let f = raw_of c.args.frame in
    let row = LooksUp held.names c.step-2.new.names in
    let took = c.in-Ok-step.ensures.accepted in
    let new : ConversationState = record {
      reader = held.reader;
      session = c.step-2.new.session;
      names = c.step-2.new.names;
      gate = held.gate;
      subs = held.subs.items;
      held = held.held;
      wire = held.wire;
      exit = held.exit;
      cut = held.cut;
      more = held.more;
      half = held.half;
      capacity = held.capacity;
      next = held.next;
      flags = held.flags;
    } in (
      row ∷ [],
      asks_one g.C.BrokerCalls.called c.args.calls.now c.step-2.new.self row c.in-Ok-step.ensures.called,
      subst (λ (s : ConversationState). AcceptsFrame f c.in-Ok-step.step s (row ∷ []) new) c.self.view_is (record {
        known = took.0;
        looks = inr (c.is_known.ensures.unknown c.if-is_known.false, refl, took.1);
        accepted = took.2;
        same = refl;
      }),
    )

pub returns-in-Err-step-clause-refused : goal.returns-in-Err-step-clause-refused
returns-in-Err-step-clause-refused g c =
    let held = c.self.inside in
    let f = raw_of c.args.frame in
    let row = LooksUp held.names c.step-2.new.names in
    let took = c.in-Err-step.ensures.refused in
    let new : ConversationState = record {
      reader = held.reader;
      session = c.step-2.new.session;
      names = c.step-2.new.names;
      gate = held.gate;
      subs = held.subs.items;
      held = held.held;
      wire = held.wire;
      exit = held.exit;
      cut = held.cut;
      more = held.more;
      half = held.half;
      capacity = held.capacity;
      next = held.next;
      flags = held.flags;
    } in (
      row ∷ [],
      asks_one g.C.BrokerCalls.called c.args.calls.now c.step-2.new.self row c.in-Err-step.ensures.called,
      subst (λ (s : ConversationState). DeniesFrame f c.in-Err-step.fault s (row ∷ []) new) c.self.view_is (record {
        known = took.0;
        looks = inr (c.is_known.ensures.unknown c.if-is_known.false, refl, took.1);
        refused = took.2;
        lacks = λ e. c.is_known.ensures.unknown c.if-is_known.false;
        stay = λ none. absurd (not_asked row none);
        same = refl;
      }),
    )
