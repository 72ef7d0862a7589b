use Rattle.std.proofs.Common.{◌≡◌, [], ◌∷◌, Option, Some, None, Ok, Err, refl, sym, ap, ◌∙◌, inl, inr, subst, append-nil}
use Rattle.stomp_frame.specs.declared.fault.FrameFault.{FrameFault}
use Rattle.stomp_frame.specs.declared.raw_frame.RawFrame.{RawFrame}
use Rattle.stomp_frame.specs.Reader.{NextReturns, Unread}
use Rattle.broker_server.specs.declared.conversation.conversation_fault.ConversationFault.{ConversationFault}
use Rattle.broker_server.specs.Conversations.{ConversationState, EndsByError, closing_rows}
use Rattle.broker_server.specs.Hearing.{Listens, Rests, TakesFrames}
use Rattle.broker_server.proofs.HearingLemmas.{nothing_read, reading_fails, some_unread}
use Rattle.broker_server.proofs.conversation.Conversation.hear_next.Goals as goal

pub returns-in-Ok-Some-clause-took : goal.returns-in-Ok-Some-clause-took
returns-in-Ok-Some-clause-took g c =
    let did = c.take_frame.ensures in
    let f = c.in-Ok-Some.frame in
    let new = c.take_frame.new.self in
    let left = c.next.new.self in
    let reads : NextReturns c.self.inside.reader (Ok (Some f)) left =
    subst (λ (o : Option RawFrame). NextReturns c.self.inside.reader (Ok o) left) c.in-Ok-Some.field-0-is (c.in-Ok-Some.ensures.answer (λ e. cc)) in
    λ e. (
      did.0,
      did.1,
      f,
      subst (λ (s : ConversationState). Listens s → TakesFrames (f ∷ []) s did.0 new) c.self.view_is
          (λ listens. (listens, left, reads, new, did.0, [], sym (append-nil did.0), did.2, (refl, refl))) (c.requires.open, c.requires.free),
    )

pub returns-in-Ok-None-clause-rests : goal.returns-in-Ok-None-clause-rests
returns-in-Ok-None-clause-rests g c =
    let held = c.self.inside in
    let left = c.next.new.self in
    let new : ConversationState = record {
      reader = left;
      session = held.session;
      names = held.names;
      gate = held.gate;
      subs = held.subs.items;
      held = held.held;
      wire = held.wire;
      exit = held.exit;
      cut = held.cut;
      more = held.more;
      half = held.half;
      capacity = held.capacity;
      next = held.next;
      flags = held.flags;
    } in
    let reads : NextReturns c.self.inside.reader (Ok None) left =
    subst (λ (o : Option RawFrame). NextReturns c.self.inside.reader (Ok o) left) c.in-Ok-None.field-0-is (c.in-Ok-None.ensures.answer (λ e. cc)) in
    λ e. (
      [],
      refl,
      subst (λ (s : ConversationState). Listens s → Rests s [] new) c.self.view_is
          (λ listens. inr (inl (listens, left, reads, refl, refl))) (c.requires.open, c.requires.free),
    )

pub returns-then-not-is_idle-clause-rests : goal.returns-then-not-is_idle-clause-rests
returns-then-not-is_idle-clause-rests g c =
    let why = c.in-Err.fault in
    let new = c.fail.new.self in
    let held = c.self.inside in
    let left = c.next.new.self in
    let old : ConversationState = record {
      reader = held.reader;
      session = held.session;
      names = held.names;
      gate = held.gate;
      subs = held.subs.items;
      held = held.held;
      wire = held.wire;
      exit = held.exit;
      cut = held.cut;
      more = held.more;
      half = held.half;
      capacity = held.capacity;
      next = held.next;
      flags = held.flags;
    } in
    let fails = subst (λ (w : ConversationFault). EndsByError w None (record old { reader = left }) new) c.of_reader.ensures c.fail.ensures.fails in
    let reads = reading_fails why held.reader left (λ no. c.in-Err.ensures.answer (λ e. no cc)) (λ yes. let same = c.in-Err.ensures.no_memory cc in (same, some_unread held.reader left (c.is_idle.ensures.due c.if-not-is_idle.true yes) same)) in
    λ e. (
      closing_rows old,
      c.fail.ensures.rows,
      subst (λ (s : ConversationState). Listens s → Rests s (closing_rows old) new) c.self.view_is
          (λ listens. inr (inr (listens, why, left, reads, refl, fails))) (c.requires.open, c.requires.free),
    )

pub returns-else-not-is_idle-clause-rests : goal.returns-else-not-is_idle-clause-rests
returns-else-not-is_idle-clause-rests g c =
    let held = c.self.inside in
    let left = c.next.new.self in
    let old : ConversationState = record {
      reader = held.reader;
      session = held.session;
      names = held.names;
      gate = held.gate;
      subs = held.subs.items;
      held = held.held;
      wire = held.wire;
      exit = held.exit;
      cut = held.cut;
      more = held.more;
      half = held.half;
      capacity = held.capacity;
      next = held.next;
      flags = held.flags;
    } in
    let idle = c.is_idle.ensures.idle c.if-not-is_idle.false in
    let lacks : c.next.result ≡ Err FrameFault.NoMemory = c.in-Err.is ∙ ap (λ (w : FrameFault). Err w) idle.0 in
    let same : left ≡ held.reader = c.next.ensures.no_memory lacks in
    let none = subst (λ (u : Unread). u.text ≡ []) same idle.1 in
    let reads = nothing_read held.session held.reader left c.next.result lacks c.next.ensures.again same none in
    λ e. (
      [],
      refl,
      subst (λ (s : ConversationState). Listens s → Rests s [] (record old { reader = left })) c.self.view_is
          (λ listens. inr (inl (listens, left, reads, refl, refl))) (c.requires.open, c.requires.free),
    )
