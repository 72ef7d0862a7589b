use Rattle.std.proofs.Common.{◌≡◌, ◌++◌, Bool, None, Some, refl, inl, inr, ap, ◌∙◌, subst}
use Rattle.stomp_frame.specs.declared.client_frame.ClientFrame.{ClientFrame}
use Rattle.stomp_frame.specs.declared.raw_frame.RawFrame.{RawFrame}
use Rattle.stomp_frame.specs.ClientFrames.{raw_of}
use Rattle.stomp_frame.specs.Receipts.{receipt_of}
use Rattle.broker_server.specs.ConversationFaults.{tells_version}
use Rattle.broker_server.specs.Conversations.{ConversationState, EndsSaying, closing_rows}
use Rattle.broker_server.specs.Hearing.{AcceptsFrame, DeniesFrame, RefusesFrame, TakesFrame}
use Rattle.broker_server.proofs.ConversationLemmas.{asks_on}
use Rattle.delivery.specs.declared.connection_fault.ConnectionFault.TheVariants as connection
use Rattle.broker_server.specs.declared.conversation.conversation_fault.ConversationFault.{ConversationFault}
use Rattle.broker_server.specs.declared.conversation.conversation_fault.ConversationFault.TheVariants as fault
use Rattle.broker_server.proofs.HearingLemmas.{refused_as, takes_judged, takes_refused, tells_alike}
use Rattle.broker_server.proofs.conversation.Conversation.take_frame.Goals as goal

pub returns-in-Ok-judge : goal.returns-in-Ok-judge
returns-in-Ok-judge g c =
    let called = g.C.BrokerCalls.called in
    let f = c.args.frame in
    let came = c.in-Ok.frame in
    let same = c.in-Ok.ensures.accepted.0 in
    let old = c.note_ignored.new.self in
    let judged = c.in-Ok-judge.ensures.accepted in
    let between = c.judge.new.self in
    let did = c.act.ensures in
    let step = c.in-Ok-judge.step in
    let accepts = subst (λ (h : RawFrame). AcceptsFrame h step old judged.0 between) same judged.2 in
    let takes = takes_judged f old (judged.0 ++ did.0) c.act.new.self c.in-Ok.ensures.accepted.1
    (judged.0, did.0, refl, between, inl (step, accepts, did.2)) in (
      judged.0 ++ did.0,
      asks_on called c.args.calls.now c.judge.new.calls c.act.new.calls judged.0 did.0 judged.1 did.1,
      subst (λ (s : ConversationState). TakesFrame f s (judged.0 ++ did.0) c.act.new.self) c.note_ignored.ensures takes,
    )

pub returns-in-Err-judge : goal.returns-in-Err-judge
returns-in-Err-judge g c =
    let called = g.C.BrokerCalls.called in
    let f = c.args.frame in
    let came = c.in-Ok.frame in
    let same = c.in-Ok.ensures.accepted.0 in
    let old = c.note_ignored.new.self in
    let e = c.in-Err-judge in
    let judged = e.ensures.refused in
    let between = c.judge.new.self in
    let new = c.fail.new in
    let rest = closing_rows between in
    let asks = c.receipt-in-Err-judge.ensures.value ∙ ap (λ (frame : ClientFrame). receipt_of (raw_of frame)) e.ensures.back in
    let denies = subst (λ (h : RawFrame). DeniesFrame h e.fault old judged.0 between) same judged.2 in
    let takes = takes_judged f old (judged.0 ++ rest) new.self c.in-Ok.ensures.accepted.1
    (judged.0, rest, refl, between, inr (e.fault, denies, (refl, refused_as f (raw_of came) same _ asks (tells_version None e.fault) e.fault (tells_alike f e.fault old.session denies.known denies.refused) between new.self c.fail.ensures.fails))) in (
      judged.0 ++ rest,
      asks_on called c.args.calls.now c.judge.new.calls new.calls judged.0 rest judged.1 c.fail.ensures.rows,
      subst (λ (s : ConversationState). TakesFrame f s (judged.0 ++ rest) new.self) c.note_ignored.ensures takes,
    )

pub returns-in-Err : goal.returns-in-Err
returns-in-Err g c =
    let f = c.args.frame in
    let old = c.note_ignored.new.self in
    let new = c.fail_saying.new in
    let kind = c.in-Err.fault in
    let why = fault.Connection (connection.Frame kind) in
    let same = c.in-Err.ensures.refused.0 in
    let told = c.from-fault.result in
    let version = c.says_version-version.result in
    let says : version ≡ tells_version (Some f) told =
    c.says_version-version.ensures ∙ ap (λ (h : RawFrame). tells_version (Some h) told) same in
    let ends = refused_as f c.in-Err.frame same _ c.receipt.ensures.value version told says old new.self c.fail_saying.ensures.fails in
    let refuses : RefusesFrame why f old (closing_rows old) new.self =
    (refl, subst (λ (w : ConversationFault). EndsSaying (tells_version (Some f) w) w (receipt_of f) old new.self) c.from-fault.ensures ends) in
    let takes = takes_refused f old (closing_rows old) new.self kind c.in-Err.ensures.refused.1 refuses in
    (closing_rows old, c.fail_saying.ensures.rows, subst (λ (s : ConversationState). TakesFrame f s (closing_rows old) new.self) c.note_ignored.ensures takes)
