use Rattle.std.proofs.Common.{◌≡◌, false, refl, sym, ap, subst, ◌∙◌}
use Rattle.stomp_frame.specs.declared.client_frame.ClientFrame.{ClientFrame}
use Rattle.stomp_frame.specs.declared.client_frame.ClientFrame.TheVariants as client_frames
use Rattle.stomp_frame.specs.declared.client_frame.send.SendFrame.{SendFrame}
use Rattle.stomp_frame.specs.declared.raw_frame.RawFrame.{RawFrame}
use Rattle.stomp_frame.specs.ClientFrames.{raw_of}
use Rattle.stomp_frame.specs.Receipts.{receipt_of}
use Rattle.stomp_frame.specs.declared.command.Command.TheVariants as commands
use Rattle.stomp_session.specs.Frames.{has_destination}
use Rattle.stomp_session.specs.Inner.Effects.{HasItsId, action_of, is_send_frame}
use Rattle.stomp_session.proofs.History.{send-follows}
use Rattle.stomp_session.proofs.Later.{with_destination-some}
use Rattle.stomp_session.proofs.Taken.{accepts, accepts-judged, frame-follows, refuses}
use Rattle.stomp_session.proofs.session.Session.step.Goals as goal

other_frame : (frame : ClientFrame) → ((send : SendFrame) → frame ≡ client_frames.Send send → Prim.⊥) → is_send_frame frame ≡ false
other_frame (client_frames.Send send) n = absurd (n send refl)
other_frame frame n = refl

pub judge-requires : goal.judge-requires
judge-requires c = other_frame c.args.frame c.in_default-frame.not-Send

pub returns-in-Ok-clause-accepted : goal.returns-in-Ok-clause-accepted
returns-in-Ok-clause-accepted c frames stands =
    let names = c.args.names.now in
    let f = c.in-Send.frame.raw in
    let command = c.in-Send.frame.complete.command in
    let grown = c.in-Ok.ensures.named ∙ sym (with_destination-some f names (ap has_destination command)) in
    rw c.in-Send.is (accepts commands.Send c.args.self.now names f c.in-Ok.step c.send.new.self c.send.new.names command c.in-Ok.ensures.accepted grown (λ frames. send-follows names frames f) frames stands)

pub returns-in-Ok-judge-clause-accepted : goal.returns-in-Ok-judge-clause-accepted
returns-in-Ok-judge-clause-accepted c frames stands =
    let names = c.args.names.now in
    let f = raw_of c.args.frame in
    accepts-judged f.command c.args.self.now names f c.in-Ok-judge.judged c.into_step.result c.judge.new.self c.judge.new.names refl c.in-Ok-judge.ensures.handles c.in-Ok-judge.ensures.named (c.into_step.ensures.action ∙ ap (λ (raw : RawFrame). action_of c.in-Ok-judge.judged raw) c.into_raw.ensures) (c.into_step.ensures.receipt ∙ ap (λ (raw : RawFrame). receipt_of raw) c.into_raw.ensures) (λ frames. frame-follows c.args.frame names frames) frames stands

pub into_step-requires : goal.into_step-requires
into_step-requires c = subst (λ (raw : RawFrame). HasItsId c.in-Ok-judge.judged raw) (sym c.into_raw.ensures) c.in-Ok-judge.ensures.handles.id

pub returns-in-Err-judge-clause-refused : goal.returns-in-Err-judge-clause-refused
returns-in-Err-judge-clause-refused c = rw c.refused-in-Err-judge.ensures.refused (λ frames stands. refuses (raw_of c.args.frame).command c.args.self.now c.args.names.now (raw_of c.args.frame) c.in-Err-judge.fault refl c.in-Err-judge.ensures.handles frames stands)
