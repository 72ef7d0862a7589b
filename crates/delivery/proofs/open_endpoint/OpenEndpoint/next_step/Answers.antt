use Rattle.std.proofs.Common.{refl}
use Rattle.delivery.proofs.Views.Endpoints.OutcomeOfReading.{judged_idle, judged_waits, judged_takes, judged_refuses, judged_fails, some_unread}
use Rattle.delivery.proofs.open_endpoint.OpenEndpoint.next_step.Goals as goal

pub returns-then-clean : goal.returns-then-clean
returns-then-clean c accepted stands unanswered = judged_idle accepted c.args.names.now c.args.self.now (c.if-clean.ensures.0 refl)

pub returns-in-Ok-None : goal.returns-in-Ok-None
returns-in-Ok-None c accepted stands unanswered =
    judged_waits accepted c.args.names.now c.args.self.now c.next.new.self c.in-Ok-None.field-0 c.in-Ok-None.ensures.answer c.in-Ok-None.field-0-is unanswered

pub returns-in-Ok : goal.returns-in-Ok
returns-in-Ok c accepted stands unanswered =
    let h = c.in-Ok.ensures in let taken = h.ok accepted stands in
    judged_takes accepted c.args.names.now c.accept.new.names c.args.self.now c.accept.new.self c.next.new.self c.in-Ok-Some.field-0 c.in-Ok-Some.frame c.in-Ok.step
    c.in-Ok-Some.ensures.answer c.in-Ok-Some.field-0-is unanswered taken.0 taken.1 h.named h.others

pub returns-in-Err-accept : goal.returns-in-Err-accept
returns-in-Err-accept c accepted stands unanswered =
    let h = c.in-Err-accept.ensures in
    judged_refuses accepted c.args.names.now c.accept.new.names c.args.self.now c.accept.new.self c.next.new.self c.in-Ok-Some.field-0 c.in-Ok-Some.frame c.in-Err-accept.frame c.in-Err-accept.fault
    c.in-Ok-Some.ensures.answer c.in-Ok-Some.field-0-is unanswered (h.err accepted stands) h.back h.unnamed

pub returns-in-Err : goal.returns-in-Err
returns-in-Err c accepted stands unanswered =
    judged_fails accepted c.args.names.now c.args.self.now (record c.args.self.now { reader = c.next.new.self }) c.next.new.self c.in-Err.fault c.in-Err.ensures.answer unanswered
    (some_unread c.args.self.now.reader.text c.if-clean.ensures.1)
    c.reader_fault.result c.reader_fault.ensures
