use Rattle.delivery.proofs.Words.All.{Option, Some, None, get_or, refl, sym, ap, ◌∙◌, arith, Result, Ok, Err, Step, Outcome, Refusal, EndpointFault, staged_endpoint, no_endpoint}
use Rattle.delivery.proofs.Views.Events.ReadingChecks.{idle_checked}
use Rattle.delivery.proofs.Views.Endpoints.EndpointChanges.{changed_length}
use Rattle.delivery.proofs.Views.Events.NextFaults.{read_judged, next_waits, next_takes, next_faults}
use Rattle.delivery.proofs.Views.Clients.BothOfStep.{faulted_both, silent_both}
use Rattle.delivery.proofs.net_state.NetState.read_frame.Goals as goal

pub act-requires-clause-there : goal.act-requires-clause-there
act-requires-clause-there c =
    let v = c.args.self.now in let w = c.next_step.new.self in
    let n = changed_length (record v { names = w.names }) w c.args.connection (staged_endpoint (get_or w.endpoints c.args.connection no_endpoint).stage (get_or v.endpoints c.args.connection no_endpoint)) (c.next_step.ensures.stays no_endpoint) in
    omega (arith, n, c.requires.there)

pub refuse-requires : goal.refuse-requires
refuse-requires c =
    let v = c.args.self.now in let w = c.next_step.new.self in
    let n = changed_length (record v { names = w.names }) w c.args.connection (staged_endpoint (get_or w.endpoints c.args.connection no_endpoint).stage (get_or v.endpoints c.args.connection no_endpoint)) (c.next_step.ensures.stays no_endpoint) in
    omega (arith, n, c.requires.there)

pub act-requires-clause-asks : goal.act-requires-clause-asks
act-requires-clause-asks c =
    let k = c.requires.idle.0 in let step = c.in-Ok-Some.step in let known : Result (Option Step) EndpointFault = Ok (Some step) in
    let h = read_judged k c.args.connection c.args.self.now c.next_step.new.self c.next_step.result known no_endpoint c.requires.idle.1 c.requires.idle.2 c.requires.idle.3
    (c.next_step.ensures.stays no_endpoint) (c.next_step.ensures.judges no_endpoint)
    (c.in-Ok-Some.is ∙ ap (λ (o : Option Step). Ok o) c.in-Ok-Some.field-0-is) in
    let taken = next_takes k c.args.connection step c.next_step.new.self c.requires.idle.1 (sym (idle_checked k c.args.connection) ∙ c.requires.idle.2) h in
    (k, taken.frame, taken.left, taken.asks, c.requires.idle.4)

pub returns-in-Ok-None : goal.returns-in-Ok-None
returns-in-Ok-None c k reached free is kept =
    let known : Result (Option Step) EndpointFault = Ok None in
    let h = read_judged k c.args.connection c.args.self.now c.next_step.new.self c.next_step.result known no_endpoint reached free is
    (c.next_step.ensures.stays no_endpoint) (c.next_step.ensures.judges no_endpoint)
    (c.in-Ok-None.is ∙ ap (λ (o : Option Step). Ok o) c.in-Ok-None.field-0-is) in
    silent_both k c.args.connection (Outcome.Refused Refusal.NoFrame) c.next_step.new.self c.args.clients.now refl
    (next_waits k c.args.connection c.next_step.new.self (sym (idle_checked k c.args.connection) ∙ free) h) kept

pub returns-in-Ok-Some : goal.returns-in-Ok-Some
returns-in-Ok-Some c k reached free is kept =
    let step = c.in-Ok-Some.step in let known : Result (Option Step) EndpointFault = Ok (Some step) in
    let h = read_judged k c.args.connection c.args.self.now c.next_step.new.self c.next_step.result known no_endpoint reached free is
    (c.next_step.ensures.stays no_endpoint) (c.next_step.ensures.judges no_endpoint)
    (c.in-Ok-Some.is ∙ ap (λ (o : Option Step). Ok o) c.in-Ok-Some.field-0-is) in
    let taken = next_takes k c.args.connection step c.next_step.new.self reached (sym (idle_checked k c.args.connection) ∙ free) h in
    c.act.ensures k taken.frame taken.left taken.asks kept

pub returns-in-Err : goal.returns-in-Err
returns-in-Err c k reached free is kept =
    let known : Result (Option Step) EndpointFault = Err (c.in-Err.fault, c.in-Err.frame) in
    let h = read_judged k c.args.connection c.args.self.now c.next_step.new.self c.next_step.result known no_endpoint reached free is
    (c.next_step.ensures.stays no_endpoint) (c.next_step.ensures.judges no_endpoint) c.in-Err.is in
    faulted_both k c.args.connection c.refuse.result c.refuse.new.self c.args.clients.now c.refuse.ensures.faulted
    (c.refuse.ensures.ended k reached
    (next_faults k c.args.connection c.in-Err.fault c.in-Err.frame c.next_step.new.self reached (sym (idle_checked k c.args.connection) ∙ free) h)) kept
