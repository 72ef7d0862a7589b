use Rattle.std.proofs.Common.{◌++◌, [], ◌∷◌, inl, inr, refl, ◌∙◌, arith}
use Rattle.std.proofs.lemmas.List.{length_push}
use Rattle.trace_audit.specs.declared.fault.AddFault.{AddFault}
use Rattle.delivery.specs.Topics.{max_topics}
use Rattle.broker_locks.specs.Gathering.{StopsGathering}
use Rattle.broker_locks.proofs.Adding.{err_is}
use Rattle.broker_locks.proofs.Gathered.{balanced_more, gathered_first, gathered_more}
use Rattle.broker_locks.proofs.RunTraces.{of_topics_more}
use Rattle.broker_locks.proofs.broker.Broker.into_trace.Goals as goal

pub returns-in_err-rows-clause-refused : goal.returns-in_err-rows-clause-refused
returns-in_err-rows-clause-refused g c =
    let inv = c.loop-lock.invariant in
    let place = c.in-Ok.place in
    let step = c.in-Some.ensures.steps.1 in
    let fault = c.in_err-rows.field-0.0 in
    err_is c.from_residual.result fault (λ (f : AddFault). StopsGathering max_topics f) c.from_residual.ensures.1 (record {
      places = inv.places ++ place ∷ [];
      few = omega (arith, inv.many, step, length_push inv.places place);
      each = balanced_more inv.places place inv.each c.rows.ensures.balanced;
      why = inl (record { trace = c.rows.new.trace; first = gathered_first fault inv.places place c.loop-lock.trace c.rows.new.trace inv.adds c.in_err-rows.ensures.err });
    })

pub loop-lock-preserved : goal.loop-lock-preserved
loop-lock-preserved g c =
    let inv = c.loop-lock.invariant in
    let place = c.in-Ok.place in
    let step = c.in-Some.ensures.steps.1 in
    record {
      places = inv.places ++ place ∷ [];
      many = omega (arith, inv.many, step, length_push inv.places place);
      number = omega (arith, inv.number, length_push inv.places place);
      topics = of_topics_more 0 inv.places place c.loop-lock.number inv.topics (omega (arith, inv.number)) c.in-Ok.ensures.number;
      each = balanced_more inv.places place inv.each c.rows.ensures.balanced;
      adds = gathered_more inv.places place c.loop-lock.trace c.rows.new.trace inv.adds c.in_ok-rows.ensures.ok;
    }

pub returns-in_default-clause-refused : goal.returns-in_default-clause-refused
returns-in_default-clause-refused g c =
    let inv = c.loop-lock.invariant in
    record {
      places = inv.places;
      few = omega (arith, inv.many);
      each = inv.each;
      why = inr (record {
        place = c.topic_behind-topic.result.place;
        other = λ e. c.in_default.ensures.other (e ∙ inv.number);
        is = refl;
      });
    }
