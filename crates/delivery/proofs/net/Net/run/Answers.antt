use Rattle.delivery.proofs.Words.All.{◌≡◌, ◌-◌, [], ◌∷◌, List, length, refl, sym, ap, subst, ◌∙◌, append_assoc, append-nil, length-append, arith, vec_len, vec_capacity, into_iter_items, reverse, Event, Kept, KeptRun, HasTaken, steps_of}
use Rattle.delivery.proofs.Views.Runs.KeptRuns.{opening_of, has_report, taken_none, taken_more}
use Rattle.delivery.proofs.net.Net.run.Goals as goal

nothing_left : {X : Type 0} (l : List X) → length l ≡ 0 → l ≡ []
nothing_left [] h = refl
nothing_left (x ∷ xs) h = absurd (omega arith)

pub returns-in_err-reserve-clause-delivered : goal.returns-in_err-reserve-clause-delivered
returns-in_err-reserve-clause-delivered c = has_report _ c.self.inside.state refl (rw c.in_err-reserve.ensures.items c.self.invariant.run)

pub loop-event-init : goal.loop-event-init
loop-event-init c =
    let held = c.self.inside.state in let events = c.into_events-event-items.result in
    let items : into_iter_items c.into_iter-event-iterator.result ≡ c.args.events = c.into_iter-event-iterator.ensures.into_iter_gives.0 ∙ c.into_events-event-items.ensures in
    let many = ap (λ (es : List Event). length es) items in let read = ap (λ (es : List Event). length es) c.into_iter-event-iterator.ensures.into_iter_gives.0 in
    let spare = vec_capacity c.reserve.new.self - vec_len c.reserve.new.self in let was = ap (λ (net : KeptRun). net.spare) c.self.view_is in
    let new : List Kept → KeptRun = λ kept. record {
      topics = opening_of c.self.inside.clocks.items held;
      capacity = held.capacity;
      kept = kept;
      steps = steps_of (reverse kept);
      spare = spare;
    } in (
      items,
      taken_none c.args.self.now _ (ap new c.in_ok-reserve.ensures.items ∙ ap (λ (net : KeptRun). record net { spare = spare }) c.self.view_is),
      has_report _ held refl (rw c.in_ok-reserve.ensures.items c.self.invariant.run),
      omega (arith, many, c.len.ensures, c.in_ok-reserve.ensures.ok, c.in_ok-reserve.ensures.len),
      omega (arith, was, c.in_ok-reserve.ensures.capacity, c.in_ok-reserve.ensures.len),
      c.into_iter-event-iterator.ensures.into_iter_gives.1 ∙ omega (arith, read, events.ok.0),
    )

pub step-requires : goal.step-requires
step-requires c = let left = c.loop-event.invariant.3 in let more = ap (λ (es : List Event). length es) c.in-Some.ensures.steps.0 in omega (arith, left, more)

pub loop-event-preserved : goal.loop-event-preserved
loop-event-preserved c =
    let at = c.loop-event in let e = c.in-Some.event in let steps : into_iter_items at.event-iterator ≡ e ∷ into_iter_items c.next.new.self = c.in-Some.ensures.steps.0 in
    let many = ap (λ (es : List Event). length es) steps in
    let spare = ap (λ (net : KeptRun). net.spare) c.step.ensures.kept in (
      append_assoc at.yielded (e ∷ []) _ ∙ rw (← steps) at.invariant.0,
      taken_more at.yielded c.args.self.now at.self c.step.new.self e c.step.result at.invariant.1 c.step.ensures.kept,
      c.step.ensures.delivered,
      omega (arith, many, spare, at.invariant.3),
      omega (arith, many, spare, at.invariant.3, at.invariant.4, length-append at.yielded (e ∷ [])),
      (let was = at.invariant.5 in let gone = c.in-Some.ensures.steps.1 in omega (arith, many, was, gone)),
    )

pub returns-clause-taken : goal.returns-clause-taken
returns-clause-taken c =
    let at = c.loop-event in let empty : into_iter_items at.event-iterator ≡ [] = nothing_left _ (sym at.invariant.5 ∙ c.in-None.ensures.steps.0) in
    let all : at.yielded ≡ c.args.events = sym (append-nil at.yielded) ∙ rw empty at at.invariant.0 in
    subst (λ (es : List Event). HasTaken es c.args.self.now at.self) all at.invariant.1

pub returns-clause-room : goal.returns-clause-room
returns-clause-room c =
    let at = c.loop-event in let empty : into_iter_items at.event-iterator ≡ [] = nothing_left _ (sym at.invariant.5 ∙ c.in-None.ensures.steps.0) in
    let all : at.yielded ≡ c.args.events = sym (append-nil at.yielded) ∙ rw empty at at.invariant.0 in omega (arith, at.invariant.4, ap (λ (es : List Event). length es) all)

pub returns-clause-delivered : goal.returns-clause-delivered
returns-clause-delivered c = c.loop-event.invariant.2
