use Rattle.delivery.proofs.Words.All.{◌≡◌, refl, ℕ, ◌-◌, List, ◌∷◌, [], ◌++◌, ap, subst, ◌∙◌, arith, vec_len, vec_capacity, length, reverse, take, KeptRun, HasAnswered, steps_of}
use Rattle.delivery.proofs.Views.Runs.KeptRuns.{opening_of, has_report, has_answered, step_kept, names_stay, capacity_stays}
use Rattle.delivery.proofs.net.Net.step.Goals as goal
use Rattle.delivery.proofs.Views.Runs.HeldByNet.{are_held}

pub invariant_of-self : goal.invariant_of-self
invariant_of-self c =
    rw c.push_reserved.ensures.items
    (step_kept c.self.inside.clocks.items c.self.inside.kept.items c.self.inside.state c.answer-outcome.new.self c.self.inside.clients c.answer-outcome.new.clients
    c.args.event c.answer-outcome.result c.self.invariant c.answer-outcome.ensures)

pub returns-clause-kept : goal.returns-clause-kept
returns-clause-kept c =
    let clocks = c.self.inside.clocks.items in let held = c.self.inside.state in let new = c.answer-outcome.new.self in
    let names : take (length clocks) new.names ≡ take (length clocks) held.names = names_stay clocks c.self.inside.kept.items held new c.self.inside.clients c.answer-outcome.new.clients c.args.event c.answer-outcome.result c.self.invariant c.answer-outcome.ensures in
    let capacity : new.capacity ≡ held.capacity = capacity_stays clocks c.self.inside.kept.items held new c.self.inside.clients c.answer-outcome.new.clients c.args.event c.answer-outcome.result c.self.invariant c.answer-outcome.ensures in
    let spare : vec_capacity c.push_reserved.new.self - vec_len c.push_reserved.new.self ≡ vec_capacity c.self.inside.kept - vec_len c.self.inside.kept - 1 =
    omega (arith, c.push_reserved.ensures.len, c.push_reserved.ensures.capacity) in
    (λ i. record {
      topics = record { names = names i; clocks = clocks };
      capacity = capacity i;
      kept = c.push_reserved.ensures.items i;
      steps = steps_of (reverse c.push_reserved.new.self.items);
      spare = spare i;
    })
    ∙ ap (λ (net : KeptRun). record net {
      kept = net.kept ++ record { event = c.args.event; outcome = c.answer-outcome.result } ∷ [];
      steps = steps_of (reverse c.push_reserved.new.self.items);
      spare = net.spare - 1;
    }) c.self.view_is

pub returns-clause-answered : goal.returns-clause-answered
returns-clause-answered c =
    let clocks = c.self.inside.clocks.items in let held = c.self.inside.state in let new = c.answer-outcome.new.self in let kept = c.self.inside.kept.items in
    let names : take (length clocks) new.names ≡ take (length clocks) held.names = names_stay clocks kept held new c.self.inside.clients c.answer-outcome.new.clients c.args.event c.answer-outcome.result c.self.invariant c.answer-outcome.ensures in
    let capacity : new.capacity ≡ held.capacity = capacity_stays clocks kept held new c.self.inside.clients c.answer-outcome.new.clients c.args.event c.answer-outcome.result c.self.invariant c.answer-outcome.ensures in
    let old : KeptRun = record {
      topics = opening_of clocks held;
      capacity = held.capacity;
      kept = kept;
      steps = steps_of (reverse kept);
      spare = vec_capacity c.self.inside.kept - vec_len c.self.inside.kept;
    } in
    let later : KeptRun = record {
      topics = opening_of clocks new;
      capacity = new.capacity;
      kept = c.push_reserved.new.self.items;
      steps = steps_of (reverse c.push_reserved.new.self.items);
      spare = vec_capacity c.push_reserved.new.self - vec_len c.push_reserved.new.self;
    } in
    subst (λ (net : KeptRun). HasAnswered c.args.event c.answer-outcome.result net later) c.self.view_is
    (has_answered old later new c.args.event c.answer-outcome.result refl refl
    (rw c.push_reserved.ensures.items
    (step_kept clocks kept held new c.self.inside.clients c.answer-outcome.new.clients c.args.event c.answer-outcome.result c.self.invariant c.answer-outcome.ensures).run)
    (ap (λ (n : List (List ℕ)). record { names = n; clocks = clocks }) names) capacity c.push_reserved.ensures.items)

pub returns-clause-delivered : goal.returns-clause-delivered
returns-clause-delivered c =
    let new = c.answer-outcome.new.self in
    has_report _ new refl (rw c.push_reserved.ensures.items
    (step_kept c.self.inside.clocks.items c.self.inside.kept.items c.self.inside.state new c.self.inside.clients c.answer-outcome.new.clients
    c.args.event c.answer-outcome.result c.self.invariant c.answer-outcome.ensures).run)

pub answer-outcome-requires : goal.answer-outcome-requires
answer-outcome-requires c = are_held (opening_of c.self.inside.clocks.items c.self.inside.state) c.self.inside.state.capacity
    c.self.inside.kept.items c.self.inside.state c.self.inside.clients c.self.invariant
