use Rattle.std.proofs.Common.{◌≡◌, ℕ, suc, ◌+◌, List, [], ◌∷◌, ◌++◌, map, ap, ◌∙◌, arith}
use Rattle.std.proofs.lemmas.List.{map_push}
use Rattle.broker_locks.specs.Place.{PlaceState, new_place, topic_limit}
use Rattle.broker_locks.specs.Opening.{opening_places}
use Rattle.broker_locks.proofs.broker.opening_topics.Goals as goal

pub returns-clause-each : goal.returns-clause-each
returns-clause-each g c =
    let past = c.loop-i-test.false in
    let within = c.loop-i.auto.i-end in
    let all : c.loop-i.i ≡ c.args.count = omega arith in
    c.loop-i.invariant.0 ∙ ap (opening_places c.args.topics.now c.args.keep_trace) all

pub loop-i-preserved : goal.loop-i-preserved
loop-i-preserved g c =
    let before = c.loop-i.invariant in
    let grown = ap (map (λ t. t.place)) c.in_ok-push.ensures.items ∙ map_push (λ t. t.place) c.loop-i.opening.items c.new.result in
    let was = grown ∙ ap (λ (z : List PlaceState). z ++ c.new.result.place ∷ []) before.0 in
    let new = was ∙ ap (λ (z : PlaceState). opening_places c.args.topics.now c.args.keep_trace c.loop-i.i ++ z ∷ []) c.new.ensures in
    let timed = new ∙ ap (λ (z : ℕ). opening_places c.args.topics.now c.args.keep_trace c.loop-i.i ++ new_place (record { 0 = c.loop-i.i }) topic_limit z c.args.keep_trace ∷ []) c.clock_of-clock.ensures in
    let next : suc c.loop-i.i ≡ c.loop-i.i + 1 = omega arith in (
      timed ∙ ap (opening_places c.args.topics.now c.args.keep_trace) next,
      (let e = c.in_ok-push.ensures.len in let f = before.1 in omega arith),
      (let e = c.split_off-one.ensures.parts_left in let f = before.2 in omega arith),
      (let e = c.split_off-one.ensures.amount_left in let f = before.3 in omega arith),
    )
