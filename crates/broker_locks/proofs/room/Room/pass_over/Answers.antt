use Rattle.std.proofs.Common.{◌≡◌, ◌<◌, ◌≤◌, ℕ, true, false, sym, subst, ◌∙◌}
use Rattle.broker_locks.specs.Room.{fits, wanted}
use Rattle.broker_locks.proofs.Waiting.{lacks_fitting, lacks_full, lacks_one, lacks_unwaited, wanted_heard}
use Rattle.broker_locks.proofs.room.Room.pass_over.Goals as goal

pub returns-then-wanted-capacity-clause-answer : goal.returns-then-wanted-capacity-clause-answer
returns-then-wanted-capacity-clause-answer g c =
    lacks_full c.args.capacity (wanted c.args.capacity c.args.octets.0 c.args.self.now c.args.place.now.cells.group) c.args.place.now.cells.group c.args.self.now c.args.number (subst (λ (k : ℕ). c.args.capacity < k) c.wanted-wanted.ensures c.if-wanted-capacity.true)

pub returns-then-not-is_waited_for-clause-answer : goal.returns-then-not-is_waited_for-clause-answer
returns-then-not-is_waited_for-clause-answer g c =
    lacks_unwaited c.args.capacity (wanted c.args.capacity c.args.octets.0 c.args.self.now c.args.place.now.cells.group) c.args.place.now.cells.group c.args.self.now c.args.number (sym c.is_waited_for.ensures ∙ c.if-not-is_waited_for.true)

pub returns-then-takes-clause-answer : goal.returns-then-takes-clause-answer
returns-then-takes-clause-answer g c =
    let new = c.takes.new.place.cells.group in
    let places = wanted c.args.capacity c.args.octets.0 c.args.self.now new in
    let is = c.wanted-wanted.ensures ∙ sym (wanted_heard c.args.capacity c.args.octets.0 c.args.self.now c.args.place.now c.takes.new.place c.takes.ensures.heard) in
    lacks_fitting c.args.capacity places new c.args.self.now c.args.number (subst (λ (k : ℕ). fits k new c.args.number ≡ true) is (sym c.takes.ensures.answer ∙ c.if-takes.true))

pub returns-clause-answer : goal.returns-clause-answer
returns-clause-answer g c =
    let new = c.takes.new.place.cells.group in
    let places = wanted c.args.capacity c.args.octets.0 c.args.self.now new in
    let is = c.wanted-wanted.ensures ∙ sym (wanted_heard c.args.capacity c.args.octets.0 c.args.self.now c.args.place.now c.takes.new.place c.takes.ensures.heard) in
    lacks_one c.args.capacity places new c.args.self.now c.args.number (subst (λ (k : ℕ). k ≤ c.args.capacity) is c.if-wanted-capacity.false) (sym c.is_waited_for.ensures ∙ c.if-not-is_waited_for.false) (subst (λ (k : ℕ). fits k new c.args.number ≡ false) is (sym c.takes.ensures.answer ∙ c.if-takes.false))
