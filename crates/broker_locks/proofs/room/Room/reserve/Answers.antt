use Rattle.std.proofs.Common.{◌≡◌, ◌+◌, ◌≤◌, ℕ, List, Some, not, sym, ap, subst, ◌∙◌, arith}
use Rattle.std.specs.List.{find}
use Rattle.broker_locks.specs.PartOctets.{places_for}
use Rattle.broker_locks.specs.Room.{RoomState, asked_from, due_at, fits, wanted}
use Rattle.broker_locks.proofs.Waiting.{first_refuses, spare_answers, wanted_heard}
use Rattle.broker_locks.proofs.room.Room.reserve.Goals as goal

pub returns-then-spare-places-clause-answer : goal.returns-then-spare-places-clause-answer
returns-then-spare-places-clause-answer g c =
    let due = c.due-due.ensures.due in
    let places = c.places-places.ensures.places in
    let within = c.if-wanted-capacity.false in
    let spared = c.if-spare-places.true in
    spare_answers c.args.capacity (wanted c.args.capacity c.args.octets.0 c.args.self.now c.args.place.now.cells.group) c.args.start c.args.spare.now c.args.self.now c.args.place.now.cells.group (omega (arith, due, places, within)) (omega (arith, due, places, spared)) c.requires

pub returns-in-Err-clause-answer : goal.returns-in-Err-clause-answer
returns-in-Err-clause-answer g c =
    let old = c.args.place.now.cells.group in
    let new = c.least_spare.new.place.cells.group in
    let places = wanted c.args.capacity c.args.octets.0 c.args.self.now new in
    let waited = c.deref.ensures.value ∙ ap (λ (s : RoomState). s.waited) c.self.view_is in
    let is = ap (λ (k : ℕ). k + c.from.result) c.due-due.ensures.due ∙ (ap (λ (k : ℕ). due_at c.args.self.now old + k) (c.from.ensures ∙ c.places-places.ensures.places)
    ∙ sym (wanted_heard c.args.capacity c.args.octets.0 c.args.self.now c.args.place.now c.least_spare.new.place c.least_spare.ensures.heard)) in
    first_refuses c.args.capacity places c.args.start c.in-Err.number c.args.self.now new (subst (λ (k : ℕ). k ≤ c.args.capacity) is c.if-wanted-capacity.false)
    (subst (λ (k : ℕ). find (λ n. not (fits k new n)) (asked_from c.args.start c.args.self.now.waited) ≡ Some c.in-Err.number) is
    (subst (λ (ns : List ℕ). find (λ n. not (fits (c.due-due.result + c.from.result) new n)) (asked_from c.args.start ns) ≡ Some c.in-Err.number) waited c.in-Err.ensures.first))
