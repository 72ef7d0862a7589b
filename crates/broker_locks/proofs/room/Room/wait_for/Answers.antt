use Rattle.std.proofs.Common.{refl, sym, ◌∙◌}
use Rattle.std.proofs.lemmas.Bool.{true≢false}
use Rattle.broker_locks.proofs.Waiting.{unwaited_at, waited_at}
use Rattle.broker_locks.proofs.room.Room.wait_for.Goals as goal

pub returns-in_default-clause-yes : goal.returns-in_default-clause-yes
returns-in_default-clause-yes g c is =
    let w = waited_at c.args.self.now.waited c.args.number c.in_default.field-0 c.in_default.ensures.found in rw w refl

pub returns-in_default-clause-has : goal.returns-in_default-clause-has
returns-in_default-clause-has g c is e =
    absurd (true≢false (sym (waited_at c.args.self.now.waited c.args.number c.in_default.field-0 c.in_default.ensures.found) ∙ e))

pub returns-in_default-clause-empty : goal.returns-in_default-clause-empty
returns-in_default-clause-empty g c is e =
    absurd (true≢false (sym (waited_at c.args.self.now.waited c.args.number c.in_default.field-0 c.in_default.ensures.found) ∙ e))

pub returns-in_default-ready_spare-clause-was : goal.returns-in_default-ready_spare-clause-was
returns-in_default-ready_spare-clause-was g c is = unwaited_at c.args.self.now.waited c.args.number c.in-Err.index c.in-Err.ensures.absent

pub returns-then-not-put-clause-was : goal.returns-then-not-put-clause-was
returns-then-not-put-clause-was g c is = unwaited_at c.args.self.now.waited c.args.number c.in-Err.index c.in-Err.ensures.absent
