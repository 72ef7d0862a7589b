use Rattle.broker_locks.proofs.Balance.{balanced_cancelled, no_fault}
use Rattle.broker_locks.proofs.place.Place.cancel.Goals as goal

pub invariant_of-self-2 : goal.invariant_of-self-2
invariant_of-self-2 g c = balanced_cancelled c.self.inside.group c.self.inside.tickets c.self.inside.released c.self.inside.cancelled c.self.inside.kept c.self.invariant c.cancel.new.self c.args.id (no_fault _ c.in_ok-cancel.ensures.answer) c.in_ok-cancel.ensures.ok
