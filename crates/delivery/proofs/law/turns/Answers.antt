use Rattle.delivery.proofs.Theorem.TurnIsItsSteps.{turn_is_its_steps, released_is_logged, turned_is_logged}
use Rattle.delivery.proofs.law.turns.Goals as goal

pub returns : goal.returns
returns c = record { steps = turn_is_its_steps; released = released_is_logged; turned = turned_is_logged }
