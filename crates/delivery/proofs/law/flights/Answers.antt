use Rattle.delivery.proofs.Theorem.BegunIsOwn.{flying_is_own}
use Rattle.delivery.proofs.Theorem.SendersAreOwn.{senders_are_own, resting_are_idle, claims_go_on, senders_stay}
use Rattle.delivery.proofs.law.flights.Goals as goal

pub returns : goal.returns
returns c = record { own = flying_is_own; sender = senders_are_own; resting = resting_are_idle; goes_on = claims_go_on; stays = senders_stay }
