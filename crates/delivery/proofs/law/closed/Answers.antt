use Rattle.delivery.proofs.Theorem.ClosedAsAnswered.{closed_as_told, closed_stays, closes_are_told}
use Rattle.delivery.proofs.law.closed.Goals as goal

pub returns : goal.returns
returns c = record { left = closed_as_told; alone = closes_are_told; stays = closed_stays }
