-- A transaction in flight is its frame's, and its sender is that for which its connection speaks.
use Rattle.delivery.proofs.Words.All.{refl}
use Rattle.delivery.specs.Theorem.Reported
use Rattle.delivery.proofs.Theorem.MovesAreAnswered.{answer_as}

-- a transaction that is made has its frame's SENDs, and its connection's sender
pub flying_is_own : Reported.BegunIsOwn
flying_is_own w e txn a = let h = answer_as w e a in (h.0, txn.sends, h.1, refl, h.2)
