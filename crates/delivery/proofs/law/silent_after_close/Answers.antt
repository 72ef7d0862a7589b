use Rattle.delivery.proofs.Theorem.ClosedIsSilent.{closed_is_silent}
use Rattle.delivery.proofs.law.silent_after_close.Goals as goal

pub returns : goal.returns
returns c = closed_is_silent
