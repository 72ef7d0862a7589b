use Rattle.delivery.proofs.Theorem.HandedIsPrefix.{handed_is_prefix}
use Rattle.delivery.proofs.law.handed_prefix.Goals as goal

pub returns : goal.returns
returns c = handed_is_prefix
