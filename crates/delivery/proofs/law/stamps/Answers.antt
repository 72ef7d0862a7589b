use Rattle.delivery.proofs.Machine.AnswerLemmas.{stamp_is_greatest}
use Rattle.delivery.proofs.law.stamps.Goals as goal

pub returns : goal.returns
returns c = stamp_is_greatest
