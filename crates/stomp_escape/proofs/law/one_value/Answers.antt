use Rattle.stomp_escape.proofs.Laws.{Spells-only}
use Rattle.stomp_escape.proofs.law.one_value.Goals as goal

pub returns : goal.returns
returns c = λ text v w s t. Spells-only text v w s t
