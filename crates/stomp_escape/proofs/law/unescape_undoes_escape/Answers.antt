use Rattle.stomp_escape.specs.Escape.{escaped}
use Rattle.stomp_escape.proofs.Laws.{Spells-escaped, Spells-only}
use Rattle.stomp_escape.proofs.law.unescape_undoes_escape.Goals as goal

pub returns-clause-spelled : goal.returns-clause-spelled
returns-clause-spelled c = Spells-escaped

pub returns-clause-alone : goal.returns-clause-alone
returns-clause-alone c = λ v w s. Spells-only (escaped v) w v s (Spells-escaped v)
