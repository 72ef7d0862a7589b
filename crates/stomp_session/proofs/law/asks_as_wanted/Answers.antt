use Rattle.stomp_session.proofs.Parts.{asks_as_wanted}
use Rattle.stomp_session.proofs.law.asks_as_wanted.Goals as goal

pub returns : goal.returns
returns c = asks_as_wanted
