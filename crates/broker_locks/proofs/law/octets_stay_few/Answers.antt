use Rattle.broker_locks.proofs.OctetLemmas.{octets_stay_few as few}
use Rattle.broker_locks.proofs.law.octets_stay_few.Goals as goal

pub returns : goal.returns
returns c = few
