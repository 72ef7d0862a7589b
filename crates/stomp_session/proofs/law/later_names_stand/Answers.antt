use Rattle.stomp_session.proofs.Later.{later_names_stand}
use Rattle.stomp_session.proofs.law.later_names_stand.Goals as goal

pub returns : goal.returns
returns c = later_names_stand
