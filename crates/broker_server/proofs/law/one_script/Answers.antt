use Rattle.broker_server.proofs.Scripts.{one_script}
use Rattle.broker_server.proofs.law.one_script.Goals as goal

pub returns : goal.returns
returns c = one_script
