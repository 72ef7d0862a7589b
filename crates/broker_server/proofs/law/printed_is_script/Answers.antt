use Rattle.broker_server.proofs.ScriptPrinting.{printed_is_script}
use Rattle.broker_server.proofs.law.printed_is_script.Goals as goal

pub returns : goal.returns
returns c = printed_is_script
