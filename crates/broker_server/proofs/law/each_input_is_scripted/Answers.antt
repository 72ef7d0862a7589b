use Rattle.broker_server.proofs.ScriptedLemmas.{some_scripted}
use Rattle.broker_server.proofs.law.each_input_is_scripted.Goals as goal

pub returns : goal.returns
returns c = some_scripted
