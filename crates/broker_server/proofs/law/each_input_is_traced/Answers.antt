use Rattle.broker_server.proofs.ScriptedLemmas.{some_traced}
use Rattle.broker_server.proofs.law.each_input_is_traced.Goals as goal

pub returns : goal.returns
returns c = some_traced
