use Rattle.broker_server.proofs.ListeningLemmas.{says_nothing}
use Rattle.broker_server.proofs.serving.listening.listen_by.Goals as goal

-- no listener: nothing was written
pub returns-in_err-listener-clause-says : goal.returns-in_err-listener-clause-says
returns-in_err-listener-clause-says g c = says_nothing _ _ _ c.from_residual-in_err-listener.ensures.0
