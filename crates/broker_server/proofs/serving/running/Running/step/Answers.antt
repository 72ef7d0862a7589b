use Rattle.broker_server.proofs.NamingLemmas.{grows_none}
use Rattle.broker_server.proofs.serving.running.Running.step.Goals as goal

pub returns-in_default-clause-refused : goal.returns-in_default-clause-refused
returns-in_default-clause-refused g c = (c.args.names.now, grows_none c.args.names.now, tt)
