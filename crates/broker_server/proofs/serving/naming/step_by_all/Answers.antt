use Rattle.broker_server.proofs.NamingLemmas.{grows_none}
use Rattle.broker_server.proofs.serving.naming.step_by_all.Goals as goal

pub returns-in_default-clause-refused : goal.returns-in_default-clause-refused
returns-in_default-clause-refused c = (c.args.names.now, grows_none c.args.names.now, tt)
