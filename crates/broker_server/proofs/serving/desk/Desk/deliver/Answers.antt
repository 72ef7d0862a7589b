use Rattle.broker_server.proofs.serving.desk.Desk.deliver.Goals as goal

pub returns-clause-round : goal.returns-clause-round
returns-clause-round g c = (c.deliver.ensures.0, c.deliver.ensures.2)
