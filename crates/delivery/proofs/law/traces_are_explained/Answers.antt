use Rattle.delivery.proofs.Traces.OfRuns.{runs_are_explained, accepted, completed}
use Rattle.delivery.proofs.law.traces_are_explained.Goals as goal

pub returns-clause-explained : goal.returns-clause-explained
returns-clause-explained c = runs_are_explained

pub returns-clause-accepted : goal.returns-clause-accepted
returns-clause-accepted c = accepted

pub returns-clause-complete : goal.returns-clause-complete
returns-clause-complete c = completed
