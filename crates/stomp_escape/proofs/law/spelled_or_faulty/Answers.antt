use Rattle.stomp_escape.proofs.Laws.{spelled_or_fault, never_both, fault-only}
use Rattle.stomp_escape.proofs.law.spelled_or_faulty.Goals as goal

pub returns-clause-either : goal.returns-clause-either
returns-clause-either c = spelled_or_fault

pub returns-clause-never_both : goal.returns-clause-never_both
returns-clause-never_both c = never_both

pub returns-clause-one_fault : goal.returns-clause-one_fault
returns-clause-one_fault c = fault-only
