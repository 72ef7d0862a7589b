use Rattle.trace_audit.proofs.OneList.{one_list}
use Rattle.trace_audit.proofs.law.one_list.Goals as goal

pub returns : goal.returns
returns c = one_list
