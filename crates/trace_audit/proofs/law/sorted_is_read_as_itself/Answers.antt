use Rattle.trace_audit.proofs.Rereading.{sorted_is_read}
use Rattle.trace_audit.proofs.law.sorted_is_read_as_itself.Goals as goal

pub returns : goal.returns
returns c = sorted_is_read
