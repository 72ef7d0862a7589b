use Rattle.trace_audit.proofs.Rereading.{printed_is_read}
use Rattle.trace_audit.proofs.law.printed_is_read.Goals as goal

pub returns : goal.returns
returns c = printed_is_read
