use Rattle.std.proofs.Common.{◌∙◌}
use Rattle.delivery.proofs.Theorem.PlainDue.{names_any}
use Rattle.delivery.proofs.oracle.due.names.Goals as goal

pub returns : goal.returns
returns c = c.has_send.ensures ∙ names_any c.args.topic c.args.sends.now
