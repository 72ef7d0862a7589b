use Rattle.std.proofs.Common.{sym, ◌+◌}
use Rattle.std.proofs.lemmas.List.{take_rest}
use Rattle.trace_audit.proofs.Cuts.{first_none, first_some}
use Rattle.trace_audit.proofs.text.field_reading.split_at_first.Goals as goal

pub returns-in_err-at : goal.returns-in_err-at
returns-in_err-at c = rw c.from_residual.ensures (sym (first_none c.args.octet c.args.text.now c.in_err-at.ensures))

pub returns : goal.returns
returns c = rw (take_rest c.args.text.now (c.in_ok-at.at + 1)) (sym (first_some c.args.octet c.args.text.now c.in_ok-at.at c.in_ok-at.ensures))
