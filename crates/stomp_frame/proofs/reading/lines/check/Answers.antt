use Rattle.std.proofs.Common.{sym, ◌∙◌}
use Rattle.stomp_frame.proofs.Plain.{plain_passes}
use Rattle.stomp_frame.proofs.Usual.{usual_plain}
use Rattle.stomp_frame.proofs.reading.lines.check.Goals as goal

pub returns-then-content-usual-clause-checked : goal.returns-then-content-usual-clause-checked
returns-then-content-usual-clause-checked c = plain_passes c.args.limits.now c.args.content.now c.if-content-limits.false (usual_plain c.args.content.now (c.requires c.if-content-usual.true))

pub returns-then-is_plain-clause-checked : goal.returns-then-is_plain-clause-checked
returns-then-is_plain-clause-checked c = plain_passes c.args.limits.now c.args.content.now c.if-content-limits.false (sym c.is_plain.ensures ∙ c.if-is_plain.true)
