use Rattle.std.proofs.Common.{sym, ◌∙◌, ap, Some, None}
use Rattle.trace_audit.specs.Logs.{TopicRow}
use Rattle.trace_audit.proofs.Halving.{has_row_told}
use Rattle.trace_audit.proofs.logs.has_row.Goals as goal

pub returns-in-Some : goal.returns-in-Some
returns-in-Some c =
    c.eq.ensures ∙ has_row_told c.args.topic c.args.row.now.row c.row.inside.stamp c.args.by_topic.now (Some c.in-Some.found) (ap (λ (l : TopicRow). l.row.stamp) c.row.view_is) c.requires.index c.requires.within (sym c.in-Some.is ∙ c.stamp_at.ensures)

pub returns-in-None : goal.returns-in-None
returns-in-None c =
    has_row_told c.args.topic c.args.row.now.row c.row.inside.stamp c.args.by_topic.now None (ap (λ (l : TopicRow). l.row.stamp) c.row.view_is) c.requires.index c.requires.within (sym c.in-None.is ∙ c.stamp_at.ensures)
