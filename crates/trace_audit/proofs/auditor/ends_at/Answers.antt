use Rattle.std.proofs.Common.{sym, ap, ◌∙◌, Bor, Option}
use Rattle.std.specs.Option.{option_copied}
use Rattle.mcast_txn.specs.Stamp.{same_stamp}
use Rattle.trace_audit.specs.Logs.{TopicRow}
use Rattle.trace_audit.proofs.Putting.{last_shown}
use Rattle.trace_audit.proofs.auditor.ends_at.Goals as goal

pub returns-in-Some : goal.returns-in-Some
returns-in-Some c =
    c.eq.ensures
    ∙ (ap (λ (z : TopicRow). same_stamp z.row.stamp c.args.stamp) c.own.view_is
    ∙ last_shown c.args.stamp c.args.rows.now c.in-Some.field-0.now c.requires.rises c.requires.below
    (ap (λ (z : Option (Bor (Bor TopicRow))). option_copied z) (sym c.in-Some.is) ∙ c.last.ensures.value))
