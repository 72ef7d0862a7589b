use Rattle.std.proofs.Common.{◌≡◌, ◌∷◌, [], List, Bor, false, sym, ap, subst, ◌∙◌}
use Rattle.std.specs.List.{list_any}
use Rattle.std.proofs.lemmas.List.{map-append}
use Rattle.mcast_txn.specs.declared.stamp.Stamp.{Stamp}
use Rattle.mcast_txn.specs.Lists.{In}
use Rattle.mcast_txn.specs.Stamp.{same_stamp, stamp_lt}
use Rattle.trace_audit.specs.Logs.{TopicRow}
use Rattle.trace_audit.specs.Inner.Orders.{log_rows_of_refs}
use Rattle.trace_audit.proofs.Putting.{put_last}
use Rattle.trace_audit.proofs.auditor.put.Goals as goal

pub ends_at-requires-clause-below : goal.ends_at-requires-clause-below
ends_at-requires-clause-below c = λ row i.
    subst (λ (s : Stamp). stamp_lt s row.stamp ≡ false) (sym (ap (λ (l : TopicRow). l.row.stamp) c.row.view_is))
    (c.requires.below row (subst (λ (z : List (Bor TopicRow)). In row (log_rows_of_refs z)) c.deref.ensures.value i))

pub returns-in_ok-push : goal.returns-in_ok-push
returns-in_ok-push c =
    let rows = c.args.rows.now.items in
    let none : list_any (λ own. same_stamp own.stamp c.args.row.now.row.stamp) (log_rows_of_refs rows) ≡ false =
    ap (λ (s : Stamp). list_any (λ own. same_stamp own.stamp s) (log_rows_of_refs rows)) (sym (ap (λ (l : TopicRow). l.row.stamp) c.row.view_is))
    ∙ (ap (λ (z : List (Bor TopicRow)). list_any (λ own. same_stamp own.stamp c.row.inside.stamp) (log_rows_of_refs z)) (sym c.deref.ensures.value)
    ∙ (sym c.ends_at.ensures ∙ c.if-not-ends_at.true)) in
    ap log_rows_of_refs c.in_ok-push.ensures.items
    ∙ (map-append (λ (r : Bor TopicRow). r.now.row) rows (c.args.row ∷ [])
    ∙ sym (put_last c.args.row.now.row (log_rows_of_refs rows) c.requires.below none))
