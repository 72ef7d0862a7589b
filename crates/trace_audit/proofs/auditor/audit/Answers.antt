use Rattle.std.proofs.Common.{◌≡◌, true, sym, ◌∙◌, ap, subst, refl, List}
use Rattle.std.specs.List.{list_all}
use Rattle.trace_audit.specs.Explained.{IsExplainedBy}
use Rattle.trace_audit.specs.Faults.{is_whole}
use Rattle.trace_audit.specs.Logs.{TopicRow}
use Rattle.trace_audit.specs.Trace.{TraceData, fits, rows_of}
use Rattle.trace_audit.specs.Inner.Orders.{IsOrdersOf}
use Rattle.trace_audit.specs.Inner.Sorting.{IsSortingOf}
use Rattle.trace_audit.proofs.Explaining.{clean}
use Rattle.trace_audit.proofs.Indexed.{indexed}
use Rattle.trace_audit.proofs.Refuting.{refuses, explains, complete, completed}
use Rattle.trace_audit.proofs.auditor.audit.Goals as goal

pub returns-in-Ok-Some-clause-refused : goal.returns-in-Ok-Some-clause-refused
returns-in-Ok-Some-clause-refused c = λ no.
    refuses c.args.trace.now c.in-Ok-Some.fault (sym c.in-Ok-Some.ensures ∙ c.in-Ok-Some.field-0-is)

explained_here : (c : goal.In-Ok-agree) → IsExplainedBy c.in-Ok-agree.agreed.rows c.args.trace.now
explained_here c =
    let trace = c.args.trace.now in
    let logs : c.trace.inside.logs.items ≡ trace.logs = ap (λ (z : TraceData). z.logs) c.trace.view_is in
    explains trace trace.logs c.in-Ok-agree.agreed.rows refl
    (subst (λ (z : List TopicRow). list_all (λ (logged : TopicRow). fits logged) z ≡ true) logs c.trace.invariant.0)
    (sym c.in-Ok-None.ensures ∙ c.in-Ok-None.field-0-is)
    (subst (λ (z : List TopicRow). IsSortingOf c.in-Ok-agree.agreed.rows (rows_of z)) (c.deref-2.ensures.value ∙ logs) c.in-Ok-agree.ensures.sorted)

complete_is : (c : goal.In-Ok-agree) → c.in-Ok-agree.agreed.complete ≡ is_whole c.args.trace.now.logs
complete_is c =
    let logs : c.trace.inside.logs.items ≡ c.args.trace.now.logs = ap (λ (z : TraceData). z.logs) c.trace.view_is in
    c.in-Ok-agree.ensures.complete ∙ ap is_whole (c.deref-2.ensures.value ∙ logs)

pub returns-in-Ok-agree-clause-explained : goal.returns-in-Ok-agree-clause-explained
returns-in-Ok-agree-clause-explained c = explained_here c

pub returns-in-Ok-agree-clause-complete : goal.returns-in-Ok-agree-clause-complete
returns-in-Ok-agree-clause-complete c = (
  (λ yes. complete c.args.trace.now c.in-Ok-agree.agreed.rows (explained_here c) (sym (complete_is c) ∙ yes)),
  (λ all. complete_is c ∙ completed c.args.trace.now c.in-Ok-agree.agreed.rows (explained_here c) all),
)

pub agree-requires-clause-index : goal.agree-requires-clause-index
agree-requires-clause-index c =
    let logs : c.trace.inside.logs.items ≡ c.args.trace.now.logs = ap (λ (z : TraceData). z.logs) c.trace.view_is in
    let clear = clean c.args.trace.now (sym c.in-Ok-None.ensures ∙ c.in-Ok-None.field-0-is) in
    indexed c.args.trace.now.logs c.in-Ok.orders.by_id.items c.in-Ok.orders.by_stamp.items c.in-Ok.orders.by_topic.items
    (subst (IsOrdersOf c.in-Ok.orders.by_id.items c.in-Ok.orders.by_stamp.items c.in-Ok.orders.by_topic.items) (c.deref.ensures.value ∙ logs) c.in-Ok.ensures)
    clear.verdicts clear.stamps clear.order
