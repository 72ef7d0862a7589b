use Rattle.std.proofs.Common.{◌≡◌, Option, Some, None, refl, sym, ap, subst, ◌∙◌}
use Rattle.trace_audit.specs.Inner.Chained.{IsIndex}
use Rattle.trace_audit.specs.Inner.LogFault.{log_fault}
use Rattle.trace_audit.specs.Trace.{TraceData}
use Rattle.trace_audit.specs.declared.fault.AuditFault.{AuditFault}
use Rattle.trace_audit.proofs.Indexed.{indexed}
use Rattle.trace_audit.proofs.LogFaults.{log_clear}
use Rattle.trace_audit.proofs.auditor.find_fault.Goals as goal

is_none : (fault : Option AuditFault) → ((x : AuditFault) → fault ≡ Some x → Prim.⊥) → fault ≡ None
is_none None other = refl
is_none (Some x) other = absurd (other x refl)

pub first_astray-requires-clause-index : goal.first_astray-requires-clause-index
first_astray-requires-clause-index c =
    let logs = c.args.trace.now.logs in
    let clear = log_clear logs (ap log_fault (sym (c.deref.ensures.value ∙ ap (λ (z : TraceData). z.logs) c.trace.view_is)) ∙ (sym c.find_log_fault.ensures ∙ is_none c.find_log_fault.result c.in_default.not-Some)) in
    subst IsIndex (sym c.deref-2.ensures.value)
    (indexed logs c.args.orders.now.by_id.items c.args.orders.now.by_stamp.items c.args.orders.now.by_topic.items c.requires clear.0 clear.1 clear.2)
