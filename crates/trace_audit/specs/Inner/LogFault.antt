-- Serves proofs only: the first fault of logs alone.
use Rattle.std.specs.Prelude.{[], ◌∷◌, List, Option}
use Rattle.std.specs.Option.{option_or}
use Rattle.mcast_txn.specs.Checks.{first_refusal}
use Rattle.trace_audit.specs.Faults.{some_two, are_different, are_colliding, is_out_of_order, are_disordered, hole_fault}
use Rattle.trace_audit.specs.Logs.{TopicRow}
use Rattle.trace_audit.specs.declared.fault.AuditFault.{AuditFault}
use Rattle.trace_audit.specs.declared.fault.AuditFault.TheVariants as audit

-- the first that speaks against logs, as long as no queue is looked at
abbrev pub log_fault : List TopicRow → Option AuditFault
log_fault logs =
    option_or (first_refusal (
    (some_two are_different logs, audit.TwoVerdicts)
    ∷ (some_two are_colliding logs, audit.SameStamp)
    ∷ (is_out_of_order logs, audit.LogOrder)
    ∷ (some_two are_disordered logs, audit.SenderOrder)
    ∷ []))
    (hole_fault logs)
