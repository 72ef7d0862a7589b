-- What an auditor's answer says.
use Rattle.std.specs.Prelude.{◌≡◌, Bool, true, false, List, Some}
use Rattle.mcast_txn.specs.Span.{LogRow}
use Rattle.trace_audit.specs.Explained.{IsExplainedBy}
use Rattle.trace_audit.specs.Faults.{audit_fault}
use Rattle.trace_audit.specs.Trace.{TraceData}
use Rattle.trace_audit.specs.declared.fault.AuditFault.{AuditFault}
use Rattle.trace_audit.specs.declared.fault.AuditFault.TheVariants as audit

-- a yes: the rows that explain a trace, and whether each is in the log of each of its topics
pub record Agreement : Type 0 where
  pub rows : List LogRow
  pub complete : Bool

-- the fault says that memory ran out
abbrev pub says_no_memory : AuditFault → Bool
says_no_memory audit.NoMemory = true
says_no_memory audit.TwoVerdicts = false
says_no_memory audit.SameStamp = false
says_no_memory audit.LogOrder = false
says_no_memory audit.SenderOrder = false
says_no_memory (audit.Hole t) = false
says_no_memory (audit.QueueRow sub) = false

-- the fault is the first that speaks against the trace, and no list explains it
pub record IsRefusal (fault : AuditFault) (trace : TraceData) : Type 0 where
  pub first : audit_fault trace ≡ Some fault
  pub unexplained : (rows : List LogRow) → IsExplainedBy rows trace → Prim.⊥
