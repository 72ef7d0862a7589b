-- What is written of an auditor's answer, and of a text that is no trace.
use Rattle.std.specs.Prelude.{ℕ, Bool, List, [], ◌∷◌, ◌++◌, codes, decimal, if◌then◌else◌}
use Rattle.std.specs.List.{flat_map}
use Rattle.mcast_txn.specs.Span.{LogRow}
use Rattle.trace_audit.specs.Text.{spaced_text, id_text, stamp_text, topics_text}
use Rattle.trace_audit.specs.Faults.{audit_number}
use Rattle.trace_audit.specs.Parsing.{parse_number}
use Rattle.trace_audit.specs.declared.fault.AuditFault.{AuditFault}
use Rattle.trace_audit.specs.declared.fault.AuditFault.TheVariants as audit
use Rattle.trace_audit.specs.declared.text.parse_fault.ParseFault.{ParseFault}
use Rattle.trace_audit.specs.declared.text.parse_fault.ParseFault.TheVariants as parse

-- a transaction that all logs agree on, as `agreed 0 1 2.1 0,1`
abbrev pub agreed_line : LogRow → List ℕ
agreed_line row =
    spaced_text (codes "agreed" ∷ id_text row.id ∷ stamp_text row.stamp ∷ topics_text row.topics ∷ [])
    ++ 10 ∷ []

-- a yes: a line for each transaction, and then `complete` or `incomplete`
abbrev pub agreed_text : List LogRow → Bool → List ℕ
agreed_text rows complete =
    flat_map agreed_line rows ++ (if complete then codes "complete\n" else codes "incomplete\n")

-- a fault's name, with its topic or subscription where it has one
abbrev pub fault_words : AuditFault → List (List ℕ)
fault_words audit.NoMemory = codes "NoMemory" ∷ []
fault_words audit.LogOrder = codes "LogOrder" ∷ []
fault_words audit.TwoVerdicts = codes "TwoVerdicts" ∷ []
fault_words audit.SenderOrder = codes "SenderOrder" ∷ []
fault_words (audit.Hole t) = codes "Hole" ∷ decimal t.0 ∷ []
fault_words (audit.QueueRow sub) = codes "QueueRow" ∷ decimal sub ∷ []
fault_words audit.SameStamp = codes "SameStamp" ∷ []

-- a no: the fault's number and its name, as `no 95 Hole 1`
abbrev pub refusal_text : AuditFault → List ℕ
refusal_text fault = spaced_text (codes "no" ∷ decimal (audit_number fault) ∷ fault_words fault) ++ 10 ∷ []

-- a fault's name, with its line where it has one
abbrev pub parse_words : ParseFault → List (List ℕ)
parse_words (parse.BadRow line) = codes "BadRow" ∷ decimal line ∷ []
parse_words parse.NoMemory = codes "NoMemory" ∷ []

-- that a text is no trace: the fault's number and its name, as `bad 90 BadRow 2`
abbrev pub bad_text : ParseFault → List ℕ
bad_text fault = spaced_text (codes "bad" ∷ decimal (parse_number fault) ∷ parse_words fault) ++ 10 ∷ []
