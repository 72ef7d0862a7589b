-- What speaks against a trace: tests that compute, in the order in which they are made, and their numbers.
use Rattle.std.specs.Prelude.{Bool, false, not, ◌==◌, ◌&&◌, ◌||◌, ℕ, nat_lt, if◌then◌else◌}
use Rattle.std.specs.Prelude.{List, [], ◌∷◌, map, Option, Some, None}
use Rattle.std.specs.List.{filter, flat_map, list_any, list_all}
use lib.Pointwise.{pointwise}
use Rattle.std.specs.Option.{option_map, option_or}
use Rattle.mcast_txn.specs.declared.id.Topic.{Topic}
use Rattle.mcast_txn.specs.declared.id.TxnId.{TxnId}
use Rattle.mcast_txn.specs.declared.stamp.Stamp.{Stamp}
use Rattle.mcast_txn.specs.Checks.{first_refusal}
use Rattle.mcast_txn.specs.Ids.{same_id}
use Rattle.mcast_txn.specs.Span.{LogRow}
use Rattle.mcast_txn.specs.Stamp.{same_stamp, stamp_lt}
use Rattle.trace_audit.specs.Logs.{TopicRow}
use Rattle.mcast_txn.specs.declared.mark.Mark.{Mark}
use Rattle.trace_audit.specs.declared.row.SpanRow.{SpanRow}
use Rattle.trace_audit.specs.Trace.{TraceData, queue_of, marks_in}
use Rattle.trace_audit.specs.declared.fault.AuditFault.{AuditFault}
use Rattle.trace_audit.specs.declared.fault.AuditFault.TheVariants as audit
use Rattle.trace_audit.specs.declared.fault.AddFault.{AddFault}
use Rattle.trace_audit.specs.declared.fault.AddFault.TheVariants as add

-- the rows are of one transaction, and differ in stamp or topics
abbrev pub are_different : LogRow → LogRow → Bool
are_different a b =
    same_id a.id b.id
    && not (same_stamp a.stamp b.stamp && pointwise (λ t u. t.0 == u.0) a.topics b.topics)

-- the rows are of two transactions, and have one stamp
abbrev pub are_colliding : LogRow → LogRow → Bool
are_colliding a b = not (same_id a.id b.id) && same_stamp a.stamp b.stamp

-- the rows are of one sender, the first is before the second, and its seq isn't below the other's
abbrev pub are_disordered : LogRow → LogRow → Bool
are_disordered a b =
    a.id.sender.0 == b.id.sender.0 && (stamp_lt a.stamp b.stamp && not (nat_lt a.id.seq b.id.seq))

-- the test holds of some two of the logs' rows
abbrev pub some_two : (LogRow → LogRow → Bool) → List TopicRow → Bool
some_two test logs = list_any (λ a. list_any (λ b. test a.row b.row) logs) logs

-- the second row, which comes later, is of the first one's log, and isn't above it
abbrev pub are_falling : TopicRow → TopicRow → Bool
are_falling a b = a.topic.0 == b.topic.0 && not (stamp_lt a.row.stamp b.row.stamp)

-- some log doesn't rise strictly in stamp
abbrev pub is_out_of_order : List TopicRow → Bool
is_out_of_order [] = false
is_out_of_order (x ∷ xs) = list_any (λ y. are_falling x y) xs || is_out_of_order xs

-- the log of t has a row of the transaction
abbrev pub log_has_row : Topic → TxnId → List TopicRow → Bool
log_has_row t id logs = list_any (λ logged. logged.topic.0 == t.0 && same_id logged.row.id id) logs

-- the log of t has a row of this stamp or a later one
abbrev pub log_has_row_from : Topic → Stamp → List TopicRow → Bool
log_has_row_from t stamp logs =
    list_any (λ logged. logged.topic.0 == t.0 && not (stamp_lt logged.row.stamp stamp)) logs

-- the log of t goes on to the row's stamp or beyond, and lacks the row
abbrev pub is_hole : List TopicRow → LogRow → Topic → Bool
is_hole logs row t = not (log_has_row t row.id logs) && log_has_row_from t row.stamp logs

-- the topics, by their numbers, whose logs lack a row that names them and that they go beyond
abbrev pub holes : List TopicRow → List ℕ
holes logs =
    flat_map (λ logged. map (λ t. t.0) (filter (λ t. is_hole logs logged.row t) logged.row.topics)) logs

-- the marks are the same
abbrev pub same_mark : Mark → Mark → Bool
same_mark a b = same_id a.id b.id && same_stamp a.stamp b.stamp

-- the subscription's queue isn't its topic's log restricted to its span
abbrev pub is_astray : TraceData → SpanRow → Bool
is_astray trace span = not (pointwise same_mark (queue_of span.sub trace.queues) (marks_in span trace.logs))

-- the subscriptions whose queues are astray
abbrev pub astray_subs : TraceData → List ℕ
astray_subs trace = map (λ span. span.sub) (filter (λ span. is_astray trace span) trace.spans)

-- the smaller of two, where there are two
abbrev pub lesser : Option ℕ → Option ℕ → Option ℕ
lesser None b = b
lesser (Some a) None = Some a
lesser (Some a) (Some b) = if nat_lt b a then Some b else Some a

-- the least of them
abbrev pub least : List ℕ → Option ℕ
least [] = None
least (n ∷ ns) = lesser (Some n) (least ns)

-- 95, of the least topic that has a hole
abbrev pub hole_fault : List TopicRow → Option AuditFault
hole_fault logs = option_map (λ n. audit.Hole (record { 0 = n })) (least (holes logs))

-- 96, of the least subscription whose queue is astray
abbrev pub queue_fault : TraceData → Option AuditFault
queue_fault trace = option_map (λ n. audit.QueueRow n) (least (astray_subs trace))

-- the first that speaks against the trace
abbrev pub audit_fault : TraceData → Option AuditFault
audit_fault trace =
    option_or (first_refusal (
    (some_two are_different trace.logs, audit.TwoVerdicts)
    ∷ (some_two are_colliding trace.logs, audit.SameStamp)
    ∷ (is_out_of_order trace.logs, audit.LogOrder)
    ∷ (some_two are_disordered trace.logs, audit.SenderOrder)
    ∷ []))
    (option_or (hole_fault trace.logs) (queue_fault trace))

-- each row of a log is in the log of each of its topics
abbrev pub is_whole : List TopicRow → Bool
is_whole logs = list_all (λ logged. list_all (λ t. log_has_row t logged.row.id logs) logged.row.topics) logs

-- ---- numbers (own)

abbrev pub audit_number : AuditFault → ℕ
audit_number audit.NoMemory = 91
audit_number audit.LogOrder = 92
audit_number audit.TwoVerdicts = 93
audit_number audit.SenderOrder = 94
audit_number (audit.Hole t) = 95
audit_number (audit.QueueRow sub) = 96
audit_number audit.SameStamp = 97

abbrev pub add_number : AddFault → ℕ
add_number add.NoMemory = 91
add_number add.Misfit = 98
