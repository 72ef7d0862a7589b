-- Worked traces, each computed from the definitions or witnessed by them.
use Rattle.std.proofs.Common.{◌≡◌, ℕ, true, false, inl, inr, List, [], ◌∷◌, Some, None, refl, subst}
use Rattle.mcast_txn.specs.declared.id.Topic.{Topic}
use Rattle.mcast_txn.specs.declared.id.TxnId.{TxnId}
use Rattle.mcast_txn.specs.declared.stamp.Stamp.{Stamp}
use Rattle.mcast_txn.specs.Lists.{In}
use Rattle.mcast_txn.specs.Span.{LogRow}
use Rattle.mcast_txn.specs.Stamp.{same_stamp, stamp_lt}
use Rattle.std.specs.List.{list_any}
use Rattle.trace_audit.specs.Explained.{IsExplainedBy, IsCompleteBy}
use Rattle.trace_audit.specs.Faults.{audit_fault, is_whole}
use Rattle.trace_audit.specs.Logs.{TopicRow}
use Rattle.trace_audit.specs.Inner.Sorting.{IsSortingOf}
use Rattle.trace_audit.specs.Trace.{TraceData, no_trace_data, rows_of}
use Rattle.trace_audit.specs.declared.fault.AuditFault.TheVariants as audit
use Rattle.trace_audit.specs.declared.row.SpanRow.{SpanRow}
use Rattle.trace_audit.specs.declared.row.QueueRow.{QueueRow}
use Rattle.trace_audit.proofs.Putting.{sorting_none}
use Rattle.trace_audit.proofs.Refuting.{explains, complete}

abbrev topic : ℕ → Topic
topic t = record { 0 = t }

abbrev stamp : ℕ → ℕ → Stamp
stamp n t = record { n = n; topic = topic t }

abbrev id : ℕ → ℕ → TxnId
id sender seq = record { sender = record { 0 = sender }; seq = seq }

abbrev both : List Topic
both = topic 0 ∷ topic 1 ∷ []

abbrev row : ℕ → ℕ → Stamp → List Topic → LogRow
row sender seq s topics = record { id = id sender seq; topics = topics; stamp = s }

abbrev logged : ℕ → LogRow → TopicRow
logged t r = record { topic = topic t; row = r }

abbrev of_logs : List TopicRow → TraceData
of_logs logs = record { logs = logs; spans = []; queues = [] }

-- the first of two transactions to two topics
abbrev pub first : LogRow
first = row 1 1 (stamp 2 0) both

-- and the second
abbrev pub second : LogRow
second = row 0 1 (stamp 2 1) both

-- the logs of both topics have both
abbrev pub crossing : TraceData
crossing = of_logs (logged 0 first ∷ logged 0 second ∷ logged 1 first ∷ logged 1 second ∷ [])

-- ---- explained traces

crossing_has_no_fault : audit_fault crossing ≡ None
crossing_has_no_fault = refl

at_first : (q : LogRow) → first ≡ q → list_any (λ (own : LogRow). same_stamp own.stamp q.stamp) (first ∷ second ∷ []) ≡ true
at_first q e = subst (λ (z : LogRow). list_any (λ (own : LogRow). same_stamp own.stamp z.stamp) (first ∷ second ∷ []) ≡ true) e refl

at_second : (q : LogRow) → second ≡ q → list_any (λ (own : LogRow). same_stamp own.stamp q.stamp) (first ∷ second ∷ []) ≡ true
at_second q e = subst (λ (z : LogRow). list_any (λ (own : LogRow). same_stamp own.stamp z.stamp) (first ∷ second ∷ []) ≡ true) e refl

has_stamp : (q : LogRow) → In q (rows_of crossing.logs) → list_any (λ (own : LogRow). same_stamp own.stamp q.stamp) (first ∷ second ∷ []) ≡ true
has_stamp q (inl e) = at_first q e
has_stamp q (inr (inl e)) = at_second q e
has_stamp q (inr (inr (inl e))) = at_first q e
has_stamp q (inr (inr (inr (inl e)))) = at_second q e
has_stamp q (inr (inr (inr (inr k)))) = absurd k

second_above : (y : LogRow) → In y (second ∷ []) → stamp_lt first.stamp y.stamp ≡ true
second_above y (inl e) = subst (λ (z : LogRow). stamp_lt first.stamp z.stamp ≡ true) e refl
second_above y (inr k) = absurd k

from_logs : (q : LogRow) → In q (first ∷ second ∷ []) → In q (rows_of crossing.logs)
from_logs q (inl e) = inl e
from_logs q (inr (inl e)) = inr (inl e)
from_logs q (inr (inr k)) = absurd k

crossing_sorted : IsSortingOf (first ∷ second ∷ []) (rows_of crossing.logs)
crossing_sorted = record { rises = (second_above, ((λ y i. absurd i), tt)); of_all = from_logs; stamped = has_stamp }

-- they are explained by the two rows
pub crossing_is_explained : IsExplainedBy (first ∷ second ∷ []) crossing
crossing_is_explained = explains crossing crossing.logs (first ∷ second ∷ []) refl refl refl crossing_sorted

crossing_is_complete : IsCompleteBy (first ∷ second ∷ []) crossing
crossing_is_complete = complete crossing (first ∷ second ∷ []) crossing_is_explained refl

nothing_is_explained : IsExplainedBy [] no_trace_data
nothing_is_explained = explains no_trace_data [] [] refl refl refl sorting_none

nothing_is_complete : IsCompleteBy [] no_trace_data
nothing_is_complete = complete no_trace_data [] nothing_is_explained refl

-- without the fourth row it is explained still, and not complete
lacks_the_last : audit_fault (of_logs (logged 0 first ∷ logged 0 second ∷ logged 1 first ∷ [])) ≡ None
lacks_the_last = refl

lacks_the_last_row : is_whole (logged 0 first ∷ logged 0 second ∷ logged 1 first ∷ []) ≡ false
lacks_the_last_row = refl

-- ---- one trace for each fault

two_verdicts : audit_fault (of_logs (logged 0 first ∷ logged 0 second ∷ logged 1 first ∷ logged 1 (row 0 1 (stamp 1 1) both) ∷ []))
    ≡ Some audit.TwoVerdicts
two_verdicts = refl

same_stamps : audit_fault (of_logs (logged 0 first ∷ logged 1 (row 2 1 (stamp 2 0) both) ∷ [])) ≡ Some audit.SameStamp
same_stamps = refl

log_order : audit_fault (of_logs (logged 0 second ∷ logged 0 first ∷ [])) ≡ Some audit.LogOrder
log_order = refl

sender_order : audit_fault (of_logs (logged 0 first ∷ logged 0 (row 1 0 (stamp 3 0) both) ∷ [])) ≡ Some audit.SenderOrder
sender_order = refl

-- without the third row
hole : audit_fault (of_logs (logged 0 first ∷ logged 0 second ∷ logged 1 second ∷ [])) ≡ Some (audit.Hole (topic 1))
hole = refl

-- ---- queues

abbrev span : SpanRow
span = record { sub = 7; topic = topic 0; from = stamp 2 0; to = None }

abbrev queued : LogRow → QueueRow
queued r = record { sub = 7; id = r.id; stamp = r.stamp }

abbrev with_queue : List QueueRow → TraceData
with_queue queues = record crossing { spans = span ∷ []; queues = queues }

-- the span begins after the first row's stamp
queue_of_the_span : audit_fault (with_queue (queued second ∷ [])) ≡ None
queue_of_the_span = refl

queue_with_the_first : audit_fault (with_queue (queued first ∷ queued second ∷ [])) ≡ Some (audit.QueueRow 7)
queue_with_the_first = refl

queue_without_any : audit_fault (with_queue []) ≡ Some (audit.QueueRow 7)
queue_without_any = refl
