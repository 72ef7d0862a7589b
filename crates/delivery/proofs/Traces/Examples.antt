-- Worked traces: of transactions that cross at two topics, and of one that crosses another beside a subscription.
use Rattle.delivery.proofs.Words.All.{inl, inr, refl, arith, ◌≡◌, ℕ, zero, suc, ◌<◌, true, List, [], ◌∷◌, codes, None, Topic, Transaction, In, LogRow, IsExplainedBy, TopicRow, TraceData, IsSettled, IsResolved, Answer, Event, account_of, Core, report_of, trace_of, AllSettled}
use Rattle.trace_audit.specs.Faults.{audit_fault, is_whole}
use Rattle.trace_audit.proofs.Refuting.{complete}
use Rattle.trace_audit.proofs.Examples.{crossing_is_explained}
use Rattle.delivery.specs.Traces.{IsExplained}
use Rattle.delivery.proofs.Core.Acts.{topic, stamp, id, made, log_row, Act, act, reads, begin, send_in, commit, opens, propose, turn, played, x_to, A, B}
use Rattle.delivery.proofs.Core.Rows.{both, crossing}
use Rattle.delivery.proofs.Traces.Explained.{logged_rows}

-- a row of the log of topic t
abbrev logged : ℕ → LogRow → TopicRow
logged t row = record { topic = topic t; row = row }

-- ---- two connections commit to A and B, and the topics are asked in two orders

-- a connection commits x, with a SEND to A and one to B
abbrev commits_both : ℕ → List Act → List Act
commits_both c then =
    reads c (begin (codes "x")) ∷ reads c (send_in (codes "x") A (codes "m")) ∷ reads c (send_in (codes "x") B (codes "m"))
    ∷ reads c (commit (codes "x")) ∷ then

-- the core after the two transactions
abbrev crossed : Core
crossed = played both (opens 0 (opens 1 (commits_both 0 (commits_both 1 (
    propose 0 0 ∷ propose 1 1 ∷ propose 1 0 ∷ propose 0 1 ∷ act (Event.Decide 0) ∷ act (Event.Decide 1) ∷ turn 0 ∷ turn 1 ∷ [])))))

abbrev first : LogRow
first = log_row 1 1 2 0 (0 ∷ 1 ∷ [])

abbrev second : LogRow
second = log_row 0 1 2 1 (0 ∷ 1 ∷ [])

abbrev trace : TraceData
trace = record { logs = logged 0 first ∷ logged 0 second ∷ logged 1 first ∷ logged 1 second ∷ []; spans = []; queues = [] }

crossed_rows : (trace_of (report_of crossed) ≡ trace)
    × (audit_fault trace ≡ None)
crossed_rows = (refl, refl)

-- the account without its two Turns
abbrev decided : List Answer
decided =
    Answer.Decided (id 1 1) (stamp 2 0) ∷ Answer.Decided (id 0 1) (stamp 2 1)
    ∷ Answer.Ticket (id 0 1) (stamp 2 1) ∷ Answer.Ticket (id 1 1) (stamp 2 0) ∷ Answer.Ticket (id 1 1) (stamp 1 1) ∷ Answer.Ticket (id 0 1) (stamp 1 0)
    ∷ Answer.Begun (record { id = id 1 1; sends = made 0 (x_to A) (codes "m") ∷ made 1 (x_to B) (codes "m") ∷ [] })
    ∷ Answer.Begun (record { id = id 0 1; sends = made 0 (x_to A) (codes "m") ∷ made 1 (x_to B) (codes "m") ∷ [] })
    ∷ Answer.Opened 1 ∷ Answer.Opened 0 ∷ []

abbrev told : List Answer
told = Answer.Turned (topic 1) 2 ∷ Answer.Turned (topic 0) 2 ∷ decided

crossed_account : (account_of crossed.names crossed.steps ≡ told)
    × (logged_rows told (report_of crossed) ≡ first ∷ second ∷ [])
crossed_account = (refl, refl)

is_resolved : (t : Topic) (txn : Transaction) → In (Answer.Begun txn) decided → IsResolved t decided txn
is_resolved t txn (inl e) = absurd cc
is_resolved t txn (inr (inl e)) = absurd cc
is_resolved t txn (inr (inr (inl e))) = absurd cc
is_resolved t txn (inr (inr (inr (inl e)))) = absurd cc
is_resolved t txn (inr (inr (inr (inr (inl e))))) = absurd cc
is_resolved t txn (inr (inr (inr (inr (inr (inl e)))))) = absurd cc
is_resolved t txn (inr (inr (inr (inr (inr (inr (inl e))))))) = inl (stamp 2 0, inl cc)
is_resolved t txn (inr (inr (inr (inr (inr (inr (inr (inl e)))))))) = inl (stamp 2 1, inr (inl cc))
is_resolved t txn (inr (inr (inr (inr (inr (inr (inr (inr (inl e))))))))) = absurd cc
is_resolved t txn (inr (inr (inr (inr (inr (inr (inr (inr (inr (inl e)))))))))) = absurd cc
is_resolved t txn (inr (inr (inr (inr (inr (inr (inr (inr (inr (inr none)))))))))) = absurd none

later_resolved : (t : Topic) (txn : Transaction) → In (Answer.Begun txn) (Answer.Turned (topic 0) 2 ∷ decided) → IsResolved t (Answer.Turned (topic 0) 2 ∷ decided) txn
later_resolved t txn (inl e) = absurd cc
later_resolved t txn (inr k) = elim (is_resolved t txn k) [
  | inl d ↦ inl (d.0, inr d.1)
  | inr w ↦ inr ((w.0.0, inr w.0.1), λ ticket i at. inr (w.1 ticket (elim i [ inl e ↦ absurd cc | inr j ↦ j ]) at))
]

settled : (n : ℕ) → n < 2 → IsSettled (topic n) told
settled zero l = inr (inl (refl, λ txn i named. is_resolved (topic 0) txn i))
settled (suc zero) l = inl (refl, λ txn i named. later_resolved (topic 1) txn i)
settled (suc (suc n)) l = absurd (omega arith)

-- both topics are settled
crossed_settled : AllSettled 2 told
crossed_settled t l = settled t.0 l

explained : IsExplainedBy (first ∷ second ∷ []) trace
explained = crossing_is_explained

-- the trace is explained by its two rows, and complete
crossed_explained : IsExplained 2 told (trace_of (report_of crossed))
crossed_explained = record { rows = first ∷ second ∷ []; explained = explained; complete = λ settled. complete trace (first ∷ second ∷ []) explained refl }

-- ---- x to A and B, and y to B and C, beside a subscription to B

beside_trace : trace_of (report_of crossing) ≡ record {
  logs = logged 0 (log_row 0 1 10 0 (0 ∷ 1 ∷ [])) ∷ logged 1 (log_row 0 1 10 0 (0 ∷ 1 ∷ [])) ∷ logged 1 (log_row 0 2 11 2 (1 ∷ 2 ∷ []))
      ∷ logged 2 (log_row 0 2 11 2 (1 ∷ 2 ∷ [])) ∷ [];
  spans = record { sub = 0; topic = topic 1; from = stamp 0 0; to = None } ∷ [];
  queues = record { sub = 0; id = id 0 1; stamp = stamp 10 0 } ∷ record { sub = 0; id = id 0 2; stamp = stamp 11 2 } ∷ [];
}
beside_trace = refl

beside_rows : (audit_fault (trace_of (report_of crossing)) ≡ None)
    × (is_whole (trace_of (report_of crossing)).logs ≡ true)
beside_rows = (refl, refl)
