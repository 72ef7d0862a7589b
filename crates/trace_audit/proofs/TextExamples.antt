-- Worked texts, each computed from the definitions or witnessed by them.
use Rattle.std.proofs.Common.{◌≡◌, ℕ, true, false, [], ◌∷◌, None, refl, arith}
use Rattle.std.specs.Prelude.{codes}
use Rattle.std.specs.Fmt.{digits}
use Rattle.mcast_txn.specs.declared.id.Topic.{Topic}
use Rattle.mcast_txn.specs.declared.id.TxnId.{TxnId}
use Rattle.mcast_txn.specs.declared.stamp.Stamp.{Stamp}
use Rattle.trace_audit.specs.AuditText.{agreed_text, bad_text, refusal_text}
use Rattle.trace_audit.specs.declared.fault.AuditFault.TheVariants as audit
use Rattle.trace_audit.specs.Parsing.{lines_of, AddsLines, IsBadLine, IsFirstBad}
use Rattle.trace_audit.specs.declared.text.parse_fault.ParseFault.TheVariants as parse
use Rattle.trace_audit.specs.PrintedRows.{key_lt, print_key}
use Rattle.trace_audit.specs.Text.{row_text, SpellsRow}
use Rattle.trace_audit.specs.Trace.{TraceData, no_trace_data}
use Rattle.trace_audit.specs.declared.row.TraceRow.{TraceRow}
use Rattle.trace_audit.specs.declared.row.TraceRow.TheVariants as row

abbrev topic : ℕ → Topic
topic t = record { 0 = t }

abbrev stamp : ℕ → ℕ → Stamp
stamp n t = record { n = n; topic = topic t }

abbrev id : ℕ → ℕ → TxnId
id sender seq = record { sender = record { 0 = sender }; seq = seq }

abbrev logged : TraceRow
logged = row.Log (record { topic = topic 1; row = record { id = id 0 1; topics = topic 0 ∷ topic 1 ∷ []; stamp = stamp 2 1 } })

abbrev opened : TraceRow
opened = row.Span (record { sub = 3; topic = topic 1; from = stamp 0 0; to = None })

abbrev queued : TraceRow
queued = row.Queue (record { sub = 3; id = id 0 1; stamp = stamp 2 1 })

-- ---- lines

log_line : row_text logged ≡ codes "log 1 0 1 2.1 0,1"
unfolding digits
log_line = refl

span_line : row_text opened ≡ codes "span 3 1 0.0 -"
unfolding digits
span_line = refl

queue_line : row_text queued ≡ codes "queue 3 0 1 2.1"
unfolding digits
queue_line = refl

empty_lines_count : lines_of (codes "a\n\nb") ≡ codes "a" ∷ [] ∷ codes "b" ∷ []
empty_lines_count = refl

the_last_end_may_lack : lines_of (codes "a\n\nb\n") ≡ lines_of (codes "a\n\nb")
the_last_end_may_lack = refl

-- ---- a text, and one whose second line is empty

abbrev spelled : SpellsRow (codes "span 3 1 0.0 -") opened
unfolding digits
spelled = (refl, (omega arith, omega arith, (omega arith, omega arith), tt))

one_is_added : AddsLines (lines_of (codes "span 3 1 0.0 -\n")) no_trace_data (record { logs = []; spans = record { sub = 3; topic = topic 1; from = stamp 0 0; to = None } ∷ []; queues = [] })
one_is_added = (opened, spelled, refl, refl)

no_row_is_empty : (trace : TraceData) → IsBadLine [] trace
no_row_is_empty trace (row.Log l) s = absurd (let e = s.0 in cc)
no_row_is_empty trace (row.Span l) s = absurd (let e = s.0 in cc)
no_row_is_empty trace (row.Queue l) s = absurd (let e = s.0 in cc)

second_is_bad : IsFirstBad (lines_of (codes "span 3 1 0.0 -\n\n")) 2
second_is_bad = record {
  front = codes "span 3 1 0.0 -" ∷ [];
  line = [];
  back = [];
  trace = record { logs = []; spans = record { sub = 3; topic = topic 1; from = stamp 0 0; to = None } ∷ []; queues = [] };
  cut = refl;
  number = refl;
  added = (opened, spelled, refl, refl);
  bad = no_row_is_empty _;
}

-- ---- what is printed first

logs_are_first : key_lt (print_key logged) (print_key opened) ≡ true
logs_are_first = refl

a_span_and_its_queue_tie : key_lt (print_key opened) (print_key queued) ≡ false
a_span_and_its_queue_tie = refl

-- ---- what is written of an answer

a_yes : agreed_text (record { id = id 0 1; topics = topic 0 ∷ topic 1 ∷ []; stamp = stamp 2 1 } ∷ []) true ≡ codes "agreed 0 1 2.1 0,1\ncomplete\n"
unfolding digits
a_yes = refl

nothing_is_agreed : agreed_text [] true ≡ codes "complete\n"
nothing_is_agreed = refl

a_hole : refusal_text (audit.Hole (topic 1)) ≡ codes "no 95 Hole 1\n"
unfolding digits
a_hole = refl

two_verdicts : refusal_text audit.TwoVerdicts ≡ codes "no 93 TwoVerdicts\n"
unfolding digits
two_verdicts = refl

-- ---- what is written of a text that is no trace

a_bad_row : bad_text (parse.BadRow 2) ≡ codes "bad 90 BadRow 2\n"
unfolding digits
a_bad_row = refl
