-- Serves proofs only: the reading of a trace's text as a function.
use Rattle.std.specs.Prelude.{ℕ, ◌+◌, ◌-◌, ◌*◌, ◌^◌, Bool, not, ◌&&◌, ◌||◌, ◌==◌, nat_lt, ◌≡◌, List, [], ◌∷◌, length, codes, slice_index, Option, Some, None, Result, Ok, Err, if◌then◌else◌}
use Rattle.std.specs.Char.{is_ascii_digit}
use Rattle.std.specs.Str.{bytes_eq}
use Rattle.mcast_txn.specs.declared.id.Topic.{Topic}
use Rattle.mcast_txn.specs.declared.id.TxnId.{TxnId}
use Rattle.mcast_txn.specs.declared.stamp.Stamp.{Stamp}
use Rattle.trace_audit.specs.Trace.{TraceData}
use Rattle.trace_audit.specs.Inner.InOrder.{added_from}
use Rattle.trace_audit.specs.Parsing.{cut, onto_first}
use Rattle.trace_audit.specs.Rows.{is_misfit, with_row}
use Rattle.trace_audit.specs.declared.text.parse_fault.ParseFault.{ParseFault}
use Rattle.trace_audit.specs.declared.text.parse_fault.ParseFault.TheVariants as parse
use Rattle.trace_audit.specs.declared.row.TraceRow.{TraceRow}
use Rattle.trace_audit.specs.declared.row.TraceRow.TheVariants as row

infixl 10 ◌>>=◌
abbrev pub ◌>>=◌ : {A B : Type 0} → Option A → (A → Option B) → Option B
(Some x) >>= f = f x
None >>= f = None

-- ---- numbers

-- the number that these digits go on to from n, where it is below 2^64
abbrev pub read_on : ℕ → List ℕ → Option ℕ
read_on n [] = Some n
read_on n (b ∷ text) =
    if is_ascii_digit b && nat_lt (n * 10 + (b - 48)) (2 ^ 64) then read_on (n * 10 + (b - 48)) text else None

-- nothing, or a zero and more
abbrev pub is_badly_begun : List ℕ → Bool
is_badly_begun text = length text == 0 || (slice_index text 0 == 48 && not (length text == 1))

unfoldable pub spelled_number : List ℕ → Option ℕ
spelled_number text = if is_badly_begun text then None else read_on 0 text

unfoldable pub spelled_topic : List ℕ → Option Topic
spelled_topic text = spelled_number text >>= λ n. if nat_lt n (2 ^ 32) then Some (record { 0 = n }) else None

-- ---- fields, and what comes after them

unfoldable pub number_before : ℕ → List ℕ → Option (ℕ × List ℕ)
number_before end text = cut end text >>= λ p. spelled_number p.0 >>= λ n. Some (n, p.1)

unfoldable pub topic_before : List ℕ → Option (Topic × List ℕ)
topic_before text = cut 32 text >>= λ p. spelled_topic p.0 >>= λ t. Some (t, p.1)

unfoldable pub id_before : List ℕ → Option (TxnId × List ℕ)
id_before text =
    number_before 32 text >>= λ s. number_before 32 s.1 >>= λ q.
    Some (record { sender = record { 0 = s.0 }; seq = q.0 }, q.1)

unfoldable pub spelled_stamp : List ℕ → Option Stamp
spelled_stamp text =
    number_before 46 text >>= λ n. spelled_topic n.1 >>= λ t. Some (record { n = n.0; topic = t })

unfoldable pub stamp_before : List ℕ → Option (Stamp × List ℕ)
stamp_before text = cut 32 text >>= λ p. spelled_stamp p.0 >>= λ s. Some (s, p.1)

unfoldable pub spelled_end : List ℕ → Option (Option Stamp)
spelled_end text =
    if bytes_eq text (codes "-") then Some None else (spelled_stamp text >>= λ s. Some (Some s))

-- what is between these octets
abbrev pub text_parts : ℕ → List ℕ → List (List ℕ)
text_parts b [] = [] ∷ []
text_parts b (x ∷ text) = if x == b then [] ∷ text_parts b text else onto_first x (text_parts b text)

abbrev pub topics_from : List (List ℕ) → Option (List Topic)
topics_from [] = Some []
topics_from (part ∷ parts) = spelled_topic part >>= λ t. topics_from parts >>= λ ts. Some (t ∷ ts)

unfoldable pub spelled_topics : List ℕ → Option (List Topic)
spelled_topics text = topics_from (text_parts 44 text)

-- ---- rows

unfoldable pub log_of_text : List ℕ → Option TraceRow
log_of_text text =
    topic_before text >>= λ t. id_before t.1 >>= λ i. stamp_before i.1 >>= λ s.
    spelled_topics s.1 >>= λ topics.
    Some (row.Log (record { topic = t.0; row = record { id = i.0; topics = topics; stamp = s.0 } }))

unfoldable pub span_of_text : List ℕ → Option TraceRow
span_of_text text =
    number_before 32 text >>= λ k. topic_before k.1 >>= λ t. stamp_before t.1 >>= λ s.
    spelled_end s.1 >>= λ to.
    Some (row.Span (record { sub = k.0; topic = t.0; from = s.0; to = to }))

unfoldable pub queue_of_text : List ℕ → Option TraceRow
queue_of_text text =
    number_before 32 text >>= λ k. id_before k.1 >>= λ i. spelled_stamp i.1 >>= λ s.
    Some (row.Queue (record { sub = k.0; id = i.0; stamp = s }))

abbrev pub row_named : List ℕ → List ℕ → Option TraceRow
row_named word text =
    if bytes_eq word (codes "log") then log_of_text text
    else if bytes_eq word (codes "span") then span_of_text text
    else if bytes_eq word (codes "queue") then queue_of_text text
    else None

unfoldable pub spelled_row : List ℕ → Option TraceRow
spelled_row line = cut 32 line >>= λ p. row_named p.0 p.1

-- ---- texts

-- the trace with the row that a line spells, where it spells one that fits
unfoldable pub line_added : List ℕ → TraceData → Option TraceData
line_added line trace =
    spelled_row line >>= λ row. if is_misfit row trace then None else Some (with_row row trace)

-- the trace with the rows of these lines, or the number of the first that can't be added, counted from n
abbrev pub read_from : ℕ → List (List ℕ) → TraceData → Result TraceData ℕ
read_from n lines trace = added_from line_added n lines trace

-- what a function returned is what reading gives, unless memory ran out
abbrev pub ReadsAs : Result TraceData ParseFault → Result TraceData ℕ → Type 0
ReadsAs (Ok trace) read = Ok trace ≡ read
ReadsAs (Err (parse.BadRow n)) read = Err n ≡ read
ReadsAs (Err parse.NoMemory) read = Unit {0}
