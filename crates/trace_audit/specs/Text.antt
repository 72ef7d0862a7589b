-- The text of a trace: a line for each row, and what each line is.
use Rattle.std.specs.Prelude.{◌≡◌, ◌≢◌, ℕ, ◌<◌, ◌^◌, List, [], ◌∷◌, ◌++◌, map, codes, decimal, Option, Some, None, IfSome}
use Rattle.std.specs.List.{AllByRecursion}
use Rattle.mcast_txn.specs.declared.id.Topic.{Topic}
use Rattle.mcast_txn.specs.declared.id.TxnId.{TxnId}
use Rattle.mcast_txn.specs.declared.stamp.Stamp.{Stamp}
use Rattle.mcast_txn.specs.Span.{LogRow}
use Rattle.trace_audit.specs.declared.row.TraceRow.{TraceRow}
use Rattle.trace_audit.specs.declared.row.TraceRow.TheVariants as row

-- ---- what a row's line is; a number is its decimal digits

-- texts with this octet between each two
abbrev pub joined_text : ℕ → List (List ℕ) → List ℕ
joined_text b [] = []
joined_text b (text ∷ []) = text
joined_text b (text ∷ next ∷ texts) = text ++ b ∷ joined_text b (next ∷ texts)

-- texts with a space between each two
abbrev pub spaced_text : List (List ℕ) → List ℕ
spaced_text texts = joined_text 32 texts

-- a transaction: its sender and its seq, as `0 1`
abbrev pub id_text : TxnId → List ℕ
id_text id = spaced_text (decimal id.sender.0 ∷ decimal id.seq ∷ [])

-- a stamp: its number and its topic with a dot between them, as `2.1`
abbrev pub stamp_text : Stamp → List ℕ
stamp_text stamp = joined_text 46 (decimal stamp.n ∷ decimal stamp.topic.0 ∷ [])

-- the end of a span: its stamp, or `-` where it is open
abbrev pub end_text : Option Stamp → List ℕ
end_text None = codes "-"
end_text (Some stamp) = stamp_text stamp

-- topics with commas between them, as `0,1`
abbrev pub topics_text : List Topic → List ℕ
topics_text topics = joined_text 44 (map (λ t. decimal t.0) topics)

-- A row's line without its end. So transaction 1 of sender 0 in the log of topic 1 is `log 1 0 1 2.1 0,1`,
-- the open span of subscription 3 at topic 1 is `span 3 1 0.0 -`, and that transaction in its queue
-- `queue 3 0 1 2.1`.
abbrev pub row_text : TraceRow → List ℕ
row_text (row.Log logged) =
    spaced_text (codes "log" ∷ decimal logged.topic.0
    ∷ id_text logged.row.id ∷ stamp_text logged.row.stamp ∷ topics_text logged.row.topics ∷ [])
row_text (row.Span span) =
    spaced_text (codes "span" ∷ decimal span.sub ∷ decimal span.topic.0
    ∷ stamp_text span.from ∷ end_text span.to ∷ [])
row_text (row.Queue queued) =
    spaced_text (codes "queue" ∷ decimal queued.sub ∷ id_text queued.id ∷ stamp_text queued.stamp ∷ [])

-- ---- the numbers that fit their types

-- a topic's number is below 2^32
abbrev pub IsTopicInRange : Topic → Type 0
IsTopicInRange topic = topic.0 < 2 ^ 32

-- a transaction's numbers are below 2^64
abbrev pub IsIdInRange : TxnId → Type 0
IsIdInRange id = (id.sender.0 < 2 ^ 64) × (id.seq < 2 ^ 64)

-- a stamp's number is below 2^64, and its topic is in range
abbrev pub IsStampInRange : Stamp → Type 0
IsStampInRange stamp = (stamp.n < 2 ^ 64) × IsTopicInRange stamp.topic

-- a transaction's numbers are in range, and it names a topic
abbrev pub IsTxnInRange : LogRow → Type 0
IsTxnInRange row =
    IsIdInRange row.id × IsStampInRange row.stamp
    × AllByRecursion IsTopicInRange row.topics × (row.topics ≢ [])

-- each number of a row is in range, and a log's row names a topic
abbrev pub IsRowInRange : TraceRow → Type 0
IsRowInRange (row.Log logged) = IsTopicInRange logged.topic × IsTxnInRange logged.row
IsRowInRange (row.Span span) =
    (span.sub < 2 ^ 64) × IsTopicInRange span.topic
    × IsStampInRange span.from × IfSome span.to IsStampInRange
IsRowInRange (row.Queue queued) = (queued.sub < 2 ^ 64) × IsIdInRange queued.id × IsStampInRange queued.stamp

-- The line is the text of this row. A number has one spelling: `log 0 0 01 2.1 0` spells no row.
abbrev pub SpellsRow : List ℕ → TraceRow → Type 0
SpellsRow line row = (line ≡ row_text row) × IsRowInRange row
