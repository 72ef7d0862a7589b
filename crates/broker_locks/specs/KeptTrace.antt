-- What a place keeps for the trace of a run, beside its group, and what it leaves for it.
use Rattle.std.specs.Prelude.{◌≡◌, ◌==◌, ◌++◌, ℕ, Bool, false, List, [], ◌∷◌, map}
use Rattle.std.specs.Prelude.{Option, Some, None, if◌then◌else◌}
use Rattle.std.specs.List.{filter, flat_map, list_any}
use Rattle.mcast_txn.specs.declared.stamp.Stamp.{Stamp}
use Rattle.mcast_txn.specs.Lists.{In, Rises, RisesBy, insert_by_number}
use Rattle.mcast_txn.specs.Span.{LogRow, in_span, row_stamp, row_mark, item_mark}
use Rattle.mcast_txn.specs.Stamp.{stamp_lt}
use Rattle.mcast_group.specs.Machine.{Entry, EntryEnd, TopicState, end_of, find_entry}
use Rattle.mcast_txn.specs.declared.mark.Mark.{Mark}
use Rattle.trace_audit.specs.declared.row.TraceRow.{TraceRow}
use Rattle.trace_audit.specs.declared.fault.AddFault.{AddFault}
use Rattle.trace_audit.specs.Rows.{is_misfit, says_misfit, with_row}
use Rattle.trace_audit.specs.Trace.{TraceData}
use Rattle.broker_locks.specs.TopicTraces.{SubTrace, TopicTrace, topic_rows, with_rows}

-- What is kept of an ended subscription.
-- to: the last stamp of its own: where it lagged, or else the frontier as it was ended.
-- marks: the rows that its source had pushed, each as its transaction and stamp.
pub record KeptEnd : Type 0 where
  pub to : Stamp
  pub marks : List Mark

-- What is kept of a subscription.
-- number: its number.
-- from: the frontier when it began.
-- left: what it left, once it was ended.
pub record KeptSub : Type 0 where
  pub number : ℕ
  pub from : Stamp
  pub left : Option KeptEnd

-- A kept trace.
-- drained: the rows that were drained from the log, in order.
-- subs: the subscriptions that ever began, by rising number.
pub record KeptTrace : Type 0 where
  pub drained : List LogRow
  pub subs : List KeptSub

-- a kept trace of a topic that nothing was done at
abbrev pub no_trace : KeptTrace
no_trace = record { drained = []; subs = [] }

-- all rows that the topic released, drained or held, in order
abbrev pub whole_log : TopicState → KeptTrace → List LogRow
whole_log x kept = kept.drained ++ x.held

-- ---- what a topic leaves for a trace

-- a subscription that wasn't ended: its span so far, and the rows that its source pushed
abbrev pub entry_trace : Entry → SubTrace
entry_trace e = record { number = e.number; from = e.from; to = e.to; marks = map item_mark e.accepted }

-- an ended subscription of this number and beginning
abbrev pub end_trace : ℕ → Stamp → KeptEnd → SubTrace
end_trace number from left = record { number = number; from = from; to = Some left.to; marks = left.marks }

-- the entry of this number, if there is one, as a list
abbrev pub entry_traces : Option Entry → List SubTrace
entry_traces None = []
entry_traces (Some e) = entry_trace e ∷ []

-- a subscription for a trace: as it was kept where it was ended, else as the topic has it now
abbrev pub sub_traces : TopicState → KeptSub → List SubTrace
sub_traces x s = elim s.left [
  | None ↦ entry_traces (find_entry s.number x.subscriptions)
  | Some left ↦ end_trace s.number s.from left ∷ []
]

-- what a topic leaves for a trace, of which this is kept
abbrev pub topic_trace : TopicState → KeptTrace → TopicTrace
topic_trace x kept =
    record { topic = x.topic; log = whole_log x kept; subs = flat_map (sub_traces x) kept.subs }

-- the rows of a trace for a topic, none where no trace is kept
abbrev pub rows_kept : TopicState → Option KeptTrace → List TraceRow
rows_kept x None = []
rows_kept x (Some kept) = topic_rows (topic_trace x kept)

-- each of these rows fits the trace that has the ones before it
abbrev pub AllFit : List TraceRow → TraceData → Type 0
AllFit [] trace = Unit {0}
AllFit (r ∷ rows) trace = (is_misfit r trace ≡ false) × AllFit rows (with_row r trace)

-- These rows were added to a trace, in order, and each of them fit.
pub record AddsAll (rows : List TraceRow) (old new : TraceData) : Type 0 where
  pub fit : AllFit rows old
  pub is : new ≡ with_rows rows old

-- The first of these rows were added to a trace, up to one that was refused.
-- refused, others: the one that was refused, and those after it.
-- misfit: the fault is 98 exactly where that one doesn't fit the trace as it is then.
pub record AddsFirst (fault : AddFault) (rows : List TraceRow) (old new : TraceData) : Type 0 where
  pub added : List TraceRow
  pub refused : TraceRow
  pub others : List TraceRow
  pub are : rows ≡ added ++ refused ∷ others
  pub adds : AddsAll added old new
  pub misfit : is_misfit refused new ≡ says_misfit fault

-- ---- what becomes of a kept trace

-- a subscription has the number
abbrev pub was_used : ℕ → Option KeptTrace → Bool
was_used number None = false
was_used number (Some kept) = list_any (λ s. s.number == number) kept.subs

-- a subscription of this number began at this frontier
abbrev pub kept_after_subscribe : ℕ → Stamp → KeptTrace → KeptTrace
kept_after_subscribe number from kept = record kept {
  subs = insert_by_number (λ (s : KeptSub). s.number)
      (record { number = number; from = from; left = None }) kept.subs;
}

-- what is kept of a subscription's end: its last stamp, and the rows that its source had pushed
abbrev pub kept_end : EntryEnd → KeptEnd
kept_end e = record { to = e.to; marks = map item_mark e.accepted }

-- what is kept of the end of this entry, if there is one, at this frontier
abbrev pub end_kept : Stamp → Option Entry → Option KeptEnd
end_kept frontier None = None
end_kept frontier (Some e) = Some (kept_end (end_of frontier e))

-- the subscription of this number left this; another is as it was
abbrev pub sub_after_end : ℕ → Option KeptEnd → KeptSub → KeptSub
sub_after_end number left s = if s.number == number then record s { left = left } else s

-- the topic's subscription of this number was ended
abbrev pub kept_after_unsubscribe : ℕ → TopicState → KeptTrace → KeptTrace
kept_after_unsubscribe number x kept = record kept {
  subs = map (sub_after_end number (end_kept x.frontier (find_entry number x.subscriptions))) kept.subs;
}

-- these rows were drained
abbrev pub kept_after_drain : List LogRow → KeptTrace → KeptTrace
kept_after_drain rows kept = record kept { drained = kept.drained ++ rows }

-- ---- what a kept trace keeps

-- the rows that lie in a span, as marks
abbrev pub marks_between : Stamp → Option Stamp → List LogRow → List Mark
marks_between from to log = map row_mark (filter (λ r. in_span from to r.stamp) log)

-- The subscription has an entry of its number and its beginning.
pub record HasEntry (s : KeptSub) (entries : List Entry) : Type 0 where
  pub entry : Entry
  pub among : In entry entries
  pub number : entry.number ≡ s.number
  pub from : entry.from ≡ s.from

-- The entry's number is that of a subscription that wasn't ended.
pub record HasSub (e : Entry) (subs : List KeptSub) : Type 0 where
  pub sub : KeptSub
  pub among : In sub subs
  pub number : sub.number ≡ e.number
  pub live : sub.left ≡ None

-- What an ended subscription left, at a topic with this frontier and this log: it ended at most at the
-- frontier, and its source had pushed the rows in its span.
pub record IsEndOf (frontier : Stamp) (log : List LogRow) (from : Stamp) (left : KeptEnd) : Type 0 where
  pub past : stamp_lt frontier left.to ≡ false
  pub marks : left.marks ≡ marks_between from (Some left.to) log

-- A kept trace is that of the topic.
-- rises: the rows of the whole log rise in stamp.
-- past: none of them is above the frontier.
-- numbers: the subscriptions rise by number.
-- live: one that wasn't ended is one of the topic's.
-- each: each of the topic's is one that wasn't ended.
-- pushed: what the source of each of these has pushed is what lies in its span, of the whole log.
-- ended: so it was for each that was ended.
pub record KeepsTrace (x : TopicState) (kept : KeptTrace) : Type 0 where
  pub rises : Rises row_stamp (whole_log x kept)
  pub past : (r : LogRow) → In r (whole_log x kept) → stamp_lt x.frontier r.stamp ≡ false
  pub numbers : RisesBy (λ (s : KeptSub). s.number) kept.subs
  pub live : (s : KeptSub) → In s kept.subs → s.left ≡ None → HasEntry s x.subscriptions
  pub each : (e : Entry) → In e x.subscriptions → HasSub e kept.subs
  pub pushed : (e : Entry) → In e x.subscriptions
      → map item_mark e.accepted ≡ marks_between e.from e.to (whole_log x kept)
  pub ended : (s : KeptSub) (left : KeptEnd) → In s kept.subs → s.left ≡ Some left
      → IsEndOf x.frontier (whole_log x kept) s.from left
