-- The trace that a broker gathers from its topics' places.
use Rattle.std.specs.Prelude.{◌≡◌, ◌≢◌, ◌≤◌, ◌+◌, ◌⊎◌, ℕ, List, [], ◌∷◌, length, map, Some, None}
use Rattle.std.specs.List.{AllByRecursion, filter, flat_map}
use Rattle.mcast_txn.specs.Lists.{In}
use Rattle.mcast_txn.specs.Span.{LogRow, row_mark}
use Rattle.trace_audit.specs.declared.fault.AddFault.{AddFault}
use Rattle.trace_audit.specs.declared.fault.AddFault.TheVariants.{Misfit}
use Rattle.trace_audit.specs.Explained.{IsExplainedBy}
use Rattle.trace_audit.specs.Trace.{TraceData, no_trace_data}
use Rattle.broker_locks.specs.KeptTrace.{AddsAll, AddsFirst, topic_trace}
use Rattle.broker_locks.specs.Place.{IsBalanced, PlaceState}
use Rattle.broker_locks.specs.TopicTraces.{SubTrace, TopicTrace, trace_frontier, is_due_to, topic_rows}

-- what a place leaves for a trace: nothing where none is kept
abbrev pub traces_left : PlaceState → List TopicTrace
traces_left place = elim place.kept [
  | None ↦ []
  | Some kept ↦ topic_trace place.cells.group.topic kept ∷ []
]

-- the places are of the topics from this number on, in order
abbrev pub AreOfTopics : ℕ → List PlaceState → Type 0
AreOfTopics i [] = Unit {0}
AreOfTopics i (place ∷ places) = (place.cells.group.topic.topic.0 ≡ i) × AreOfTopics (i + 1) places

-- A broker of this many topics gathered this trace.
-- places: what was behind its locks.
-- many: there was one place for each topic.
-- topics: they were of topics 0, 1, 2 and so on.
-- each: each was as a place keeps itself.
-- adds: the rows of what they left are the trace's, in order. So no two subscriptions have one number.
pub record IsTraceLeft (count : ℕ) (trace : TraceData) : Type 0 where
  pub places : List PlaceState
  pub many : length places ≡ count
  pub topics : AreOfTopics 0 places
  pub each : AllByRecursion IsBalanced places
  pub adds : AddsAll (flat_map topic_rows (flat_map traces_left places)) no_trace_data trace

-- of what these places left, a trace had the first rows, up to one that was refused by this fault
pub record IsRowRefused (fault : AddFault) (places : List PlaceState) : Type 0 where
  pub trace : TraceData
  pub first : AddsFirst fault (flat_map topic_rows (flat_map traces_left places)) no_trace_data trace

-- the place after these was of another topic than its number
pub record IsElsewhere (fault : AddFault) (places : List PlaceState) : Type 0 where
  pub place : PlaceState
  pub other : place.cells.group.topic.topic.0 ≢ length places
  pub is : fault ≡ Misfit

-- A broker of this many topics was refused while it gathered its trace.
-- places: what was behind the first of its locks.
-- few: there were at most as many as topics.
-- each: each was as a place keeps itself.
-- why: a row of what they left was refused, or the next place was of another topic.
pub record StopsGathering (count : ℕ) (fault : AddFault) : Type 0 where
  pub places : List PlaceState
  pub few : length places ≤ count
  pub each : AllByRecursion IsBalanced places
  pub why : IsRowRefused fault places ⊎ IsElsewhere fault places

-- Where a list of transactions explains the trace that a broker gathered, what each subscription's source has
-- pushed is that list restricted to its topic and span, up to the topic's frontier.
abbrev pub GatheredIsDue : Type 0
GatheredIsDue =
    (count : ℕ) (trace : TraceData) (agreed : List LogRow) (left : IsTraceLeft count trace)
    → IsExplainedBy agreed trace
    → (x : TopicTrace) (s : SubTrace) → In x (flat_map traces_left left.places) → In s x.subs
    → s.marks ≡ map row_mark (filter (is_due_to x.topic (trace_frontier x) s) agreed)
