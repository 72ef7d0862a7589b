-- Serves proofs only: the rows of logs behind references, in an auditor's orders.
use Rattle.std.specs.Prelude.{◌≡◌, ◌==◌, nat_lt, List, map}
use Rattle.std.specs.List.{filter}
use Rattle.std.specs.List.Sorted.{IsPermutation, IsSortedBy}
use denote.Bor.{Bor}
use Rattle.mcast_txn.specs.declared.id.Topic.{Topic}
use Rattle.mcast_txn.specs.Ids.{id_lt}
use Rattle.mcast_txn.specs.Span.{LogRow}
use Rattle.mcast_txn.specs.Stamp.{stamp_lt}
use Rattle.trace_audit.specs.Logs.{TopicRow}
use Rattle.trace_audit.specs.declared.row.QueueRow.{QueueRow}

-- references seen as rows
abbrev pub rows_of_refs : {X : Type 0} → List (Bor X) → List X
rows_of_refs rows = map (λ r. r.now) rows

-- references seen as rows, without their logs' topics
abbrev pub log_rows_of_refs : List (Bor TopicRow) → List LogRow
log_rows_of_refs rows = map (λ r. r.now.row) rows

-- no row's transaction is below the one before it
abbrev pub IsOrderedById : List (Bor TopicRow) → Type 0
IsOrderedById rows = IsSortedBy (λ a b. id_lt a.now.row.id b.now.row.id) rows

-- no row's stamp is below the one before it
abbrev pub RisesByStamp : List (Bor TopicRow) → Type 0
RisesByStamp rows = IsSortedBy (λ a b. stamp_lt a.now.row.stamp b.now.row.stamp) rows

-- no row's log is of a topic below the one before it
abbrev pub RisesByTopic : List (Bor TopicRow) → Type 0
RisesByTopic rows = IsSortedBy (λ a b. nat_lt a.now.topic.0 b.now.topic.0) rows

-- no row's subscription is below the one before it
abbrev pub RisesBySub : List (Bor QueueRow) → Type 0
RisesBySub rows = IsSortedBy (λ a b. nat_lt a.now.sub b.now.sub) rows

-- the references show these rows, in another order, in which each topic's log is as it was
pub record IsGroupingOf (rows : List (Bor TopicRow)) (logs : List TopicRow) : Type 0 where
  pub moved : IsPermutation logs (rows_of_refs rows)
  pub kept : (t : Topic) →
      filter (λ logged. logged.topic.0 == t.0) (rows_of_refs rows)
      ≡ filter (λ logged. logged.topic.0 == t.0) logs

-- the references show these rows in all three orders
pub record IsOrdersOf (by_id by_stamp by_topic : List (Bor TopicRow)) (logs : List TopicRow) : Type 0 where
  pub ids_rise : IsOrderedById by_id
  pub ids_moved : IsPermutation logs (rows_of_refs by_id)
  pub stamps_rise : RisesByStamp by_stamp
  pub stamps_moved : IsPermutation logs (rows_of_refs by_stamp)
  pub topics_rise : RisesByTopic by_topic
  pub grouping : IsGroupingOf by_topic logs
