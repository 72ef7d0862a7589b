-- Serves proofs only: lists in which each item is so related to all later ones.
use Rattle.std.specs.Prelude.{◌≡◌, ◌==◌, ◌&&◌, ◌||◌, not, nat_lt, true, false, Bool, List, [], ◌∷◌}
use Rattle.std.specs.Borrow.{Bor}
use Rattle.mcast_txn.specs.declared.id.Topic.{Topic}
use Rattle.mcast_txn.specs.declared.stamp.Stamp.{Stamp}
use Rattle.mcast_txn.specs.Lists.{In}
use Rattle.mcast_txn.specs.Span.{up_to}
use Rattle.mcast_txn.specs.Stamp.{stamp_lt}
use Rattle.trace_audit.specs.Faults.{some_two, are_different, are_colliding}
use Rattle.trace_audit.specs.Inner.Orders.{rows_of_refs}
use Rattle.trace_audit.specs.Logs.{TopicRow}
use Rattle.trace_audit.specs.declared.row.SpanRow.{SpanRow}

-- each item is in the relation to each that follows it
abbrev pub Chained : {X : Type 0} → (X → X → Type 0) → List X → Type 0
Chained R [] = Unit {0}
Chained R (x ∷ xs) = ((y : _) → In y xs → R x y) × Chained R xs

-- the later row is of no lower topic, and above it in its log
abbrev pub Above : TopicRow → TopicRow → Type 0
Above x y =
    (nat_lt y.topic.0 x.topic.0 ≡ false)
    × (x.topic.0 ≡ y.topic.0 → stamp_lt x.row.stamp y.row.stamp ≡ true)

-- rows by topic and stamp, against which neither verdicts nor stamps speak
pub record IsIndex (rows : List (Bor TopicRow)) : Type 0 where
  pub rises : Chained Above (rows_of_refs rows)
  pub one_verdict : some_two are_different (rows_of_refs rows) ≡ false
  pub one_stamp : some_two are_colliding (rows_of_refs rows) ≡ false

-- the row comes before this stamp of the topic's log
abbrev pub comes_before : Topic → Stamp → TopicRow → Bool
comes_before t stamp logged =
    nat_lt logged.topic.0 t.0 || (logged.topic.0 == t.0 && stamp_lt logged.row.stamp stamp)

-- the row is of the topic's log, and not before the stamp
abbrev pub is_from : Topic → Stamp → TopicRow → Bool
is_from t stamp logged = logged.topic.0 == t.0 && not (stamp_lt logged.row.stamp stamp)

-- the row is of a lower topic than the span's, or of its topic and no later than its beginning
abbrev pub is_up_to_from : SpanRow → TopicRow → Bool
is_up_to_from span logged =
    nat_lt logged.topic.0 span.topic.0
    || (logged.topic.0 == span.topic.0 && not (stamp_lt span.from logged.row.stamp))

-- the row is of a lower topic than the span's, or of its topic and no later than its end
abbrev pub is_up_to_end : SpanRow → TopicRow → Bool
is_up_to_end span logged =
    nat_lt logged.topic.0 span.topic.0 || (logged.topic.0 == span.topic.0 && up_to span.to logged.row.stamp)
