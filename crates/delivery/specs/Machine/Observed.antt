-- What a claim reads of the core after a run: a topic's log and frontier, and a subscription's queue and
-- span.
use Rattle.std.specs.Prelude.{ℕ, List, [], Option, Some, None}
use Rattle.mcast_txn.specs.declared.id.Topic.{Topic}
use Rattle.mcast_txn.specs.declared.stamp.Stamp.{Stamp}
use Rattle.mcast_txn.specs.Stamp.{zero_stamp}
use Rattle.mcast_txn.specs.Span.{LogRow, Item, Span, last_stamp}
use Rattle.mcast_group.specs.Machine.{Entry}
use Rattle.delivery.specs.Machine.World.{World, topic_at, subscription_at, entry_at}

-- the rows that a topic holds: its whole log while nothing is drained, as in every run
abbrev pub log_at : World → Topic → List LogRow
log_at w t = (topic_at w t).held

-- the stamp of the last row of a topic's log, or zero
abbrev pub frontier_at : World → Topic → Stamp
frontier_at w t = last_stamp zero_stamp (log_at w t)

-- what the queue of an entry has accepted
abbrev pub entry_items : Option Entry → List Item
entry_items None = []
entry_items (Some e) = e.accepted

-- where an entry has lagged, if it has
abbrev pub entry_to : Option Entry → Option Stamp
entry_to None = None
entry_to (Some e) = e.to

-- what the subscription's queue has accepted, taken or not
abbrev pub accepted_at : World → ℕ → List Item
accepted_at w s = elim (subscription_at w s).closed [
  | None ↦ entry_items (entry_at w s)
  | Some end ↦ end.accepted
]

-- where the subscription's span ends, if it does
abbrev pub end_at : World → ℕ → Option Stamp
end_at w s = elim (subscription_at w s).closed [ None ↦ entry_to (entry_at w s) | Some end ↦ Some end.to ]

-- the subscription's topic, where its span begins, and where it ends if it does
abbrev pub span_at : World → ℕ → Span
span_at w s =
    record { topic = (subscription_at w s).topic; from = (subscription_at w s).from; to = end_at w s }
