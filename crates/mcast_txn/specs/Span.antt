-- Rows of a topic's log, items of a subscription's queue, and the spans of subscriptions.
use Rattle.std.specs.Prelude.{Bool, true, not, ◌&&◌, List, Option, Some, None, [], ◌∷◌}
use Rattle.mcast_txn.specs.declared.id.Topic.{Topic}
use Rattle.mcast_txn.specs.declared.id.TxnId.{TxnId}
use Rattle.mcast_txn.specs.declared.mark.Mark.{Mark}
use Rattle.mcast_txn.specs.declared.parts.part_message.PartMessage.{PartMessage}
use Rattle.mcast_txn.specs.declared.stamp.Stamp.{Stamp}
use Rattle.mcast_txn.specs.Stamp.{stamp_lt}

-- a row of a topic's log: a transaction, all its topics, and its stamp
pub record LogRow : Type 0 where
  pub id : TxnId
  pub topics : List Topic
  pub stamp : Stamp

-- a log row's stamp
abbrev pub row_stamp : LogRow → Stamp
row_stamp row = row.stamp

-- a row's id
abbrev pub row_id : LogRow → TxnId
row_id row = row.id

-- a row's mark: whose it is, and at which stamp
abbrev pub row_mark : LogRow → Mark
row_mark row = record { id = row.id; stamp = row.stamp }

-- an item of a subscription's queue: a transaction, its stamp, and its part at that topic
pub record Item : Type 0 where
  pub id : TxnId
  pub stamp : Stamp
  pub sends : List PartMessage

-- an item's stamp
abbrev pub item_stamp : Item → Stamp
item_stamp item = item.stamp

-- an item's mark: whose it is, and at which stamp
abbrev pub item_mark : Item → Mark
item_mark item = record { id = item.id; stamp = item.stamp }

-- a subscription's topic, the stamp after which it begins, and the last stamp of its own, once it is closed
pub record Span : Type 0 where
  pub topic : Topic
  pub from : Stamp
  pub to : Option Stamp

-- the stamp is at most the end, where there is one
abbrev pub up_to : Option Stamp → Stamp → Bool
up_to None stamp = true
up_to (Some end) stamp = not (stamp_lt end stamp)

-- the stamp is above from and at most the end; so the span from (4, 0) to (9, 0) has (9, 0), and not (4, 0)
abbrev pub in_span : Stamp → Option Stamp → Stamp → Bool
in_span from to stamp = stamp_lt from stamp && up_to to stamp

-- the stamp of the log's last row, or else this one
abbrev pub last_stamp : Stamp → List LogRow → Stamp
last_stamp base [] = base
last_stamp base (row ∷ rows) = last_stamp row.stamp rows
