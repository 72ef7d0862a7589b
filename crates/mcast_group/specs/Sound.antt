-- What a topic keeps, whatever is asked of it.
use Rattle.std.specs.Prelude.{◌≡◌, ◌≢◌, ◌+◌, ◌≤◌, true, false, List, [], ◌∷◌, length, Option, Some}
use Rattle.mcast_txn.specs.declared.stamp.Stamp.{Stamp}
use Rattle.mcast_txn.specs.Stamp.{stamp_lt}
use Rattle.mcast_txn.specs.Ids.{same_id, id_lt}
use Rattle.mcast_txn.specs.Lists.{In, Rises, RisesBy}
use Rattle.mcast_txn.specs.Span.{LogRow, Item, in_span, last_stamp, row_stamp, item_stamp}
use Rattle.mcast_group.specs.Machine.{TopicState, Pending, Entry, key}

-- the item is that of a row: it has its id and its stamp
pub record IsItemOf (row : LogRow) (item : Item) : Type 0 where
  pub id : item.id ≡ row.id
  pub stamp : item.stamp ≡ row.stamp

-- an item of this row is among these
pub record HasItem (row : LogRow) (items : List Item) : Type 0 where
  pub item : Item
  pub stands : In item items
  pub is : IsItemOf row item

-- the item's row is among these
pub record HasRow (item : Item) (rows : List LogRow) : Type 0 where
  pub row : LogRow
  pub stands : In row rows
  pub is : IsItemOf row item

-- What a subscription with this span has accepted, at a topic with this base, frontier and held rows.
-- from_past, to_past: the span begins, and ends if it does, at most at the frontier.
-- rises: the items rise in stamp.
-- within: each item's stamp is in the span.
-- past: each item's stamp is at most the frontier.
-- only_rows: each item above the base is that of a held row.
-- all_rows: each held row in the span has its item.
pub record IsQueueOf (base frontier : Stamp) (held : List LogRow)
    (from : Stamp) (to : Option Stamp) (accepted : List Item) : Type 0 where
  pub from_past : stamp_lt frontier from ≡ false
  pub to_past : (end : Stamp) → to ≡ Some end → stamp_lt frontier end ≡ false
  pub rises : Rises item_stamp accepted
  pub within : (i : Item) → In i accepted → in_span from to i.stamp ≡ true
  pub past : (i : Item) → In i accepted → stamp_lt frontier i.stamp ≡ false
  pub only_rows : (i : Item) → In i accepted → stamp_lt base i.stamp ≡ true → HasRow i held
  pub all_rows : (r : LogRow) → In r held → in_span from to r.stamp ≡ true → HasItem r accepted

-- each id is below the later ones
abbrev pub RisesById : List Pending → Type 0
RisesById [] = Unit {0}
RisesById (p ∷ ps) = ((q : Pending) → In q ps → id_lt p.part.id q.part.id ≡ true) × RisesById ps

-- each number is another than the later ones
abbrev pub NumbersDiffer : List Entry → Type 0
NumbersDiffer [] = Unit {0}
NumbersDiffer (e ∷ es) = ((f : Entry) → In f es → f.number ≢ e.number) × NumbersDiffer es

-- A topic is sound (worked: `two_pending_sound` in proofs/Rows.antt).
-- rises: the held rows rise in stamp.
-- above_base: each held row is above the base.
-- frontier: the frontier is the stamp of the last held row, or the base where none is held.
-- past, base_past: no held row, and not the base, is above the frontier.
-- own: each pending part is this topic's.
-- by_id: the pending parts rise by id.
-- one_part: no transaction has two pending parts.
-- differ: no two pending parts have one key.
-- above: each pending part's key is above the frontier.
-- clock_keys, clock_frontier: the clock is at least the number of each key, and that of the frontier.
-- numbers: the subscriptions rise by number.
-- queues: each subscription's queue has accepted what its span says.
-- limit: pending parts and held rows, taken together, are at most the log's limit.
pub record IsSound (x : TopicState) : Type 0 where
  pub rises : Rises row_stamp x.held
  pub above_base : (r : LogRow) → In r x.held → stamp_lt x.base r.stamp ≡ true
  pub frontier : x.frontier ≡ last_stamp x.base x.held
  pub past : (r : LogRow) → In r x.held → stamp_lt x.frontier r.stamp ≡ false
  pub base_past : stamp_lt x.frontier x.base ≡ false
  pub own : (p : Pending) → In p x.pending → p.part.topic ≡ x.topic
  pub by_id : RisesById x.pending
  pub one_part : (p q : Pending) → In p x.pending → In q x.pending
      → same_id p.part.id q.part.id ≡ true → p ≡ q
  pub differ : (p q : Pending) → In p x.pending → In q x.pending → key p ≡ key q → p ≡ q
  pub above : (p : Pending) → In p x.pending → stamp_lt x.frontier (key p) ≡ true
  pub clock_keys : (p : Pending) → In p x.pending → (key p).n ≤ x.clock
  pub clock_frontier : x.frontier.n ≤ x.clock
  pub numbers : RisesBy (λ (e : Entry). e.number) x.subscriptions
  pub queues : (e : Entry) → In e x.subscriptions
      → IsQueueOf x.base x.frontier x.held e.from e.to e.accepted
  pub limit : length x.pending + length x.held ≤ x.log_limit
