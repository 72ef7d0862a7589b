-- What commits do to the topics, as a list of rows: which parts were entered, and which were cancelled.
use Rattle.std.specs.Prelude.{◌≡◌, ◌<◌, ◌==◌, ◌&&◌, ℕ, Bool, List, [], ◌∷◌, if◌then◌else◌}
use Rattle.std.specs.List.{list_any}
use Rattle.mcast_txn.specs.declared.id.Topic.{Topic}
use Rattle.mcast_txn.specs.declared.id.TxnId.{TxnId}
use Rattle.mcast_txn.specs.declared.stamp.Stamp.{Stamp}
use Rattle.mcast_txn.specs.declared.ballot.ticket.Ticket.{Ticket}
use Rattle.mcast_txn.specs.Ids.{same_id}
use Rattle.mcast_txn.specs.Transaction.{TopicPart}

-- What was done at a topic.
-- Entered: this part was entered with this floor, and its topic gave this number.
-- Cancelled: at this topic the part of this transaction was cancelled.
pub data PlaceRow : Type 0 where
  Entered : TopicPart → Stamp → ℕ → PlaceRow
  Cancelled : Topic → TxnId → PlaceRow

-- a ticket of this part, with a number above the floor's
pub record IsTicketFor (floor : Stamp) (part : TopicPart) (ticket : Ticket) : Type 0 where
  pub id : ticket.id ≡ part.id
  pub topic : ticket.topic ≡ part.topic
  pub above : floor.n < ticket.n

-- the pair is this topic and this transaction
abbrev pub is_pair : Topic → TxnId → Topic × TxnId → Bool
is_pair topic id pair = pair.0.0 == topic.0 && same_id pair.1 id

-- the pairs but the first that is this topic and this transaction
abbrev pub pairs_without : Topic → TxnId → List (Topic × TxnId) → List (Topic × TxnId)
pairs_without topic id [] = []
pairs_without topic id (pair ∷ pairs) =
    if is_pair topic id pair then pairs else pair ∷ pairs_without topic id pairs

-- what of these pairs, and then of these rows, was entered and not cancelled, as topics and transactions
abbrev pub uncancelled_after : List (Topic × TxnId) → List PlaceRow → List (Topic × TxnId)
uncancelled_after pairs [] = pairs
uncancelled_after pairs (Entered part floor n ∷ rows) = uncancelled_after ((part.topic, part.id) ∷ pairs) rows
uncancelled_after pairs (Cancelled topic id ∷ rows) = uncancelled_after (pairs_without topic id pairs) rows

-- The transaction's part at the topic was entered and not cancelled.
-- So of rows that enter it at topics 0 and 1 and cancel it at 0, it is at 1 and no longer at 0.
abbrev pub is_uncancelled : Topic → TxnId → List PlaceRow → Bool
is_uncancelled topic id rows = list_any (is_pair topic id) (uncancelled_after [] rows)
