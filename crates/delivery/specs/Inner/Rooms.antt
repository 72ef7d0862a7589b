-- Only serves proofs: the room that a transaction makes as it begins, for what its later events keep.
use Rattle.std.specs.Prelude.{◌≡◌, ◌≤◌, ◌+◌, ℕ, Bool, true, false, List, [], ◌∷◌, length, Some, if◌then◌else◌}
use Rattle.mcast_txn.specs.declared.id.Topic.{Topic}
use Rattle.mcast_txn.specs.Slots.{Slots, held_at}
use Rattle.mcast_txn.specs.Span.{LogRow}
use Rattle.mcast_txn.specs.Transaction.{TopicPart}
use Rattle.delivery.specs.declared.sending.Sending.{Sending}
use Rattle.delivery.specs.Inner.View.{SenderView}

-- the rows of a commit list, and how many more it has room for that are promised
pub record PromisedRows : Type 0 where
  pub rows : List LogRow
  pub promised : ℕ

-- how many tickets a sender may have to keep once its transaction ends without a verdict
abbrev pub tickets_to_keep : Sending → ℕ
tickets_to_keep (Sending.Idle gate) = 0
tickets_to_keep Sending.Resting = 0
tickets_to_keep (Sending.Flying flight topics) = length flight.tickets
tickets_to_keep (Sending.Marked gate tickets fault) = length tickets

-- each of these parts is that of its topic
abbrev pub AreOwn : Slots TopicPart → Type 0
AreOwn parts = (t : Topic) (p : TopicPart) → held_at t parts ≡ Some p → p.topic ≡ t

-- so are those of a sender's transaction, if one is on its way
abbrev pub HasOwnParts : Sending → Type 0
HasOwnParts (Sending.Idle gate) = Unit {0}
HasOwnParts Sending.Resting = Unit {0}
HasOwnParts (Sending.Flying flight topics) = AreOwn flight.parts
HasOwnParts (Sending.Marked gate tickets fault) = Unit {0}

-- a sender that has this many tickets to cancel has room for those that may come, and parts of its own
pub record KeepsRoom (sending : Sending) (leftovers capacity : ℕ) : Type 0 where
  pub room : leftovers + tickets_to_keep sending ≤ capacity
  pub own : HasOwnParts sending

-- its transaction is on its way, and no topic refused it
abbrev pub is_flying : Sending → Bool
is_flying (Sending.Idle gate) = false
is_flying Sending.Resting = false
is_flying (Sending.Flying flight topics) = true
is_flying (Sending.Marked gate tickets fault) = false

-- how many of these senders have a transaction on its way
abbrev pub flying_count : List SenderView → ℕ
flying_count [] = 0
flying_count (s ∷ senders) =
    if is_flying s.sending then flying_count senders + 1 else flying_count senders
