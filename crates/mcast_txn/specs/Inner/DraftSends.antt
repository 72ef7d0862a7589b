-- Serves proofs only: the SENDs of a draft or a transaction as they are stored, for their models.
-- Each is stored once, shared with the part that it goes to. No public contract cites this module.
use Rattle.std.specs.Prelude.{◌≡◌, ℕ, ◌+◌, ◌-◌, ◌^◌, ◌≤◌, List, [], ◌∷◌, length, map, min}
use Rattle.mcast_txn.specs.declared.draft.draft_send.DraftSend.{DraftSend}
use Rattle.mcast_txn.specs.declared.draft.sent_message.SentMessage.{SentMessage}
use Rattle.mcast_txn.specs.Draft.{max_sends}
use Rattle.mcast_txn.specs.Transaction.{weight}

-- the SEND that is stored
abbrev pub message_of : DraftSend → SentMessage
message_of e = record { topic = e.topic; headers = e.message.value.headers; body = e.message.value.body }

-- the SENDs that are stored, in order
abbrev pub messages_of : List DraftSend → List SentMessage
messages_of sends = map message_of sends

-- each has its index, where the first has index i
abbrev pub IsNumberedFrom : ℕ → List DraftSend → Type 0
IsNumberedFrom i [] = Unit {0}
IsNumberedFrom i (e ∷ sends) = (e.message.value.index ≡ i) × IsNumberedFrom (i + 1) sends

-- what a draft stores: each SEND with its index, and not too many
pub record AreDraftSends (sends : List DraftSend) : Type 0 where
  pub numbered : IsNumberedFrom 0 sends
  pub few : length sends ≤ max_sends

-- what a draft stores, with what its SENDs weigh, or 2^64 - 1 where they weigh more
pub record AreWeighed (sends : List DraftSend) (weighs : ℕ) : Type 0 where
  pub sound : AreDraftSends sends
  pub weighed : weighs ≡ min (weight (messages_of sends)) (2 ^ 64 - 1)
