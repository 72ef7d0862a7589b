-- What a session keeps of its parts. Only proofs go by it; no public contract speaks of it.
use Rattle.std.specs.Prelude.{◌≡◌, ℕ, Bool, List, []}
use Rattle.mcast_txn.specs.declared.id.Topic.{Topic}
use Rattle.mcast_txn.specs.declared.draft.sent_message.SentMessage.{SentMessage}
use Rattle.stomp_session.specs.declared.phase.Phase.{Phase}
use Rattle.stomp_session.specs.declared.phase.Phase.TheVariants.{Closed}

-- a closed one holds nothing open
pub record IsSoundSession
    (phase : Phase)
    (subscriptions : List (List ℕ × Topic))
    (parts : List (List ℕ × Bool))
    (transactions : List (List ℕ × List SentMessage))
    : Type 0 where
  pub no_subscriptions : phase ≡ Closed → subscriptions ≡ []
  pub no_parts : phase ≡ Closed → parts ≡ []
  pub no_transactions : phase ≡ Closed → transactions ≡ []
