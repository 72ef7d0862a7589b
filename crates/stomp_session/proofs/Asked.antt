-- Which frames ask for which actions.
use Rattle.std.proofs.Common.{◌≡◌, ℕ, true, List, [], ◌∷◌, Option, Some, None, refl, codes}
use Rattle.std.specs.Option.{option_map_or}
use Rattle.stomp_frame.specs.declared.command.Command.{Command}
use Rattle.stomp_frame.specs.declared.command.Command.TheVariants as commands
use Rattle.stomp_frame.specs.declared.raw_frame.RawFrame.{RawFrame}
use Rattle.stomp_frame.specs.Headers.{first_of}
use Rattle.mcast_txn.specs.declared.id.Topic.{Topic}
use Rattle.mcast_txn.specs.declared.draft.sent_message.SentMessage.{SentMessage}
use Rattle.stomp_session.specs.declared.action.Action.TheVariants as actions
use Rattle.stomp_session.specs.Answers.{action_by, commit}
use Rattle.stomp_session.specs.Frames.{has_destination, id_of, send_of, topic_of, transaction_of}
use Rattle.stomp_session.specs.Open.{Held}
use Rattle.stomp_session.specs.Refusals.{sends_in}

-- a SEND asks for no subscription
pub sent_subscribes : {A : Type 0} (s : Held) (f : RawFrame) (o : Option (List ℕ)) (id : List ℕ) (t : Topic)
    → option_map_or (λ transaction. actions.Nothing) o (commit (send_of s.names f ∷ [])) ≡ actions.Subscribe id t → A
sent_subscribes s f None id t e = absurd (cc)
sent_subscribes s f (Some x) id t e = absurd (cc)

-- nor does a COMMIT
pub committed_subscribes : {A : Type 0} (sends : List SentMessage) (id : List ℕ) (t : Topic) → commit sends ≡ actions.Subscribe id t → A
committed_subscribes [] id t e = absurd (cc)
committed_subscribes (send ∷ sends) id t e = absurd (cc)

-- a SUBSCRIBE asks for a subscription of its id
pub begins : (command : Command) (s : Held) (f : RawFrame) (id : List ℕ) (t : Topic) → action_by command s f ≡ actions.Subscribe id t → id_of f ≡ id
begins commands.Subscribe s f id t e = cc
begins commands.Send s f id t e = sent_subscribes s f (first_of (codes "transaction") f.headers) id t e
begins commands.Commit s f id t e = committed_subscribes (sends_in (transaction_of f) s.transactions) id t e
begins _ s f id t e = absurd (cc)

-- at its destination's topic
pub begins_at : (command : Command) (s : Held) (f : RawFrame) (id : List ℕ) (t : Topic) → action_by command s f ≡ actions.Subscribe id t
    → (has_destination command ≡ true) × (topic_of s.names f ≡ t)
begins_at commands.Subscribe s f id t e = (refl, cc)
begins_at commands.Send s f id t e = sent_subscribes s f (first_of (codes "transaction") f.headers) id t e
begins_at commands.Commit s f id t e = committed_subscribes (sends_in (transaction_of f) s.transactions) id t e
begins_at _ s f id t e = absurd (cc)

sent_unsubscribes : {A : Type 0} (s : Held) (f : RawFrame) (o : Option (List ℕ)) (id : List ℕ)
    → option_map_or (λ transaction. actions.Nothing) o (commit (send_of s.names f ∷ [])) ≡ actions.Unsubscribe id → A
sent_unsubscribes s f None id e = absurd (cc)
sent_unsubscribes s f (Some x) id e = absurd (cc)

committed_unsubscribes : {A : Type 0} (sends : List SentMessage) (id : List ℕ) → commit sends ≡ actions.Unsubscribe id → A
committed_unsubscribes [] id e = absurd (cc)
committed_unsubscribes (send ∷ sends) id e = absurd (cc)

-- an UNSUBSCRIBE asks for the end of the subscription of its id
pub ends : (command : Command) (s : Held) (f : RawFrame) (id : List ℕ) → action_by command s f ≡ actions.Unsubscribe id
    → (command ≡ commands.Unsubscribe) × (id_of f ≡ id)
ends commands.Unsubscribe s f id e = (refl, cc)
ends commands.Send s f id e = sent_unsubscribes s f (first_of (codes "transaction") f.headers) id e
ends commands.Commit s f id e = committed_unsubscribes (sends_in (transaction_of f) s.transactions) id e
ends _ s f id e = absurd (cc)
