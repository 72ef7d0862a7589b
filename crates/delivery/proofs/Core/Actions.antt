-- What a frame is that asks for an action.
use Rattle.delivery.proofs.Words.All.{◌≡◌, ℕ, true, false, List, [], ◌∷◌, Option, Some, None, refl, subst, codes, option_map_or, SentMessage, RawFrame, Action, Command, Held, action_by, commit, client_of, first_of, id_of, is_connect, is_disconnect, send_of, sends_in, topic_of, transaction_of}
use Rattle.stomp_session.specs.declared.action.Action.TheVariants as actions
use Rattle.stomp_frame.specs.declared.command.Command.TheVariants as commands

-- what is so of a frame that asks for it
abbrev pub Fits : Command → Held → RawFrame → Action → Type 0
Fits command s f (actions.Connected client) = (is_connect command ≡ true) × (client_of f ≡ client)
Fits command s f (actions.Subscribe id t) = (command ≡ commands.Subscribe) × (id_of f ≡ id) × (topic_of s.names f ≡ t)
Fits command s f (actions.Unsubscribe id) = (command ≡ commands.Unsubscribe) × (id_of f ≡ id)
Fits command s f actions.Disconnect = is_disconnect command ≡ true
Fits command s f action = is_connect command ≡ false

fits : (command : Command) (s : Held) (f : RawFrame) → Fits command s f (action_by command s f)
fits commands.Connect s f = (refl, refl)
fits commands.Stomp s f = (refl, refl)
fits commands.Subscribe s f = (refl, refl, refl)
fits commands.Unsubscribe s f = (refl, refl)
fits commands.Send s f =
    elim (first_of (codes "transaction") f.headers) as (λ (o : Option (List ℕ)). Fits commands.Send s f (option_map_or (λ transaction. actions.Nothing) o (commit (send_of s.names f ∷ [])))) [
      | None ↦ refl
      | Some transaction ↦ refl
    ]
fits commands.Commit s f = elim (sends_in (transaction_of f) s.transactions) as (λ (sends : List SentMessage). Fits commands.Commit s f (commit sends)) [ [] ↦ refl | send ∷ sends ↦ refl ]
fits _ s f = refl

-- so it is of each
pub frame_fits : (command : Command) (s : Held) (f : RawFrame) {action : Action} → action_by command s f ≡ action → Fits command s f action
frame_fits command s f e = subst (Fits command s f) e (fits command s f)
