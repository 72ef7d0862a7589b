-- What a session answers to a frame.
use Rattle.std.specs.Prelude.{◌≡◌, ◌⊎◌, Bool, true, false, List, [], ◌∷◌, codes, Some, None, IfSome}
use Rattle.std.specs.Option.{option_map_or}
use Rattle.stomp_frame.specs.declared.command.Command.{Command}
use Rattle.stomp_frame.specs.declared.command.Command.TheVariants as commands
use Rattle.stomp_frame.specs.declared.raw_frame.RawFrame.{RawFrame}
use Rattle.stomp_frame.specs.Headers.{IsText, first_of}
use Rattle.stomp_frame.specs.Receipts.{receipt_of}
use Rattle.mcast_txn.specs.declared.draft.sent_message.SentMessage.{SentMessage}
use Rattle.stomp_session.specs.declared.action.Action.{Action}
use Rattle.stomp_session.specs.declared.action.Action.TheVariants as actions
use Rattle.stomp_session.specs.declared.action.Step.{Step}
use Rattle.stomp_session.specs.declared.fault.SessionFault.{SessionFault}
use Rattle.stomp_session.specs.declared.fault.SessionFault.TheVariants.{NoMemory}
use Rattle.stomp_session.specs.Frames.{client_of, topic_of, id_of, transaction_of, send_of}
use Rattle.stomp_session.specs.Open.{Held}
use Rattle.stomp_session.specs.Refusals.{sends_in, session_fault}

-- a transaction of these SENDs; none where there are none
abbrev pub commit : List SentMessage → Action
commit [] = actions.Nothing
commit (send ∷ sends) = actions.Commit (send ∷ sends)

-- What the connection has to do for the frame. A SEND outside a transaction is a transaction by itself (own).
abbrev pub action_by : Command → Held → RawFrame → Action
action_by commands.Connect s f = actions.Connected (client_of f)
action_by commands.Stomp s f = actions.Connected (client_of f)
action_by commands.Subscribe s f = actions.Subscribe (id_of f) (topic_of s.names f)
action_by commands.Unsubscribe s f = actions.Unsubscribe (id_of f)
action_by commands.Send s f =
    option_map_or (λ transaction. actions.Nothing) (first_of (codes "transaction") f.headers)
    (commit (send_of s.names f ∷ []))
action_by commands.Commit s f = commit (sends_in (transaction_of f) s.transactions)
action_by commands.Disconnect s f = actions.Disconnect
action_by _ s f = actions.Nothing

-- The frame is accepted, with this action and the receipt that it asks for.
pub record Accepts (s : Held) (f : RawFrame) (step : Step) : Type 0 where
  pub accepted : session_fault s f ≡ None
  pub action : step.action ≡ action_by f.command s f
  pub receipt : step.receipt ≡ receipt_of f

-- an action's id is text, and so is its client-id, if it has one
abbrev pub IsTextIn : Action → Type 0
IsTextIn (actions.Connected client) = IfSome client IsText
IsTextIn (actions.Subscribe id topic) = IsText id
IsTextIn (actions.Unsubscribe id) = IsText id
IsTextIn _ = Unit {0}

-- What is returned is text, so that a server's frame can be written with it: the receipt, and the
-- action's id or client-id.
pub record AreTexts (step : Step) : Type 0 where
  pub receipt : IfSome step.receipt IsText
  pub action : IsTextIn step.action

-- whether there is a SEND among them
abbrev pub has_sends : List SentMessage → Bool
has_sends [] = false
has_sends (send ∷ sends) = true

-- Whether a frame of this command takes memory: a SUBSCRIBE, a BEGIN and a SEND do, and a COMMIT whose
-- transaction has SENDs. A CONNECT never does, nor does a COMMIT of no SENDs.
abbrev pub takes_memory : Command → Held → RawFrame → Bool
takes_memory commands.Subscribe s f = true
takes_memory commands.Begin s f = true
takes_memory commands.Send s f = true
takes_memory commands.Commit s f = has_sends (sends_in (transaction_of f) s.transactions)
takes_memory _ s f = false

-- The frame is refused by its first refusal; or there is none, and it takes memory and there was none.
abbrev pub Refuses : Held → RawFrame → SessionFault → Type 0
Refuses s f fault =
    (session_fault s f ≡ Some fault) ⊎ ((session_fault s f ≡ None) × (fault ≡ NoMemory)
    × (takes_memory f.command s f ≡ true))
