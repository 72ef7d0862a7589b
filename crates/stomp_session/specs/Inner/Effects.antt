-- What an accepted frame changes in what a session holds. Proofs go by it; no public contract speaks of it.
use Rattle.std.specs.Prelude.{◌≡◌, ◌<◌, ℕ, Bool, List, [], ◌∷◌, ◌++◌, codes, length, true, false, not, ◌&&◌, nat_lt, Option, Some, None, IsSome, IfSome, Result, Ok, Err, if◌then◌else◌}
use Rattle.std.specs.List.{position_or_len}
use Rattle.std.specs.Option.{option_map, option_map_or}
use Rattle.std.specs.Str.{bytes_eq}
use Rattle.stomp_frame.specs.declared.command.Command.{Command}
use Rattle.stomp_frame.specs.declared.command.Command.TheVariants as commands
use Rattle.stomp_frame.specs.declared.client_frame.ClientFrame.{ClientFrame}
use Rattle.stomp_frame.specs.declared.client_frame.ClientFrame.TheVariants as client_frames
use Rattle.stomp_frame.specs.declared.raw_frame.RawFrame.{RawFrame}
use Rattle.stomp_frame.specs.Headers.{first_of}
use Rattle.stomp_frame.specs.Receipts.{receipt_of}
use Rattle.mcast_txn.specs.declared.id.Topic.{Topic}
use Rattle.mcast_txn.specs.declared.draft.sent_message.SentMessage.{SentMessage}
use Rattle.stomp_session.specs.declared.phase.Phase.{Phase}
use Rattle.stomp_session.specs.declared.phase.Phase.TheVariants.{Connected, Closed}
use Rattle.stomp_session.specs.declared.action.Action.{Action}
use Rattle.stomp_session.specs.declared.action.Action.TheVariants as actions
use Rattle.stomp_session.specs.declared.action.Step.{Step}
use Rattle.stomp_session.specs.declared.fault.SessionFault.{SessionFault}
use Rattle.stomp_session.specs.declared.fault.SessionFault.TheVariants as faults
use Rattle.stomp_session.specs.declared.judged.Judged.{Judged}
use Rattle.stomp_session.specs.declared.judged.Judged.TheVariants as judged
use Rattle.stomp_session.specs.declared.route.Route.{Route}
use Rattle.stomp_session.specs.Frames.{client_of, topic_of, id_of, transaction_of, send_of, wants_parts}
use Rattle.stomp_session.specs.Open.{Held, SessionState, state_of}
use Rattle.mcast_txn.specs.Checks.{first_refusal}
use Rattle.stomp_session.specs.Refusals.{has_new_destination, is_closed, open_refusals}
use Rattle.stomp_session.specs.Names.{is_known, is_name, max_topics}
use Rattle.stomp_session.specs.Answers.{action_by, takes_memory}

-- those that are left without the one of this id
abbrev pub entries_without : {X : Type 0} → List ℕ → List (List ℕ × X) → List (List ℕ × X)
entries_without id [] = []
entries_without id (o ∷ them) = if bytes_eq id o.0 then them else o ∷ entries_without id them

-- with one more SEND in this transaction
abbrev pub with_send : List ℕ → SentMessage → List (List ℕ × List SentMessage)
    → List (List ℕ × List SentMessage)
with_send x send [] = []
with_send x send (o ∷ them) =
    if bytes_eq x o.0 then (o.0, o.1 ++ send ∷ []) ∷ them else o ∷ with_send x send them

-- what a frame is judged by in such a session, where these are the topics' names
abbrev pub held_with : List (List ℕ) → SessionState → Held
held_with names s = record {
  names = names;
  phase = s.phase;
  subscriptions = s.subscriptions;
  parts = s.parts;
  transactions = s.transactions;
}

-- in this phase
abbrev pub with_phase : Phase → Held → Held
with_phase phase s = record s { phase = phase }

-- with these subscriptions open, and whether each asked for parts
abbrev pub with_subscriptions : List (List ℕ × Topic) → List (List ℕ × Bool) → Held → Held
with_subscriptions them parts s = record s { subscriptions = them; parts = parts }

-- with these transactions open
abbrev pub with_transactions : List (List ℕ × List SentMessage) → Held → Held
with_transactions them s = record s { transactions = them }

-- what is held after a frame, by its command; the names aside
abbrev pub effect : Command → Held → RawFrame → Held
effect commands.Connect s f = with_phase Connected s
effect commands.Stomp s f = with_phase Connected s
effect commands.Subscribe s f =
    with_subscriptions (s.subscriptions ++ (id_of f, topic_of s.names f) ∷ [])
    (s.parts ++ (id_of f, wants_parts f) ∷ []) s
effect commands.Unsubscribe s f =
    with_subscriptions (entries_without (id_of f) s.subscriptions) (entries_without (id_of f) s.parts) s
effect commands.Begin s f = with_transactions (s.transactions ++ (transaction_of f, []) ∷ []) s
effect commands.Send s f =
    option_map_or (λ x. with_transactions (with_send x (send_of s.names f) s.transactions) s)
    (first_of (codes "transaction") f.headers) s
effect commands.Commit s f = with_transactions (entries_without (transaction_of f) s.transactions) s
effect commands.Abort s f = with_transactions (entries_without (transaction_of f) s.transactions) s
effect commands.Disconnect s f =
    record s { phase = Closed; subscriptions = []; parts = []; transactions = [] }
effect _ s f = s

-- why a destination of this name is refused among these names
abbrev pub destination_fault : List ℕ → List (List ℕ) → Option SessionFault
destination_fault name names =
    first_refusal
    ((not (is_known name names) && not (is_name name), faults.BadDestination)
    ∷ (not (is_known name names) && not (nat_lt (length names) max_topics), faults.TooManyTopics)
    ∷ [])

-- why the frame is refused, by its command
abbrev pub refusal_by : Command → Held → RawFrame → Option SessionFault
refusal_by command s f = first_refusal ((is_closed s.phase, faults.Closed) ∷ open_refusals command s f)

-- the refusal that a fault reports; none where there was no memory for a frame that takes some
abbrev pub reported_fault : Command → Held → RawFrame → SessionFault → Option SessionFault
reported_fault command s f faults.NoMemory = if takes_memory command s f then None else Some faults.NoMemory
reported_fault command s f fault = Some fault

-- the frame is refused with this fault
abbrev pub RefusesAs : Command → Held → RawFrame → SessionFault → Type 0
RefusesAs command s f fault = refusal_by command s f ≡ reported_fault command s f fault

-- the frame is accepted with this step, and this is what it changes
pub record AcceptsAs (command : Command) (s : Held) (f : RawFrame) (step : Step) (new : SessionState)
    : Type 0 where
  pub accepted : refusal_by command s f ≡ None
  pub action : step.action ≡ action_by command s f
  pub receipt : step.receipt ≡ receipt_of f
  pub held : new ≡ state_of (effect command s f)

-- what the connection has to do for a frame that was judged so
abbrev pub action_of : Judged → RawFrame → Action
action_of judged.Connected f = actions.Connected (client_of f)
action_of judged.Nothing f = actions.Nothing
action_of (judged.Subscribe topic) f = actions.Subscribe (id_of f) topic
action_of judged.Unsubscribe f = actions.Unsubscribe (id_of f)
action_of (judged.Commit txn) f = actions.Commit txn
action_of judged.Disconnect f = actions.Disconnect

-- the frame has the id that its action names
abbrev pub HasItsId : Judged → RawFrame → Type 0
HasItsId (judged.Subscribe topic) f = IsSome (first_of (codes "id") f.headers)
HasItsId judged.Unsubscribe f = IsSome (first_of (codes "id") f.headers)
HasItsId _ f = Unit {0}

-- the frame is accepted and judged so, and this is what it changes
pub record JudgesAs (command : Command) (s : Held) (f : RawFrame) (judged : Judged) (new : SessionState)
    : Type 0 where
  pub accepted : refusal_by command s f ≡ None
  pub action : action_of judged f ≡ action_by command s f
  pub id : HasItsId judged f
  pub held : new ≡ state_of (effect command s f)

-- what a frame of this command is judged, or why it is refused
abbrev pub Handles : Command → Held → RawFrame → Result Judged SessionFault → SessionState → Type 0
Handles command s f (Ok judged) new = JudgesAs command s f judged new
Handles command s f (Err fault) new = RefusesAs command s f fault

-- whether it is a SEND
abbrev pub is_send_frame : ClientFrame → Bool
is_send_frame (client_frames.Send frame) = true
is_send_frame _ = false

-- the index of the first of this id; their number where there is none
abbrev pub index_of_id : {X : Type 0} → List ℕ → List (List ℕ × X) → ℕ
index_of_id id them = position_or_len (λ o. bytes_eq id o.0) them

-- an accepted SEND goes there: to its topic, which may be new, and into its transaction, which is open
pub record IsRouteOf (s : Held) (f : RawFrame) (route : Route) : Type 0 where
  pub topic : route.topic ≡ topic_of s.names f
  pub is_new : route.is_new ≡ has_new_destination s f
  pub few : route.is_new ≡ true → length s.names < max_topics
  pub transaction : route.transaction
      ≡ option_map (λ x. index_of_id x s.transactions) (first_of (codes "transaction") f.headers)
  pub within : IfSome route.transaction (λ index. index < length s.transactions)
