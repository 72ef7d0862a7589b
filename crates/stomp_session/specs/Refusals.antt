-- What a session refuses, and in which order (STOMP 1.2, "Client Frames"; the limits and the order are this
-- server's own).
use Rattle.std.specs.Prelude.{ℕ, Bool, true, false, not, ◌&&◌, nat_lt, List, [], ◌∷◌, codes, length, Option}
use Rattle.std.specs.List.{list_any}
use Rattle.std.specs.Map.{lookup}
use Rattle.std.specs.Option.{option_map_or, unwrap_or}
use Rattle.std.specs.Str.{bytes_eq}
use Rattle.stomp_frame.specs.declared.command.Command.{Command}
use Rattle.stomp_frame.specs.declared.command.Command.TheVariants as commands
use Rattle.stomp_frame.specs.declared.raw_frame.RawFrame.{RawFrame}
use Rattle.stomp_frame.specs.Headers.{first_of}
use Rattle.mcast_txn.specs.declared.draft.sent_message.SentMessage.{SentMessage}
use Rattle.mcast_txn.specs.Draft.{max_sends}
use Rattle.stomp_session.specs.declared.phase.Phase.{Phase}
use Rattle.stomp_session.specs.declared.phase.Phase.TheVariants as phases
use Rattle.stomp_session.specs.declared.fault.SessionFault.{SessionFault}
use Rattle.stomp_session.specs.declared.fault.SessionFault.TheVariants.{NotConnected, AlreadyConnected, NoVersion, SubIdInUse, NoSuchSub, TxnInUse, NoSuchTxn, AckMode, TooManySubs, TooManyTxns, TooManySends, Closed, TooManyTopics, BadDestination}
use Rattle.mcast_txn.specs.Checks.{first_refusal}
use Rattle.stomp_session.specs.Names.{is_known, is_name, max_topics}
use Rattle.stomp_session.specs.Frames.{field, id_of, transaction_of}
use Rattle.stomp_session.specs.Open.{Held}
use Rattle.stomp_session.specs.Versions.{has_version}

-- a condition, and the fault of a frame that meets it
abbrev pub Condition : Type 0
Condition = Bool × SessionFault

-- the most subscriptions, and the most transactions, that may be open in a connection
abbrev pub open_limit : ℕ
open_limit = 64

-- whether the session is closed
abbrev pub is_closed : Phase → Bool
is_closed phases.Closed = true
is_closed _ = false

-- whether no CONNECT came yet
abbrev pub is_new : Phase → Bool
is_new phases.New = true
is_new _ = false

-- whether this id is among the open ones
abbrev pub is_open : {X : Type 0} → List ℕ → List (List ℕ × X) → Bool
is_open id them = list_any (λ o. bytes_eq id o.0) them

-- the SENDs of this transaction; none where it isn't open
abbrev pub sends_in : List ℕ → List (List ℕ × List SentMessage) → List SentMessage
sends_in x them = unwrap_or (lookup (bytes_eq x) them) []

-- whether no more subscriptions, or no more transactions, may be open
abbrev pub is_full : {X : Type 0} → List X → Bool
is_full them = not (nat_lt (length them) open_limit)

-- whether a transaction takes no more SENDs
abbrev pub is_full_of_sends : List SentMessage → Bool
is_full_of_sends sends = not (nat_lt (length sends) max_sends)

-- an ack of another mode than auto, which is the one where none is named (STOMP 1.2, "SUBSCRIBE ack Header")
abbrev pub has_other_ack : RawFrame → Bool
has_other_ack f =
    option_map_or (λ ack. not (bytes_eq ack (codes "auto"))) (first_of (codes "ack") f.headers) false

-- a destination that is no topic's name
abbrev pub has_new_destination : Held → RawFrame → Bool
has_new_destination s f = not (is_known (field (codes "destination") f) s.names)

-- one that no topic is made for; so `A B`, where that is no topic's name
abbrev pub has_bad_destination : Held → RawFrame → Bool
has_bad_destination s f = has_new_destination s f && not (is_name (field (codes "destination") f))

-- one that would be a topic too many
abbrev pub has_one_topic_too_many : Held → RawFrame → Bool
has_one_topic_too_many s f = has_new_destination s f && not (nat_lt (length s.names) max_topics)

-- a SEND in a transaction that isn't open
abbrev pub is_in_no_transaction : Held → RawFrame → Bool
is_in_no_transaction s f =
    option_map_or (λ x. not (is_open x s.transactions)) (first_of (codes "transaction") f.headers) false

-- a SEND in a transaction that is full
abbrev pub is_in_full_transaction : Held → RawFrame → Bool
is_in_full_transaction s f =
    option_map_or (λ x. is_full_of_sends (sends_in x s.transactions))
    (first_of (codes "transaction") f.headers) false

-- what each command's frame is refused for, in order, after what every frame is
abbrev pub refusals_by : Command → Held → RawFrame → List Condition
refusals_by commands.Subscribe s f =
    (has_other_ack f, AckMode)
    ∷ (has_bad_destination s f, BadDestination)
    ∷ (has_one_topic_too_many s f, TooManyTopics)
    ∷ (is_open (id_of f) s.subscriptions, SubIdInUse)
    ∷ (is_full s.subscriptions, TooManySubs)
    ∷ []
refusals_by commands.Unsubscribe s f = (not (is_open (id_of f) s.subscriptions), NoSuchSub) ∷ []
refusals_by commands.Begin s f =
    (is_open (transaction_of f) s.transactions, TxnInUse)
    ∷ (is_full s.transactions, TooManyTxns)
    ∷ []
refusals_by commands.Send s f =
    (has_bad_destination s f, BadDestination)
    ∷ (has_one_topic_too_many s f, TooManyTopics)
    ∷ (is_in_no_transaction s f, NoSuchTxn)
    ∷ (is_in_full_transaction s f, TooManySends)
    ∷ []
refusals_by commands.Commit s f = (not (is_open (transaction_of f) s.transactions), NoSuchTxn) ∷ []
refusals_by commands.Abort s f = (not (is_open (transaction_of f) s.transactions), NoSuchTxn) ∷ []
refusals_by _ s f = []

-- a CONNECT needs a session that isn't connected yet, and this version
abbrev pub connect_refusals : Held → RawFrame → List Condition
connect_refusals s f =
    (not (is_new s.phase), AlreadyConnected)
    ∷ (not (has_version (codes "1.2") (field (codes "accept-version") f)), NoVersion)
    ∷ []

-- any other frame needs a session that is connected
abbrev pub open_refusals : Command → Held → RawFrame → List Condition
open_refusals commands.Connect s f = connect_refusals s f
open_refusals commands.Stomp s f = connect_refusals s f
open_refusals command s f = (is_new s.phase, NotConnected) ∷ refusals_by command s f

-- and each needs one that isn't closed: all that a frame is refused for, in order
abbrev pub refusals : Held → RawFrame → List Condition
refusals s f = (is_closed s.phase, Closed) ∷ open_refusals f.command s f

-- why the frame is refused, or None where it's accepted
abbrev pub session_fault : Held → RawFrame → Option SessionFault
session_fault s f = first_refusal (refusals s f)
