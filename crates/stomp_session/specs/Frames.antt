-- What a client's frame names (STOMP 1.2, "Client Frames").
use Rattle.std.specs.Prelude.{ℕ, Bool, true, false, ◌||◌, ◌&&◌, List, [], codes, Option, if◌then◌else◌}
use Rattle.std.specs.Option.{option_map_or}
use Rattle.std.specs.Str.{bytes_eq}
use Rattle.stomp_frame.specs.declared.command.Command.{Command}
use Rattle.stomp_frame.specs.declared.command.Command.TheVariants as commands
use Rattle.stomp_frame.specs.declared.raw_frame.RawFrame.{RawFrame}
use Rattle.stomp_frame.specs.Headers.{first_of}
use Rattle.mcast_txn.specs.declared.id.Topic.{Topic}
use Rattle.mcast_txn.specs.declared.draft.sent_message.SentMessage.{SentMessage}
use Rattle.stomp_session.specs.Names.{index_of, with_name}

-- the value of a header that the case table requires of the frame
abbrev pub field : List ℕ → RawFrame → List ℕ
field name f = option_map_or (λ value. value) (first_of name f.headers) []

-- the topic of a SEND's or a SUBSCRIBE's destination
abbrev pub topic_of : List (List ℕ) → RawFrame → Topic
topic_of names f = record { 0 = index_of (field (codes "destination") f) names }

-- whether it names a topic as its destination: a SEND or a SUBSCRIBE does
abbrev pub has_destination : Command → Bool
has_destination commands.Send = true
has_destination commands.Subscribe = true
has_destination _ = false

-- The names, with the frame's destination after them where it has one that isn't there yet. So A and a SEND
-- to B are A and B, A and a SEND to A are A, and so are A and a COMMIT.
abbrev pub with_destination : RawFrame → List (List ℕ) → List (List ℕ)
with_destination f names =
    if has_destination f.command then with_name (field (codes "destination") f) names else names

-- the client-id of a CONNECT or a STOMP, if it has one (own): the first one, where it has several
abbrev pub client_of : RawFrame → Option (List ℕ)
client_of f = first_of (codes "client-id") f.headers

-- a SUBSCRIBE's or an UNSUBSCRIBE's subscription
abbrev pub id_of : RawFrame → List ℕ
id_of f = field (codes "id") f

-- Whether a SUBSCRIBE wants each MESSAGE to say which of its transaction's MESSAGEs at its topic it is (own):
-- its first header `part` is `yes`. So `part:yes` before `part:no` wants it, and `part:YES` doesn't.
abbrev pub wants_parts : RawFrame → Bool
wants_parts f =
    option_map_or (λ part. bytes_eq part (codes "yes")) (first_of (codes "part") f.headers) false

-- a BEGIN's, COMMIT's or ABORT's transaction
abbrev pub transaction_of : RawFrame → List ℕ
transaction_of f = field (codes "transaction") f

-- whether it's a SUBSCRIBE
abbrev pub is_subscribe : Command → Bool
is_subscribe commands.Subscribe = true
is_subscribe _ = false

-- whether it's an UNSUBSCRIBE
abbrev pub is_unsubscribe : Command → Bool
is_unsubscribe commands.Unsubscribe = true
is_unsubscribe _ = false

-- whether it's a SEND
abbrev pub is_send : Command → Bool
is_send commands.Send = true
is_send _ = false

-- whether it's a BEGIN
abbrev pub is_begin : Command → Bool
is_begin commands.Begin = true
is_begin _ = false

-- whether it's a COMMIT or an ABORT
abbrev pub is_end : Command → Bool
is_end commands.Commit = true
is_end commands.Abort = true
is_end _ = false

-- whether it's a DISCONNECT
abbrev pub is_disconnect : Command → Bool
is_disconnect commands.Disconnect = true
is_disconnect _ = false

-- a SUBSCRIBE or an UNSUBSCRIBE of this subscription
abbrev pub names_subscription : List ℕ → RawFrame → Bool
names_subscription id f = (is_subscribe f.command || is_unsubscribe f.command) && bytes_eq (id_of f) id

-- a BEGIN, a COMMIT or an ABORT of this transaction
abbrev pub names_transaction : List ℕ → RawFrame → Bool
names_transaction x f = (is_begin f.command || is_end f.command) && bytes_eq (transaction_of f) x

-- a SEND in this transaction
abbrev pub is_send_in : List ℕ → RawFrame → Bool
is_send_in x f =
    is_send f.command && option_map_or (λ y. bytes_eq y x) (first_of (codes "transaction") f.headers) false

-- a SEND as a transaction has it
abbrev pub send_of : List (List ℕ) → RawFrame → SentMessage
send_of names f = record { topic = topic_of names f; headers = f.headers; body = f.body }
