-- The frames that a server sends (STOMP 1.2, "Server Frames").
use Rattle.std.specs.Prelude.{ℕ, ◌<◌, ◌^◌, Bool, List, [], ◌∷◌, ◌++◌, length, codes, decimal, Option, Some, None, MatchOption, if◌then◌else◌}
use Rattle.std.specs.List.{AllByRecursion, list_any}
use Rattle.std.specs.Option.{option_map, option_map_or}
use Rattle.std.specs.Str.{bytes_eq}
use Rattle.stomp_frame.specs.declared.command.Command.TheVariants as commands
use Rattle.stomp_frame.specs.declared.raw_frame.RawFrame.{RawFrame}
use Rattle.stomp_frame.specs.declared.server.server_frame.ServerFrame.{ServerFrame}
use Rattle.stomp_frame.specs.declared.server.server_frame.ServerFrame.TheVariants.{Connected, Message, Receipt, Error}
use Rattle.stomp_frame.specs.declared.server.part_message.PartMessage.{PartMessage}
use Rattle.stomp_frame.specs.Headers.{Header, IsPair, IsText, first_of}
use Rattle.stomp_frame.specs.Writing.{IsWritable}

-- The first entry of each header whose name isn't among these.
abbrev pub first_entries : List (List ℕ) → List Header → List Header
first_entries names [] = []
first_entries names (h ∷ hs) =
    if list_any (λ name. bytes_eq h.0 name) names then first_entries names hs
    else h ∷ first_entries (h.0 ∷ names) hs

-- The headers of a SEND that its MESSAGE doesn't pass on, or has of its own (own).
abbrev pub withheld : List (List ℕ)
withheld =
    codes "destination" ∷ codes "transaction" ∷ codes "receipt" ∷ codes "content-length"
    ∷ codes "subscription" ∷ codes "message-id" ∷ codes "ack" ∷ []

-- A message's id: the number of its stamp, the topic of its stamp, and its index in its transaction (own). So
-- the second SEND of a transaction with the stamp (7, 3) has `7.3.1`.
abbrev pub message_id : ℕ → ℕ → ℕ → List ℕ
message_id n topic index = decimal n ++ codes "." ++ decimal topic ++ codes "." ++ decimal index

-- A header that is left out where there is no value.
abbrev pub optional_header : List ℕ → Option (List ℕ) → List Header
optional_header name value = option_map_or (λ v. (name, v) ∷ []) value []

-- These headers behind those that a MESSAGE has of its own, where its SEND has such headers and a body of
-- this size (STOMP 1.2, "MESSAGE"). That destination is left out where the SEND has none is (own).
abbrev pub with_own_headers : List ℕ → List ℕ → List Header → ℕ → List Header → List Header
with_own_headers subscription id sent size others =
    (codes "subscription", subscription) ∷ (codes "message-id", id)
    ∷ (optional_header (codes "destination") (first_of (codes "destination") sent)
    ++ (codes "content-length", decimal size) ∷ others)

-- The headers of a MESSAGE, of a SEND with these headers and a body of this size (STOMP 1.2, "MESSAGE"):
-- its own, and those of the SEND but for those that are withheld.
abbrev pub message_headers : List ℕ → List ℕ → List Header → ℕ → List Header
message_headers subscription id sent size =
    with_own_headers subscription id sent size (first_entries withheld sent)

-- A SEND as a subscriber gets it (STOMP 1.2, "MESSAGE"): those headers and its body.
abbrev pub message_frame : List ℕ → List ℕ → List Header → List ℕ → RawFrame
message_frame subscription id sent body = record {
  command = commands.Message;
  headers = message_headers subscription id sent (length body);
  body = body;
}

-- The value of a header `part`: which of its transaction's MESSAGEs at its topic a MESSAGE is, from 1, and
-- how many these are (own). So the second of three has `2/3`.
abbrev pub part_value : ℕ → ℕ → List ℕ
part_value at count = decimal at ++ codes "/" ++ decimal count

-- The headers of a MESSAGE that says which it is (own): `part` is first behind those that each MESSAGE has,
-- and the SEND's own `part` is withheld, too.
abbrev pub part_headers : ℕ → ℕ → List ℕ → List ℕ → List Header → ℕ → List Header
part_headers at count subscription id sent size =
    with_own_headers subscription id sent size
    ((codes "part", part_value at count) ∷ first_entries (codes "part" ∷ withheld) sent)

-- A SEND as a subscriber gets it that asked for parts (own): those headers and its body. Example:
-- `second_of_three`.
abbrev pub part_message_frame : ℕ → ℕ → List ℕ → List ℕ → List Header → List ℕ → RawFrame
part_message_frame at count subscription id sent body = record {
  command = commands.Message;
  headers = part_headers at count subscription id sent (length body);
  body = body;
}

-- The headers of an ERROR (STOMP 1.2, "ERROR"): its message, the receipt that the faulty frame asked for,
-- and, where the client's version isn't supported, the version that is (STOMP 1.2, "Protocol Negotiation").
abbrev pub error_headers : List ℕ → Option (List ℕ) → Bool → List Header
error_headers message receipt version =
    (codes "message", message)
    ∷ (optional_header (codes "receipt-id") receipt
    ++ (optional_header (codes "version") (if version then Some (codes "1.2") else None)
    ++ (codes "content-length", codes "0") ∷ []))

-- An ERROR, which has no body.
abbrev pub error_frame : List ℕ → Option (List ℕ) → Bool → RawFrame
error_frame message receipt version = record {
  command = commands.Error;
  headers = error_headers message receipt version;
  body = [];
}

-- The answer to a CONNECT (STOMP 1.2, "CONNECTED Frame"): this version, and no heart-beats ("Heart-beating").
abbrev pub connected_headers : List Header
connected_headers = (codes "version", codes "1.2") ∷ (codes "heart-beat", codes "0,0") ∷ []

-- A CONNECTED, which has no body.
abbrev pub connected_frame : RawFrame
connected_frame = record { command = commands.Connected; headers = connected_headers; body = [] }

-- What reports to a client that its frame with this receipt has had its effect (STOMP 1.2, "RECEIPT").
abbrev pub receipt_frame : List ℕ → RawFrame
receipt_frame id = record { command = commands.Receipt; headers = (codes "receipt-id", id) ∷ []; body = [] }

-- The raw frame of a server's frame.
abbrev pub raw_of_server : ServerFrame → RawFrame
raw_of_server Connected = connected_frame
raw_of_server (Message subscription n topic index headers body) =
    message_frame subscription.now (message_id n topic index) headers.now body.now
raw_of_server (Receipt id) = receipt_frame id.now
raw_of_server (Error message receipt version) =
    error_frame message.now (option_map (λ r. r.now) receipt) version

-- The raw frame of a MESSAGE that says which it is.
abbrev pub part_message_of : PartMessage → RawFrame
part_message_of m =
    part_message_frame m.at m.count m.subscription.now (message_id m.n m.topic m.index)
    m.headers.now m.body.now

-- A MESSAGE that says which it is can be written, so that a reader reads it as itself, where its subscription
-- is text, its SEND's headers may be headers, and its numbers are of 64 bits.
abbrev pub PartsAreWritable : Type 0
PartsAreWritable =
    (at count n topic index : ℕ) (subscription : List ℕ) (sent : List Header) (body : List ℕ)
    → at < 2 ^ 64 → count < 2 ^ 64 → n < 2 ^ 64 → topic < 2 ^ 64 → index < 2 ^ 64 → length body < 2 ^ 64
    → IsText subscription → AllByRecursion IsPair sent
    → IsWritable (part_message_frame at count subscription (message_id n topic index) sent body)

-- The texts that it borrows are UTF-8 without NULL.
abbrev pub IsRenderable : ServerFrame → Type 0
IsRenderable Connected = Unit {0}
IsRenderable (Message subscription n topic index headers body) = IsText subscription.now
IsRenderable (Receipt id) = IsText id.now
IsRenderable (Error message receipt version) =
    IsText message.now × MatchOption receipt (Unit {0}) (λ r. IsText r.now)
