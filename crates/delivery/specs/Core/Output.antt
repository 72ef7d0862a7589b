-- The octets that are written to a connection, from a run's steps alone.
use Rattle.std.specs.Prelude.{ℕ, ◌==◌, Bool, true, false, not, ◌&&◌, List, [], ◌∷◌, ◌++◌, codes, length, map, filter, Option, Some, None, if◌then◌else◌}
use Rattle.std.specs.List.{list_any, flat_map, last_or, enumerate_from}
use Rattle.std.specs.Option.{option_map_or, option_and_then}
use Rattle.mcast_txn.specs.declared.id.TxnId.{TxnId}
use Rattle.mcast_txn.specs.Ids.{same_id}
use Rattle.mcast_txn.specs.Span.{Item}
use Rattle.mcast_group.specs.Faults.{propose_title}
use Rattle.stomp_frame.specs.declared.case_fault.CaseFault.{CaseFault}
use Rattle.stomp_frame.specs.declared.case_fault.RequiredHeader.{RequiredHeader}
use Rattle.stomp_frame.specs.declared.raw_frame.RawFrame.{RawFrame}
use Rattle.stomp_frame.specs.Cases.{is_connect}
use Rattle.stomp_frame.specs.Headers.{first_of}
use Rattle.stomp_frame.specs.Receipts.{receipt_of}
use Rattle.stomp_frame.specs.ServerFrames.{message_frame, part_message_frame, message_id, error_frame, connected_frame, receipt_frame}
use Rattle.stomp_frame.specs.Writing.{spelling_of}
use Rattle.stomp_session.specs.declared.fault.SessionFault.{SessionFault}
use Rattle.stomp_session.specs.Frames.{id_of, is_disconnect, wants_parts}
use Rattle.stomp_session.specs.Versions.{has_version}
use Rattle.delivery.specs.declared.event.Event.{Event}
use Rattle.delivery.specs.declared.outcome.Outcome.{Outcome}
use Rattle.delivery.specs.declared.connection_fault.ConnectionFault.{ConnectionFault}
use Rattle.delivery.specs.Faults.{connection_title}
use Rattle.delivery.specs.Machine.Moves.{Answer}
use Rattle.delivery.specs.Theorem.Settled.{closes}
use Rattle.delivery.specs.Core.Steps.{CoreStep, Reading, frame_in, accepted_of, begun_by}
use Rattle.delivery.specs.Core.Account.{last_of, beginning_of, next_item, account_of}

-- connection c was closed: nothing is written to it any more but the RECEIPT of its DISCONNECT
abbrev pub has_closed : ℕ → List Answer → Bool
has_closed c account = list_any (closes c) account

-- the RECEIPT that a frame asks for, if it does
abbrev pub receipts_of : RawFrame → List RawFrame
receipts_of f = option_map_or (λ id. receipt_frame id ∷ []) (receipt_of f) []

-- the receipt that the frame asks for, if there is a frame and it does
abbrev pub receipt_asked : Option RawFrame → Option (List ℕ)
receipt_asked f = option_and_then receipt_of f

-- the frame that made the connection's last transaction: the last accepted one, since none is read before it
-- ends
abbrev pub commit_frame : List RawFrame → Option RawFrame
commit_frame accepted = last_or None accepted

-- the client of this CONNECT offers our version
abbrev pub offers_ours : RawFrame → Bool
offers_ours f =
    option_map_or (has_version (codes "1.2")) (first_of (codes "accept-version") f.headers) false

-- The version is said where the client's have none in common with ours (STOMP 1.2, "Protocol Negotiation"):
-- also to one that sends no accept-version, which is of 1.0. So of CONNECTs without a host (own), which each
-- client has sent since 1.1, it is said to `accept-version:1.1` and not to `1.1,1.2`.
abbrev pub says_version : Option RawFrame → ConnectionFault → Bool
says_version read (ConnectionFault.Session SessionFault.NoVersion) = true
says_version read (ConnectionFault.Frame (CaseFault.Missing RequiredHeader.AcceptVersion)) = true
says_version read (ConnectionFault.Frame (CaseFault.Missing RequiredHeader.Host)) =
    option_map_or (λ f. not (offers_ours f)) read false
says_version read fault = false

-- What a Next is answered. The RECEIPT of a frame that makes a transaction is written at Decide, that of a
-- DISCONNECT as its connection is gone.
abbrev pub next_replies : Option RawFrame → Outcome → List RawFrame
next_replies read (Outcome.Faulted fault cut) =
    error_frame (connection_title fault) (receipt_asked read) (says_version read fault) ∷ []
next_replies (Some f) Outcome.Done =
    if is_connect f.command then connected_frame ∷ [] else receipts_of f
next_replies (Some f) (Outcome.Subscribed s from) = receipts_of f
next_replies (Some f) (Outcome.Unsubscribed s to) = receipts_of f
next_replies read o = []

-- the SUBSCRIBE that began subscription s, if one did
abbrev pub subscribe_frame : ℕ → List CoreStep → Option RawFrame
subscribe_frame s [] = None
subscribe_frame s (step ∷ older) =
    if option_map_or (λ r. r == s) (begun_by step.outcome) false then frame_in step.reading
    else subscribe_frame s older

-- the text of a subscription's id, as its SUBSCRIBE has it
abbrev pub sub_id_text : ℕ → List CoreStep → List ℕ
sub_id_text s steps = option_map_or id_of (subscribe_frame s steps) []

-- a subscription's SUBSCRIBE asked for parts
abbrev pub sub_parts : ℕ → List CoreStep → Bool
sub_parts s steps = option_map_or wants_parts (subscribe_frame s steps) false

-- the MESSAGEs of an item, one for each SEND of its part
abbrev pub item_messages : List ℕ → Item → List RawFrame
item_messages id item =
    map (λ p. message_frame id (message_id item.stamp.n item.stamp.topic.0 p.index) p.headers p.body)
    item.sends

-- The same, each with its place, from 1, among those of its transaction at its topic, and with their number
-- (own). So of SENDs to A, B and A the first has `part:1/2` at A, the last `part:2/2`, and that to B `1/1`.
abbrev pub part_messages : List ℕ → Item → List RawFrame
part_messages id item =
    map
    (λ at. part_message_frame at.0 (length item.sends) id
    (message_id item.stamp.n item.stamp.topic.0 at.1.index) at.1.headers at.1.body)
    (enumerate_from 1 item.sends)

-- those of a subscription with this id, which asked for parts or didn't
abbrev pub messages_for : Bool → List ℕ → Item → List RawFrame
messages_for parts id item = if parts then part_messages id item else item_messages id item

-- what a Take is answered
abbrev pub take_replies : ℕ → List CoreStep → List Answer → Outcome → List RawFrame
take_replies s older account (Outcome.Handed count) =
    messages_for (sub_parts s older) (sub_id_text s older) (next_item s account)
take_replies s older account (Outcome.Faulted fault cut) =
    error_frame (connection_title fault) None false ∷ []
take_replies s older account o = []

-- why the transaction was refused, by the last of its proposals that was
abbrev pub failed_title : TxnId → List Answer → List ℕ
failed_title id [] = []
failed_title id (Answer.Failed i why ∷ before) =
    if same_id i id then propose_title why else failed_title id before
failed_title id (o ∷ before) = failed_title id before

-- the outcome's reply was left out
abbrev pub is_cut : Outcome → Bool
is_cut (Outcome.Decided stamp cut) = cut
is_cut (Outcome.Withdrawn cut) = cut
is_cut (Outcome.Faulted fault cut) = cut
is_cut (Outcome.Gone cut) = cut
is_cut o = false

-- What a step writes to connection c. A RECEIPT of a decided transaction and the ERROR of a withdrawn one are
-- written where the connection wasn't closed before.
abbrev pub replies_to : ℕ → List CoreStep → List Answer → Event → Reading → Outcome → List RawFrame
replies_to c older account (Event.Next d) reading o =
    if d == c then next_replies (frame_in reading) o else []
replies_to c older account (Event.Take s) reading o =
    if (beginning_of s account).connection == c then take_replies s older account o else []
replies_to c older account (Event.Decide d) reading (Outcome.Decided stamp cut) =
    if d == c && not (has_closed c account)
    then option_map_or receipts_of (commit_frame (accepted_of c older)) [] else []
replies_to c older account (Event.Withdraw d) reading (Outcome.Withdrawn cut) =
    if d == c && not (has_closed c account)
    then
    error_frame (failed_title (last_of c older account) account)
    (receipt_asked (commit_frame (accepted_of c older))) false
    ∷ []
    else []
replies_to c older account (Event.Leave d) reading (Outcome.Gone cut) =
    if d == c then flat_map receipts_of (filter (λ f. is_disconnect f.command) (accepted_of c older))
    else []
replies_to c older account e reading o = []

-- The octets out of connection c: each reply that wasn't left out, as it is spelled.
abbrev pub text_out : List (List ℕ) → ℕ → List CoreStep → List ℕ
text_out names c [] = []
text_out names c (step ∷ older) =
    let account = account_of names older in
    text_out names c older
    ++ (if is_cut step.outcome then []
    else flat_map spelling_of (replies_to c older account step.event step.reading step.outcome))
