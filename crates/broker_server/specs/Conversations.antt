-- What one connection of the server does.
use Rattle.std.specs.Prelude.{◌≡◌, ◌⊎◌, ℕ, ◌-◌, nat_lt, Bool, true, false, List, [], ◌∷◌, ◌++◌, drop, length, map, Option, Some, None, IsSome, Result, Ok, Err, if◌then◌else◌}
use Rattle.std.specs.List.{flat_map, list_any}
use Rattle.std.specs.Option.{option_map_or}
use Rattle.std.specs.Str.{bytes_eq}
use Rattle.mcast_group.specs.declared.fault.SubFault.{SubFault}
use Rattle.mcast_txn.specs.declared.id.Topic.{Topic}
use Rattle.mcast_txn.specs.declared.draft.sent_message.SentMessage.{SentMessage}
use Rattle.mcast_txn.specs.Transaction.{topics_of}
use Rattle.sender_gate.specs.declared.fault.ClaimFault.{ClaimFault}
use Rattle.sender_gate.specs.Gate.{GateState, begin_fault, flight_of}
use Rattle.broker_locks.specs.declared.fault.CommitFault.{CommitFault}
use Rattle.stomp_frame.specs.declared.raw_frame.RawFrame.{RawFrame}
use Rattle.stomp_frame.specs.Reader.{Unread, unread_of}
use Rattle.stomp_frame.specs.ServerFrames.{connected_frame, receipt_frame}
use Rattle.stomp_session.specs.declared.action.Action.{Action}
use Rattle.stomp_session.specs.declared.action.Action.TheVariants as actions
use Rattle.stomp_session.specs.declared.action.Step.{Step}
use Rattle.stomp_session.specs.Open.{SessionState, StandsFor, after_close, asks_parts}
use Rattle.delivery.specs.Core.Outcomes.{is_any}
use Rattle.delivery.specs.Core.Output.{messages_for}
use Rattle.delivery.specs.Core.Steps.{reader_limits}
use Rattle.broker_server.specs.declared.conversation.conversation_fault.ConversationFault.{ConversationFault}
use Rattle.broker_server.specs.declared.conversation.conversation_fault.ConversationFault.TheVariants as fault
use Rattle.broker_server.specs.declared.conversation.exit.Exit.{Exit}
use Rattle.broker_server.specs.declared.conversation.exit.Exit.TheVariants as exit
use Rattle.broker_server.specs.declared.conversation.held.Held.{Held}
use Rattle.broker_server.specs.declared.conversation.held.Held.TheVariants.{Waits, Owes}
use Rattle.broker_server.specs.declared.conversation.item_rest.ItemRest.{ItemRest}
use Rattle.broker_server.specs.BrokerRows.{BrokerRow, IsGateAfter, SubName, AsksRoom, Claims, GivesBack, GivesRoomBack, Subscribes, Unsubscribes, Commits}
use Rattle.broker_server.specs.ConversationFaults.{tells_version, told_error}
use Rattle.broker_server.specs.Wires.{spelling_with_eol}

-- an open subscription of a connection: the id that its SUBSCRIBE gave it, whether that asked for parts, which
-- one of the broker it is, how many more items are to be taken before it can have lagged, whether the broker
-- said that it has, and what isn't written yet of the item that was taken last
pub record OpenSubState : Type 0 where
  pub id : List ℕ
  pub parts : Bool
  pub sub : SubName
  pub until_lag : ℕ
  pub lagged : Bool
  pub left : List RawFrame

-- The MESSAGEs that aren't written yet of an item, for the subscription of this id, which asked for parts or
-- didn't. So of an item of three of which two are written, the third is.
abbrev pub unwritten : Bool → List ℕ → Option ItemRest → List RawFrame
unwritten parts id None = []
unwritten parts id (Some rest) = drop rest.next (messages_for parts id rest.item)

-- a connection: what came and isn't read yet, its session, the names of the topics that it knows, its
-- sender's gate, its open subscriptions, the accepted COMMIT, or SEND outside a transaction, that waits for
-- room, or whose answer is owed behind an item that is half out, if one is, the octets that wait to be written
-- to it, why it leaves, once it does, whether a reply was left out since there was no memory for it, whether
-- items may be left in its queues since too many octets waited, whether an item is half out, how many items
-- each queue holds, the index of the one that is taken next, and the flags of those that may have something, as
-- far as the broker was asked
pub record ConversationState : Type 0 where
  pub reader : Unread
  pub session : SessionState
  pub names : List (List ℕ)
  pub gate : Option GateState
  pub subs : List OpenSubState
  pub held : Option Held
  pub wire : List ℕ
  pub exit : Option Exit
  pub cut : Bool
  pub more : Bool
  pub half : Bool
  pub capacity : ℕ
  pub next : ℕ
  pub flags : ℕ

-- a connection that has said nothing, of a broker whose queues hold so many items
pub record IsNew (capacity : ℕ) (c : ConversationState) : Type 0 where
  pub reader : c.reader ≡ unread_of reader_limits
  pub session : (names : List (List ℕ)) → StandsFor c.session names []
  pub names : c.names ≡ []
  pub gate : c.gate ≡ None
  pub subs : c.subs ≡ []
  pub held : c.held ≡ None
  pub wire : c.wire ≡ []
  pub exit : c.exit ≡ None
  pub cut : c.cut ≡ false
  pub more : c.more ≡ false
  pub half : c.half ≡ false
  pub capacity_is : c.capacity ≡ capacity
  pub next : c.next ≡ 0
  pub flags : c.flags ≡ 0

-- ---- what is written

-- the frames are written behind what waits, each with its EOL, and nothing else changes
abbrev pub PutsFrames : List RawFrame → ConversationState → ConversationState → Type 0
PutsFrames frames old new = new ≡ record old { wire = old.wire ++ flat_map spelling_with_eol frames }

-- The answer to a frame that was accepted: CONNECTED to a CONNECT, and to others the RECEIPT that they ask
-- for.
abbrev pub replies : Bool → Option (List ℕ) → List RawFrame
replies true receipt = connected_frame ∷ []
replies false receipt = option_map_or (λ id. receipt_frame id ∷ []) receipt []

-- ---- leaving

-- its gate is given back, if it has one
abbrev pub gate_rows : Option GateState → List BrokerRow
gate_rows None = []
gate_rows (Some gate) = GivesBack gate ∷ []

-- What it asks of the broker as it leaves: each subscription is ended, and then its gate is given back. So
-- one with the subscriptions a and b, in this order, ends a, ends b, and gives its gate back.
abbrev pub closing_rows : ConversationState → List BrokerRow
closing_rows c = map (λ o. Unsubscribes o.sub) c.subs ++ gate_rows c.gate

-- whether a transaction waits for room
abbrev pub is_waiting : Option Held → Bool
is_waiting (Some (Waits sends receipt)) = true
is_waiting (Some (Owes done receipt)) = false
is_waiting None = false

-- as it is then: it holds nothing of the broker, its session is closed, no transaction waits any more, and no
-- answer is owed
abbrev pub closed : Exit → ConversationState → ConversationState
closed why c = record c {
  session = after_close c.session;
  gate = None;
  subs = [];
  held = None;
  exit = Some why;
  more = false;
  half = false;
}

-- Out of memory, a reply to a connection that leaves is left out, which it says from then on. So where the
-- RECEIPT of a DISCONNECT is neither written nor said to be cut, this isn't so.
abbrev pub LeavesOut : ConversationState → ConversationState → Type 0
LeavesOut old new = new ≡ record old { cut = true }

-- It leaves by this fault: the ERROR, which says the version or doesn't, is the last that is written, or is
-- left out for want of memory.
abbrev pub EndsSaying
    : Bool → ConversationFault → Option (List ℕ) → ConversationState → ConversationState → Type 0
EndsSaying version why receipt old new =
    PutsFrames (told_error version why receipt ∷ []) (closed (exit.Error why) old) new
    ⊎ LeavesOut (closed (exit.Error why) old) new

-- It leaves by a fault that is none of a frame's.
abbrev pub EndsByError : ConversationFault → Option (List ℕ) → ConversationState → ConversationState → Type 0
EndsByError why receipt old new = EndsSaying (tells_version None why) why receipt old new

-- ---- what a frame asks for

-- how an action went
abbrev pub Done : Type 0
Done = Result (Unit {0}) ConversationFault

-- nothing was asked of the broker, and nothing changed, since there was no memory
abbrev pub LacksMemory : ConversationState → List BrokerRow → Done → ConversationState → Type 0
LacksMemory old asked result new = (asked ≡ []) × (result ≡ Err fault.NoMemory) × (new ≡ old)

-- A CONNECT claims the sender of its client-id, or a new one.
abbrev pub Connects
    : Option (List ℕ) → ConversationState → List BrokerRow → Done → ConversationState → Type 0
Connects client old asked result new =
    ((gate : GateState) × (asked ≡ Claims client (Ok gate) ∷ []) × (result ≡ Ok tt)
    × (new ≡ record old { gate = Some gate }))
    ⊎ ((why : ClaimFault) × (asked ≡ Claims client (Err why) ∷ []) × (result ≡ Err (fault.Claim why))
    × (new ≡ old))

-- a subscription as it begins: as many items as its queue holds are to be taken before it can have lagged
abbrev pub begun_sub : List ℕ → Bool → SubName → ℕ → OpenSubState
begun_sub id parts sub capacity =
    record { id = id; parts = parts; sub = sub; until_lag = capacity; lagged = false; left = [] }

-- A SUBSCRIBE begins a subscription, which is then the last that is open. The session, which accepted the
-- frame, knows whether it asked for parts.
abbrev pub Begins
    : List ℕ → Topic → ConversationState → List BrokerRow → Done → ConversationState → Type 0
Begins id topic old asked result new =
    ((sub : SubName) × (asked ≡ Subscribes topic (Ok sub) ∷ []) × (result ≡ Ok tt)
    × (new ≡ record old { subs = old.subs ++ begun_sub id (asks_parts id old.session) sub old.capacity ∷ [] }))
    ⊎ ((why : SubFault) × (asked ≡ Subscribes topic (Err why) ∷ []) × (result ≡ Err (fault.Subscribe why))
    × (new ≡ old))
    ⊎ LacksMemory old asked result new

-- whether the subscription has this id
abbrev pub is_of_id : List ℕ → OpenSubState → Bool
is_of_id id o = bytes_eq o.id id

-- Which index is next once the subscription at an index has gone: that of the same one, or of the one behind
-- it. So of a, b and c, where c is next, c is still next when a has gone, and then at index 1.
abbrev pub next_without : ℕ → ℕ → ℕ
next_without index next = if nat_lt index next then next - 1 else next

-- An UNSUBSCRIBE ends the first open subscription of its id. Where none has it, nothing is asked; the session
-- refuses such a frame before. So of subscriptions a and b, UNSUBSCRIBE b ends b, and leaves a.
abbrev pub EndsSub : List ℕ → ConversationState → List BrokerRow → ConversationState → Type 0
EndsSub id old asked new =
    ((front : List OpenSubState) × (back : List OpenSubState) × (o : OpenSubState)
    × (old.subs ≡ front ++ o ∷ back) × (is_of_id id o ≡ true) × (list_any (is_of_id id) front ≡ false)
    × (asked ≡ Unsubscribes o.sub ∷ [])
    × (new ≡ record old { subs = front ++ back; next = next_without (length front) old.next }))
    ⊎ ((list_any (is_of_id id) old.subs ≡ false) × (asked ≡ []) × (new ≡ old))

-- A transaction for which room was reserved is begun by the connection's gate, and committed; the gate comes
-- back in each case. Once it was begun, what comes back is the gate as that flight leaves it, and no other's.
-- Where it doesn't begin, no number of the gate is used, and the room is given back.
abbrev pub CommitsBy
    : GateState → List SentMessage → List BrokerRow → Done → GateState → Type 0
CommitsBy gate sends asked result left =
    ((asked ≡ GivesRoomBack ∷ []) × (result ≡ Err (fault.Begin (begin_fault gate))) × (left ≡ gate))
    ⊎ ((asked ≡ Commits (flight_of gate sends) (Ok left) ∷ []) × (result ≡ Ok tt)
    × IsGateAfter (flight_of gate sends) left)
    ⊎ ((why : CommitFault) × (asked ≡ Commits (flight_of gate sends) (Err (left, why)) ∷ [])
    × (result ≡ Err (fault.Commit why)) × IsGateAfter (flight_of gate sends) left)

-- So of a connection that has a gate. That one without never comes so far, since its session takes no frame
-- before its CONNECT, isn't said here.
abbrev pub CommitsSends
    : List SentMessage → ConversationState → List BrokerRow → Done → ConversationState → Type 0
CommitsSends sends old asked result new =
    ((gate left : GateState) × (old.gate ≡ Some gate) × CommitsBy gate sends asked result left
    × (new ≡ record old { gate = Some left }))
    ⊎ ((old.gate ≡ None) × (asked ≡ GivesRoomBack ∷ []) × (result ≡ Err fault.NoMemory) × (new ≡ old))

-- What an accepted frame's action does. A transaction is committed where there is room for it at each of its
-- topics. A DISCONNECT ends what is open at once.
abbrev pub Performs
    : Action → ConversationState → List BrokerRow → Done → ConversationState → Type 0
Performs (actions.Connected client) old asked result new = Connects client old asked result new
Performs actions.Nothing old asked result new = (asked ≡ []) × (result ≡ Ok tt) × (new ≡ old)
Performs (actions.Subscribe id topic) old asked result new = Begins id topic old asked result new
Performs (actions.Unsubscribe id) old asked result new = (result ≡ Ok tt) × EndsSub id old asked new
Performs (actions.Commit sends) old asked result new =
    (rest : List BrokerRow) × (asked ≡ AsksRoom (topics_of sends) true ∷ rest)
    × CommitsSends sends old rest result new
Performs actions.Disconnect old asked result new =
    (asked ≡ closing_rows old) × (result ≡ Ok tt) × (new ≡ closed exit.Disconnect old)

-- ---- frames

-- whether it is the action of a CONNECT
abbrev pub is_connect_action : Action → Bool
is_connect_action (actions.Connected client) = true
is_connect_action _ = false

-- What follows an action that went well: the frames that answer it are written. Where there is no memory for
-- them, a connection that is open yet leaves by that; of one that leaves already, by a DISCONNECT, they are
-- left out. So an action that has no answer takes no memory for one.
abbrev pub Answers : List RawFrame → ConversationState → List BrokerRow → ConversationState → Type 0
Answers frames old asked new =
    ((asked ≡ []) × PutsFrames frames old new)
    ⊎ ((is_any frames ≡ true) × (asked ≡ closing_rows old) × (old.exit ≡ None)
    × EndsByError fault.NoReply None old new)
    ⊎ ((is_any frames ≡ true) × (asked ≡ []) × IsSome old.exit × LeavesOut old new)

-- What follows an action: its answer, or the connection leaves by its fault, with the receipt that was asked
-- for.
abbrev pub Concludes
    : Done → List RawFrame → Option (List ℕ) → ConversationState → List BrokerRow → ConversationState → Type 0
Concludes (Ok u) frames receipt old asked new = Answers frames old asked new
Concludes (Err why) frames receipt old asked new =
    (asked ≡ closing_rows old) × EndsByError why receipt old new

-- An accepted frame's action is performed, and then answered.
pub record Does
    (step : Step) (old : ConversationState) (asked : List BrokerRow) (new : ConversationState)
    : Type 0 where
  pub first : List BrokerRow
  pub rest : List BrokerRow
  pub between : ConversationState
  pub result : Done
  pub performs : Performs step.action old first result between
  pub concludes
      : Concludes result (replies (is_connect_action step.action) step.receipt) step.receipt between rest new
  pub all : asked ≡ first ++ rest

-- A transaction finds no room: it waits, and nothing else changes. So no flight is begun, and no RECEIPT is
-- written.
abbrev pub Holds : Step → ConversationState → List BrokerRow → ConversationState → Type 0
Holds step old asked new =
    (sends : List SentMessage) × (step.action ≡ actions.Commit sends)
    × (asked ≡ AsksRoom (topics_of sends) false ∷ []) × (new ≡ record old { held = Some (Waits sends step.receipt) })

-- What an accepted frame asks for is done, or waits for room.
abbrev pub Acts : Step → ConversationState → List BrokerRow → ConversationState → Type 0
Acts step old asked new = Does step old asked new ⊎ Holds step old asked new

-- The connection is lost: what is open is ended, a transaction that waits is dropped, as is an answer that is
-- owed, and nothing is written.
-- One that leaves already does nothing.
abbrev pub IsLost : ConversationState → List BrokerRow → ConversationState → Type 0
IsLost old asked new =
    (IsSome old.exit × (asked ≡ []) × (new ≡ old))
    ⊎ ((old.exit ≡ None) × (asked ≡ closing_rows old) × (new ≡ closed exit.Lost old))
