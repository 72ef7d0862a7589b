-- What one connection of the server does with what comes.
use Rattle.std.specs.Prelude.{◌≡◌, ◌⊎◌, ℕ, Bool, true, false, List, [], ◌∷◌, ◌++◌, codes, Option, Some, None, IsSome, MatchOption, Ok, Err}
use Rattle.stomp_frame.specs.declared.fault.FrameFault.{FrameFault}
use Rattle.stomp_frame.specs.declared.raw_frame.RawFrame.{RawFrame}
use Rattle.stomp_frame.specs.Cases.{case_fault}
use Rattle.stomp_frame.specs.Reader.{Unread, NextReturns, with_piece}
use Rattle.stomp_frame.specs.Receipts.{receipt_of}
use Rattle.stomp_session.specs.declared.action.Action.TheVariants as actions
use Rattle.stomp_session.specs.declared.action.Step.{Step}
use Rattle.stomp_session.specs.Frames.{field, has_destination}
use Rattle.stomp_session.specs.Names.{is_known}
use Rattle.stomp_session.specs.Open.{IsKnownTo}
use Rattle.delivery.specs.declared.connection_fault.ConnectionFault.TheVariants as connection
use Rattle.delivery.specs.Core.Outcomes.{is_any}
use Rattle.broker_server.specs.declared.conversation.conversation_fault.ConversationFault.{ConversationFault}
use Rattle.broker_server.specs.declared.conversation.conversation_fault.ConversationFault.TheVariants as fault
use Rattle.broker_server.specs.declared.conversation.held.Held.{Held}
use Rattle.broker_server.specs.declared.conversation.held.Held.TheVariants.{Waits, Owes}
use Rattle.mcast_txn.specs.Transaction.{topics_of}
use Rattle.broker_server.specs.BrokerRows.{AsksRoom, BrokerRow, LooksUp}
use Rattle.broker_server.specs.ConversationFaults.{fault_of_reader, tells_version}
use Rattle.broker_server.specs.Conversations.{Acts, Concludes, ConversationState, Done, EndsByError, EndsSaying, Performs, closing_rows, replies}
use Rattle.broker_server.specs.Judging.{Grows, IsFrameAccepted, IsFrameRefused}

-- ---- one frame

-- The connection leaves by a fault of this frame, with the receipt that the frame asks for. So a CONNECT
-- without a host is told the version where it offers `1.1` alone, and isn't where it offers `1.1,1.2`.
abbrev pub RefusesFrame
    : ConversationFault → RawFrame → ConversationState → List BrokerRow → ConversationState → Type 0
RefusesFrame why f old asked new =
    (asked ≡ closing_rows old) × EndsSaying (tells_version (Some f) why) why (receipt_of f) old new

-- its destination is none of these names
abbrev pub IsNewTo : List (List ℕ) → RawFrame → Type 0
IsNewTo names f =
    (has_destination f.command ≡ true) × (is_known (field (codes "destination") f) names ≡ false)

-- By which names a frame is judged. Where the connection knows its destination, by those that it knows, and
-- nothing is asked; else all are looked up first. So one that knows A asks nothing at a SEND to A, and looks
-- up at a SEND to B.
abbrev pub Looks
    : RawFrame → ConversationState → List BrokerRow → List (List ℕ) → List (List ℕ) → Type 0
Looks f old asked known names =
    (IsKnownTo old.names f × (asked ≡ []) × (known ≡ old.names))
    ⊎ (IsNewTo old.names f × (asked ≡ LooksUp old.names names ∷ []) × Grows old.names known)

-- The session accepts the frame, by the names that the connection knows or that are looked up.
pub record AcceptsFrame
    (f : RawFrame) (step : Step) (old : ConversationState) (asked : List BrokerRow) (new : ConversationState)
    : Type 0 where
  pub known : List (List ℕ)
  pub looks : Looks f old asked known new.names
  pub accepted : IsFrameAccepted f step old.session known new.session new.names
  pub same : new ≡ record old { session = new.session; names = new.names }

-- The session refuses the frame by this, by those names; or there was no memory for a name, where all were
-- looked up. Where none was looked up, they stay.
pub record DeniesFrame
    (f : RawFrame) (why : ConversationFault) (old : ConversationState) (asked : List BrokerRow)
    (new : ConversationState)
    : Type 0 where
  pub known : List (List ℕ)
  pub looks : Looks f old asked known new.names
  pub refused : IsFrameRefused f why old.session known
  pub lacks : why ≡ fault.NoMemory → IsNewTo old.names f
  pub stay : asked ≡ [] → new.names ≡ old.names
  pub same : new ≡ record old { session = new.session; names = new.names }

-- What the session makes of a client's frame: it is accepted, and what it asks for is done and answered; or
-- it is refused, and the connection leaves.
abbrev pub JudgesFrame : RawFrame → ConversationState → List BrokerRow → ConversationState → Type 0
JudgesFrame f old asked new =
    (first rest : List BrokerRow) × (asked ≡ first ++ rest) × (between : ConversationState)
    × (((step : Step) × AcceptsFrame f step old first between × Acts step between rest new)
    ⊎ ((why : ConversationFault) × DeniesFrame f why old first between × RefusesFrame why f between rest new))

-- A frame is taken: the case table refuses it, or the session judges it. So an ACK is answered by an ERROR
-- `21 Unsupported`, whatever the session is, and the connection leaves.
abbrev pub TakesFrame : RawFrame → ConversationState → List BrokerRow → ConversationState → Type 0
TakesFrame f old asked new =
    MatchOption (case_fault f) (JudgesFrame f old asked new)
    (λ why. RefusesFrame (fault.Connection (connection.Frame why)) f old asked new)

-- ---- the frames of a stream

-- it takes frames: it doesn't leave, no transaction waits for room, and no answer is owed
abbrev pub Listens : ConversationState → Type 0
Listens c = (c.exit ≡ None) × (c.held ≡ None)

-- These frames are taken, one after the other: each is the next of the stream, and before it is read the
-- connection doesn't leave, no transaction waits, and no answer is owed.
abbrev pub TakesFrames : List RawFrame → ConversationState → List BrokerRow → ConversationState → Type 0
TakesFrames [] old asked new = (asked ≡ []) × (new ≡ old)
TakesFrames (f ∷ fs) old asked new =
    Listens old × (left : Unread) × NextReturns old.reader (Ok (Some f)) left
    × (between : ConversationState) × (first rest : List BrokerRow) × (asked ≡ first ++ rest)
    × TakesFrame f (record old { reader = left }) first between × TakesFrames fs between rest new

-- what is left of a reader that fails; there is no want of memory where nothing is unread
abbrev pub ReadingFails : FrameFault → Unread → Unread → Type 0
ReadingFails FrameFault.NoMemory old left = (left ≡ old) × (is_any old.text ≡ true)
ReadingFails why old left = NextReturns old (Err why) left

-- Nothing more is taken: the connection leaves, or holds something; or no frame of the stream is whole,
-- so that a half of a SEND waits for its other half; or what follows is none, and the connection leaves by
-- that.
abbrev pub Rests : ConversationState → List BrokerRow → ConversationState → Type 0
Rests old asked new =
    ((IsSome old.exit ⊎ IsSome old.held) × (asked ≡ []) × (new ≡ old))
    ⊎ (Listens old × (left : Unread) × NextReturns old.reader (Ok None) left
    × (asked ≡ []) × (new ≡ record old { reader = left }))
    ⊎ (Listens old × (why : FrameFault) × (left : Unread) × ReadingFails why old.reader left
    × (asked ≡ closing_rows old) × EndsByError (fault_of_reader why) None (record old { reader = left }) new)

-- the frames of the stream are taken until nothing more is
abbrev pub TakesAll : ConversationState → List BrokerRow → ConversationState → Type 0
TakesAll old asked new =
    (frames : List RawFrame) × (between : ConversationState) × (first rest : List BrokerRow)
    × (asked ≡ first ++ rest) × TakesFrames frames old first between × Rests between rest new

-- A piece comes, while no item is half out. One that leaves drops it; without memory for it the connection
-- leaves; else it is put to the stream, and the frames that are whole then are taken. So where `SEND`, a frame
-- that the session refuses, and a second `SEND` come at once, one flight is committed, an ERROR is the last
-- that is written, and the second isn't read. While something is held, a piece is put to the stream, and
-- nothing is taken.
abbrev pub Hears : List ℕ → ConversationState → List BrokerRow → ConversationState → Type 0
Hears piece old asked new =
    (IsSome old.exit × (asked ≡ []) × (new ≡ old))
    ⊎ ((old.exit ≡ None) × (asked ≡ closing_rows old) × EndsByError fault.NoMemory None old new)
    ⊎ ((old.exit ≡ None) × TakesAll (record old { reader = with_piece old.reader piece }) asked new)

-- What is held once a piece is kept: what was, or else that its frames are to be taken, behind no answer.
abbrev pub kept_by : Option Held → Option Held
kept_by None = Some (Owes (Ok tt) None)
kept_by (Some what) = Some what

-- While an item is half out, so that no frame is to come between its MESSAGEs, a piece that comes is put to the
-- stream, and nothing is taken, before it goes on. (The server reads nothing then: `may_read`.)
abbrev pub KeepsPiece : List ℕ → ConversationState → List BrokerRow → ConversationState → Type 0
KeepsPiece piece old asked new =
    (IsSome old.exit × (asked ≡ []) × (new ≡ old))
    ⊎ ((old.exit ≡ None) × (asked ≡ closing_rows old) × EndsByError fault.NoMemory None old new)
    ⊎ ((old.exit ≡ None) × (asked ≡ [])
    × (new ≡ record old { reader = with_piece old.reader piece; held = kept_by old.held }))

-- the one where an item is half out, else the other
abbrev pub IfHalf : Bool → Type 0 → Type 0 → Type 0
IfHalf true half whole = half
IfHalf false half whole = whole

-- A piece comes, whether an item is half out or not.
abbrev pub HearsOrKeeps : List ℕ → ConversationState → List BrokerRow → ConversationState → Type 0
HearsOrKeeps piece old asked new =
    IfHalf old.half (KeepsPiece piece old asked new) (Hears piece old asked new)

-- What a connection goes on with is done, while no item is half out: a transaction asks for room again, and is
-- committed and answered, or waits again; or the answer that is owed is given.
abbrev pub Finishes : Held → ConversationState → List BrokerRow → ConversationState → Type 0
Finishes (Waits sends receipt) old asked new =
    Acts (record { action = actions.Commit sends; receipt = receipt }) old asked new
Finishes (Owes done receipt) old asked new = Concludes done (replies false receipt) receipt old asked new

-- While an item is half out nothing may come between its MESSAGEs, but others may wait for room behind the
-- connection: so a transaction asks for room, too, and is committed at once where there is some, and what that
-- came to is owed. So a COMMIT with the receipt `r` is committed, and what waits to be written is as it was;
-- `r` comes behind the item. Where an answer is owed already, nothing is done.
abbrev pub GoesOnHalfway : Held → ConversationState → List BrokerRow → ConversationState → Type 0
GoesOnHalfway (Waits sends receipt) old asked new =
    ((asked ≡ AsksRoom (topics_of sends) false ∷ []) × (new ≡ record old { held = Some (Waits sends receipt) }))
    ⊎ ((done : Done) × (between : ConversationState) × Performs (actions.Commit sends) old asked done between
    × (new ≡ record between { held = Some (Owes done receipt) }))
GoesOnHalfway (Owes done receipt) old asked new =
    (asked ≡ []) × (new ≡ record old { held = Some (Owes done receipt) })

-- It goes on with what is held, if something is: that is done, and then the frames that are whole are taken;
-- while an item is half out none is. So where a `SEND` waits for room, and an UNSUBSCRIBE came behind it, the
-- flight is committed and the RECEIPT written before the subscription ends, and where an item of that
-- subscription is half out meanwhile, its rest is written before the RECEIPT.
abbrev pub GoesOn : ConversationState → List BrokerRow → ConversationState → Type 0
GoesOn old asked new =
    ((old.held ≡ None) × (asked ≡ []) × (new ≡ old))
    ⊎ ((what : Held) × (old.held ≡ Some what)
    × IfHalf old.half (GoesOnHalfway what (record old { held = None }) asked new)
    ((between : ConversationState) × (first rest : List BrokerRow) × (asked ≡ first ++ rest)
    × Finishes what (record old { held = None }) first between × TakesAll between rest new))
