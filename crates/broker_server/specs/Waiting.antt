-- What a connection does whose transactions wait for room, beside one whose transactions find it at once.
use Rattle.std.specs.Prelude.{◌≡◌, ◌≢◌, ◌⊎◌, ℕ, Bool, true, false, not, List, [], ◌∷◌, ◌++◌, filter, map, Option, Some, None, IsSome, Ok}
use Rattle.std.specs.List.{list_any}
use Rattle.mcast_txn.specs.declared.draft.sent_message.SentMessage.{SentMessage}
use Rattle.stomp_frame.specs.Reader.{Unread, unread_of, with_piece}
use Rattle.stomp_session.specs.declared.action.Action.TheVariants as actions
use Rattle.delivery.specs.Core.Steps.{reader_limits}
use Rattle.broker_server.specs.declared.conversation.conversation_fault.ConversationFault.TheVariants as fault
use Rattle.broker_server.specs.declared.conversation.held.Held.{Held}
use Rattle.broker_server.specs.declared.conversation.held.Held.TheVariants.{Waits, Owes}
use Rattle.broker_server.specs.BrokerRows.{BrokerRow, AsksRoom}
use Rattle.broker_server.specs.Conversations.{ConversationState, Done, EndsByError, OpenSubState, Performs, closing_rows}
use Rattle.broker_server.specs.Delivering.{DeliversRound}
use Rattle.broker_server.specs.Hearing.{GoesOn, Hears, HearsOrKeeps}

-- ---- what happens to it

-- a call of a connection, with what that asked of the broker
pub data Round : Type 0 where
  -- this piece came
  Heard : List ℕ → List BrokerRow → Round
  -- it went on with what it held
  WentOn : List BrokerRow → Round
  -- its queues were taken
  Delivered : List BrokerRow → Round
  -- some of what waits was written
  Wrote : Round

-- It went through these rounds, in order, and didn't leave by what was delivered. A piece may come at any
-- time: while something is held, or an item is half out, it is put to the stream, and nothing is taken. So a
-- `SEND` that finds no room at first is heard, an UNSUBSCRIBE comes behind it, its queues are taken, and it
-- goes on.
abbrev pub GoesThrough : List Round → ConversationState → ConversationState → Type 0
GoesThrough [] old new = new ≡ old
GoesThrough (Heard piece asked ∷ rounds) old new =
    (between : ConversationState) × HearsOrKeeps piece old asked between × GoesThrough rounds between new
GoesThrough (WentOn asked ∷ rounds) old new =
    (between : ConversationState) × GoesOn old asked between × GoesThrough rounds between new
GoesThrough (Delivered asked ∷ rounds) old new =
    (between : ConversationState) × (any : Bool) × DeliversRound old asked any between
    × (between.exit ≡ old.exit) × GoesThrough rounds between new
GoesThrough (Wrote ∷ rounds) old new =
    (between : ConversationState) × (between ≡ record old { wire = between.wire })
    × GoesThrough rounds between new

-- the pieces that came
abbrev pub pieces : List Round → List (List ℕ)
pieces [] = []
pieces (Heard piece asked ∷ rounds) = piece ∷ pieces rounds
pieces (_ ∷ rounds) = pieces rounds

-- what was asked for the frames that came, and so not for what was delivered in between
abbrev pub asked_for_frames : List Round → List BrokerRow
asked_for_frames [] = []
asked_for_frames (Heard piece asked ∷ rounds) = asked ++ asked_for_frames rounds
asked_for_frames (WentOn asked ∷ rounds) = asked ++ asked_for_frames rounds
asked_for_frames (_ ∷ rounds) = asked_for_frames rounds

-- whether room was asked for
abbrev pub asks_room : BrokerRow → Bool
asks_room (AsksRoom topics answered) = true
asks_room _ = false

-- whether there was none
abbrev pub finds_none : BrokerRow → Bool
finds_none (AsksRoom topics false) = true
finds_none _ = false

-- these calls, but for those that ask for room
abbrev pub but_room : List BrokerRow → List BrokerRow
but_room rows = filter (λ row. not (asks_room row)) rows

-- ---- and beside it

-- These pieces come, one after the other, and nothing else happens. Each comes where no transaction waits.
abbrev pub HearsEach : List (List ℕ) → ConversationState → List BrokerRow → ConversationState → Type 0
HearsEach [] old asked new = (asked ≡ []) × (new ≡ old)
HearsEach (piece ∷ more) old asked new =
    (old.held ≡ None) × (first rest : List BrokerRow) × (asked ≡ first ++ rest)
    × (between : ConversationState) × Hears piece old first between × HearsEach more between rest new

-- a queue of which nothing was taken
abbrev pub untaken : OpenSubState → OpenSubState
untaken o = record o { until_lag = 0; lagged = false; left = [] }

-- a connection but for what is delivered and written: nothing waits to be written, nothing was taken of its
-- queues, and no flag is known
abbrev pub but_items : ConversationState → ConversationState
but_items c = record c {
  subs = map untaken c.subs;
  wire = [];
  more = false;
  half = false;
  next = 0;
  flags = 0;
}

-- a connection but for that, and for what it hasn't read
abbrev pub but_unread : ConversationState → ConversationState
but_unread c = record (but_items c) { reader = unread_of reader_limits }

-- ---- what is kept

-- a reader that was fed these pieces
abbrev pub fed : List (List ℕ) → Unread → Unread
fed [] r = r
fed (piece ∷ more) r = fed more (with_piece r piece)

-- A connection that keeps these pieces: they are in its stream, in order, and nothing of them was taken. So
-- one that keeps `UNSUBSC` and `RIBE` has `UNSUBSCRIBE` behind what was unread.
abbrev pub keeping : List (List ℕ) → ConversationState → ConversationState
keeping kept c = record c { reader = fed kept c.reader }

-- What one holds, beside another that heard all but the kept pieces: the transaction that waits in the other,
-- too; or its answer, since it was committed by these calls, as an item was half out, and one is then so; or,
-- where none waits in the other, but the pieces, which came while an item was half out. So where a COMMIT
-- with the receipt `r` waits in the other, it waits in this one, or its flight is out, and this one owes `r`.
abbrev pub HasDone
    : List (List ℕ) → ConversationState → List BrokerRow → Held → ConversationState → Type 0
HasDone kept other asked what new =
    ((other.held ≡ Some what) × (asked ≡ []) × (new ≡ other))
    ⊎ ((sends : List SentMessage) × (receipt : Option (List ℕ)) × (done : Done)
    × (other.held ≡ Some (Waits sends receipt)) × (what ≡ Owes done receipt)
    × Performs (actions.Commit sends) (record other { held = None }) asked done new)
    ⊎ ((other.held ≡ None) × (kept ≢ []) × (what ≡ Owes (Ok tt) None) × (asked ≡ []) × (new ≡ other))

-- It holds that yet, and has done no more, and it keeps the pieces. So where a `SEND` waits in both, and an
-- UNSUBSCRIBE is kept behind it, nothing was asked for that, and the subscription is open in both.
abbrev pub HoldsYet
    : List (List ℕ) → ConversationState → List BrokerRow → ConversationState → Type 0
HoldsYet kept other asked one =
    (one.exit ≡ None) × (what : Held) × (new : ConversationState) × HasDone kept other asked what new
    × (but_items one ≡ but_items (keeping kept (record new { held = Some what })))

-- It held something, and there was no memory for one of the kept pieces: it left by that, and what it held is
-- dropped, as those are. So a `SEND` that waits in both is never committed; and where this one owes a
-- RECEIPT, that is never written.
abbrev pub LeavesHolding
    : List (List ℕ) → ConversationState → List BrokerRow → ConversationState → Type 0
LeavesHolding kept other asked one =
    (kept ≢ []) × (rows : List BrokerRow) × (before last : ConversationState)
    × HoldsYet kept other rows before × (asked ≡ rows ++ closing_rows before)
    × EndsByError fault.NoMemory None before last × (but_unread one ≡ but_unread last)

-- ---- laws

-- One is as another, but for what is delivered. Where both have left, what isn't read never is, and may
-- differ: so where a DISCONNECT was kept, and a piece behind it, this one has that piece in its stream, and
-- the other dropped it.
abbrev pub IsAs : ConversationState → ConversationState → Type 0
IsAs one other =
    (but_items one ≡ but_items other) ⊎ (IsSome other.exit × (but_unread one ≡ but_unread other))

-- How one stands beside another that heard all but the kept pieces, with what it asked beyond that: none is
-- kept, nothing is held, and it is as the other; or it holds something yet; or it left holding it.
abbrev pub StandsBeside
    : List (List ℕ) → ConversationState → List BrokerRow → ConversationState → Type 0
StandsBeside kept other asked one =
    ((kept ≡ []) × (asked ≡ []) × (other.held ≡ None) × IsAs one other)
    ⊎ HoldsYet kept other asked one
    ⊎ LeavesHolding kept other asked one

-- These pieces came to a connection, at whatever times, and it asked this for their frames: as another asks
-- that hears them one after the other, in the same order, but for room, and it is then as that one. Where it
-- holds something yet, the other has heard all but the kept pieces: nothing was asked for those, and they are
-- in the stream, each once. So one that asks for an UNSUBSCRIBE before the `SEND` that waits in front of it
-- keeps no order, nor does one that drops a kept piece, or hears it twice (`taken_before`, `dropped_piece`,
-- `heard_twice`).
abbrev pub KeepsOrder
    : List (List ℕ) → List BrokerRow → ConversationState → ConversationState → Type 0
KeepsOrder came rows old new =
    (heard kept : List (List ℕ)) × (came ≡ heard ++ kept)
    × (asked last : List BrokerRow) × (other : ConversationState) × HearsEach heard old asked other
    × StandsBeside kept other last new × (but_room (asked ++ last) ≡ but_room rows)

-- Whatever a connection goes through, it keeps the order. Since that is so after any rounds, what was kept is
-- done as the other does it, once this one goes on and holds nothing any more (`all_heard`). So where a
-- `SEND` waits, and an UNSUBSCRIBE comes behind it, with it or in later pieces, the flight is committed
-- first, and once, however often it went on and was delivered to.
abbrev pub WaitsInOrder : Type 0
WaitsInOrder =
    (rounds : List Round) (old new : ConversationState) → old.held ≡ None → GoesThrough rounds old new
    → KeepsOrder (pieces rounds) (asked_for_frames rounds) old new

-- That other one found room each time that it asked, where no transaction waits in the end.
abbrev pub FindsRoomAtOnce : Type 0
FindsRoomAtOnce =
    (texts : List (List ℕ)) (old new : ConversationState) (asked : List BrokerRow)
    → HearsEach texts old asked new → new.held ≡ None → list_any finds_none asked ≡ false
