-- What one connection of the server takes of its queues.
use Rattle.std.specs.Prelude.{◌≡◌, ◌⊎◌, ℕ, ◌+◌, ◌-◌, ◌<◌, ◌≤◌, ◌==◌, nat_lt, bit_and, bit_or, Bool, true, false, not, ◌&&◌, ◌||◌, List, [], ◌∷◌, ◌++◌, length, Option, Some, None, IsSome, if◌then◌else◌}
use Rattle.std.specs.List.{flat_map, list_any}
use Rattle.std.specs.Option.{is_none}
use Rattle.stomp_frame.specs.declared.raw_frame.RawFrame.{RawFrame}
use Rattle.mcast_txn.specs.Span.{Item}
use Rattle.delivery.specs.Core.Outcomes.{is_any}
use Rattle.delivery.specs.Core.Output.{messages_for}
use Rattle.broker_server.specs.declared.conversation.conversation_fault.ConversationFault.{ConversationFault}
use Rattle.broker_server.specs.declared.conversation.conversation_fault.ConversationFault.TheVariants as fault
use Rattle.broker_server.specs.declared.conversation.extent.Extent.{Extent}
use Rattle.broker_server.specs.declared.conversation.extent.Extent.TheVariants.{All, ButLags, Rest}
use Rattle.broker_server.specs.declared.conversation.held.Held.{Held}
use Rattle.broker_server.specs.declared.conversation.held.Held.TheVariants.{Waits, Owes}
use Rattle.broker_server.specs.declared.conversation.drained.Taking.{Taking}
use Rattle.broker_server.specs.declared.conversation.drained.Taking.TheVariants.{Emptied, Stopped, Halfway, Failed}
use Rattle.broker_server.specs.BrokerRows.{BrokerRow, AsksLag, Takes, TakesFlags}
use Rattle.broker_server.specs.Conversations.{ConversationState, EndsByError, OpenSubState, closing_rows}
use Rattle.broker_server.specs.Wires.{spelling_with_eol}

-- ---- one item

-- where so many octets wait, nothing more is taken, and no MESSAGE of an item is written (own)
abbrev pub full_wire : ℕ
full_wire = 65536

-- where so many octets wait, nothing is read, either (own)
abbrev pub most_waiting : ℕ
most_waiting = 1048576

-- whether more is read: it doesn't leave, nothing is held, no item is half out, and few octets wait
abbrev pub may_read : ConversationState → Bool
may_read c =
    is_none c.exit && (is_none c.held && (not c.half && nat_lt (length c.wire) most_waiting))

-- Whether a further MESSAGE of an item is written: few octets wait.
abbrev pub has_room : List ℕ → Bool
has_room wire = nat_lt (length wire) full_wire

-- What is left of these MESSAGEs, once they were written one after the other as long as there was room. So of
-- three, of which the second fills the wire, the third is left.
abbrev pub left_behind : List RawFrame → List ℕ → List RawFrame
left_behind [] wire = []
left_behind (f ∷ fs) wire =
    if has_room wire then left_behind fs (wire ++ spelling_with_eol f) else f ∷ fs

-- What waits then: of those three, what waited and the first two, each with its EOL.
abbrev pub with_messages : List RawFrame → List ℕ → List ℕ
with_messages [] wire = wire
with_messages (f ∷ fs) wire =
    if has_room wire then with_messages fs (wire ++ spelling_with_eol f) else wire

-- They are written up to these, which are left, and this waits then.
abbrev pub StopsIn : List RawFrame → List RawFrame → List ℕ → List ℕ → Type 0
StopsIn messages left wire after =
    (left_behind messages wire ≡ left) × (after ≡ with_messages messages wire)

-- They are all written.
abbrev pub WritesAll : List RawFrame → List ℕ → List ℕ → Type 0
WritesAll messages wire after = StopsIn messages [] wire after

-- There is no memory for one of them, behind those that are out, which stay out.
abbrev pub FailsIn : List RawFrame → List ℕ → List ℕ → Type 0
FailsIn messages wire after =
    (out rest : List RawFrame) × (messages ≡ out ++ rest) × (is_any rest ≡ true) × WritesAll out wire after

-- ---- one queue

-- so many calls are made of one queue before another is taken, at most (own); each item writes an octet
-- or more, so the wire is full before
abbrev pub most_calls : ℕ
most_calls = 65536

-- the queue once an item of it was taken
abbrev pub nearer_lag : OpenSubState → OpenSubState
nearer_lag o = record o { until_lag = o.until_lag - 1 }

-- the queue once it was seen empty, and had not lagged
abbrev pub after_empty : ℕ → OpenSubState → OpenSubState
after_empty capacity o = record o { until_lag = capacity }

-- the MESSAGEs of an item, for the subscription whose queue it was in
abbrev pub messages_of : OpenSubState → Item → List RawFrame
messages_of o item = messages_for o.parts o.id item

-- These MESSAGEs of an item aren't all written: some are left for want of room, and stay left of the queue; or
-- there is no memory for one.
abbrev pub BreaksOff : List RawFrame → OpenSubState → List ℕ → Taking → OpenSubState → List ℕ → Type 0
BreaksOff messages o wire end new after =
    ((is_any new.left ≡ true) × StopsIn messages new.left wire after × (end ≡ Halfway)
    × (new ≡ record o { left = new.left }))
    ⊎ (FailsIn messages wire after × (end ≡ Failed fault.NoReply) × (new ≡ o))

-- it is a lag; its topic and its number go to the log alone
abbrev pub IsLag : ConversationFault → Type 0
IsLag (fault.Lagged topic items) = Unit {0}
IsLag _ = ⊥

-- How much is taken of the queues: where a transaction waits for room no lag is told, and where an answer is owed
-- behind an item nothing is taken but the rest of that.
abbrev pub extent_of : Option Held → Extent
extent_of None = All
extent_of (Some (Waits sends receipt)) = ButLags
extent_of (Some (Owes done receipt)) = Rest

-- What a queue that has lagged comes to, now that all that it had accepted was taken: the lag is told, but
-- not while a transaction waits for room.
abbrev pub TellsLag : Extent → Taking → Type 0
TellsLag All end = (why : ConversationFault) × IsLag why × (end ≡ Failed why)
TellsLag ButLags end = end ≡ Emptied
TellsLag Rest end = end ≡ Emptied

-- What a queue that was found empty comes to without a further call: the lag that the broker told; or nothing
-- is left of it, where it can't have lagged. It stays marked until its lag is told.
abbrev pub EndsEmpty : Extent → ℕ → OpenSubState → Taking → OpenSubState → Type 0
EndsEmpty extent capacity o end new =
    ((o.lagged ≡ true) × TellsLag extent end × (new ≡ o))
    ⊎ ((o.lagged ≡ false) × (0 < o.until_lag) × (end ≡ Emptied) × (new ≡ after_empty capacity o))

-- What is taken of one queue by these calls, in order, after so many others of this round: the queue and what
-- waits before and after it, and how it ended; `extent` is how much is taken. A further item is taken
-- where the last is out as a whole. It stops where 65,536 octets wait, between two items or halfway in one, and
-- fails where there is no memory for a MESSAGE. A queue that is found empty after as many items as it holds may
-- have lagged: the broker is asked, and where it says so, the queue is taken on, until it is empty again. It
-- needn't be asked before: one that lags is full then, so that as many items are taken before it is found
-- empty. So where 65,536 octets wait, there is no call at all; and where the broker is asked for an item and
-- has none, 74 is told only if it said of the queue that it has lagged.
abbrev pub Drains
    : Extent → ℕ → ℕ → List BrokerRow → OpenSubState → List ℕ → Taking → OpenSubState → List ℕ → Type 0
Drains extent capacity calls [] o wire end new after =
    ((full_wire ≤ length wire) ⊎ (most_calls ≤ calls)) × (end ≡ Stopped) × (new ≡ o) × (after ≡ wire)
Drains extent capacity calls (Takes sub (Some item) ∷ rows) o wire end new after =
    (length wire < full_wire) × (sub ≡ o.sub)
    × (((left_behind (messages_of o item) wire ≡ [])
    × Drains extent capacity (calls + 1) rows (nearer_lag o) (with_messages (messages_of o item) wire) end
    new after)
    ⊎ ((rows ≡ []) × BreaksOff (messages_of o item) (nearer_lag o) wire end new after))
Drains extent capacity calls (Takes sub None ∷ []) o wire end new after =
    (length wire < full_wire) × (sub ≡ o.sub) × EndsEmpty extent capacity o end new × (after ≡ wire)
Drains extent capacity calls (Takes sub None ∷ AsksLag lagging true ∷ rows) o wire end new after =
    (length wire < full_wire) × (sub ≡ o.sub) × (lagging ≡ o.sub) × (o.lagged ≡ false) × (o.until_lag ≡ 0)
    × Drains extent capacity (calls + 1) rows (record o { lagged = true }) wire end new after
Drains extent capacity calls (Takes sub None ∷ AsksLag lagging false ∷ []) o wire end new after =
    (length wire < full_wire) × (sub ≡ o.sub) × (lagging ≡ o.sub) × (o.lagged ≡ false) × (o.until_lag ≡ 0)
    × (end ≡ Emptied) × (new ≡ after_empty capacity o) × (after ≡ wire)
Drains extent capacity calls _ o wire end new after = ⊥

-- The same of a queue of whose last item nothing is left, and where nothing but such a rest is taken: it stops.
abbrev pub DrainsBehind
    : Extent → ℕ → List BrokerRow → OpenSubState → List ℕ → Taking → OpenSubState → List ℕ → Type 0
DrainsBehind All capacity asked o wire end new after = Drains All capacity 0 asked o wire end new after
DrainsBehind ButLags capacity asked o wire end new after = Drains ButLags capacity 0 asked o wire end new after
DrainsBehind Rest capacity asked o wire end new after =
    (asked ≡ []) × (end ≡ Stopped) × (new ≡ o) × (after ≡ wire)

-- The same of a queue of whose last item some MESSAGEs may be left: these are written first, and where they
-- aren't all out then, nothing is asked. So where the last of three was left, and there is room, that is
-- written, and then the next item is taken; but where an answer is owed, none is, so that it comes next.
abbrev pub DrainsOn
    : Extent → ℕ → List BrokerRow → OpenSubState → List ℕ → Taking → OpenSubState → List ℕ → Type 0
DrainsOn extent capacity asked o wire end new after =
    ((left_behind o.left wire ≡ [])
    × DrainsBehind extent capacity asked (record o { left = [] }) (with_messages o.left wire) end new after)
    ⊎ ((asked ≡ []) × BreaksOff o.left (record o { left = [] }) wire end new after)

-- ---- queue after queue

-- Whether these flags say that the queue may have something: its own is one of them. So of subscriptions whose flags
-- are 1, 2 and 4, those of 1 and 4 where the flags are 5.
abbrev pub is_flagged : ℕ → OpenSubState → Bool
is_flagged flags o = not (bit_and flags o.sub.flag == 0)

-- The same of a queue that is taken only where it is flagged; of another one nothing is asked, and it is as one that
-- was found empty.
abbrev pub DrainsFlagged
    : Extent → ℕ → ℕ → List BrokerRow → OpenSubState → List ℕ → Taking → OpenSubState → List ℕ → Type 0
DrainsFlagged extent capacity flags asked o wire end new after =
    ((is_flagged flags o ≡ true) × DrainsOn extent capacity asked o wire end new after)
    ⊎ ((is_flagged flags o ≡ false) × (asked ≡ []) × (end ≡ Emptied) × (new ≡ o) × (after ≡ wire))

-- the one where nothing is left of a queue, else the other
abbrev pub IfEmptied : Taking → Type 0 → Type 0 → Type 0
IfEmptied Emptied goes_on stops = goes_on
IfEmptied _ goes_on stops = stops

-- how many queues are left, of these behind one that wasn't emptied, and itself where an item of it is half out
abbrev pub left_from : Taking → List OpenSubState → ℕ
left_from Halfway behind = length behind + 1
left_from _ behind = length behind

-- Those of these queues that are flagged are taken, one after the other, up to the first that isn't emptied, and
-- so many are left from there on; where there are none, nothing is left of them.
abbrev pub DrainsAll
    : Extent → ℕ → ℕ → List BrokerRow → List OpenSubState → List ℕ → Taking → List OpenSubState → List ℕ → ℕ
    → Type 0
DrainsAll extent capacity flags asked [] wire end new after left =
    (asked ≡ []) × (end ≡ Emptied) × (new ≡ []) × (after ≡ wire) × (left ≡ 0)
DrainsAll extent capacity flags asked (o ∷ os) wire end new after left =
    (first rest : List BrokerRow) × (asked ≡ first ++ rest)
    × (one : Taking) × (changed : OpenSubState) × (others : List OpenSubState) × (between : List ℕ)
    × DrainsFlagged extent capacity flags first o wire one changed between × (new ≡ changed ∷ others)
    × IfEmptied one (DrainsAll extent capacity flags rest os between end others after left)
    ((rest ≡ []) × (end ≡ one) × (others ≡ os) × (after ≡ between) × (left ≡ left_from one os))

-- whether an item was taken by this call
abbrev pub is_item : BrokerRow → Bool
is_item (Takes sub (Some item)) = true
is_item _ = false

-- whether an item was taken
abbrev pub has_item : List BrokerRow → Bool
has_item rows = list_any is_item rows

-- at which of so many queues it begins: at the one that is next, or at the first where none has its index
abbrev pub begins_at : ℕ → ℕ → ℕ
begins_at next count = if nat_lt next count then next else 0

-- The queues are taken from the next one to the last, and then, where each of these was emptied, from the
-- first to that one; later the queue behind the one that wasn't emptied is next, but that one itself where an
-- item of it is half out, and else the same one. So of three queues of which the second is next, they are taken
-- as second, third and first; and where the second isn't emptied, the third is next later, so that none waits
-- for another for ever. But where the second stopped halfway in an item, the second is next again, so that
-- nothing comes between. Of those that aren't flagged none is asked: where the second alone is, it is taken, and
-- the order of the others stays.
abbrev pub DrainsQueues
    : Extent → ℕ → ℕ → ℕ → List BrokerRow → List OpenSubState → List ℕ → Taking → List OpenSubState → List ℕ
    → ℕ → Type 0
DrainsQueues extent capacity flags next asked queues wire end new after later =
    (front back : List OpenSubState) × (queues ≡ front ++ back)
    × (length front ≡ begins_at next (length queues))
    × (first rest : List BrokerRow) × (asked ≡ first ++ rest)
    × (one : Taking) × (changed others : List OpenSubState) × (between : List ℕ) × (left unseen : ℕ)
    × DrainsAll extent capacity flags first back wire one changed between left × (new ≡ others ++ changed)
    × IfEmptied one
    (DrainsAll extent capacity flags rest front between end others after unseen × (later ≡ length front - unseen))
    ((rest ≡ []) × (end ≡ one) × (others ≡ front) × (after ≡ between) × (later ≡ length queues - left))

-- ---- a round of the connection

-- whether items, or MESSAGEs of one, may be left
abbrev pub is_stopped : Taking → Bool
is_stopped Stopped = true
is_stopped Halfway = true
is_stopped _ = false

-- whether an item is half out
abbrev pub is_halfway : Taking → Bool
is_halfway Halfway = true
is_halfway _ = false

-- Which flags are kept once the queues were taken: none where nothing is left of a flagged queue, and each lag was
-- told; else all of them. So where a queue was found empty, and another one stopped, both are asked again; and a queue
-- whose lag is told once a transaction waits no more is asked again then.
abbrev pub flags_left : Extent → Taking → ℕ → ℕ
flags_left All Emptied flags = 0
flags_left extent end flags = flags

-- whether MESSAGEs of the item that is half out are written: an item is, and there is room
abbrev pub writes_on : ConversationState → Bool
writes_on c = c.half && nat_lt (length c.wire) full_wire

-- The connection once its queues were taken by these flags: these are its subscriptions then, this waits to be
-- written, and the queue of this index is next.
abbrev pub delivered
    : ConversationState → Taking → ℕ → List OpenSubState → List ℕ → ℕ → ConversationState
delivered old end flags subs wire next =
    record old { subs = subs; wire = wire; next = next; flags = flags_left (extent_of old.held) end flags }

-- What follows, once these items were taken or not: where it failed, the connection leaves by that, and a
-- lag's 74 is so the last that is written; else it stays, and knows whether items may be left, and whether one
-- is half out.
abbrev pub Settles
    : Taking → Bool → ConversationState → List BrokerRow → Bool → ConversationState → Type 0
Settles (Failed why) any old asked result new =
    (asked ≡ closing_rows old) × (result ≡ true) × EndsByError why None old new
Settles end any old asked result new =
    (asked ≡ []) × (result ≡ any) × (new ≡ record old { more = is_stopped end; half = is_halfway end })

-- The broker is asked which queues may have something; these, and those of which that was said before, are taken,
-- and what comes is written; the result is whether something came of it. One that leaves takes nothing. So where `a` holds an item and `b` has lagged, a's MESSAGE is written, what `b` holds
-- is taken to its end, and the last that is written is 74. Where an answer is owed, only the rest of the item
-- that is half out is written.
abbrev pub DeliversRound : ConversationState → List BrokerRow → Bool → ConversationState → Type 0
DeliversRound old asked result new =
    (IsSome old.exit × (asked ≡ []) × (result ≡ false) × (new ≡ old))
    ⊎ ((old.exit ≡ None) × (told : ℕ) × (first rest : List BrokerRow) × (asked ≡ TakesFlags told ∷ first ++ rest)
    × (end : Taking) × (subs : List OpenSubState) × (wire : List ℕ) × (next : ℕ)
    × DrainsQueues (extent_of old.held) old.capacity (bit_or old.flags told) old.next first old.subs old.wire end
    subs wire next
    × Settles end (has_item first || writes_on old)
    (delivered old end (bit_or old.flags told) subs wire next) rest result new)

-- ---- a law

-- the MESSAGEs of the items that these calls took, for a subscription of this id, which asked for parts or
-- didn't
abbrev pub taken_messages : Bool → List ℕ → List BrokerRow → List RawFrame
taken_messages parts id [] = []
taken_messages parts id (Takes sub (Some item) ∷ rows) =
    messages_for parts id item ++ taken_messages parts id rows
taken_messages parts id (_ ∷ rows) = taken_messages parts id rows

-- What was left of a queue's item, and then what was taken of the queue, is what was written, and then what is
-- left of it now: each MESSAGE once, in order, and nothing else. What is left is lost only where there was no
-- memory for it, and some is left only where it stopped halfway. So whatever pieces an item was written in, they
-- are the whole item.
abbrev pub ItemsAreWhole : Type 0
ItemsAreWhole =
    (extent : Extent) (capacity : ℕ) (asked : List BrokerRow) (o : OpenSubState) (wire : List ℕ) (end : Taking)
    (new : OpenSubState) (after : List ℕ)
    → DrainsOn extent capacity asked o wire end new after
    → (out rest : List RawFrame) × (after ≡ wire ++ flat_map spelling_with_eol out)
    × (o.left ++ taken_messages o.parts o.id asked ≡ out ++ rest)
    × ((end ≡ Failed fault.NoReply) ⊎ (rest ≡ new.left)) × (is_any new.left ≡ true → end ≡ Halfway)
