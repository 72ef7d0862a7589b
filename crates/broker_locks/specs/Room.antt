-- Room that is reserved at a topic, and who is waited for there.
use Rattle.std.specs.Prelude.{◌≡◌, ◌≤◌, ◌<◌, ◌+◌, ◌-◌, ◌==◌, ◌&&◌, ◌++◌, nat_lt, not, ℕ, Bool, false, List}
use Rattle.std.specs.Prelude.{[], length, filter, Option, Some, None, Result, Ok, Err, if◌then◌else◌}
use Rattle.std.specs.List.{find, list_any}
use Rattle.std.specs.Option.{option_map_or}
use Rattle.mcast_txn.specs.declared.id.Topic.{Topic}
use Rattle.mcast_txn.specs.declared.id.TxnId.{TxnId}
use Rattle.mcast_txn.specs.declared.stamp.Stamp.{Stamp}
use Rattle.mcast_txn.specs.Lists.{In, insert_by_number}
use Rattle.mcast_txn.specs.Span.{LogRow}
use Rattle.mcast_txn.specs.Transaction.{TopicPart}
use Rattle.sub_queue.specs.Shown.{Gauge, Shown, known_taken, room}
use Rattle.mcast_group.specs.Group.{GroupState, Releases, gauge_at, shown_at, shows}
use Rattle.mcast_group.specs.Machine.{Entry, after_cancel, after_propose, find_entry, subscription_state}
use Rattle.mcast_group.specs.declared.state.SubState.{SubState}
use Rattle.mcast_group.specs.declared.turned.Turned.{Turned}
use Rattle.delivery.specs.Topics.{max_topics}
use Rattle.broker_locks.specs.PartOctets.{places_for}
use Rattle.broker_locks.specs.Place.{HasTurned, PlaceState, source_answers}
use Rattle.broker_locks.specs.declared.no_room.NoRoom.{NoRoom}
use Rattle.broker_locks.specs.declared.no_room.NoRoom.TheVariants as no_room

-- What is reserved at a topic, and who is waited for there.
-- reserved: so many parts were promised room there, and weren't entered yet.
-- waited: the numbers of the subscriptions that are waited for, rising.
pub record RoomState : Type 0 where
  pub reserved : ℕ
  pub waited : List ℕ

-- how many parts are due at a topic: those that are pending, and those for which room is reserved
abbrev pub due_at : RoomState → GroupState → ℕ
due_at state g = length g.topic.pending + state.reserved

-- The subscription of this number is open, and its outlet takes so many items more, by what it knows.
pub record HasRoom (due : ℕ) (g : GroupState) (number : ℕ) : Type 0 where
  pub entry : Entry
  pub gauge : Gauge
  pub found : find_entry number g.topic.subscriptions ≡ Some entry
  pub gauged : gauge_at number g.topic.subscriptions g.gauges ≡ Some gauge
  pub is_open : entry.to ≡ None
  pub fits : due ≤ room (shows entry gauge)

-- Each subscription that is waited for is open, and has room for all parts that are due: so none of them lags
-- when these are released.
-- So with a queue of 4 of whose items 2 aren't known to be taken, one part may be pending and one reserved.
abbrev pub KeepsRoom : RoomState → GroupState → Type 0
KeepsRoom state g = (number : ℕ) → In number state.waited → HasRoom (due_at state g) g number

-- the outlet takes so many items more
abbrev pub takes_more : ℕ → Shown → Bool
takes_more due s = not (nat_lt (room s) due)

-- the same, of the subscription of this number, if there is one
abbrev pub fits : ℕ → GroupState → ℕ → Bool
fits due g number = option_map_or (takes_more due) (shown_at number g) false

-- ---- what an outlet was told

-- an outlet that shows the same, and knows of at least as many takes
pub record KnowsMore (old new : Shown) : Type 0 where
  pub accepted : new.accepted ≡ old.accepted
  pub capacity : new.gauge.capacity ≡ old.gauge.capacity
  pub taken : known_taken old.gauge.taken ≤ known_taken new.gauge.taken

-- the same, where there is an outlet
abbrev pub KnowsMoreOf : Option Shown → Option Shown → Type 0
KnowsMoreOf None None = Unit {0}
KnowsMoreOf None (Some new) = Prim.⊥
KnowsMoreOf (Some old) None = Prim.⊥
KnowsMoreOf (Some old) (Some new) = KnowsMore old new

-- At a place outlets were told of takes, and nothing else was done.
-- each: the outlet of each subscription shows the same, and knows of at least as many takes.
-- same: all else is as it was.
pub record HasHeard (old new : PlaceState) : Type 0 where
  pub topic : new.cells.group.topic ≡ old.cells.group.topic
  pub each : (number : ℕ) → KnowsMoreOf (shown_at number old.cells.group) (shown_at number new.cells.group)
  pub same : new ≡ record old { cells = record old.cells { group = new.cells.group } }

-- ---- what is asked of it

-- one part more is reserved
abbrev pub one_reserved : RoomState → RoomState
one_reserved state = record state { reserved = state.reserved + 1 }

-- so many parts more are reserved
abbrev pub more_reserved : ℕ → RoomState → RoomState
more_reserved more state = record state { reserved = state.reserved + more }

-- one part less is reserved, where one is
abbrev pub one_given_back : RoomState → RoomState
one_given_back state = record state { reserved = state.reserved - 1 }

-- The order in which those who are waited for are asked: by rising number from this one on, and then those
-- below it. So from 5 on, of 0, 5 and 7 first 5, then 7 and 0.
abbrev pub asked_from : ℕ → List ℕ → List ℕ
asked_from start waited = filter (λ number. not (nat_lt number start)) waited ++ filter (λ number. nat_lt number start) waited

-- How many places have to be free in a queue for one part more, of so many octets: for all that are due, and those
-- that it asks for.
abbrev pub wanted : ℕ → ℕ → RoomState → GroupState → ℕ
wanted capacity octets state g = due_at state g + places_for capacity octets

-- Whether one part more, of so many octets, may be reserved, where queues are of this capacity: not where more
-- places are wanted than a queue has; and not where one that is waited for hasn't so many free, of which the first
-- is answered, from this number on. So at capacity 4 with 4 parts due nobody is answered, whoever is waited for, and
-- with 1 due a part that asks for 4 places isn't reserved either.
abbrev pub reserve_answer : ℕ → ℕ → ℕ → RoomState → GroupState → Result Unit (Option ℕ)
reserve_answer capacity octets start state g =
    if nat_lt capacity (wanted capacity octets state g)
    then Err None
    else elim (find (λ number. not (fits (wanted capacity octets state g) g number)) (asked_from start state.waited)) [
      | None ↦ Ok tt
      | Some number ↦ Err (Some number)
    ]

-- those that are waited for and have no room for all that are due are passed over: waited for no longer
abbrev pub passing_over : GroupState → RoomState → RoomState
passing_over g state = record state { waited = filter (fits (due_at state g) g) state.waited }

-- what is left as a part was entered: with a reservation, where there is one, that is used up, and nobody is
-- passed over; else who has no room now is
abbrev pub room_after_enter : Bool → GroupState → RoomState → RoomState
room_after_enter with_reserved g state =
    if with_reserved && nat_lt 0 state.reserved then one_given_back state else passing_over g state

-- this number is waited for
abbrev pub is_waited_for : ℕ → RoomState → Bool
is_waited_for number state = list_any (λ n. n == number) state.waited

-- this number is waited for from now on
abbrev pub waiting_for : ℕ → RoomState → RoomState
waiting_for number state =
    if is_waited_for number state then state
    else record state { waited = insert_by_number (λ n. n) number state.waited }

-- this number is waited for no longer
abbrev pub waiting_without : ℕ → RoomState → RoomState
waiting_without number state = record state { waited = filter (λ n. not (n == number)) state.waited }

-- those that lack room for one part more, of so many octets: they are waited for, and haven't as many places free as
-- are wanted; where the topic itself has no room for it, nobody lacks it
abbrev pub lacking_room : ℕ → ℕ → GroupState → RoomState → List ℕ
lacking_room capacity octets g state =
    if nat_lt capacity (wanted capacity octets state g)
    then []
    else filter (λ number. not (fits (wanted capacity octets state g) g number)) state.waited

-- the list begins with these numbers
abbrev pub BeginsWith : List ℕ → List ℕ → Type 0
BeginsWith numbers list = (rest : List ℕ) × (list ≡ numbers ++ rest)

-- the first of these numbers were added to a list, and the others weren't
abbrev pub IsPushed : List ℕ → List ℕ → List ℕ → Type 0
IsPushed numbers old new = (first others : List ℕ) × (numbers ≡ first ++ others) × (new ≡ old ++ first)

-- the first of those that lack room were added to a list
abbrev pub IsFirstOfLacking : ℕ → ℕ → GroupState → RoomState → List ℕ → List ℕ → Type 0
IsFirstOfLacking capacity octets g state = IsPushed (lacking_room capacity octets g state)

-- ---- a broker's answer

-- No room was reserved at this topic: it has a lock, and there is none; or there was no memory for the list of
-- the topics.
abbrev pub IsRefusedAt : Topic → NoRoom → Type 0
IsRefusedAt asked (no_room.Full topic sub) = (topic ≡ asked) × (topic.0 < max_topics)
IsRefusedAt asked no_room.NoMemory = Unit {0}

-- ---- what keeps room

-- a part was entered
abbrev pub group_entered : Stamp → TopicPart → GroupState → GroupState
group_entered floor part g = record g { topic = after_propose floor part g.topic }

-- the transaction's part was taken out
abbrev pub group_cancelled : TxnId → GroupState → GroupState
group_cancelled id g = record g { topic = after_cancel id g.topic }

-- What keeps room for each that is waited for, at any topic, whatever its sources answer.
-- enter: a part that is entered with a reservation.
-- cancel: a part that is taken out.
-- release: a release.
-- turn: a head's turn.
-- none_lags: so no turn lags one that is waited for.
-- E is how a drain is refused.
pub record StaysRoomy (E : Type 0) : Type 0 where
  pub enter : (state : RoomState) (floor : Stamp) (part : TopicPart) (g : GroupState)
      → KeepsRoom (one_reserved state) g → KeepsRoom state (group_entered floor part g)
  pub cancel : (state : RoomState) (id : TxnId) (g : GroupState)
      → KeepsRoom state g → KeepsRoom state (group_cancelled id g)
  pub release : (state : RoomState) (g new : GroupState)
      → KeepsRoom state g → Releases source_answers g new → KeepsRoom state new
  pub turn : (state : RoomState) (old new : PlaceState) (told : Turned)
      (drained : Result (List LogRow) E)
      → KeepsRoom state old.cells.group → HasTurned old new told drained → KeepsRoom state new.cells.group
  pub none_lags : (state : RoomState) (old new : PlaceState) (told : Turned)
      (drained : Result (List LogRow) E) (number : ℕ)
      → KeepsRoom state old.cells.group → HasTurned old new told drained → In number state.waited
      → subscription_state number new.cells.group.topic ≡ Some SubState.Open
