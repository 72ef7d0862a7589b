-- What one topic's lock guards: the topic, and beside it counts and, if one is kept, a trace.
use Rattle.std.specs.Prelude.{◌≡◌, ◌==◌, ◌&&◌, ◌+◌, ◌-◌, ◌≤◌, ◌∷◌, nat_lt, ℕ, Bool, false, List, [], length}
use Rattle.std.specs.Prelude.{Option, Some, None, IfSome, if◌then◌else◌, Result, Ok, Err}
use Rattle.std.specs.Option.{option_map}
use Rattle.mcast_txn.specs.declared.id.Topic.{Topic}
use Rattle.mcast_txn.specs.declared.id.TxnId.{TxnId}
use Rattle.mcast_txn.specs.declared.stamp.Stamp.{Stamp}
use Rattle.mcast_txn.specs.declared.parts.part.Part.{Part}
use Rattle.mcast_txn.specs.Flight.{cell_of}
use Rattle.mcast_txn.specs.Part.{data_of, flight_of_part}
use Rattle.mcast_txn.specs.Span.{LogRow}
use Rattle.mcast_txn.specs.TopicSet.{names}
use Rattle.mcast_txn.specs.Transaction.{TopicPart}
use Rattle.sub_queue.specs.Shown.{Shown, Gauge, IsFull}
use Rattle.mcast_group.specs.declared.fault.ProposeFault.{ProposeFault}
use Rattle.mcast_group.specs.declared.fault.ProposeFault.TheVariants.{Twice}
use Rattle.mcast_group.specs.CellGroup.{CellGroupState, CellTurns, ProposalState}
use Rattle.mcast_group.specs.CellGroup.{cell_group_after_cancel, cell_group_after_propose, new_cell_group, open_count}
use Rattle.mcast_group.specs.Group.{HasLeft, group_after_subscribe, group_after_unsubscribe}
use Rattle.mcast_group.specs.declared.ended.Ended.{Ended}
use Rattle.mcast_group.specs.declared.fault.NoSub.{NoSub}
use Rattle.mcast_group.specs.declared.fault.SubFault.{SubFault}
use Rattle.mcast_group.specs.declared.turned.Turned.{Turned}
use Rattle.mcast_group.specs.declared.fault.SubFault.TheVariants.{SubInUse}
use Rattle.mcast_group.specs.Machine.{after_drain, due_part, propose_fault, subscribe_fault, unsubscribe_fault}
use Rattle.mcast_group.specs.Sound.{IsSound}
use Rattle.trace_audit.specs.declared.row.TraceRow.{TraceRow}
use Rattle.broker_locks.specs.KeptTrace.{KeptTrace, KeepsTrace, no_trace, rows_kept, was_used}
use Rattle.broker_locks.specs.KeptTrace.{kept_after_drain, kept_after_subscribe, kept_after_unsubscribe}

-- A place.
-- cells: the topic, with its parts that haven't learnt, each with its flight's cell, and the notes by which
--   the others did.
-- tickets: how many tickets the topic gave.
-- released: how many rows it released.
-- cancelled: how many parts were cancelled there.
-- kept: what is kept for a run's trace, where one is kept.
pub record PlaceState : Type 0 where
  pub cells : CellGroupState
  pub tickets : ℕ
  pub released : ℕ
  pub cancelled : ℕ
  pub kept : Option KeptTrace

-- What a place keeps, so what holds whenever its lock is free.
-- sound: the topic is sound.
-- balance: each ticket's part was released, was cancelled or is pending.
-- clock: each ticket raised the clock.
-- trace: where a trace is kept, it is that of the topic.
pub record IsBalanced (place : PlaceState) : Type 0 where
  pub sound : IsSound place.cells.group.topic
  pub balance : place.tickets ≡ place.released + place.cancelled + length place.cells.group.topic.pending
  pub clock : place.tickets ≤ place.cells.group.topic.clock
  pub trace : IfSome place.kept (KeepsTrace place.cells.group.topic)

-- the most parts and undrained rows of a broker's topic, taken together (our choice)
abbrev pub topic_limit : ℕ
topic_limit = 65536

-- the place of a topic that nothing was done at
abbrev pub new_place : Topic → ℕ → ℕ → Bool → PlaceState
new_place topic log_limit clock keep_trace = record {
  cells = new_cell_group topic log_limit clock;
  tickets = 0;
  released = 0;
  cancelled = 0;
  kept = if keep_trace then Some no_trace else None;
}

-- the rows of a trace for a place
abbrev pub place_rows : PlaceState → List TraceRow
place_rows place = rows_kept place.cells.group.topic place.kept

-- the part is of this topic, which its transaction names
abbrev pub is_part_at : Topic → TopicPart → Bool
is_part_at t part = part.topic.0 == t.0 && names t part.topics

-- why a place gives no ticket: the part isn't of its topic, or the topic gives none
abbrev pub place_fault : Stamp → TopicPart → PlaceState → Option ProposeFault
place_fault floor part place =
    if is_part_at place.cells.group.topic.topic part
    then propose_fault floor part place.cells.group.topic else Some Twice

-- a part as it is proposed: what it says, and the name of its flight's cell
abbrev pub proposal_of : Part → ProposalState
proposal_of part = record { part = data_of part; cell = cell_of (flight_of_part part) }

-- the part is pending and waits to learn from its flight's cell, and one ticket more was given
abbrev pub place_after_propose : Stamp → ProposalState → PlaceState → PlaceState
place_after_propose floor proposal place = record place {
  cells = cell_group_after_propose floor proposal place.cells;
  tickets = place.tickets + 1;
}

-- the transaction's part is pending no longer, and one part more was cancelled
abbrev pub place_after_cancel : TxnId → PlaceState → PlaceState
place_after_cancel id place = record place {
  cells = cell_group_after_cancel id place.cells;
  cancelled = place.cancelled + 1;
}

-- how many rows a topic has released since it was another
abbrev pub rows_since : CellGroupState → CellGroupState → ℕ
rows_since old new = length new.group.topic.held - length old.group.topic.held

-- the topic was turned
abbrev pub place_after_turn : CellGroupState → PlaceState → PlaceState
place_after_turn turned place =
    record place { cells = turned; released = place.released + rows_since place.cells turned }

-- the topic's log was drained
abbrev pub cells_after_drain : CellGroupState → CellGroupState
cells_after_drain cells =
    record cells { group = record cells.group { topic = after_drain cells.group.topic } }

-- the log was drained
abbrev pub place_after_drain : PlaceState → PlaceState
place_after_drain place = record place {
  cells = cells_after_drain place.cells;
  kept = option_map (kept_after_drain place.cells.group.topic.held) place.kept;
}

-- a source may refuse an item only where as many items as its capacity may be untaken
abbrev pub source_answers : Shown → Bool → Type 0
source_answers shown answer = answer ≡ false → IsFull shown

-- the rows that a drain gives to its caller: those of the log, but where a trace keeps them
abbrev pub rows_given : PlaceState → List LogRow
rows_given place = elim place.kept [ None ↦ place.cells.group.topic.held | Some kept ↦ [] ]

-- what a drain leaves of a place: the log was drained where there was memory, and its rows are the answer
abbrev pub DrainLeaves : {E : Type 0} → PlaceState → Result (List LogRow) E → PlaceState → Type 0
DrainLeaves place (Ok rows) new = (rows ≡ rows_given place) × (new ≡ place_after_drain place)
DrainLeaves place (Err fault) new = new ≡ place

-- A head's turn of a place.
-- turned: the topic after the turn, before its log was drained.
-- turns: it is a turn of the topic, in which each part that learnt did so by a note that was taken of its own
--   flight's cell; these notes are kept, after those that there were. So where a part waits with cell 7, a
--   note (7, v) gives it the stamp of v, and no other note gives it any.
-- released: it is told how many rows were released.
-- lagged: it is told whether fewer subscriptions are open than before.
-- leaves: the place is left with it, and the log was drained where there was memory.
pub record HasTurned {E : Type 0} (old new : PlaceState) (told : Turned) (drained : Result (List LogRow) E)
    : Type 0 where
  pub turned : CellGroupState
  pub turns : CellTurns source_answers old.cells turned
  pub released : told.released ≡ rows_since old.cells turned
  pub lagged : told.lagged
      ≡ nat_lt (open_count turned.group.topic.subscriptions) (open_count old.cells.group.topic.subscriptions)
  pub leaves : DrainLeaves (place_after_turn turned old) drained new

-- nothing is due at the place, and no row is held
abbrev pub IsIdle : PlaceState → Type 0
IsIdle place = (due_part place.cells.group.topic ≡ None) × (place.cells.group.topic.held ≡ [])

-- a head's turn that changed nothing: no row was released or drained, and memory wasn't refused
abbrev pub HasDoneNothing : {E : Type 0} → PlaceState → PlaceState → Turned → Result (List LogRow) E → Type 0
HasDoneNothing old new told drained =
    (new ≡ old) × (told ≡ record { released = 0; lagged = false }) × (drained ≡ Ok [])

-- how many rows were released, with the drained rows that no trace keeps, where there was memory to drain
abbrev pub released_and_drained : {E : Type 0} → Turned → Result (List LogRow) E → Result (ℕ × List LogRow) E
released_and_drained told (Ok rows) = Ok (told.released, rows)
released_and_drained told (Err fault) = Err fault

-- why a subscription doesn't begin: its number is in use, or was used where a trace is kept
abbrev pub place_subscribe_fault : ℕ → PlaceState → Option SubFault
place_subscribe_fault number place =
    if was_used number place.kept then Some SubInUse else subscribe_fault number place.cells.group.topic

-- a subscription of this number began, with an outlet of this gauge
abbrev pub place_after_subscribe : ℕ → Gauge → PlaceState → PlaceState
place_after_subscribe number gauge place = record place {
  cells = record place.cells { group = group_after_subscribe number gauge place.cells.group };
  kept = option_map (kept_after_subscribe number place.cells.group.topic.frontier) place.kept;
}

-- the subscription of this number was ended
abbrev pub place_after_unsubscribe : ℕ → PlaceState → PlaceState
place_after_unsubscribe number place = record place {
  cells = record place.cells { group = group_after_unsubscribe number place.cells.group };
  kept = option_map (kept_after_unsubscribe number place.cells.group.topic) place.kept;
}

-- The subscription of this number was asked to end: it left this, and was ended; or there is none, and the place is
-- as it was.
abbrev pub EndsOne : {Q : Type 0} → (Q → Shown) → ℕ → Result (Ended Q) NoSub → PlaceState → PlaceState → Type 0
EndsOne shown number (Ok left) old new =
    HasLeft number old.cells.group (shown left.outlet) left.to left.cause
    × (new ≡ place_after_unsubscribe number old)
EndsOne shown number (Err fault) old new =
    (unsubscribe_fault number old.cells.group.topic ≡ Some fault) × (new ≡ old)

-- The subscriptions of these numbers were asked to end, one after the other, each with its answer.
-- So where 5 is asked to end twice, the second answer is that there is none.
abbrev pub EndsInOrder : {Q : Type 0} → (Q → Shown) → List ℕ → List (Result (Ended Q) NoSub) → PlaceState → PlaceState
    → Type 0
EndsInOrder shown [] [] old new = new ≡ old
EndsInOrder shown (number ∷ numbers) (answer ∷ answers) old new =
    (between : PlaceState) × EndsOne shown number answer old between × EndsInOrder shown numbers answers between new
EndsInOrder shown [] (answer ∷ answers) old new = Prim.⊥
EndsInOrder shown (number ∷ numbers) [] old new = Prim.⊥
