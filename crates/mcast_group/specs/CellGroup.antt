-- What a topic shows whose parts learn from the cells of their own flights, and what its calls do.
use Rattle.std.specs.Prelude.{◌≡◌, ℕ, List, [], ◌∷◌, ◌++◌, length, filter, not, Option, Some, IfSome, if◌then◌else◌, Bool}
use Rattle.std.specs.Option.{is_some}
use Rattle.mcast_txn.specs.declared.id.Topic.{Topic}
use Rattle.mcast_txn.specs.declared.id.TxnId.{TxnId}
use Rattle.mcast_txn.specs.declared.stamp.Stamp.{Stamp}
use Rattle.mcast_txn.specs.Ballot.{Decision}
use Rattle.mcast_txn.specs.Flight.{Sight}
use Rattle.mcast_txn.specs.Ids.{same_id, id_lt}
use Rattle.mcast_txn.specs.Lists.{In, insert_before}
use Rattle.mcast_txn.specs.Transaction.{TopicPart}
use Rattle.sub_queue.specs.Shown.{Shown}
use Rattle.mcast_group.specs.Group.{GroupState, Turns}
use Rattle.mcast_group.specs.Machine.{Entry, Pending, new_topic, after_propose, after_cancel}

-- a part that hasn't learnt its stamp: its transaction, and the name of its flight's cell
pub record Waiting : Type 0 where
  pub id : TxnId
  pub cell : ℕ

-- A topic whose parts learn from cells.
-- group: the topic, with the gauges of its outlets.
-- waiting: the parts that haven't learnt their stamp, by rising id.
-- notes: what the notes say by which parts learnt theirs, in the order in which they did.
pub record CellGroupState : Type 0 where
  pub group : GroupState
  pub waiting : List Waiting
  pub notes : List Sight

-- a part that is to be entered: what it says, and the name of its flight's cell
pub record ProposalState : Type 0 where
  pub part : TopicPart
  pub cell : ℕ

-- a topic at which nothing was done
abbrev pub new_cell_group : Topic → ℕ → ℕ → CellGroupState
new_cell_group topic log_limit clock = record {
  group = record { topic = new_topic topic log_limit clock; gauges = [] };
  waiting = [];
  notes = [];
}

-- the ids of the parts that haven't learnt their stamp, in their order
abbrev pub waiting_ids : List Pending → List TxnId
waiting_ids [] = []
waiting_ids (p ∷ ps) = if is_some p.learnt then waiting_ids ps else p.part.id ∷ waiting_ids ps

-- w among parts that rise by id
abbrev pub insert_waiting : Waiting → List Waiting → List Waiting
insert_waiting w = insert_before (λ v. id_lt w.id v.id) w

-- the parts but this transaction's
abbrev pub waiting_without : TxnId → List Waiting → List Waiting
waiting_without id ws = filter (λ w. not (same_id w.id id)) ws

-- a part that was entered waits to learn its stamp
abbrev pub cell_group_after_propose : Stamp → ProposalState → CellGroupState → CellGroupState
cell_group_after_propose floor proposal g = record g {
  group = record g.group { topic = after_propose floor proposal.part g.group.topic };
  waiting = insert_waiting (record { id = proposal.part.id; cell = proposal.cell }) g.waiting;
}

-- a part that was taken out waits no longer
abbrev pub cell_group_after_cancel : TxnId → CellGroupState → CellGroupState
cell_group_after_cancel id g = record g {
  group = record g.group { topic = after_cancel id g.group.topic };
  waiting = waiting_without id g.waiting;
}

-- The verdict was read in the cell of the part's own flight.
-- waited: the part waited, with this cell.
-- noted: among the notes is one of this cell, which knows the verdict.
-- So where part 7 waited with cell 3, a note (3, v) says that v is its own; a note (4, v) doesn't.
pub record ReadsOwn (waiting : List Waiting) (notes : List Sight) (part : TopicPart) (verdict : Decision)
    : Type 0 where
  pub cell : ℕ
  pub waited : In (record { id = part.id; cell = cell }) waiting
  pub noted : In (record { cell = cell; known = Some verdict }) notes

-- where a verdict was found for a part, it was read in the cell of the part's own flight
abbrev pub IsRead : List Waiting → List Sight → TopicPart → Option Decision → Type 0
IsRead waiting notes part found = IfSome found (ReadsOwn waiting notes part)

-- A turn of a topic whose parts learn from cells.
-- taken: the notes that it took.
-- turns: it is a turn, in which each part that learnt did so by a note that it took of its own flight's cell.
-- kept: the notes are kept, after those that there were.
-- stays: a part that waits after it waited before, with the same cell.
pub record CellTurns (may : Shown → Bool → Type 0) (g new : CellGroupState) : Type 0 where
  pub taken : List Sight
  pub turns : Turns may (IsRead g.waiting taken) g.group new.group
  pub kept : new.notes ≡ g.notes ++ taken
  pub stays : (w : Waiting) → In w new.waiting → In w g.waiting

-- how many subscriptions are open: those that haven't lagged
abbrev pub open_count : List Entry → ℕ
open_count es = length (filter (λ e. not (is_some e.to)) es)
