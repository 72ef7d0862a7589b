-- The board of a shared queue: on it the end that takes puts notes of how many items were taken, for the end
-- that pushes. Worked rows are in proofs/Examples.antt.
use Rattle.std.specs.Prelude.{◌≡◌, ℕ, List, [], ◌∷◌, Option, Some, None}
use mathlib.Core.Option.{some}
use lib.ListN.{get_elem?}
use Rattle.crossbeam_queue.specs.Passes.{Pass, view}
use Rattle.sub_queue.specs.Ends.{QueueId, TakenCount}

-- which queue a note is of, if there is a note
abbrev pub queue_of : Option TakenCount → Option QueueId
queue_of None = None
queue_of (Some note) = Some note.queue

-- which queue an end of a board knows its notes to be of, by what its pass carries
abbrev pub known_queue : {T : Type 0} → Pass T (Option TakenCount) → Option QueueId
known_queue pass = queue_of (view pass)

-- each note is of this queue
abbrev pub AreOfQueue : Option QueueId → List TakenCount → Type 0
AreOfQueue queue [] = Unit {0}
AreOfQueue queue (note ∷ notes) = (Some note.queue ≡ queue) × AreOfQueue queue notes

-- The rule, of the notes on the board and of what each end knows, in the order of their numbers: a note that was on it.
-- queue: the queue that all its notes are of; none before the first note.
-- notes_are: each note on it is of that queue.
-- know: each end knows a note of that queue.
-- alone: before the first note there is one end.
pub record IsOfOneQueue (notes : List TakenCount) (ends : List (Option TakenCount)) : Type 0 where
  pub queue : Option QueueId
  pub notes_are : AreOfQueue queue notes
  pub know : (n : ℕ) (v : Option TakenCount) → get_elem? ends n ≡ some v → queue_of v ≡ queue
  pub alone : queue ≡ None → (n : ℕ) (v : Option TakenCount) → get_elem? ends n ≡ some v → n ≡ 0
