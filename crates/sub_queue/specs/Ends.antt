-- The ends of a queue that two threads share.
use Rattle.std.specs.Prelude.{ℕ, List, [], ◌∷◌, ◌++◌, Some}
use Rattle.crossbeam_queue.specs.Passes.{Pass}
use Rattle.mcast_txn.specs.Span.{Item}
use Rattle.sub_queue.specs.Shown.{Shown}
use Rattle.sub_queue.specs.declared.rule.Knowledge.{Knowledge}

-- the type of a function's results
abbrev ResultType : {A B : Type 0} → (A → B) → Type 0
ResultType {A} {B} f = B

-- what tells a queue from any other: the table that has the passes of its ends
abbrev pub QueueId : Type 0
QueueId = ResultType (λ (pass : Pass Item Knowledge). pass.table_id)

-- An end of a queue.
-- queue: which queue it is.
-- capacity: the queue holds at most this many items.
-- items: those that this end pushed, or those that it took, in order.
-- told: the end that pushes was told that this many of its items were taken; 0 of the end that takes.
pub record End : Type 0 where
  pub queue : QueueId
  pub capacity : ℕ
  pub items : List Item
  pub told : ℕ

-- What is known of a queue's taken items.
-- queue: which queue it is.
-- count: so many items were taken, at least.
pub record TakenCount : Type 0 where
  pub queue : QueueId
  pub count : ℕ

-- one more item at the end of the list
abbrev pub with_item : Item → End → End
with_item item e = record e { items = e.items ++ item ∷ [] }

-- what a source shows: the items that it pushed, and how many it was told to be taken
abbrev pub shown_of_source : End → Shown
shown_of_source e =
    record { accepted = e.items; gauge = record { capacity = e.capacity; taken = Some e.told } }
