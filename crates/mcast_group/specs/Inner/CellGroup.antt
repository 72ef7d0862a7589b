-- What a topic keeps whose parts learn from cells. It only serves proofs.
use Rattle.std.specs.Prelude.{◌≡◌, ℕ, ◌+◌, ◌≤◌, List, [], ◌∷◌, ◌++◌, map, length, Option, Some, None, IfSome, true}
use Rattle.mcast_txn.specs.Flight.{Sight}
use Rattle.mcast_txn.specs.Ids.{id_lt}
use Rattle.mcast_txn.specs.Lists.{In}
use Rattle.mcast_group.specs.CellGroup.{Waiting, IsRead, waiting_ids}
use Rattle.mcast_group.specs.Group.{GroupState, MayBeFound, TriesAll}
use Rattle.mcast_group.specs.Machine.{HasOneRowEach, after_try, learn_fault}
use Rattle.mcast_group.specs.Sound.{IsSound}
use Rattle.mcast_txn.specs.Ballot.{Decision}

-- What a group of cells keeps.
-- sound: the topic is sound.
-- ids: the parts that wait are those that haven't learnt, in their order.
-- room: there is room for the note of each part that waits.
pub record IsCellsKept (g : GroupState) (waiting : List Waiting) (notes capacity : ℕ) : Type 0 where
  pub sound : IsSound g.topic
  pub ids : map (λ (w : Waiting). w.id) waiting ≡ waiting_ids g.topic.pending
  pub room : length waiting + notes ≤ capacity

-- each id is below the later ones
abbrev pub RisesInId : List Waiting → Type 0
RisesInId [] = Unit {0}
RisesInId (w ∷ ws) = ((v : Waiting) → In v ws → id_lt w.id v.id ≡ true) × RisesInId ws

-- the part waits on, where nothing was found for it
abbrev pub still_waiting : Waiting → Option Decision → List Waiting
still_waiting w None = w ∷ []
still_waiting w (Some v) = []

-- the note that was taken of the part's own cell, where something was found
abbrev pub taken_of : Waiting → Option Decision → List Sight
taken_of w None = []
taken_of w (Some v) = record { cell = w.cell; known = Some v } ∷ []

-- The first part that waited learnt what was found for it; where that was nothing, it waits as the last.
pub record LearnsFirst (g new : GroupState) (waiting after : List Waiting) (notes more : List Sight)
    : Type 0 where
  pub found : Option Decision
  pub first : Waiting
  pub rest : List Waiting
  pub is : waiting ≡ first ∷ rest
  pub may : IfSome found (λ v. HasOneRowEach v × (learn_fault first.id v g.topic ≡ None))
  pub group : new ≡ record g { topic = after_try first.id found g.topic }
  pub left : after ≡ rest ++ still_waiting first found
  pub taken : more ≡ notes ++ taken_of first found

-- Parts that waited learnt from cells.
-- taken: the notes that were taken.
-- tries: the group after each tried to learn what a note taken of its own cell knows.
-- kept, stays: the notes are kept, and those that wait waited before.
-- ids: those that wait are those that haven't learnt.
-- idle: where no note was taken, nothing has changed.
pub record LearnsWaiting (g new : GroupState) (waiting after : List Waiting) (notes more : List Sight)
    : Type 0 where
  pub taken : List Sight
  pub tries : TriesAll (MayBeFound (IsRead waiting taken)) g new
  pub kept : more ≡ notes ++ taken
  pub stays : (w : Waiting) → In w after → In w waiting
  pub ids : map (λ (w : Waiting). w.id) after ≡ waiting_ids new.topic.pending
  pub idle : more ≡ notes → (new ≡ g) × (after ≡ waiting)
