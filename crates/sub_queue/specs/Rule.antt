-- The rule of a queue that two threads share: what was pushed is what was taken and then what the queue
-- holds, and it rises strictly in stamp. One end pushes and knows what was pushed; one takes and knows what
-- was taken. Worked rows are in proofs/Examples.antt.
use Rattle.std.specs.Prelude.{◌≡◌, ◌≤◌, ℕ, Bool, true, false, List, [], ◌∷◌, ◌++◌, length, drop}
use mathlib.Core.Option.{some}
use lib.ListN.{get_elem?}
use Rattle.crossbeam_queue.specs.Passes.{Pass, view}
use Rattle.mcast_txn.specs.Lists.{Rises}
use Rattle.mcast_txn.specs.Span.{Item, item_stamp}
use Rattle.sub_queue.specs.declared.rule.Knowledge.{Knowledge}

-- what an end knows, which its pass carries
abbrev pub knowledge_of : {T : Type 0} → Pass T Knowledge → Knowledge
knowledge_of pass = view pass

-- what an end knows, in order: whether it pushes, what was pushed, whether it takes, what was taken
abbrev pub knowledge : Bool → List Item → Bool → List Item → Knowledge
knowledge pushes pushed takes taken = record {
  pushes = pushes;
  pushed = pushed;
  takes = takes;
  taken = taken;
}

-- an end that pushes alone, and knows what was pushed
abbrev pub pusher_knowledge : List Item → Knowledge
pusher_knowledge pushed = knowledge true pushed false []

-- an end that takes alone, and knows what was taken
abbrev pub taker_knowledge : List Item → Knowledge
taker_knowledge taken = knowledge false [] true taken

-- what neither pushes nor takes, and knows that these items were taken
abbrev pub witness_knowledge : List Item → Knowledge
witness_knowledge taken = knowledge false [] false taken

-- an end that neither pushes nor takes
abbrev pub no_knowledge : Knowledge
no_knowledge = knowledge false [] false []

-- it knows now that these items were taken
abbrev pub knowing_taken : List Item → Knowledge → Knowledge
knowing_taken taken v = record v { taken = taken }

-- one more item was pushed
abbrev pub after_pushing : Item → Knowledge → Knowledge
after_pushing item v = record v { pushed = v.pushed ++ item ∷ [] }

-- one more item was taken
abbrev pub after_taking : Item → Knowledge → Knowledge
after_taking item v = record v { taken = v.taken ++ item ∷ [] }

-- the list begins with these items
abbrev pub BeginsWithItems : List Item → List Item → Type 0
BeginsWithItems items list = (rest : List Item) × (list ≡ items ++ rest)

-- What the end of this number knows agrees with what was pushed and taken.
-- pushes: if it pushes, it is the source, and knows what was pushed.
-- takes: if it takes, it is the taker, and knows all that was taken.
-- known: what was taken begins with the items of which it knows that.
pub record Agrees (source taker : ℕ) (pushed taken : List Item) (n : ℕ) (v : Knowledge) : Type 0 where
  pub pushes : v.pushes ≡ true → (n ≡ source) × (v.pushed ≡ pushed)
  pub takes : v.takes ≡ true → (n ≡ taker) × (v.taken ≡ taken)
  pub known : BeginsWithItems v.taken taken

-- The rule, of what the queue holds and of what each end knows, in the order of their numbers.
-- source: the number of the end that may push.
-- taker: the number of the end that may take.
-- order: what was pushed is what was taken and then what the queue holds.
-- rises: it rises strictly in stamp.
-- agree: what each end knows agrees with this.
pub record IsInOrder (items : List Item) (ends : List Knowledge) : Type 0 where
  pub source : ℕ
  pub taker : ℕ
  pub pushed : List Item
  pub taken : List Item
  pub order : pushed ≡ taken ++ items
  pub rises : Rises item_stamp pushed
  pub agree : (n : ℕ) (v : Knowledge) → get_elem? ends n ≡ some v → Agrees source taker pushed taken n v

-- What was pushed ends with these items, and none of them is one of which is known that it was taken.
-- So of 1, 2 and 3, where 1 is known to be taken, these may be 2 and 3, or 3 alone, or none.
abbrev pub EndsUntaken : List Item → Knowledge → Type 0
EndsUntaken items v = (front : List Item) × (v.pushed ≡ front ++ items) × (length v.taken ≤ length front)

-- what was pushed and not taken: of 5 items of which 3 were taken, the last 2
abbrev pub rest_of : Knowledge → List Item
rest_of v = drop (length v.taken) v.pushed

-- what was taken is a front of what was pushed
abbrev pub IsFront : Knowledge → Type 0
IsFront v = v.pushed ≡ v.taken ++ rest_of v
