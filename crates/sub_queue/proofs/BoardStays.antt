-- Each step of a board keeps its rule: the making, a note that is put up or taken down, and the split into two ends.
use Rattle.std.proofs.Common.{◌≡◌, ◌≢◌, ℕ, zero, suc, List, [], ◌∷◌, ◌++◌, set, Option, Some, None, inl, inr, sym, refl, ap, ◌∙◌, subst}
use mathlib.Core.Option.{some, some-injective, some-ne-none}
use lib.ListN.{get_elem?}
use Rattle.crossbeam_queue.specs.Fifo.{Pushes, Pops, PopsFrom, PushesAfter, Forks}
use Rattle.crossbeam_queue.proofs.Lists.{at_set, at_snoc}
use Rattle.sub_queue.specs.Ends.{QueueId, TakenCount}
use Rattle.sub_queue.specs.Inner.Board.{queue_of, AreOfQueue, IsOfOneQueue}

-- a queue is there or it isn't
some-is-not-none : {X : Type 0} (x : X) → Some x ≢ None
some-is-not-none {X} x e = subst there e tt
  where
    there : Option X → Type 0
    there None = Prim.⊥
    there (Some x) = Unit {0}

-- before the first note the board is empty
none_is_empty : (notes : List TakenCount) → AreOfQueue None notes → notes ≡ []
none_is_empty [] are = refl
none_is_empty (note ∷ notes) are = absurd (some-is-not-none note.queue are.0)

-- one note more of the same queue
are_after : (queue : Option QueueId) (notes : List TakenCount) (note : TakenCount) → AreOfQueue queue notes → Some note.queue ≡ queue → AreOfQueue queue (notes ++ note ∷ [])
are_after queue [] note are is = (is, tt)
are_after queue (x ∷ xs) note are is = (are.0, are_after queue xs note are.1 is)

-- an empty board, with one end that knows no note
pub begins : IsOfOneQueue [] (None ∷ [])
begins = record { queue = None; notes_are = tt; know = know; alone = λ _. alone }
  where
    know : (n : ℕ) (v : Option TakenCount) → get_elem? (None ∷ []) n ≡ some v → queue_of v ≡ None
    know zero v at = ap queue_of (sym (some-injective None v at))
    know (suc n) v at = absurd (some-ne-none v (sym at))

    alone : (n : ℕ) (v : Option TakenCount) → get_elem? (None ∷ []) n ≡ some v → n ≡ 0
    alone zero v at = refl
    alone (suc n) v at = absurd (some-ne-none v (sym at))

-- what each end knows, after one of them knows a note of this queue, as the others do
know_after : (queue : Option QueueId) (ends : List (Option TakenCount)) (n : ℕ) (w : Option TakenCount) → queue_of w ≡ queue → ((m : ℕ) (v : Option TakenCount) → m ≢ n → get_elem? ends m ≡ some v → queue_of v ≡ queue)
    → (m : ℕ) (v : Option TakenCount) → get_elem? (set ends n w) m ≡ some v → queue_of v ≡ queue
know_after queue ends n w this others m v at = elim (at_set ends n m w v at) [
  | inl e ↦ ap queue_of (sym e.1) ∙ this
  | inr e ↦ others m v e.0 e.1
]

-- the first note is put up
pub puts_up_first : (capacity n : ℕ) (v : Option TakenCount) (note : TakenCount) → queue_of v ≡ None → Pushes IsOfOneQueue capacity n v note (λ w. queue_of w ≡ Some note.queue)
puts_up_first capacity n v note none notes ends _ h at =
    let unknown : h.queue ≡ None = sym (h.know n v at) ∙ none in (
      Some note,
      record {
        queue = Some note.queue;
        notes_are = subst (λ xs. AreOfQueue (Some note.queue) (xs ++ note ∷ [])) (sym (none_is_empty notes (subst (λ q. AreOfQueue q notes) unknown h.notes_are))) (refl, tt);
        know = know_after (Some note.queue) ends n (Some note) refl (λ m u apart there. absurd (apart (h.alone unknown m u there ∙ sym (h.alone unknown n v at))));
        alone = λ no. absurd (some-is-not-none note.queue no);
      },
      refl,
    )

-- another note of the same queue is put up
pub puts_up : (capacity n : ℕ) (v : Option TakenCount) (note : TakenCount) → queue_of v ≡ Some note.queue → Pushes IsOfOneQueue capacity n v note (λ w. queue_of w ≡ Some note.queue)
puts_up capacity n v note of notes ends _ h at =
    let is : Some note.queue ≡ h.queue = sym of ∙ h.know n v at in (
      v,
      record {
        queue = h.queue;
        notes_are = are_after h.queue notes note h.notes_are is;
        know = know_after h.queue ends n v (h.know n v at) (λ m u _ there. h.know m u there);
        alone = λ no. absurd (some-is-not-none note.queue (is ∙ no));
      },
      of,
    )

-- a note that is taken down is of the queue that the end knows
pub takes_down : (n : ℕ) (v : Option TakenCount) → Pops IsOfOneQueue n v (λ note w. (w ≡ v) × (queue_of v ≡ Some note.queue))
takes_down n v note notes ends h at = (
  v,
  record {
    queue = h.queue;
    notes_are = h.notes_are.1;
    know = know_after h.queue ends n v (h.know n v at) (λ m u _ there. h.know m u there);
    alone = λ no. absurd (some-is-not-none note.queue (h.notes_are.0 ∙ no));
  },
  (refl, h.know n v at ∙ sym h.notes_are.0),
)

-- so is one that makes place for another
pub makes_place : (capacity n : ℕ) (v : Option TakenCount) → PopsFrom IsOfOneQueue capacity n v (λ note w. (w ≡ v) × (queue_of v ≡ Some note.queue))
makes_place capacity n v note notes ends _ h at = takes_down n v note notes ends h at

-- the other is put up then
pub puts_up_after : (capacity n : ℕ) (v : Option TakenCount) (note : TakenCount) → queue_of v ≡ Some note.queue
    → PushesAfter IsOfOneQueue capacity n (λ old w. (w ≡ v) × (queue_of v ≡ Some old.queue)) note (λ u x w. queue_of w ≡ Some x.queue)
puts_up_after capacity n v note of old w popped = puts_up capacity n w note (ap queue_of popped.0 ∙ of)

-- an end that knows a note is split into two that do
pub splits : (n : ℕ) (v : Option TakenCount) (queue : QueueId) → queue_of v ≡ Some queue → Forks IsOfOneQueue n v v v
splits n v queue of notes ends h at =
    let first = set ends n v in
    let same : (m : ℕ) (u : Option TakenCount) → get_elem? first m ≡ some u → queue_of u ≡ h.queue = know_after h.queue ends n v (h.know n v at) (λ m u _ there. h.know m u there) in
    record {
      queue = h.queue;
      notes_are = h.notes_are;
      know = λ m u there. elim (at_snoc first v u m there) [
        | inl e ↦ same m u e
        | inr e ↦ ap queue_of (sym e) ∙ h.know n v at
      ];
      alone = λ no. absurd (some-is-not-none queue (sym of ∙ h.know n v at ∙ no));
    }
