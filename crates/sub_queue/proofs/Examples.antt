-- Worked rows: each is computed from the definitions.
use Rattle.std.specs.Prelude.{◌≡◌, ◌≢◌, ℕ, true, false, [], ◌∷◌, Option, Some, None}
use Rattle.std.proofs.Common.{List, refl, sym, ap, ◌∙◌, subst, zero, suc, true≢false}
use mathlib.Core.Option.{some, some-injective, some-ne-none}
use lib.ListN.{get_elem?}
use Rattle.mcast_txn.specs.Lists.{Rises}
use Rattle.mcast_txn.specs.declared.stamp.Stamp.{Stamp}
use Rattle.mcast_txn.specs.Span.{Item, item_stamp}
use Rattle.sub_queue.specs.declared.rule.Knowledge.{Knowledge}
use Rattle.sub_queue.specs.Rule.{knowledge, pusher_knowledge, taker_knowledge, Agrees, IsInOrder, rest_of}
use Rattle.sub_queue.specs.Ends.{End, QueueId, TakenCount, shown_of_source}
use Rattle.sub_queue.specs.Inner.Board.{IsOfOneQueue, queue_of}
use Rattle.sub_queue.specs.Shown.{Shown, IsAboveLast, after_push, has_room, next_index, gauge_after_take, room, shown_told, untaken}
use Rattle.sub_queue.specs.VecQueue.{VecQueue, after_take, shown_of}
use Rattle.sub_queue.proofs.RisingItems.{rises_after_push}

abbrev stamp : ℕ → Stamp
stamp n = record { n = n; topic = record { 0 = 0 } }

abbrev item : ℕ → Item
item n = record { id = record { sender = record { 0 = 0 }; seq = n }; stamp = stamp n; sends = [] }

-- two items at capacity 2, of which this many were taken
abbrev two : ℕ → VecQueue
two taken = record { accepted = item 1 ∷ item 2 ∷ []; capacity = 2; taken = taken; spare = 0 }

-- two items of an outlet of which nobody knows how many were taken
abbrev two_unknown : Shown
two_unknown = record { accepted = item 1 ∷ item 2 ∷ []; gauge = record { capacity = 2; taken = None } }

no_room_where_full : has_room (shown_of (two 0)) ≡ false
no_room_where_full = refl

room_after_a_take : has_room (shown_of (after_take (two 0))) ≡ true
room_after_a_take = refl

first_is_next : next_index (shown_of (two 0)) ≡ Some 0
first_is_next = refl

second_is_next_after_a_take : next_index (shown_of (after_take (two 0))) ≡ Some 1
second_is_next_after_a_take = refl

none_is_next_after_two : next_index (shown_of (two 2)) ≡ None
none_is_next_after_two = refl

nothing_is_taken_twice : after_take (two 2) ≡ two 2
nothing_is_taken_twice = refl

gauge_with_one_more : gauge_after_take (shown_of (two 1)) ≡ record { capacity = 2; taken = Some 2 }
gauge_with_one_more = refl

gauge_of_all_taken : gauge_after_take (shown_of (two 2)) ≡ record { capacity = 2; taken = Some 2 }
gauge_of_all_taken = refl

one_is_untaken : untaken (shown_of (two 1)) ≡ 1
one_is_untaken = refl

all_may_be_untaken : untaken two_unknown ≡ 2
all_may_be_untaken = refl

no_room_is_left : room (shown_of (two 0)) ≡ 0
no_room_is_left = refl

room_for_one_after_a_take : room (shown_of (after_take (two 0))) ≡ 1
room_for_one_after_a_take = refl

room_for_all_after_two : room (shown_of (two 2)) ≡ 2
room_for_all_after_two = refl

-- an outlet that nobody told of a take has no more room by what it knows, and has it once it is told
no_room_is_known : room two_unknown ≡ 0
no_room_is_known = refl

gauge_once_told : (shown_told 1 two_unknown).gauge ≡ record { capacity = 2; taken = Some 1 }
gauge_once_told = refl

items_stay_where_told : (shown_told 1 two_unknown).accepted ≡ two_unknown.accepted
items_stay_where_told = refl

room_once_told : room (shown_told 1 two_unknown) ≡ 1
room_once_told = refl

-- of more untaken items than the capacity there is no room, and no less than none
no_room_beyond_full : room (record { accepted = item 1 ∷ item 2 ∷ item 3 ∷ []; gauge = record { capacity = 2; taken = Some 0 } }) ≡ 0
no_room_beyond_full = refl

-- the end that pushes of a queue of two places, which pushed two items and was told that this many of them were taken
abbrev two_pushed : QueueId → ℕ → End
two_pushed queue told = record { queue = queue; capacity = 2; items = item 1 ∷ item 2 ∷ []; told = told }

may_be_full_untold : (queue : QueueId) → has_room (shown_of_source (two_pushed queue 0)) ≡ false
may_be_full_untold queue = refl

has_room_once_told : (queue : QueueId) → has_room (shown_of_source (two_pushed queue 1)) ≡ true
has_room_once_told queue = refl

pushed_at_the_end : (after_push (item 3) two_unknown).accepted ≡ item 1 ∷ item 2 ∷ item 3 ∷ []
pushed_at_the_end = refl

three_is_above_two : IsAboveLast two_unknown.accepted (stamp 3)
three_is_above_two = refl

all_are_above_none : IsAboveLast [] (stamp 0)
all_are_above_none = tt

-- a queue of two threads: of 1, 2 and 4, which were pushed, 1 was taken
abbrev pushed : List Item
pushed = item 1 ∷ item 2 ∷ item 4 ∷ []

abbrev held : List Item
held = item 2 ∷ item 4 ∷ []

held_is_left : rest_of (knowledge true pushed true (item 1 ∷ [])) ≡ held
held_is_left = refl

pushed_rises : Rises item_stamp pushed
pushed_rises =
    rises_after_push (item 1 ∷ item 2 ∷ []) (item 4) (rises_after_push (item 1 ∷ []) (item 2) (rises_after_push [] (item 1) tt tt) refl) refl

in_order : IsInOrder held (pusher_knowledge pushed ∷ taker_knowledge (item 1 ∷ []) ∷ [])
in_order = record {
  source = 0;
  taker = 1;
  pushed = pushed;
  taken = item 1 ∷ [];
  order = refl;
  rises = pushed_rises;
  agree = agree;
}
  where
    agree : (n : ℕ) (v : Knowledge) → get_elem? (pusher_knowledge pushed ∷ taker_knowledge (item 1 ∷ []) ∷ []) n ≡ some v → Agrees 0 1 pushed (item 1 ∷ []) n v
    agree zero v at = subst (Agrees 0 1 pushed (item 1 ∷ []) 0) (some-injective (pusher_knowledge pushed) v at)
        (record { pushes = λ _. (refl, refl); takes = λ no. absurd (true≢false (sym no)); known = (item 1 ∷ [], refl) })
    agree (suc zero) v at = subst (Agrees 0 1 pushed (item 1 ∷ []) 1) (some-injective (taker_knowledge (item 1 ∷ [])) v at)
        (record { pushes = λ no. absurd (true≢false (sym no)); takes = λ _. (refl, refl); known = ([], refl) })
    agree (suc (suc n)) v at = absurd (some-ne-none v (sym at))

-- a note that so many items of this queue were taken
abbrev note : QueueId → ℕ → TakenCount
note queue count = record { queue = queue; count = count }

-- a board with a note of three takes on it, whose ends know the first note
one_queue : (queue : QueueId) → IsOfOneQueue (note queue 3 ∷ []) (Some (note queue 0) ∷ Some (note queue 0) ∷ [])
one_queue queue = record { queue = Some queue; notes_are = (refl, tt); know = know; alone = λ none. absurd (some-queue-is-not-none queue none) }
  where
    some-queue-is-not-none : (queue : QueueId) → Some queue ≢ None
    some-queue-is-not-none queue e = subst there e tt
      where
        there : Option QueueId → Type 0
        there None = Prim.⊥
        there (Some queue) = Unit {0}

    know : (n : ℕ) (v : Option TakenCount) → get_elem? (Some (note queue 0) ∷ Some (note queue 0) ∷ []) n ≡ some v → queue_of v ≡ Some queue
    know zero v at = ap queue_of (sym (some-injective (Some (note queue 0)) v at))
    know (suc zero) v at = ap queue_of (sym (some-injective (Some (note queue 0)) v at))
    know (suc (suc n)) v at = absurd (some-ne-none v (sym at))

-- none that has a note of another queue than its end knows
two_queues : (queue other : QueueId) → queue ≢ other → IsOfOneQueue (note other 3 ∷ []) (Some (note queue 0) ∷ []) → Prim.⊥
two_queues queue other apart h = apart (some-of queue other (h.know 0 (Some (note queue 0)) refl ∙ sym h.notes_are.0))
  where
    some-of : (a b : QueueId) → Some a ≡ Some b → a ≡ b
    some-of a b e = ap (λ (o : Option QueueId). value o) e
      where
        value : Option QueueId → QueueId
        value None = a
        value (Some x) = x
