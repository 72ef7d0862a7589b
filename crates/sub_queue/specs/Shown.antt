-- What an outlet shows. Worked rows are in proofs/Examples.antt.
use Rattle.std.specs.Prelude.{◌≡◌, ℕ, ◌-◌, ◌≤◌, nat_lt, Bool, true, List, [], ◌∷◌, ◌++◌, length}
use Rattle.std.specs.Prelude.{Option, Some, None, IfSome, ◌+◌, if◌then◌else◌}
use Rattle.std.specs.List.{last_or}
use Rattle.mcast_txn.specs.declared.stamp.Stamp.{Stamp}
use Rattle.mcast_txn.specs.Stamp.{stamp_lt}
use Rattle.mcast_txn.specs.Span.{Item}

-- How full an outlet is.
-- capacity: at most this many are untaken.
-- taken: how many are known to be taken, where the outlet can know that.
pub record Gauge : Type 0 where
  pub capacity : ℕ
  pub taken : Option ℕ

-- the items that an outlet accepted, in order, and its gauge
pub record Shown : Type 0 where
  pub accepted : List Item
  pub gauge : Gauge

-- one more item at the end
abbrev pub after_push : Item → Shown → Shown
after_push item s = record s { accepted = s.accepted ++ item ∷ [] }

-- the stamp is above that of the last item, if there is one
abbrev pub IsAboveLast : List Item → Stamp → Type 0
IsAboveLast items stamp = IfSome (last_or None items) (λ item. stamp_lt item.stamp stamp ≡ true)

-- how many items are known to be taken
abbrev pub known_taken : Option ℕ → ℕ
known_taken None = 0
known_taken (Some n) = n

-- how many items aren't known to be taken: of 5 items of which 3 were taken, 2
abbrev pub untaken : Shown → ℕ
untaken s = length s.accepted - known_taken s.gauge.taken

-- fewer items than the capacity are untaken
abbrev pub has_room : Shown → Bool
has_room s = nat_lt (untaken s) s.gauge.capacity

-- as many items as the capacity are untaken
abbrev pub IsFull : Shown → Type 0
IsFull s = s.gauge.capacity ≤ untaken s

-- how many more items it takes, by what it knows: of 5 items of which 3 were taken, at capacity 4, 2
abbrev pub room : Shown → ℕ
room s = s.gauge.capacity - untaken s

-- the outlet knows now that so many of its items were taken
abbrev pub shown_told : ℕ → Shown → Shown
shown_told taken s = record s { gauge = record s.gauge { taken = Some taken } }

-- the index of the next item to take, where one isn't known to be taken: of 5 items of which 3 were taken, 3
abbrev pub next_index : Shown → Option ℕ
next_index s =
    if nat_lt (known_taken s.gauge.taken) (length s.accepted) then Some (known_taken s.gauge.taken) else None

-- the gauge after a take: one more item is taken, where one was left
abbrev pub gauge_after_take : Shown → Gauge
gauge_after_take s = record s.gauge {
  taken = Some (
      if nat_lt (known_taken s.gauge.taken) (length s.accepted) then known_taken s.gauge.taken + 1
      else known_taken s.gauge.taken);
}
