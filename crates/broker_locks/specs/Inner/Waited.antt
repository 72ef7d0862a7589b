-- Whoever is waited for, by rising number, and how much room each has.
use Rattle.std.specs.Prelude.{◌≡◌, ◌+◌, ◌&&◌, ◌-◌, ◌∷◌, [], List, nat_lt, ℕ, Bool, true, if◌then◌else◌}
use Rattle.mcast_txn.specs.Lists.{In}
use Rattle.mcast_group.specs.Group.{GroupState}
use Rattle.broker_locks.specs.Room.{RoomState, due_at, fits, waiting_without}

-- what they rise by: their numbers themselves
abbrev pub waited_number : ℕ → ℕ
waited_number n = n

-- each that is waited for takes so many items more than parts are due
abbrev pub HaveSpare : ℕ → RoomState → GroupState → Type 0
HaveSpare spare state g = (number : ℕ) → In number state.waited → fits (due_at state g + spare) g number ≡ true

-- how many more are left as a part was entered: it used one up, where none was reserved for it
abbrev pub spare_after_enter : Bool → RoomState → ℕ → ℕ
spare_after_enter with_reserved state spare = if with_reserved && nat_lt 0 state.reserved then spare else spare - 1

-- none of these numbers is waited for any longer
abbrev pub waiting_without_each : List ℕ → RoomState → RoomState
waiting_without_each [] state = state
waiting_without_each (number ∷ numbers) state = waiting_without_each numbers (waiting_without number state)
