-- Serves proofs only: what a ballot stores, for its model; no public contract cites it.
use Rattle.std.specs.Prelude.{◌≡◌, ℕ, Bool, false, List, map, length, Option, Some, None, if◌then◌else◌}
use Rattle.std.specs.List.{AllByRecursion, zip}
use Rattle.mcast_txn.specs.declared.id.Topic.{Topic}
use Rattle.mcast_txn.specs.declared.stamp.Stamp.{Stamp}
use Rattle.mcast_txn.specs.Slots.{Slots}

-- the row of a topic that gave no number yet
abbrev pub unset_row : Topic → Stamp
unset_row t = record { n = 0; topic = t }

-- the topic of a row, with the row's number where that was given
abbrev pub ticket_slot : Stamp × Bool → Topic × Option ℕ
ticket_slot row = (row.0.topic, if row.1 then Some row.0.n else None)

-- the topics, each with the number that it gave, if it did
abbrev pub ticket_slots : List Stamp → List Bool → Slots ℕ
ticket_slots rows given = map ticket_slot (zip rows given)

-- whether the number was given is known of each row, and where it wasn't, it is 0
pub record AreTickets (rows : List Stamp) (given : List Bool) : Type 0 where
  pub known : length given ≡ length rows
  pub unset : AllByRecursion (λ row. row.1 ≡ false → row.0.n ≡ 0) (zip rows given)
