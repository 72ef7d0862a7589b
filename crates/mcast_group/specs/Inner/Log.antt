-- A log in segments. It only serves proofs.
use Rattle.std.specs.Prelude.{◌≡◌, ℕ, ◌-◌, min, List, [], ◌∷◌, ◌++◌, length}
use Rattle.mcast_txn.specs.Span.{LogRow}

-- a log: its rows, and how many it has room for, with those
pub record LogState : Type 0 where
  pub items : List LogRow
  pub capacity : ℕ

-- the rows of these segments, in order
abbrev pub joined_rows : List (List LogRow) → List LogRow
joined_rows [] = []
joined_rows (s ∷ ss) = s ++ joined_rows ss

-- These segments of this size have n rows in all: each is full, but the last that has rows; those after it
-- have none. So four segments of size 4 with 6 rows in all have 4, 2, 0 and 0 rows.
abbrev pub AreSegments : ℕ → ℕ → List (List LogRow) → Type 0
AreSegments size n [] = n ≡ 0
AreSegments size n (s ∷ ss) = (length s ≡ min size n) × AreSegments size (n - size) ss
