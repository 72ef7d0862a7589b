-- Only serves proofs: octets that need no closer look in a line.
use Rattle.std.specs.Prelude.{◌≡◌, ℕ, ◌≤◌, ◌<◌, ◌==◌, Bool, true, ◌&&◌, nat_le, nat_lt, List, slice_index, if◌then◌else◌}
use Rattle.std.specs.Int.{w64, trailing_zeros}

-- an octet from 14 to 127: of ASCII, and not LF, CR or NULL
abbrev pub is_usual : ℕ → Bool
is_usual b = nat_le 14 b && nat_lt b 128

-- the octets from one index to another are such
abbrev pub AreUsual : List ℕ → ℕ → ℕ → Type 0
AreUsual text from to = (i : ℕ) → from ≤ i → i < to → is_usual (slice_index text i) ≡ true

-- the index of the lowest bit that is set, or 16
abbrev pub first_set : ℕ → ℕ
first_set mask = if mask == 0 then 16 else trailing_zeros w64 mask
