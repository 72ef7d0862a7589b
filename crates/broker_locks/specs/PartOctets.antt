-- Octets of parts: how many of them a topic may have that are due, or untaken in one queue (own).
use Rattle.std.specs.Prelude.{◌≤◌, ◌+◌, ◌-◌, ◌*◌, ◌/◌, nat_lt, max, ℕ, List, [], ◌∷◌, if◌then◌else◌}

-- By so many octets, 17 MiB, a queue's parts are bounded: the k-th has at most as many as that divided by k.
abbrev pub most_octets : ℕ
most_octets = 17 * 1048576

-- The highest rank, from 1, at which a part of so many octets may come in a queue of this capacity. The first may have
-- any. So in a queue of 64 one of 272 KiB may be the 64th, one of 1 MiB the 17th, and one of 9 MiB the first alone.
abbrev pub highest_rank : ℕ → ℕ → ℕ
highest_rank capacity octets =
    if nat_lt most_octets (octets * capacity) then max 1 (most_octets / octets) else capacity

-- How many places have to be free in a queue of this capacity for a part of so many octets: its own, and as many beside
-- it as there are ranks above its highest. So in a queue of 64 one of 272 KiB asks for 1, one of 1 MiB for 48, and one of
-- 9 MiB for all.
abbrev pub places_for : ℕ → ℕ → ℕ
places_for capacity octets = 1 + (capacity - highest_rank capacity octets)

-- Each of these parts, of so many octets, has a rank that it may have, where the first has rank k. They stand in the
-- order in which room was reserved for them. So 3 of 6, 8 and 1 MiB do, and 3 of 6, 1 and 8 MiB don't.
abbrev pub HaveRanks : ℕ → ℕ → List ℕ → Type 0
HaveRanks capacity k [] = Unit {0}
HaveRanks capacity k (octets ∷ parts) = (k ≤ highest_rank capacity octets) × HaveRanks capacity (k + 1) parts

-- the octets of the largest
abbrev pub largest : List ℕ → ℕ
largest [] = 0
largest (octets ∷ parts) = max octets (largest parts)
