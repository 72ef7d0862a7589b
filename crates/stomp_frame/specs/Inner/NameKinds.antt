-- Only serves proofs: kinds of names.
use Rattle.std.specs.Prelude.{◌≡◌, ℕ, ◌+◌, ◌-◌, ◌*◌, ◌%◌, Bool, true, false, List, length, get_or, slice_index}
use Rattle.std.specs.List.{AllByRecursion}
use Rattle.stomp_frame.specs.Headers.{Header}

-- one of 128, by the name's length and its last octet
abbrev pub kind : List ℕ → ℕ
kind name = (length name % 8) * 16 + slice_index name (length name - 1) % 16

-- the kind of each header's name is among these
abbrev pub HaveKinds : List Bool → List Header → Type 0
HaveKinds among headers = AllByRecursion (λ h. get_or among (kind h.0) false ≡ true) headers
