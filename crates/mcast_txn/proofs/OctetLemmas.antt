-- Octets of SENDs that were looked at so far.
use Rattle.std.proofs.Common.{◌≡◌, ◌+◌, ◌-◌, ◌^◌, min, ℕ, List, length, take, get_or, Some, ap, arith}
use Rattle.std.proofs.lemmas.List.Sums.{sum_by_more}
use Rattle.std.proofs.lemmas.Option.{get_or_from_slice_get, slice_get_within}
use Rattle.std.specs.Prelude.{slice_get}
use Rattle.stomp_frame.specs.Headers.{Header}
use Rattle.mcast_txn.specs.Transaction.{octets_with}

-- the most that a count holds
abbrev pub cap : ℕ → ℕ
cap n = min n (2 ^ 64 - 1)

-- one header more
pub header_more : (headers : List Header) (body : List ℕ) (i octets : ℕ) (h : Header) → slice_get headers i ≡ Some h → octets ≡ cap (octets_with (take i headers) body)
    → cap (cap (octets + length h.0) + length h.1) ≡ cap (octets_with (take (i + 1) headers) body)
header_more headers body i octets h is o =
    let more = sum_by_more (λ (x : Header). length x.0 + length x.1) headers i h (slice_get_within headers i h is) in
    let here : length (get_or headers i h).0 + length (get_or headers i h).1 ≡ length h.0 + length h.1 = ap (λ (x : Header). length x.0 + length x.1) (get_or_from_slice_get headers i h h is) in
    omega (arith, more, here, o)
