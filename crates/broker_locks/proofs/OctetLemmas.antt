-- Few octets are due at a topic or untaken in one queue, where each part keeps a rank that it may have.
use Rattle.std.proofs.Common.{◌≡◌, ◌≤◌, ◌<◌, ◌+◌, ◌-◌, ◌*◌, ◌/◌, ◌%◌, nat_lt, not, max, cond, ℕ, zero, suc, Bool, true, false, List, [], ◌∷◌, ◌++◌, length, sum, Option, Some, None, Result, Ok, Err, refl, sym, ap, subst, ◌∙◌, inl, inr, arith}
use Rattle.std.specs.List.{filter, find}
use Rattle.std.specs.Option.{is_some, option_map_or}
use Rattle.std.specs.Result.{is_ok}
use Rattle.std.proofs.lemmas.Bool.{true≢false}
use Rattle.std.proofs.lemmas.Bool.Decides.{nat_tests}
use Rattle.std.proofs.lemmas.List.Sums.{sum_by-cons}
use Rattle.std.proofs.lemmas.Nat.{div-add-mod', le-div, mul-le}
use Rattle.mcast_txn.specs.Lists.{In}
use Rattle.mcast_txn.proofs.Members.{In-append_left, In-append_right, In-filter}
use Rattle.sub_queue.specs.Shown.{Shown, room, untaken}
use Rattle.mcast_group.specs.Group.{GroupState, shown_at}
use Rattle.broker_locks.specs.OctetBounds.{KeepsOctetsFew}
use Rattle.broker_locks.specs.PartOctets.{HaveRanks, highest_rank, largest, most_octets, places_for}
use Rattle.broker_locks.specs.Room.{RoomState, asked_from, due_at, fits, reserve_answer, takes_more, wanted}
use Rattle.broker_locks.proofs.Waiting.{answer_at}

-- ---- a rank

-- one below a rank is no more than a queue has
rank_within : (capacity octets : ℕ) → highest_rank capacity octets ≤ capacity
rank_within capacity octets = go (nat_lt most_octets (octets * capacity)) refl
  where
    some : (c o : ℕ) → most_octets < o * c → 1 ≤ c
    some zero o less = absurd (omega (arith, less))
    some (suc c) o less = omega arith

    below : (c o q r : ℕ) → q * o + r ≡ most_octets → most_octets < o * c → q ≤ c
    below c o q r is less = by (nat_lt c q) refl
      where
        by : (b : Bool) → nat_lt c q ≡ b → q ≤ c
        by true e =
            let more : c ≤ q = grind (arith, nat_tests) in
            let product = mul-le o c o q (omega arith) more in
            let turned : o * q ≡ q * o = omega arith in
            absurd (omega (arith, product, turned, is, less))
        by false e = grind (arith, nat_tests)

    go : (b : Bool) → nat_lt most_octets (octets * capacity) ≡ b → cond b (max 1 (most_octets / octets)) capacity ≤ capacity
    go true e =
        let less : most_octets < octets * capacity = grind (arith, nat_tests) in
        let one = some capacity octets less in
        let all = below capacity octets (most_octets / octets) (most_octets % octets) (div-add-mod' most_octets octets) less in
        omega (arith, one, all)
    go false e = omega arith

-- from the second rank on, as many parts of these octets as the rank says are no more than the most
rank_bounds : (capacity octets k : ℕ) → 2 ≤ k → k ≤ highest_rank capacity octets → k * octets ≤ most_octets
rank_bounds capacity octets k two = go (nat_lt most_octets (octets * capacity)) refl
  where
    few : (q r : ℕ) → q * octets + r ≡ most_octets → k ≤ max 1 q → k * octets ≤ most_octets
    few q r is le =
        let within : k ≤ q = omega (arith, le, two) in
        let product = mul-le k octets q octets within (omega arith) in
        omega (arith, product, is)

    go : (b : Bool) → nat_lt most_octets (octets * capacity) ≡ b → k ≤ cond b (max 1 (most_octets / octets)) capacity → k * octets ≤ most_octets
    go true e le = few (most_octets / octets) (most_octets % octets) (div-add-mod' most_octets octets) le
    go false e le =
        let least : octets * capacity ≤ most_octets = grind (arith, nat_tests) in
        let product = mul-le octets k octets capacity (omega arith) le in
        let turned : octets * k ≡ k * octets = omega arith in
        omega (arith, product, turned, least)

-- ---- ranks of several

-- a part that comes behind others has the rank behind theirs
push_rank : (capacity k octets : ℕ) (parts : List ℕ) → HaveRanks capacity k parts → k + length parts ≤ highest_rank capacity octets → HaveRanks capacity k (parts ++ octets ∷ [])
push_rank capacity k octets [] h le = (here k (highest_rank capacity octets) le, tt)
  where
    here : (a r : ℕ) → a + 0 ≤ r → a ≤ r
    here a r l = omega (arith, l)
push_rank capacity k octets (p ∷ parts) h le =
    (h.0, push_rank capacity (k + 1) octets parts h.1 (next k (length parts) (highest_rank capacity octets) le))
  where
    next : (a n r : ℕ) → a + suc n ≤ r → a + 1 + n ≤ r
    next a n r l = omega (arith, l)

-- ranks may be lower
lower_ranks : (capacity k low : ℕ) (parts : List ℕ) → low ≤ k → HaveRanks capacity k parts → HaveRanks capacity low parts
lower_ranks capacity k low [] le h = tt
lower_ranks capacity k low (p ∷ parts) le h =
    (lower k low (highest_rank capacity p) le h.0, lower_ranks capacity (k + 1) (low + 1) parts (omega (arith, le)) h.1)
  where
    lower : (a b r : ℕ) → b ≤ a → a ≤ r → b ≤ r
    lower a b r l m = omega (arith, l, m)

-- where one leaves, those behind it have lower ones
leave_ranks : (capacity k : ℕ) (before : List ℕ) (octets : ℕ) (behind : List ℕ) → HaveRanks capacity k (before ++ octets ∷ behind) → HaveRanks capacity k (before ++ behind)
leave_ranks capacity k [] octets behind h = lower_ranks capacity (k + 1) k behind (omega arith) h.1
leave_ranks capacity k (p ∷ before) octets behind h = (h.0, leave_ranks capacity (k + 1) before octets behind h.1)

-- ---- how many octets they have

-- as many as so many parts from this rank on may have
abbrev most_from : ℕ → ℕ → ℕ
most_from k zero = 0
most_from k (suc n) = most_octets / k + most_from (k + 1) n

-- parts from the second rank on, up to the 64th
sum_bounds : (capacity k n : ℕ) (parts : List ℕ) → capacity ≤ 64 → 2 ≤ k → k + n ≡ 65 → HaveRanks capacity k parts → sum parts ≤ most_from k n
sum_bounds capacity k n [] few two is h = omega arith
sum_bounds capacity k zero (p ∷ parts) few two is h =
    absurd (too_high k capacity (highest_rank capacity p) is few h.0 (rank_within capacity p))
  where
    too_high : (a c r : ℕ) → a + 0 ≡ 65 → c ≤ 64 → a ≤ r → r ≤ c → Prim.⊥
    too_high a c r e f l m = omega (arith, e, f, l, m)
sum_bounds capacity k (suc n) (p ∷ parts) few two is h =
    let rest = sum_bounds capacity (k + 1) n parts few (omega (arith, two)) (omega (arith, is)) h.1 in
    let product : p * k ≤ most_octets = (let b = rank_bounds capacity p k two h.0 in let turned : p * k ≡ k * p = omega arith in omega (arith, b, turned)) in
    let one = le-div p most_octets k (omega (arith, two)) product in
    let all = sum_by-cons (λ (x : ℕ). x) p parts in
    omega (arith, rest, one, all)

-- those from the second to the 64th rank have at most 64 MiB
most_behind : most_from 2 63 ≤ 64 * 1048576
most_behind = (let is : most_from 2 63 ≡ 66737794 = refl in omega (arith, is))

largest_first : (p : ℕ) (parts : List ℕ) → p ≤ largest (p ∷ parts)
largest_first p parts = omega arith

few_octets : (capacity : ℕ) (parts : List ℕ) → capacity ≤ 64 → HaveRanks capacity 1 parts → sum parts ≤ 64 * 1048576 + largest parts
few_octets capacity [] few h = omega arith
few_octets capacity (p ∷ parts) few h =
    let rest = sum_bounds capacity 2 63 parts few (omega arith) refl h.1 in
    let all = sum_by-cons (λ (x : ℕ). x) p parts in
    let first = largest_first p parts in
    omega (arith, rest, all, first, most_behind)

-- ---- what is reserved

-- who isn't found doesn't pass
not_found : (p : ℕ → Bool) (xs : List ℕ) (n : ℕ) → find p xs ≡ None → In n xs → p n ≡ false
not_found p [] n none i = absurd i
not_found p (x ∷ xs) n none i = go (p x) refl none i (λ f j. not_found p xs n f j)
  where
    go : (b : Bool) → p x ≡ b → cond b (Some x) (find p xs) ≡ None → In n (x ∷ xs) → (find p xs ≡ None → In n xs → p n ≡ false) → p n ≡ false
    go true e f j rest = absurd (true≢false (ap is_some f))
    go false e f (inl is) rest = subst (λ (m : ℕ). p m ≡ false) is e
    go false e f (inr j) rest = rest f j

-- whoever is waited for is asked
waited_asked : (start : ℕ) (xs : List ℕ) (n : ℕ) → In n xs → In n (asked_from start xs)
waited_asked start xs n i = go (nat_lt n start) refl
  where
    go : (b : Bool) → nat_lt n start ≡ b → In n (asked_from start xs)
    go true e = In-append_right n (filter (λ k. not (nat_lt k start)) xs) (filter (λ k. nat_lt k start) xs) (In-filter (λ k. nat_lt k start) n xs i e)
    go false e = In-append_left n (filter (λ k. not (nat_lt k start)) xs) (filter (λ k. nat_lt k start) xs) (In-filter (λ k. not (nat_lt k start)) n xs i (ap not e))

-- Where room is reserved, no more places are wanted than a queue has, and whoever is waited for has them.
record IsReserved (capacity places : ℕ) (state : RoomState) (g : GroupState) : Type 0 where
  few : places ≤ capacity
  all : (n : ℕ) → In n state.waited → fits places g n ≡ true

was_reserved : (capacity places start : ℕ) (state : RoomState) (g : GroupState) → answer_at capacity places start state g ≡ Ok tt → IsReserved capacity places state g
was_reserved capacity places start state g = go (nat_lt capacity places) refl (find (λ n. not (fits places g n)) (asked_from start state.waited)) refl
  where
    passes : (b : Bool) → not b ≡ false → b ≡ true
    passes true e = refl
    passes false e = sym e

    go : (b : Bool) → nat_lt capacity places ≡ b → (o : Option ℕ) → find (λ n. not (fits places g n)) (asked_from start state.waited) ≡ o
        → cond {A = Result Unit (Option ℕ)} b (Err None) (elim o [ None ↦ Ok tt | Some number ↦ Err (Some number) ]) ≡ Ok tt → IsReserved capacity places state g
    go true e o f is = absurd (true≢false (sym (ap is_ok is)))
    go false e (Some n) f is = absurd (true≢false (sym (ap is_ok is)))
    go false e None f is = record {
      few = grind (arith, nat_tests);
      all = λ n i. passes (fits places g n) (not_found (λ m. not (fits places g m)) (asked_from start state.waited) n f (waited_asked start state.waited n i));
    }

-- whose outlet takes so many items more has as many places free
takes_room : (places number : ℕ) (g : GroupState) (shown : Shown) → shown_at number g ≡ Some shown → fits places g number ≡ true → places ≤ room shown
takes_room places number g shown is e = at_least (room shown) (sym (ap (λ (o : Option Shown). option_map_or (takes_more places) o false) is) ∙ e)
  where
    at_least : (r : ℕ) → not (nat_lt r places) ≡ true → places ≤ r
    at_least r t = grind (arith, nat_tests)

reserved_rank : (capacity octets start : ℕ) (state : RoomState) (g : GroupState) (number : ℕ) (shown : Shown) (parts : List ℕ)
    → reserve_answer capacity octets start state g ≡ Ok tt → In number state.waited → shown_at number g ≡ Some shown → shown.gauge.capacity ≡ capacity → length parts ≤ untaken shown + due_at state g
    → HaveRanks capacity 1 parts → HaveRanks capacity 1 (parts ++ octets ∷ [])
reserved_rank capacity octets start state g number shown parts is i at queue few ranks =
    let was = was_reserved capacity (wanted capacity octets state g) start state g is in
    let free = takes_room (wanted capacity octets state g) number g shown at (was.all number i) in
    push_rank capacity 1 octets parts ranks (last (highest_rank capacity octets) (length parts) (due_at state g) (untaken shown) shown.gauge.capacity queue few free)
  where
    last : (rank many due behind size : ℕ) → size ≡ capacity → many ≤ behind + due → due + (1 + (capacity - rank)) ≤ size - behind → 1 + many ≤ rank
    last rank many due behind size e m f = omega (arith, e, m, f)

first_rank : (capacity octets start : ℕ) (state : RoomState) (g : GroupState) (parts : List ℕ)
    → reserve_answer capacity octets start state g ≡ Ok tt → length parts ≤ due_at state g → HaveRanks capacity 1 parts → HaveRanks capacity 1 (parts ++ octets ∷ [])
first_rank capacity octets start state g parts is few ranks =
    let was = was_reserved capacity (wanted capacity octets state g) start state g is in
    push_rank capacity 1 octets parts ranks (last (highest_rank capacity octets) (length parts) (due_at state g) few was.few)
  where
    last : (rank many due : ℕ) → many ≤ due → due + (1 + (capacity - rank)) ≤ capacity → 1 + many ≤ rank
    last rank many due m f = omega (arith, m, f)

pub octets_stay_few : KeepsOctetsFew
octets_stay_few = record {
  few = few_octets;
  leaves = λ capacity before octets behind h. leave_ranks capacity 1 before octets behind h;
  reserved = reserved_rank;
  first = first_rank;
}
