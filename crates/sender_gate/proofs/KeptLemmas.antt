-- The entries of kept senders, as contracts see them.
use Rattle.std.proofs.Common.{◌≡◌, ◌≢◌, ◌+◌, ◌<◌, ◌==◌, ℕ, zero, suc, Bool, true, false, cond, if◌then◌else◌, List, [], ◌∷◌, ◌++◌, length, map, get_or, position, slice_get, slice_set, Option, Some, None, is_some, is_none, IfSome, nat_lt, refl, sym, ap, subst, ◌∙◌, arith, Vec, true≢false}
use Rattle.std.proofs.lemmas.Bool.Decides.{nat_tests}
use Rattle.std.proofs.lemmas.List.{append-nil}
use Rattle.std.proofs.lemmas.Option.{none-some}
use Rattle.std.proofs.lemmas.Slice.Eq.{bytes_eq-Decides}
use Rattle.std.specs.declared.alloc.Global.{Global}
use Rattle.std.specs.List.{AllByRecursion, IsDistinct, find, position_or_len}
use Rattle.std.specs.Map.{keys_of, lookup, values_of}
use Rattle.std.specs.Option.{option_and_then}
use Rattle.std.specs.Str.{bytes_eq}
use Rattle.indexmap.specs.IndexMap.{insert_entry, set_value_at}
use Rattle.mcast_txn.specs.declared.id.Sender.{Sender}
use Rattle.mcast_txn.specs.Lists.{RisesBy}
use Rattle.mcast_txn.proofs.Rising.{all-map, all-unmap, rises_alike}
use Rattle.sender_gate.specs.declared.kept_gate.KeptGate.{KeptGate}
use Rattle.sender_gate.specs.Gate.{GateState}
use Rattle.sender_gate.specs.Senders.{KeptSender, SendersState, in_use_by, kept_with, with_new_sender}
use Rattle.sender_gate.specs.Inner.Claims.{IsClaimedAt}
use Rattle.sender_gate.specs.Inner.Stored.{AreNumbered, kept_sender_of, entry_number}

-- a client-id, as the map holds it, and an entry
abbrev pub Key : Type 0
Key = Vec ℕ Global

abbrev pub Entry : Type 0
Entry = Key × KeptGate

-- the test of a key by octets, and the equality of two keys
abbrev pub is_key : List ℕ → Key → Bool
is_key id k = bytes_eq id k.items

abbrev pub same_key : Key → Key → Bool
same_key x y = bytes_eq x.items y.items

-- what is kept, under this client-id
abbrev pub kept_as : List ℕ → KeptGate → KeptSender
kept_as id v = record { client = id; sender = v.sender; gate = v.gate }

abbrev pub the_senders : ℕ → List KeptSender → SendersState
the_senders count kept = record { begun = count; kept = kept }

-- ---- look-ups

-- octets are the same where the test of them passes
pub same_octets : (xs ys : List ℕ) → bytes_eq xs ys ≡ true → xs ≡ ys
same_octets xs ys t = (bytes_eq-Decides xs ys).0 t

-- the test passes of the same octets
pub octets_pass : (xs : List ℕ) → bytes_eq xs xs ≡ true
octets_pass xs = (bytes_eq-Decides xs xs).1 refl

-- a client-id has a kept sender if and only if its key is found
pub found-lookup : (id : List ℕ) (es : List Entry) → is_some (find (λ k. bytes_eq id k.client) (map kept_sender_of es)) ≡ is_some (lookup (is_key id) es)
found-lookup id [] = refl
found-lookup id (e ∷ es) = by (bytes_eq id e.0.items) (found-lookup id es)
  where
    by : (b : Bool) → is_some (find (λ k. bytes_eq id k.client) (map kept_sender_of es)) ≡ is_some (lookup (is_key id) es)
        → is_some (cond b (Some (kept_sender_of e)) (find (λ k. bytes_eq id k.client) (map kept_sender_of es))) ≡ is_some (cond b (Some e.1) (lookup (is_key id) es))
    by true rest = refl
    by false rest = rest

-- what a look-up finds is at its index, and it alone is used by a claim
record IsFoundAt (id : List ℕ) (es : List Entry) (i : ℕ) (v : KeptGate) : Type 0 where
  pub found : find (λ k. bytes_eq id k.client) (map kept_sender_of es) ≡ Some (kept_as id v)
  pub at : slice_get (map kept_sender_of es) i ≡ Some (kept_as id v)
  pub after : map (in_use_by id) (map kept_sender_of es) ≡ slice_set (map kept_sender_of es) i (record (kept_as id v) { gate = None })

not_used : (id : List ℕ) (e : Entry) (b : Bool) → bytes_eq id e.0.items ≡ b → b ≡ false → in_use_by id (kept_sender_of e) ≡ kept_sender_of e
not_used id e true t f = absurd (true≢false f)
not_used id e false t f = rw t refl

others_not_used : (id : List ℕ) (es : List Entry) → AllByRecursion (λ k. bytes_eq id k.items ≡ false) (keys_of es) → map (in_use_by id) (map kept_sender_of es) ≡ map kept_sender_of es
others_not_used id [] all = refl
others_not_used id (e ∷ es) all = rw (not_used id e (bytes_eq id e.0.items) refl all.0, others_not_used id es all.1) refl

found_at : (id : List ℕ) (es : List Entry) (i : ℕ) (v : KeptGate) → IsDistinct same_key (keys_of es)
    → i ≡ position_or_len (is_key id) (keys_of es) → slice_get (values_of es) i ≡ Some v → IsFoundAt id es i v
unfolding IsDistinct
found_at id [] i v distinct index at = absurd (none-some v at)
found_at id (e ∷ es) i v distinct index at = by (bytes_eq id e.0.items) refl i index at (λ j. found_at id es j v distinct.1)
  where
    here : bytes_eq id e.0.items ≡ true → e.1 ≡ v → IsFoundAt id (e ∷ es) 0 v
    here t same =
        let key : id ≡ e.0.items = same_octets id e.0.items t in
        let own : kept_sender_of e ≡ kept_as id v = rw (key, ← same) refl in
        let rest : map (in_use_by id) (map kept_sender_of es) ≡ map kept_sender_of es = others_not_used id es (subst (λ (xs : List ℕ). AllByRecursion (λ k. bytes_eq xs k.items ≡ false) (keys_of es)) (sym key) distinct.0) in
        record {
          found = rw t (ap Some own);
          at = ap Some own;
          after = rw (t, rest) (ap (λ (k : KeptSender). record k { gate = None } ∷ map kept_sender_of es) own);
        }

    later : bytes_eq id e.0.items ≡ false → (j : ℕ) → IsFoundAt id es j v → IsFoundAt id (e ∷ es) (suc j) v
    later f j found = record {
      found = rw f found.found;
      at = found.at;
      after = rw (f, found.after) refl;
    }

    by : (b : Bool) → bytes_eq id e.0.items ≡ b → (i : ℕ) → i ≡ position_or_len (is_key id) (keys_of (e ∷ es)) → slice_get (values_of (e ∷ es)) i ≡ Some v
        → ((j : ℕ) → j ≡ position_or_len (is_key id) (keys_of es) → slice_get (values_of es) j ≡ Some v → IsFoundAt id es j v)
        → IsFoundAt id (e ∷ es) i v
    by true t zero index at rest = here t cc
    by true t (suc i) index at rest = let none : suc i ≡ 0 = rw t at index in absurd (omega (arith, none))
    by false t zero index at rest = let none : 0 ≡ 1 + position_or_len (is_key id) (keys_of es) = rw t at index in absurd (omega (arith, none))
    by false t (suc i) index at rest =
        let next : suc i ≡ 1 + position_or_len (is_key id) (keys_of es) = rw t at index in
        later t i (rest i (omega (arith, next)) at)

-- what the kept sender at an index has, from its entry
pub gate_at : (es : List Entry) (i : ℕ) (v : KeptGate) → slice_get (values_of es) i ≡ Some v → option_and_then (λ (k : KeptSender). k.gate) (slice_get (map kept_sender_of es) i) ≡ v.gate
gate_at [] i v at = absurd (none-some v at)
gate_at (e ∷ es) zero v at = let here : e.1 ≡ v = cc in ap (λ (w : KeptGate). w.gate) here
gate_at (e ∷ es) (suc i) v at = gate_at es i v at

pub sender_at : (es : List Entry) (i : ℕ) (v : KeptGate) (k : KeptSender) → slice_get (values_of es) i ≡ Some v → slice_get (map kept_sender_of es) i ≡ Some k → v.sender ≡ k.sender
sender_at [] i v k at own = absurd (none-some v at)
sender_at (e ∷ es) zero v k at own =
    let here : e.1 ≡ v = cc in
    let there : kept_sender_of e ≡ k = cc in
    ap (λ (w : KeptGate). w.sender) (sym here) ∙ ap (λ (z : KeptSender). z.sender) there
sender_at (e ∷ es) (suc i) v k at own = sender_at es i v k at own

pub gate_same : (es : List Entry) (i : ℕ) (v : KeptGate) (k : KeptSender) → slice_get (values_of es) i ≡ Some v → slice_get (map kept_sender_of es) i ≡ Some k → v.gate ≡ k.gate
gate_same [] i v k at own = absurd (none-some v at)
gate_same (e ∷ es) zero v k at own =
    let here : e.1 ≡ v = cc in
    let there : kept_sender_of e ≡ k = cc in
    ap (λ (w : KeptGate). w.gate) (sym here) ∙ ap (λ (z : KeptSender). z.gate) there
gate_same (e ∷ es) (suc i) v k at own = gate_same es i v k at own

pub number_at : (es : List Entry) (i : ℕ) (v : KeptGate) (n : ℕ) → slice_get (values_of es) i ≡ Some v → ((d : Entry) → entry_number (get_or es i d) ≡ n) → v.sender.0 ≡ n
number_at [] i v n at own = absurd (none-some v at)
number_at (e ∷ es) zero v n at own = let here : e.1 ≡ v = cc in ap (λ (w : KeptGate). w.sender.0) (sym here) ∙ own e
number_at (e ∷ es) (suc i) v n at own = number_at es i v n at own

value_at : (es : List Entry) (i : ℕ) → i < length (keys_of es) → (v : KeptGate) × (slice_get (values_of es) i ≡ Some v)
value_at [] i h = absurd (omega (arith, h))
value_at (e ∷ es) zero h = (e.1, refl)
value_at (e ∷ es) (suc i) h = value_at es i (omega (arith, h))

first_at : (id : List ℕ) (ks : List Key) (i : ℕ) → Some i ≡ position (is_key id) ks → (i ≡ position_or_len (is_key id) ks) × (i < length ks)
first_at id ks i at = by (nat_lt (position_or_len (is_key id) ks) (length ks)) refl at
  where
    by : (b : Bool) → nat_lt (position_or_len (is_key id) ks) (length ks) ≡ b → Some i ≡ cond b (Some (position_or_len (is_key id) ks)) None → (i ≡ position_or_len (is_key id) ks) × (i < length ks)
    by true t at =
        let own : i ≡ position_or_len (is_key id) ks = cc in
        let within : position_or_len (is_key id) ks < length ks = grind (arith, nat_tests) in
        (own, omega (arith, own, within))
    by false t at = absurd (none-some i (sym at))

-- a look-up of a client-id finds the index of the sender that its claim goes on with
pub index_found : (id : List ℕ) (count : ℕ) (es : List Entry) (r : Option ℕ) → r ≡ position (is_key id) (keys_of es) → IsDistinct same_key (keys_of es)
    → IfSome r (IsClaimedAt (Some id) (the_senders count (map kept_sender_of es)))
index_found id count es None at distinct = tt
index_found id count es (Some i) at distinct =
    let first = first_at id (keys_of es) i at in
    let value = value_at es i first.1 in
    let found = found_at id es i value.0 distinct first.0 value.1 in
    record {
      kept = kept_as id value.0;
      found = found.found;
      at = found.at;
      after = rw found.found (ap (the_senders count) found.after);
    }

-- ---- writes

-- an entry's value is written at its index
pub kept_sender_of-set_value_at : (es : List Entry) (i : ℕ) (k : KeptSender) (w : KeptGate) → slice_get (map kept_sender_of es) i ≡ Some k → w.sender ≡ k.sender
    → map kept_sender_of (set_value_at es i w) ≡ slice_set (map kept_sender_of es) i (record k { gate = w.gate })
kept_sender_of-set_value_at [] i k w at own = refl
kept_sender_of-set_value_at (e ∷ es) zero k w at own =
    let here : kept_sender_of e ≡ k = cc in
    let client : e.0.items ≡ k.client = ap (λ (z : KeptSender). z.client) here in
    rw (own, client) refl
kept_sender_of-set_value_at (e ∷ es) (suc i) k w at own = ap (λ (ks : List KeptSender). kept_sender_of e ∷ ks) (kept_sender_of-set_value_at es i k w at own)

-- a value that is written over itself changes nothing
pub set_value_at-same : (es : List Entry) (i : ℕ) (v : KeptGate) → slice_get (values_of es) i ≡ Some v → set_value_at es i v ≡ es
set_value_at-same [] i v at = refl
set_value_at-same (e ∷ es) zero v at = let here : e.1 ≡ v = cc in rw (← here) refl
set_value_at-same (e ∷ es) (suc i) v at = ap (λ (xs : List Entry). e ∷ xs) (set_value_at-same es i v at)

numbers_after_write : (es : List Entry) (i : ℕ) (v w : KeptGate) → slice_get (values_of es) i ≡ Some v → w.sender ≡ v.sender → map entry_number (set_value_at es i w) ≡ map entry_number es
numbers_after_write [] i v w at own = refl
numbers_after_write (e ∷ es) zero v w at own = let here : e.1 ≡ v = cc in rw (own, ← here) refl
numbers_after_write (e ∷ es) (suc i) v w at own = ap (λ (ns : List ℕ). entry_number e ∷ ns) (numbers_after_write es i v w at own)

-- the numbers stay where a gate is written
pub numbered_after_write : (count : ℕ) (es : List Entry) (i : ℕ) (v w : KeptGate) → slice_get (values_of es) i ≡ Some v → w.sender ≡ v.sender → AreNumbered count es → AreNumbered count (set_value_at es i w)
numbered_after_write count es i v w at own numbered =
    let same = numbers_after_write es i v w at own in
    record {
      rise = rises_alike (λ (n : ℕ). n) entry_number entry_number es (set_value_at es i w) (sym same) numbered.rise;
      begun = all-unmap (λ (n : ℕ). n < count) entry_number (set_value_at es i w) (subst (AllByRecursion (λ (n : ℕ). n < count)) (sym same) (all-map (λ (n : ℕ). n < count) entry_number es numbered.begun));
    }

-- ---- a sender that begins

kept_sender_of-push : (es : List Entry) (e : Entry) → map kept_sender_of (es ++ e ∷ []) ≡ map kept_sender_of es ++ kept_sender_of e ∷ []
kept_sender_of-push [] e = refl
kept_sender_of-push (x ∷ es) e = ap (λ (ks : List KeptSender). kept_sender_of x ∷ ks) (kept_sender_of-push es e)

all_with : (P : Entry → Type 0) (es : List Entry) (e : Entry) → AllByRecursion P es → P e → AllByRecursion P (es ++ e ∷ [])
all_with P [] e all own = (own, tt)
all_with P (x ∷ es) e all own = (all.0, all_with P es e all.1 own)

more_begun : (count : ℕ) (es : List Entry) → AllByRecursion (λ (e : Entry). entry_number e < count) es → AllByRecursion (λ (e : Entry). entry_number e < count + 1) es
more_begun count [] all = tt
more_begun count (e ∷ es) all = (omega (arith, all.0), more_begun count es all.1)

-- one more has begun
pub numbered_after_begin : (count : ℕ) (es : List Entry) → AreNumbered count es → AreNumbered (count + 1) es
numbered_after_begin count es numbered = record { rise = numbered.rise; begun = more_begun count es numbered.begun }

rises_with : (es : List Entry) (e : Entry) → AllByRecursion (λ (x : Entry). entry_number x < entry_number e) es → RisesBy entry_number es → RisesBy entry_number (es ++ e ∷ [])
rises_with [] e below rises = (tt, tt)
rises_with (x ∷ es) e below rises = (all_with (λ (y : Entry). entry_number x < entry_number y) es e rises.0 below.0, rises_with es e below.1 rises.1)

-- one more has begun, and is kept
pub numbered_with : (count : ℕ) (es : List Entry) (e : Entry) → entry_number e ≡ count → AreNumbered count es → AreNumbered (count + 1) (es ++ e ∷ [])
numbered_with count es e own numbered = record {
  rise = rises_with es e (subst (λ (n : ℕ). AllByRecursion (λ (x : Entry). entry_number x < n) es) (sym own) numbered.begun) numbered.rise;
  begun = all_with (λ (x : Entry). entry_number x < count + 1) es e (more_begun count es numbered.begun) (omega (arith, own));
}

-- an entry of a client-id that isn't kept yet is put behind the others
pub insert_behind : (es : List Entry) (key : Key) (v : KeptGate) → find (λ k. bytes_eq key.items k.client) (map kept_sender_of es) ≡ None → insert_entry same_key es key v ≡ es ++ (key, v) ∷ []
insert_behind [] key v none = refl
insert_behind (e ∷ es) key v none = by (bytes_eq key.items e.0.items) refl none (insert_behind es key v)
  where
    by : (b : Bool) → bytes_eq key.items e.0.items ≡ b → cond b (Some (kept_sender_of e)) (find (λ k. bytes_eq key.items k.client) (map kept_sender_of es)) ≡ None
        → (find (λ k. bytes_eq key.items k.client) (map kept_sender_of es) ≡ None → insert_entry same_key es key v ≡ es ++ (key, v) ∷ [])
        → insert_entry same_key (e ∷ es) key v ≡ e ∷ (es ++ (key, v) ∷ [])
    by true t none rest = absurd (none-some (kept_sender_of e) (sym none))
    by false t none rest = rw t (ap (λ (xs : List Entry). e ∷ xs) (rest none))

-- the senders with one more, which is kept, or isn't
pub begun_with : (count : ℕ) (es : List Entry) (key : Key) (sender : Sender) (id : List ℕ) → key.items ≡ id → sender.0 ≡ count
    → the_senders (sender.0 + 1) (map kept_sender_of (es ++ (key, record { sender = sender; gate = None }) ∷ [])) ≡ with_new_sender (Some id) (the_senders count (map kept_sender_of es))
begun_with count es key sender id items number = rw (kept_sender_of-push, items, ← number) refl

pub begun_alone : (count : ℕ) (es : List Entry) (sender : Sender) → sender.0 ≡ count
    → the_senders (sender.0 + 1) (map kept_sender_of es) ≡ with_new_sender None (the_senders count (map kept_sender_of es))
begun_alone count es sender number = rw (append-nil (map kept_sender_of es), number) refl

-- ---- a gate that is given back

-- the value, with this gate where it has none
abbrev pub given : GateState → KeptGate → KeptGate
given gate v = if is_none v.gate then record v { gate = Some gate } else v

not_given : (gate : GateState) (e : Entry) → entry_number e ≢ gate.sender.0 → kept_with gate (kept_sender_of e) ≡ kept_sender_of e
not_given gate e other = by (entry_number e == gate.sender.0) refl
  where
    by : (b : Bool) → (entry_number e == gate.sender.0) ≡ b → kept_with gate (kept_sender_of e) ≡ kept_sender_of e
    by true t = absurd (other (let same : entry_number e ≡ gate.sender.0 = grind (arith, nat_tests) in same))
    by false t = rw t refl

-- where no entry has the gate's number, nothing changes
pub none_given : (gate : GateState) (es : List Entry) → AllByRecursion (λ (e : Entry). entry_number e ≢ gate.sender.0) es → map (kept_with gate) (map kept_sender_of es) ≡ map kept_sender_of es
none_given gate [] all = refl
none_given gate (e ∷ es) all = rw (not_given gate e all.0, none_given gate es all.1) refl

is_given : (gate : GateState) (e : Entry) → entry_number e ≡ gate.sender.0 → kept_with gate (kept_sender_of e) ≡ kept_sender_of (e.0, given gate e.1)
is_given gate e own =
    let t : (entry_number e == gate.sender.0) ≡ true = grind (arith, nat_tests) in
    by (is_none e.1.gate) refl t
  where
    by : (b : Bool) → is_none e.1.gate ≡ b → (entry_number e == gate.sender.0) ≡ true → kept_with gate (kept_sender_of e) ≡ kept_sender_of (e.0, given gate e.1)
    by true n t = rw (t, n) refl
    by false n t = rw (t, n) refl

above : (n : ℕ) (x : ℕ) (es : List Entry) → x ≡ n → AllByRecursion (λ (y : Entry). x < entry_number y) es → AllByRecursion (λ (y : Entry). entry_number y ≢ n) es
above n x [] same all = tt
above n x (e ∷ es) same all = ((λ eq. omega (arith, same, eq, all.0)), above n x es same all.1)

below_at : (n x : ℕ) (es : List Entry) (i : ℕ) (v : KeptGate) → slice_get (values_of es) i ≡ Some v → v.sender.0 ≡ n → AllByRecursion (λ (y : Entry). x < entry_number y) es → x ≢ n
below_at n x [] i v at own all = absurd (none-some v at)
below_at n x (e ∷ es) zero v at own all = let here : e.1 ≡ v = cc in let number : entry_number e ≡ n = rw here own in λ eq. omega (arith, number, eq, all.0)
below_at n x (e ∷ es) (suc i) v at own all = below_at n x es i v at own all.1

-- the entry that has the gate's number gets the gate where it has none, and no other changes
pub one_given : (gate : GateState) (es : List Entry) (i : ℕ) (v : KeptGate) → RisesBy entry_number es → slice_get (values_of es) i ≡ Some v → v.sender.0 ≡ gate.sender.0
    → map (kept_with gate) (map kept_sender_of es) ≡ map kept_sender_of (set_value_at es i (given gate v))
one_given gate [] i v rises at own = refl
one_given gate (e ∷ es) zero v rises at own =
    let here : e.1 ≡ v = cc in
    let number : entry_number e ≡ gate.sender.0 = rw here own in
    rw (is_given gate e number, none_given gate es (above gate.sender.0 (entry_number e) es number rises.0), here) refl
one_given gate (e ∷ es) (suc i) v rises at own =
    rw (not_given gate e (below_at gate.sender.0 (entry_number e) es i v at own rises.0), one_given gate es i v rises.1 at own) refl
