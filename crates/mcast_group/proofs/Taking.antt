-- A take of a subscription: its gauge alone changes.
use Rattle.std.proofs.Common.{◌≡◌, ℕ, zero, suc, ◌<◌, ◌≤◌, ◌==◌, Bool, true, false, ◌||◌, inl, inr, ◌⊎◌, List, [], ◌∷◌, map, length, get_or, set, Some, None, refl, sym, ap, subst, ◌∙◌, arith}
use Rattle.std.specs.List.{list_any, position}
use Rattle.std.proofs.lemmas.Bool.{true≢false}
use Rattle.std.proofs.lemmas.List.Quantifiers.{position-Some}
use Rattle.mcast_txn.specs.Lists.{In}
use Rattle.mcast_txn.specs.Stamp.{zero_stamp}
use Rattle.mcast_txn.specs.Transaction.{TopicPart}
use Rattle.mcast_txn.proofs.Members.{In-get_or}
use Rattle.sub_queue.specs.Shown.{Shown, Gauge, gauge_after_take}
use Rattle.sub_queue.specs.declared.vec_outlet.VecOutlet.{VecOutlet}
use Rattle.mcast_group.specs.declared.subscription.Subscription.{Subscription}
use Rattle.mcast_group.specs.Machine.{TopicState}
use Rattle.mcast_group.specs.Counted.{gauges_after_take}
use Rattle.mcast_group.specs.Inner.GroupInvariant.{IsKept, entry_of, gauge_of}
use Rattle.mcast_group.proofs.Indices.{none_at}
use Rattle.mcast_group.proofs.Subscribing.{flip_true, flip_false}

-- a subscription that nothing was given to
abbrev pub some_sub : Subscription VecOutlet
some_sub = record { number = 0; from = zero_stamp; to = None; outlet = record { accepted = []; capacity = 0; taken = 0; spare = 0 } }

-- what is written at an index shows what was there
pub map_set : {X Y : Type 0} (f : X → Y) (xs : List X) (i : ℕ) (x d : X) → f x ≡ f (get_or xs i d) → i < length xs → map f (set xs i x) ≡ map f xs
map_set f [] i x d e l = absurd (omega arith)
map_set f (y ∷ ys) zero x d e l = ap (λ z. z ∷ map f ys) e
map_set f (y ∷ ys) (suc i) x d e l = ap (λ zs. f y ∷ zs) (map_set f ys i x d e (omega arith))

In-set_cases : {X : Type 0} (z x : X) (xs : List X) (i : ℕ) → In z (set xs i x) → In z xs ⊎ (x ≡ z)
In-set_cases z x [] zero h = inl h
In-set_cases z x [] (suc i) h = inl h
In-set_cases z x (y ∷ ys) zero (inl e) = inr e
In-set_cases z x (y ∷ ys) zero (inr h) = inl (inr h)
In-set_cases z x (y ∷ ys) (suc i) (inl e) = inl (inl e)
In-set_cases z x (y ∷ ys) (suc i) (inr h) = elim (In-set_cases z x ys i h) [
  | inl o ↦ inl (inr o)
  | inr m ↦ inr m
]

same_length : {X : Type 0} (xs : List X) (i : ℕ) (x : X) → length xs ≡ length (set xs i x)
same_length [] zero x = refl
same_length [] (suc i) x = refl
same_length (y ∷ ys) zero x = refl
same_length (y ∷ ys) (suc i) x = ap suc (same_length ys i x)

-- the gauge of the first subscription of a number counts one more item as taken
taken_gauges : {Q : Type 0} (shown : Q → Shown) (n : ℕ) (subs : List (Subscription Q)) (i : ℕ) (d new : Subscription Q) → i < length subs → ((get_or subs i d).number == n) ≡ true → ((k : ℕ) → k < i → ((get_or subs k d).number == n) ≡ false) → gauge_of shown new ≡ gauge_after_take (shown (get_or subs i d).outlet) → gauges_after_take n (map (entry_of shown) subs) (map (gauge_of shown) subs) ≡ map (gauge_of shown) (set subs i new)
taken_gauges shown n [] i d new l e f r = absurd (omega arith)
taken_gauges shown n (s ∷ subs) zero d new l e f r =
    let m = flip_true s.number n e in
    rw m (ap (λ (z : Gauge). z ∷ map (gauge_of shown) subs) (sym r))
taken_gauges shown n (s ∷ subs) (suc i) d new l e f r =
    let a : (s.number == n) ≡ false = f zero (omega arith) in
    let b = flip_false s.number n a in
    let ih = taken_gauges shown n subs i d new (omega arith) e (λ k m. f (suc k) (omega arith)) r in
    rw b (ap (λ (rs : List Gauge). gauge_of shown s ∷ rs) ih)

-- the gauges after a take of a number: those with its subscription replaced by the one that took
pub taken_at : {Q : Type 0} (shown : Q → Shown) (n : ℕ) (subs : List (Subscription Q)) (i : ℕ) (d new : Subscription Q) → position (λ (z : Subscription Q). z.number == n) subs ≡ Some i → gauge_of shown new ≡ gauge_after_take (shown (get_or subs i d).outlet) → gauges_after_take n (map (entry_of shown) subs) (map (gauge_of shown) subs) ≡ map (gauge_of shown) (set subs i new)
taken_at {Q = Q} shown n subs i d new e r =
    let k = position-Some (λ (z : Subscription Q). z.number == n) subs i d e in
    taken_gauges shown n subs i d new k.0 k.1 k.2 r

-- where no subscription has the number, each gauge stays
none_taken : {Q : Type 0} (shown : Q → Shown) (n : ℕ) (subs : List (Subscription Q)) → list_any (λ (z : Subscription Q). z.number == n) subs ≡ false → gauges_after_take n (map (entry_of shown) subs) (map (gauge_of shown) subs) ≡ map (gauge_of shown) subs
none_taken shown n [] h = refl
none_taken {Q = Q} shown n (s ∷ subs) h = go (none_taken shown n subs) (s.number == n) refl h
  where
    go : (list_any (λ (z : Subscription Q). z.number == n) subs ≡ false → gauges_after_take n (map (entry_of shown) subs) (map (gauge_of shown) subs) ≡ map (gauge_of shown) subs) → (b : Bool) → (s.number == n) ≡ b → (b || list_any (λ (z : Subscription Q). z.number == n) subs) ≡ false → gauges_after_take n (map (entry_of shown) (s ∷ subs)) (map (gauge_of shown) (s ∷ subs)) ≡ map (gauge_of shown) (s ∷ subs)
    go ih true k e = absurd (true≢false e)
    go ih false k e =
        let b = flip_false s.number n k in
        rw b (ap (λ (rs : List Gauge). gauge_of shown s ∷ rs) (ih e))

-- where no subscription has the number, a take changes no gauge
pub untouched : {Q : Type 0} (shown : Q → Shown) (n : ℕ) (subs : List (Subscription Q)) → position (λ (z : Subscription Q). z.number == n) subs ≡ None → gauges_after_take n (map (entry_of shown) subs) (map (gauge_of shown) subs) ≡ map (gauge_of shown) subs
untouched {Q = Q} shown n subs e = none_taken shown n subs (none_at (λ (z : Subscription Q). z.number == n) subs e)

-- a group keeps what it keeps where the outlet of one subscription has changed, and its spare hasn't fallen
pub kept_changed : {Q : Type 0} (spare : Q → ℕ) (x y : TopicState) (capacity : ℕ) (copies : List (List TopicPart)) (subs : List (Subscription Q)) (i : ℕ) (d new : Subscription Q) → IsKept spare x capacity copies subs → y ≡ x → i < length subs → new.to ≡ (get_or subs i d).to → spare (get_or subs i d).outlet ≤ spare new.outlet → IsKept spare y capacity copies (set subs i new)
kept_changed {Q = Q} spare x y capacity copies subs i d new h e l t m =
    subst (λ (z : TopicState). IsKept spare z capacity copies (set subs i new)) (sym e) (record {
      sound = h.sound;
      room = h.room;
      spares = λ s k o. elim (In-set_cases s new subs i k) [
        | inl a ↦ h.spares s a o
        | inr b ↦ subst (λ (w : Subscription Q). length x.pending ≤ spare w.outlet) b (let had = h.spares (get_or subs i d) (In-get_or subs i d l) (sym t ∙ subst (λ (w : Subscription Q). w.to ≡ None) (sym b) o) in omega arith)
      ];
      copied = h.copied;
    })

-- so it does where the spare is as it was
pub kept_taken : {Q : Type 0} (spare : Q → ℕ) (x y : TopicState) (capacity : ℕ) (copies : List (List TopicPart)) (subs : List (Subscription Q)) (i : ℕ) (d new : Subscription Q) → IsKept spare x capacity copies subs → y ≡ x → i < length subs → new.to ≡ (get_or subs i d).to → spare new.outlet ≡ spare (get_or subs i d).outlet → IsKept spare y capacity copies (set subs i new)
kept_taken spare x y capacity copies subs i d new h e l t m =
    kept_changed spare x y capacity copies subs i d new h e l t (omega arith)
