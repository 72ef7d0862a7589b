-- A subscription's outlet is told how many of its items were taken: its gauge alone changes.
use Rattle.std.proofs.Common.{◌≡◌, ℕ, zero, suc, ◌<◌, ◌==◌, Bool, true, false, true≢false, ◌||◌, List, [], ◌∷◌, map, length, get_or, set, Option, Some, None, refl, sym, ap, ◌∙◌, arith}
use Rattle.std.specs.List.{list_any, position}
use Rattle.std.specs.Prelude.{if◌then◌else◌}
use Rattle.std.specs.Option.{option_map}
use Rattle.std.proofs.lemmas.List.Quantifiers.{position-Some}
use Rattle.sub_queue.specs.Shown.{Shown, Gauge, shown_told}
use Rattle.mcast_group.specs.declared.subscription.Subscription.{Subscription}
use Rattle.mcast_group.specs.Machine.{Entry, TopicState, find_entry}
use Rattle.mcast_group.specs.Group.{GroupState, gauge_at, gauges_told, group_told, shown_at, shown_with}
use Rattle.mcast_group.specs.Inner.GroupInvariant.{entry_of, gauge_of}
use Rattle.mcast_group.proofs.Indices.{none_at}
use Rattle.mcast_group.proofs.Subscribing.{ends_found, flip_true, flip_false}

-- an item of a list that has one at an index
pub some_of : {X : Type 0} (xs : List X) (i : ℕ) → i < length xs → X
some_of [] i l = absurd (omega arith)
some_of (x ∷ xs) i l = x

-- the gauge of the first subscription of a number is told
told_gauges : {Q : Type 0} (shown : Q → Shown) (n taken : ℕ) (subs : List (Subscription Q)) (i : ℕ) (d new : Subscription Q) → i < length subs → ((get_or subs i d).number == n) ≡ true → ((k : ℕ) → k < i → ((get_or subs k d).number == n) ≡ false) → shown new.outlet ≡ shown_told taken (shown (get_or subs i d).outlet) → gauges_told n taken (map (entry_of shown) subs) (map (gauge_of shown) subs) ≡ map (gauge_of shown) (set subs i new)
told_gauges shown n taken [] i d new l e f r = absurd (omega arith)
told_gauges shown n taken (s ∷ subs) zero d new l e f r =
    let m = flip_true s.number n e in
    rw m (ap (λ (z : Shown). z.gauge ∷ map (gauge_of shown) subs) (sym r))
told_gauges shown n taken (s ∷ subs) (suc i) d new l e f r =
    let a : (s.number == n) ≡ false = f zero (omega arith) in
    let b = flip_false s.number n a in
    let ih = told_gauges shown n taken subs i d new (omega arith) e (λ k m. f (suc k) (omega arith)) r in
    rw b (ap (λ (rs : List Gauge). gauge_of shown s ∷ rs) ih)

-- the gauges after that: those with its subscription replaced by the one that was told
pub told_at : {Q : Type 0} (shown : Q → Shown) (n taken : ℕ) (subs : List (Subscription Q)) (i : ℕ) (d new : Subscription Q) → position (λ (z : Subscription Q). z.number == n) subs ≡ Some i → shown new.outlet ≡ shown_told taken (shown (get_or subs i d).outlet) → gauges_told n taken (map (entry_of shown) subs) (map (gauge_of shown) subs) ≡ map (gauge_of shown) (set subs i new)
told_at {Q = Q} shown n taken subs i d new e r =
    let k = position-Some (λ (z : Subscription Q). z.number == n) subs i d e in
    told_gauges shown n taken subs i d new k.0 k.1 k.2 r

-- where no subscription has the number, each gauge stays
none_told : {Q : Type 0} (shown : Q → Shown) (n taken : ℕ) (subs : List (Subscription Q)) → list_any (λ (z : Subscription Q). z.number == n) subs ≡ false → gauges_told n taken (map (entry_of shown) subs) (map (gauge_of shown) subs) ≡ map (gauge_of shown) subs
none_told shown n taken [] h = refl
none_told {Q = Q} shown n taken (s ∷ subs) h = go (none_told shown n taken subs) (s.number == n) refl h
  where
    go : (list_any (λ (z : Subscription Q). z.number == n) subs ≡ false → gauges_told n taken (map (entry_of shown) subs) (map (gauge_of shown) subs) ≡ map (gauge_of shown) subs) → (b : Bool) → (s.number == n) ≡ b → (b || list_any (λ (z : Subscription Q). z.number == n) subs) ≡ false → gauges_told n taken (map (entry_of shown) (s ∷ subs)) (map (gauge_of shown) (s ∷ subs)) ≡ map (gauge_of shown) (s ∷ subs)
    go ih true k e = absurd (true≢false e)
    go ih false k e =
        let b = flip_false s.number n k in
        rw b (ap (λ (rs : List Gauge). gauge_of shown s ∷ rs) (ih e))

-- the same, by the index of the number
pub untold : {Q : Type 0} (shown : Q → Shown) (n taken : ℕ) (subs : List (Subscription Q)) → position (λ (z : Subscription Q). z.number == n) subs ≡ None → gauges_told n taken (map (entry_of shown) subs) (map (gauge_of shown) subs) ≡ map (gauge_of shown) subs
untold {Q = Q} shown n taken subs e = none_told shown n taken subs (none_at (λ (z : Subscription Q). z.number == n) subs e)

-- the gauge after that
abbrev told : ℕ → Gauge → Gauge
told taken own = record own { taken = Some taken }

-- the gauge of a number after its outlet was told
gauge_after : (n taken : ℕ) (es : List Entry) (gauges : List Gauge) → gauge_at n es (gauges_told n taken es gauges) ≡ option_map (told taken) (gauge_at n es gauges)
gauge_after n taken [] gauges = refl
gauge_after n taken (e ∷ es) [] = refl
gauge_after n taken (e ∷ es) (own ∷ gauges) = go (n == e.number) refl (gauge_after n taken es gauges)
  where
    go : (b : Bool) → (n == e.number) ≡ b → gauge_at n es (gauges_told n taken es gauges) ≡ option_map (told taken) (gauge_at n es gauges) → gauge_at n (e ∷ es) (if b then told taken own ∷ gauges else own ∷ gauges_told n taken es gauges) ≡ option_map (told taken) (if b then Some own else gauge_at n es gauges)
    go true k ih = ap (λ (b : Bool). if b then Some (told taken own) else gauge_at n es gauges) k
    go false k ih = ap (λ (b : Bool). if b then Some own else gauge_at n es (gauges_told n taken es gauges)) k ∙ ih

-- what the outlet of a number shows after it was told, if there is one
pub shown_after_told : (n taken : ℕ) (g : GroupState) → shown_at n (group_told n taken g) ≡ option_map (shown_told taken) (shown_at n g)
shown_after_told n taken g =
    ap (shown_with (find_entry n g.topic.subscriptions)) (gauge_after n taken g.topic.subscriptions g.gauges)
    ∙ go (find_entry n g.topic.subscriptions) (gauge_at n g.topic.subscriptions g.gauges)
  where
    go : (e : Option Entry) (own : Option Gauge) → shown_with e (option_map (told taken) own) ≡ option_map (shown_told taken) (shown_with e own)
    go None own = refl
    go (Some e) None = refl
    go (Some e) (Some own) = refl

-- what the outlet of the subscription at a number's index shows, by the group
pub shown_found : {Q : Type 0} (shown : Q → Shown) (n : ℕ) (subs : List (Subscription Q)) (i : ℕ) (d : Subscription Q) → position (λ (z : Subscription Q). z.number == n) subs ≡ Some i → (x : TopicState) → x.subscriptions ≡ map (entry_of shown) subs → shown_at n (record { topic = x; gauges = map (gauge_of shown) subs }) ≡ Some (shown (get_or subs i d).outlet)
shown_found shown n subs i d at x e =
    let ends = ends_found shown n subs i d at in
    let z = get_or subs i d in
    ap (λ (es : List Entry). shown_with (find_entry n es) (gauge_at n es (map (gauge_of shown) subs))) e
    ∙ (ap (λ (o : Option Entry). shown_with o (gauge_at n (map (entry_of shown) subs) (map (gauge_of shown) subs))) ends.1.found
    ∙ ap (shown_with (Some (entry_of shown z))) ends.1.gauged)
