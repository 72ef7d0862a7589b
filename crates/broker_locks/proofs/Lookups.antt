-- A subscription's entry and gauge, after each change of a group.
use Rattle.std.proofs.Common.{◌≡◌, ◌≢◌, ℕ, ◌<◌, ◌≤◌, ◌==◌, nat_lt, not, Bool, true, false, cond, inl, inr, List, [], ◌∷◌, ◌++◌, map, Option, Some, None, refl, sym, ap, subst, ◌∙◌, arith}
use Rattle.std.specs.List.{AllByRecursion, filter}
use Rattle.std.proofs.lemmas.Bool.{ne_eqb, eqb-true, true≢false}
use Rattle.mcast_txn.specs.Lists.{In, RisesBy}
use Rattle.mcast_txn.specs.Span.{Item}
use Rattle.mcast_txn.specs.declared.stamp.Stamp.{Stamp}
use Rattle.sub_queue.specs.Shown.{Gauge, room}
use Rattle.mcast_group.specs.Group.{GroupState, MayAnswer, gauge_at, gauges_told, gauges_with, gauges_without, group_told, shown_at, shown_with, shows}
use Rattle.mcast_group.specs.Machine.{Entry, entry_after, find_entry, insert_entry}
use Rattle.mcast_group.proofs.Parts.{none_some, some_same}
use Rattle.mcast_group.proofs.Queues.{delivered_number}
use Rattle.mcast_group.proofs.Subscribing.{flip_false, flip_true, others_stay}
use Rattle.broker_locks.specs.Place.{source_answers}

-- An open subscription of a number: its entry and its gauge.
pub record Has (number : ℕ) (es : List Entry) (gauges : List Gauge) (entry : Entry) (gauge : Gauge) : Type 0 where
  pub found : find_entry number es ≡ Some entry
  pub gauged : gauge_at number es gauges ≡ Some gauge

-- ---- a release

-- the entry with one item more
abbrev pub entry_with : Item → Entry → Entry
entry_with item e = record e { accepted = e.accepted ++ item ∷ [] }

-- an outlet with room takes the item
takes_it : (takes : Entry → Bool) (e : Entry) (gauge : Gauge) → source_answers (shows e gauge) (takes e) → 1 ≤ room (shows e gauge) → takes e ≡ true
takes_it takes e gauge may fits = go (takes e) refl
  where
    go : (b : Bool) → takes e ≡ b → takes e ≡ true
    go true k = k
    go false k = absurd (omega (arith, fits, may k))

after_taken : (takes : Entry → Bool) (frontier : Stamp) (item : Item) (e : Entry) → e.to ≡ None → takes e ≡ true → entry_after takes frontier item e ≡ entry_with item e
after_taken takes frontier item e o t = go e.to o (takes e) t
  where
    go : (to : Option Stamp) → to ≡ None → (b : Bool) → b ≡ true
        → (elim to [ Some end ↦ e | None ↦ cond b (entry_with item e) (record e { to = Some frontier }) ]) ≡ entry_with item e
    go None k true l = refl
    go None k false l = absurd (true≢false (sym l))
    go (Some end) k b l = none_some end (sym k)

-- An open subscription whose outlet has room gets the item.
pub given : (takes : Entry → Bool) (frontier : Stamp) (item : Item) (n : ℕ) (es : List Entry) (gauges : List Gauge) (entry : Entry) (gauge : Gauge) → MayAnswer source_answers takes es gauges → Has n es gauges entry gauge → entry.to ≡ None → 1 ≤ room (shows entry gauge) → Has n (map (entry_after takes frontier item) es) gauges (entry_with item entry) gauge
given takes frontier item n [] gauges entry gauge may h o fits = none_some entry h.found
given takes frontier item n (e ∷ es) [] entry gauge may h o fits = none_some gauge h.gauged
given takes frontier item n (e ∷ es) (own ∷ gauges) entry gauge may h o fits = go (given takes frontier item n es gauges entry gauge may.1) (e.number == n) refl
  where
    after : Entry
    after = entry_after takes frontier item e

    same : (after.number == n) ≡ (e.number == n)
    same = ap (λ (m : ℕ). m == n) (delivered_number takes frontier item e)

    go : (Has n es gauges entry gauge → entry.to ≡ None → 1 ≤ room (shows entry gauge) → Has n (map (entry_after takes frontier item) es) gauges (entry_with item entry) gauge) → (b : Bool) → (e.number == n) ≡ b → Has n (after ∷ map (entry_after takes frontier item) es) (own ∷ gauges) (entry_with item entry) gauge
    go more true k =
        let flip = flip_true e.number n k in
        let is : e ≡ entry = some_same e entry (sym (rw k refl) ∙ h.found) in
        let owns : own ≡ gauge = some_same own gauge (sym (rw flip refl) ∙ h.gauged) in
        let open_here : e.to ≡ None = ap (λ (z : Entry). z.to) is ∙ o in
        let fits_here : 1 ≤ room (shows e own) = subst (λ (z : Entry). 1 ≤ room (shows z own)) (sym is) (subst (λ (z : Gauge). 1 ≤ room (shows entry z)) (sym owns) fits) in
        let taken = takes_it takes e own (may.0 open_here) fits_here in
        let got : after ≡ entry_with item entry = after_taken takes frontier item e open_here taken ∙ ap (entry_with item) is in
        record {
          found = rw (same ∙ k) (ap Some got);
          gauged = rw (flip_true after.number n (same ∙ k)) (ap Some owns);
        }
    go more false k =
        let flip = flip_false e.number n k in
        let ih = more (record { found = sym (rw k refl) ∙ h.found; gauged = sym (rw flip refl) ∙ h.gauged }) o fits in
        record {
          found = rw (same ∙ k) ih.found;
          gauged = rw (flip_false after.number n (same ∙ k)) ih.gauged;
        }

-- ---- a subscription that begins

-- another subscription stays as one begins
pub beside_new : (n : ℕ) (new : Entry) (its : Gauge) (es : List Entry) (gauges : List Gauge) (entry : Entry) (gauge : Gauge) → new.number ≢ n → Has n es gauges entry gauge → Has n (insert_entry new es) (gauges_with new.number its es gauges) entry gauge
beside_new n new its [] gauges entry gauge differ h = none_some entry h.found
beside_new n new its (e ∷ es) [] entry gauge differ h = none_some gauge h.gauged
beside_new n new its (e ∷ es) (own ∷ gauges) entry gauge differ h = go (beside_new n new its es gauges entry gauge differ) (nat_lt new.number e.number) (e.number == n) refl
  where
    other : (new.number == n) ≡ false
    other = ne_eqb new.number n differ

    go : (Has n es gauges entry gauge → Has n (insert_entry new es) (gauges_with new.number its es gauges) entry gauge) → (before b : Bool) → (e.number == n) ≡ b → Has n (cond before (new ∷ e ∷ es) (e ∷ insert_entry new es)) (cond before (its ∷ own ∷ gauges) (own ∷ gauges_with new.number its es gauges)) entry gauge
    go more true b k = record { found = rw other h.found; gauged = rw (flip_false new.number n other) h.gauged }
    go more false true k =
        let flip = flip_true e.number n k in
        record { found = rw k (sym (rw k refl) ∙ h.found); gauged = rw flip (sym (rw flip refl) ∙ h.gauged) }
    go more false false k =
        let flip = flip_false e.number n k in
        let ih = more (record { found = sym (rw k refl) ∙ h.found; gauged = sym (rw flip refl) ∙ h.gauged }) in
        record { found = rw k ih.found; gauged = rw flip ih.gauged }

-- ---- a subscription that ends

later_differ : (n : ℕ) (e : Entry) (es : List Entry) → AllByRecursion (λ (f : Entry). e.number < f.number) es → (e.number == n) ≡ true → (f : Entry) → In f es → f.number ≢ n
later_differ n e [] all k f i = absurd i
later_differ n e (x ∷ es) all k f (inl is) =
    let same : e.number ≡ n = eqb-true e.number n k in
    let less : e.number < f.number = subst (λ (z : Entry). e.number < z.number) is all.0 in
    λ d. omega (arith, less, same, d)
later_differ n e (x ∷ es) all k f (inr i) = later_differ n e es all.1 k f i

-- another subscription stays as one ends, where they rise by number
pub beside_ended : (n ended : ℕ) (es : List Entry) (gauges : List Gauge) (entry : Entry) (gauge : Gauge) → ended ≢ n → RisesBy (λ (e : Entry). e.number) es → Has n es gauges entry gauge → Has n (filter (λ (e : Entry). not (e.number == ended)) es) (gauges_without ended es gauges) entry gauge
beside_ended n ended [] gauges entry gauge differ rises h = none_some entry h.found
beside_ended n ended (e ∷ es) [] entry gauge differ rises h = none_some gauge h.gauged
beside_ended n ended (e ∷ es) (own ∷ gauges) entry gauge differ rises h = go (beside_ended n ended es gauges entry gauge differ rises.1) (e.number == ended) refl (e.number == n) refl
  where
    rest : (e.number == n) ≡ false → Has n es gauges entry gauge
    rest k = record { found = sym (rw k refl) ∙ h.found; gauged = sym (rw (flip_false e.number n k) refl) ∙ h.gauged }

    go : (Has n es gauges entry gauge → Has n (filter (λ (f : Entry). not (f.number == ended)) es) (gauges_without ended es gauges) entry gauge) → (b : Bool) → (e.number == ended) ≡ b → (c : Bool) → (e.number == n) ≡ c → Has n (filter (λ (f : Entry). not (f.number == ended)) (e ∷ es)) (cond b gauges (own ∷ gauges_without ended es gauges)) entry gauge
    go more true k c l =
        let here : e.number ≡ ended = eqb-true e.number ended k in
        let other : (e.number == n) ≡ false = ne_eqb e.number n (λ d. differ (sym here ∙ d)) in
        let stay = others_stay ended es (later_differ ended e es rises.0 k) in
        rw (k, stay) (rest other)
    go more false k true l =
        let flip = flip_true e.number n l in
        rw k (record { found = rw l (sym (rw l refl) ∙ h.found); gauged = rw flip (sym (rw flip refl) ∙ h.gauged) })
    go more false k false l =
        let ih = more (rest l) in
        rw k (record { found = rw l ih.found; gauged = rw (flip_false e.number n l) ih.gauged })

-- ---- an outlet that is told

-- the gauge of another number stays as an outlet is told
gauge_beside : (n m taken : ℕ) (es : List Entry) (gauges : List Gauge) → n ≢ m → gauge_at m es (gauges_told n taken es gauges) ≡ gauge_at m es gauges
gauge_beside n m taken [] gauges differ = refl
gauge_beside n m taken (e ∷ es) [] differ = refl
gauge_beside n m taken (e ∷ es) (own ∷ gauges) differ = go (n == e.number) refl (m == e.number) refl (gauge_beside n m taken es gauges differ)
  where
    go : (b : Bool) → (n == e.number) ≡ b → (c : Bool) → (m == e.number) ≡ c → gauge_at m es (gauges_told n taken es gauges) ≡ gauge_at m es gauges
        → gauge_at m (e ∷ es) (cond b (record own { taken = Some taken } ∷ gauges) (own ∷ gauges_told n taken es gauges)) ≡ gauge_at m (e ∷ es) (own ∷ gauges)
    go true k true l ih = absurd (differ (eqb-true n e.number k ∙ sym (eqb-true m e.number l)))
    go true k false l ih = rw l refl
    go false k true l ih = rw l refl
    go false k false l ih = rw l ih

-- what another outlet shows stays
pub shown_beside : (n m taken : ℕ) (g : GroupState) → n ≢ m → shown_at m (group_told n taken g) ≡ shown_at m g
shown_beside n m taken g differ = ap (shown_with (find_entry m g.topic.subscriptions)) (gauge_beside n m taken g.topic.subscriptions g.gauges differ)
