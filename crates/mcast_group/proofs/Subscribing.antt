-- Subscriptions that begin and end.
use Rattle.std.proofs.Common.{◌≡◌, ◌≢◌, ℕ, zero, suc, ◌+◌, ◌<◌, ◌≤◌, ◌==◌, Bool, true, false, cond, not, ◌||◌, inl, inr, nat_lt, List, [], ◌∷◌, map, length, get_or, Some, None, refl, sym, ap, subst, ◌∙◌, arith}
use Rattle.std.specs.List.{list_any, position, remove, filter}
use Rattle.std.specs.Option.{is_some}
use Rattle.std.proofs.lemmas.Bool.Decides.{nat_tests}
use Rattle.mcast_group.proofs.Opens.{open_with}
use Rattle.std.proofs.lemmas.List.Quantifiers.{position-Some}
use Rattle.std.proofs.lemmas.Bool.{eqb-true, ne_eqb}
use Rattle.mcast_txn.proofs.Inserting.{In-insert_cases, map_insert}
use Rattle.mcast_txn.specs.declared.stamp.Stamp.{Stamp}
use Rattle.mcast_txn.specs.Lists.{In}
use Rattle.mcast_txn.specs.Transaction.{TopicPart}
use Rattle.mcast_txn.specs.Span.{LogRow}
use Rattle.mcast_txn.specs.declared.id.Topic.{Topic}
use Rattle.sub_queue.specs.Shown.{Shown, Gauge}
use Rattle.mcast_group.specs.declared.state.SubState.{SubState}
use Rattle.mcast_group.specs.Machine.{state_of_entry}
use Rattle.mcast_group.specs.declared.subscription.Subscription.{Subscription}
use Rattle.mcast_group.specs.declared.fault.SubFault.TheVariants.{SubInUse}
use Rattle.mcast_group.specs.Machine.{TopicState, Entry, Pending, find_entry, insert_entry, subscribe_fault, after_subscribe, after_unsubscribe, unsubscribe_fault}
use Rattle.mcast_group.specs.Group.{topic_state, gauge_at, gauges_with, gauges_without}
use Rattle.mcast_group.specs.Sound.{NumbersDiffer}
use Rattle.mcast_group.specs.CellGroup.{open_count}
use Rattle.mcast_group.specs.Inner.Copies.{HaveCopies}
use Rattle.mcast_group.specs.Inner.GroupInvariant.{IsKept, entry_of, gauge_of}
use Rattle.mcast_group.specs.Inner.Subscriptions.{insert_sub}
use Rattle.mcast_group.proofs.Giving.{none_of}
use Rattle.mcast_group.proofs.Indices.{none_at, some_at}
use Rattle.mcast_group.proofs.Allowed.{keeps_sound}

-- ---- the subscription of a number

entry_case : {Q : Type 0} (shown : Q → Shown) (n : ℕ) (s : Subscription Q) (subs : List (Subscription Q)) (b : Bool) → is_some (find_entry n (map (entry_of shown) subs)) ≡ list_any (λ (z : Subscription Q). z.number == n) subs → is_some (cond b (Some (entry_of shown s)) (find_entry n (map (entry_of shown) subs))) ≡ (b || list_any (λ (z : Subscription Q). z.number == n) subs)
entry_case shown n s subs true ih = refl
entry_case shown n s subs false ih = ih

entry_any : {Q : Type 0} (shown : Q → Shown) (n : ℕ) (subs : List (Subscription Q)) → is_some (find_entry n (map (entry_of shown) subs)) ≡ list_any (λ (z : Subscription Q). z.number == n) subs
entry_any shown n [] = refl
entry_any shown n (s ∷ subs) = entry_case shown n s subs (s.number == n) (entry_any shown n subs)

-- 47 stands exactly where an index was found
pub in_use : {Q : Type 0} (shown : Q → Shown) (x : TopicState) (n i : ℕ) (subs : List (Subscription Q)) → x.subscriptions ≡ map (entry_of shown) subs → position (λ (z : Subscription Q). z.number == n) subs ≡ Some i → subscribe_fault n x ≡ Some SubInUse
in_use {Q = Q} shown x n i subs e p =
    let a : is_some (find_entry n x.subscriptions) ≡ true = ap (λ (es : List Entry). is_some (find_entry n es)) e ∙ (entry_any shown n subs ∙ some_at (λ (z : Subscription Q). z.number == n) subs i p) in
    rw a refl

-- a subscription isn't refused where no index is found for its number
pub not_in_use : {Q : Type 0} (shown : Q → Shown) (x : TopicState) (n : ℕ) (subs : List (Subscription Q)) → x.subscriptions ≡ map (entry_of shown) subs → position (λ (z : Subscription Q). z.number == n) subs ≡ None → subscribe_fault n x ≡ None
not_in_use {Q = Q} shown x n subs e p =
    let a : is_some (find_entry n x.subscriptions) ≡ false = ap (λ (es : List Entry). is_some (find_entry n es)) e ∙ (entry_any shown n subs ∙ none_at (λ (z : Subscription Q). z.number == n) subs p) in
    rw a refl

-- ---- a new one

-- IsKept holds after a subscription began, with spare and copies for it
pub kept_subscribed : {Q : Type 0} (shown : Q → Shown) (spare : Q → ℕ) (x y : TopicState) (capacity : ℕ) (copies more : List (List TopicPart)) (subs : List (Subscription Q)) (s : Subscription Q) → IsKept spare x capacity copies subs → subscribe_fault s.number x ≡ None → y ≡ after_subscribe s.number x → (s.to ≡ None → length x.pending ≤ spare s.outlet) → HaveCopies (open_count x.subscriptions + 1) x.pending more → IsKept spare y capacity more (insert_sub s subs)
kept_subscribed shown spare x y capacity copies more subs s h none e left copied =
    subst (λ (z : TopicState). IsKept spare z capacity more (insert_sub s subs)) (sym e) (record {
      sound = keeps_sound.subscribes s.number x h.sound none;
      room = h.room;
      spares = λ z k n. elim (In-insert_cases _ z s subs k) [
        | inl m ↦ subst (λ (w : Subscription _). length x.pending ≤ spare w.outlet) m (left (subst (λ (w : Subscription _). w.to ≡ None) (sym m) n))
        | inr o ↦ h.spares z o n
      ];
      copied = subst (λ (k : ℕ). HaveCopies k x.pending more) (sym (open_with _ x.subscriptions refl)) copied;
    })

-- the entries after an insertion are the machine's
pub entries_with : {Q : Type 0} (shown : Q → Shown) (s : Subscription Q) (subs : List (Subscription Q)) → map (entry_of shown) (insert_sub s subs) ≡ insert_entry (entry_of shown s) (map (entry_of shown) subs)
entries_with shown s subs = map_insert _ _ (entry_of shown) s subs (λ y. refl)

-- the gauges after an insertion have the new one where its entry is
pub gauges_are_with : {Q : Type 0} (shown : Q → Shown) (s : Subscription Q) (subs : List (Subscription Q)) → map (gauge_of shown) (insert_sub s subs) ≡ gauges_with s.number (gauge_of shown s) (map (entry_of shown) subs) (map (gauge_of shown) subs)
gauges_are_with shown s [] = refl
gauges_are_with {Q = Q} shown s (y ∷ ys) = go (nat_lt s.number y.number) (gauges_are_with shown s ys)
  where
    go : (b : Bool) → map (gauge_of shown) (insert_sub s ys) ≡ gauges_with s.number (gauge_of shown s) (map (entry_of shown) ys) (map (gauge_of shown) ys) → map (gauge_of shown) (cond b (s ∷ y ∷ ys) (y ∷ insert_sub s ys)) ≡ cond b (gauge_of shown s ∷ gauge_of shown y ∷ map (gauge_of shown) ys) (gauge_of shown y ∷ gauges_with s.number (gauge_of shown s) (map (entry_of shown) ys) (map (gauge_of shown) ys))
    go true ih = refl
    go false ih = ap (λ (rs : List Gauge). gauge_of shown y ∷ rs) ih

-- a subscription at its index, with nothing accepted, is the machine's new entry
pub subscribed_state : {Q : Type 0} (shown : Q → Shown) (t : Topic) (clock limit : ℕ) (ps : List Pending) (base : Stamp) (rows : List LogRow) (f : Stamp) (subs : List (Subscription Q)) (s : Subscription Q) → entry_of shown s ≡ record { number = s.number; from = f; to = None; accepted = [] } → topic_state t clock limit ps base rows f (map (entry_of shown) (insert_sub s subs)) ≡ after_subscribe s.number (topic_state t clock limit ps base rows f (map (entry_of shown) subs))
subscribed_state shown t clock limit ps base rows f subs s e =
    ap (λ (es : List Entry). topic_state t clock limit ps base rows f es) (entries_with shown s subs ∙ ap (λ (z : Entry). insert_entry z (map (entry_of shown) subs)) e)

-- ---- one that ends

-- the subscription at an index, which is the first of its number
pub record EndsAt {Q : Type 0} (shown : Q → Shown) (n : ℕ) (subs : List (Subscription Q)) (i : ℕ) (d : Subscription Q) : Type 0 where
  pub found : find_entry n (map (entry_of shown) subs) ≡ Some (entry_of shown (get_or subs i d))
  pub gauged : gauge_at n (map (entry_of shown) subs) (map (gauge_of shown) subs) ≡ Some (gauge_of shown (get_or subs i d))
  pub gauges : gauges_without n (map (entry_of shown) subs) (map (gauge_of shown) subs) ≡ map (gauge_of shown) (remove subs i)
  pub left : NumbersDiffer (map (entry_of shown) subs) → filter (λ (e : Entry). not (e.number == n)) (map (entry_of shown) subs) ≡ map (entry_of shown) (remove subs i)

-- a test that two numbers are equal holds with the two exchanged
pub flip_true : (a b : ℕ) → (a == b) ≡ true → (b == a) ≡ true
flip_true a b e = grind (arith, nat_tests)

-- a test that two numbers are equal fails with the two exchanged
pub flip_false : (a b : ℕ) → (a == b) ≡ false → (b == a) ≡ false
flip_false a b e = grind (arith, nat_tests)

-- without a number that no entry has the entries stay
pub others_stay : (n : ℕ) (es : List Entry) → ((e : Entry) → In e es → e.number ≢ n) → filter (λ (e : Entry). not (e.number == n)) es ≡ es
others_stay n [] h = refl
others_stay n (e ∷ es) h =
    let k : (e.number == n) ≡ false = ne_eqb e.number n (h e (inl refl)) in
    let ih = others_stay n es (λ f i. h f (inr i)) in
    rw (k, ih) refl

-- EndsAt holds of the first subscription of a number
pub ends_at : {Q : Type 0} (shown : Q → Shown) (n : ℕ) (subs : List (Subscription Q)) (i : ℕ) (d : Subscription Q) → i < length subs → ((get_or subs i d).number == n) ≡ true → ((k : ℕ) → k < i → ((get_or subs k d).number == n) ≡ false) → EndsAt shown n subs i d
ends_at shown n [] i d l e f = absurd (omega arith)
ends_at shown n (s ∷ subs) zero d l e f =
    let m = flip_true s.number n e in
    let k = eqb-true s.number n e in
    record {
      found = rw e refl;
      gauged = rw m refl;
      gauges = rw e refl;
      left = λ h. rw e (others_stay n (map (entry_of shown) subs) (λ z i q. h.0 z i (q ∙ sym k)));
    }
ends_at shown n (s ∷ subs) (suc i) d l e f =
    let a : (s.number == n) ≡ false = f zero (omega arith) in
    let b = flip_false s.number n a in
    let ih = ends_at shown n subs i d (omega arith) e (λ k m. f (suc k) (omega arith)) in
    record {
      found = rw a ih.found;
      gauged = rw b ih.gauged;
      gauges = rw a (ap (λ (rs : List Gauge). gauge_of shown s ∷ rs) ih.gauges);
      left = λ h. rw a (ap (λ (es : List Entry). entry_of shown s ∷ es) (ih.left h.1));
    }

-- where an index is found for a number, its subscription is there
pub ends_found : {Q : Type 0} (shown : Q → Shown) (n : ℕ) (subs : List (Subscription Q)) (i : ℕ) (d : Subscription Q) → position (λ (z : Subscription Q). z.number == n) subs ≡ Some i → (i < length subs) × EndsAt shown n subs i d
ends_found {Q = Q} shown n subs i d e =
    let k = position-Some (λ (z : Subscription Q). z.number == n) subs i d e in (k.0, ends_at shown n subs i d k.0 k.1 k.2)

In-remove : {X : Type 0} (x : X) (xs : List X) (i : ℕ) → In x (remove xs i) → In x xs
In-remove x [] zero h = h
In-remove x [] (suc i) h = h
In-remove x (y ∷ xs) zero h = inr h
In-remove x (y ∷ xs) (suc i) (inl e) = inl e
In-remove x (y ∷ xs) (suc i) (inr h) = inr (In-remove x xs i h)

-- IsKept holds after a subscription ended
pub kept_unsubscribed : {Q : Type 0} (shown : Q → Shown) (spare : Q → ℕ) (x y : TopicState) (capacity : ℕ) (copies more : List (List TopicPart)) (subs : List (Subscription Q)) (n i : ℕ) → IsKept spare x capacity copies subs → y ≡ after_unsubscribe n x → HaveCopies (open_count (after_unsubscribe n x).subscriptions) x.pending more → IsKept spare y capacity more (remove subs i)
kept_unsubscribed shown spare x y capacity copies more subs n i h e copied =
    subst (λ (z : TopicState). IsKept spare z capacity more (remove subs i)) (sym e) (record {
      sound = keeps_sound.unsubscribes n x h.sound;
      room = h.room;
      spares = λ s k o. h.spares s (In-remove s subs i k) o;
      copied = copied;
    })

-- ending a subscription is refused where no index is found for its number
pub no_sub : {Q : Type 0} (shown : Q → Shown) (x : TopicState) (n : ℕ) (subs : List (Subscription Q)) → x.subscriptions ≡ map (entry_of shown) subs → position (λ (z : Subscription Q). z.number == n) subs ≡ None → unsubscribe_fault n x ≡ Some (record {})
no_sub {Q = Q} shown x n subs e p =
    let a : is_some (find_entry n x.subscriptions) ≡ false = ap (λ (es : List Entry). is_some (find_entry n es)) e ∙ (entry_any shown n subs ∙ none_at (λ (z : Subscription Q). z.number == n) subs p) in
    rw a refl

-- ---- what is asked of one

-- where no subscription has the number, no entry has
pub no_entry : {Q : Type 0} (shown : Q → Shown) (n : ℕ) (subs : List (Subscription Q)) → position (λ (z : Subscription Q). z.number == n) subs ≡ None → find_entry n (map (entry_of shown) subs) ≡ None
no_entry {Q = Q} shown n subs p = none_of (find_entry n (map (entry_of shown) subs)) (entry_any shown n subs ∙ none_at (λ (z : Subscription Q). z.number == n) subs p)

-- a subscription with an end has lagged there
pub lag_state : (e : Entry) (end : Stamp) → e.to ≡ Some end → SubState.Lag end ≡ state_of_entry e
lag_state e end h = rw h refl
