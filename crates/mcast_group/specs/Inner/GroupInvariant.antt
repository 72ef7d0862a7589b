-- What a group keeps. It only serves proofs.
use Rattle.std.specs.Prelude.{◌≡◌, ℕ, ◌+◌, ◌<◌, ◌≤◌, Bool, List, [], ◌∷◌, map, length, None}
use Rattle.mcast_txn.specs.declared.stamp.Stamp.{Stamp}
use Rattle.mcast_txn.specs.Lists.{In}
use Rattle.mcast_txn.specs.Transaction.{TopicPart}
use Rattle.mcast_txn.specs.Span.{Item}
use Rattle.sub_queue.specs.Shown.{Shown, Gauge, IsAboveLast, known_taken, shown_told}
use Rattle.mcast_group.specs.declared.subscription.Subscription.{Subscription}
use Rattle.mcast_group.specs.Sound.{IsSound}
use Rattle.mcast_group.specs.Machine.{TopicState, Entry}
use Rattle.mcast_group.specs.Group.{entries_after}
use Rattle.mcast_group.specs.CellGroup.{open_count}
use Rattle.mcast_group.specs.Inner.Copies.{HaveCopies}

-- a subscription of the machine
abbrev pub entry_of : {Q : Type 0} → (Q → Shown) → Subscription Q → Entry
entry_of shown s =
    record { number = s.number; from = s.from; to = s.to; accepted = (shown s.outlet).accepted }

-- the gauge that its outlet shows
abbrev pub gauge_of : {Q : Type 0} → (Q → Shown) → Subscription Q → Gauge
gauge_of shown s = (shown s.outlet).gauge

-- What a group keeps.
-- sound: the topic is sound; so its subscriptions' numbers differ.
-- room: its log has room for a row of each pending part.
-- spares: the outlet of each open subscription has spare for each pending part.
-- copied: each pending part has as many copies as there are open subscriptions.
pub record IsKept {Q : Type 0} (spare : Q → ℕ) (x : TopicState) (capacity : ℕ)
    (copies : List (List TopicPart)) (subs : List (Subscription Q)) : Type 0 where
  pub sound : IsSound x
  pub room : length x.held + length x.pending ≤ capacity
  pub spares : (s : Subscription Q) → In s subs → s.to ≡ None → length x.pending ≤ spare s.outlet
  pub copied : HaveCopies (open_count x.subscriptions) x.pending copies

-- a subscription that is open has spare for an item of this stamp, which is above what it accepted
pub record IsReady {Q : Type 0} (shown : Q → Shown) (spare : Q → ℕ) (stamp : Stamp)
    (s : Subscription Q) : Type 0 where
  pub room : s.to ≡ None → 0 < spare s.outlet
  pub above : s.to ≡ None → IsAboveLast (shown s.outlet).accepted stamp

-- these answers may come of the first of these subscriptions
abbrev pub MayGive : {Q : Type 0} → (Q → Shown) → (Shown → Bool → Type 0) → List Bool → List (Subscription Q)
    → Type 0
MayGive shown may [] subs = Unit {0}
MayGive shown may (b ∷ bs) [] = Prim.⊥
MayGive shown may (b ∷ bs) (s ∷ subs) = (s.to ≡ None → may (shown s.outlet) b) × MayGive shown may bs subs

-- an item was given to each, and each answered
pub record Gave {Q : Type 0} (shown : Q → Shown) (may : Shown → Bool → Type 0) (frontier : Stamp)
    (item : Item) (old new : List (Subscription Q)) : Type 0 where
  pub answers : List Bool
  pub many : length answers ≡ length old
  pub answered : MayGive shown may answers old
  pub entries : map (entry_of shown) new ≡ entries_after frontier item answers (map (entry_of shown) old)
  pub gauges : map (gauge_of shown) new ≡ map (gauge_of shown) old

-- An outlet was told how many of its items were taken.
-- least: no fewer than it knew.
-- shows: it shows that it knows this now, and nothing else new.
-- spare: its spare hasn't fallen.
pub record HasHeard {Q : Type 0} (shown : Q → Shown) (spare : Q → ℕ) (old new : Q) : Type 0 where
  pub taken : ℕ
  pub least : known_taken (shown old).gauge.taken ≤ taken
  pub shows : shown new ≡ shown_told taken (shown old)
  pub spare_kept : spare old ≤ spare new
