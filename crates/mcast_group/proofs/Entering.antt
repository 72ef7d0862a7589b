-- A part that is after_enter.
use Rattle.std.proofs.Common.{◌≡◌, ℕ, suc, ◌+◌, ◌<◌, ◌≤◌, true, false, List, map, length, get_or, None, sym, ap, subst, ◌∙◌, arith}
use Rattle.mcast_txn.specs.declared.stamp.Stamp.{Stamp}
use Rattle.std.specs.List.{remove}
use Rattle.mcast_txn.specs.Lists.{In}
use Rattle.mcast_txn.specs.Stamp.{stamp_lt}
use Rattle.mcast_txn.proofs.Orders.{lt_by_number}
use Rattle.std.proofs.lemmas.List.Edits.{length-remove}
use Rattle.mcast_txn.specs.declared.id.TxnId.{TxnId}
use Rattle.mcast_txn.specs.Transaction.{TopicPart}
use Rattle.mcast_txn.proofs.Inserting.{insert_length}
use Rattle.mcast_txn.proofs.Members.{In-get_or}
use Rattle.mcast_txn.proofs.CheckLemmas.{passes}
use Rattle.sub_queue.specs.Shown.{Shown}
use Rattle.mcast_group.specs.declared.subscription.Subscription.{Subscription}
use Rattle.mcast_group.specs.Sound.{IsSound}
use Rattle.mcast_group.specs.Machine.{TopicState, Entry, Pending, is_pending, key, next_number, propose_refusals, propose_fault, after_cancel, after_drain}
use Rattle.mcast_group.specs.CellGroup.{open_count}
use Rattle.mcast_group.specs.Group.{after_enter}
use Rattle.mcast_group.specs.Inner.Copies.{HaveCopies}
use Rattle.mcast_group.specs.Inner.GroupInvariant.{IsKept, entry_of}
use Rattle.mcast_group.proofs.Parts.{map_length}
use Rattle.mcast_group.proofs.Allowed.{keeps_sound}
use Rattle.mcast_group.proofs.Releasing.{placed_at, map_within, copies_remove}

-- there are as many subscriptions as there were, where their entries are the same
pub same_many : {Q : Type 0} (shown : Q → Shown) (old new : List (Subscription Q)) → map (entry_of shown) new ≡ map (entry_of shown) old → length new ≡ length old
same_many shown old new e = sym (map_length (entry_of shown) new) ∙ (ap (λ (es : List Entry). length es) e ∙ map_length (entry_of shown) old)

-- a subscription is open where it was
was_open : {Q : Type 0} (shown : Q → Shown) (old new : List (Subscription Q)) (k : ℕ) (d : Subscription Q) → k < length old → k < length new → map (entry_of shown) new ≡ map (entry_of shown) old → (get_or new k d).to ≡ (get_or old k d).to
was_open shown old new k d l m e =
    let a = map_within (entry_of shown) new k (entry_of shown d) d m in
    let b = map_within (entry_of shown) old k (entry_of shown d) d l in
    ap (λ (z : Entry). z.to) (sym a ∙ (ap (λ (es : List Entry). get_or es k (entry_of shown d)) e ∙ b))

-- spares and capacities have grown, and nothing else
pub kept_grown : {Q : Type 0} (shown : Q → Shown) (spare : Q → ℕ) (x : TopicState) (capacity after : ℕ) (copies : List (List TopicPart)) (old new : List (Subscription Q)) → IsKept spare x capacity copies old → capacity ≤ after → map (entry_of shown) new ≡ map (entry_of shown) old → ((k : ℕ) (d : Subscription Q) → k < length old → spare (get_or old k d).outlet ≤ spare (get_or new k d).outlet) → IsKept spare x after copies new
kept_grown shown spare x capacity after copies old new h l e grown = record {
  sound = h.sound;
  room = let r : length x.held + length x.pending ≤ capacity = h.room in omega arith;
  spares = λ s stands n.
      let w = placed_at s new stands in
      let m = same_many shown old new e in
      let i : w.index < length new = w.within in
      let j : w.index < length old = omega arith in
      let was : (get_or old w.index s).to ≡ None = sym (was_open shown old new w.index s j i e) ∙ (ap (λ (z : Subscription _). z.to) (w.is s) ∙ n) in
      let a : length x.pending ≤ spare (get_or old w.index s).outlet = h.spares (get_or old w.index s) (In-get_or old w.index s j) was in
      let b : spare (get_or old w.index s).outlet ≤ spare s.outlet = subst (λ (z : Subscription _). spare (get_or old w.index s).outlet ≤ spare z.outlet) (w.is s) (grown w.index s j) in
      omega arith;
  copied = h.copied;
}

-- IsKept holds after a part has entered, with room, spares and copies for it
pub kept_entered : {Q : Type 0} (shown : Q → Shown) (spare : Q → ℕ) (x y : TopicState) (capacity after n : ℕ) (copies more : List (List TopicPart)) (old new : List (Subscription Q)) (floor : Stamp) (part : TopicPart) → IsKept spare x capacity copies old → part.topic ≡ x.topic → n ≡ next_number floor x → propose_fault floor part x ≡ None → y ≡ after_enter n part x → length x.held + (length x.pending + 1) ≤ after → map (entry_of shown) new ≡ map (entry_of shown) old → ((k : ℕ) (d : Subscription Q) → k < length old → (get_or new k d).to ≡ None → length x.pending + 1 ≤ spare (get_or new k d).outlet) → HaveCopies (open_count x.subscriptions) y.pending more → IsKept spare y after more new
kept_entered shown spare x y capacity after n copies more old new floor part h own next none e room same left copied =
    let grown : length y.pending ≡ suc (length x.pending) = ap (λ (z : TopicState). length z.pending) e ∙ insert_length _ _ x.pending in
    let many : length y.pending ≡ length x.pending + 1 = omega arith in
    let held : length y.held ≡ length x.held = ap (λ (z : TopicState). length z.held) e in
    record {
      sound = subst IsSound (sym (e ∙ ap (λ (k : ℕ). after_enter k part x) next)) (keeps_sound.proposes floor part x h.sound own none);
      room = omega arith;
      spares = λ s stands o.
          let w = placed_at s new stands in
          let m = same_many shown old new same in
          let i : w.index < length new = w.within in
          let j : w.index < length old = omega arith in
          let a : length x.pending + 1 ≤ spare s.outlet = subst (λ (z : Subscription _). z.to ≡ None → length x.pending + 1 ≤ spare z.outlet) (w.is s) (left w.index s j) o in
          omega arith;
      copied = subst (λ (es : List Entry). HaveCopies (open_count es) y.pending more) (sym (ap (λ (z : TopicState). z.subscriptions) e)) copied;
    }

-- a part that is taken out
pub kept_cancelled : {Q : Type 0} (spare : Q → ℕ) (x y : TopicState) (capacity : ℕ) (copies : List (List TopicPart)) (subs : List (Subscription Q)) (id : TxnId) (i : ℕ) → IsKept spare x capacity copies subs → y ≡ after_cancel id x → y.pending ≡ remove x.pending i → i < length x.pending → IsKept spare y capacity (remove copies i) subs
kept_cancelled spare x y capacity copies subs id i h e gone l =
    let fewer : length y.pending + 1 ≡ length x.pending = ap (λ (z : List Pending). length z + 1) gone ∙ length-remove x.pending i l in
    let held : length y.held ≡ length x.held = ap (λ (z : TopicState). length z.held) e in
    record {
      sound = subst IsSound (sym e) (keeps_sound.cancels id x h.sound);
      room = let r : length x.held + length x.pending ≤ capacity = h.room in omega arith;
      spares = λ s k n. let r : length x.pending ≤ spare s.outlet = h.spares s k n in omega arith;
      copied = subst (λ (es : List Entry). HaveCopies (open_count es) y.pending (remove copies i)) (sym (ap (λ (z : TopicState). z.subscriptions) e)) (rw gone (copies_remove (open_count x.subscriptions) x.pending copies i h.copied));
    }

-- IsKept holds after the log was drained, with room for a row of each pending part
pub kept_drained : {Q : Type 0} (spare : Q → ℕ) (x : TopicState) (capacity after : ℕ) (copies : List (List TopicPart)) (subs : List (Subscription Q)) → IsKept spare x capacity copies subs → length x.pending ≤ after → IsKept spare (after_drain x) after copies subs
kept_drained spare x capacity after copies subs h room = record {
  sound = keeps_sound.drains x h.sound;
  room = omega arith;
  spares = h.spares;
  copied = h.copied;
}

-- a part that isn't refused isn't pending, and its key is above all others
pub record IsGreatest (part : TopicPart) (n : ℕ) (x : TopicState) : Type 0 where
  pub free : is_pending part.id x.pending ≡ false
  pub above : (q : Pending) → In q x.pending → stamp_lt (key q) (record { n = n; topic = part.topic }) ≡ true

pub is_greatest : (floor : Stamp) (part : TopicPart) (n : ℕ) (x : TopicState) → IsSound x → n ≡ next_number floor x → propose_fault floor part x ≡ None → IsGreatest part n x
is_greatest floor part n x h e none = record {
  free = (passes (propose_refusals floor part x) none).0;
  above = λ q k. lt_by_number (key q) (record { n = n; topic = part.topic }) (let l : (key q).n ≤ x.clock = h.clock_keys q k in omega arith);
}
