-- How many subscriptions are open.
use Rattle.std.proofs.Common.{◌≡◌, ℕ, zero, suc, ◌+◌, ◌<◌, ◌≤◌, Bool, true, false, cond, not, nat_lt, List, [], ◌∷◌, map, length, get_or, Option, Some, None, refl, sym, ap, subst, ◌∙◌, arith}
use Rattle.std.specs.Prelude.{IfSome}
use Rattle.std.specs.List.{filter}
use Rattle.std.specs.Option.{is_some}
use Rattle.mcast_txn.specs.declared.stamp.Stamp.{Stamp}
use Rattle.std.proofs.lemmas.List.{length-map}
use Rattle.mcast_txn.specs.Span.{Item}
use Rattle.mcast_txn.specs.Transaction.{TopicPart}
use Rattle.sub_queue.specs.Shown.{Shown}
use Rattle.mcast_group.specs.CellGroup.{open_count}
use Rattle.mcast_group.specs.declared.subscription.Subscription.{Subscription}
use Rattle.mcast_group.specs.Inner.GroupInvariant.{Gave, entry_of}
use Rattle.mcast_group.specs.Sound.{NumbersDiffer}
use Rattle.mcast_group.specs.Machine.{Entry, entry_after, insert_entry}
use Rattle.mcast_group.proofs.Releasing.{map_within, taken}

-- open subscriptions are open entries
pub open_mapped : {Q : Type 0} (shown : Q → Shown) (subs : List (Subscription Q)) → length (filter (λ (s : Subscription Q). not (is_some s.to)) subs) ≡ open_count (map (entry_of shown) subs)
open_mapped shown [] = refl
open_mapped shown (s ∷ subs) = go (is_some s.to) refl (open_mapped shown subs)
  where
    go : (b : Bool) → is_some s.to ≡ b → length (filter (λ (z : Subscription _). not (is_some z.to)) subs) ≡ open_count (map (entry_of shown) subs) → length (filter (λ (z : Subscription _). not (is_some z.to)) (s ∷ subs)) ≡ open_count (map (entry_of shown) (s ∷ subs))
    go true e ih = rw e ih
    go false e ih = rw e (ap suc ih)

-- an open one counts
pub open_more : (e : Entry) (es : List Entry) → is_some e.to ≡ false → open_count (e ∷ es) ≡ suc (open_count es)
open_more e es h = rw h refl

-- one that has lagged doesn't
pub open_same : (e : Entry) (es : List Entry) → is_some e.to ≡ true → open_count (e ∷ es) ≡ open_count es
open_same e es h = rw h refl

-- one before others is one more at most
record IsNext (e : Entry) (es : List Entry) : Type 0 where
  pub most : open_count (e ∷ es) ≤ suc (open_count es)
  pub least : open_count es ≤ open_count (e ∷ es)

is_next : (e : Entry) (es : List Entry) → IsNext e es
is_next e es = go (is_some e.to) refl
  where
    go : (b : Bool) → is_some e.to ≡ b → IsNext e es
    go true h = let a = open_same e es h in record { most = omega arith; least = omega arith }
    go false h = let a = open_more e es h in record { most = omega arith; least = omega arith }

-- one before both of two lists keeps which of them has more
cons_most : (e : Entry) (xs ys : List Entry) → open_count xs ≤ open_count ys → open_count (e ∷ xs) ≤ open_count (e ∷ ys)
cons_most e xs ys l = go (is_some e.to) refl
  where
    go : (b : Bool) → is_some e.to ≡ b → open_count (e ∷ xs) ≤ open_count (e ∷ ys)
    go true h = let a = open_same e xs h in let b = open_same e ys h in omega arith
    go false h = let a = open_more e xs h in let b = open_more e ys h in omega arith

cons_more : (e : Entry) (xs ys : List Entry) → open_count xs ≡ open_count ys + 1 → open_count (e ∷ xs) ≡ open_count (e ∷ ys) + 1
cons_more e xs ys l = go (is_some e.to) refl
  where
    go : (b : Bool) → is_some e.to ≡ b → open_count (e ∷ xs) ≡ open_count (e ∷ ys) + 1
    go true h = let a = open_same e xs h in let b = open_same e ys h in omega arith
    go false h = let a = open_more e xs h in let b = open_more e ys h in omega arith

-- a new one is one more
pub open_with : (e : Entry) (es : List Entry) → is_some e.to ≡ false → open_count (insert_entry e es) ≡ open_count es + 1
open_with e [] h = let a = open_more e [] h in omega arith
open_with e (f ∷ fs) h = go (nat_lt e.number f.number) (open_with e fs h)
  where
    go : (b : Bool) → open_count (insert_entry e fs) ≡ open_count fs + 1 → open_count (cond b (e ∷ f ∷ fs) (f ∷ insert_entry e fs)) ≡ open_count (f ∷ fs) + 1
    go true ih = let a = open_more e (f ∷ fs) h in omega arith
    go false ih = cons_more f (insert_entry e fs) fs ih

-- no more are open where some are dropped
pub open_filtered : (p : Entry → Bool) (es : List Entry) → open_count (filter p es) ≤ open_count es
open_filtered p [] = omega arith
open_filtered p (e ∷ es) = go (p e) (open_filtered p es)
  where
    go : (b : Bool) → open_count (filter p es) ≤ open_count es → open_count (cond b (e ∷ filter p es) (filter p es)) ≤ open_count (e ∷ es)
    go true l = cons_most e (filter p es) es l
    go false l = let m : open_count es ≤ open_count (e ∷ es) = (is_next e es).least in omega arith

-- no more are open after an item
pub open_given : (takes : Entry → Bool) (f : Stamp) (i : Item) (es : List Entry) → open_count (map (entry_after takes f i) es) ≤ open_count es
open_given takes f i [] = omega arith
open_given takes f i (e ∷ es) = go e.to refl (open_given takes f i es)
  where
    go : (o : Option Stamp) → e.to ≡ o → open_count (map (entry_after takes f i) es) ≤ open_count es → open_count (map (entry_after takes f i) (e ∷ es)) ≤ open_count (e ∷ es)
    go (Some end) h l =
        let same : entry_after takes f i e ≡ e = rw h refl in
        let lagged : is_some e.to ≡ true = rw h refl in
        let a : open_count (entry_after takes f i e ∷ map (entry_after takes f i) es) ≡ open_count (map (entry_after takes f i) es) = ap (λ (z : Entry). open_count (z ∷ map (entry_after takes f i) es)) same ∙ open_same e (map (entry_after takes f i) es) lagged in
        let b = open_same e es lagged in
        omega arith
    go None h l =
        let a : open_count (entry_after takes f i e ∷ map (entry_after takes f i) es) ≤ suc (open_count (map (entry_after takes f i) es)) = (is_next (entry_after takes f i e) (map (entry_after takes f i) es)).most in
        let b = open_more e es (rw h refl) in
        omega arith

-- no more subscriptions are open after an item was given to each
pub left_open : {Q : Type 0} (shown : Q → Shown) (may : Shown → Bool → Type 0) (f : Stamp) (item : Item) (old new : List (Subscription Q)) → NumbersDiffer (map (entry_of shown) old) → Gave shown may f item old new → open_count (map (entry_of shown) new) ≤ open_count (map (entry_of shown) old)
left_open shown may f item old new differ gave =
    let t = taken shown may f item old new differ gave in
    let e = ap (λ (es : List Entry). open_count es) t.is in
    let l = open_given t.takes f item (map (entry_of shown) old) in
    omega arith

-- ---- those from an index on

-- how many are open from this index on
abbrev pub open_rest : ℕ → List Entry → ℕ
open_rest zero es = open_count es
open_rest (suc i) [] = zero
open_rest (suc i) (e ∷ es) = open_rest i es

-- where the one there is open, one fewer are from the next index on
pub rest_open : (i : ℕ) (es : List Entry) (d : Entry) → i < length es → is_some (get_or es i d).to ≡ false → open_rest i es ≡ suc (open_rest (suc i) es)
rest_open zero [] d l h = absurd (omega arith)
rest_open zero (e ∷ es) d l h = open_more e es h
rest_open (suc i) [] d l h = absurd (omega arith)
rest_open (suc i) (e ∷ es) d l h = rest_open i es d (omega arith) h

-- where it has lagged, as many are
pub rest_same : (i : ℕ) (es : List Entry) (d : Entry) → i < length es → is_some (get_or es i d).to ≡ true → open_rest i es ≡ open_rest (suc i) es
rest_same zero [] d l h = absurd (omega arith)
rest_same zero (e ∷ es) d l h = open_same e es h
rest_same (suc i) [] d l h = absurd (omega arith)
rest_same (suc i) (e ∷ es) d l h = rest_same i es d (omega arith) h

module _ {Q : Type 0} (shown : Q → Shown) (i : ℕ) (subs : List (Subscription Q)) (d s : Subscription Q) (l : i < length subs) (is : s ≡ get_or subs i d) where
  -- the entry at the index
  entry_at : (get_or (map (entry_of shown) subs) i (entry_of shown d)).to ≡ s.to
  entry_at = ap (λ (z : Entry). z.to) (map_within (entry_of shown) subs i (entry_of shown d) d l) ∙ sym (ap (λ (z : Subscription Q). z.to) is)

  -- the subscription there, which is open, is one of those from there on
  pub open_at : s.to ≡ None → open_rest i (map (entry_of shown) subs) ≡ suc (open_rest (suc i) (map (entry_of shown) subs))
  open_at none = rest_open i (map (entry_of shown) subs) (entry_of shown d) (rw length-map l) (ap is_some (entry_at ∙ none))

  -- where there were copies for it and those behind it, there are for those behind it once it was given one
  pub left_after : (before after : List TopicPart) → open_rest i (map (entry_of shown) subs) ≤ length before → length before ≤ length after + 1 → IfSome s.to (λ _. after ≡ before) → open_rest (i + 1) (map (entry_of shown) subs) ≤ length after
  left_after before after enough most lagged = go s.to refl
    where
      go : (o : Option Stamp) → s.to ≡ o → open_rest (i + 1) (map (entry_of shown) subs) ≤ length after
      go None h =
          let a = open_at h in
          let next : suc i ≡ i + 1 = omega arith in
          let left : open_rest (suc i) (map (entry_of shown) subs) ≤ length after = omega arith in
          subst (λ (k : ℕ). open_rest k (map (entry_of shown) subs) ≤ length after) next left
      go (Some end) h =
          let a = rest_same i (map (entry_of shown) subs) (entry_of shown d) (rw length-map l) (ap is_some (entry_at ∙ h)) in
          let e : after ≡ before = subst (λ (z : Option Stamp). IfSome z (λ _. after ≡ before)) h lagged in
          let m = ap (λ (z : List TopicPart). length z) e in
          let next : suc i ≡ i + 1 = omega arith in
          let left : open_rest (suc i) (map (entry_of shown) subs) ≤ length after = omega arith in
          subst (λ (k : ℕ). open_rest k (map (entry_of shown) subs) ≤ length after) next left
