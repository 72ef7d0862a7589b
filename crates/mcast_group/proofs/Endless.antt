-- How many subscriptions have no end, and what edits of their list do to that.
use Rattle.std.proofs.Common.{◌≡◌, ℕ, zero, suc, ◌+◌, ◌<◌, ◌≤◌, true, false, List, [], ◌∷◌, length, get_or, set, take, map, Option, Some, None, IfSome, refl, sym, ap, subst, ◌∙◌, arith}
use Rattle.std.specs.List.{insert, remove}
use Rattle.std.specs.Option.{is_some}
use Rattle.std.proofs.lemmas.Bool.{true≢false}
use Rattle.mcast_txn.specs.declared.stamp.Stamp.{Stamp}
use Rattle.sub_queue.specs.Shown.{Shown}
use Rattle.mcast_group.specs.CellGroup.{open_count}
use Rattle.mcast_group.specs.declared.subscription.Subscription.{Subscription}
use Rattle.mcast_group.specs.Inner.GroupInvariant.{entry_of}
use Rattle.mcast_group.specs.Inner.Subscriptions.{endless_count}
use Rattle.mcast_group.specs.Machine.{Entry}
use Rattle.mcast_group.proofs.Opens.{open_mapped}

-- what a subscription counts
abbrev pub unended : Option Stamp → ℕ
unended None = 1
unended (Some end) = 0

pub unended_most : (o : Option Stamp) → unended o ≤ 1
unended_most None = omega arith
unended_most (Some end) = omega arith

-- one before others adds what it counts
pub endless_step : {Q : Type 0} (s : Subscription Q) (subs : List (Subscription Q)) → endless_count (s ∷ subs) ≡ endless_count subs + unended s.to
endless_step {Q = Q} s subs = go s.to refl
  where
    more : is_some s.to ≡ false → endless_count (s ∷ subs) ≡ suc (endless_count subs)
    more h = rw h refl

    same : is_some s.to ≡ true → endless_count (s ∷ subs) ≡ endless_count subs
    same h = rw h refl

    go : (o : Option Stamp) → s.to ≡ o → endless_count (s ∷ subs) ≡ endless_count subs + unended s.to
    go None h = let a = more (ap is_some h) in let u = ap unended h in omega arith
    go (Some end) h = let a = same (ap is_some h) in let u = ap unended h in omega arith

-- at most all have none
pub endless_most : {Q : Type 0} (subs : List (Subscription Q)) → endless_count subs ≤ length subs
endless_most [] = omega arith
endless_most (s ∷ subs) =
    let a = endless_step s subs in
    let u = unended_most s.to in
    let ih = endless_most subs in
    omega arith

-- one that is put in adds what it counts
pub endless_inserted : {Q : Type 0} (subs : List (Subscription Q)) (i : ℕ) (s : Subscription Q) → i ≤ length subs → endless_count (insert subs i s) ≡ endless_count subs + unended s.to
endless_inserted [] zero s l = endless_step s []
endless_inserted [] (suc i) s l = absurd (omega arith)
endless_inserted (z ∷ subs) zero s l = endless_step s (z ∷ subs)
endless_inserted (z ∷ subs) (suc i) s l =
    let a = endless_step z (insert subs i s) in
    let b = endless_step z subs in
    let ih = endless_inserted subs i s (omega arith) in
    omega arith

-- one that is taken out counted among them
pub endless_removed : {Q : Type 0} (subs : List (Subscription Q)) (i : ℕ) (d : Subscription Q) → i < length subs → endless_count subs ≡ endless_count (remove subs i) + unended (get_or subs i d).to
endless_removed [] i d l = absurd (omega arith)
endless_removed (s ∷ subs) zero d l = endless_step s subs
endless_removed (s ∷ subs) (suc i) d l =
    let a = endless_step s (remove subs i) in
    let b = endless_step s subs in
    let ih = endless_removed subs i d (omega arith) in
    omega arith

-- as many have none where one was replaced by another of its end
pub endless_set : {Q : Type 0} (subs : List (Subscription Q)) (i : ℕ) (new d : Subscription Q) → i < length subs → new.to ≡ (get_or subs i d).to → endless_count (set subs i new) ≡ endless_count subs
endless_set [] i new d l e = absurd (omega arith)
endless_set (s ∷ subs) zero new d l e =
    let a = endless_step new subs in
    let b = endless_step s subs in
    let u = ap unended e in
    omega arith
endless_set (s ∷ subs) (suc i) new d l e =
    let a = endless_step s (set subs i new) in
    let b = endless_step s subs in
    let ih = endless_set subs i new d (omega arith) e in
    omega arith

-- up to the one after an index that was replaced, it adds what it counts
pub endless_front : {Q : Type 0} (subs : List (Subscription Q)) (i : ℕ) (new : Subscription Q) → i < length subs → endless_count (take (suc i) (set subs i new)) ≡ endless_count (take i subs) + unended new.to
endless_front [] i new l = absurd (omega arith)
endless_front (s ∷ subs) zero new l = endless_step new []
endless_front (s ∷ subs) (suc i) new l =
    let a = endless_step s (take (suc i) (set subs i new)) in
    let b = endless_step s (take i subs) in
    let ih = endless_front subs i new (omega arith) in
    omega arith

-- as many have none where the entries are the same
pub endless_same : {Q : Type 0} (shown : Q → Shown) (old new : List (Subscription Q)) → map (entry_of shown) new ≡ map (entry_of shown) old → endless_count new ≡ endless_count old
endless_same shown old new e =
    open_mapped shown new ∙ (ap (λ (es : List Entry). open_count es) e ∙ sym (open_mapped shown old))

-- what one without an end counts, and one with an end
pub unended_none : (o : Option Stamp) → is_some o ≡ false → unended o ≡ 1
unended_none None e = refl
unended_none (Some end) e = absurd (true≢false e)

pub unended_some : (o : Option Stamp) → is_some o ≡ true → unended o ≡ 0
unended_some None e = absurd (true≢false (sym e))
unended_some (Some end) e = refl

-- where so many have no end, what was taken out counts beside those that are left
pub counted_out : {Q : Type 0} (subs : List (Subscription Q)) (i many : ℕ) (sub : Subscription Q) (r : Option (Subscription Q)) → i < length subs → many ≡ endless_count subs → r ≡ Some sub → IfSome r (λ y. y ≡ get_or subs i y) → many ≡ endless_count (remove subs i) + unended sub.to
counted_out {Q = Q} subs i many sub r within counted taken value =
    let is : sub ≡ get_or subs i sub = subst (λ (o : Option (Subscription Q)). IfSome o (λ y. y ≡ get_or subs i y)) taken value in
    let same = ap (λ (z : Subscription Q). unended z.to) is in
    let gone = endless_removed subs i sub within in
    omega arith
