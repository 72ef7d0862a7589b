-- Items that are given to subscriptions one after another.
use Rattle.std.proofs.Common.{◌≡◌, ◌≢◌, ℕ, zero, suc, ◌+◌, ◌<◌, ◌≤◌, ◌==◌, Bool, true, false, List, [], ◌∷◌, ◌++◌, map, length, get_or, set, Some, None, refl, sym, ap, subst, ◌∙◌, arith}
use Rattle.std.proofs.Common.{get_or-set_other}
use Rattle.std.proofs.lemmas.List.{map-set, length-map, map-append, get_or_default}
use Rattle.std.proofs.lemmas.Grind.{get_or-set_at}
use Rattle.std.proofs.lemmas.Bool.Decides.{nat_tests}
use Rattle.std.specs.Prelude.{IfSome, Option}
use Rattle.std.specs.Option.{option_to_list, is_some}
use Rattle.std.proofs.lemmas.Bool.{true≢false}
use Rattle.mcast_txn.proofs.Members.{In-append_left, In-push}
use Rattle.mcast_txn.specs.declared.stamp.Stamp.{Stamp}
use Rattle.mcast_txn.specs.Lists.{In}
use Rattle.mcast_txn.specs.Span.{Item}
use Rattle.mcast_txn.specs.Transaction.{TopicPart}
use Rattle.sub_queue.specs.Shown.{Shown, after_push}
use Rattle.mcast_group.specs.declared.subscription.Subscription.{Subscription}
use Rattle.mcast_group.specs.Machine.{Entry, Pending, entry_after, item_of, key}
use Rattle.mcast_group.specs.Group.{entries_after}
use Rattle.mcast_group.specs.Inner.GroupInvariant.{MayGive, entry_of}

-- ---- one more is given

each_more : (f : Stamp) (item : Item) (bs : List Bool) (b : Bool) (i : ℕ) (es : List Entry) (d : Entry) → length bs ≡ i → i < length es → entries_after f item (bs ++ b ∷ []) es ≡ set (entries_after f item bs es) i (entry_after (λ _. b) f item (get_or es i d))
each_more f item [] b zero [] d e l = absurd (omega arith)
each_more f item [] b zero (a ∷ es) d e l = refl
each_more f item [] b (suc i) es d e l = absurd (omega arith)
each_more f item (a ∷ bs) b zero es d e l = absurd (omega arith)
each_more f item (a ∷ bs) b (suc i) [] d e l = absurd (omega arith)
each_more f item (a ∷ bs) b (suc i) (x ∷ es) d e l = ap (λ (z : List Entry). entry_after (λ _. a) f item x ∷ z) (each_more f item bs b i es d (omega arith) (omega arith))

-- what is read in a mapped list is f of what is read in the list
pub get_or-map : {S T : Type 0} (f : S → T) (xs : List S) (i : ℕ) (d : S) → get_or (map f xs) i (f d) ≡ f (get_or xs i d)
get_or-map f [] i d = refl
get_or-map f (x ∷ xs) zero d = refl
get_or-map f (x ∷ xs) (suc i) d = get_or-map f xs i d

-- one more subscription is given the item, and its answer is added to the list
pub told_more : {S : Type 0} (g : S → Entry) (f : Stamp) (item : Item) (bs : List Bool) (b : Bool) (i : ℕ) (subs old : List S) (new d : S) → length bs ≡ i → i < length old → map g subs ≡ entries_after f item bs (map g old) → get_or subs i d ≡ get_or old i d → g new ≡ entry_after (λ _. b) f item (g (get_or subs i d)) → map g (set subs i new) ≡ entries_after f item (bs ++ b ∷ []) (map g old)
told_more g f item bs b i subs old new d e l h s n =
    let more = each_more f item bs b i (map g old) (g d) e (rw length-map l) in
    let last : g new ≡ entry_after (λ _. b) f item (get_or (map g old) i (g d)) = n ∙ ap (entry_after (λ _. b) f item) (ap g s ∙ sym (get_or-map g old i d)) in
    rw (map-set, h, last) (sym more)

-- writing what is there already changes nothing
pub set_same : {T : Type 0} (xs : List T) (i : ℕ) (d y : T) → y ≡ get_or xs i d → i < length xs → set xs i y ≡ xs
set_same [] i d y e l = absurd (omega arith)
set_same (x ∷ xs) zero d y e l = ap (λ (z : _). z ∷ xs) e
set_same (x ∷ xs) (suc i) d y e l = ap (λ (z : List _). x ∷ z) (set_same xs i d y e (omega arith))

-- what is the same at one index is the same in all
pub mapped_more : {S T : Type 0} (g : S → T) (i : ℕ) (subs old : List S) (new d : S) → i < length subs → map g subs ≡ map g old → g new ≡ g (get_or subs i d) → map g (set subs i new) ≡ map g old
mapped_more g i subs old new d l h n = rw map-set (set_same (map g subs) i (g d) (g new) (n ∙ sym (get_or-map g subs i d)) (rw length-map l) ∙ h)

-- one more answer that its outlet may give is added to those that may be given
pub may_more : {Q : Type 0} (shown : Q → Shown) (may : Shown → Bool → Type 0) (bs : List Bool) (b : Bool) (i : ℕ) (subs : List (Subscription Q)) (d : Subscription Q) → length bs ≡ i → i < length subs → MayGive shown may bs subs → ((get_or subs i d).to ≡ None → may (shown (get_or subs i d).outlet) b) → MayGive shown may (bs ++ b ∷ []) subs
may_more shown may [] b zero [] d e l h n = absurd (omega arith)
may_more shown may [] b zero (s ∷ subs) d e l h n = (n, tt)
may_more shown may [] b (suc i) subs d e l h n = absurd (omega arith)
may_more shown may (a ∷ bs) b zero subs d e l h n = absurd (omega arith)
may_more shown may (a ∷ bs) b (suc i) [] d e l h n = absurd (omega arith)
may_more shown may (a ∷ bs) b (suc i) (s ∷ subs) d e l h n = (h.0, may_more shown may bs b i subs d (omega arith) (omega arith) h.1 n)

-- ---- one subscription

-- an option that has no value is None
pub none_of : {T : Type 0} (o : Option T) → is_some o ≡ false → o ≡ None
none_of None e = refl
none_of (Some x) e = absurd (true≢false e)

module _ {Q : Type 0} (shown : Q → Shown) (f : Stamp) (p : Pending) (s new : Subscription Q) (o : Q) where
  -- a subscription whose outlet took the item is the machine's entry after it
  pub given_taken : (b : Bool) (q : TopicPart) (at : Stamp) → b ≡ true → is_some s.to ≡ false → q ≡ p.part → at ≡ key p → new ≡ record s { outlet = o } → shown o ≡ after_push (record { id = q.id; stamp = at; sends = q.sends }) (shown s.outlet) → entry_of shown new ≡ entry_after (λ _. b) f (item_of p) (entry_of shown s)
  given_taken b q at t none e l n k = let m = none_of s.to none in rw (n, t, m, k, e, l) refl

  -- a subscription whose outlet refused the item is the machine's entry after it
  pub given_refused : (b : Bool) → b ≡ false → is_some s.to ≡ false → new ≡ record s { outlet = o; to = Some f } → shown o ≡ shown s.outlet → entry_of shown new ≡ entry_after (λ _. b) f (item_of p) (entry_of shown s)
  given_refused b t none n k = let m = none_of s.to none in rw (n, t, m, k) refl

-- ---- a copy that is taken out

-- an item that is popped was in the list
pub popped_in : {S T : Type 0} (f : S → T) (old new : List S) (r : Option S) → old ≡ new ++ option_to_list r → IfSome r (λ x. In (f x) (map f old))
popped_in f old new None e = tt
popped_in f old new (Some x) e = rw e (subst (λ (zs : List _). In (f x) zs) (sym (map-append f new (x ∷ []))) (In-push (f x) (map f new)))

-- what is left after a pop was in the list
pub popped_rest : {S T : Type 0} (f : S → T) (old new : List S) (r : Option S) → old ≡ new ++ option_to_list r → (y : T) → In y (map f new) → In y (map f old)
popped_rest f old new r e y k = rw e (subst (λ (zs : List _). In y zs) (sym (map-append f new (option_to_list r))) (In-append_left y (map f new) (map f (option_to_list r)) k))

-- ---- what spares are left

-- each spare shrank by at most one, after one more subscription is written too
pub spare_more : {S : Type 0} (h : S → ℕ) (n i : ℕ) (subs old : List S) (new d : S) → i < length subs → n ≡ length old → n ≡ length subs → ((k : ℕ) (e : S) → k < n → h (get_or old k e) ≤ h (get_or subs k e) + 1) → h (get_or old i d) ≤ h new + 1 → (k : ℕ) (e : S) → k < n → h (get_or old k e) ≤ h (get_or (set subs i new) k e) + 1
spare_more h n i subs old new d l a b all one k e m = go (k == i) refl
  where
    go : (t : Bool) → (k == i) ≡ t → h (get_or old k e) ≤ h (get_or (set subs i new) k e) + 1
    go true q =
        let same : k ≡ i = grind (arith, nat_tests) in
        let here : get_or (set subs i new) k e ≡ new = get_or-set_at subs i k new e same l in
        let there : get_or old k e ≡ get_or old i d = ap (λ (j : ℕ). get_or old j e) same ∙ get_or_default old i e d (omega arith) in
        rw (here, there) one
    go false q =
        let ne : k ≢ i = grind (arith, nat_tests) in
        rw (get_or-set_other subs i k new e ne) (all k e m)

-- ---- one is written among others

-- what holds of the new one, and of each other, holds of each
pub at_each : {S : Type 0} (P : S → Type 0) (subs : List S) (i : ℕ) (new : S) (k : ℕ) (d : S) → i < length subs → P new → (k ≢ i → P (get_or subs k d)) → P (get_or (set subs i new) k d)
at_each P subs i new k d l p h = go (k == i) refl
  where
    go : (t : Bool) → (k == i) ≡ t → P (get_or (set subs i new) k d)
    go true q =
        let same : k ≡ i = grind (arith, nat_tests) in
        subst P (sym (get_or-set_at subs i k new d same l)) p
    go false q =
        let ne : k ≢ i = grind (arith, nat_tests) in
        subst P (sym (get_or-set_other subs i k new d ne)) (h ne)

-- no spare shrank, after one more subscription is written too
pub spare_kept : {S : Type 0} (h : S → ℕ) (n i : ℕ) (subs old : List S) (new d : S) → i < length subs → n ≡ length subs → ((k : ℕ) (e : S) → k < n → h (get_or old k e) ≤ h (get_or subs k e)) → h (get_or subs i d) ≤ h new → (k : ℕ) (e : S) → k < n → h (get_or old k e) ≤ h (get_or (set subs i new) k e)
spare_kept h n i subs old new d l b all one k e m = go (k == i) refl
  where
    go : (t : Bool) → (k == i) ≡ t → h (get_or old k e) ≤ h (get_or (set subs i new) k e)
    go true q =
        let same : k ≡ i = grind (arith, nat_tests) in
        let here : get_or (set subs i new) k e ≡ new = get_or-set_at subs i k new e same l in
        let was : get_or subs k e ≡ get_or subs i d = ap (λ (j : ℕ). get_or subs j e) same ∙ get_or_default subs i e d l in
        let a : h (get_or old k e) ≤ h (get_or subs i d) = subst (λ (z : _). h (get_or old k e) ≤ h z) was (all k e m) in
        rw here (omega arith)
    go false q =
        let ne : k ≢ i = grind (arith, nat_tests) in
        rw (get_or-set_other subs i k new e ne) (all k e m)
