-- What sorts give: rows behind references, in another order.
use Rattle.std.proofs.Common.{◌≡◌, ℕ, suc, ◌+◌, ◌<◌, ◌==◌, Bool, true, false, cond, not, ◌&&◌, ◌||◌, nat_lt, inl, inr, List, [], ◌∷◌, length, get_or, Bor, refl, sym, ap, subst, ◌∙◌, ◌⊎◌, arith}
use Rattle.std.specs.declared.cmp.Ordering.TheVariants.{Less, Equal, Greater}
use Rattle.std.specs.Ordering.{nat_cmp, ordering_then, is_lt}
use Rattle.std.specs.List.{filter}
use Rattle.std.specs.List.Sorted.{IsPermutation, IsStableBy, ties}
use Rattle.std.proofs.lemmas.Bool.Decides.{nat_tests}
use Rattle.std.proofs.lemmas.List.Elements.{filter_agree}
use Rattle.std.proofs.lemmas.List.Sorted.{IsPermutation-map}
use Rattle.mcast_txn.specs.declared.id.Topic.{Topic}
use Rattle.mcast_txn.specs.declared.id.TxnId.{TxnId}
use Rattle.mcast_txn.specs.declared.stamp.Stamp.{Stamp}
use Rattle.mcast_txn.specs.Ids.{id_lt}
use Rattle.mcast_txn.specs.Lists.{In}
use Rattle.mcast_txn.specs.Stamp.{stamp_lt, zero_stamp}
use Rattle.trace_audit.specs.Logs.{TopicRow}
use Rattle.trace_audit.specs.Inner.Chained.{Chained}
use Rattle.trace_audit.specs.Inner.Orders.{rows_of_refs}

-- ---- orders as tests

-- a comparison of two numbers answers less exactly where the first is below the second
pub one_lt : (a b : ℕ) → is_lt (nat_cmp a b) ≡ nat_lt a b
one_lt a b = go (nat_lt a b) (a == b)
  where
    unless : (e : Bool) → is_lt (cond e Equal Greater) ≡ false
    unless true = refl
    unless false = refl

    go : (l e : Bool) → is_lt (cond l Less (cond e Equal Greater)) ≡ l
    go true e = refl
    go false e = unless e

-- a comparison of two pairs of numbers answers less where the first parts do, or are equal and the second do
pub pair_lt : (a b c d : ℕ) → is_lt (ordering_then (nat_cmp a b) (nat_cmp c d)) ≡ (nat_lt a b || (a == b && nat_lt c d))
pair_lt a b c d = go (nat_lt a b) (a == b)
  where
    unless : (e : Bool) → is_lt (ordering_then (cond e Equal Greater) (nat_cmp c d)) ≡ (e && nat_lt c d)
    unless true = one_lt c d
    unless false = refl

    go : (l e : Bool) → is_lt (ordering_then (cond l Less (cond e Equal Greater)) (nat_cmp c d)) ≡ (l || (e && nat_lt c d))
    go true e = refl
    go false e = unless e

-- a comparison of ids by sender and then sequence number is the order of ids
pub id_rises : (a b : TxnId) → is_lt (ordering_then (nat_cmp a.sender.0 b.sender.0) (nat_cmp a.seq b.seq)) ≡ id_lt a b
id_rises a b = pair_lt a.sender.0 b.sender.0 a.seq b.seq

-- a comparison of stamps by number and then topic is the order of stamps
pub stamp_rises : (a b : Stamp) → is_lt (ordering_then (nat_cmp a.n b.n) (nat_cmp a.topic.0 b.topic.0)) ≡ stamp_lt a b
stamp_rises a b = pair_lt a.n b.n a.topic.0 b.topic.0

-- ---- what a sort moves

-- rows behind references that a sort moved
pub moved_shown : {X : Type 0} (logs : List X) (rows rows' : List (Bor X)) → rows_of_refs rows ≡ logs → IsPermutation rows rows' → IsPermutation logs (rows_of_refs rows')
moved_shown logs rows rows' e p = subst (λ z. IsPermutation z (rows_of_refs rows')) e (IsPermutation-map (λ r. r.now) rows rows' p)

shown_case : {X : Type 0} (p : X → Bool) (r : Bor X) (rows : List (Bor X)) (b : Bool) → filter p (rows_of_refs rows) ≡ rows_of_refs (filter (λ r. p r.now) rows) → cond b (r.now ∷ filter p (rows_of_refs rows)) (filter p (rows_of_refs rows)) ≡ rows_of_refs (cond b (r ∷ filter (λ z. p z.now) rows) (filter (λ z. p z.now) rows))
shown_case p r rows true e = ap (λ z. r.now ∷ z) e
shown_case p r rows false e = e

-- to filter what references show is to show the filtered references
pub shown_filter : {X : Type 0} (p : X → Bool) (rows : List (Bor X)) → filter p (rows_of_refs rows) ≡ rows_of_refs (filter (λ r. p r.now) rows)
shown_filter p [] = refl
shown_filter p (r ∷ rows) = shown_case p r rows (p r.now) (shown_filter p rows)

tied : (t u : ℕ) → (not (nat_lt t u) && not (nat_lt u t)) ≡ (u == t)
tied t u = grind (arith, nat_tests)

-- what has a key is kept in its order by a stable sort by that key
pub kept_shown : {X : Type 0} (key : X → ℕ) (x : X) (logs : List X) (rows rows' : List (Bor X)) → rows_of_refs rows ≡ logs → IsStableBy (λ a b. is_lt (nat_cmp (key a.now) (key b.now))) rows rows' → filter (λ item. key item == key x) (rows_of_refs rows') ≡ filter (λ item. key item == key x) logs
kept_shown {X} key x logs rows rows' e stable =
    shown_filter at rows'
    ∙ (ap rows_of_refs (filter_agree (λ r. at r.now) (ties less here) same rows' ∙ (stable here ∙ sym (filter_agree (λ r. at r.now) (ties less here) same rows)))
    ∙ (sym (shown_filter at rows) ∙ ap (filter at) e))
  where
    at : X → Bool
    at item = key item == key x

    less : Bor X → Bor X → Bool
    less a b = is_lt (nat_cmp (key a.now) (key b.now))

    here : Bor X
    here = record { ref_ptr = (0, 0); now = x }

    same : (r : Bor X) → at r.now ≡ ties less here r
    same r = sym (tied (key x) (key r.now)) ∙ sym (ap (λ z. not z && not (less r here)) (one_lt (key x) (key r.now)) ∙ ap (λ z. not (nat_lt (key x) (key r.now)) && not z) (one_lt (key r.now) (key x)))

-- a row of a topic's log
abbrev pub logged_at : Topic → TopicRow
logged_at t = record { topic = t; row = record { id = record { sender = record { 0 = 0 }; seq = 0 }; topics = []; stamp = zero_stamp } }

-- ---- chains

chain_cons : {X : Type 0} (R : X → X → Type 0) → ((x y z : X) → R x y → R y z → R x z) → (x y : X) (ys : List X) → R x y → Chained R (y ∷ ys) → Chained R (x ∷ y ∷ ys)
chain_cons {X} R trans x y ys next rest = (below, rest)
  where
    below : (z : X) → In z (y ∷ ys) → R x z
    below z (inl e) = subst (R x) e next
    below z (inr i) = trans x y z next (rest.0 z i)

-- where neighbours are in a transitive relation, each is to all later ones
pub chain_shown : {X : Type 0} (R : X → X → Type 0) → ((x y z : X) → R x y → R y z → R x z) → (rows : List (Bor X)) → ((k : ℕ) (d : Bor X) → k + 1 < length rows → R (get_or rows k d).now (get_or rows (k + 1) d).now) → Chained R (rows_of_refs rows)
chain_shown R trans [] h = tt
chain_shown R trans (x ∷ []) h = ((λ y i. absurd i), tt)
chain_shown R trans (x ∷ y ∷ ys) h =
    chain_cons R trans x.now y.now (rows_of_refs ys) (h 0 x (omega arith)) (chain_shown R trans (y ∷ ys) (λ k d l.
    let e : suc k + 1 ≡ suc (k + 1) = omega arith in
    subst (λ (n : ℕ). R (get_or (y ∷ ys) k d).now (get_or (x ∷ y ∷ ys) n d).now) e (h (suc k) d (omega arith))))

-- of two items of a chained list, one is in the relation to the other, or they are equal
pub chain_pair : {X : Type 0} (R : X → X → Type 0) (xs : List X) (a b : X) → Chained R xs → In a xs → In b xs → R a b ⊎ (R b a ⊎ (a ≡ b))
chain_pair R [] a b c i j = absurd i
chain_pair R (x ∷ xs) a b c (inl e) (inl f) = inr (inr (sym e ∙ f))
chain_pair R (x ∷ xs) a b c (inl e) (inr j) = inl (subst (λ z. R z b) e (c.0 b j))
chain_pair R (x ∷ xs) a b c (inr i) (inl f) = inr (inl (subst (λ z. R z a) f (c.0 a i)))
chain_pair R (x ∷ xs) a b c (inr i) (inr j) = chain_pair R xs a b c.1 i j
