-- What a halving finds among rows by topic and stamp.
use Rattle.std.proofs.Common.{◌≡◌, ◌≢◌, ℕ, zero, suc, ◌<◌, ◌≤◌, ◌==◌, Bool, true, false, cond, not, ◌&&◌, ◌||◌, nat_lt, inl, inr, List, [], ◌∷◌, length, get_or, Bor, Option, Some, None, refl, sym, ap, subst, ◌∙◌, ◌⊎◌, arith}
use Rattle.std.specs.List.{list_any, find}
use Rattle.std.specs.List.Sorted.{IsPartitionedBy, IsPartitionPoint}
use Rattle.std.specs.Option.{option_map}
use Rattle.std.proofs.lemmas.Bool.{eqb-true, and_parts, true≢false, false≢true, and_from, not_from_false, not-true}
use Rattle.std.proofs.lemmas.Bool.Decides.{nat_tests}
use Rattle.std.proofs.lemmas.List.{get_or_default}
use Rattle.std.proofs.lemmas.Option.{same_Some}
use Rattle.mcast_txn.specs.declared.id.Topic.{Topic}
use Rattle.mcast_txn.specs.declared.stamp.Stamp.{Stamp}
use Rattle.mcast_txn.specs.Ids.{same_id}
use Rattle.mcast_txn.specs.Lists.{In}
use Rattle.mcast_txn.specs.Span.{LogRow}
use Rattle.mcast_txn.specs.Stamp.{same_stamp, stamp_lt}
use Rattle.mcast_txn.proofs.Members.{In-map, In-get_or, any_found, any_from}
use Rattle.mcast_txn.proofs.Orders.{lt_irrefl, lt_trans, id_itself, same_stamp_itself}
use Rattle.trace_audit.specs.Faults.{log_has_row, log_has_row_from, is_hole}
use Rattle.trace_audit.specs.Logs.{TopicRow}
use Rattle.trace_audit.specs.Inner.Chained.{Chained, Above, IsIndex, comes_before, is_from}
use Rattle.trace_audit.specs.Inner.Orders.{rows_of_refs}
use Rattle.trace_audit.specs.Trace.{rows_of}
use Rattle.trace_audit.proofs.Explaining.{none_at, one_row, one_stamp}
use Rattle.trace_audit.proofs.Refuting.{refuted}

-- ---- chains by index

In-at : {X : Type 0} (rows : List (Bor X)) (k : ℕ) (d : Bor X) → k < length rows → In (get_or rows k d).now (rows_of_refs rows)
In-at rows k d l = In-map (λ r. r.now) (get_or rows k d) rows (In-get_or rows k d l)

-- an item is in the relation to each at a later index
pub chain_at : {X : Type 0} (R : X → X → Type 0) (rows : List (Bor X)) (i j : ℕ) (d : Bor X) → Chained R (rows_of_refs rows) → i < j → j < length rows → R (get_or rows i d).now (get_or rows j d).now
chain_at R [] i j d c l m = absurd (omega arith)
chain_at R (x ∷ xs) i zero d c l m = absurd (omega arith)
chain_at R (x ∷ xs) zero (suc j) d c l m = c.0 (get_or xs j d).now (In-at xs j d (omega arith))
chain_at R (x ∷ xs) (suc i) (suc j) d c l m = chain_at R xs i j d c.1 (omega arith) (omega arith)

le_cases : (i j : ℕ) → i ≤ j → (i < j) ⊎ (i ≡ j)
le_cases i j l = go (nat_lt i j) refl
  where
    go : (b : Bool) → nat_lt i j ≡ b → (i < j) ⊎ (i ≡ j)
    go true e = inl (grind (arith, nat_tests))
    go false e = inr (grind (arith, nat_tests))

three : (k i : ℕ) → (k < i) ⊎ ((k ≡ i) ⊎ (i < k))
three k i = go (nat_lt k i) refl
  where
    le : nat_lt k i ≡ false → i ≤ k
    le e = grind (arith, nat_tests)

    turned : (i < k) ⊎ (i ≡ k) → (k < i) ⊎ ((k ≡ i) ⊎ (i < k))
    turned (inl m) = inr (inr m)
    turned (inr m) = inr (inl (sym m))

    go : (b : Bool) → nat_lt k i ≡ b → (k < i) ⊎ ((k ≡ i) ⊎ (i < k))
    go true e = inl (grind (arith, nat_tests))
    go false e = turned (le_cases i k (le e))

-- a test that an item passes wherever a later one does
pub parted : {X : Type 0} (R : X → X → Type 0) (p : X → Bool) (rows : List (Bor X)) → Chained R (rows_of_refs rows) → ((x y : X) → R x y → p y ≡ true → p x ≡ true) → IsPartitionedBy (λ r. p r.now) rows
parted R p rows c keeps i j d l m e = go (le_cases i j l)
  where
    go : (i < j) ⊎ (i ≡ j) → p (get_or rows i d).now ≡ true
    go (inl k) = keeps (get_or rows i d).now (get_or rows j d).now (chain_at R rows i j d c k m) e
    go (inr k) = subst (λ (n : ℕ). p (get_or rows n d).now ≡ true) (sym k) e

-- ---- the first that passes

find_case : {X : Type 0} (q : X → Bool) (x : X) (xs : List X) (b : Bool) → q x ≡ b → b ≡ false → find q (x ∷ xs) ≡ find q xs
find_case q x xs b e f = rw (e ∙ f) refl

-- where no item passes a test, none is found
pub find_none : {X : Type 0} (q : X → Bool) (rows : List (Bor X)) → ((k : ℕ) (d : Bor X) → k < length rows → q (get_or rows k d).now ≡ false) → find q (rows_of_refs rows) ≡ None
find_none q [] h = refl
find_none q (x ∷ xs) h =
    find_case q x.now (rows_of_refs xs) (q x.now) refl (h 0 x (omega arith)) ∙ find_none q xs (λ k d l. h (suc k) d (omega arith))

-- where an item passes and none before it does, it is the one found
pub find_at : {X : Type 0} (q : X → Bool) (rows : List (Bor X)) (i : ℕ) (d : Bor X) → i < length rows → ((k : ℕ) (d : Bor X) → k < i → q (get_or rows k d).now ≡ false) → q (get_or rows i d).now ≡ true → find q (rows_of_refs rows) ≡ Some (get_or rows i d).now
find_at q [] i d l h e = absurd (omega arith)
find_at q (x ∷ xs) zero d l h e = rw e refl
find_at q (x ∷ xs) (suc i) d l h e =
    find_case q x.now (rows_of_refs xs) (q x.now) refl (h 0 x (omega arith)) ∙ find_at q xs i d (omega arith) (λ k f m. h (suc k) f (omega arith)) e

-- what passes is the one found, or comes after it
pub record FoundFirst {X : Type 0} (R : X → X → Type 0) (q : X → Bool) (xs : List X) (y : X) : Type 0 where
  pub stands : In y xs
  pub passes : q y ≡ true
  pub first : (x : X) → In x xs → q x ≡ true → (y ≡ x) ⊎ R y x

-- what is found in a chained list passes, and is in the relation to all others that pass
pub found_first : {X : Type 0} (R : X → X → Type 0) (q : X → Bool) (xs : List X) (y : X) → Chained R xs → find q xs ≡ Some y → FoundFirst R q xs y
found_first R q [] y c e = absurd cc
found_first {X} R q (x ∷ xs) y c e = go (q x) refl e (λ f. found_first R q xs y c.1 f)
  where
    go : (b : Bool) → q x ≡ b → cond b (Some x) (find q xs) ≡ Some y → (find q xs ≡ Some y → FoundFirst R q xs y) → FoundFirst R q (x ∷ xs) y
    go true f g ih = record {
      stands = inl (same_Some x y g);
      passes = subst (λ z. q z ≡ true) (same_Some x y g) f;
      first = λ z i h. first z i;
    }
      where
        first : (z : X) → In z (x ∷ xs) → (y ≡ z) ⊎ R y z
        first z (inl k) = inl (sym (same_Some x y g) ∙ k)
        first z (inr k) = inr (subst (λ w. R w z) (same_Some x y g) (c.0 z k))
    go false f g ih = record {
      stands = inr (ih g).stands;
      passes = (ih g).passes;
      first = λ z i h. later z i h;
    }
      where
        later : (z : X) → In z (x ∷ xs) → q z ≡ true → (y ≡ z) ⊎ R y z
        later z (inl k) h = absurd (false≢true (sym (subst (λ w. q w ≡ false) k f) ∙ h))
        later z (inr k) h = (ih g).first z k h

find_any : {X : Type 0} (q : X → Bool) (xs : List X) → find q xs ≡ None → list_any q xs ≡ false
find_any q [] e = refl
find_any {X} q (x ∷ xs) e = go (q x) e (λ f. find_any q xs f)
  where
    go : (b : Bool) → cond b (Some x) (find q xs) ≡ None → (find q xs ≡ None → list_any q xs ≡ false) → (b || list_any q xs) ≡ false
    go true f ih = absurd cc
    go false f ih = ih f

-- ---- halving

before_keeps : (t : Topic) (stamp : Stamp) (x y : TopicRow) → Above x y → comes_before t stamp y ≡ true → comes_before t stamp x ≡ true
before_keeps t stamp x y above e = go (x.topic.0 == y.topic.0) refl
  where
    other : (x.topic.0 == y.topic.0) ≡ false → comes_before t stamp x ≡ true
    other f = lower x.topic.0 y.topic.0 t.0 (stamp_lt x.row.stamp stamp) (stamp_lt y.row.stamp stamp) above.0 f e
      where
        lower : (a b u : ℕ) (p q : Bool) → nat_lt b a ≡ false → (a == b) ≡ false → (nat_lt b u || (b == u && q)) ≡ true → (nat_lt a u || (a == u && p)) ≡ true
        lower a b u p q l n g = grind (arith, nat_tests)

    same : x.topic.0 ≡ y.topic.0 → comes_before t stamp x ≡ true
    same f = more x.topic.0 y.topic.0 t.0 f (stamp_lt x.row.stamp stamp) (stamp_lt y.row.stamp stamp) (λ k. lt_trans x.row.stamp y.row.stamp stamp (above.1 f) k) e
      where
        or_parts_of : (l p q : Bool) → (q ≡ true → p ≡ true) → (m : Bool) → (l || (m && q)) ≡ true → (l || (m && p)) ≡ true
        or_parts_of true p q h m g = refl
        or_parts_of false p q h true g = h g
        or_parts_of false p q h false g = g

        more : (a b u : ℕ) → a ≡ b → (p q : Bool) → (q ≡ true → p ≡ true) → (nat_lt b u || (b == u && q)) ≡ true → (nat_lt a u || (a == u && p)) ≡ true
        more a b u f p q h g =
            or_parts_of (nat_lt a u) p q h (a == u) (subst (λ (n : ℕ). (nat_lt n u || (n == u && q)) ≡ true) (sym f) g)

    go : (b : Bool) → (x.topic.0 == y.topic.0) ≡ b → comes_before t stamp x ≡ true
    go true f = same (eqb-true x.topic.0 y.topic.0 f)
    go false f = other f

-- an index is partitioned: the rows before a stamp of a topic, and then the others
pub before_parted : (t : Topic) (stamp : Stamp) (rows : List (Bor TopicRow)) → IsIndex rows → IsPartitionedBy (λ r. comes_before t stamp r.now) rows
before_parted t stamp rows index = parted Above (comes_before t stamp) rows index.rises (before_keeps t stamp)

-- a row that comes before isn't one from there on
before_not_from : (a u : ℕ) (p : Bool) → (nat_lt a u || (a == u && p)) ≡ true → (a == u && not p) ≡ false
before_not_from a u p e = grind (arith, nat_tests)

not_before_from : (a u : ℕ) (p : Bool) → (nat_lt a u || (a == u && p)) ≡ false → a ≡ u → (a == u && not p) ≡ true
not_before_from a u p e f = grind (arith, nat_tests)

beyond_not_from : (a b u : ℕ) (p q : Bool) → (nat_lt a u || (a == u && p)) ≡ false → a ≢ u → nat_lt b a ≡ false → (b == u && q) ≡ false
beyond_not_from a b u p q e f g = grind (arith, nat_tests)

abbrev PointOf : Topic → Stamp → List (Bor TopicRow) → ℕ → Type 0
PointOf t stamp rows i =
    IsPartitionPoint (λ r. comes_before t stamp r.now ≡ true) (λ r. comes_before t stamp r.now ≡ false) rows i

early : (t : Topic) (stamp : Stamp) (rows : List (Bor TopicRow)) (i : ℕ) → PointOf t stamp rows i → (k : ℕ) (d : Bor TopicRow) → k < i → is_from t stamp (get_or rows k d).now ≡ false
early t stamp rows i point k d l =
    before_not_from (get_or rows k d).now.topic.0 t.0 (stamp_lt (get_or rows k d).now.row.stamp stamp) (point.0 k d (omega arith) l)

-- where the row at the partition point is of the topic, its stamp is the log's first from the given one on
pub found_here : (t : Topic) (stamp : Stamp) (rows : List (Bor TopicRow)) (i : ℕ) (d : Bor TopicRow) → PointOf t stamp rows i → i < length rows → (get_or rows i d).now.topic.0 ≡ t.0 → Some (get_or rows i d).now.row.stamp ≡ option_map (λ logged. logged.row.stamp) (find (λ logged. is_from t stamp logged) (rows_of_refs rows))
found_here t stamp rows i d point l e =
    ap (option_map (λ (logged : TopicRow). logged.row.stamp))
    (sym (find_at (is_from t stamp) rows i d l (early t stamp rows i point)
    (not_before_from (get_or rows i d).now.topic.0 t.0 (stamp_lt (get_or rows i d).now.row.stamp stamp) (point.1 i d (omega arith) l) e)))

-- where the row at the partition point is of another topic, the log has no stamp from the given one on
pub found_beyond : (t : Topic) (stamp : Stamp) (rows : List (Bor TopicRow)) (i : ℕ) (d : Bor TopicRow) → IsIndex rows → PointOf t stamp rows i → i < length rows → (get_or rows i d).now.topic.0 ≢ t.0 → None ≡ option_map (λ logged. logged.row.stamp) (find (λ logged. is_from t stamp logged) (rows_of_refs rows))
found_beyond t stamp rows i d index point l e =
    ap (option_map (λ (logged : TopicRow). logged.row.stamp)) (sym (find_none (is_from t stamp) rows none))
  where
    later : (k : ℕ) → k < length rows → i < k → is_from t stamp (get_or rows k d).now ≡ false
    later k m n =
        beyond_not_from (get_or rows i d).now.topic.0 (get_or rows k d).now.topic.0 t.0 (stamp_lt (get_or rows i d).now.row.stamp stamp) (not (stamp_lt (get_or rows k d).now.row.stamp stamp))
        (point.1 i d (omega arith) l) e (chain_at Above rows i k d index.rises n m).0

    here : is_from t stamp (get_or rows i d).now ≡ false
    here = rw (refuted ((get_or rows i d).now.topic.0 == t.0) (λ f. e (eqb-true (get_or rows i d).now.topic.0 t.0 f))) refl

    at_d : (k : ℕ) → k < length rows → (k < i) ⊎ ((k ≡ i) ⊎ (i < k)) → is_from t stamp (get_or rows k d).now ≡ false
    at_d k m (inl n) = early t stamp rows i point k d n
    at_d k m (inr (inl n)) = subst (λ (j : ℕ). is_from t stamp (get_or rows j d).now ≡ false) (sym n) here
    at_d k m (inr (inr n)) = later k m n

    none : (k : ℕ) (f : Bor TopicRow) → k < length rows → is_from t stamp (get_or rows k f).now ≡ false
    none k f m =
        subst (λ (r : Bor TopicRow). is_from t stamp r.now ≡ false) (get_or_default rows k d f m) (at_d k m (three k i))

-- where the partition point is the end, the log has no stamp from the given one on
pub found_none : (t : Topic) (stamp : Stamp) (rows : List (Bor TopicRow)) (i : ℕ) → PointOf t stamp rows i → i ≡ length rows → None ≡ option_map (λ logged. logged.row.stamp) (find (λ logged. is_from t stamp logged) (rows_of_refs rows))
found_none t stamp rows i point e =
    ap (option_map (λ (logged : TopicRow). logged.row.stamp)) (sym (find_none (is_from t stamp) rows (λ k d l. early t stamp rows i point k d (subst (λ n. k < n) (sym e) l))))

-- ---- rows of logs

-- what the first stamp says of a row
abbrev says : Option TopicRow → LogRow → Bool
says None q = false
says (Some logged) q = same_stamp logged.row.stamp q.stamp

at_row : (t : Topic) (q : LogRow) (logged : TopicRow) → (logged.topic.0 == t.0) ≡ true → logged.row ≡ q → is_from t q.stamp logged ≡ true
at_row t q logged e f =
    and_from (logged.topic.0 == t.0) (not (stamp_lt logged.row.stamp q.stamp)) e
    (not_from_false (stamp_lt logged.row.stamp q.stamp) (subst (λ (z : LogRow). stamp_lt logged.row.stamp z.stamp ≡ false) f (lt_irrefl logged.row.stamp)))

record HasRow (t : Topic) (q : LogRow) (logs : List TopicRow) : Type 0 where
  logged : TopicRow
  stands : In logged logs
  topic : (logged.topic.0 == t.0) ≡ true
  is : logged.row ≡ q

has_logged : (t : Topic) (q : LogRow) (rows : List (Bor TopicRow)) → IsIndex rows → In q (rows_of (rows_of_refs rows)) → log_has_row t q.id (rows_of_refs rows) ≡ true → HasRow t q (rows_of_refs rows)
has_logged t q rows index i e =
    let f = any_found (λ (logged : TopicRow). logged.topic.0 == t.0 && same_id logged.row.id q.id) (rows_of_refs rows) e in
    let p = and_parts (f.it.topic.0 == t.0) (same_id f.it.row.id q.id) f.passes in
    record {
      logged = f.it;
      stands = f.stands;
      topic = p.0;
      is = one_row (rows_of_refs rows) f.it.row q index.one_verdict (In-map (λ (l : TopicRow). l.row) f.it (rows_of_refs rows) f.stands) i p.1;
    }

-- the log has the row exactly where the first stamp from its own on is its own
pub has_row_is : (t : Topic) (q : LogRow) (rows : List (Bor TopicRow)) → IsIndex rows → In q (rows_of (rows_of_refs rows)) → log_has_row t q.id (rows_of_refs rows) ≡ says (find (λ logged. is_from t q.stamp logged) (rows_of_refs rows)) q
has_row_is t q rows index i = go (find (λ logged. is_from t q.stamp logged) (rows_of_refs rows)) refl
  where
    missing : find (λ logged. is_from t q.stamp logged) (rows_of_refs rows) ≡ None → log_has_row t q.id (rows_of_refs rows) ≡ true → Prim.⊥
    missing e h =
        let m = has_logged t q rows index i h in
        true≢false (sym (at_row t q m.logged m.topic m.is) ∙ none_at (λ logged. is_from t q.stamp logged) m.logged (rows_of_refs rows) (find_any (λ logged. is_from t q.stamp logged) (rows_of_refs rows) e) m.stands)

    other : (y : TopicRow) → find (λ logged. is_from t q.stamp logged) (rows_of_refs rows) ≡ Some y → same_stamp y.row.stamp q.stamp ≡ false → log_has_row t q.id (rows_of_refs rows) ≡ true → Prim.⊥
    other y e s h = which (f.first m.logged m.stands (at_row t q m.logged m.topic m.is))
      where
        f : FoundFirst Above (λ logged. is_from t q.stamp logged) (rows_of_refs rows) y
        f = found_first Above (λ logged. is_from t q.stamp logged) (rows_of_refs rows) y index.rises e

        m : HasRow t q (rows_of_refs rows)
        m = has_logged t q rows index i h

        p : ((y.topic.0 == t.0) ≡ true) × (not (stamp_lt y.row.stamp q.stamp) ≡ true)
        p = and_parts (y.topic.0 == t.0) (not (stamp_lt y.row.stamp q.stamp)) f.passes

        topics : y.topic.0 ≡ m.logged.topic.0
        topics = eqb-true y.topic.0 t.0 p.0 ∙ sym (eqb-true m.logged.topic.0 t.0 m.topic)

        which : (y ≡ m.logged) ⊎ Above y m.logged → Prim.⊥
        which (inl k) =
            true≢false (sym (subst (λ (z : LogRow). same_stamp z.stamp q.stamp ≡ true) (sym (ap (λ (l : TopicRow). l.row) k ∙ m.is)) (same_stamp_itself q.stamp)) ∙ s)
        which (inr k) =
            true≢false (sym (subst (λ (z : LogRow). stamp_lt y.row.stamp z.stamp ≡ true) m.is (k.1 topics)) ∙ not-true _ p.1)

    same : (y : TopicRow) → find (λ logged. is_from t q.stamp logged) (rows_of_refs rows) ≡ Some y → same_stamp y.row.stamp q.stamp ≡ true → log_has_row t q.id (rows_of_refs rows) ≡ true
    same y e s =
        let f = found_first Above (λ logged. is_from t q.stamp logged) (rows_of_refs rows) y index.rises e in
        let p = and_parts (y.topic.0 == t.0) (not (stamp_lt y.row.stamp q.stamp)) f.passes in
        let k : y.row ≡ q = one_stamp (rows_of_refs rows) y.row q index.one_verdict index.one_stamp (In-map (λ (l : TopicRow). l.row) y (rows_of_refs rows) f.stands) i s in
        any_from (λ (logged : TopicRow). logged.topic.0 == t.0 && same_id logged.row.id q.id) y (rows_of_refs rows) f.stands
        (and_from (y.topic.0 == t.0) (same_id y.row.id q.id) p.0 (subst (λ (z : LogRow). same_id z.id q.id ≡ true) (sym k) (id_itself q.id)))

    tell : (y : TopicRow) → find (λ logged. is_from t q.stamp logged) (rows_of_refs rows) ≡ Some y → (b : Bool) → same_stamp y.row.stamp q.stamp ≡ b → log_has_row t q.id (rows_of_refs rows) ≡ b
    tell y e true s = same y e s
    tell y e false s = refuted _ (other y e s)

    go : (o : Option TopicRow) → find (λ logged. is_from t q.stamp logged) (rows_of_refs rows) ≡ o → log_has_row t q.id (rows_of_refs rows) ≡ says o q
    go None e = refuted _ (missing e)
    go (Some y) e = tell y e (same_stamp y.row.stamp q.stamp) refl

-- the first stamp that isn't before a row's own, as an answer of the code
abbrev pub tells : Option Stamp → Stamp → Bool
tells None s = false
tells (Some found) s = same_stamp found s

-- there is a first stamp that isn't before a row's own, and it is another
abbrev pub tells_other : Option Stamp → Stamp → Bool
tells_other None s = false
tells_other (Some found) s = not (same_stamp found s)

has_row_told_own : (t : Topic) (q : LogRow) (rows : List (Bor TopicRow)) (o : Option Stamp) → IsIndex rows → In q (rows_of (rows_of_refs rows)) → o ≡ option_map (λ logged. logged.row.stamp) (find (λ logged. is_from t q.stamp logged) (rows_of_refs rows)) → tells o q.stamp ≡ log_has_row t q.id (rows_of_refs rows)
has_row_told_own t q rows o index i e =
    ap (λ z. tells z q.stamp) e ∙ (back (find (λ logged. is_from t q.stamp logged) (rows_of_refs rows)) ∙ sym (has_row_is t q rows index i))
  where
    back : (f : Option TopicRow) → tells (option_map (λ (logged : TopicRow). logged.row.stamp) f) q.stamp ≡ says f q
    back None = refl
    back (Some y) = refl

hole_told_own : (t : Topic) (q : LogRow) (rows : List (Bor TopicRow)) (o : Option Stamp) → IsIndex rows → In q (rows_of (rows_of_refs rows)) → o ≡ option_map (λ logged. logged.row.stamp) (find (λ logged. is_from t q.stamp logged) (rows_of_refs rows)) → tells_other o q.stamp ≡ is_hole (rows_of_refs rows) q t
hole_told_own t q rows o index i e =
    ap (λ z. tells_other z q.stamp) e ∙ go (find (λ logged. is_from t q.stamp logged) (rows_of_refs rows)) refl
  where
    reached : (y : TopicRow) → find (λ logged. is_from t q.stamp logged) (rows_of_refs rows) ≡ Some y → log_has_row_from t q.stamp (rows_of_refs rows) ≡ true
    reached y f =
        let p = found_first Above (λ logged. is_from t q.stamp logged) (rows_of_refs rows) y index.rises f in
        any_from (λ (logged : TopicRow). logged.topic.0 == t.0 && not (stamp_lt logged.row.stamp q.stamp)) y (rows_of_refs rows) p.stands p.passes

    short : (a b : Bool) → b ≡ false → false ≡ (not a && b)
    short true b f = refl
    short false b f = sym f

    full : (a b : Bool) → b ≡ true → not a ≡ (not a && b)
    full true b f = refl
    full false b f = sym f

    go : (f : Option TopicRow) → find (λ logged. is_from t q.stamp logged) (rows_of_refs rows) ≡ f → tells_other (option_map (λ (logged : TopicRow). logged.row.stamp) f) q.stamp ≡ is_hole (rows_of_refs rows) q t
    go None f = short _ _ (find_any (λ logged. is_from t q.stamp logged) (rows_of_refs rows) f)
    go (Some y) f =
        ap not (sym (has_row_is t q rows index i ∙ ap (λ z. says z q) f)) ∙ full _ _ (reached y f)

-- the same at a stamp that is the row's
pub has_row_told : (t : Topic) (q : LogRow) (s : Stamp) (rows : List (Bor TopicRow)) (o : Option Stamp) → s ≡ q.stamp → IsIndex rows → In q (rows_of (rows_of_refs rows)) → o ≡ option_map (λ logged. logged.row.stamp) (find (λ logged. is_from t s logged) (rows_of_refs rows)) → tells o s ≡ log_has_row t q.id (rows_of_refs rows)
has_row_told t q s rows o same index i e =
    ap (tells o) same ∙ has_row_told_own t q rows o index i (e ∙ ap (λ (z : Stamp). option_map (λ (logged : TopicRow). logged.row.stamp) (find (λ logged. is_from t z logged) (rows_of_refs rows))) same)

-- a log has a hole at a row exactly where its first stamp from the row's on is another than the row's
pub hole_told : (t : Topic) (q : LogRow) (s : Stamp) (rows : List (Bor TopicRow)) (o : Option Stamp) → s ≡ q.stamp → IsIndex rows → In q (rows_of (rows_of_refs rows)) → o ≡ option_map (λ logged. logged.row.stamp) (find (λ logged. is_from t s logged) (rows_of_refs rows)) → tells_other o s ≡ is_hole (rows_of_refs rows) q t
hole_told t q s rows o same index i e =
    ap (tells_other o) same ∙ hole_told_own t q rows o index i (e ∙ ap (λ (z : Stamp). option_map (λ (logged : TopicRow). logged.row.stamp) (find (λ logged. is_from t z logged) (rows_of_refs rows))) same)
