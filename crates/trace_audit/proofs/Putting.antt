-- Rows put among others that rise.
use Rattle.std.proofs.Common.{◌≡◌, ℕ, zero, suc, ◌+◌, ◌-◌, ◌<◌, Bool, true, false, cond, inl, inr, List, [], ◌∷◌, ◌++◌, length, get_or, take, Bor, Option, Some, refl, sym, ap, subst, ◌∙◌, arith}
use Rattle.std.specs.List.{list_any, slice_get}
use Rattle.std.specs.Option.{option_map}
use Rattle.std.specs.List.Sorted.{IsPermutation}
use Rattle.std.proofs.lemmas.Bool.{true≢false}
use Rattle.std.proofs.lemmas.List.{take_more, map-append, length-map}
use Rattle.std.proofs.lemmas.Option.{slice_get_within, slice_get-get_or, slice_get-map, same_Some}
use Rattle.std.proofs.lemmas.List.Sorted.{IsPermutation-sym, All-permutation}
use Rattle.mcast_txn.specs.declared.stamp.Stamp.{Stamp}
use Rattle.mcast_txn.specs.Lists.{In, Rises, insert_by}
use Rattle.mcast_txn.specs.Span.{LogRow, row_stamp}
use Rattle.mcast_txn.specs.Stamp.{same_stamp, stamp_lt}
use Rattle.mcast_txn.proofs.Inserting.{In-insert, In-insert_cases}
use Rattle.mcast_txn.proofs.Members.{In-append_left, In-push, In-push_cases, In-map, In-map_cases, In-get_or, any_found, any_from}
use Rattle.mcast_txn.proofs.Orders.{lt_irrefl, lt_asym, le_trans, same_stamps, same_stamp_is, same_stamp_itself}
use Rattle.mcast_txn.proofs.Sorting.{Rises-insert}
use Rattle.trace_audit.specs.Logs.{TopicRow}
use Rattle.trace_audit.specs.Inner.Chained.{Chained}
use Rattle.trace_audit.specs.Inner.Orders.{rows_of_refs, log_rows_of_refs, RisesByStamp}
use Rattle.trace_audit.specs.Inner.Sorting.{IsSortingOf, IsAtLeast, put_row}
use Rattle.trace_audit.specs.Trace.{rows_of}
use Rattle.trace_audit.proofs.OrderLemmas.{chain_shown}
use Rattle.trace_audit.proofs.Explaining.{none_at}

-- ---- the end

abbrev is_at : Stamp → LogRow → Bool
is_at s own = same_stamp own.stamp s

-- a row goes at the end of others of which none is above it
pub insert_last : (r : LogRow) (xs : List LogRow) → IsAtLeast r.stamp xs → insert_by row_stamp r xs ≡ xs ++ r ∷ []
insert_last r [] h = refl
insert_last r (q ∷ qs) h = rw (h q (inl refl)) (ap (λ z. q ∷ z) (insert_last r qs (λ p i. h p (inr i))))

-- where the last of rows that rise has a stamp that none is above, or any other row has it
last_case : (s : Stamp) (xs : List LogRow) (last : LogRow) → Rises row_stamp xs → IsAtLeast s xs → In last xs → ((q : LogRow) → In q xs → stamp_lt last.stamp q.stamp ≡ false) → (b : Bool) → same_stamp last.stamp s ≡ b → b ≡ list_any (λ own. same_stamp own.stamp s) xs
last_case s xs last up least i top true e = sym (any_from (λ own. same_stamp own.stamp s) last xs i e)
last_case s xs last up least i top false e = go (list_any (λ own. same_stamp own.stamp s) xs) refl
  where
    go : (b : Bool) → list_any (λ own. same_stamp own.stamp s) xs ≡ b → false ≡ b
    go false f = refl
    go true f =
        let m = any_found (λ own. same_stamp own.stamp s) xs f in
        let same : m.it.stamp ≡ s = same_stamp_is m.it.stamp s m.passes in
        let equal : last.stamp ≡ s = same_stamps last.stamp s (subst (λ (z : Stamp). stamp_lt last.stamp z ≡ false) same (top m.it m.stands)) (least last i) in
        absurd (true≢false (sym (subst (λ (z : Stamp). same_stamp z s ≡ true) (sym equal) (same_stamp_itself s)) ∙ e))

-- none of rows that rise is above the last
pub top_at : (xs : List LogRow) (k : ℕ) (d : LogRow) → Rises row_stamp xs → k + 1 ≡ length xs → (q : LogRow) → In q xs → stamp_lt (get_or xs k d).stamp q.stamp ≡ false
top_at [] k d up e q i = absurd i
top_at (x ∷ []) zero d up e q (inl f) = subst (λ (z : LogRow). stamp_lt x.stamp z.stamp ≡ false) f (lt_irrefl x.stamp)
top_at (x ∷ []) zero d up e q (inr i) = absurd i
top_at (x ∷ y ∷ ys) zero d up e q i = absurd (omega arith)
top_at (x ∷ ys) (suc k) d up e q (inl f) =
    subst (λ (z : LogRow). stamp_lt (get_or ys k d).stamp z.stamp ≡ false) f (lt_asym x.stamp (get_or ys k d).stamp (up.0 (get_or ys k d) (In-get_or ys k d (omega arith))))
top_at (x ∷ ys) (suc k) d up e q (inr i) = top_at ys k d up.1 (omega arith) q i

-- of rows that rise and are at most a stamp, the last has the stamp exactly where any row has it
pub last_is : (s : Stamp) (xs : List LogRow) (k : ℕ) (d : LogRow) → Rises row_stamp xs → IsAtLeast s xs → k + 1 ≡ length xs → same_stamp (get_or xs k d).stamp s ≡ list_any (λ own. same_stamp own.stamp s) xs
last_is s xs k d up least e =
    last_case s xs (get_or xs k d) up least (In-get_or xs k d (omega arith)) (top_at xs k d up e) (same_stamp (get_or xs k d).stamp s) refl

-- the same of the item that `last` gives
pub last_told : (s : Stamp) (xs : List LogRow) (y : LogRow) → Rises row_stamp xs → IsAtLeast s xs → Some y ≡ slice_get xs (length xs - 1) → same_stamp y.stamp s ≡ list_any (λ own. same_stamp own.stamp s) xs
last_told s xs y up least e =
    let l = slice_get_within xs (length xs - 1) y (sym e) in
    let same : y ≡ get_or xs (length xs - 1) y = same_Some _ _ (e ∙ slice_get-get_or xs (length xs - 1) y l) in
    ap (λ (z : LogRow). same_stamp z.stamp s) same ∙ last_is s xs (length xs - 1) y up least (omega arith)

-- the same of the reference that `last` gives
pub last_shown : (s : Stamp) (rows : List (Bor TopicRow)) (y : Bor TopicRow) → Rises row_stamp (log_rows_of_refs rows) → IsAtLeast s (log_rows_of_refs rows) → Some y ≡ slice_get rows (length rows - 1) → same_stamp y.now.row.stamp s ≡ list_any (λ own. same_stamp own.stamp s) (log_rows_of_refs rows)
last_shown s rows y up least e =
    last_told s (log_rows_of_refs rows) y.now.row up least
    (ap (λ (o : Option (Bor TopicRow)). option_map (λ (r : Bor TopicRow). r.now.row) o) e
    ∙ (sym (slice_get-map (λ (r : Bor TopicRow). r.now.row) rows (length rows - 1))
    ∙ ap (λ (n : ℕ). slice_get (log_rows_of_refs rows) (n - 1)) (sym (length-map rows (λ (r : Bor TopicRow). r.now.row)))))

-- a row above all others, of a stamp that none has
pub put_last : (r : LogRow) (xs : List LogRow) → IsAtLeast r.stamp xs → list_any (λ own. same_stamp own.stamp r.stamp) xs ≡ false → put_row r xs ≡ xs ++ r ∷ []
put_last r xs least e = rw e (insert_last r xs least)

record Indexed {X : Type 0} (xs : List X) (x : X) : Type 0 where
  index : ℕ
  within : index < length xs
  is : get_or xs index x ≡ x

In-index : {X : Type 0} (xs : List X) (x : X) → In x xs → Indexed xs x
In-index [] x i = absurd i
In-index (y ∷ ys) x (inl e) = record { index = 0; within = omega arith; is = e }
In-index (y ∷ ys) x (inr i) =
    let at = In-index ys x i in
    record { index = suc at.index; within = suc_below at.index (length ys) at.within; is = at.is }
  where
    suc_below : (a b : ℕ) → a < b → suc a < suc b
    suc_below a b l = omega arith

-- ---- the list

sorted_case : (rows all : List LogRow) (r : LogRow) (b : Bool) → list_any (is_at r.stamp) rows ≡ b → IsSortingOf rows all → IsSortingOf (cond b rows (insert_by row_stamp r rows)) (all ++ r ∷ [])
sorted_case rows all r true e s = record {
  rises = s.rises;
  of_all = λ q i. In-append_left q all (r ∷ []) (s.of_all q i);
  stamped = λ q i. elim (In-push_cases q r all i) [
    | inl k ↦ s.stamped q k
    | inr same ↦ subst (λ (z : LogRow). list_any (is_at z.stamp) rows ≡ true) same e
  ];
}
sorted_case rows all r false e s = record {
  rises = Rises-insert row_stamp r rows
      (λ q i k. absurd (true≢false (sym (subst (λ (z : Stamp). same_stamp z r.stamp ≡ true) k (same_stamp_itself r.stamp)) ∙ none_at (is_at r.stamp) q rows e i))) s.rises;
  of_all = λ q i. elim (In-insert_cases _ q r rows i) [
    | inl same ↦ subst (λ (z : LogRow). In z (all ++ r ∷ [])) same (In-push r all)
    | inr k ↦ In-append_left q all (r ∷ []) (s.of_all q k)
  ];
  stamped = λ q i. elim (In-push_cases q r all i) [
    | inl k ↦ (let f = any_found (is_at q.stamp) rows (s.stamped q k) in
        any_from (is_at q.stamp) f.it (insert_by row_stamp r rows) (In-insert _ f.it r rows (inr f.stands)) f.passes)
    | inr same ↦ any_from (is_at q.stamp) r (insert_by row_stamp r rows) (In-insert _ r r rows (inl refl))
        (subst (λ (z : LogRow). same_stamp r.stamp z.stamp ≡ true) same (same_stamp_itself r.stamp))
  ];
}

-- IsSortingOf holds after one more row is put among the sorted rows and added to all
pub put_sorted : (rows all : List LogRow) (r : LogRow) → IsSortingOf rows all → IsSortingOf (put_row r rows) (all ++ r ∷ [])
put_sorted rows all r s = sorted_case rows all r (list_any (is_at r.stamp) rows) refl s

-- what is in a list is in the same list in another order
pub In_moved : {X : Type 0} (xs ys : List X) (x : X) → IsPermutation xs ys → In x xs → In x ys
In_moved {X} xs ys x p i =
    let at = In-index xs x i in
    subst (λ z. In z ys) at.is (All-permutation (λ z. In z ys) ys xs (IsPermutation-sym xs ys p) (λ k d l. In-get_or ys k d l) at.index x at.within)

-- a row of logs is a row of the same logs in another order
pub row_moved : (logs others : List TopicRow) (q : LogRow) → IsPermutation logs others → In q (rows_of logs) → In q (rows_of others)
row_moved logs others q p i =
    let m = In-map_cases (λ (l : TopicRow). l.row) q logs i in
    subst (λ (z : LogRow). In z (rows_of others)) m.is (In-map (λ (l : TopicRow). l.row) m.from others (In_moved logs others m.from p m.stands))

-- one row more
pub one_shown : (rows : List (Bor TopicRow)) (i : ℕ) (d : Bor TopicRow) → i < length rows → d ≡ get_or rows i d → rows_of (rows_of_refs (take (i + 1) rows)) ≡ rows_of (rows_of_refs (take i rows)) ++ d.now.row ∷ []
one_shown rows i d l e =
    ap (λ z. rows_of (rows_of_refs z)) (take_more rows i d l)
    ∙ (ap rows_of (map-append (λ (z : Bor TopicRow). z.now) (take i rows) (get_or rows i d ∷ []))
    ∙ (map-append (λ (z : TopicRow). z.row) (rows_of_refs (take i rows)) ((get_or rows i d).now ∷ [])
    ∙ ap (λ (z : Bor TopicRow). rows_of (rows_of_refs (take i rows)) ++ z.now.row ∷ []) (sym e)))

abbrev NotAbove : TopicRow → TopicRow → Type 0
NotAbove x y = stamp_lt y.row.stamp x.row.stamp ≡ false

below_chain : (rows : List (Bor TopicRow)) (i : ℕ) (d : Bor TopicRow) → Chained NotAbove (rows_of_refs rows) → i < length rows → (q : LogRow) → In q (rows_of (rows_of_refs (take i rows))) → stamp_lt (get_or rows i d).now.row.stamp q.stamp ≡ false
below_chain [] i d c l q k = absurd (omega arith)
below_chain (x ∷ xs) zero d c l q k = absurd k
below_chain (x ∷ xs) (suc i) d c l q (inl e) =
    subst (λ (z : LogRow). stamp_lt (get_or xs i d).now.row.stamp z.stamp ≡ false) e (c.0 (get_or xs i d).now (In-map (λ (r : Bor TopicRow). r.now) (get_or xs i d) xs (In-get_or xs i d (omega arith))))
below_chain (x ∷ xs) (suc i) d c l q (inr k) = below_chain xs i d c.1 (omega arith) q k

-- rows before one in the order by stamp aren't above it
pub taken_below : (rows : List (Bor TopicRow)) (i : ℕ) (d : Bor TopicRow) → RisesByStamp rows → i < length rows → d ≡ get_or rows i d → (q : LogRow) → In q (rows_of (rows_of_refs (take i rows))) → stamp_lt d.now.row.stamp q.stamp ≡ false
taken_below rows i d up l e q k =
    subst (λ (z : Bor TopicRow). stamp_lt z.now.row.stamp q.stamp ≡ false) (sym e)
    (below_chain rows i d (chain_shown NotAbove (λ x y z p r. le_trans x.row.stamp y.row.stamp z.row.stamp p r) rows (λ j f m. up j f (omega arith) m)) l q k)

-- what sorts rows sorts them in another order, too
pub sorting_moved : (rows : List LogRow) (logs others : List TopicRow) → IsPermutation logs others → IsSortingOf rows (rows_of others) → IsSortingOf rows (rows_of logs)
sorting_moved rows logs others p s = record {
  rises = s.rises;
  of_all = λ q i. row_moved others logs q (IsPermutation-sym logs others p) (s.of_all q i);
  stamped = λ q i. s.stamped q (row_moved logs others q p i);
}

-- IsSortingOf holds of no rows
pub sorting_none : IsSortingOf [] []
sorting_none = record { rises = tt; of_all = λ q i. i; stamped = λ q i. absurd i }
