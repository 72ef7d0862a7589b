-- Rows that are added to a trace, one after the other.
use Rattle.std.proofs.Common.{◌≡◌, ℕ, zero, suc, ◌+◌, ◌<◌, ◌≤◌, ◌==◌, ◌&&◌, not, Bool, true, false, inl, inr, ◌⊎◌, List, [], ◌∷◌, ◌++◌, map, length, get_or, take, drop, Option, Some, None, Result, Ok, Err, IfErr, OnErr, OnOk, refl, sym, ap, subst, ◌∙◌, append-nil, append_assoc, arith}
use Rattle.std.specs.List.{filter, flat_map}
use Rattle.std.specs.Option.{option_map}
use Rattle.std.specs.Result.{IsErrAnd}
use Rattle.std.specs.Prelude.{slice_get}
use Rattle.std.proofs.lemmas.Bool.{and_from, eq-eqb, ne_eqb}
use Rattle.std.proofs.lemmas.Grind.{flat_map-append}
use Rattle.std.proofs.lemmas.List.{map-append, take-append-drop}
use Rattle.std.proofs.lemmas.List.Elements.{filter-append}
use Rattle.std.proofs.lemmas.Option.{get_or_from_slice_get, slice_get_within}
use Rattle.delivery.proofs.Traces.Made.{taken_one}
use Rattle.delivery.proofs.Traces.OfNets.{rise_first}
use Rattle.mcast_txn.specs.Lists.{In, Rises, RisesBy}
use Rattle.mcast_txn.specs.Span.{LogRow, in_span, row_stamp, up_to, row_mark}
use Rattle.mcast_txn.specs.Stamp.{stamp_lt}
use Rattle.mcast_txn.specs.declared.stamp.Stamp.{Stamp}
use Rattle.mcast_txn.specs.TopicSet.{IsTopicSet, names}
use Rattle.mcast_txn.specs.declared.id.Topic.{Topic}
use Rattle.mcast_txn.proofs.Members.{In-get_or, In-map, filter_none}
use Rattle.mcast_txn.proofs.Orders.{lt_asym, lt_le, lt_trans}
use Rattle.mcast_group.specs.Machine.{Entry, TopicState, find_entry}
use Rattle.mcast_group.specs.Sound.{IsSound}
use Rattle.mcast_txn.specs.declared.mark.Mark.{Mark}
use Rattle.trace_audit.specs.declared.row.TraceRow.{TraceRow}
use Rattle.trace_audit.specs.declared.fault.AddFault.{AddFault}
use Rattle.trace_audit.specs.Trace.{TraceData, rise_after}
use Rattle.trace_audit.specs.Rows.{is_misfit, says_misfit, with_row}
use Rattle.broker_locks.specs.declared.kept_span.KeptSpan.{KeptSpan}
use Rattle.broker_locks.specs.Inner.KeptRows.{RowsKept, kept_sub, lag_at, entry_lag, span_trace, spans_rows, trace_kept}
use Rattle.broker_locks.specs.KeptTrace.{AddsAll, AddsFirst, AllFit, HasEntry, KeepsTrace, KeptEnd, end_trace, entry_traces, marks_between, sub_traces, topic_trace}
use Rattle.broker_locks.specs.TopicTraces.{SubTrace, log_rows, logged_row, queue_row, sub_rows, topic_rows, with_rows}
use Rattle.broker_locks.proofs.TraceKept.{above_first, marks_more}

-- ---- rows one after the other

pub with_append : (a b : List TraceRow) (trace : TraceData) → with_rows (a ++ b) trace ≡ with_rows b (with_rows a trace)
with_append [] b trace = refl
with_append (r ∷ a) b trace = with_append a b (with_row r trace)

fit_append : (a b : List TraceRow) (trace : TraceData) → AllFit a trace → AllFit b (with_rows a trace) → AllFit (a ++ b) trace
fit_append [] b trace h k = k
fit_append (r ∷ a) b trace h k = (h.0, fit_append a b (with_row r trace) h.1 k)

-- rows after others
pub adds_then : (a b : List TraceRow) (old mid new : TraceData) → AddsAll a old mid → AddsAll b mid new → AddsAll (a ++ b) old new
adds_then a b old mid new so_far more = record {
  fit = fit_append a b old so_far.fit (subst (AllFit b) so_far.is more.fit);
  is = more.is ∙ (ap (with_rows b) so_far.is ∙ sym (with_append a b old));
}

-- one row
pub adds_one : (r : TraceRow) (old new : TraceData) → is_misfit r old ≡ false → new ≡ with_row r old → AddsAll (r ∷ []) old new
adds_one r old new fits is = record { fit = (fits, tt); is = is }

-- no row
pub adds_no_row : (rows : List TraceRow) (old : TraceData) → rows ≡ [] → AddsAll rows old old
adds_no_row rows old none = subst (λ (z : List TraceRow). AddsAll z old old) (sym none) (record { fit = tt; is = refl })

-- the first row was refused
pub adds_none : (fault : AddFault) (r : TraceRow) (rows : List TraceRow) (old new : TraceData) → new ≡ old → is_misfit r old ≡ says_misfit fault → AddsFirst fault (r ∷ rows) old new
adds_none fault r rows old new same misfit =
    record { added = []; refused = r; others = rows; are = refl; adds = record { fit = tt; is = same }; misfit = ap (is_misfit r) same ∙ misfit }

-- the first rows were added, and then the first of those that follow
pub adds_more : (fault : AddFault) (rows a b : List TraceRow) (old mid new : TraceData) → rows ≡ a ++ b → AddsAll a old mid → AddsFirst fault b mid new → AddsFirst fault rows old new
adds_more fault rows a b old mid new all so_far f = record {
  added = a ++ f.added;
  refused = f.refused;
  others = f.others;
  are = all ∙ (ap (λ (z : List TraceRow). a ++ z) f.are ∙ sym (append_assoc a f.added (f.refused ∷ f.others)));
  adds = adds_then a f.added old mid new so_far f.adds;
  misfit = f.misfit;
}

-- the first of some rows are the first of more
pub adds_before : (fault : AddFault) (rows a b : List TraceRow) (old new : TraceData) → rows ≡ a ++ b → AddsFirst fault a old new → AddsFirst fault rows old new
adds_before fault rows a b old new all f = record {
  added = f.added;
  refused = f.refused;
  others = f.others ++ b;
  are = all ∙ (ap (λ (z : List TraceRow). z ++ b) f.are ∙ append_assoc f.added (f.refused ∷ f.others) b);
  adds = f.adds;
  misfit = f.misfit;
}

-- ---- the rows made of the first items

-- the items before one, it, and those after it
split_at : {X : Type 0} (xs : List X) (i : ℕ) (x : X) → slice_get xs i ≡ Some x → xs ≡ take i xs ++ x ∷ drop (i + 1) xs
split_at xs i x is =
    sym (take-append-drop (i + 1) xs) ∙ (ap (λ z. z ++ drop (i + 1) xs) (taken_one xs i x is) ∙ append_assoc (take i xs) (x ∷ []) (drop (i + 1) xs))

module _ {X : Type 0} (f : X → TraceRow) (xs : List X) (i : ℕ) (x : X) (is : slice_get xs i ≡ Some x) (old mid new : TraceData) (so_far : AddsAll (map f (take i xs)) old mid) where
  pub map_more : AddsAll (f x ∷ []) mid new → AddsAll (map f (take (i + 1) xs)) old new
  map_more adds =
      subst (λ (rows : List TraceRow). AddsAll rows old new) (sym (ap (map f) (taken_one xs i x is) ∙ map-append f (take i xs) (x ∷ [])))
      (adds_then (map f (take i xs)) (f x ∷ []) old mid new so_far adds)

  -- the first of them were added, and the next one was refused
  pub map_first : (fault : AddFault) → AddsFirst fault (f x ∷ map f (drop (i + 1) xs)) mid new → AddsFirst fault (map f xs) old new
  map_first fault first =
      adds_more fault (map f xs) (map f (take i xs)) (f x ∷ map f (drop (i + 1) xs)) old mid new
      (ap (map f) (split_at xs i x is) ∙ map-append f (take i xs) (x ∷ drop (i + 1) xs)) so_far first

module _ {X : Type 0} (f : X → List TraceRow) (xs : List X) (i : ℕ) (x : X) (is : slice_get xs i ≡ Some x) (old mid new : TraceData) (so_far : AddsAll (flat_map f (take i xs)) old mid) where
  whole : flat_map f (take (i + 1) xs) ≡ flat_map f (take i xs) ++ f x
  whole = ap (flat_map f) (taken_one xs i x is) ∙ (flat_map-append f (take i xs) (x ∷ []) ∙ ap (λ (z : List TraceRow). flat_map f (take i xs) ++ z) (append-nil (f x)))

  pub flat_more : AddsAll (f x) mid new → AddsAll (flat_map f (take (i + 1) xs)) old new
  flat_more adds =
      subst (λ (rows : List TraceRow). AddsAll rows old new) (sym whole) (adds_then (flat_map f (take i xs)) (f x) old mid new so_far adds)

  -- the first of the rows of an item were added, after those of the items before
  pub flat_first : (fault : AddFault) → AddsFirst fault (f x) mid new → AddsFirst fault (flat_map f xs) old new
  flat_first fault first =
      let all : flat_map f xs ≡ (flat_map f (take i xs) ++ f x) ++ flat_map f (drop (i + 1) xs) =
      sym (ap (flat_map f) (take-append-drop (i + 1) xs)) ∙ (flat_map-append f (take (i + 1) xs) (drop (i + 1) xs) ∙ ap (λ (z : List TraceRow). z ++ flat_map f (drop (i + 1) xs)) whole) in
      adds_before fault (flat_map f xs) (flat_map f (take i xs) ++ f x) (flat_map f (drop (i + 1) xs)) old new all
      (adds_more fault (flat_map f (take i xs) ++ f x) (flat_map f (take i xs)) (f x) old mid new refl so_far first)

-- ---- marks between two stamps

-- a place of an item among the first, or among the others
pub record Stands {X : Type 0} (x : X) (xs : List X) (least most : ℕ) : Type 0 where
  pub index : ℕ
  pub from : least ≤ index
  pub below : index < most
  pub within : index < length xs
  pub is : get_or xs index x ≡ x

pub in_take : {X : Type 0} (xs : List X) (n : ℕ) (x : X) → In x (take n xs) → Stands x xs 0 n
in_take [] zero x k = absurd k
in_take [] (suc n) x k = absurd k
in_take (y ∷ xs) zero x k = absurd k
in_take (y ∷ xs) (suc n) x (inl e) = record { index = 0; from = omega arith; below = omega arith; within = omega arith; is = e }
in_take (y ∷ xs) (suc n) x (inr k) =
    let s = in_take xs n x k in record { index = suc s.index; from = omega arith; below = omega (arith, s.below); within = omega (arith, s.within); is = s.is }

pub in_drop : {X : Type 0} (xs : List X) (n : ℕ) (x : X) → In x (drop n xs) → Stands x xs n (length xs)
in_drop [] zero x k = absurd k
in_drop [] (suc n) x k = absurd k
in_drop (y ∷ xs) zero x (inl e) = record { index = 0; from = omega arith; below = omega arith; within = omega arith; is = e }
in_drop (y ∷ xs) zero x (inr k) =
    let s = in_drop xs zero x k in record { index = suc s.index; from = omega arith; below = omega (arith, s.below); within = omega (arith, s.within); is = s.is }
in_drop (y ∷ xs) (suc n) x k =
    let s = in_drop xs n x k in record { index = suc s.index; from = omega (arith, s.from); below = omega (arith, s.below); within = omega (arith, s.within); is = s.is }

-- the first rows of a log, at most `from`, aren't in the span
pub marks_none_yet : (from : Stamp) (to : Option Stamp) (log : List LogRow) (start : ℕ) → ((i : ℕ) (d : LogRow) → i < start → stamp_lt from (get_or log i d).stamp ≡ false) → marks_between from to (take start log) ≡ []
marks_none_yet from to log start past = ap (map row_mark) (filter_none (λ (r : LogRow). in_span from to r.stamp) (take start log) (λ r k. (
    let s = in_take log start r k in
    let p : stamp_lt from r.stamp ≡ false = ap (λ (z : LogRow). stamp_lt from z.stamp) (sym s.is) ∙ past s.index r s.below in rw p refl)))

-- the marks of rows and of those that follow them
pub marks_append : (from : Stamp) (to : Option Stamp) (a b : List LogRow) → marks_between from to (a ++ b) ≡ marks_between from to a ++ marks_between from to b
marks_append from to a b =
    ap (map row_mark) (filter-append (λ (r : LogRow). in_span from to r.stamp) a b)
    ∙ map-append row_mark (filter (λ (r : LogRow). in_span from to r.stamp) a) (filter (λ (r : LogRow). in_span from to r.stamp) b)

-- the marks of all rows are those of the first and of the others
marks_split : (from : Stamp) (to : Option Stamp) (log : List LogRow) (i : ℕ) → marks_between from to log ≡ marks_between from to (take i log) ++ marks_between from to (drop i log)
marks_split from to log i =
    sym (ap (marks_between from to) (take-append-drop i log)) ∙ marks_append from to (take i log) (drop i log)

and_false : (a : Bool) → a && false ≡ false
and_false true = refl
and_false false = refl

-- those past the end aren't either
pub marks_done : (from : Stamp) (to : Option Stamp) (log : List LogRow) (end : ℕ) → ((i : ℕ) (d : LogRow) → end ≤ i → i < length log → up_to to (get_or log i d).stamp ≡ false) → (i : ℕ) → end ≤ i → marks_between from to (take i log) ≡ marks_between from to log
marks_done from to log end after i h =
    let none : marks_between from to (drop i log) ≡ [] = ap (map row_mark) (filter_none (λ (r : LogRow). in_span from to r.stamp) (drop i log) (λ r k. (
    let s = in_drop log i r k in
    let p : up_to to r.stamp ≡ false = ap (λ (z : LogRow). up_to to z.stamp) (sym s.is) ∙ after s.index r (omega (arith, h, s.from)) s.within in
    rw p (and_false (stamp_lt from r.stamp))))) in
    sym (marks_split from to log i ∙ (ap (λ (z : List Mark). marks_between from to (take i log) ++ z) none ∙ append-nil (marks_between from to (take i log))))

-- a row above the beginning and not past the end lies in the span
pub lies_in : (from : Stamp) (to : Option Stamp) (log : List LogRow) (i : ℕ) (r : LogRow) → slice_get log i ≡ Some r → stamp_lt from (get_or log i r).stamp ≡ true → up_to to (get_or log i r).stamp ≡ true → in_span from to r.stamp ≡ true
lies_in from to log i r is above before =
    let e : get_or log i r ≡ r = get_or_from_slice_get log i r r is in
    let a : stamp_lt from r.stamp ≡ true = subst (λ (z : LogRow). stamp_lt from z.stamp ≡ true) e above in
    let b : up_to to r.stamp ≡ true = subst (λ (z : LogRow). up_to to z.stamp ≡ true) e before in rw (a, b) refl

module _ (sub : ℕ) (from : Stamp) (to : Option Stamp) (log : List LogRow) (i : ℕ) (r : LogRow) (is : slice_get log i ≡ Some r) (within : in_span from to r.stamp ≡ true) (old mid new : TraceData)
    (so_far : AddsAll (map (queue_row sub) (marks_between from to (take i log))) old mid) where
  -- its mark is added
  pub marks_more_rows : AddsAll (queue_row sub (row_mark r) ∷ []) mid new → AddsAll (map (queue_row sub) (marks_between from to (take (i + 1) log))) old new
  marks_more_rows adds =
      let marks = marks_between from to (take i log) in
      let more : marks_between from to (take (i + 1) log) ≡ marks ++ row_mark r ∷ [] = ap (marks_between from to) (taken_one log i r is) ∙ marks_more from to (take i log) r within in
      subst (λ (rows : List TraceRow). AddsAll rows old new) (sym (ap (map (queue_row sub)) more ∙ map-append (queue_row sub) marks (row_mark r ∷ [])))
      (adds_then (map (queue_row sub) marks) (queue_row sub (row_mark r) ∷ []) old mid new so_far adds)

  -- the marks after its own
  abbrev pub marks_after : List TraceRow
  marks_after = map (queue_row sub) (marks_between from to (drop (i + 1) log))

  -- the first marks were added, and the next one was refused
  pub marks_first : (fault : AddFault) → AddsFirst fault (queue_row sub (row_mark r) ∷ marks_after) mid new → AddsFirst fault (map (queue_row sub) (marks_between from to log)) old new
  marks_first fault first =
      let before = marks_between from to (take i log) in
      let after = marks_between from to (drop (i + 1) log) in
      let one : marks_between from to (r ∷ drop (i + 1) log) ≡ row_mark r ∷ after = rw within refl in
      let all : marks_between from to log ≡ before ++ row_mark r ∷ after =
      ap (marks_between from to) (split_at log i r is) ∙ (marks_append from to (take i log) (r ∷ drop (i + 1) log) ∙ ap (λ (z : List Mark). before ++ z) one) in
      adds_more fault (map (queue_row sub) (marks_between from to log)) (map (queue_row sub) before) (queue_row sub (row_mark r) ∷ marks_after) old mid new
      (ap (map (queue_row sub)) all ∙ map-append (queue_row sub) before (row_mark r ∷ after)) so_far first

-- what follows where a call is refused
pub on_err : {A B P Q : Type 0} (r : Result A B) → (P → Q) → OnErr r P → OnErr r Q
on_err (Ok a) f h = tt
on_err (Err b) f h = f h

pub on_ok : {A B P Q : Type 0} (r : Result A B) → (P → Q) → OnOk r P → OnOk r Q
on_ok (Ok a) f h = f h
on_ok (Err b) f h = tt

pub on_ok_two : {A B P Q S : Type 0} (r : Result A B) → (P → Q → S) → OnOk r P → OnOk r Q → OnOk r S
on_ok_two (Ok a) f h k = f h k
on_ok_two (Err b) f h k = tt

pub err_holds : {A B P : Type 0} (r : Result A B) → P → OnErr r P
err_holds (Ok a) h = tt
err_holds (Err b) h = h

-- a fault that a call handed on
pub err_is : {A B : Type 0} (r : Result A B) (e : B) (P : B → Type 0) → IsErrAnd r (λ y. y ≡ e) → P e → IfErr r P
err_is (Ok a) e P h p = tt
err_is (Err b) e P h p = subst P (sym h) p

-- and that it is no Ok
pub err_no : {A B : Type 0} (r : Result A B) (e : B) (P : Type 0) → IsErrAnd r (λ y. y ≡ e) → OnOk r P
err_no (Ok a) e P h = absurd h
err_no (Err b) e P h = tt

-- what the fault of a refused call says
pub if_err : {A B : Type 0} {P Q : B → Type 0} (r : Result A B) → ((b : B) → P b → Q b) → IfErr r P → IfErr r Q
if_err (Ok a) f h = tt
if_err (Err b) f h = f b h

-- ---- halving

rising_at : (log : List LogRow) (i j : ℕ) (d : LogRow) → Rises row_stamp log → i < j → j < length log → stamp_lt (get_or log i d).stamp (get_or log j d).stamp ≡ true
rising_at [] i j d rises h l = absurd (omega arith)
rising_at (r ∷ log) zero zero d rises h l = absurd (omega arith)
rising_at (r ∷ log) zero (suc j) d rises h l = rises.0 (get_or log j d) (In-get_or log j d (omega arith))
rising_at (r ∷ log) (suc i) zero d rises h l = absurd (omega arith)
rising_at (r ∷ log) (suc i) (suc j) d rises h l = rising_at log i j d rises.1 (omega arith) (omega arith)

-- those from one that is above the stamp on are above it
pub above_middle : (log : List LogRow) (s : Stamp) (m : ℕ) (r : LogRow) → Rises row_stamp log → slice_get log m ≡ Some r → stamp_lt s r.stamp ≡ true → (i : ℕ) (d : LogRow) → m ≤ i → i < length log → stamp_lt s (get_or log i d).stamp ≡ true
above_middle log s m r rises is up i d h l =
    let at : get_or log m d ≡ r = get_or_from_slice_get log m r d is in
    let here : stamp_lt s (get_or log m d).stamp ≡ true = ap (λ (z : LogRow). stamp_lt s z.stamp) at ∙ up in
    elim (lt_or_same m i h) [
      | inl less ↦ lt_trans s (get_or log m d).stamp (get_or log i d).stamp here (rising_at log m i d rises less l)
      | inr same ↦ subst (λ (k : ℕ). stamp_lt s (get_or log k d).stamp ≡ true) same here
    ]
  where
    lt_or_same : (a b : ℕ) → a ≤ b → (a < b) ⊎ (a ≡ b)
    lt_or_same a b k = grind arith

-- those up to one that isn't are not
pub past_middle : (log : List LogRow) (s : Stamp) (m : ℕ) (r : LogRow) → Rises row_stamp log → slice_get log m ≡ Some r → stamp_lt s r.stamp ≡ false → (i : ℕ) (d : LogRow) → i < m + 1 → stamp_lt s (get_or log i d).stamp ≡ false
past_middle log s m r rises is low i d h =
    let at : get_or log m d ≡ r = get_or_from_slice_get log m r d is in
    let there = slice_get_within log m r is in
    let here : stamp_lt s (get_or log m d).stamp ≡ false = ap (λ (z : LogRow). stamp_lt s z.stamp) at ∙ low in
    elim (lt_or_same i m (omega arith)) [
      | inl less ↦ lt_asym (get_or log i d).stamp s (lt_le (get_or log i d).stamp (get_or log m d).stamp s (rising_at log i m d rises less there) here)
      | inr same ↦ subst (λ (k : ℕ). stamp_lt s (get_or log k d).stamp ≡ false) (sym same) here
    ]
  where
    lt_or_same : (a b : ℕ) → a ≤ b → (a < b) ⊎ (a ≡ b)
    lt_or_same a b k = grind arith

-- ---- a subscription for a trace

-- an entry is found by its number
pub found_among : (es : List Entry) (e : Entry) → RisesBy (λ (z : Entry). z.number) es → In e es → find_entry e.number es ≡ Some e
found_among [] e rises k = absurd k
found_among (x ∷ es) e rises (inl is) =
    let a : (x.number == e.number) ≡ true = eq-eqb x.number e.number (ap (λ (z : Entry). z.number) is) in rw a (ap (λ (z : Entry). Some z) is)
found_among (x ∷ es) e rises (inr k) =
    let l = above_first (λ (z : Entry). z.number) x.number es e rises.0 k in
    let a : (x.number == e.number) ≡ false = ne_eqb x.number e.number (λ same. absurd (omega (arith, l, same))) in
    let ih = found_among es e rises.1 k in rw a ih

-- what a subscription with this span leaves for a trace
module _ (x : TopicState) (k : RowsKept) (sound : IsSound x) (t : KeepsTrace x (trace_kept x.held k)) where
  abbrev log : List LogRow
  log = k.drained ++ x.held

  abbrev left_at : KeptSpan → Option Stamp → Option KeptEnd
  left_at s o = option_map (λ to. record { to = to; marks = marks_between s.from (Some to) log }) o

  abbrev traces_at : KeptSpan → Option KeptEnd → List SubTrace
  traces_at s o = elim o [ None ↦ entry_traces (find_entry s.number x.subscriptions) | Some left ↦ end_trace s.number s.from left ∷ [] ]

  abbrev end_at : KeptSpan → Option Stamp → Option Stamp
  end_at s o = elim o [ None ↦ lag_at s.number x | Some to ↦ Some to ]

  sub_of : (s : KeptSpan) (o : Option Stamp) → (left_at s o ≡ None → HasEntry (kept_sub log s) x.subscriptions)
      → traces_at s (left_at s o) ≡ record { number = s.number; from = s.from; to = end_at s o; marks = marks_between s.from (end_at s o) log } ∷ []
  sub_of s (Some to) h = refl
  sub_of s None h =
      let m = h refl in
      let e = m.entry in
      let f : find_entry s.number x.subscriptions ≡ Some e = ap (λ (n : ℕ). find_entry n x.subscriptions) (sym m.number) ∙ found_among x.subscriptions e sound.numbers m.among in
      let lag : lag_at s.number x ≡ e.to = ap entry_lag f in
      ap entry_traces f
      ∙ (ap (λ (ms : List Mark). record { number = e.number; from = e.from; to = e.to; marks = ms } ∷ []) (t.pushed e m.among)
      ∙ (ap (λ (n : ℕ). record { number = n; from = e.from; to = e.to; marks = marks_between e.from e.to log } ∷ []) m.number
      ∙ (ap (λ (b : Stamp). record { number = s.number; from = b; to = e.to; marks = marks_between b e.to log } ∷ []) m.from
      ∙ ap (λ (o : Option Stamp). record { number = s.number; from = s.from; to = o; marks = marks_between s.from o log } ∷ []) (sym lag))))

  sub_is : (s : KeptSpan) → In s k.spans → sub_traces x (kept_sub log s) ≡ span_trace x log s ∷ []
  sub_is s at = sub_of s s.to (λ none. t.live (kept_sub log s) (In-map (kept_sub log) s k.spans at) none)

  subs_are : (spans : List KeptSpan) → ((s : KeptSpan) → In s spans → sub_traces x (kept_sub log s) ≡ span_trace x log s ∷ []) → flat_map (sub_rows x.topic) (flat_map (sub_traces x) (map (kept_sub log) spans)) ≡ spans_rows x log spans
  subs_are [] h = refl
  subs_are (s ∷ spans) h =
      let ih = subs_are spans (λ z i. h z (inr i)) in
      ap (λ (z : List SubTrace). flat_map (sub_rows x.topic) (z ++ flat_map (sub_traces x) (map (kept_sub log) spans))) (h s (inl refl))
      ∙ ap (λ (z : List TraceRow). sub_rows x.topic (span_trace x log s) ++ z) ih

  -- what the topic leaves: its log, drained and held, and then its subscriptions
  pub rows_are : topic_rows (topic_trace x (trace_kept x.held k)) ≡ log_rows x.topic k.drained ++ (log_rows x.topic x.held ++ spans_rows x log k.spans)
  rows_are =
      ap (λ (z : List TraceRow). log_rows x.topic log ++ z) (subs_are k.spans sub_is)
      ∙ (ap (λ (z : List TraceRow). z ++ spans_rows x log k.spans) (map-append (logged_row x.topic) k.drained x.held)
      ∙ append_assoc (log_rows x.topic k.drained) (log_rows x.topic x.held) (spans_rows x log k.spans))

-- ---- sections of a log

-- the queue rows of both sections
pub marks_of_both : (sub : ℕ) (from : Stamp) (to : Option Stamp) (a b : List LogRow)
    → map (queue_row sub) (marks_between from to (a ++ b)) ≡ map (queue_row sub) (marks_between from to a) ++ map (queue_row sub) (marks_between from to b)
marks_of_both sub from to a b =
    ap (map (queue_row sub)) (marks_append from to a b) ∙ map-append (queue_row sub) (marks_between from to a) (marks_between from to b)

-- ---- log rows that fit

-- a row whose topics rise fits exactly where its topic is one of them
pub row_fits : (t : Topic) (r : LogRow) (trace : TraceData) → IsTopicSet r.topics → names t r.topics ≡ true → is_misfit (logged_row t r) trace ≡ false
row_fits t r trace set e = ap not (and_from (rise_after None r.topics) (names t r.topics) (rise_first r.topics set.rising) e)

pub row_misfits : (t : Topic) (r : LogRow) (trace : TraceData) → names t r.topics ≡ false → is_misfit (logged_row t r) trace ≡ true
row_misfits t r trace e = rw e (ap not (and_false (rise_after None r.topics)))
