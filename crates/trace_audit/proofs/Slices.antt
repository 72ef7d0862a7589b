-- What lies between two halvings.
use Rattle.std.proofs.Common.{◌≡◌, ℕ, zero, suc, ◌<◌, ◌≤◌, ◌==◌, Bool, true, false, cond, not, ◌&&◌, ◌||◌, nat_lt, leb, List, [], ◌∷◌, length, map, get_or, take, drop, Bor, Option, Some, None, refl, sym, ap, subst, ◌∙◌, arith}
use Rattle.std.specs.List.{filter}
use Rattle.std.specs.List.Sorted.{IsPartitionedBy, IsPartitionPoint}
use Rattle.std.proofs.lemmas.Bool.{eqb-true, false≢true}
use Rattle.std.proofs.lemmas.Bool.Decides.{nat_tests}
use Rattle.mcast_txn.specs.declared.stamp.Stamp.{Stamp}
use Rattle.mcast_txn.specs.Span.{LogRow, in_span, up_to, row_mark}
use Rattle.mcast_txn.specs.Stamp.{stamp_lt, zero_stamp}
use Rattle.mcast_txn.proofs.Orders.{lt_trans}
use Rattle.trace_audit.specs.Logs.{TopicRow}
use Rattle.trace_audit.specs.declared.row.QueueRow.{QueueRow}
use Rattle.trace_audit.specs.declared.row.SpanRow.{SpanRow}
use Rattle.trace_audit.specs.Inner.Chained.{Chained, Above, IsIndex, is_up_to_from, is_up_to_end}
use Rattle.trace_audit.specs.Inner.Orders.{rows_of_refs, RisesBySub}
use Rattle.trace_audit.specs.Trace.{rows_of, marks_in}
use Rattle.trace_audit.proofs.Halving.{parted}
use Rattle.trace_audit.proofs.OrderLemmas.{chain_shown}

-- ---- a slice

filter_step : {X : Type 0} (q : X → Bool) (x : X) (xs ys : List X) (b : Bool) → q x ≡ b → filter q xs ≡ ys → filter q (x ∷ xs) ≡ cond b (x ∷ ys) ys
filter_step q x xs ys true e f = rw e (ap (λ z. x ∷ z) f)
filter_step q x xs ys false e f = rw e f

head_slice : {X : Type 0} (q : X → Bool) (rows : List (Bor X)) (n : ℕ) → ((k : ℕ) (d : Bor X) → k < n → k < length rows → q (get_or rows k d).now ≡ true) → ((k : ℕ) (d : Bor X) → n ≤ k → k < length rows → q (get_or rows k d).now ≡ false) → filter q (rows_of_refs rows) ≡ rows_of_refs (take n rows)
head_slice q [] zero h g = refl
head_slice q [] (suc n) h g = refl
head_slice q (x ∷ xs) zero h g =
    filter_step q x.now (rows_of_refs xs) [] false (g 0 x (omega arith) (omega arith)) (head_slice q xs zero (λ k d l m. absurd (omega arith)) (λ k d l m. g (suc k) d (omega arith) (omega arith)))
head_slice q (x ∷ xs) (suc n) h g =
    filter_step q x.now (rows_of_refs xs) (rows_of_refs (take n xs)) true (h 0 x (omega arith) (omega arith)) (head_slice q xs n (λ k d l m. h (suc k) d (omega arith) (omega arith)) (λ k d l m. g (suc k) d (omega arith) (omega arith)))

-- where n items from m on pass and no others do, what passes is the slice of n items from m on
pub slice : {X : Type 0} (q : X → Bool) (rows : List (Bor X)) (m n : ℕ) → ((k : ℕ) (d : Bor X) → k < m → k < length rows → q (get_or rows k d).now ≡ false) → ((k : ℕ) (d : Bor X) → k < n → k < length (drop m rows) → q (get_or (drop m rows) k d).now ≡ true) → ((k : ℕ) (d : Bor X) → n ≤ k → k < length (drop m rows) → q (get_or (drop m rows) k d).now ≡ false) → filter q (rows_of_refs rows) ≡ rows_of_refs (take n (drop m rows))
slice q rows zero n f h g = head_slice q rows n h g
slice q [] (suc m) n f h g = head_slice q [] n h g
slice q (x ∷ xs) (suc m) n f h g =
    filter_step q x.now (rows_of_refs xs) (rows_of_refs (take n (drop m xs))) false (f 0 x (omega arith) (omega arith)) (slice q xs m n (λ k d l o. f (suc k) d (omega arith) (omega arith)) h g)

-- what holds of all from an index on holds of what is dropped up to it
pub from_drop : {X : Type 0} (P : Bor X → Type 0) (rows : List (Bor X)) (m : ℕ) → ((k : ℕ) (d : Bor X) → m ≤ k → k < length rows → P (get_or rows k d)) → (k : ℕ) (d : Bor X) → k < length (drop m rows) → P (get_or (drop m rows) k d)
from_drop P rows zero h k d l = h k d (omega arith) l
from_drop P [] (suc m) h k d l = absurd (omega arith)
from_drop P (x ∷ xs) (suc m) h k d l = from_drop P xs m (λ j f n o. h (suc j) f (omega arith) (omega arith)) k d l

-- what is left of a chained list after dropping its first items is chained
pub chained_drop : {X : Type 0} (R : X → X → Type 0) (rows : List (Bor X)) (m : ℕ) → Chained R (rows_of_refs rows) → Chained R (rows_of_refs (drop m rows))
chained_drop R rows zero c = c
chained_drop R [] (suc m) c = c
chained_drop R (x ∷ xs) (suc m) c = chained_drop R xs m c.1

-- the rows that pass the second test of two, and not the first
pub between : {X : Type 0} (p1 p2 q : X → Bool) (rows : List (Bor X)) (m n : ℕ) → ((x : X) → q x ≡ (not (p1 x) && p2 x)) → IsPartitionPoint (λ r. p1 r.now ≡ true) (λ r. p1 r.now ≡ false) rows m → IsPartitionPoint (λ r. p2 r.now ≡ true) (λ r. p2 r.now ≡ false) (drop m rows) n → rows_of_refs (take n (drop m rows)) ≡ filter q (rows_of_refs rows)
between p1 p2 q rows m n is first second =
    sym (slice q rows m n (λ k d l o. is (get_or rows k d).now ∙ out (p1 (get_or rows k d).now) (p2 (get_or rows k d).now) (first.0 k d (omega arith) l))
    (λ k d l o. is (get_or (drop m rows) k d).now ∙ both (p1 (get_or (drop m rows) k d).now) (p2 (get_or (drop m rows) k d).now) (from_drop (λ r. p1 r.now ≡ false) rows m first.1 k d o) (second.0 k d (omega arith) l))
    (λ k d l o. is (get_or (drop m rows) k d).now ∙ late (p1 (get_or (drop m rows) k d).now) (p2 (get_or (drop m rows) k d).now) (second.1 k d l o)))
  where
    out : (a b : Bool) → a ≡ true → (not a && b) ≡ false
    out a b e = rw e refl

    both : (a b : Bool) → a ≡ false → b ≡ true → (not a && b) ≡ true
    both a b e f = rw (e, f) refl

    late : (a b : Bool) → b ≡ false → (not a && b) ≡ false
    late true b e = refl
    late false b e = e

-- the same, where the rest is written in another way
pub between_rest : {X : Type 0} (p1 p2 q : X → Bool) (rows rest : List (Bor X)) (m n : ℕ) → rest ≡ drop m rows → ((x : X) → q x ≡ (not (p1 x) && p2 x)) → IsPartitionPoint (λ r. p1 r.now ≡ true) (λ r. p1 r.now ≡ false) rows m → IsPartitionPoint (λ r. p2 r.now ≡ true) (λ r. p2 r.now ≡ false) rest n → rows_of_refs (take n rest) ≡ filter q (rows_of_refs rows)
between_rest p1 p2 q rows rest m n e is first second =
    ap (λ z. rows_of_refs (take n z)) e ∙ between p1 p2 q rows m n is first (subst (λ z. IsPartitionPoint (λ r. p2 r.now ≡ true) (λ r. p2 r.now ≡ false) z n) e second)

-- ---- queues

abbrev SubLe : QueueRow → QueueRow → Type 0
SubLe x y = nat_lt y.sub x.sub ≡ false

sub_trans : (x y z : QueueRow) → SubLe x y → SubLe y z → SubLe x z
sub_trans x y z e f = grind (arith, nat_tests)

subs_chained : (rows : List (Bor QueueRow)) → RisesBySub rows → Chained SubLe (rows_of_refs rows)
subs_chained rows up = chain_shown SubLe sub_trans rows (λ k d l. up k d (omega arith) l)

below_keeps : (sub a b : ℕ) → nat_lt b a ≡ false → nat_lt b sub ≡ true → nat_lt a sub ≡ true
below_keeps sub a b e f = grind (arith, nat_tests)

le_keeps : (sub a b : ℕ) → nat_lt b a ≡ false → leb b sub ≡ true → leb a sub ≡ true
le_keeps sub a b e f = grind (arith, nat_tests)

-- rows in order of subscription are partitioned: those below a subscription, and then the others
pub subs_below : (sub : ℕ) (rows : List (Bor QueueRow)) → RisesBySub rows → IsPartitionedBy (λ r. nat_lt r.now.sub sub) rows
subs_below sub rows up =
    parted SubLe (λ row. nat_lt row.sub sub) rows (subs_chained rows up) (λ x y e f. below_keeps sub x.sub y.sub e f)

-- rows in order of subscription, after the first m: those up to a subscription, and then the others
pub subs_up_to : (sub m : ℕ) (rows : List (Bor QueueRow)) → RisesBySub rows → IsPartitionedBy (λ r. leb r.now.sub sub) (drop m rows)
subs_up_to sub m rows up =
    parted SubLe (λ row. leb row.sub sub) (drop m rows) (chained_drop SubLe rows m (subs_chained rows up)) (λ x y e f. le_keeps sub x.sub y.sub e f)

-- a number is equal to another exactly where it is not below it and at most it
pub sub_is : (a sub : ℕ) → (a == sub) ≡ (not (nat_lt a sub) && leb a sub)
sub_is a sub = grind (arith, nat_tests)

-- ---- logs

-- a test of a topic's stamps that earlier stamps pass too
span_keeps : (t : ℕ) (p : Stamp → Bool) → ((a b : Stamp) → stamp_lt a b ≡ true → p b ≡ true → p a ≡ true) → (x y : TopicRow) → Above x y → (nat_lt y.topic.0 t || (y.topic.0 == t && p y.row.stamp)) ≡ true → (nat_lt x.topic.0 t || (x.topic.0 == t && p x.row.stamp)) ≡ true
span_keeps t p down x y above e = go (x.topic.0 == y.topic.0) refl
  where
    lower : (a b u : ℕ) (p q : Bool) → nat_lt b a ≡ false → (a == b) ≡ false → (nat_lt b u || (b == u && q)) ≡ true → (nat_lt a u || (a == u && p)) ≡ true
    lower a b u p q l n g = grind (arith, nat_tests)

    parts : (l p q : Bool) → (q ≡ true → p ≡ true) → (m : Bool) → (l || (m && q)) ≡ true → (l || (m && p)) ≡ true
    parts true p q h m g = refl
    parts false p q h true g = h g
    parts false p q h false g = g

    same : x.topic.0 ≡ y.topic.0 → (nat_lt x.topic.0 t || (x.topic.0 == t && p x.row.stamp)) ≡ true
    same f =
        parts (nat_lt x.topic.0 t) (p x.row.stamp) (p y.row.stamp) (λ g. down x.row.stamp y.row.stamp (above.1 f) g) (x.topic.0 == t)
        (subst (λ (n : ℕ). (nat_lt n t || (n == t && p y.row.stamp)) ≡ true) (sym f) e)

    go : (b : Bool) → (x.topic.0 == y.topic.0) ≡ b → (nat_lt x.topic.0 t || (x.topic.0 == t && p x.row.stamp)) ≡ true
    go true f = same (eqb-true x.topic.0 y.topic.0 f)
    go false f = lower x.topic.0 y.topic.0 t (p x.row.stamp) (p y.row.stamp) above.0 f e

from_down : (from a b : Stamp) → stamp_lt a b ≡ true → not (stamp_lt from b) ≡ true → not (stamp_lt from a) ≡ true
from_down from a b e f = go (stamp_lt from a) refl
  where
    go : (c : Bool) → stamp_lt from a ≡ c → not c ≡ true
    go false g = refl
    go true g = absurd (false≢true (ap not (sym (lt_trans from a b g e)) ∙ f))

to_down : (to : Option Stamp) (a b : Stamp) → stamp_lt a b ≡ true → up_to to b ≡ true → up_to to a ≡ true
to_down None a b e f = refl
to_down (Some end) a b e f = from_down end a b e f

-- an index is partitioned: the rows up to a span's beginning, and then the others
pub span_begins : (span : SpanRow) (rows : List (Bor TopicRow)) → IsIndex rows → IsPartitionedBy (λ r. is_up_to_from span r.now) rows
span_begins span rows index =
    parted Above (is_up_to_from span) rows index.rises (span_keeps span.topic.0 (λ s. not (stamp_lt span.from s)) (from_down span.from))

-- an index after its first m rows is partitioned: the rows up to a span's end, and then the others
pub span_ends : (span : SpanRow) (m : ℕ) (rows : List (Bor TopicRow)) → IsIndex rows → IsPartitionedBy (λ r. is_up_to_end span r.now) (drop m rows)
span_ends span m rows index =
    parted Above (is_up_to_end span) (drop m rows) (chained_drop Above rows m index.rises) (span_keeps span.topic.0 (λ s. up_to span.to s) (to_down span.to))

-- a row is of a span's topic and in the span where it is past the beginning, and not past the end
pub span_is : (span : SpanRow) (logged : TopicRow) → (logged.topic.0 == span.topic.0 && in_span span.from span.to logged.row.stamp) ≡ (not (is_up_to_from span logged) && is_up_to_end span logged)
span_is span logged = cases logged.topic.0 span.topic.0 (stamp_lt span.from logged.row.stamp) (up_to span.to logged.row.stamp)
  where
    cases : (a t : ℕ) (f u : Bool) → (a == t && (f && u)) ≡ (not (nat_lt a t || (a == t && not f)) && (nat_lt a t || (a == t && u)))
    cases a t true true = grind (arith, nat_tests)
    cases a t true false = grind (arith, nat_tests)
    cases a t false true = grind (arith, nat_tests)
    cases a t false false = grind (arith, nat_tests)

-- the marks of a span, from the rows of its topic in it
pub marks_are : (span : SpanRow) (others : List TopicRow) → marks_in span others ≡ map (λ logged. row_mark logged.row) (filter (λ logged. logged.topic.0 == span.topic.0 && in_span span.from span.to logged.row.stamp) others)
marks_are span [] = refl
marks_are span (x ∷ xs) = step (x.topic.0 == span.topic.0) (in_span span.from span.to x.row.stamp) refl (marks_are span xs)
  where
    inner : LogRow → Bool
    inner row = in_span span.from span.to row.stamp

    step : (a b : Bool) → in_span span.from span.to x.row.stamp ≡ b → marks_in span xs ≡ map (λ logged. row_mark logged.row) (filter (λ logged. logged.topic.0 == span.topic.0 && in_span span.from span.to logged.row.stamp) xs)
        → map row_mark (filter (λ row. in_span span.from span.to row.stamp) (rows_of (cond a (x ∷ filter (λ logged. logged.topic.0 == span.topic.0) xs) (filter (λ logged. logged.topic.0 == span.topic.0) xs))))
        ≡ map (λ logged. row_mark logged.row) (cond (a && b) (x ∷ filter (λ logged. logged.topic.0 == span.topic.0 && in_span span.from span.to logged.row.stamp) xs) (filter (λ logged. logged.topic.0 == span.topic.0 && in_span span.from span.to logged.row.stamp) xs))
    step false b e ih = ih
    step true true e ih = rw e (ap (λ z. row_mark x.row ∷ z) ih)
    step true false e ih = rw e ih

-- a row of this subscription's queue
abbrev pub queue_row : ℕ → QueueRow
queue_row sub = record { sub = sub; id = record { sender = record { 0 = 0 }; seq = 0 }; stamp = zero_stamp }
