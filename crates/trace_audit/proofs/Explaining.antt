-- A trace against which nothing speaks is explained.
use Rattle.std.proofs.Common.{◌≡◌, ◌≢◌, ℕ, ◌==◌, Bool, true, false, cond, not, ◌&&◌, nat_lt, inl, inr, List, [], ◌∷◌, map, Option, Some, None, refl, sym, ap, subst, ◌∙◌, eq-eqb}
use Rattle.std.specs.List.{filter, list_any, list_all}
use Rattle.std.proofs.lemmas.Bool.{eqb-true, and_parts, true≢false, false≢true, and_from, not_from_false, not-true, or_parts}
use lib.Pointwise.{pointwise}
use Rattle.mcast_txn.specs.declared.id.Topic.{Topic}
use Rattle.mcast_txn.specs.declared.id.TxnId.{TxnId}
use Rattle.mcast_txn.specs.declared.stamp.Stamp.{Stamp}
use Rattle.mcast_txn.specs.Agreed.{SenderOrder}
use Rattle.mcast_txn.specs.Ids.{same_id}
use Rattle.mcast_txn.specs.Lists.{In, Rises}
use Rattle.mcast_txn.specs.Span.{LogRow, row_id, row_stamp, last_stamp, up_to}
use Rattle.mcast_txn.specs.Stamp.{same_stamp, stamp_lt, zero_stamp}
use Rattle.mcast_txn.specs.TopicSet.{names}
use Rattle.mcast_txn.proofs.Members.{In-flat_map, In-map, In-map_cases, In-filter, In-filter_cases, any_found, any_from, all_at}
use Rattle.mcast_txn.proofs.Orders.{lt_irrefl, lt_asym, le_trans, same_topics, id_equal, same_stamp_is}
use Rattle.mcast_txn.proofs.Sorting.{Rises-filter, same_rising}
use Rattle.trace_audit.specs.Explained.{rows_at, IsExplainedBy}
use Rattle.trace_audit.specs.Faults.{are_different, are_colliding, are_disordered, some_two, are_falling, is_out_of_order, log_has_row, log_has_row_from, is_hole, holes, same_mark, is_astray, astray_subs, lesser, least, audit_fault}
use Rattle.trace_audit.specs.Logs.{TopicRow}
use Rattle.trace_audit.specs.Inner.Sorting.{IsSortingOf}
use Rattle.trace_audit.specs.Trace.{TraceData, rows_of, log_of, queue_of, marks_in, fits}
use Rattle.std.specs.Option.{option_map, option_or}
use Rattle.mcast_txn.specs.Checks.{first_refusal}
use Rattle.trace_audit.specs.declared.fault.AuditFault.{AuditFault}
use Rattle.trace_audit.specs.declared.fault.AuditFault.TheVariants as audit
use Rattle.mcast_txn.specs.declared.mark.Mark.{Mark}
use Rattle.trace_audit.specs.declared.row.SpanRow.{SpanRow}

-- ---- tests

-- a test that finds none is false of each
pub none_at : {X : Type 0} (p : X → Bool) (x : X) (xs : List X) → list_any p xs ≡ false → In x xs → p x ≡ false
none_at p x xs h i = go (p x) refl
  where
    go : (b : Bool) → p x ≡ b → p x ≡ false
    go false e = e
    go true e = absurd (true≢false (sym (any_from p x xs i e) ∙ h))

-- of s and not v: where s holds, v does
pub open_test : (s v : Bool) → (s && not v) ≡ false → s ≡ true → v ≡ true
open_test true true e k = refl
open_test true false e k = absurd (true≢false e)
open_test false v e k = absurd (false≢true k)

-- of not s and v: where v holds, s does
pub shut_test : (s v : Bool) → (not s && v) ≡ false → v ≡ true → s ≡ true
shut_test true v e k = refl
shut_test false v e k = absurd (true≢false (sym k ∙ e))

-- of s, l and not q: where s and l hold, q does
pub third : (s l q : Bool) → (s && (l && not q)) ≡ false → s ≡ true → l ≡ true → q ≡ true
third true l q e k m = open_test l q e m
third false l q e k m = absurd (false≢true k)

-- no two rows are so
pub none_two : (test : LogRow → LogRow → Bool) (logs : List TopicRow) (a b : LogRow) → some_two test logs ≡ false → In a (rows_of logs) → In b (rows_of logs) → test a b ≡ false
none_two test logs a b h i j =
    let m = In-map_cases (λ (l : TopicRow). l.row) a logs i in
    let n = In-map_cases (λ (l : TopicRow). l.row) b logs j in
    let k = none_at (λ (y : TopicRow). test m.from.row y.row) n.from logs
    (none_at (λ (x : TopicRow). list_any (λ (y : TopicRow). test x.row y.row) logs) m.from logs h m.stands) n.stands in
    subst (λ (z : LogRow). test z b ≡ false) m.is (subst (λ (z : LogRow). test m.from.row z ≡ false) n.is k)

-- ---- what is equal

abbrev same_number : Topic → Topic → Bool
same_number t u = t.0 == u.0

-- lists of topics that are the same one by one are equal
pub topics_equal : (ts us : List Topic) → pointwise same_number ts us ≡ true → ts ≡ us
topics_equal [] [] e = refl
topics_equal [] (u ∷ us) e = absurd (false≢true e)
topics_equal (t ∷ ts) [] e = absurd (false≢true e)
topics_equal (t ∷ ts) (u ∷ us) e =
    let p = and_parts (t.0 == u.0) (pointwise same_number ts us) e in
    let f : t ≡ u = same_topics t u (eqb-true t.0 u.0 p.0) in
    let g : ts ≡ us = topics_equal ts us p.1 in
    rw (f, g) refl

abbrev log_row : TxnId → List Topic → Stamp → LogRow
log_row id topics stamp = record { id = id; topics = topics; stamp = stamp }

-- rows of the same id, topics and stamp are equal
pub rows_equal : (a b : LogRow) → a.id ≡ b.id → a.topics ≡ b.topics → a.stamp ≡ b.stamp → a ≡ b
rows_equal a b e f g =
    ap (λ (z : TxnId). log_row z a.topics a.stamp) e
    ∙ (ap (λ (z : List Topic). log_row b.id z a.stamp) f ∙ ap (λ (z : Stamp). log_row b.id b.topics z) g)

-- without two verdicts, a transaction has one row
pub one_row : (logs : List TopicRow) (a b : LogRow) → some_two are_different logs ≡ false → In a (rows_of logs) → In b (rows_of logs) → same_id a.id b.id ≡ true → a ≡ b
one_row logs a b h i j e =
    let s = same_stamp a.stamp b.stamp in
    let t = pointwise same_number a.topics b.topics in
    let p = and_parts s t (open_test (same_id a.id b.id) (s && t) (none_two are_different logs a b h i j) e) in
    rows_equal a b (id_equal a.id b.id e) (topics_equal a.topics b.topics p.1) (same_stamp_is a.stamp b.stamp p.0)

-- and a stamp too, where no two transactions share one
pub one_stamp : (logs : List TopicRow) (a b : LogRow) → some_two are_different logs ≡ false → some_two are_colliding logs ≡ false → In a (rows_of logs) → In b (rows_of logs) → same_stamp a.stamp b.stamp ≡ true → a ≡ b
one_stamp logs a b h k i j e =
    one_row logs a b h i j (shut_test (same_id a.id b.id) (same_stamp a.stamp b.stamp) (none_two are_colliding logs a b k i j) e)

-- ---- the list

-- where no two rows are different or colliding, each row of the logs is among the sorted ones
pub all_in : (rows : List LogRow) (logs : List TopicRow) → some_two are_different logs ≡ false → some_two are_colliding logs ≡ false → IsSortingOf rows (rows_of logs) → (q : LogRow) → In q (rows_of logs) → In q rows
all_in rows logs h k sorting q i =
    let f = any_found (λ (own : LogRow). same_stamp own.stamp q.stamp) rows (sorting.stamped q i) in
    let e : f.it ≡ q = one_stamp logs f.it q h k (sorting.of_all f.it f.stands) i f.passes in
    subst (λ (z : LogRow). In z rows) e f.stands

seqs : (rows : List LogRow) (logs : List TopicRow) → some_two are_disordered logs ≡ false → ((q : LogRow) → In q rows → In q (rows_of logs)) → Rises row_stamp rows → SenderOrder row_id rows
seqs [] logs h from up = tt
seqs (x ∷ xs) logs h from up = (
  (λ y k e.
      let s : (x.id.sender.0 == y.id.sender.0) ≡ true = eq-eqb x.id.sender.0 y.id.sender.0 (ap (λ (z : _). z.0) e) in
      third (x.id.sender.0 == y.id.sender.0) (stamp_lt x.stamp y.stamp) (nat_lt x.id.seq y.id.seq)
      (none_two are_disordered logs x y h (from x (inl refl)) (from y (inr k))) s (up.0 y k)),
  seqs xs logs h (λ q k. from q (inr k)) up.1,
)

-- ---- logs

-- the row is of the log of t
abbrev pub at_topic : Topic → TopicRow → Bool
at_topic t logged = logged.topic.0 == t.0

-- a member of a log is a row of its topic
pub record OfRow (t : Topic) (q : LogRow) (logs : List TopicRow) : Type 0 where
  pub logged : TopicRow
  pub stands : In logged logs
  pub topic : logged.topic.0 == t.0 ≡ true
  pub is : logged.row ≡ q

-- a row of a topic's log is a row of the topic
pub log_member : (t : Topic) (q : LogRow) (logs : List TopicRow) → In q (log_of t logs) → OfRow t q logs
log_member t q logs i =
    let m = In-map_cases (λ (l : TopicRow). l.row) q (filter (at_topic t) logs) i in
    let k = In-filter_cases (at_topic t) m.from logs m.stands in
    record { logged = m.from; stands = k.stands; topic = k.passes; is = m.is }

-- a row of the topic is in the topic's log
pub in_log : (t : Topic) (logged : TopicRow) (logs : List TopicRow) → In logged logs → logged.topic.0 == t.0 ≡ true → In logged.row (log_of t logs)
in_log t logged logs i e =
    In-map (λ (l : TopicRow). l.row) logged (filter (at_topic t) logs) (In-filter (at_topic t) logged logs i e)

-- a row of a topic's log is a row of the logs
pub in_rows : (t : Topic) (q : LogRow) (logs : List TopicRow) → In q (log_of t logs) → In q (rows_of logs)
in_rows t q logs i =
    let m = log_member t q logs i in
    subst (λ (z : LogRow). In z (rows_of logs)) m.is (In-map (λ (l : TopicRow). l.row) m.logged logs m.stands)

rises_case : (t : Topic) (x : TopicRow) (xs : List TopicRow) (b : Bool) → (x.topic.0 == t.0) ≡ b → list_any (λ (y : TopicRow). are_falling x y) xs ≡ false → Rises row_stamp (log_of t xs) → Rises row_stamp (map (λ (l : TopicRow). l.row) (cond b (x ∷ filter (at_topic t) xs) (filter (at_topic t) xs)))
rises_case t x xs false e h ih = ih
rises_case t x xs true e h ih = (
  (λ y k.
      let m = log_member t y xs k in
      let same : (x.topic.0 == m.logged.topic.0) ≡ true = eq-eqb x.topic.0 m.logged.topic.0 (eqb-true x.topic.0 t.0 e ∙ sym (eqb-true m.logged.topic.0 t.0 m.topic)) in
      subst (λ (z : LogRow). stamp_lt x.row.stamp z.stamp ≡ true) m.is
      (open_test (x.topic.0 == m.logged.topic.0) (stamp_lt x.row.stamp m.logged.row.stamp) (none_at (λ (y : TopicRow). are_falling x y) m.logged xs h m.stands) same)),
  ih,
)

-- where no log is out of order, a topic's log rises
pub log_rises : (t : Topic) (logs : List TopicRow) → is_out_of_order logs ≡ false → Rises row_stamp (log_of t logs)
log_rises t [] h = tt
log_rises t (x ∷ xs) h =
    let p = or_parts (list_any (λ (y : TopicRow). are_falling x y) xs) (is_out_of_order xs) h in
    rises_case t x xs (x.topic.0 == t.0) refl p.0 (log_rises t xs p.1)

last_ge : (x : LogRow) (xs : List LogRow) → Rises row_stamp (x ∷ xs) → stamp_lt (last_stamp x.stamp xs) x.stamp ≡ false
last_ge x [] up = lt_irrefl x.stamp
last_ge x (y ∷ ys) up =
    le_trans x.stamp y.stamp (last_stamp y.stamp ys) (lt_asym x.stamp y.stamp (up.0 y (inl refl))) (last_ge y ys up.1)

-- no row of a rising log is above its last
pub last_above : (s : Stamp) (log : List LogRow) (q : LogRow) → Rises row_stamp log → In q log → stamp_lt (last_stamp s log) q.stamp ≡ false
last_above s [] q up i = absurd i
last_above s (x ∷ xs) q up (inl e) = subst (λ (z : LogRow). stamp_lt (last_stamp x.stamp xs) z.stamp ≡ false) e (last_ge x xs up)
last_above s (x ∷ xs) q up (inr k) = last_above x.stamp xs q up.1 k

-- a log has a row of this stamp
pub record LastOf (log : List LogRow) (s : Stamp) : Type 0 where
  pub row : LogRow
  pub stands : In row log
  pub is : row.stamp ≡ s

last_in : (x : LogRow) (xs : List LogRow) → LastOf (x ∷ xs) (last_stamp x.stamp xs)
last_in x [] = record { row = x; stands = inl refl; is = refl }
last_in x (y ∷ ys) = let l = last_in y ys in record { row = l.row; stands = inr l.stands; is = l.is }

-- a log that isn't empty has a row of its last stamp
pub last_of : (s : Stamp) (log : List LogRow) → log ≢ [] → LastOf log (last_stamp s log)
last_of s [] ne = absurd (ne refl)
last_of s (x ∷ xs) ne = last_in x xs

-- a log that isn't empty reaches each stamp up to its last
log_reaches : (t : Topic) (stamp : Stamp) (logs : List TopicRow) → log_of t logs ≢ [] → stamp_lt (last_stamp zero_stamp (log_of t logs)) stamp ≡ false → log_has_row_from t stamp logs ≡ true
log_reaches t stamp logs ne h =
    let l = last_of zero_stamp (log_of t logs) ne in
    let m = log_member t l.row logs l.stands in
    let e : m.logged.row.stamp ≡ last_stamp zero_stamp (log_of t logs) = ap (λ (z : LogRow). z.stamp) m.is ∙ l.is in
    any_from (λ (logged : TopicRow). logged.topic.0 == t.0 && not (stamp_lt logged.row.stamp stamp)) m.logged logs m.stands
    (and_from (m.logged.topic.0 == t.0) (not (stamp_lt m.logged.row.stamp stamp)) m.topic
    (not_from_false (stamp_lt m.logged.row.stamp stamp) (subst (λ (z : Stamp). stamp_lt z stamp ≡ false) (sym e) h)))

-- ---- holes

-- a list of numbers without a least one is empty
pub least_none : (ns : List ℕ) → least ns ≡ None → (n : ℕ) → In n ns → Prim.⊥
least_none [] e n i = i
least_none (x ∷ ns) e n i = go (least ns) e
  where
    two : (b : Bool) (y : ℕ) → cond b (Some y) (Some x) ≡ None → Prim.⊥
    two true y e = cc
    two false y e = cc

    go : (r : Option ℕ) → lesser (Some x) r ≡ None → Prim.⊥
    go None e = cc
    go (Some y) e = two (nat_lt y x) y e

-- where no log has a hole, a topic's log has none at a row that names the topic
pub no_hole : (logs : List TopicRow) (logged : TopicRow) (t : Topic) → least (holes logs) ≡ None → In logged logs → In t logged.row.topics → is_hole logs logged.row t ≡ false
no_hole logs logged t h i j = go (is_hole logs logged.row t) refl
  where
    go : (b : Bool) → is_hole logs logged.row t ≡ b → is_hole logs logged.row t ≡ false
    go false e = e
    go true e = absurd (least_none (holes logs) h t.0
        (In-flat_map (λ (l : TopicRow). map (λ (u : Topic). u.0) (filter (λ (u : Topic). is_hole logs l.row u) l.row.topics)) logged t.0 logs i
        (In-map (λ (u : Topic). u.0) t (filter (λ (u : Topic). is_hole logs logged.row u) logged.row.topics)
        (In-filter (λ (u : Topic). is_hole logs logged.row u) t logged.row.topics j e))))

-- a topic that is named is one of the topics
pub named_in : (t : Topic) (topics : List Topic) → names t topics ≡ true → In t topics
named_in t topics h =
    let f = any_found (λ (u : Topic). u.0 == t.0) topics h in
    subst (λ (z : Topic). In z topics) (same_topics f.it t (eqb-true f.it.0 t.0 f.passes)) f.stands

-- without two verdicts, a log that has a row of the transaction has this row
pub row_in_log : (t : Topic) (q : LogRow) (logs : List TopicRow) → some_two are_different logs ≡ false → In q (rows_of logs) → log_has_row t q.id logs ≡ true → In q (log_of t logs)
row_in_log t q logs h i e =
    let f = any_found (λ (logged : TopicRow). logged.topic.0 == t.0 && same_id logged.row.id q.id) logs e in
    let p = and_parts (f.it.topic.0 == t.0) (same_id f.it.row.id q.id) f.passes in
    let same : f.it.row ≡ q = one_row logs f.it.row q h (In-map (λ (l : TopicRow). l.row) f.it logs f.stands) i p.1 in
    subst (λ (z : LogRow). In z (log_of t logs)) same (in_log t f.it logs f.stands p.0)

has_member : (t : Topic) (q : LogRow) (logs : List TopicRow) → least (holes logs) ≡ None → log_of t logs ≢ [] → In q (rows_of logs) → names t q.topics ≡ true → stamp_lt (last_stamp zero_stamp (log_of t logs)) q.stamp ≡ false → log_has_row t q.id logs ≡ true
has_member t q logs h ne i n below =
    let m = In-map_cases (λ (l : TopicRow). l.row) q logs i in
    let shut : is_hole logs m.from.row t ≡ false = no_hole logs m.from t h m.stands
    (subst (λ (z : LogRow). In t z.topics) (sym m.is) (named_in t q.topics n)) in
    shut_test (log_has_row t q.id logs) (log_has_row_from t q.stamp logs)
    (subst (λ (z : LogRow). is_hole logs z t ≡ false) m.is shut) (log_reaches t q.stamp logs ne below)

-- the row names t, and is at most the last stamp of t's log
abbrev pub kept_at : Topic → List TopicRow → LogRow → Bool
kept_at t logs row = names t row.topics && up_to (Some (last_stamp zero_stamp (log_of t logs))) row.stamp

log_is : (rows : List LogRow) (logs : List TopicRow) (t : Topic) → list_all (λ (logged : TopicRow). fits logged) logs ≡ true → some_two are_different logs ≡ false → some_two are_colliding logs ≡ false → is_out_of_order logs ≡ false → least (holes logs) ≡ None → IsSortingOf rows (rows_of logs) → log_of t logs ≢ [] → log_of t logs ≡ rows_at t (log_of t logs) rows
log_is rows logs t fit h k order whole sorting ne =
    same_rising row_stamp (log_of t logs) (filter (kept_at t logs) rows) up (Rises-filter row_stamp (kept_at t logs) rows sorting.rises) to from
  where
    up : Rises row_stamp (log_of t logs)
    up = log_rises t logs order

    to : (q : LogRow) → In q (log_of t logs) → In q (filter (kept_at t logs) rows)
    to q i =
        let m = log_member t q logs i in
        let f = and_parts _ (names m.logged.topic m.logged.row.topics) (all_at (λ (logged : TopicRow). fits logged) m.logged logs fit m.stands) in
        let named : names t m.logged.row.topics ≡ true =
        subst (λ (z : Topic). names z m.logged.row.topics ≡ true) (same_topics m.logged.topic t (eqb-true m.logged.topic.0 t.0 m.topic)) f.1 in
        let n : names t q.topics ≡ true = subst (λ (z : LogRow). names t z.topics ≡ true) m.is named in
        let below = last_above zero_stamp (log_of t logs) q up i in
        In-filter (kept_at t logs) q rows (all_in rows logs h k sorting q (in_rows t q logs i))
        (and_from (names t q.topics) (up_to (Some (last_stamp zero_stamp (log_of t logs))) q.stamp) n
        (not_from_false (stamp_lt (last_stamp zero_stamp (log_of t logs)) q.stamp) below))

    from : (q : LogRow) → In q (filter (kept_at t logs) rows) → In q (log_of t logs)
    from q i =
        let m = In-filter_cases (kept_at t logs) q rows i in
        let p = and_parts (names t q.topics) (up_to (Some (last_stamp zero_stamp (log_of t logs))) q.stamp) m.passes in
        let j = sorting.of_all q m.stands in
        row_in_log t q logs h j
        (has_member t q logs whole ne j p.0 (not-true (stamp_lt (last_stamp zero_stamp (log_of t logs)) q.stamp) p.1))

-- ---- queues

abbrev mark_of : TxnId → Stamp → Mark
mark_of id stamp = record { id = id; stamp = stamp }

-- marks that are the same one by one are equal
pub marks_equal : (xs ys : List Mark) → pointwise same_mark xs ys ≡ true → xs ≡ ys
marks_equal [] [] e = refl
marks_equal [] (y ∷ ys) e = absurd (false≢true e)
marks_equal (x ∷ xs) [] e = absurd (false≢true e)
marks_equal (x ∷ xs) (y ∷ ys) e =
    let p = and_parts (same_mark x y) (pointwise same_mark xs ys) e in
    let q = and_parts (same_id x.id y.id) (same_stamp x.stamp y.stamp) p.0 in
    let f : x ≡ y = ap (λ (z : TxnId). mark_of z x.stamp) (id_equal x.id y.id q.0) ∙ ap (mark_of y.id) (same_stamp_is x.stamp y.stamp q.1) in
    let g : xs ≡ ys = marks_equal xs ys p.1 in
    rw (f, g) refl

queue_is : (trace : TraceData) (span : SpanRow) → least (astray_subs trace) ≡ None → In span trace.spans → queue_of span.sub trace.queues ≡ marks_in span trace.logs
queue_is trace span h i = go (pointwise same_mark (queue_of span.sub trace.queues) (marks_in span trace.logs)) refl
  where
    go : (b : Bool) → pointwise same_mark (queue_of span.sub trace.queues) (marks_in span trace.logs) ≡ b → queue_of span.sub trace.queues ≡ marks_in span trace.logs
    go true e = marks_equal _ _ e
    go false e = absurd (least_none (astray_subs trace) h span.sub
        (In-map (λ (l : SpanRow). l.sub) span (filter (λ (l : SpanRow). is_astray trace l) trace.spans)
        (In-filter (λ (l : SpanRow). is_astray trace l) span trace.spans i (not_from_false _ e))))

-- ---- nothing speaks against it

-- the first fault, by the answers of its tests
abbrev fault_by : Bool → Bool → Bool → Bool → Option ℕ → Option ℕ → Option AuditFault
fault_by a b c d h q =
    option_or (first_refusal ((a, audit.TwoVerdicts) ∷ (b, audit.SameStamp) ∷ (c, audit.LogOrder) ∷ (d, audit.SenderOrder) ∷ []))
    (option_or (option_map (λ n. audit.Hole (record { 0 = n })) h) (option_map (λ n. audit.QueueRow n) q))

-- no test of the trace holds
pub record IsClean (trace : TraceData) : Type 0 where
  pub verdicts : some_two are_different trace.logs ≡ false
  pub stamps : some_two are_colliding trace.logs ≡ false
  pub order : is_out_of_order trace.logs ≡ false
  pub senders : some_two are_disordered trace.logs ≡ false
  pub holes : least (holes trace.logs) ≡ None
  pub queues : least (astray_subs trace) ≡ None

-- where nothing speaks against a trace, no test of it holds
pub clean : (trace : TraceData) → audit_fault trace ≡ None → IsClean trace
clean trace e = go (some_two are_different trace.logs) (some_two are_colliding trace.logs) (is_out_of_order trace.logs) (some_two are_disordered trace.logs) (least (holes trace.logs)) (least (astray_subs trace)) refl refl refl refl refl refl e
  where
    go : (a b c d : Bool) (h q : Option ℕ) → some_two are_different trace.logs ≡ a → some_two are_colliding trace.logs ≡ b → is_out_of_order trace.logs ≡ c → some_two are_disordered trace.logs ≡ d → least (holes trace.logs) ≡ h → least (astray_subs trace) ≡ q → fault_by a b c d h q ≡ None → IsClean trace
    go true b c d h q e1 e2 e3 e4 e5 e6 e = absurd cc
    go false true c d h q e1 e2 e3 e4 e5 e6 e = absurd cc
    go false false true d h q e1 e2 e3 e4 e5 e6 e = absurd cc
    go false false false true h q e1 e2 e3 e4 e5 e6 e = absurd cc
    go false false false false (Some n) q e1 e2 e3 e4 e5 e6 e = absurd cc
    go false false false false None (Some n) e1 e2 e3 e4 e5 e6 e = absurd cc
    go false false false false None None e1 e2 e3 e4 e5 e6 e =
        record { verdicts = e1; stamps = e2; order = e3; senders = e4; holes = e5; queues = e6 }

-- a trace against which nothing speaks is explained by its rows, sorted
pub explained : (trace : TraceData) (rows : List LogRow) → list_all (λ (logged : TopicRow). fits logged) trace.logs ≡ true → IsClean trace → IsSortingOf rows (rows_of trace.logs) → IsExplainedBy rows trace
explained trace rows fit c sorting = record {
  rises = sorting.rises;
  of_logs = sorting.of_all;
  all = all_in rows trace.logs c.verdicts c.stamps sorting;
  senders = seqs rows trace.logs c.senders sorting.of_all sorting.rises;
  logs = λ t ne. log_is rows trace.logs t fit c.verdicts c.stamps c.order c.holes sorting ne;
  queues = λ span i. queue_is trace span c.queues i;
}
