-- Nothing speaks against a trace that is explained.
use Rattle.std.proofs.Common.{◌≡◌, ◌≢◌, ℕ, ◌==◌, Bool, true, false, cond, not, ◌&&◌, nat_lt, inl, inr, List, [], ◌∷◌, map, Some, None, refl, sym, ap, subst, ◌∙◌, eq-eqb, arith}
use Rattle.std.specs.List.{filter, flat_map, list_any, list_all}
use Rattle.std.proofs.lemmas.Bool.{eqb-true, and_parts, true≢false, false≢true, and_from, not_from_false, not-true}
use Rattle.std.proofs.lemmas.Bool.Decides.{nat_tests}
use lib.Pointwise.{pointwise}
use Rattle.mcast_txn.specs.declared.id.Topic.{Topic}
use Rattle.mcast_txn.specs.declared.id.Sender.{Sender}
use Rattle.mcast_txn.specs.Agreed.{SenderOrder}
use Rattle.mcast_txn.specs.Ids.{same_id}
use Rattle.mcast_txn.specs.Lists.{In, Rises}
use Rattle.mcast_txn.specs.Span.{LogRow, row_id, row_stamp, last_stamp, up_to}
use Rattle.mcast_txn.specs.Stamp.{same_stamp, stamp_lt, zero_stamp}
use Rattle.mcast_txn.specs.TopicSet.{names}
use Rattle.mcast_txn.proofs.Members.{In-map, In-map_cases, In-filter, any_found, any_from, all_at, filter_none, all_from}
use Rattle.mcast_txn.proofs.Orders.{lt_irrefl, lt_trans, le_trans, id_itself, id_same, id_turned, same_stamp_itself, same_stamp_is}
use Rattle.mcast_txn.proofs.Sorting.{Rises-filter, one_member}
use Rattle.trace_audit.specs.Explained.{IsExplainedBy, IsCompleteBy}
use Rattle.trace_audit.specs.Faults.{are_different, are_colliding, are_disordered, some_two, are_falling, is_out_of_order, log_has_row, log_has_row_from, is_hole, holes, same_mark, is_astray, astray_subs, least, audit_fault, is_whole}
use Rattle.trace_audit.specs.Logs.{TopicRow}
use Rattle.trace_audit.specs.Trace.{TraceData, rows_of, log_of, queue_of, marks_in, fits}
use Rattle.mcast_txn.specs.declared.mark.Mark.{Mark}
use Rattle.trace_audit.specs.declared.row.SpanRow.{SpanRow}
use Rattle.trace_audit.specs.Answers.{IsRefusal}
use Rattle.trace_audit.specs.Inner.Sorting.{IsSortingOf}
use Rattle.trace_audit.specs.declared.fault.AuditFault.{AuditFault}
use Rattle.trace_audit.proofs.Explaining.{IsClean, clean, explained, log_member, in_log, at_topic, last_above, kept_at, named_in, row_in_log}

-- ---- tests

-- a test that fails for each member holds for none
pub none_any : {X : Type 0} (p : X → Bool) (xs : List X) → ((x : X) → In x xs → p x ≡ false) → list_any p xs ≡ false
none_any p [] h = refl
none_any p (x ∷ xs) h = rw (h x (inl refl)) (none_any p xs (λ y k. h y (inr k)))

-- where a test fails for each two rows of the logs, no two rows are so
pub no_two : (test : LogRow → LogRow → Bool) (logs : List TopicRow) → ((a b : LogRow) → In a (rows_of logs) → In b (rows_of logs) → test a b ≡ false) → some_two test logs ≡ false
no_two test logs h =
    none_any (λ (x : TopicRow). list_any (λ (y : TopicRow). test x.row y.row) logs) logs
    (λ x i. none_any (λ (y : TopicRow). test x.row y.row) logs
    (λ y j. h x.row y.row (In-map (λ (l : TopicRow). l.row) x logs i) (In-map (λ (l : TopicRow). l.row) y logs j)))

-- a test of which each true part refutes
pub refuted : (b : Bool) → (b ≡ true → Prim.⊥) → b ≡ false
refuted true h = absurd (h refl)
refuted false h = refl

-- ---- the list

-- a list of topics is the same as itself, one by one
pub topics_itself : (ts : List Topic) → pointwise (λ (t u : Topic). t.0 == u.0) ts ts ≡ true
topics_itself [] = refl
topics_itself (t ∷ ts) = and_from (t.0 == t.0) _ (eq-eqb t.0 t.0 refl) (topics_itself ts)

abbrev sender : ℕ → Sender
sender n = record { 0 = n }

below_itself : (m n : ℕ) → m ≡ n → nat_lt m n ≡ true → Prim.⊥
below_itself m n e h = grind (arith, nat_tests)

-- rows of one transaction don't rise in seq
not_apart : (x y : LogRow) → same_id x.id y.id ≡ true → (x.id.sender ≡ y.id.sender → nat_lt x.id.seq y.id.seq ≡ true) → Prim.⊥
not_apart x y e h =
    let p = and_parts (x.id.sender.0 == y.id.sender.0) (x.id.seq == y.id.seq) e in
    let s : x.id.sender ≡ y.id.sender = ap sender (eqb-true x.id.sender.0 y.id.sender.0 p.0) in
    below_itself x.id.seq y.id.seq (eqb-true x.id.seq y.id.seq p.1) (h s)

-- a transaction has one row in a list in which each sender's seqs rise
one_by_id : (rows : List LogRow) (a b : LogRow) → SenderOrder row_id rows → In a rows → In b rows → same_id a.id b.id ≡ true → a ≡ b
one_by_id [] a b up i j e = absurd i
one_by_id (x ∷ xs) a b up (inl h) (inl k) e = sym h ∙ k
one_by_id (x ∷ xs) a b up (inl h) (inr k) e =
    absurd (not_apart x b (subst (λ (z : LogRow). same_id z.id b.id ≡ true) (sym h) e) (up.0 b k))
one_by_id (x ∷ xs) a b up (inr h) (inl k) e =
    absurd (not_apart x a (subst (λ (z : LogRow). same_id z.id a.id ≡ true) (sym k) (id_turned a.id b.id e)) (up.0 a h))
one_by_id (x ∷ xs) a b up (inr h) (inr k) e = one_by_id xs a b up.1 h k e

-- of two rows of one sender the first in stamp is the first in seq
seq_below : (rows : List LogRow) (a b : LogRow) → Rises row_stamp rows → SenderOrder row_id rows → In a rows → In b rows → stamp_lt a.stamp b.stamp ≡ true → a.id.sender ≡ b.id.sender → nat_lt a.id.seq b.id.seq ≡ true
seq_below [] a b up sq i j l e = absurd i
seq_below (x ∷ xs) a b up sq (inl h) (inl k) l e =
    absurd (true≢false (sym l ∙ (ap (λ (z : LogRow). stamp_lt z.stamp b.stamp) (sym h ∙ k) ∙ lt_irrefl b.stamp)))
seq_below (x ∷ xs) a b up sq (inl h) (inr k) l e =
    subst (λ (z : LogRow). nat_lt z.id.seq b.id.seq ≡ true) h (sq.0 b k (ap (λ (z : LogRow). z.id.sender) h ∙ e))
seq_below (x ∷ xs) a b up sq (inr h) (inl k) l e =
    absurd (true≢false (sym (lt_trans a.stamp b.stamp a.stamp l (subst (λ (z : LogRow). stamp_lt z.stamp a.stamp ≡ true) k (up.0 a h))) ∙ lt_irrefl a.stamp))
seq_below (x ∷ xs) a b up sq (inr h) (inr k) l e = seq_below xs a b up.1 sq.1 h k l e

-- ---- the first four

not_differ : (rows : List LogRow) (a b : LogRow) → SenderOrder row_id rows → In a rows → In b rows → are_different a b ≡ false
not_differ rows a b sq i j = refuted (are_different a b) go
  where
    go : are_different a b ≡ true → Prim.⊥
    go h =
        let p = and_parts (same_id a.id b.id) (not (same_stamp a.stamp b.stamp && pointwise (λ (t u : Topic). t.0 == u.0) a.topics b.topics)) h in
        let e : a ≡ b = one_by_id rows a b sq i j p.0 in
        let k : (same_stamp a.stamp b.stamp && pointwise (λ (t u : Topic). t.0 == u.0) a.topics b.topics) ≡ true =
        subst (λ (z : LogRow). (same_stamp a.stamp z.stamp && pointwise (λ (t u : Topic). t.0 == u.0) a.topics z.topics) ≡ true) e
        (and_from (same_stamp a.stamp a.stamp) _ (same_stamp_itself a.stamp) (topics_itself a.topics)) in
        true≢false (sym k ∙ not-true _ p.1)

not_collide : (rows : List LogRow) (a b : LogRow) → Rises row_stamp rows → In a rows → In b rows → are_colliding a b ≡ false
not_collide rows a b up i j = refuted (are_colliding a b) go
  where
    go : are_colliding a b ≡ true → Prim.⊥
    go h =
        let p = and_parts (not (same_id a.id b.id)) (same_stamp a.stamp b.stamp) h in
        let e : a ≡ b = one_member row_stamp rows a b up i j (same_stamp_is a.stamp b.stamp p.1) in
        true≢false (sym (id_same a.id b.id (ap (λ (z : LogRow). z.id) e)) ∙ not-true (same_id a.id b.id) p.0)

not_overtake : (rows : List LogRow) (a b : LogRow) → Rises row_stamp rows → SenderOrder row_id rows → In a rows → In b rows → are_disordered a b ≡ false
not_overtake rows a b up sq i j = refuted (are_disordered a b) go
  where
    go : are_disordered a b ≡ true → Prim.⊥
    go h =
        let p = and_parts (a.id.sender.0 == b.id.sender.0) (stamp_lt a.stamp b.stamp && not (nat_lt a.id.seq b.id.seq)) h in
        let q = and_parts (stamp_lt a.stamp b.stamp) (not (nat_lt a.id.seq b.id.seq)) p.1 in
        let e : a.id.sender ≡ b.id.sender = ap sender (eqb-true a.id.sender.0 b.id.sender.0 p.0) in
        true≢false (sym (seq_below rows a b up sq i j q.0 e) ∙ not-true (nat_lt a.id.seq b.id.seq) q.1)

tail_rises : (t : Topic) (x : TopicRow) (xs : List TopicRow) (b : Bool) → Rises row_stamp (map (λ (l : TopicRow). l.row) (cond b (x ∷ filter (at_topic t) xs) (filter (at_topic t) xs))) → Rises row_stamp (log_of t xs)
tail_rises t x xs true up = up.1
tail_rises t x xs false up = up

head_below : (t : Topic) (x : TopicRow) (xs : List TopicRow) (b : Bool) → b ≡ true → Rises row_stamp (map (λ (l : TopicRow). l.row) (cond b (x ∷ filter (at_topic t) xs) (filter (at_topic t) xs))) → (y : LogRow) → In y (log_of t xs) → stamp_lt x.row.stamp y.stamp ≡ true
head_below t x xs true e up = up.0
head_below t x xs false e up = absurd (false≢true e)

-- logs that rise are in order
pub in_order : (logs : List TopicRow) → ((t : Topic) → Rises row_stamp (log_of t logs)) → is_out_of_order logs ≡ false
in_order [] up = refl
in_order (x ∷ xs) up =
    rw (none_any (λ (y : TopicRow). are_falling x y) xs (λ y i. refuted (are_falling x y) (go y i)))
    (in_order xs (λ t. tail_rises t x xs (x.topic.0 == t.0) (up t)))
  where
    go : (y : TopicRow) → In y xs → are_falling x y ≡ true → Prim.⊥
    go y i h =
        let p = and_parts (x.topic.0 == y.topic.0) (not (stamp_lt x.row.stamp y.row.stamp)) h in
        let same : (y.topic.0 == x.topic.0) ≡ true = eq-eqb y.topic.0 x.topic.0 (sym (eqb-true x.topic.0 y.topic.0 p.0)) in
        let k = head_below x.topic x xs (x.topic.0 == x.topic.0) (eq-eqb x.topic.0 x.topic.0 refl) (up x.topic) y.row
        (in_log x.topic y xs i same) in
        true≢false (sym k ∙ not-true (stamp_lt x.row.stamp y.row.stamp) p.1)

nonempty : {X : Type 0} (x : X) (xs : List X) → In x xs → xs ≢ []
nonempty x xs i e = subst (In x) e i

logs_rise : (trace : TraceData) (rows : List LogRow) → IsExplainedBy rows trace → (t : Topic) → Rises row_stamp (log_of t trace.logs)
logs_rise trace rows ex t = go (log_of t trace.logs) refl
  where
    go : (log : List LogRow) → log_of t trace.logs ≡ log → Rises row_stamp (log_of t trace.logs)
    go [] e = subst (Rises row_stamp) (sym e) tt
    go (x ∷ xs) e =
        let ne : log_of t trace.logs ≢ [] = nonempty x (log_of t trace.logs) (subst (In x) (sym e) (inl refl)) in
        subst (Rises row_stamp) (sym (ex.logs t ne)) (Rises-filter row_stamp (kept_at t trace.logs) rows ex.rises)

-- ---- holes and queues

-- a log that has the row has one of its transaction
pub has_from : (t : Topic) (q : LogRow) (logs : List TopicRow) → In q (log_of t logs) → log_has_row t q.id logs ≡ true
has_from t q logs i =
    let m = log_member t q logs i in
    any_from (λ (logged : TopicRow). logged.topic.0 == t.0 && same_id logged.row.id q.id) m.logged logs m.stands
    (and_from (m.logged.topic.0 == t.0) (same_id m.logged.row.id q.id) m.topic
    (id_same m.logged.row.id q.id (ap (λ (z : LogRow). z.id) m.is)))

not_hole : (trace : TraceData) (rows : List LogRow) → IsExplainedBy rows trace → (q : LogRow) (t : Topic) → In q (rows_of trace.logs) → names t q.topics ≡ true → is_hole trace.logs q t ≡ false
not_hole trace rows ex q t i n = refuted (is_hole trace.logs q t) go
  where
    go : is_hole trace.logs q t ≡ true → Prim.⊥
    go h =
        let p = and_parts (not (log_has_row t q.id trace.logs)) (log_has_row_from t q.stamp trace.logs) h in
        let f = any_found (λ (logged : TopicRow). logged.topic.0 == t.0 && not (stamp_lt logged.row.stamp q.stamp)) trace.logs p.1 in
        let r = and_parts (f.it.topic.0 == t.0) (not (stamp_lt f.it.row.stamp q.stamp)) f.passes in
        let in_t = in_log t f.it trace.logs f.stands r.0 in
        let ne : log_of t trace.logs ≢ [] = nonempty f.it.row (log_of t trace.logs) in_t in
        let last = last_above zero_stamp (log_of t trace.logs) f.it.row (logs_rise trace rows ex t) in_t in
        let below = le_trans q.stamp f.it.row.stamp (last_stamp zero_stamp (log_of t trace.logs)) (not-true (stamp_lt f.it.row.stamp q.stamp) r.1) last in
        let kept = In-filter (kept_at t trace.logs) q rows (ex.all q i)
        (and_from (names t q.topics) (up_to (Some (last_stamp zero_stamp (log_of t trace.logs))) q.stamp) n
        (not_from_false (stamp_lt (last_stamp zero_stamp (log_of t trace.logs)) q.stamp) below)) in
        let there = subst (In q) (sym (ex.logs t ne)) kept in
        true≢false (sym (has_from t q trace.logs there) ∙ not-true (log_has_row t q.id trace.logs) p.0)

flat_none : {X Y : Type 0} (f : X → List Y) (xs : List X) → ((x : X) → In x xs → f x ≡ []) → flat_map f xs ≡ []
flat_none f [] h = refl
flat_none f (x ∷ xs) h = rw (h x (inl refl)) (flat_none f xs (λ y k. h y (inr k)))

-- a topic that is one of the topics is named
pub named_by : (t : Topic) (topics : List Topic) → In t topics → names t topics ≡ true
named_by t topics i = any_from (λ (u : Topic). u.0 == t.0) t topics i (eq-eqb t.0 t.0 refl)

no_holes : (trace : TraceData) (rows : List LogRow) → IsExplainedBy rows trace → least (holes trace.logs) ≡ None
no_holes trace rows ex =
    let e : holes trace.logs ≡ [] = flat_none (λ (l : TopicRow). map (λ (u : Topic). u.0) (filter (λ (u : Topic). is_hole trace.logs l.row u) l.row.topics)) trace.logs
    (λ l i. ap (map (λ (u : Topic). u.0)) (filter_none (λ (u : Topic). is_hole trace.logs l.row u) l.row.topics
    (λ u k. not_hole trace rows ex l.row u (In-map (λ (z : TopicRow). z.row) l trace.logs i) (named_by u l.row.topics k)))) in
    ap least e

marks_itself : (ms : List Mark) → pointwise same_mark ms ms ≡ true
marks_itself [] = refl
marks_itself (m ∷ ms) =
    and_from (same_mark m m) (pointwise same_mark ms ms)
    (and_from (same_id m.id m.id) (same_stamp m.stamp m.stamp) (id_itself m.id) (same_stamp_itself m.stamp)) (marks_itself ms)

not_astray : (trace : TraceData) (rows : List LogRow) → IsExplainedBy rows trace → (span : SpanRow) → In span trace.spans → is_astray trace span ≡ false
not_astray trace rows ex span i =
    let e : pointwise same_mark (queue_of span.sub trace.queues) (marks_in span trace.logs) ≡ true =
    subst (λ (z : List Mark). pointwise same_mark (queue_of span.sub trace.queues) z ≡ true) (ex.queues span i) (marks_itself (queue_of span.sub trace.queues)) in
    rw e refl

none_astray : (trace : TraceData) (rows : List LogRow) → IsExplainedBy rows trace → least (astray_subs trace) ≡ None
none_astray trace rows ex =
    let e : astray_subs trace ≡ [] = ap (map (λ (l : SpanRow). l.sub)) (filter_none (λ (l : SpanRow). is_astray trace l) trace.spans (not_astray trace rows ex)) in
    ap least e

-- ---- all of it

-- no test of a trace that is explained holds
pub unrefuted : (trace : TraceData) (rows : List LogRow) → IsExplainedBy rows trace → IsClean trace
unrefuted trace rows ex = record {
  verdicts = no_two are_different trace.logs (λ a b i j. not_differ rows a b ex.senders (ex.all a i) (ex.all b j));
  stamps = no_two are_colliding trace.logs (λ a b i j. not_collide rows a b ex.rises (ex.all a i) (ex.all b j));
  order = in_order trace.logs (logs_rise trace rows ex);
  senders = no_two are_disordered trace.logs (λ a b i j. not_overtake rows a b ex.rises ex.senders (ex.all a i) (ex.all b j));
  holes = no_holes trace rows ex;
  queues = none_astray trace rows ex;
}

-- no fault is found of a trace that is explained
pub faultless : (trace : TraceData) (rows : List LogRow) → IsExplainedBy rows trace → audit_fault trace ≡ None
faultless trace rows ex =
    let c = unrefuted trace rows ex in
    rw (c.verdicts, c.stamps, c.order, c.senders, c.holes, c.queues) refl

-- ---- completeness

-- where each row is in the log of each of its topics, what explains the trace is complete
pub complete : (trace : TraceData) (rows : List LogRow) → IsExplainedBy rows trace → is_whole trace.logs ≡ true → IsCompleteBy rows trace
complete trace rows ex h q t i n =
    let j = ex.of_logs q i in
    let m = In-map_cases (λ (l : TopicRow). l.row) q trace.logs j in
    let k = all_at (λ (l : TopicRow). list_all (λ (u : Topic). log_has_row u l.row.id trace.logs) l.row.topics) m.from trace.logs h m.stands in
    let there = all_at (λ (u : Topic). log_has_row u m.from.row.id trace.logs) t m.from.row.topics k
    (subst (λ (z : LogRow). In t z.topics) (sym m.is) (named_in t q.topics n)) in
    row_in_log t q trace.logs (unrefuted trace rows ex).verdicts j (subst (λ (z : LogRow). log_has_row t z.id trace.logs ≡ true) m.is there)

-- where what explains the trace is complete, each row is in the log of each of its topics
pub completed : (trace : TraceData) (rows : List LogRow) → IsExplainedBy rows trace → IsCompleteBy rows trace → is_whole trace.logs ≡ true
completed trace rows ex h =
    all_from (λ (l : TopicRow). list_all (λ (u : Topic). log_has_row u l.row.id trace.logs) l.row.topics) trace.logs
    (λ l i. all_from (λ (u : Topic). log_has_row u l.row.id trace.logs) l.row.topics
    (λ u k. has_from u l.row trace.logs
    (h l.row u (ex.all l.row (In-map (λ (z : TopicRow). z.row) l trace.logs i)) (named_by u l.row.topics k))))

-- ---- what the auditor says

none_is : (f : AuditFault) → None ≡ Some f → Prim.⊥
none_is f e = cc

-- the first that speaks against a trace is its refusal: no list explains it
pub refuses : (trace : TraceData) (fault : AuditFault) → audit_fault trace ≡ Some fault → IsRefusal fault trace
refuses trace fault e = record {
  first = e;
  unexplained = λ rows ex. none_is fault (sym (faultless trace rows ex) ∙ e);
}

-- where nothing speaks against a trace, its sorted rows explain it
pub explains : (trace : TraceData) (logs : List TopicRow) (rows : List LogRow) → logs ≡ trace.logs → list_all (λ (logged : TopicRow). fits logged) logs ≡ true → audit_fault trace ≡ None → IsSortingOf rows (rows_of logs) → IsExplainedBy rows trace
explains trace logs rows same fit none sorting =
    explained trace rows (subst (λ (z : List TopicRow). list_all (λ (logged : TopicRow). fits logged) z ≡ true) same fit) (clean trace none)
    (subst (λ (z : List TopicRow). IsSortingOf rows (rows_of z)) same sorting)
