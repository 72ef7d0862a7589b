-- What neighbours in an order say of all rows.
use Rattle.std.proofs.Common.{◌≡◌, ℕ, zero, suc, ◌+◌, ◌<◌, ◌==◌, Bool, true, false, not, ◌&&◌, nat_lt, inl, inr, List, [], ◌∷◌, length, get_or, Bor, refl, sym, ap, subst, ◌∙◌, ◌⊎◌, eq-eqb, arith}
use Rattle.std.specs.List.{list_any, filter, IsAllAdjacentAnswer}
use Rattle.std.proofs.lemmas.Bool.{eqb-true, and_parts, true≢false, false≢true, and_from, not-true, or_left, or_right}
use Rattle.std.proofs.lemmas.Bool.Decides.{nat_tests}
use lib.Pointwise.{pointwise}
use Rattle.mcast_txn.specs.declared.id.Topic.{Topic}
use Rattle.mcast_txn.specs.declared.id.TxnId.{TxnId}
use Rattle.mcast_txn.specs.declared.stamp.Stamp.{Stamp}
use Rattle.mcast_txn.specs.Ids.{same_id, id_lt}
use Rattle.mcast_txn.specs.Lists.{In, Rises}
use Rattle.mcast_txn.specs.Span.{LogRow, row_stamp}
use Rattle.mcast_txn.specs.Stamp.{same_stamp, stamp_lt}
use Rattle.mcast_txn.proofs.Members.{In-map, In-get_or, any_from}
use Rattle.mcast_txn.proofs.Orders.{lt_irrefl, lt_trans, le_trans, same_stamps, id_equal, id_same, same_stamp_is, same_stamp_itself, id_turned}
use Rattle.trace_audit.specs.Faults.{are_different, are_colliding, are_disordered, some_two, are_falling, is_out_of_order}
use Rattle.trace_audit.specs.Logs.{TopicRow}
use Rattle.trace_audit.specs.Inner.Chained.{Chained, Above}
use Rattle.trace_audit.specs.Inner.Orders.{rows_of_refs, IsOrderedById, RisesByStamp, RisesByTopic}
use Rattle.trace_audit.specs.Trace.{rows_of, log_of}
use Rattle.trace_audit.proofs.Explaining.{open_test, one_row, rows_equal, topics_equal, log_rises}
use Rattle.trace_audit.proofs.OrderLemmas.{chain_shown, chain_pair}
use Rattle.trace_audit.proofs.Refuting.{none_any, refuted, topics_itself, in_order}

-- ---- ids

id_le_trans : (a b c : TxnId) → id_lt b a ≡ false → id_lt c b ≡ false → id_lt c a ≡ false
id_le_trans a b c e f = grind (arith, nat_tests)

id_between : (a b c : TxnId) → id_lt b a ≡ false → id_lt c b ≡ false → same_id a c ≡ true → same_id a b ≡ true
id_between a b c e f g = grind (arith, nat_tests)

sender_between : (a b c : TxnId) → id_lt b a ≡ false → id_lt c b ≡ false → a.sender.0 ≡ c.sender.0 → a.sender.0 ≡ b.sender.0
sender_between a b c e f g = grind (arith, nat_tests)

seq_le : (a b : TxnId) → id_lt b a ≡ false → a.sender.0 ≡ b.sender.0 → nat_lt a.seq b.seq ≡ false → same_id a b ≡ true
seq_le a b e f g = grind (arith, nat_tests)

stamp_between : (a b c : Stamp) → stamp_lt b a ≡ false → stamp_lt c b ≡ false → a ≡ c → a ≡ b
stamp_between a b c e f g = sym (same_stamps b a e (subst (λ z. stamp_lt z b ≡ false) (sym g) f))

-- ---- two neighbours

found_two : (test : LogRow → LogRow → Bool) (rows : List TopicRow) (a b : TopicRow) → In a rows → In b rows → test a.row b.row ≡ true → some_two test rows ≡ true
found_two test rows a b i j e =
    any_from (λ (x : TopicRow). list_any (λ (y : TopicRow). test x.row y.row) rows) a rows i
    (any_from (λ (y : TopicRow). test a.row y.row) b rows j e)

In-rows_of_refs : (rows : List (Bor TopicRow)) (k : ℕ) (d : Bor TopicRow) → k < length rows → In (get_or rows k d).now (rows_of_refs rows)
In-rows_of_refs rows k d l = In-map (λ (r : Bor TopicRow). r.now) (get_or rows k d) rows (In-get_or rows k d l)

not_twice : (b : Bool) → false ≡ not b → b ≡ true
not_twice true e = refl
not_twice false e = absurd (false≢true e)

some_row : (rows : List (Bor TopicRow)) (k : ℕ) → k < length rows → Bor TopicRow
some_row [] k l = absurd (omega arith)
some_row (r ∷ rows) k l = r

-- what a walk over neighbours answers, from what each answer says of all rows
answered : (test : LogRow → LogRow → Bool) (ask : TopicRow → TopicRow → Bool) (rows : List (Bor TopicRow)) (r : Bool) → IsAllAdjacentAnswer (λ x y b. b ≡ not (ask x.now y.now)) rows r
    → (((k : ℕ) (d : Bor TopicRow) → k + 1 < length rows → ask (get_or rows k d).now (get_or rows (k + 1) d).now ≡ false) → some_two test (rows_of_refs rows) ≡ false)
    → ((a b : TopicRow) → In a (rows_of_refs rows) → In b (rows_of_refs rows) → ask a b ≡ true → some_two test (rows_of_refs rows) ≡ true)
    → not r ≡ some_two test (rows_of_refs rows)
answered test ask rows true h clean found = sym (clean (λ k d l. not-true _ (sym (h k d l))))
answered test ask rows false h clean found =
    let d = some_row rows h.0 (omega arith) in
    sym (found (get_or rows h.0 d).now (get_or rows (h.0 + 1) d).now (In-rows_of_refs rows h.0 d (omega arith)) (In-rows_of_refs rows (h.0 + 1) d h.1) (not_twice _ (h.2 d)))

-- no two rows are so, where no two of a chain are
none_chained : (test : LogRow → LogRow → Bool) (R : TopicRow → TopicRow → Type 0) (others : List TopicRow) → Chained R others → ((a b : TopicRow) → In a others → In b others → R a b ⊎ (R b a ⊎ (a ≡ b)) → test a.row b.row ≡ false) → some_two test others ≡ false
none_chained test R others chain none =
    none_any (λ (x : TopicRow). list_any (λ (y : TopicRow). test x.row y.row) others) others
    (λ x i. none_any (λ (y : TopicRow). test x.row y.row) others
    (λ y j. none x y i j (chain_pair R others x y chain i j)))

-- ---- two verdicts

-- rows of one transaction that don't differ are equal
same_row : (a b : LogRow) → are_different a b ≡ false → same_id a.id b.id ≡ true → a ≡ b
same_row a b h e =
    let s = same_stamp a.stamp b.stamp in
    let t = pointwise (λ (t u : Topic). t.0 == u.0) a.topics b.topics in
    let p = and_parts s t (open_test (same_id a.id b.id) (s && t) h e) in
    rows_equal a b (id_equal a.id b.id e) (topics_equal a.topics b.topics p.1) (same_stamp_is a.stamp b.stamp p.0)

same_differ : (a b : LogRow) → (same_id a.id b.id ≡ true → a ≡ b) → are_different a b ≡ false
same_differ a b h = refuted (are_different a b) go
  where
    go : are_different a b ≡ true → Prim.⊥
    go e =
        let p = and_parts (same_id a.id b.id) (not (same_stamp a.stamp b.stamp && pointwise (λ (t u : Topic). t.0 == u.0) a.topics b.topics)) e in
        let k : (same_stamp a.stamp b.stamp && pointwise (λ (t u : Topic). t.0 == u.0) a.topics b.topics) ≡ true =
        subst (λ (z : LogRow). (same_stamp a.stamp z.stamp && pointwise (λ (t u : Topic). t.0 == u.0) a.topics z.topics) ≡ true) (h p.0)
        (and_from (same_stamp a.stamp a.stamp) _ (same_stamp_itself a.stamp) (topics_itself a.topics)) in
        true≢false (sym k ∙ not-true _ p.1)

abbrev Agrees : TopicRow → TopicRow → Type 0
Agrees x y = (id_lt y.row.id x.row.id ≡ false) × (same_id x.row.id y.row.id ≡ true → x.row ≡ y.row)

agrees_trans : (x y z : TopicRow) → Agrees x y → Agrees y z → Agrees x z
agrees_trans x y z p q = (
  id_le_trans x.row.id y.row.id z.row.id p.0 q.0,
  (λ e.
      let f = id_between x.row.id y.row.id z.row.id p.0 q.0 e in
      p.1 f ∙ q.1 (subst (λ (w : LogRow). same_id w.id z.row.id ≡ true) (p.1 f) e)),
)

-- in rows in order of id, two rows differ exactly where two neighbours do
pub verdicts_tested : (rows : List (Bor TopicRow)) (r : Bool) → IsOrderedById rows → IsAllAdjacentAnswer (λ x y b. b ≡ not (are_different x.now.row y.now.row)) rows r → not r ≡ some_two are_different (rows_of_refs rows)
verdicts_tested rows r up h =
    answered are_different (λ a b. are_different a.row b.row) rows r h
    (λ none. none_chained are_different Agrees (rows_of_refs rows)
    (chain_shown Agrees agrees_trans rows (λ k d l. (up k d (omega arith) l, same_row (get_or rows k d).now.row (get_or rows (k + 1) d).now.row (none k d l))))
    (λ a b i j c. same_differ a.row b.row (λ e. agreed a b c e)))
    (λ a b i j e. found_two are_different (rows_of_refs rows) a b i j e)
  where
    agreed : (a b : TopicRow) → Agrees a b ⊎ (Agrees b a ⊎ (a ≡ b)) → same_id a.row.id b.row.id ≡ true → a.row ≡ b.row
    agreed a b (inl p) e = p.1 e
    agreed a b (inr (inl p)) e = sym (p.1 (id_turned a.row.id b.row.id e))
    agreed a b (inr (inr p)) e = ap (λ (z : TopicRow). z.row) p

-- ---- one stamp

abbrev Apart : TopicRow → TopicRow → Type 0
Apart x y = (stamp_lt y.row.stamp x.row.stamp ≡ false) × (x.row.stamp ≡ y.row.stamp → x.row.id ≡ y.row.id)

apart_trans : (x y z : TopicRow) → Apart x y → Apart y z → Apart x z
apart_trans x y z p q = (
  le_trans x.row.stamp y.row.stamp z.row.stamp p.0 q.0,
  (λ e.
      let f = stamp_between x.row.stamp y.row.stamp z.row.stamp p.0 q.0 e in
      p.1 f ∙ q.1 (sym f ∙ e)),
)

-- in rows in order of stamp, two rows are colliding exactly where two neighbours do
pub stamps_tested : (rows : List (Bor TopicRow)) (r : Bool) → RisesByStamp rows → IsAllAdjacentAnswer (λ x y b. b ≡ not (are_colliding x.now.row y.now.row)) rows r → not r ≡ some_two are_colliding (rows_of_refs rows)
stamps_tested rows r up h =
    answered are_colliding (λ a b. are_colliding a.row b.row) rows r h
    (λ none. none_chained are_colliding Apart (rows_of_refs rows)
    (chain_shown Apart apart_trans rows (λ k d l. (up k d (omega arith) l, one (get_or rows k d).now.row (get_or rows (k + 1) d).now.row (none k d l))))
    (λ a b i j c. refuted (are_colliding a.row b.row) (never a b c)))
    (λ a b i j e. found_two are_colliding (rows_of_refs rows) a b i j e)
  where
    one : (a b : LogRow) → are_colliding a b ≡ false → a.stamp ≡ b.stamp → a.id ≡ b.id
    one a b e f = id_equal a.id b.id (both (same_id a.id b.id) (same_stamp a.stamp b.stamp) e (subst (λ z. same_stamp a.stamp z ≡ true) f (same_stamp_itself a.stamp)))
      where
        both : (s t : Bool) → (not s && t) ≡ false → t ≡ true → s ≡ true
        both true t e f = refl
        both false t e f = absurd (true≢false (sym f ∙ e))

    ids : (a b : TopicRow) → Apart a b ⊎ (Apart b a ⊎ (a ≡ b)) → a.row.stamp ≡ b.row.stamp → a.row.id ≡ b.row.id
    ids a b (inl p) e = p.1 e
    ids a b (inr (inl p)) e = sym (p.1 (sym e))
    ids a b (inr (inr p)) e = ap (λ (z : TopicRow). z.row.id) p

    never : (a b : TopicRow) → Apart a b ⊎ (Apart b a ⊎ (a ≡ b)) → are_colliding a.row b.row ≡ true → Prim.⊥
    never a b c e =
        let p = and_parts (not (same_id a.row.id b.row.id)) (same_stamp a.row.stamp b.row.stamp) e in
        true≢false (sym (id_same a.row.id b.row.id (ids a b c (same_stamp_is a.row.stamp b.row.stamp p.1))) ∙ not-true _ p.0)

-- ---- the order of each log

topic_between : (a b c : ℕ) → nat_lt b a ≡ false → nat_lt c b ≡ false → a ≡ c → a ≡ b
topic_between a b c e f g = grind (arith, nat_tests)

topic_le_trans : (a b c : ℕ) → nat_lt b a ≡ false → nat_lt c b ≡ false → nat_lt c a ≡ false
topic_le_trans a b c e f = grind (arith, nat_tests)

above_trans : (x y z : TopicRow) → Above x y → Above y z → Above x z
above_trans x y z p q = (
  topic_le_trans x.topic.0 y.topic.0 z.topic.0 p.0 q.0,
  (λ e.
      let f = topic_between x.topic.0 y.topic.0 z.topic.0 p.0 q.0 e in
      lt_trans x.row.stamp y.row.stamp z.row.stamp (p.1 f) (q.1 (sym f ∙ e))),
)

not_falls : (x y : TopicRow) → Above x y → are_falling x y ≡ false
not_falls x y a = refuted (are_falling x y) go
  where
    go : are_falling x y ≡ true → Prim.⊥
    go e =
        let p = and_parts (x.topic.0 == y.topic.0) (not (stamp_lt x.row.stamp y.row.stamp)) e in
        true≢false (sym (a.1 (eqb-true x.topic.0 y.topic.0 p.0)) ∙ not-true _ p.1)

chained_in_order : (others : List TopicRow) → Chained Above others → is_out_of_order others ≡ false
chained_in_order [] c = refl
chained_in_order (x ∷ xs) c =
    rw (none_any (λ (y : TopicRow). are_falling x y) xs (λ y i. not_falls x y (c.0 y i))) (chained_in_order xs c.1)

falls_at : (rows : List (Bor TopicRow)) (k : ℕ) (d : Bor TopicRow) → k + 1 < length rows → are_falling (get_or rows k d).now (get_or rows (k + 1) d).now ≡ true → is_out_of_order (rows_of_refs rows) ≡ true
falls_at [] k d l e = absurd (omega arith)
falls_at (x ∷ xs) zero d l e =
    or_left _ _ (any_from (λ (y : TopicRow). are_falling x.now y) (get_or xs 0 d).now (rows_of_refs xs) (In-rows_of_refs xs 0 d (omega arith)) e)
falls_at (x ∷ xs) (suc k) d l e =
    let f : suc k + 1 ≡ suc (k + 1) = omega arith in
    or_right _ _ (falls_at xs k d (omega arith) (subst (λ (n : ℕ). are_falling (get_or xs k d).now (get_or (x ∷ xs) n d).now ≡ true) f e))

-- rows in order of topic of which no two neighbours fall are chained, each later one above in its log
pub order_chained : (rows : List (Bor TopicRow)) → RisesByTopic rows → ((k : ℕ) (d : Bor TopicRow) → k + 1 < length rows → are_falling (get_or rows k d).now (get_or rows (k + 1) d).now ≡ false) → Chained Above (rows_of_refs rows)
order_chained rows up none =
    chain_shown Above above_trans rows (λ k d l. (
      up k d (omega arith) l,
      (λ e. open_test _ _ (none k d l) (eq-eqb _ _ e)),
    ))

-- in rows in order of topic, a log is out of order exactly where two neighbours fall
pub order_tested : (rows : List (Bor TopicRow)) (r : Bool) → RisesByTopic rows → IsAllAdjacentAnswer (λ x y b. b ≡ not (are_falling x.now y.now)) rows r → not r ≡ is_out_of_order (rows_of_refs rows)
order_tested rows true up h =
    sym (chained_in_order (rows_of_refs rows) (order_chained rows up (λ k d l. not-true _ (sym (h k d l)))))
order_tested rows false up h =
    let d = some_row rows h.0 (omega arith) in
    sym (falls_at rows h.0 d h.1 (not_twice _ (h.2 d)))

-- rows by topic whose logs are in order
pub chained_from_order : (rows : List (Bor TopicRow)) → RisesByTopic rows → is_out_of_order (rows_of_refs rows) ≡ false → Chained Above (rows_of_refs rows)
chained_from_order rows up e =
    order_chained rows up (λ k d l. refuted _ (λ f. true≢false (sym (falls_at rows k d l f) ∙ e)))

-- logs of the same rows by topic are out of order alike
pub same_order : (logs others : List TopicRow) → ((t : Topic) → filter (λ logged. logged.topic.0 == t.0) others ≡ filter (λ logged. logged.topic.0 == t.0) logs) → is_out_of_order others ≡ is_out_of_order logs
same_order logs others kept = go (is_out_of_order others) (is_out_of_order logs) refl refl
  where
    log_same : (t : Topic) → log_of t others ≡ log_of t logs
    log_same t = ap rows_of (kept t)

    go : (a b : Bool) → is_out_of_order others ≡ a → is_out_of_order logs ≡ b → is_out_of_order others ≡ is_out_of_order logs
    go true true e f = e ∙ sym f
    go false false e f = e ∙ sym f
    go true false e f = in_order others (λ t. subst (Rises row_stamp) (sym (log_same t)) (log_rises t logs f)) ∙ sym f
    go false true e f = e ∙ sym (in_order logs (λ t. subst (Rises row_stamp) (log_same t) (log_rises t others e)))

-- ---- the order of each sender

abbrev Follows : TopicRow → TopicRow → Type 0
Follows x y =
    (id_lt y.row.id x.row.id ≡ false) × (x.row.id.sender.0 ≡ y.row.id.sender.0 → stamp_lt y.row.stamp x.row.stamp ≡ false)

follows_trans : (x y z : TopicRow) → Follows x y → Follows y z → Follows x z
follows_trans x y z p q = (
  id_le_trans x.row.id y.row.id z.row.id p.0 q.0,
  (λ e.
      let f = sender_between x.row.id y.row.id z.row.id p.0 q.0 e in
      le_trans x.row.stamp y.row.stamp z.row.stamp (p.1 f) (q.1 (sym f ∙ e))),
)

still : (s l q : Bool) → (s && (l && not q)) ≡ false → s ≡ true → q ≡ false → l ≡ false
still true l q e f g = falsely l q e g
  where
    falsely : (l q : Bool) → (l && not q) ≡ false → q ≡ false → l ≡ false
    falsely false q e g = refl
    falsely true false e g = absurd (true≢false e)
    falsely true true e g = absurd (true≢false g)
still false l q e f g = absurd (false≢true f)

seq_not_below : (a b : TxnId) → id_lt b a ≡ false → a.sender.0 ≡ b.sender.0 → nat_lt b.seq a.seq ≡ false
seq_not_below a b e f = grind (arith, nat_tests)

follows_from : (x y : TopicRow) → id_lt y.row.id x.row.id ≡ false → are_disordered y.row x.row ≡ false → Follows x y
follows_from x y e f = (
  e,
  (λ g. still _ _ _ f (eq-eqb _ _ (sym g)) (seq_not_below x.row.id y.row.id e g)),
)

not_overtaken : (others : List TopicRow) (a b : TopicRow) → some_two are_different others ≡ false → In a others → In b others → Follows a b ⊎ (Follows b a ⊎ (a ≡ b)) → are_disordered a.row b.row ≡ true → Prim.⊥
not_overtaken others a b verdicts i j c e = go c
  where
    parts : (a.row.id.sender.0 == b.row.id.sender.0 ≡ true) × ((stamp_lt a.row.stamp b.row.stamp && not (nat_lt a.row.id.seq b.row.id.seq)) ≡ true)
    parts = and_parts (a.row.id.sender.0 == b.row.id.sender.0) (stamp_lt a.row.stamp b.row.stamp && not (nat_lt a.row.id.seq b.row.id.seq)) e

    more : (stamp_lt a.row.stamp b.row.stamp ≡ true) × (not (nat_lt a.row.id.seq b.row.id.seq) ≡ true)
    more = and_parts (stamp_lt a.row.stamp b.row.stamp) (not (nat_lt a.row.id.seq b.row.id.seq)) parts.1

    sender : a.row.id.sender.0 ≡ b.row.id.sender.0
    sender = eqb-true a.row.id.sender.0 b.row.id.sender.0 parts.0

    equal : a.row ≡ b.row → Prim.⊥
    equal f = true≢false (sym (subst (λ (z : LogRow). stamp_lt a.row.stamp z.stamp ≡ true) (sym f) more.0) ∙ lt_irrefl a.row.stamp)

    go : Follows a b ⊎ (Follows b a ⊎ (a ≡ b)) → Prim.⊥
    go (inl p) =
        equal (one_row others a.row b.row verdicts (In-map (λ (l : TopicRow). l.row) a others i) (In-map (λ (l : TopicRow). l.row) b others j)
        (seq_le a.row.id b.row.id p.0 sender (not-true _ more.1)))
    go (inr (inl p)) = true≢false (sym more.0 ∙ p.1 (sym sender))
    go (inr (inr p)) = equal (ap (λ (z : TopicRow). z.row) p)

-- in rows by id without two verdicts, a row overtakes another exactly where one overtakes its neighbour
pub senders_tested : (rows : List (Bor TopicRow)) (r : Bool) → IsOrderedById rows → some_two are_different (rows_of_refs rows) ≡ false → IsAllAdjacentAnswer (λ x y b. b ≡ not (are_disordered y.now.row x.now.row)) rows r → not r ≡ some_two are_disordered (rows_of_refs rows)
senders_tested rows r up verdicts h =
    answered are_disordered (λ a b. are_disordered b.row a.row) rows r h
    (λ none. none_chained are_disordered Follows (rows_of_refs rows)
    (chain_shown Follows follows_trans rows (λ k d l. follows_from (get_or rows k d).now (get_or rows (k + 1) d).now (up k d (omega arith) l) (none k d l)))
    (λ a b i j c. refuted (are_disordered a.row b.row) (not_overtaken (rows_of_refs rows) a b verdicts i j c)))
    (λ a b i j e. found_two are_disordered (rows_of_refs rows) b a j i e)
