-- What is delivered explains its trace.
use Rattle.delivery.proofs.Words.All.{◌≡◌, ◌≢◌, ℕ, ◌<◌, ◌&&◌, Bool, true, false, not, ◌⊎◌, inl, inr, List, [], ◌∷◌, map, take, length, Option, Some, refl, sym, ap, subst, ◌∙◌, list_any, and_parts, true≢false, filter, Topic, Stamp, CommitRow, committed_id, stamp_of, agreed, same_id, In, LogRow, row_id, row_stamp, in_span, last_stamp, up_to, row_mark, stamp_lt, zero_stamp, names, topics_of, IsExplainedBy, IsCompleteBy, TopicRow, rows_of, queue_of, In-map, In-map_cases, In-filter, In-filter_cases, filter_same, filter_none, filter_twice, any_found, any_from, In-take, id_equal, id_itself, le_lt, zero_least, In-sorted_cases, Rises-filter, log_row, item_at, is_due, Answer, commits_of, released_at, DeliversAnswers, Report, log_in, traced_span, trace_of, AllSettled}
use Rattle.trace_audit.specs.Explained.{rows_at}
use Rattle.trace_audit.specs.Trace.{marks_in}
use Rattle.delivery.proofs.Core.QueueOfReport.{queue_in, queue_there}
use Rattle.delivery.proofs.Traces.Lists.{filter_mapped}
use Rattle.delivery.proofs.Traces.TracedRows.{item_row, log_is, row_in_log, row_of_log, queue_is, spanned}
use Rattle.delivery.proofs.Traces.Sequence.{agreed_rises, one_of_id, order_filtered, order_logged, taken_up_to}

-- the agreed sequence, as rows of logs
abbrev pub sequence : List Answer → List LogRow
sequence account = map log_row (agreed (commits_of account))

-- the row names t
abbrev pub at_topic : Topic → LogRow → Bool
at_topic t row = names t row.topics

-- the transaction has a row in a log
abbrev in_logs : List TopicRow → LogRow → Bool
in_logs logs row = list_any (λ (logged : TopicRow). same_id logged.row.id row.id) logs

-- the rows of the agreed sequence that are in some log
abbrev pub logged_rows : List Answer → Report → List LogRow
logged_rows account r = filter (in_logs (trace_of r).logs) (sequence account)

-- ---- of a log

-- a log is the first rows of the agreed sequence that name its topic
pub record Fronted (account : List Answer) (t : Topic) (log : List LogRow) : Type 0 where
  pub count : ℕ
  pub is : log ≡ take count (filter (at_topic t) (sequence account))

-- so is each log of a report that is delivered
pub fronted : {capacity : ℕ} (account : List Answer) (r : Report) → DeliversAnswers capacity account r → (t : Topic) → Fronted account t (log_in r t)
fronted account r d t = record {
  count = released_at t account;
  is = d.logs t ∙ ap (take (released_at t account)) (sym (filter_mapped (at_topic t) log_row (agreed (commits_of account))));
}

-- a row of a log is one of the agreed sequence
in_sequence : {capacity : ℕ} (account : List Answer) (r : Report) → DeliversAnswers capacity account r → (row : LogRow) → In row (rows_of (trace_of r).logs) → In row (sequence account)
in_sequence account r d row k =
    let h = row_in_log (trace_of r).logs row k in let f = fronted account r d h.0 in let taken = subst (λ z. In row z) (log_is r h.0 ∙ f.is) h.1 in
    (In-filter_cases (at_topic h.0) row (sequence account) (In-take row f.count (filter (at_topic h.0) (sequence account)) taken)).stands

-- a log that isn't empty is the agreed sequence restricted to its topic, up to its last stamp
cut : {capacity : ℕ} (account : List Answer) (r : Report) (d : DeliversAnswers capacity account r) (t : Topic) → log_in r t ≢ [] → log_in r t ≡ rows_at t (log_in r t) (sequence account)
cut account r d t some =
    let f = fronted account r d t in let named = filter (at_topic t) (sequence account) in
    let rises = Rises-filter row_stamp (at_topic t) (sequence account) (agreed_rises (commits_of account) d.each_once) in
    let there : take f.count named ≢ [] = λ none. some (f.is ∙ none) in
    sym (sym (filter_twice (λ (row : LogRow). up_to (Some (last_stamp zero_stamp (log_in r t))) row.stamp) (at_topic t) (sequence account))
    ∙ (ap (λ z. filter (λ (row : LogRow). up_to (Some (last_stamp zero_stamp z)) row.stamp) named) f.is
    ∙ (taken_up_to f.count named rises there ∙ sym f.is)))

-- ---- of the rows that are in some log

-- a row of the agreed sequence whose transaction is in a log is in it itself
logged_itself : {capacity : ℕ} (account : List Answer) (r : Report) (d : DeliversAnswers capacity account r) (row : LogRow) → In row (sequence account)
    → in_logs (trace_of r).logs row ≡ true → In row (rows_of (trace_of r).logs)
logged_itself account r d row k e =
    let f = any_found (λ (logged : TopicRow). same_id logged.row.id row.id) (trace_of r).logs e in
    let there = In-map (λ (logged : TopicRow). logged.row) f.it (trace_of r).logs f.stands in
    let a = In-map_cases log_row f.it.row (agreed (commits_of account)) (in_sequence account r d f.it.row there) in
    let b = In-map_cases log_row row (agreed (commits_of account)) k in let ids = ap row_id a.is ∙ (id_equal f.it.row.id row.id f.passes ∙ sym (ap row_id b.is)) in
    let same = one_of_id committed_id stamp_of (agreed (commits_of account)) a.from b.from d.each_once a.stands b.stands ids in
    subst (λ z. In z (rows_of (trace_of r).logs)) (sym a.is ∙ (ap log_row same ∙ b.is)) there

-- a row of a log passes
logged_passes : (logs : List TopicRow) (row : LogRow) → In row (rows_of logs) → in_logs logs row ≡ true
logged_passes logs row k =
    let m = In-map_cases (λ (logged : TopicRow). logged.row) row logs k in
    any_from (λ (logged : TopicRow). same_id logged.row.id row.id) m.from logs m.stands
    (subst (λ (z : LogRow). same_id m.from.row.id z.id ≡ true) m.is (id_itself m.from.row.id))

both_same : (a b : Bool) → (b ≡ true → a ≡ true) → b ≡ (a && b)
both_same true b h = refl
both_same false true h = absurd (true≢false (sym (h refl)))
both_same false false h = refl

-- a log that isn't empty is these rows restricted to its topic, up to its last stamp
kept_cut : {capacity : ℕ} (account : List Answer) (r : Report) (d : DeliversAnswers capacity account r) (t : Topic) → log_in r t ≢ [] → log_in r t ≡ rows_at t (log_in r t) (logged_rows account r)
kept_cut account r d t some =
    let logs = (trace_of r).logs in let test = λ (row : LogRow). names t row.topics && up_to (Some (last_stamp zero_stamp (log_in r t))) row.stamp in
    cut account r d t some
    ∙ (filter_same test (λ row. in_logs logs row && test row) (sequence account)
    (λ row k. both_same (in_logs logs row) (test row)
    (λ e. logged_passes logs row (row_of_log t logs row (subst (λ z. In row z) (sym (log_is r t)) (subst (λ z. In row z) (sym (cut account r d t some)) (In-filter test row (sequence account) k e))))))
    ∙ sym (filter_twice test (in_logs logs) (sequence account)))

-- ---- of a queue

and_swapped : (a b c : Bool) → ((a && b) && c) ≡ ((a && c) && b)
and_swapped true true true = refl
and_swapped true true false = refl
and_swapped true false true = refl
and_swapped true false false = refl
and_swapped false b c = refl

-- the row is due to a subscription of this topic and span
abbrev due_row : Topic → Stamp → Option Stamp → Stamp → LogRow → Bool
due_row t from to frontier row = names t row.topics && in_span from to row.stamp && not (stamp_lt frontier row.stamp)

-- nothing is due up to the zero stamp
none_due : (t : Topic) (from : Stamp) (to : Option Stamp) (row : LogRow) → due_row t from to zero_stamp row ≡ false
none_due t from to row = by_test (due_row t from to zero_stamp row) refl
  where
    by_test : (b : Bool) → due_row t from to zero_stamp row ≡ b → due_row t from to zero_stamp row ≡ false
    by_test false e = e
    by_test true e =
        let a = and_parts (names t row.topics && in_span from to row.stamp) (not (stamp_lt zero_stamp row.stamp)) e in
        let b = and_parts (names t row.topics) (in_span from to row.stamp) a.0 in let c = and_parts (stamp_lt from row.stamp) (up_to to row.stamp) b.1 in
        absurd (true≢false (sym a.1 ∙ ap not (le_lt zero_stamp from row.stamp (zero_least from) c.0)))

empty_or_not : (rows : List LogRow) → (rows ≡ []) ⊎ (rows ≢ [])
empty_or_not [] = inl refl
empty_or_not (row ∷ rows) = inr (λ none. cons_none row rows none)
  where
    cons_none : (row : LogRow) (rows : List LogRow) → row ∷ rows ≡ [] → Prim.⊥
    cons_none row rows e = cc

-- the rows that are due are those of the log that lie in the span
due_logged : {capacity : ℕ} (account : List Answer) (r : Report) (d : DeliversAnswers capacity account r) (t : Topic) (from : Stamp) (to : Option Stamp)
    → filter (due_row t from to (last_stamp zero_stamp (log_in r t))) (sequence account) ≡ filter (λ (row : LogRow). in_span from to row.stamp) (log_in r t)
due_logged account r d t from to = elim (empty_or_not (log_in r t)) [
  | inl none ↦ ap (λ (z : List LogRow). filter (due_row t from to (last_stamp zero_stamp z)) (sequence account)) none
      ∙ (filter_none (due_row t from to zero_stamp) (sequence account) (λ row k. none_due t from to row)
      ∙ sym (ap (filter (λ (row : LogRow). in_span from to row.stamp)) none))
  | inr some ↦
      let last = last_stamp zero_stamp (log_in r t) in let test = λ (row : LogRow). names t row.topics && up_to (Some last) row.stamp in
      filter_same (due_row t from to last) (λ row. test row && in_span from to row.stamp) (sequence account)
      (λ row k. and_swapped (names t row.topics) (in_span from to row.stamp) (not (stamp_lt last row.stamp)))
      ∙ (sym (filter_twice (λ (row : LogRow). in_span from to row.stamp) test (sequence account))
      ∙ sym (ap (filter (λ (row : LogRow). in_span from to row.stamp)) (cut account r d t some)))
]

marks_twice : (t : Topic) (rows : List CommitRow) → map (λ item. row_mark (item_row item)) (map (item_at t) rows) ≡ map row_mark (map log_row rows)
marks_twice t [] = refl
marks_twice t (row ∷ rows) = ap (λ z. row_mark (log_row row) ∷ z) (marks_twice t rows)

-- what a queue accepted are the rows of its topic's log that lie in its span
queue_cut : {capacity : ℕ} (account : List Answer) (r : Report) (d : DeliversAnswers capacity account r) (s : ℕ) → s < length r.subscriptions
    → queue_of s (trace_of r).queues ≡ marks_in (traced_span s (queue_in r s)) (trace_of r).logs
queue_cut account r d s l =
    let q = queue_in r s in let last = last_stamp zero_stamp (log_in r q.span.topic) in
    queue_is r s
    ∙ (ap (map (λ item. row_mark (item_row item))) ((d.queues s q (queue_there r s l)).exactly_due)
    ∙ (marks_twice q.span.topic (filter (is_due q.span last) (agreed (commits_of account)))
    ∙ (ap (map row_mark) (sym (filter_mapped (due_row q.span.topic q.span.from q.span.to last) log_row (agreed (commits_of account))))
    ∙ (ap (map row_mark) (due_logged account r d q.span.topic q.span.from q.span.to)
    ∙ ap (λ z. map row_mark (filter (λ (row : LogRow). in_span q.span.from q.span.to row.stamp) z)) (sym (log_is r q.span.topic))))))

-- ---- all together

-- the rows of the agreed sequence that are in some log explain the trace
pub explained : {capacity : ℕ} (account : List Answer) (r : Report) → DeliversAnswers capacity account r → IsExplainedBy (logged_rows account r) (trace_of r)
explained account r d = record {
  rises = Rises-filter row_stamp (in_logs logs) (sequence account) (agreed_rises (commits_of account) d.each_once);
  of_logs = λ row k. (let m = In-filter_cases (in_logs logs) row (sequence account) k in logged_itself account r d row m.stands m.passes);
  all = λ row k. In-filter (in_logs logs) row (sequence account) (in_sequence account r d row k) (logged_passes logs row k);
  senders = order_filtered row_id (in_logs logs) (sequence account) (order_logged (agreed (commits_of account)) d.fifo_order);
  logs = λ t some. subst (λ z. z ≡ rows_at t z (logged_rows account r)) (sym (log_is r t)) (kept_cut account r d t (λ none. some (log_is r t ∙ none)));
  queues = λ span k. (let h = spanned r span k in
      queue_cut account r d span.sub h.within ∙ ap (λ z. marks_in z logs) (sym h.is));
}
  where
    logs : List TopicRow
    logs = (trace_of r).logs

-- where commits name topics of the report alone, and each is settled, the trace is complete
pub complete : {capacity : ℕ} (account : List Answer) (r : Report) → DeliversAnswers capacity account r
    → ((row : CommitRow) (t : Topic) → In row (commits_of account) → names t (topics_of row.txn.sends) ≡ true → t.0 < length r.logs)
    → AllSettled (length r.logs) account → IsCompleteBy (logged_rows account r) (trace_of r)
complete account r d known settled row t k named =
    let m = In-map_cases log_row row (agreed (commits_of account)) (In-filter_cases (in_logs (trace_of r).logs) row (sequence account) k).stands in
    let there = In-sorted_cases stamp_of m.from (commits_of account) m.stands in let names_it = subst (λ (z : LogRow). names t z.topics ≡ true) (sym m.is) named in
    let l = known m.from t there names_it in subst (λ z. In row z) (sym (log_is r t)) (subst (λ z. In z (log_in r t)) m.is (d.validity t m.from (settled t l) there names_it))
