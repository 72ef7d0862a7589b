-- What the trace of a report has of a topic and of a subscription.
use Rattle.delivery.proofs.Words.All.{◌≡◌, ℕ, suc, ◌+◌, ◌<◌, ◌==◌, inl, inr, List, [], ◌∷◌, map, length, get_or, refl, sym, ap, subst, ◌∙◌, arith, enumerate_from, eq-eqb, Topic, In, Item, LogRow, row_mark, SpanRow, QueueRow, TopicRow, rows_of, queue_of, In-map, In-map_cases, In-filter, In-filter_cases, QueueReport, Report, log_in, traced_log, traced_span, traced_queue, trace_of}
use Rattle.trace_audit.specs.Trace.{log_of, queue_mark}
use Rattle.delivery.proofs.Core.QueueOfReport.{no_queue, queue_in}
use Rattle.delivery.proofs.Traces.Lists.{made_at}

-- an item's id and stamp, as a row
abbrev pub item_row : Item → LogRow
item_row item = record { id = item.id; topics = []; stamp = item.stamp }

of_topic : (i : ℕ) (rows : List LogRow) (logged : TopicRow) → In logged (traced_log i rows) → logged.topic.0 ≡ i
of_topic i rows logged k =
    let m = In-map_cases _ logged rows k in ap (λ (z : TopicRow). z.topic.0) (sym m.is)

rows_back : (t : ℕ) (rows : List LogRow) → rows_of (traced_log t rows) ≡ rows
rows_back t [] = refl
rows_back t (row ∷ rows) = ap (λ z. row ∷ z) (rows_back t rows)

-- the log of a topic is the report's
pub log_is : (r : Report) (t : Topic) → log_of t (trace_of r).logs ≡ log_in r t
log_is r t =
    ap rows_of (made_at traced_log (λ (logged : TopicRow). logged.topic.0) of_topic 0 t.0 t.0 r.logs [] (omega arith) refl)
    ∙ rows_back t.0 (log_in r t)

-- a row of a log is in the log of a topic
pub row_in_log : (logs : List TopicRow) (row : LogRow) → In row (rows_of logs) → (t : Topic) × In row (log_of t logs)
row_in_log logs row k =
    let m = In-map_cases (λ (logged : TopicRow). logged.row) row logs k in (
      m.from.topic,
      subst (λ z. In z (log_of m.from.topic logs)) m.is
          (In-map (λ (logged : TopicRow). logged.row) m.from _ (In-filter (λ (logged : TopicRow). logged.topic.0 == m.from.topic.0) m.from logs m.stands (eq-eqb m.from.topic.0 m.from.topic.0 refl))),
    )

-- a row of a topic's log is a row of the logs
pub row_of_log : (t : Topic) (logs : List TopicRow) (row : LogRow) → In row (log_of t logs) → In row (rows_of logs)
row_of_log t logs row k =
    let m = In-map_cases (λ (logged : TopicRow). logged.row) row _ k in
    let n = In-filter_cases (λ (logged : TopicRow). logged.topic.0 == t.0) m.from logs m.stands in
    subst (λ z. In z (rows_of logs)) m.is (In-map (λ (logged : TopicRow). logged.row) m.from logs n.stands)

of_sub : (i : ℕ) (q : QueueReport) (queued : QueueRow) → In queued (traced_queue i q) → queued.sub ≡ i
of_sub i q queued k =
    let m = In-map_cases _ queued q.queued k in ap (λ (z : QueueRow). z.sub) (sym m.is)

marks_back : (s : ℕ) (items : List Item) (q : QueueReport) → q.queued ≡ items → map queue_mark (traced_queue s q) ≡ map (λ item. row_mark (item_row item)) items
marks_back s items q e = ap (λ z. map queue_mark (map (λ (item : Item). record { sub = s; id = item.id; stamp = item.stamp }) z)) e ∙ each items
  where
    each : (items : List Item) → map queue_mark (map (λ (item : Item). record { sub = s; id = item.id; stamp = item.stamp }) items) ≡ map (λ item. row_mark (item_row item)) items
    each [] = refl
    each (item ∷ items) = ap (λ z. row_mark (item_row item) ∷ z) (each items)

-- the queue of a subscription is what the report's accepted
pub queue_is : (r : Report) (s : ℕ) → queue_of s (trace_of r).queues ≡ map (λ item. row_mark (item_row item)) (queue_in r s).queued
queue_is r s =
    ap (map queue_mark) (made_at traced_queue (λ (queued : QueueRow). queued.sub) of_sub 0 s s r.subscriptions no_queue (omega arith) refl)
    ∙ marks_back s (queue_in r s).queued (queue_in r s) refl

-- of a span: its subscription is reported, and it is that one's
pub record Spanned (r : Report) (span : SpanRow) : Type 0 where
  pub within : span.sub < length r.subscriptions
  pub is : span ≡ traced_span span.sub (queue_in r span.sub)

spanned_from : (i : ℕ) (qs : List QueueReport) (span : SpanRow) → In span (map (λ p. traced_span p.0 p.1) (enumerate_from i qs))
    → (j : ℕ) × (j < length qs) × (span ≡ traced_span (i + j) (get_or qs j no_queue))
spanned_from i [] span k = absurd k
spanned_from i (q ∷ qs) span (inl e) = (0, omega arith, sym e ∙ ap (λ n. traced_span n q) (omega arith))
spanned_from i (q ∷ qs) span (inr k) =
    let h = spanned_from (i + 1) qs span k in
    (suc h.0, omega (arith, h.1), h.2 ∙ ap (λ n. traced_span n (get_or qs h.0 no_queue)) (omega arith))

-- each span is that of a reported subscription
pub spanned : (r : Report) (span : SpanRow) → In span (trace_of r).spans → Spanned r span
spanned r span k =
    let h = spanned_from 0 r.subscriptions span k in
    let number : span.sub ≡ h.0 = ap (λ (z : SpanRow). z.sub) h.2 ∙ omega arith in
    record {
      within = subst (λ n. n < length r.subscriptions) (sym number) h.1;
      is = h.2 ∙ (ap (λ n. traced_span n (queue_in r h.0)) (omega arith) ∙ ap (λ n. traced_span n (queue_in r n)) (sym number));
    }
