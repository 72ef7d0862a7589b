-- What the trace of a run's topics has of a topic and of a subscription.
use Rattle.std.proofs.Common.{◌≡◌, ◌≢◌, ℕ, ◌==◌, ◌&&◌, not, Bool, true, false, inl, inr, List, [], ◌∷◌, ◌++◌, map, Some, refl, sym, ap, subst, ◌∙◌, append-nil, append_assoc}
use Rattle.std.specs.List.{filter, flat_map}
use Rattle.std.proofs.lemmas.Bool.{eq-eqb, ne_eqb, true≢false}
use Rattle.std.proofs.lemmas.Grind.{flat_map-append}
use Rattle.std.proofs.lemmas.List.Elements.{filter-append}
use Rattle.mcast_txn.specs.declared.id.Topic.{Topic}
use Rattle.mcast_txn.specs.Lists.{In}
use Rattle.mcast_txn.specs.Span.{LogRow, in_span, last_stamp, up_to, row_mark}
use Rattle.mcast_txn.specs.Stamp.{stamp_lt, zero_stamp}
use Rattle.mcast_txn.specs.TopicSet.{names}
use Rattle.mcast_txn.proofs.Members.{In-append_right, In-flat_map, In-map_cases, filter_all, filter_none, filter_same, filter_twice}
use Rattle.mcast_txn.proofs.Orders.{lt_le, zero_least}
use Rattle.mcast_txn.specs.declared.mark.Mark.{Mark}
use Rattle.trace_audit.specs.declared.row.SpanRow.{SpanRow}
use Rattle.trace_audit.specs.declared.row.QueueRow.{QueueRow}
use Rattle.trace_audit.specs.declared.row.TraceRow.{TraceRow}
use Rattle.trace_audit.specs.declared.row.TraceRow.TheVariants as row
use Rattle.trace_audit.specs.Explained.{rows_at}
use Rattle.trace_audit.specs.Logs.{TopicRow}
use Rattle.trace_audit.specs.Rows.{with_row}
use Rattle.trace_audit.specs.Trace.{TraceData, no_trace_data, rows_of, log_of, queue_mark, queue_of}
use Rattle.broker_locks.specs.TopicTraces.{SubTrace, TopicTrace, log_rows, sub_rows, topic_rows, with_rows, topics_trace, NoneTwice, is_due_to, ExplainedIsDue}

-- ---- lists

-- a list of lists that are made of items: none of another's number
none_of : {X Y : Type 0} (f : X → List Y) (number : X → ℕ) (key : Y → ℕ) → ((x : X) (y : Y) → In y (f x) → key y ≡ number x)
    → (n : ℕ) (xs : List X) → ((x : X) → In x xs → n ≢ number x) → filter (λ y. key y == n) (flat_map f xs) ≡ []
none_of f number key own n [] h = refl
none_of f number key own n (x ∷ xs) h =
    filter-append (λ y. key y == n) (f x) (flat_map f xs)
    ∙ (ap (λ ys. ys ++ filter (λ y. key y == n) (flat_map f xs)) (filter_none (λ y. key y == n) (f x) (λ y k. ne_eqb (key y) n (λ e. h x (inl refl) (sym e ∙ own x y k))))
    ∙ none_of f number key own n xs (λ y k. h y (inr k)))

-- where no number is there twice, what has an item's number is what was made of that item
pub made_of_item : {X Y : Type 0} (f : X → List Y) (number : X → ℕ) (key : Y → ℕ) → ((x : X) (y : Y) → In y (f x) → key y ≡ number x)
    → (x : X) (xs : List X) → In x xs → NoneTwice number xs → filter (λ y. key y == number x) (flat_map f xs) ≡ f x
made_of_item f number key own x [] h once = absurd h
made_of_item f number key own x (z ∷ xs) (inl e) once =
    let all : filter (λ y. key y == number x) (f z) ≡ f z = filter_all (λ y. key y == number x) (f z) (λ y k. eq-eqb (key y) (number x) (own z y k ∙ ap number e)) in
    let none : filter (λ y. key y == number x) (flat_map f xs) ≡ [] = none_of f number key own (number x) xs (λ w k same. once.0 w k (ap number e ∙ same)) in
    filter-append (λ y. key y == number x) (f z) (flat_map f xs)
    ∙ (ap (λ ys. filter (λ y. key y == number x) (f z) ++ ys) none ∙ (append-nil (filter (λ y. key y == number x) (f z)) ∙ (all ∙ ap f e)))
made_of_item f number key own x (z ∷ xs) (inr h) once =
    let none : filter (λ y. key y == number x) (f z) ≡ [] = filter_none (λ y. key y == number x) (f z) (λ y k. ne_eqb (key y) (number x) (λ same. once.0 x h (sym (own z y k) ∙ same))) in
    filter-append (λ y. key y == number x) (f z) (flat_map f xs)
    ∙ (ap (λ ys. ys ++ filter (λ y. key y == number x) (flat_map f xs)) none ∙ made_of_item f number key own x xs h once.1)

-- ---- the rows of each kind

-- of a row, what it adds to the logs, to the spans and to the queues
abbrev pub as_logged : TraceRow → List TopicRow
as_logged (row.Log logged) = logged ∷ []
as_logged (row.Span span) = []
as_logged (row.Queue queued) = []

abbrev pub as_span : TraceRow → List SpanRow
as_span (row.Log logged) = []
as_span (row.Span span) = span ∷ []
as_span (row.Queue queued) = []

abbrev pub as_queued : TraceRow → List QueueRow
as_queued (row.Log logged) = []
as_queued (row.Span span) = []
as_queued (row.Queue queued) = queued ∷ []

-- what rows add to a trace
pub rows_added : (rows : List TraceRow) (trace : TraceData) → with_rows rows trace ≡ record {
  logs = trace.logs ++ flat_map as_logged rows;
  spans = trace.spans ++ flat_map as_span rows;
  queues = trace.queues ++ flat_map as_queued rows;
}
rows_added [] trace =
    let a = append-nil trace.logs in
    let b = append-nil trace.spans in
    let c = append-nil trace.queues in rw (a, b, c) refl
rows_added (row.Log logged ∷ rows) trace =
    let a = append_assoc trace.logs (logged ∷ []) (flat_map as_logged rows) in
    rows_added rows (with_row (row.Log logged) trace) ∙ rw a refl
rows_added (row.Span span ∷ rows) trace =
    let a = append_assoc trace.spans (span ∷ []) (flat_map as_span rows) in
    rows_added rows (with_row (row.Span span) trace) ∙ rw a refl
rows_added (row.Queue queued ∷ rows) trace =
    let a = append_assoc trace.queues (queued ∷ []) (flat_map as_queued rows) in
    rows_added rows (with_row (row.Queue queued) trace) ∙ rw a refl

-- the log of a topic, each row with the topic
abbrev pub log_with_topic : TopicTrace → List TopicRow
log_with_topic x = map (λ r. record { topic = x.topic; row = r }) x.log

-- the span of a subscription
abbrev pub span_of : Topic → SubTrace → SpanRow
span_of t s = record { sub = s.number; topic = t; from = s.from; to = s.to }

-- the queue of a subscription, each row with its number
abbrev pub queue_with_number : SubTrace → List QueueRow
queue_with_number s = map (λ m. record { sub = s.number; id = m.id; stamp = m.stamp }) s.marks

-- what mapped rows of one kind add
logs_of_logs : (t : Topic) (log : List LogRow) → flat_map as_logged (log_rows t log) ≡ map (λ r. record { topic = t; row = r }) log
logs_of_logs t [] = refl
logs_of_logs t (r ∷ log) = ap (λ z. record { topic = t; row = r } ∷ z) (logs_of_logs t log)

queues_of_logs : (t : Topic) (log : List LogRow) → flat_map as_queued (log_rows t log) ≡ []
queues_of_logs t [] = refl
queues_of_logs t (r ∷ log) = queues_of_logs t log

logs_of_marks : (n : ℕ) (marks : List Mark) → flat_map as_logged (map (λ m. row.Queue (record { sub = n; id = m.id; stamp = m.stamp })) marks) ≡ []
logs_of_marks n [] = refl
logs_of_marks n (m ∷ marks) = logs_of_marks n marks

queues_of_marks : (n : ℕ) (marks : List Mark) → flat_map as_queued (map (λ m. row.Queue (record { sub = n; id = m.id; stamp = m.stamp })) marks)
    ≡ map (λ m. record { sub = n; id = m.id; stamp = m.stamp }) marks
queues_of_marks n [] = refl
queues_of_marks n (m ∷ marks) = ap (λ z. record { sub = n; id = m.id; stamp = m.stamp } ∷ z) (queues_of_marks n marks)

logs_of_subs : (t : Topic) (subs : List SubTrace) → flat_map as_logged (flat_map (sub_rows t) subs) ≡ []
logs_of_subs t [] = refl
logs_of_subs t (s ∷ subs) =
    flat_map-append as_logged (sub_rows t s) (flat_map (sub_rows t) subs)
    ∙ (ap (λ z. z ++ flat_map as_logged (flat_map (sub_rows t) subs)) (logs_of_marks s.number s.marks) ∙ logs_of_subs t subs)

queues_of_subs : (t : Topic) (subs : List SubTrace) → flat_map as_queued (flat_map (sub_rows t) subs) ≡ flat_map queue_with_number subs
queues_of_subs t [] = refl
queues_of_subs t (s ∷ subs) =
    flat_map-append as_queued (sub_rows t s) (flat_map (sub_rows t) subs)
    ∙ (ap (λ z. z ++ flat_map as_queued (flat_map (sub_rows t) subs)) (queues_of_marks s.number s.marks) ∙ ap (λ z. queue_with_number s ++ z) (queues_of_subs t subs))

-- the logs of a run's topics
pub logs_are : (topics : List TopicTrace) → flat_map as_logged (flat_map topic_rows topics) ≡ flat_map log_with_topic topics
logs_are [] = refl
logs_are (x ∷ topics) =
    flat_map-append as_logged (topic_rows x) (flat_map topic_rows topics)
    ∙ (ap (λ z. z ++ flat_map as_logged (flat_map topic_rows topics))
    (flat_map-append as_logged (log_rows x.topic x.log) (flat_map (sub_rows x.topic) x.subs)
    ∙ (ap (λ z. z ++ flat_map as_logged (flat_map (sub_rows x.topic) x.subs)) (logs_of_logs x.topic x.log)
    ∙ (ap (λ z. log_with_topic x ++ z) (logs_of_subs x.topic x.subs) ∙ append-nil (log_with_topic x))))
    ∙ ap (λ z. log_with_topic x ++ z) (logs_are topics))

-- the queues of a run's topics
pub queues_are : (topics : List TopicTrace) → flat_map as_queued (flat_map topic_rows topics) ≡ flat_map queue_with_number (flat_map (λ x. x.subs) topics)
queues_are [] = refl
queues_are (x ∷ topics) =
    flat_map-append as_queued (topic_rows x) (flat_map topic_rows topics)
    ∙ (ap (λ z. z ++ flat_map as_queued (flat_map topic_rows topics))
    (flat_map-append as_queued (log_rows x.topic x.log) (flat_map (sub_rows x.topic) x.subs)
    ∙ (ap (λ z. z ++ flat_map as_queued (flat_map (sub_rows x.topic) x.subs)) (queues_of_logs x.topic x.log) ∙ queues_of_subs x.topic x.subs))
    ∙ (ap (λ z. flat_map queue_with_number x.subs ++ z) (queues_are topics) ∙ sym (flat_map-append queue_with_number x.subs (flat_map (λ y. y.subs) topics))))

-- the span of a topic's subscription is among the spans
pub span_is_in : (topics : List TopicTrace) (x : TopicTrace) (s : SubTrace) → In x topics → In s x.subs → In (span_of x.topic s) (flat_map as_span (flat_map topic_rows topics))
span_is_in topics x s k h =
    let at_row : In (span_of x.topic s) (as_span (row.Span (span_of x.topic s))) = inl refl in
    let at_sub : In (row.Span (span_of x.topic s)) (sub_rows x.topic s) = inl refl in
    let at_topic : In (row.Span (span_of x.topic s)) (topic_rows x) = In-append_right _ (log_rows x.topic x.log) _ (In-flat_map (sub_rows x.topic) s _ x.subs h at_sub) in
    In-flat_map as_span (row.Span (span_of x.topic s)) (span_of x.topic s) (flat_map topic_rows topics) (In-flat_map topic_rows x _ topics k at_topic) at_row

-- ---- a topic, and a subscription

rows_back : (t : Topic) (log : List LogRow) → rows_of (map (λ r. record { topic = t; row = r }) log) ≡ log
rows_back t [] = refl
rows_back t (r ∷ log) = ap (λ z. r ∷ z) (rows_back t log)

marks_back : (n : ℕ) (marks : List Mark) → map queue_mark (map (λ m. record { sub = n; id = m.id; stamp = m.stamp }) marks) ≡ marks
marks_back n [] = refl
marks_back n (m ∷ marks) = ap (λ z. m ∷ z) (marks_back n marks)

topic_of_logged : (x : TopicTrace) (logged : TopicRow) → In logged (log_with_topic x) → logged.topic.0 ≡ x.topic.0
topic_of_logged x logged k = let m = In-map_cases _ logged x.log k in ap (λ (z : TopicRow). z.topic.0) (sym m.is)

number_of_queued : (s : SubTrace) (queued : QueueRow) → In queued (queue_with_number s) → queued.sub ≡ s.number
number_of_queued s queued k = let m = In-map_cases _ queued s.marks k in ap (λ (z : QueueRow). z.sub) (sym m.is)

-- a topic's log in the trace is its log
pub log_is : (topics : List TopicTrace) (x : TopicTrace) → In x topics → NoneTwice (λ x. x.topic.0) topics → log_of x.topic (topics_trace topics).logs ≡ x.log
log_is topics x k once =
    ap (λ (trace : TraceData). log_of x.topic trace.logs) (rows_added (flat_map topic_rows topics) no_trace_data)
    ∙ (ap (λ z. log_of x.topic z) (logs_are topics)
    ∙ (ap rows_of (made_of_item log_with_topic (λ (y : TopicTrace). y.topic.0) (λ (logged : TopicRow). logged.topic.0) topic_of_logged x topics k once) ∙ rows_back x.topic x.log))

-- a subscription's queue in the trace is its rows
pub queue_is : (topics : List TopicTrace) (s : SubTrace) → In s (flat_map (λ x. x.subs) topics) → NoneTwice (λ s. s.number) (flat_map (λ x. x.subs) topics) → queue_of s.number (topics_trace topics).queues ≡ s.marks
queue_is topics s k once =
    ap (λ (trace : TraceData). queue_of s.number trace.queues) (rows_added (flat_map topic_rows topics) no_trace_data)
    ∙ (ap (λ z. queue_of s.number z) (queues_are topics)
    ∙ (ap (λ z. map queue_mark z) (made_of_item queue_with_number (λ (y : SubTrace). y.number) (λ (queued : QueueRow). queued.sub) number_of_queued s (flat_map (λ x. x.subs) topics) k once) ∙ marks_back s.number s.marks))

-- ---- what is due

same_tests : (a b c d : Bool)
    → (a && b) && (c && d) ≡ a && ((c && d) && b)
same_tests true true true true = refl
same_tests true true true false = refl
same_tests true true false d = refl
same_tests true false true true = refl
same_tests true false true false = refl
same_tests true false false d = refl
same_tests false b c d = refl

mid_false : (a : Bool) → a && false ≡ false
mid_false true = refl
mid_false false = refl

-- nothing lies in a span and at most at zero
none_due : (t : Topic) (s : SubTrace) (r : LogRow) (a : Bool) → stamp_lt zero_stamp r.stamp ≡ a → is_due_to t zero_stamp s r ≡ false
none_due t s r true e = rw e (last_false (names t r.topics) (in_span s.from s.to r.stamp))
  where
    last_false : (a b : Bool) → a && (b && false) ≡ false
    last_false true true = refl
    last_false true false = refl
    last_false false b = refl
none_due t s r false e = go (stamp_lt s.from r.stamp) refl
  where
    go : (b : Bool) → stamp_lt s.from r.stamp ≡ b → is_due_to t zero_stamp s r ≡ false
    go true h = absurd (true≢false (sym (lt_le s.from r.stamp zero_stamp h e) ∙ zero_least s.from))
    go false h = rw h (mid_false (names t r.topics))

-- what of a log lies in a subscription's span is what is due to it
pub due_in_log : (t : Topic) (s : SubTrace) (log agreed : List LogRow) → (log ≢ [] → log ≡ rows_at t log agreed)
    → filter (λ r. in_span s.from s.to r.stamp) log ≡ filter (is_due_to t (last_stamp zero_stamp log) s) agreed
due_in_log t s [] agreed h = sym (filter_none (is_due_to t zero_stamp s) agreed (λ r k. none_due t s r (stamp_lt zero_stamp r.stamp) refl))
due_in_log t s (x ∷ log) agreed h =
    let end = last_stamp zero_stamp (x ∷ log) in
    ap (filter (λ r. in_span s.from s.to r.stamp)) (h (λ e. cc))
    ∙ (filter_twice (λ r. in_span s.from s.to r.stamp) (λ r. names t r.topics && up_to (Some end) r.stamp) agreed
    ∙ filter_same _ _ agreed (λ r k. same_tests (names t r.topics) (not (stamp_lt end r.stamp)) (stamp_lt s.from r.stamp) (up_to s.to r.stamp)))

-- Where a list explains the trace of a run's topics, what each source has pushed is what is due to its subscription.
pub explained_is_due : ExplainedIsDue
explained_is_due topics agreed run e x s k h =
    let log : log_of x.topic (topics_trace topics).logs ≡ x.log = log_is topics x k run.topics_differ in
    let queue : queue_of s.number (topics_trace topics).queues ≡ s.marks = queue_is topics s (In-flat_map (λ (y : TopicTrace). y.subs) x s topics k h) run.subs_differ in
    let spans : (topics_trace topics).spans ≡ flat_map as_span (flat_map topic_rows topics) = ap (λ (trace : TraceData). trace.spans) (rows_added (flat_map topic_rows topics) no_trace_data) in
    let there : In (span_of x.topic s) (topics_trace topics).spans = subst (λ z. In (span_of x.topic s) z) (sym spans) (span_is_in topics x s k h) in
    sym queue
    ∙ (e.queues (span_of x.topic s) there
    ∙ (ap (λ z. map row_mark (filter (λ r. in_span s.from s.to r.stamp) z)) log
    ∙ ap (map row_mark) (due_in_log x.topic s x.log agreed (λ some. subst (λ z. z ≡ rows_at x.topic z agreed) log (e.logs x.topic (λ none. some (sym log ∙ none)))))))
