-- A trace as it grows: by a row of a log, an item of a queue, a topic and a subscription.
use Rattle.delivery.proofs.Words.All.{◌≡◌, ℕ, zero, suc, ◌+◌, ◌<◌, ◌≤◌, ◌==◌, ◌||◌, Bool, true, false, List, [], ◌∷◌, ◌++◌, map, take, length, get_or, Some, refl, sym, ap, subst, ◌∙◌, append_assoc, append-nil, arith, slice_get, list_all, flat_map, enumerate_from, option_map, and_parts, eq-eqb, nat_tests, map-append, take_more, slice_get-get_or, get_or_from_slice_get, Topic, Item, LogRow, GroupState, QueueRow, SpanRow, TopicRow, TraceData, fits, has_span, QueueReport, traced_log, traced_span, traced_queue}
use Rattle.std.proofs.lemmas.Grind.{flat_map-append}
use Rattle.std.proofs.lemmas.List.{length-take-le}
use Rattle.std.proofs.lemmas.List.Folds.{list_all-append}
use Rattle.std.proofs.lemmas.Option.{slice_get_within, slice_get-map}
use Rattle.delivery.proofs.Traces.Lists.{made_of}

-- an item as a row of a subscription's queue
abbrev pub queue_row : ℕ → Item → QueueRow
queue_row s item = record { sub = s; id = item.id; stamp = item.stamp }

-- the spans of subscriptions, where the first has number i
abbrev pub spans_from : ℕ → List QueueReport → List SpanRow
spans_from i qs = map (λ p. traced_span p.0 p.1) (enumerate_from i qs)

-- ---- lists

-- one more is taken
pub taken_one : {X : Type 0} (xs : List X) (n : ℕ) (x : X) → slice_get xs n ≡ Some x → take (n + 1) xs ≡ take n xs ++ x ∷ []
taken_one xs n x is =
    take_more xs n x (slice_get_within xs n x is)
    ∙ ap (λ y. take n xs ++ y ∷ []) (get_or_from_slice_get xs n x x is)

-- what f makes of one more
pub map_one : {X Y : Type 0} (f : X → Y) (xs : List X) (n : ℕ) (x : X) → slice_get xs n ≡ Some x → map f (take (n + 1) xs) ≡ map f (take n xs) ++ f x ∷ []
map_one f xs n x is = ap (map f) (taken_one xs n x is) ∙ map-append f (take n xs) (x ∷ [])

-- the last of a list has the last number
pub number_last : {X : Type 0} (i : ℕ) (xs : List X) (x : X) → enumerate_from i (xs ++ x ∷ []) ≡ enumerate_from i xs ++ (i + length xs, x) ∷ []
number_last i [] x = ap (λ n. (n, x) ∷ []) (omega arith)
number_last i (y ∷ xs) x =
    let many : i + 1 + length xs ≡ i + length (y ∷ xs) = omega arith in ap (λ z. (i, y) ∷ z) (number_last (i + 1) xs x ∙ ap (λ n. enumerate_from (i + 1) xs ++ (n, x) ∷ []) many)

-- the number of one more
pub number_one : {X : Type 0} (xs : List X) (n : ℕ) (x : X) → slice_get xs n ≡ Some x → enumerate_from 0 (take (n + 1) xs) ≡ enumerate_from 0 (take n xs) ++ (n, x) ∷ []
number_one xs n x is =
    let there = slice_get_within xs n x is in let long = length-take-le n xs (omega (arith, there)) in let many : 0 + length (take n xs) ≡ n = omega (arith, long) in
    ap (enumerate_from 0) (taken_one xs n x is)
    ∙ (number_last 0 (take n xs) x ∙ ap (λ m. enumerate_from 0 (take n xs) ++ (m, x) ∷ []) many)

-- what is made of one more
pub made_one : {X Y : Type 0} (f : ℕ → X → List Y) (xs : List X) (n : ℕ) (x : X) → slice_get xs n ≡ Some x → made_of f 0 (take (n + 1) xs) ≡ made_of f 0 (take n xs) ++ f n x
made_one {X} f xs n x is =
    ap (flat_map (λ (p : ℕ × X). f p.0 p.1)) (number_one xs n x is)
    ∙ (flat_map-append (λ (p : ℕ × X). f p.0 p.1) (enumerate_from 0 (take n xs)) ((n, x) ∷ [])
    ∙ ap (λ z. made_of f 0 (take n xs) ++ z) (append-nil (f n x)))

-- where all pass, so does each
pub passes_at : {X : Type 0} (p : X → Bool) (xs : List X) (n : ℕ) (x : X) → list_all p xs ≡ true → slice_get xs n ≡ Some x → p x ≡ true
passes_at p [] n x all is = absurd cc
passes_at p (y ∷ xs) zero x all is = let same : y ≡ x = cc in subst (λ z. p z ≡ true) same (and_parts (p y) (list_all p xs) all).0
passes_at p (y ∷ xs) (suc n) x all is = passes_at p xs n x (and_parts (p y) (list_all p xs) all).1 is

-- where all that is made passes, so does what is made of each
pub passes_made : {X Y : Type 0} (p : Y → Bool) (f : ℕ → X → List Y) (i : ℕ) (xs : List X) (n : ℕ) (x : X) → list_all p (made_of f i xs) ≡ true
    → slice_get xs n ≡ Some x → list_all p (f (i + n) x) ≡ true
passes_made p f i [] n x all is = absurd cc
passes_made p f i (y ∷ xs) zero x all is =
    let same : y ≡ x = cc in let parts = and_parts (list_all p (f i y)) (list_all p (made_of f (i + 1) xs)) (sym (list_all-append p (f i y) (made_of f (i + 1) xs)) ∙ all) in
    let first : i ≡ i + 0 = omega arith in subst (λ m. list_all p (f m x) ≡ true) first (subst (λ z. list_all p (f i z) ≡ true) same parts.0)
passes_made p f i (y ∷ xs) (suc n) x all is =
    let parts = and_parts (list_all p (f i y)) (list_all p (made_of f (i + 1) xs)) (sym (list_all-append p (f i y) (made_of f (i + 1) xs)) ∙ all) in
    let later : i + 1 + n ≡ i + suc n = omega arith in subst (λ m. list_all p (f m x) ≡ true) later (passes_made p f (i + 1) xs n x parts.1 is)

-- where a topic's log fits, so does each row of it
pub logged_fits : (t : Topic) (rows : List LogRow) (n : ℕ) (row : LogRow) → list_all (λ (logged : TopicRow). fits logged) (traced_log t.0 rows) ≡ true
    → slice_get rows n ≡ Some row → fits (record { topic = t; row = row }) ≡ true
logged_fits t rows n row all is =
    let logged : LogRow → TopicRow = λ r. record { topic = t; row = r } in
    passes_at (λ (z : TopicRow). fits z) (traced_log t.0 rows) n (logged row) all (slice_get-map logged rows n ∙ ap (option_map logged) is)

-- ---- traces

-- the trace with more rows of logs
abbrev pub with_logs : TraceData → List TopicRow → TraceData
with_logs old rows = record old { logs = old.logs ++ rows }

-- a topic's log grows by a row
pub log_grows : (old mid new : TraceData) (t : Topic) (rows : List LogRow) (n : ℕ) (row : LogRow) (logged : TopicRow) → slice_get rows n ≡ Some row
    → mid ≡ with_logs old (traced_log t.0 (take n rows)) → logged ≡ record { topic = t; row = row } → new ≡ with_logs mid (logged ∷ [])
    → new ≡ with_logs old (traced_log t.0 (take (n + 1) rows))
log_grows old mid new t rows n row logged is so_far made grown =
    let whole : traced_log t.0 (take (n + 1) rows) ≡ traced_log t.0 (take n rows) ++ record { topic = t; row = row } ∷ [] = map_one _ rows n row is in
    grown
    ∙ (ap (λ (z : TopicRow). with_logs mid (z ∷ [])) made
    ∙ (ap (λ (z : TraceData). with_logs z (record { topic = t; row = row } ∷ [])) so_far
    ∙ ap (λ (z : List TopicRow). record old { logs = z }) (append_assoc old.logs (traced_log t.0 (take n rows)) (record { topic = t; row = row } ∷ [])
    ∙ ap (λ z. old.logs ++ z) (sym whole))))

-- the logs grow by a topic's
pub logs_grow : (old mid new : TraceData) (logs : List (List LogRow)) (n : ℕ) (rows : List LogRow) → slice_get logs n ≡ Some rows
    → mid ≡ with_logs old (made_of traced_log 0 (take n logs)) → new ≡ with_logs mid (traced_log n rows) → new ≡ with_logs old (made_of traced_log 0 (take (n + 1) logs))
logs_grow old mid new logs n rows is so_far grown =
    grown
    ∙ (ap (λ (z : TraceData). with_logs z (traced_log n rows)) so_far
    ∙ ap (λ (z : List TopicRow). record old { logs = z }) (append_assoc old.logs (made_of traced_log 0 (take n logs)) (traced_log n rows)
    ∙ ap (λ z. old.logs ++ z) (sym (made_one traced_log logs n rows is))))

-- the trace with more rows of queues
abbrev pub with_queues : TraceData → List QueueRow → TraceData
with_queues old rows = record old { queues = old.queues ++ rows }

-- a subscription's queue grows by an item
pub queue_grows : (old mid new : TraceData) (s : ℕ) (items : List Item) (n : ℕ) (item : Item) (queued : QueueRow) → slice_get items n ≡ Some item
    → mid ≡ with_queues old (map (queue_row s) (take n items)) → queued ≡ queue_row s item → new ≡ with_queues mid (queued ∷ [])
    → new ≡ with_queues old (map (queue_row s) (take (n + 1) items))
queue_grows old mid new s items n item queued is so_far made grown =
    grown
    ∙ (ap (λ (z : QueueRow). with_queues mid (z ∷ [])) made
    ∙ (ap (λ (z : TraceData). with_queues z (queue_row s item ∷ [])) so_far
    ∙ ap (λ (z : List QueueRow). record old { queues = z }) (append_assoc old.queues (map (queue_row s) (take n items)) (queue_row s item ∷ [])
    ∙ ap (λ z. old.queues ++ z) (sym (map_one (queue_row s) items n item is)))))

-- the trace with more spans and rows of queues
abbrev pub with_subs : TraceData → List SpanRow → List QueueRow → TraceData
with_subs old spans rows = record old { spans = spans; queues = old.queues ++ rows }

-- the trace grows by a subscription
pub subs_grow : (old mid new : TraceData) (qs : List QueueReport) (n : ℕ) (q : QueueReport) → slice_get qs n ≡ Some q
    → mid ≡ with_subs old (spans_from 0 (take n qs)) (made_of traced_queue 0 (take n qs))
    → new ≡ record mid { spans = mid.spans ++ traced_span n q ∷ []; queues = mid.queues ++ traced_queue n q }
    → new ≡ with_subs old (spans_from 0 (take (n + 1) qs)) (made_of traced_queue 0 (take (n + 1) qs))
subs_grow old mid new qs n q is so_far grown =
    let spans : spans_from 0 (take (n + 1) qs) ≡ spans_from 0 (take n qs) ++ traced_span n q ∷ [] =
    ap (map (λ (p : ℕ × QueueReport). traced_span p.0 p.1)) (number_one qs n q is)
    ∙ map-append (λ (p : ℕ × QueueReport). traced_span p.0 p.1) (enumerate_from 0 (take n qs)) ((n, q) ∷ []) in
    let rows : old.queues ++ made_of traced_queue 0 (take (n + 1) qs) ≡ (old.queues ++ made_of traced_queue 0 (take n qs)) ++ traced_queue n q =
    ap (λ z. old.queues ++ z) (made_one traced_queue qs n q is)
    ∙ sym (append_assoc old.queues (made_of traced_queue 0 (take n qs)) (traced_queue n q)) in
    grown
    ∙ (ap (λ (z : TraceData). record z { spans = z.spans ++ traced_span n q ∷ []; queues = z.queues ++ traced_queue n q }) so_far
    ∙ λ i. record old { spans = sym spans i; queues = sym rows i })

-- ---- spans

no_span : (i n : ℕ) (qs : List QueueReport) → i + length qs ≤ n → has_span n (spans_from i qs) ≡ false
no_span i n [] l = refl
no_span i n (q ∷ qs) l =
    let other : (i == n) ≡ false = grind (arith, nat_tests) in ap (λ b. b || has_span n (spans_from (i + 1) qs)) other ∙ no_span (i + 1) n qs (omega (arith, l))

-- the next subscription has no span
pub next_has_none : (n : ℕ) (qs : List QueueReport) → n < length qs → has_span n (spans_from 0 (take n qs)) ≡ false
next_has_none n qs l = let many : length (take n qs) ≡ n = length-take-le n qs (omega (arith, l)) in no_span 0 n (take n qs) (omega (arith, many))

-- a span that was added is there
pub added_has_span : (n : ℕ) (spans : List SpanRow) (span : SpanRow) → span.sub ≡ n → has_span n (spans ++ span ∷ []) ≡ true
added_has_span n [] span e = ap (λ b. b || false) (eq-eqb span.sub n e)
added_has_span n (x ∷ spans) span e = by_first (x.sub == n) (added_has_span n spans span e)
  where
    by_first : (b : Bool) {c : Bool} → c ≡ true → (b || c) ≡ true
    by_first true h = refl
    by_first false h = h

-- the log of the group that was read at a number
pub held_at : (groups : List GroupState) (n : ℕ) (g : GroupState) → n < length groups → g ≡ get_or groups n g
    → slice_get (map (λ (x : GroupState). x.topic.held) groups) n ≡ Some g.topic.held
held_at groups n g l read =
    slice_get-map (λ (x : GroupState). x.topic.held) groups n
    ∙ ap (option_map (λ (x : GroupState). x.topic.held)) (slice_get-get_or groups n g l ∙ ap (λ x. Some x) (sym read))
