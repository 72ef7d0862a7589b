-- The theorem's record, met by one row: its fields can be had together, and their premises are met. Beside it stand reports
-- that it refuses: of a closed subscription that stays open, of lags that are none, of one that is left out, of Takes that had
-- no item, and without logs or a queue's item.
use Rattle.delivery.proofs.Words.All.{inl, inr, refl, sym, ap, subst, ◌∙◌, arith, cond, true≢false, ◌≡◌, ℕ, zero, suc, ◌==◌, ◌+◌, ◌≤◌, ◌++◌, Bool, true, false, ◌||◌, length, map, take, slice_get, List, [], ◌∷◌, codes, Option, Some, None, CommitRow, Transaction, In, names, topics_of, Cause, Stamp, LogRow, Item, Asked, Lag, some_same, none_some, IsSettled, IsResolved, log_row, item_at, is_due, due, Answer, shared_marks, commits_of, delivered_items, QueueReport, Report, account_of, released_log, released_frontier, report_of, log_in, Delivers, IsAsAnswered, DeliversAnswers}
use Rattle.delivery.specs.Core.Told.{Told, told_of, committed as committed_rows, frontier_of, handed_count}
use Rattle.delivery.proofs.Core.Acts.{topic, stamp, id, made, part, log_row as row, A}
use Rattle.delivery.proofs.Core.Rows.{ends}
use Rattle.delivery.proofs.Core.ToldEnds.{no_match, in_ends, silent_at}
use Rattle.delivery.proofs.Core.DeliveredAsTold.{EndsAt, delivered_told}

abbrev item : Item
item = record { id = id 0 1; stamp = stamp 1 0; sends = part 0 ((codes "destination", A) ∷ []) (codes "m") ∷ [] }

-- what was told before the subscription was closed, and in all
abbrev before_end : List Answer
before_end =
    Answer.Leaving 0 ∷ Answer.Turned (topic 0) 1 ∷ Answer.Decided (id 0 1) (stamp 1 0) ∷ Answer.Ticket (id 0 1) (stamp 1 0)
    ∷ Answer.Begun (record { id = id 0 1; sends = made 0 ((codes "destination", A) ∷ []) (codes "m") ∷ [] })
    ∷ Answer.Subscribed 0 0 (topic 0) (stamp 0 0) ∷ Answer.Opened 0 ∷ []

abbrev told : List Answer
told = Answer.Gone 0 ∷ Answer.Unsubscribed 0 (stamp 1 0) ∷ before_end

ends_told : account_of ends.names ends.steps ≡ told
ends_told = refl

abbrev report : Report
report = record {
  commits = row 0 1 1 0 (0 ∷ []) ∷ [];
  logs = (row 0 1 1 0 (0 ∷ []) ∷ []) ∷ [];
  subscriptions = record { span = record { topic = topic 0; from = stamp 0 0; to = Some (stamp 1 0) }; cause = Some Asked; queued = item ∷ []; handed = [] } ∷ [];
  outs = codes "CONNECTED\nversion:1.2\nheart-beat:0,0\n\n\0RECEIPT\nreceipt-id:bye\n\n\0" ∷ [];
}

ends_report : report_of ends ≡ report
ends_report = refl

-- its one subscription
abbrev ended : Option Stamp → Option Cause → QueueReport
ended to cause = record { span = record { topic = topic 0; from = stamp 0 0; to = to }; cause = cause; queued = item ∷ []; handed = [] }

-- the one row that was committed
abbrev only_row : CommitRow
only_row = record { txn = record { id = id 0 1; sends = made 0 ((codes "destination", A) ∷ []) (codes "m") ∷ [] }; stamp = stamp 1 0 }

-- no other topic has it
elsewhere : (n : ℕ) → (0 == suc n) ≡ false
elsewhere n = no_match 0 (suc n) (λ e. absurd (omega (arith, e)))

not_there : (b : Bool) → b ≡ false → ◌≡◌ {A = List LogRow} [] (take (cond b 1 0) (map log_row (cond (b || false) (only_row ∷ []) [])))
not_there true e = absurd (true≢false e)
not_there false e = refl

logs : (n : ℕ) → log_in report (topic n) ≡ released_log (topic n) told
logs zero = refl
logs (suc n) = not_there (0 == suc n) (elsewhere n)

-- it alone may be due
one_due : (b : Bool) (n : ℕ) → length (map (item_at (topic 0)) (cond b (only_row ∷ []) [])) ≤ n + 64
one_due true n = omega arith
one_due false n = omega arith

as_told : IsAsAnswered 64 0 told report (ended (Some (stamp 1 0)) (Some Asked))
as_told = record {
  told = λ to i. elim (in_ends 0 to told i) [ inl e ↦ ap Some e | inr none ↦ absurd none ];
  unended = λ e. none_some Asked (sym e);
  asked = λ e. (Answer.Gone 0 ∷ [], before_end, stamp 1 0, refl, refl);
  lag = λ e. (let same : Asked ≡ Lag = some_same Asked Lag e in cc);
  exactly_due = refl;
  handed = refl;
  handed_prefix = (item ∷ [], refl);
  bounded = λ later before e.
      one_due (is_due ((ended (Some (stamp 1 0)) (Some Asked)).span) (released_frontier (topic 0) before) only_row) (length (delivered_items 0 before));
}

queues_told : (s : ℕ) (q : QueueReport) → slice_get report.subscriptions s ≡ Some q → IsAsAnswered 64 s told report q
queues_told zero q e = subst (λ (z : QueueReport). IsAsAnswered 64 0 told report z) (some_same _ q e) as_told
queues_told (suc s) q e = none_some q e

-- both are this one
in_one_order : (p q : QueueReport) → In p report.subscriptions → In q report.subscriptions
    → shared_marks p.queued q.queued ≡ shared_marks q.queued p.queued
in_one_order p q (inl e) (inl d) = ap (λ (z : QueueReport). shared_marks z.queued q.queued) (sym e ∙ d) ∙ ap (λ (z : QueueReport). shared_marks q.queued z.queued) (sym d ∙ e)
in_one_order p q (inl e) (inr none) = absurd none
in_one_order p q (inr none) j = absurd none

is_logged : (n : ℕ) (row : CommitRow) → In row (commits_of told) → names (topic n) (topics_of row.txn.sends) ≡ true → In (log_row row) (log_in report (topic n))
is_logged zero row (inl e) named = subst (λ (r : CommitRow). In (log_row r) (log_in report (topic 0))) e (inl refl)
is_logged zero row (inr none) named = absurd none
is_logged (suc n) row (inl e) named =
    absurd (true≢false (sym (ap (λ (r : CommitRow). names (topic (suc n)) (topics_of r.txn.sends)) e ∙ named) ∙ ap (λ (b : Bool). b || false) (elsewhere n)))
is_logged (suc n) row (inr none) named = absurd none

-- topic 0 is settled: its one transaction was decided, and a turn came after
abbrev before_turn : List Answer
before_turn =
    Answer.Decided (id 0 1) (stamp 1 0) ∷ Answer.Ticket (id 0 1) (stamp 1 0)
    ∷ Answer.Begun (record { id = id 0 1; sends = made 0 ((codes "destination", A) ∷ []) (codes "m") ∷ [] })
    ∷ Answer.Subscribed 0 0 (topic 0) (stamp 0 0) ∷ Answer.Opened 0 ∷ []

is_resolved : (txn : Transaction) → In (Answer.Begun txn) before_turn → names (topic 0) (topics_of txn.sends) ≡ true → IsResolved (topic 0) before_turn txn
is_resolved txn (inl e) named = absurd cc
is_resolved txn (inr (inl e)) named = absurd cc
is_resolved txn (inr (inr (inl e))) named = inl (stamp 1 0, inl cc)
is_resolved txn (inr (inr (inr (inl e)))) named = absurd cc
is_resolved txn (inr (inr (inr (inr (inl e))))) named = absurd cc
is_resolved txn (inr (inr (inr (inr (inr none))))) named = absurd none

settled : IsSettled (topic 0) told
settled = inl (refl, λ txn i named. is_resolved txn i named)

by_answers : DeliversAnswers 64 told report
by_answers = record {
  commits = refl;
  each_once = (λ y i. absurd i, tt);
  fifo_order = (λ y i same. absurd i, tt);
  logs = λ t. logs t.0;
  begins = refl;
  queues = queues_told;
  total_order = in_one_order;
  validity = λ t row settled i named. is_logged t.0 row i named;
  silent_after_close = silent_at told tt;
}

-- what its steps tell
abbrev sent : Transaction
sent = record { id = id 0 1; sends = made 0 ((codes "destination", A) ∷ []) (codes "m") ∷ [] }

ends_tell : told_of ends.names ends.steps
    ≡ Told.Unsubscribed 0 (stamp 1 0) ∷ Told.Closed 0 ∷ Told.Turned (topic 0) 1 ∷ Told.Decided sent (stamp 1 0)
    ∷ Told.Ticket (id 0 1) (topic 0) ∷ Told.Begun sent ∷ Told.Subscribed 0 0 (topic 0) ∷ []
ends_tell = refl

asked_at : (s : ℕ) (q : QueueReport) → slice_get report.subscriptions s ≡ Some q → q.cause ≡ Some Asked → EndsAt q.span.topic s told
asked_at zero q e cause =
    subst (λ (z : QueueReport). EndsAt z.span.topic 0 told) (some_same _ q e) (Answer.Gone 0 ∷ [], before_end, stamp 1 0, refl, refl)
asked_at (suc s) q e cause = none_some q e

delivers : Delivers 64 (told_of ends.names ends.steps) report
delivers = delivered_told 64 told report asked_at tt by_answers

-- ---- reports that are no delivery

-- what is told of a transaction that is committed at topic 0 and released there
abbrev committed : List Told → List Told
committed before =
    Told.Turned (topic 0) 1 ∷ Told.Decided sent (stamp 1 0) ∷ Told.Ticket (id 0 1) (topic 0) ∷ Told.Begun sent ∷ before

-- a subscription to it is closed before, or stays open
abbrev subscribed : List Told
subscribed = Told.Subscribed 0 0 (topic 0) ∷ []

abbrev after_close : List Told
after_close = committed (Told.Unsubscribed 0 (stamp 0 0) ∷ subscribed)

abbrev while_open : List Told
while_open = committed subscribed

-- the item was queued, and the span is reported to end so
abbrev with_end : Option Stamp → Option Cause → Report
with_end to cause = record report { subscriptions = ended to cause ∷ [] }

-- the closed subscription is reported open, with the row that came after
stays_open : (capacity : ℕ) → Delivers capacity after_close (with_end None None) → Prim.⊥
stays_open capacity d = none_some (stamp 0 0) ((d.queues 0 (ended None None) refl).ended (stamp 0 0) (inr (inr (inr (inr (inl refl))))))

-- it is reported to have lagged, at a stamp that nothing has
closed_lags : (capacity : ℕ) → Delivers capacity after_close (with_end (Some (stamp 7 3)) (Some Lag)) → Prim.⊥
closed_lags capacity d =
    let e : stamp 7 3 ≡ stamp 0 0 = some_same (stamp 7 3) (stamp 0 0) ((d.queues 0 (ended (Some (stamp 7 3)) (Some Lag)) refl).ended (stamp 0 0) (inr (inr (inr (inr (inl refl)))))) in
    let n : 7 ≡ 0 = ap (λ (z : Stamp). z.n) e in absurd (omega (arith, n))

-- an open one is
open_lags : (capacity : ℕ) → Delivers capacity while_open (with_end (Some (stamp 7 3)) (Some Lag)) → Prim.⊥
open_lags capacity d =
    let l = (d.queues 0 (ended (Some (stamp 7 3)) (Some Lag)) refl).lag refl in
    let n : 7 ≡ 1 = ap (λ (z : Stamp). z.n) (some_same (stamp 7 3) l.0 l.1 ∙ sym (some_same (stamp 1 0) l.0 l.6.last)) in absurd (omega (arith, n))

-- it is reported to have lagged at its last item, where there is room for one more
lags_with_room : Delivers 2 while_open (with_end (Some (stamp 1 0)) (Some Lag)) → Prim.⊥
lags_with_room d =
    let l = (d.queues 0 (ended (Some (stamp 1 0)) (Some Lag)) refl).lag refl in
    let n : 1 ≡ handed_count 0 l.3 + 2 = l.6.full in absurd (omega (arith, n))

-- it is reported to have been asked to end, which nobody asked
in_it : (xs before : List Told) (to : Stamp) → In (Told.Unsubscribed 0 to) (xs ++ Told.Unsubscribed 0 to ∷ before)
in_it [] before to = inl refl
in_it (x ∷ xs) before to = inr (in_it xs before to)

unasked : (to : Stamp) → In (Told.Unsubscribed 0 to) while_open → Prim.⊥
unasked to (inl e) = absurd cc
unasked to (inr (inl e)) = absurd cc
unasked to (inr (inr (inl e))) = absurd cc
unasked to (inr (inr (inr (inl e)))) = absurd cc
unasked to (inr (inr (inr (inr (inl e))))) = absurd cc
unasked to (inr (inr (inr (inr (inr none))))) = absurd none

asked_unasked : (capacity : ℕ) → Delivers capacity while_open (with_end (Some (stamp 1 0)) (Some Asked)) → Prim.⊥
asked_unasked capacity d =
    let a = (d.queues 0 (ended (Some (stamp 1 0)) (Some Asked)) refl).asked refl in
    unasked a.2 (subst (λ (z : List Told). In (Told.Unsubscribed 0 a.2) z) (sym a.3) (in_it a.0 a.1 a.2))

-- an item is reported to have been delivered that no Take handed on
not_handed : (capacity : ℕ) → Delivers capacity while_open (record report { subscriptions = record (ended None None) { handed = item ∷ [] } ∷ [] }) → Prim.⊥
not_handed capacity d =
    let n : 1 ≡ 0 = (d.queues 0 (record (ended None None) { handed = item ∷ [] }) refl).handed.2 in absurd (omega (arith, n))

-- two Takes are told to have handed an item on, where one was queued
handed_twice : (capacity : ℕ) → Delivers capacity (Told.Handed 0 ∷ Told.Handed 0 ∷ while_open) (record report { subscriptions = record (ended None None) { handed = item ∷ [] } ∷ [] }) → Prim.⊥
handed_twice capacity d =
    let n : 1 ≡ 2 = (d.queues 0 (record (ended None None) { handed = item ∷ [] }) refl).handed.2 in absurd (omega (arith, n))

-- the row was released, and the report has no log
no_logs : (capacity : ℕ) → Delivers capacity while_open (record report { logs = []; subscriptions = record (ended None None) { queued = [] } ∷ [] }) → Prim.⊥
no_logs capacity d = let n : 0 ≡ 1 = ap (λ (z : List LogRow). length z) (d.logs (topic 0)) in absurd (omega (arith, n))

-- nor has its queue the item
not_queued : (capacity : ℕ) → Delivers capacity while_open (record report { subscriptions = record (ended None None) { queued = [] } ∷ [] }) → Prim.⊥
not_queued capacity d =
    let n : 0 ≡ 1 = ap (λ (z : List Item). length z) (d.queues 0 (record (ended None None) { queued = [] }) refl).exactly_due in absurd (omega (arith, n))

-- a second row is released, and then an item is handed on
abbrev second : Transaction
second = record { id = id 0 2; sends = made 0 ((codes "destination", A) ∷ []) (codes "m") ∷ [] }

abbrev later_item : Item
later_item = record { id = id 0 2; stamp = stamp 2 0; sends = part 0 ((codes "destination", A) ∷ []) (codes "m") ∷ [] }

abbrev overtaken : List Told
overtaken =
    Told.Handed 0 ∷ Told.Turned (topic 0) 1 ∷ Told.Decided second (stamp 2 0) ∷ Told.Ticket (id 0 2) (topic 0) ∷ Told.Begun second ∷ while_open

-- so a queue of one lags at the first row; it is reported open, with both
abbrev never_lagged : QueueReport
never_lagged = record (ended None None) { queued = item ∷ later_item ∷ []; handed = item ∷ [] }

abbrev without_lag : Report
without_lag = record {
  commits = row 0 1 1 0 (0 ∷ []) ∷ row 0 2 2 0 (0 ∷ []) ∷ [];
  logs = (row 0 1 1 0 (0 ∷ []) ∷ row 0 2 2 0 (0 ∷ []) ∷ []) ∷ [];
  subscriptions = never_lagged ∷ [];
  outs = report.outs;
}

lag_left_out : Delivers 1 overtaken without_lag → Prim.⊥
lag_left_out d =
    let n : 2 ≤ 0 + 1 = (d.queues 0 never_lagged refl).bounded (Told.Handed 0 ∷ []) _ refl in absurd (omega (arith, n))

-- it is no other clause that refuses it: its queue is what is due at the end, and within its capacity then
queued_at_end : never_lagged.queued ≡ due (committed_rows overtaken) never_lagged.span (frontier_of (topic 0) overtaken)
queued_at_end = refl

waiting_at_end : length never_lagged.queued ≤ length never_lagged.handed + 1
waiting_at_end = omega arith
