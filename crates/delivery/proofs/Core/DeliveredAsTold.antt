-- What is delivered by an account in the machine's answers is delivered by what is told of them.
use Rattle.delivery.proofs.Words.All.{◌≡◌, ℕ, ◌+◌, ◌≤◌, true, false, List, [], ◌∷◌, ◌++◌, map, length, Some, refl, sym, ap, subst, ◌∙◌, true≢false, take, slice_get, enumerate_from, last_or, Topic, Stamp, zero_stamp, stamp_lt, CommitRow, committed_id, stamp_of, agreed, EachOnce, SenderOrder, In, Item, LogRow, last_stamp, Asked, Answer, commits_of, delivered_items, log_row, due, SilentAfterClose, released_log, released_frontier, QueueReport, Report, log_in, Told, committed, frontier_of, handed_count, reported_begun, last_queued, LagsAsAnswered, IsAsAnswered, DeliversAnswers, Delivers}
use Rattle.delivery.specs.Core.Delivery.{Lags, IsAsTold}
use Rattle.delivery.proofs.Core.Moments.{at_moment, from_moments, always_one, always_told}
use Rattle.delivery.proofs.Core.Tells.{tells, tell, committed_told, log_told, frontier_told, handed_told, begun_told, tell_append}
use Rattle.delivery.proofs.Core.ToldSettled.{end_from, settled_from, silent_at}

-- ---- a lag

-- what an answer tells that is told alone and moves a frontier
record Moves (o : Answer) (past : List Answer) (t : Topic) : Type 0 where
  by : Told
  is : tells o past ≡ by ∷ []

-- an answer that tells nothing of logs moves no frontier
unmoved : (t : Topic) (past : List Answer) (o : Answer) (end : Stamp) → released_frontier t (o ∷ past) ≡ released_frontier t past
    → stamp_lt end (released_frontier t past) ≡ false → stamp_lt end (released_frontier t (o ∷ past)) ≡ true → Moves o past t
unmoved t past o end same reached passed = absurd (true≢false (sym passed ∙ (ap (λ (z : Stamp). stamp_lt end z) same ∙ reached)))

-- an answer by which a topic's frontier passes an end is told as one
moves : (t : Topic) (past : List Answer) (o : Answer) (end : Stamp) → stamp_lt end (released_frontier t past) ≡ false
    → stamp_lt end (released_frontier t (o ∷ past)) ≡ true → Moves o past t
moves t past (Answer.Decided id stamp) end reached passed = record { by = _; is = refl }
moves t past (Answer.Released u id) end reached passed = record { by = _; is = refl }
moves t past (Answer.Turned u count) end reached passed = record { by = _; is = refl }
moves t past o end reached passed = unmoved t past o end refl reached passed

-- the last of these items' stamps, or else this one
last_told : (from : Stamp) (items : List Item) → last_or (Some from) (map (λ (i : Item). i.stamp) items) ≡ Some (last_queued from items)
last_told from [] = refl
last_told from (item ∷ items) = last_told item.stamp items

lag_told : (capacity s : ℕ) (account : List Answer) (q : QueueReport) (end : Stamp) → LagsAsAnswered capacity s account q end
    → (later before : List Told) × (by : Told) × (tell account ≡ later ++ by ∷ before) × Lags capacity s q end by before
lag_told capacity s account q end h =
    let m = moves q.span.topic h.before h.by end h.reached h.passed in let a = tell_append h.later (h.by ∷ h.before) in
    let is : tell (h.by ∷ h.before) ≡ m.by ∷ tell h.before = ap (λ (z : List Told). z ++ tell h.before) m.is in (
      a.0,
      tell h.before,
      m.by,
      ap tell h.account_is ∙ (a.1 ∙ ap (λ (z : List Told). a.0 ++ z) is),
      record {
        last = last_told q.span.from q.queued ∙ ap Some (sym h.last);
        reached = subst (λ (z : Stamp). stamp_lt end z ≡ false) (sym (frontier_told q.span.topic h.before)) h.reached;
        passed = subst (λ (z : List Told). stamp_lt end (frontier_of q.span.topic z) ≡ true) is
            (subst (λ (z : Stamp). stamp_lt end z ≡ true) (sym (frontier_told q.span.topic (h.by ∷ h.before))) h.passed);
        full = h.full ∙ ap (λ (n : ℕ). n + capacity) (sym (handed_told s h.before));
      },
    )

-- ---- a subscription

-- An end of subscription s that was asked for was answered, and was the frontier of this topic then.
abbrev pub EndsAt : Topic → ℕ → List Answer → Type 0
EndsAt t s account =
    (later before : List Answer) × (to : Stamp) × (account ≡ later ++ Answer.Unsubscribed s to ∷ before)
    × (to ≡ released_frontier t before)

pub take_given : {X : Type 0} (xs ys : List X) → take (length xs) (xs ++ ys) ≡ xs
take_given [] ys = refl
take_given (x ∷ xs) ys = ap (λ z. x ∷ z) (take_given xs ys)

-- at each moment of what is told a queue is within its bound
bounded_told : (capacity s : ℕ) (account : List Answer) (q : QueueReport)
    → ((later before : List Answer) → account ≡ later ++ before → length (due (commits_of account) q.span (released_frontier q.span.topic before)) ≤ length (delivered_items s before) + capacity)
    → (later before : List Told) → tell account ≡ later ++ before → length (due (committed (tell account)) q.span (frontier_of q.span.topic before)) ≤ handed_count s before + capacity
bounded_told capacity s account q h =
    at_moment P (tell account) (always_told P (λ txn told k. k) account (always_one Q (λ (z : List Answer). P (tell z)) told account (from_moments Q account h)))
  where
    P : List Told → Type 0
    P before = length (due (committed (tell account)) q.span (frontier_of q.span.topic before)) ≤ handed_count s before + capacity

    Q : List Answer → Type 0
    Q before = length (due (commits_of account) q.span (released_frontier q.span.topic before)) ≤ length (delivered_items s before) + capacity

    told : (before : List Answer) → Q before → P (tell before)
    told before k =
        subst (λ (z : List CommitRow). length (due z q.span (frontier_of q.span.topic (tell before))) ≤ handed_count s (tell before) + capacity) (sym (committed_told account))
        (subst (λ (z : Stamp). length (due (commits_of account) q.span z) ≤ handed_count s (tell before) + capacity) (sym (frontier_told q.span.topic before))
        (subst (λ (n : ℕ). length (due (commits_of account) q.span (released_frontier q.span.topic before)) ≤ n + capacity) (sym (handed_told s before)) k))

queue_told : (capacity s : ℕ) (account : List Answer) (r : Report) (q : QueueReport) → log_in r q.span.topic ≡ released_log q.span.topic account
    → (q.cause ≡ Some Asked → EndsAt q.span.topic s account) → IsAsAnswered capacity s account r q → IsAsTold capacity s (tell account) q
queue_told capacity s account r q log asked h = record {
  ended = λ to i. h.told to (end_from s to account i);
  unended = h.unended;
  asked = λ cause. (let e = asked cause in let a = tell_append e.0 (Answer.Unsubscribed s e.2 ∷ e.1) in
      (a.0, tell e.1, e.2, ap tell e.3 ∙ a.1, e.4 ∙ sym (frontier_told q.span.topic e.1)));
  lag = λ cause. (let l = h.lag cause in let m = lag_told capacity s account q l.0 l.2 in (l.0, l.1, m.0, m.1, m.2, m.3, m.4));
  exactly_due = h.exactly_due
      ∙ (ap (λ (z : List LogRow). due (commits_of account) q.span (last_stamp zero_stamp z)) log
      ∙ (ap (λ (z : List CommitRow). due z q.span (released_frontier q.span.topic account)) (sym (committed_told account))
      ∙ ap (due (committed (tell account)) q.span) (sym (frontier_told q.span.topic account))));
  handed = (h.handed_prefix.0, h.handed_prefix.1, ap (λ (z : List Item). length z) h.handed ∙ sym (handed_told s account));
  bounded = bounded_told capacity s account q h.bounded;
}

-- where each subscription begins, by their numbers
begun_each : (i : ℕ) (qs : List QueueReport) → reported_begun i qs ≡ map (λ (p : ℕ × QueueReport). (p.0, p.1.span.topic, p.1.span.from)) (enumerate_from i qs)
begun_each i [] = refl
begun_each i (q ∷ qs) = ap (λ (z : List (ℕ × Topic × Stamp)). (i, q.span.topic, q.span.from) ∷ z) (begun_each (i + 1) qs)

-- ---- all of it

-- What is delivered by the answers is delivered by what they tell.
pub delivered_told : (capacity : ℕ) (account : List Answer) (r : Report)
    → ((s : ℕ) (q : QueueReport) → slice_get r.subscriptions s ≡ Some q → q.cause ≡ Some Asked → EndsAt q.span.topic s account)
    → SilentAfterClose account → DeliversAnswers capacity account r → Delivers capacity (tell account) r
delivered_told capacity account r asked silent d = record {
  commits = d.commits ∙ ap (map log_row) (sym (committed_told account));
  each_once = subst (λ (z : List CommitRow). EachOnce committed_id stamp_of (agreed z)) (sym (committed_told account)) d.each_once;
  fifo_order = subst (λ (z : List CommitRow). SenderOrder committed_id (agreed z)) (sym (committed_told account)) d.fifo_order;
  logs = λ t. d.logs t ∙ sym (log_told t account);
  begins = begun_told account ∙ (sym d.begins ∙ begun_each 0 r.subscriptions);
  queues = λ s q e. queue_told capacity s account r q (d.logs q.span.topic) (asked s q e) (d.queues s q e);
  total_order = d.total_order;
  validity = λ t row settled i named. d.validity t row (settled_from t account settled)
      (subst (λ (z : List CommitRow). In row z) (committed_told account) i) named;
  silent_after_close = silent_at account silent;
}
