-- What every run of the core delivers: the laws of the machine's run, said of the account and of the report.
use Rattle.delivery.proofs.Words.All.{◌≡◌, ℕ, zero, suc, ◌+◌, ◌<◌, ◌≤◌, inl, inr, List, [], ◌∷◌, ◌++◌, map, length, get_or, Option, Some, None, refl, sym, ap, subst, ◌∙◌, arith, take, slice_get, Topic, Stamp, zero_stamp, committed_id, stamp_of, agreed, EachOnce, SenderOrder, In, LogRow, last_stamp, Cause, TopicState, EntryEnd, new_topic, Asked, Lag, some_same, none_some, due, log_row, Run, answers_of, final_world, shared_marks, accepted_at, span_at, log_at, frontier_at, entry_to, World, Subscription, no_subscription, subscription_at, entry_at, Answer, commits_of, delivered_items, SilentAfterClose, TopicList, CoreStep, released_frontier, account_of, Core, core_of, IsCoreRun, QueueReport, Report, report_of, queue_report, each_number, log_in, Delivers, Told, told_of, reported_begun, IsAsAnswered, DeliversAnswers}
use Rattle.delivery.proofs.Theorem.AcceptedIsDue.{reached, accepted_is_due, shared_in_one_order, agreed_once, agreed_in_sender_order}
use Rattle.delivery.proofs.Theorem.LogIsOfAnswers.{log_is_of_outcomes}
use Rattle.delivery.proofs.Theorem.SettledLeavesNoneOut.{settled_in_log}
use Rattle.delivery.proofs.Theorem.ClosedIsSilent.{closed_is_silent}
use Rattle.delivery.proofs.Theorem.SpansAsAnswered.{spans_end_as_told}
use Rattle.delivery.proofs.Theorem.HandedIsPrefix.{handing}
use Rattle.delivery.proofs.Core.Said.{said, said_from, commits_said, delivered_said, released_log_said, begun_said, settled_said, silent_said}
use Rattle.delivery.proofs.Core.Started.{begin_of, numbered, begun_is}
use Rattle.delivery.proofs.Core.AccountOfRun.{run_of, core_at, core_is, account_is}
use Rattle.delivery.proofs.Core.LagsAsTold.{lag_as_told, cause_by, end_by}
use Rattle.delivery.proofs.Core.BoundedAtEach.{bounded_said}
use Rattle.delivery.proofs.Core.Moments.{at_moment}
use Rattle.delivery.proofs.Core.ToldEnds.{silent_at}
use Rattle.delivery.proofs.Core.DeliveredAsTold.{EndsAt, take_given, delivered_told}
use Rattle.delivery.proofs.Core.AskedAsTold.{asked_said, asked_began}
use Rattle.delivery.proofs.Core.ToldOfSteps.{told_is}

-- ---- numbered lists

-- what is found in it, and what stands in it
each_got : {X Y : Type 0} (f : ℕ → Y) (i : ℕ) (xs : List X) (s : ℕ) (y : Y) → slice_get (each_number f i xs) s ≡ Some y → (s < length xs) × (f (i + s) ≡ y)
each_got f i [] s y e = none_some y e
each_got f i (x ∷ xs) zero y e = (omega arith, ap f (omega arith) ∙ some_same (f i) y e)
each_got f i (x ∷ xs) (suc s) y e = let k = each_got f (i + 1) xs s y e in (omega (arith, k.0), ap f (omega arith) ∙ k.1)

each_in : {X Y : Type 0} (f : ℕ → Y) (i : ℕ) (xs : List X) (y : Y) → In y (each_number f i xs) → (s : ℕ) × (s < length xs) × (f (i + s) ≡ y)
each_in f i [] y k = absurd k
each_in f i (x ∷ xs) y (inl e) = (0, omega arith, ap f (omega arith) ∙ e)
each_in f i (x ∷ xs) y (inr k) = let h = each_in f (i + 1) xs y k in (suc h.0, omega (arith, h.1), ap f (omega arith) ∙ h.2)

reported_is : (w : World) (i : ℕ) (xs : List Subscription) → ((j : ℕ) → j < length xs → subscription_at w (i + j) ≡ get_or xs j no_subscription)
    → reported_begun i (each_number (queue_report w) i xs) ≡ numbered i (map begin_of xs)
reported_is w i [] h = refl
reported_is w i (x ∷ xs) h =
    let a : subscription_at w i ≡ x = ap (subscription_at w) (omega arith) ∙ h 0 (omega arith) in
    ap (λ (z : Subscription). (i, z.topic, z.from) ∷ reported_begun (i + 1) (each_number (queue_report w) (i + 1) xs)) a
    ∙ ap (λ (z : List (ℕ × Topic × Stamp)). (i, x.topic, x.from) ∷ z) (reported_is w (i + 1) xs (λ j l. ap (subscription_at w) (omega arith) ∙ h (suc j) (omega arith)))

held_at : (topics : List TopicState) (n : ℕ) (t : Topic) → get_or (map (λ (x : TopicState). x.held) topics) n [] ≡ (get_or topics n (new_topic t 0 0)).held
held_at [] n t = refl
held_at (x ∷ xs) zero t = refl
held_at (x ∷ xs) (suc n) t = held_at xs n t

-- ---- the report of a run of the machine

abbrev report_at : Run → List (List ℕ) → List CoreStep → Report
report_at r names steps = report_of (core_at names r steps)

log_is : (r : Run) (names : List (List ℕ)) (steps : List CoreStep) (t : Topic) → log_in (report_at r names steps) t ≡ log_at (final_world r) t
log_is r names steps t = held_at (final_world r).topics t.0 t

-- ---- ends

-- what has a cause has an end, and what has none has none
has_end : (closed : Option EntryEnd) (lagged : Option Stamp) (cause : Cause) → cause_by closed lagged ≡ Some cause → (end : Stamp) × (end_by closed lagged ≡ Some end)
has_end None None cause e = none_some cause e
has_end None (Some end) cause e = (end, refl)
has_end (Some left) lagged cause e = (left.to, refl)

no_end : (closed : Option EntryEnd) (lagged : Option Stamp) → cause_by closed lagged ≡ None → end_by closed lagged ≡ None
no_end None None e = refl
no_end None (Some end) e = none_some Lag (sym e)
no_end (Some left) lagged e = none_some left.cause (sym e)

asked_closed : (closed : Option EntryEnd) (lagged : Option Stamp) → cause_by closed lagged ≡ Some Asked → (left : EntryEnd) × (closed ≡ Some left) × (left.cause ≡ Asked)
asked_closed None None e = none_some Asked e
asked_closed None (Some end) e = let k : Lag ≡ Asked = some_same Lag Asked e in cc
asked_closed (Some left) lagged e = (left, refl, some_same left.cause Asked e)

-- ---- what was handed on

handed_is : (r : Run) (s : ℕ) → s < length (final_world r).subscriptions
    → take (subscription_at (final_world r) s).taken (accepted_at (final_world r) s) ≡ delivered_items s (answers_of r)
handed_is r s l =
    let h = (handing r).held s l in let given = delivered_items s (answers_of r) in
    ap (λ n. take n (accepted_at (final_world r) s)) h.count ∙ (ap (λ z. take (length given) z) h.is ∙ take_given given h.rest)

-- ---- each subscription, and each two

-- what is reported of each subscription is as it was told
as_told : (r : Run) (names : List (List ℕ)) (steps : List CoreStep) (s : ℕ) → s < length (final_world r).subscriptions
    → IsAsAnswered r.capacity s (said (answers_of r)) (report_at r names steps) (queue_report (final_world r) s)
as_told r names steps s l =
    let w = final_world r in let past = answers_of r in let lagged = entry_to (entry_at w s) in let closed = (subscription_at w s).closed in
    let t = (subscription_at w s).topic in let h = (handing r).held s l in
    record {
      told = λ to i. spans_end_as_told r s to (said_from (Answer.Unsubscribed s to) past i);
      unended = λ none. no_end closed lagged none;
      asked = λ cause. (let left = asked_closed closed lagged cause in
          let end = asked_began r s left.0 left.1 left.2 in
          (end.0, end.1, left.0.to, end.2, end.3));
      lag = λ cause. (let end = has_end closed lagged Lag cause in (end.0, end.1, lag_as_told r s end.0 cause end.1));
      exactly_due = accepted_is_due r s l
          ∙ (ap (λ z. due z (span_at w s) (frontier_at w t)) (sym (commits_said past))
          ∙ ap (λ (z : List LogRow). due (commits_of (said past)) (span_at w s) (last_stamp zero_stamp z)) (sym (log_is r names steps t)));
      handed = handed_is r s l ∙ sym (delivered_said s past);
      handed_prefix = (h.rest, h.is ∙ ap (λ z. z ++ h.rest) (sym (handed_is r s l)));
      bounded = at_moment (λ (z : List Answer). length (due (commits_of (said past)) (span_at w s) (released_frontier t z)) ≤ length (delivered_items s z) + r.capacity) (said past) (bounded_said r s l);
    }

one_order : (r : Run) (names : List (List ℕ)) (steps : List CoreStep) (p q : QueueReport)
    → In p (report_at r names steps).subscriptions → In q (report_at r names steps).subscriptions → shared_marks p.queued q.queued ≡ shared_marks q.queued p.queued
one_order r names steps p q i j =
    let w = final_world r in let a = each_in (queue_report w) 0 w.subscriptions p i in let b = each_in (queue_report w) 0 w.subscriptions q j in
    subst (λ (z : QueueReport). shared_marks z.queued q.queued ≡ shared_marks q.queued z.queued) a.2
    (subst (λ (z : QueueReport). shared_marks (accepted_at w (0 + a.0)) z.queued ≡ shared_marks z.queued (accepted_at w (0 + a.0))) b.2
    (shared_in_one_order r (0 + a.0) (0 + b.0) (omega (arith, a.1)) (omega (arith, b.1))))

-- ---- all together

-- the report of a run of the machine is what an account says of its answers
pub delivers_said : (names : List (List ℕ)) (r : Run) (steps : List CoreStep) → DeliversAnswers r.capacity (said (answers_of r)) (report_of (core_at names r steps))
delivers_said names r steps = record {
  commits = ap (map log_row) (sym (reached r).commits ∙ sym (commits_said past));
  each_once = subst (λ z. EachOnce committed_id stamp_of (agreed z)) (sym (commits_said past)) (agreed_once r);
  fifo_order = subst (λ z. SenderOrder committed_id (agreed z)) (sym (commits_said past)) (agreed_in_sender_order r);
  logs = λ t. log_is r names steps t ∙ (log_is_of_outcomes r t ∙ sym (released_log_said t past));
  begins = reported_is w 0 w.subscriptions (λ j l. ap (subscription_at w) (omega arith)) ∙ (sym (begun_is r) ∙ sym (begun_said past));
  queues = λ s q e. (let k = each_got (queue_report w) 0 w.subscriptions s q e in
      subst (λ (z : QueueReport). IsAsAnswered r.capacity s (said past) (report_at r names steps) z) (ap (queue_report w) (omega arith) ∙ k.1)
      (as_told r names steps s k.0));
  total_order = λ p q i j. one_order r names steps p q i j;
  validity = λ t row settled i named.
      subst (λ z. In (log_row row) z) (sym (log_is r names steps t))
      (settled_in_log r t row (settled_said t past settled) (subst (λ z. In row z) (commits_said past) i) named);
  silent_after_close = silent_at (said past) (silent_said past (closed_is_silent r));
}
  where
    w : World
    w = final_world r

    past : List Answer
    past = answers_of r

-- a subscription that was asked to end has ended at its topic's frontier then
asked_told : (names : List (List ℕ)) (r : Run) (steps : List CoreStep) (s : ℕ) (q : QueueReport) → slice_get (report_of (core_at names r steps)).subscriptions s ≡ Some q
    → q.cause ≡ Some Asked → EndsAt q.span.topic s (said (answers_of r))
asked_told names r steps s q e =
    let w = final_world r in let k = each_got (queue_report w) 0 w.subscriptions s q e in
    subst (λ (z : QueueReport). z.cause ≡ Some Asked → EndsAt z.span.topic s (said (answers_of r))) (ap (queue_report w) (omega arith) ∙ k.1)
    (λ cause. (let left = asked_closed (subscription_at w s).closed (entry_to (entry_at w s)) cause in asked_said r s left.0 left.1 left.2))

-- every run of the core delivers what its account says
pub delivers : (topics : TopicList) (capacity : ℕ) (steps : List CoreStep) → IsCoreRun topics capacity steps
    → DeliversAnswers capacity (account_of topics.names steps) (report_of (core_of topics capacity steps))
delivers topics capacity steps run =
    let r = run_of topics capacity steps in
    subst (λ z. DeliversAnswers capacity z (report_of (core_of topics capacity steps))) (sym (account_is topics capacity steps run))
    (subst (λ k. DeliversAnswers capacity (said (answers_of r)) (report_of k)) (sym (core_is topics capacity steps)) (delivers_said topics.names r steps))

-- and what its steps tell
pub delivers_told : (topics : TopicList) (capacity : ℕ) (steps : List CoreStep) → IsCoreRun topics capacity steps
    → Delivers capacity (told_of topics.names steps) (report_of (core_of topics capacity steps))
delivers_told topics capacity steps run =
    let r = run_of topics capacity steps in let report = report_of (core_of topics capacity steps) in let is = account_is topics capacity steps run in
    let asked : (s : ℕ) (q : QueueReport) → slice_get report.subscriptions s ≡ Some q → q.cause ≡ Some Asked → EndsAt q.span.topic s (account_of topics.names steps) =
    subst (λ (z : List Answer). (s : ℕ) (q : QueueReport) → slice_get report.subscriptions s ≡ Some q → q.cause ≡ Some Asked → EndsAt q.span.topic s z) (sym is)
    (subst (λ (k : Core). (s : ℕ) (q : QueueReport) → slice_get (report_of k).subscriptions s ≡ Some q → q.cause ≡ Some Asked → EndsAt q.span.topic s (said (answers_of r)))
    (sym (core_is topics capacity steps)) (asked_told topics.names r steps)) in
    let silent : SilentAfterClose (account_of topics.names steps) = subst SilentAfterClose (sym is) (silent_said (answers_of r) (closed_is_silent r)) in
    subst (λ (z : List Told). Delivers capacity z report) (sym (told_is topics.names steps).0)
    (delivered_told capacity (account_of topics.names steps) report asked silent (delivers topics capacity steps run))
