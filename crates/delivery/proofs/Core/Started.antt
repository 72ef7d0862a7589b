-- What every run keeps of subscriptions, beside its answers: how each began.
use Rattle.std.proofs.Common.{◌≡◌, ℕ, zero, suc, ◌+◌, ◌<◌, ◌==◌, Bool, cond, ◌⊎◌, inl, inr, List, [], ◌∷◌, ◌++◌, map, length, get_or, set, None, refl, sym, ap, ◌∙◌, arith}
use Rattle.delivery.proofs.Words.All.{eqb-true, eq-eqb, subst, Topic, Stamp, zero_stamp, LogRow, last_stamp, not_true, World, Subscription, no_subscription, topic_at, subscription_at, frontier_at, Move, Answer, move_refusal, move_effect, move_answer, Run, answers_of, final_world, Beginning, no_beginning, beginning_of, released_frontier}
use Rattle.delivery.specs.Machine.Moves.Move.{Subscribes, Unsubscribes, Leaves, Takes}
use Rattle.delivery.specs.Core.Answered.{begun_in}
use Rattle.delivery.proofs.Words.Steps.{at_push_two, tickets, checked, reached, frontier_is, by_found, InEachCase, always, by_runs_moves}
use Rattle.delivery.proofs.Theorem.LogIsOfAnswers.{log_is_of_outcomes}
use Rattle.delivery.proofs.Core.Tests.{connection_there}

-- how a subscription began
abbrev pub begin_of : Subscription → Beginning
begin_of x = record { connection = x.connection; topic = x.topic; from = x.from }

-- beginnings with their numbers, where the first has number i
abbrev pub numbered : ℕ → List Beginning → List (ℕ × Topic × Stamp)
numbered i [] = []
numbered i (x ∷ xs) = (i, x.topic, x.from) ∷ numbered (i + 1) xs

-- how subscriptions began
abbrev pub begins_in : World → List Beginning
begins_in w = map begin_of w.subscriptions

-- each subscription began so
record Starts (beginning : ℕ → Beginning) (told : List (ℕ × Topic × Stamp)) (begins : List Beginning) : Type 0 where
  beginnings : (s : ℕ) → beginning s ≡ get_or begins s no_beginning
  begun : told ≡ numbered 0 begins

-- as it was answered
abbrev Started : List Answer → World → Type 0
Started past w = Starts (λ s. beginning_of s past) (begun_in past) (begins_in w)

-- a topic's frontier is that of the rows that the answers released
pub frontier_of : (r : Run) (t : Topic) → frontier_at (final_world r) t ≡ released_frontier t (answers_of r)
frontier_of r t = ap (λ (z : List LogRow). last_stamp zero_stamp z) (log_is_of_outcomes r t)

-- ---- lists of beginnings

get_map : (xs : List Subscription) (s : ℕ) → get_or (map begin_of xs) s no_beginning ≡ begin_of (get_or xs s no_subscription)
get_map [] s = refl
get_map (x ∷ xs) zero = refl
get_map (x ∷ xs) (suc s) = get_map xs s

map_set : (xs : List Subscription) (s : ℕ) (x : Subscription) → begin_of x ≡ begin_of (get_or xs s no_subscription) → map begin_of (set xs s x) ≡ map begin_of xs
map_set [] s x e = refl
map_set (y ∷ ys) zero x e = ap (λ z. z ∷ map begin_of ys) e
map_set (y ∷ ys) (suc s) x e = ap (λ z. begin_of y ∷ z) (map_set ys s x e)

map_push : (xs : List Subscription) (x : Subscription) → map begin_of (xs ++ x ∷ []) ≡ map begin_of xs ++ begin_of x ∷ []
map_push [] x = refl
map_push (y ∷ ys) x = ap (λ z. begin_of y ∷ z) (map_push ys x)

map_count : (xs : List Subscription) → length (map begin_of xs) ≡ length xs
map_count [] = refl
map_count (x ∷ xs) = ap suc (map_count xs)

numbered_push : (i : ℕ) (xs : List Beginning) (x : Beginning) → numbered i (xs ++ x ∷ []) ≡ numbered i xs ++ (i + length xs, x.topic, x.from) ∷ []
numbered_push i [] x = ap (λ (n : ℕ). (n, x.topic, x.from) ∷ []) (omega arith)
numbered_push i (y ∷ ys) x = ap (λ z. (i, y.topic, y.from) ∷ z) (numbered_push (i + 1) ys x ∙ ap (λ (n : ℕ). numbered (i + 1) ys ++ (n, x.topic, x.from) ∷ []) (omega arith))

-- ---- an answer that begins one

begins : (past : List Answer) (w : World) (c : ℕ) (t : Topic) → (topic_at w t).frontier ≡ released_frontier t past → Started past w → Started (move_answer w (Subscribes c t) ∷ past) (move_effect w (Subscribes c t))
begins past w c t f h =
    let n = length w.subscriptions in let x : Beginning = record { connection = c; topic = t; from = (topic_at w t).frontier } in
    let m = map_push w.subscriptions (record { connection = c; topic = t; from = (topic_at w t).frontier; taken = 0; closed = None }) in let k = map_count w.subscriptions in
    record {
      beginnings = λ s. at_push_two (λ (z : Beginning). cond (n == s) x (beginning_of s past) ≡ z) (begins_in w) s x no_beginning
          (λ e. ap (λ (b : Bool). cond b x (beginning_of s past)) (eq-eqb n s (omega arith)))
          (λ ne. ap (λ (b : Bool). cond b x (beginning_of s past)) (not_true (n == s) refl (λ d. ne (let i : n ≡ s = eqb-true n s d in omega arith))) ∙ h.beginnings s)
          ∙ ap (λ z. get_or z s no_beginning) (sym m);
      begun = ap (λ (z : List (ℕ × Topic × Stamp)). z ++ (n, t, released_frontier t past) ∷ []) h.begun
          ∙ (ap (λ (z : Stamp). numbered 0 (begins_in w) ++ (n, t, z) ∷ []) (sym f)
          ∙ (ap (λ (z : ℕ). numbered 0 (begins_in w) ++ (z, t, (topic_at w t).frontier) ∷ []) (let i : n ≡ 0 + length (begins_in w) = omega arith in i)
          ∙ (sym (numbered_push 0 (begins_in w) x) ∙ ap (numbered 0) (sym m))));
    }

-- ---- each move

same : {beginning : ℕ → Beginning} {told : List (ℕ × Topic × Stamp)} {before after : List Beginning} → after ≡ before → Starts beginning told before → Starts beginning told after
same {beginning} {told} e h = subst (Starts beginning told) (sym e) h

happens : (r : Run) (e : Move) → Started (answers_of r) (final_world r) → move_refusal (final_world r) e ≡ None → InEachCase (λ v o. Started (o ∷ answers_of r) v) (final_world r) e
happens r (Subscribes c t) h n = let w = final_world r in always (begins (answers_of r) w c t (frontier_is (tickets (answers_of r)) w t (reached r).inv ∙ frontier_of r t) h)
happens r (Unsubscribes c s) h n = (h, λ k. same (map_set (final_world r).subscriptions s _ refl) h)
happens r (Leaves c) h n = (h, λ s. (h, λ k. same (map_set (final_world r).subscriptions s.it _ refl) h))
happens r (Takes s) h n = (h, λ k. same (map_set (final_world r).subscriptions s _ refl) h)
happens r _ h n = (h, λ k. h)

started_run : (r : Run) → Started (answers_of r) (final_world r)
started_run = by_runs_moves Started (λ capacity log_limit clocks. record { beginnings = λ s. refl; begun = refl }) (λ past w why h. h) happens

-- after each run a subscription began as it was answered
pub beginning_is : (r : Run) (s : ℕ) → beginning_of s (answers_of r) ≡ begin_of (subscription_at (final_world r) s)
beginning_is r s = (started_run r).beginnings s ∙ get_map (final_world r).subscriptions s

-- the subscriptions are those that were answered, in their order
pub begun_is : (r : Run) → begun_in (answers_of r) ≡ numbered 0 (begins_in (final_world r))
begun_is r = (started_run r).begun

-- ---- what a move does to beginnings

-- none is changed, and at most one is added, of a connection that is there
abbrev AddsOne : World → World → Type 0
AddsOne w v = (begins_in v ≡ begins_in w) ⊎ ((x : Beginning) × (x.connection < length w.connections) × (begins_in v ≡ begins_in w ++ x ∷ []))

each_more : (w : World) (e : Move) → move_refusal w e ≡ None → InEachCase (λ v o. AddsOne w v) w e
each_more w (Subscribes c t) n =
    always (inr (record { connection = c; topic = t; from = (topic_at w t).frontier }, connection_there w c (checked w (Subscribes c t) n).0, map_push w.subscriptions _))
each_more w (Unsubscribes c s) n = (inl refl, λ k. inl (map_set w.subscriptions s _ refl))
each_more w (Leaves c) n = (inl refl, λ s. (inl refl, λ k. inl (map_set w.subscriptions s.it _ refl)))
each_more w (Takes s) n = (inl refl, λ k. inl (map_set w.subscriptions s _ refl))
each_more w _ n = (inl refl, λ k. inl refl)

-- so by a move
pub begins_more : (w : World) (e : Move) → move_refusal w e ≡ None → AddsOne w (move_effect w e)
begins_more w e n = by_found (λ v o. AddsOne w v) w e (each_more w e n)

-- there are as many beginnings as subscriptions
pub begins_count : (w : World) → length (begins_in w) ≡ length w.subscriptions
begins_count w = map_count w.subscriptions

-- each is its subscription's
pub begins_at : (w : World) (s : ℕ) → get_or (begins_in w) s no_beginning ≡ begin_of (subscription_at w s)
begins_at w s = get_map w.subscriptions s
