-- The item that is handed on is the next that is due, as the account counts.
use Rattle.delivery.proofs.Words.All.{◌≡◌, ℕ, zero, suc, ◌<◌, Bool, true, false, cond, not, ◌&&◌, List, [], ◌∷◌, map, length, Option, Some, None, refl, sym, ap, subst, ◌∙◌, take-map, get_or_from_slice_get, take, slice_get, filter, Topic, Stamp, stamp_lt, CommitRow, agreed, stamp_of, Rises, Item, topics_of, Rises-sorted, none_some, due, is_due, item_at, Run, answers_of, final_world, accepted_at, end_at, frontier_at, subscription_at, commits_of, delivered_items, Beginning, no_item, beginning_of, next_item, released_frontier}
use Rattle.mcast_txn.specs.TopicSet.{names as names_topic}
use Rattle.delivery.specs.Core.Account.{due_to}
use Rattle.delivery.proofs.Theorem.AcceptedIsDue.{reached, accepted_is_due}
use Rattle.delivery.proofs.Theorem.LogIsOfAnswers.{front}
use Rattle.delivery.proofs.Theorem.HandedIsPrefix.{handing}
use Rattle.delivery.proofs.Core.Said.{said, commits_said, delivered_said, beginning_said, released_frontier_said}
use Rattle.delivery.proofs.Core.Started.{begin_of, beginning_is, frontier_of}

filter_same : {X : Type 0} (p q : X → Bool) (xs : List X) → ((x : X) → p x ≡ q x) → filter p xs ≡ filter q xs
filter_same p q [] h = refl
filter_same p q (x ∷ xs) h = ap (λ (b : Bool). cond b (x ∷ filter p xs) (filter p xs)) (h x) ∙ ap (λ z. cond (q x) (x ∷ z) z) (filter_same p q xs h)

bound_last : (a b c d : Bool) → (a && (b && c) && d) ≡ ((a && (b && true) && d) && c)
bound_last true true true true = refl
bound_last true true false true = refl
bound_last _ _ _ _ = refl

-- what is in a front of a list is at the same place in the list
in_front : {X : Type 0} (n i : ℕ) (xs : List X) (x : X) → slice_get (take n xs) i ≡ Some x → slice_get xs i ≡ Some x
in_front zero i xs x e = none_some x e
in_front (suc n) i [] x e = e
in_front (suc n) zero (y ∷ ys) x e = e
in_front (suc n) (suc i) (y ∷ ys) x e = in_front n i ys x e

-- what is due up to an end is the front of what is due
due_front : (t : Topic) (from : Stamp) (to : Option Stamp) (f : Stamp) (rows : List CommitRow) → Rises stamp_of (agreed rows) → (i : ℕ) (item : Item)
    → slice_get (due rows (record { topic = t; from = from; to = to }) f) i ≡ Some item → slice_get (due rows (record { topic = t; from = from; to = None }) f) i ≡ Some item
due_front t from None f rows up i item e = e
due_front t from (Some end) f rows up i item e =
    let all : CommitRow → Bool = is_due (record { topic = t; from = from; to = None }) f in
    let some : CommitRow → Bool = is_due (record { topic = t; from = from; to = Some end }) f in let q : CommitRow → Bool = λ r. all r && not (stamp_lt end r.stamp) in
    let a : filter some (agreed rows) ≡ filter q (agreed rows) =
    filter_same some q (agreed rows)
    (λ r. bound_last (names_topic t (topics_of r.txn.sends)) (stamp_lt from r.stamp) (not (stamp_lt end r.stamp)) (not (stamp_lt f r.stamp))) in
    let n = length (filter q (agreed rows)) in let b : filter some (agreed rows) ≡ take n (filter all (agreed rows)) = a ∙ front all end (agreed rows) up in
    in_front n i (map (item_at t) (filter all (agreed rows))) item
    (subst (λ z. slice_get z i ≡ Some item) (ap (map (item_at t)) b ∙ sym (take-map (item_at t) n (filter all (agreed rows)))) e)

-- the item that is handed on is the next that is due, as the account counts
due_next : (r : Run) (s : ℕ) (item : Item) → s < length (final_world r).subscriptions
    → slice_get (accepted_at (final_world r) s) (subscription_at (final_world r) s).taken ≡ Some item
    → slice_get (due_to s (said (answers_of r))) (length (delivered_items s (said (answers_of r)))) ≡ Some item
due_next r s item l e =
    let w = final_world r in let past = answers_of r in let x = subscription_at w s in let h = reached r in let cs = commits_of past in
    let up : Rises stamp_of (agreed cs) = subst (λ z. Rises stamp_of (agreed z)) (sym h.commits) (Rises-sorted stamp_of w.commits h.inv.consistent.apart) in
    let b : beginning_of s (said past) ≡ begin_of x = beginning_said s past ∙ beginning_is r s in
    let n : length (delivered_items s (said past)) ≡ x.taken =
    ap (λ (z : List Item). length z) (delivered_said s past) ∙ sym ((handing r).held s l).count in
    let dues : due_to s (said past) ≡ due cs (record { topic = x.topic; from = x.from; to = None }) (frontier_at w x.topic) =
    ap (λ z. due z (record { topic = (beginning_of s (said past)).topic; from = (beginning_of s (said past)).from; to = None })
    (released_frontier (beginning_of s (said past)).topic (said past))) (commits_said past)
    ∙ (ap (λ (z : Beginning). due cs (record { topic = z.topic; from = z.from; to = None }) (released_frontier z.topic (said past))) b
    ∙ ap (λ z. due cs (record { topic = x.topic; from = x.from; to = None }) z) (released_frontier_said x.topic past ∙ sym (frontier_of r x.topic))) in
    let here : slice_get (due cs (record { topic = x.topic; from = x.from; to = None }) (frontier_at w x.topic)) x.taken ≡ Some item =
    due_front x.topic x.from (end_at w s) (frontier_at w x.topic) cs up x.taken item
    (subst (λ z. slice_get z x.taken ≡ Some item) (accepted_is_due r s l) e) in
    ap (λ z. slice_get z (length (delivered_items s (said past)))) dues
    ∙ (ap (λ (k : ℕ). slice_get (due cs (record { topic = x.topic; from = x.from; to = None }) (frontier_at w x.topic)) k) n ∙ here)

pub next_item_is : (r : Run) (s : ℕ) (item : Item) → s < length (final_world r).subscriptions
    → slice_get (accepted_at (final_world r) s) (subscription_at (final_world r) s).taken ≡ Some item → next_item s (said (answers_of r)) ≡ item
next_item_is r s item l e = get_or_from_slice_get (due_to s (said (answers_of r))) (length (delivered_items s (said (answers_of r)))) item no_item (due_next r s item l e)

-- whose a subscription is, as the account has it
pub connection_is : (r : Run) (s : ℕ) → (beginning_of s (said (answers_of r))).connection ≡ (subscription_at (final_world r) s).connection
connection_is r s = ap (λ (z : Beginning). z.connection) (beginning_said s (answers_of r) ∙ beginning_is r s)
