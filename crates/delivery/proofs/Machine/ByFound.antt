-- What a move makes, by what its effect finds: a commit's SENDs, the entry of a subscription, the oldest subscription that is left, a fault, a
-- leftover, a verdict, a part that is due, or an item. What holds in each case holds of what the move makes; so an invariant has one row for
-- all moves that leave what it speaks of.
use Rattle.delivery.proofs.Words.All.{◌≡◌, List, [], ◌∷◌, Option, Some, None, refl, slice_get, is_some, false, true≢false, SentMessage, due_part, after_release, World, Move, Answer, move_effect, move_answer, topic_at, with_topic, speaker, subscription_at, entry_at, accepted_at, queue_has_room, find_leftover, find_verdict, oldest_live, commit_effect, commit_answer, close_effect_of, end_now, leave_effect, leave_answer, proposal_fault, propose_effect, propose_answer, cancel_effect, cancel_answer, learn_effect, release_answer, take_effect, take_answer, Commits, Unsubscribes, Leaves, Proposes, Cancels, Learns, Releases, Takes, Done, Gone, Learnt, Unsubscribed, Cancelled, Released, Handed}

-- what an option has
pub record Found {X : Type 0} (o : Option X) : Type 0 where
  pub it : X
  pub is : o ≡ Some it

-- what holds of nothing, and of whatever is found, holds of what is there
pub found : {X : Type 0} (P : Option X → Type 0) (o : Option X) → P None → ((k : Found o) → P (Some k.it)) → P o
found P None h g = h
found P (Some x) h g = g (record { it = x; is = refl })

-- an option that has no value is None
pub none_of : {X : Type 0} (o : Option X) → is_some o ≡ false → o ≡ None
none_of None e = refl
none_of (Some x) e = absurd (true≢false e)

-- P holds of the world and the answer where nothing is found, and where something is
abbrev pub InEachCase : (World → Answer → Type 0) → World → Move → Type 0
InEachCase P w (Commits c sends) = P w Done × ((k : SentMessage × List SentMessage) → P (commit_effect w c (k.0 ∷ k.1)) (commit_answer w c (k.0 ∷ k.1)))
InEachCase P w (Unsubscribes c s) = P w (Unsubscribed s (end_now w s)) × ((k : Found (entry_at w s)) → P (close_effect_of w s (Some k.it)) (Unsubscribed s (end_now w s)))
InEachCase P w (Leaves c) = P (leave_effect w c None) (Gone c)
    × ((s : Found (oldest_live c 0 w.subscriptions))
    → P w (Unsubscribed s.it (end_now w s.it)) × ((k : Found (entry_at w s.it)) → P (close_effect_of w s.it (Some k.it)) (Unsubscribed s.it (end_now w s.it))))
InEachCase P w (Proposes c t memory) = P (propose_effect w c t None) (propose_answer w c t None)
    × ((k : Found (proposal_fault w c t memory)) → P (propose_effect w c t (Some k.it)) (propose_answer w c t (Some k.it)))
InEachCase P w (Cancels c t) = P w Done × ((k : Found (find_leftover t (speaker w c).leftovers)) → P (cancel_effect w c t (Some k.it)) (Cancelled k.it.id t))
InEachCase P w (Learns t id) = P w (Learnt id t) × ((k : Found (find_verdict id w.verdicts)) → P (learn_effect w t id (Some k.it)) (Learnt id t))
InEachCase P w (Releases t) = P (move_effect w (Releases t)) Done × ((k : Found (due_part (topic_at w t))) → P (move_effect w (Releases t)) (Released t k.it.part.id))
InEachCase P w (Takes s) = P (take_effect w s None) (take_answer w s None)
    × ((k : Found (slice_get (accepted_at w s) (subscription_at w s).taken)) → P (take_effect w s (Some k.it)) (Handed s k.it))
InEachCase P w e = P (move_effect w e) (move_answer w e) × (Unit {0} → P (move_effect w e) (move_answer w e))

-- so it holds of what the move makes
pub by_found : (P : World → Answer → Type 0) (w : World) (e : Move) → InEachCase P w e → P (move_effect w e) (move_answer w e)
by_found P w (Commits c []) h = h.0
by_found P w (Commits c (first ∷ others)) h = h.1 (first, others)
by_found P w (Unsubscribes c s) h = found (λ o. P (close_effect_of w s o) (Unsubscribed s (end_now w s))) (entry_at w s) h.0 h.1
by_found P w (Leaves c) h = found (λ o. P (leave_effect w c o) (leave_answer w c o)) (oldest_live c 0 w.subscriptions) h.0
    (λ s. found (λ o. P (close_effect_of w s.it o) (Unsubscribed s.it (end_now w s.it))) (entry_at w s.it) (h.1 s).0 (h.1 s).1)
by_found P w (Proposes c t memory) h = found (λ o. P (propose_effect w c t o) (propose_answer w c t o)) (proposal_fault w c t memory) h.0 h.1
by_found P w (Cancels c t) h = found (λ o. P (cancel_effect w c t o) (cancel_answer t o)) (find_leftover t (speaker w c).leftovers) h.0 h.1
by_found P w (Learns t id) h = found (λ o. P (learn_effect w t id o) (Learnt id t)) (find_verdict id w.verdicts) h.0 h.1
by_found P w (Releases t) h = found (λ o. P (with_topic w t (after_release (queue_has_room w) (topic_at w t))) (release_answer t o)) (due_part (topic_at w t)) h.0 h.1
by_found P w (Takes s) h = found (λ o. P (take_effect w s o) (take_answer w s o)) (slice_get (accepted_at w s) (subscription_at w s).taken) h.0 h.1
by_found P w _ h = h.0

-- what holds whatever is found
pub always : {A B : Type 0} → A → A × (B → A)
always h = (h, λ k. h)
