-- What an event makes of a topic: nothing, or one of a topic's own steps. So what holds from a topic to itself and to what each of these
-- makes of it holds over each event.
use Rattle.std.proofs.Common.{ℕ, Bool, List, set, length, Option}
use Rattle.delivery.proofs.Words.All.{new_topic, part_at, Decision, Topic, TxnId, Stamp, TopicPart, TopicState, Entry, after_subscribe, after_propose, after_cancel, after_learn, after_release, after_turn, after_unsubscribe, decided_stamp, World, topic_at, speaker, subscription_at, Move, world_after, verdict_in, undecided_at, queue_has_room, AddsTopic, Subscribes, Unsubscribes, Leaves, Proposes, Cancels, Learns, Releases, Turns}
use Rattle.delivery.proofs.Words.Steps.{topic_in, at_topic_from, at_added, by_refusal, by_found, InEachCase, always}

-- it holds from each topic to itself, and to what each step makes of it; and to a new topic, if to one of clock 0
pub record Steps (R : TopicState → TopicState → Type 0) : Type 0 where
  pub same : (x : TopicState) → R x x
  pub subscribed : (n : ℕ) (x : TopicState) → R x (after_subscribe n x)
  pub unsubscribed : (s : ℕ) (x : TopicState) → R x (after_unsubscribe s x)
  pub proposed : (floor : Stamp) (part : TopicPart) (x : TopicState) → R x (after_propose floor part x)
  pub cancelled : (id : TxnId) (x : TopicState) → R x (after_cancel id x)
  pub learned : (id : TxnId) (stamp : Stamp) (x : TopicState) → R x (after_learn id stamp x)
  pub released : (takes : Entry → Bool) (x : TopicState) → R x (after_release takes x)
  pub turned : (takes : Entry → Bool) (find : TxnId → Option Decision) (x : TopicState) → R x (after_turn takes find x)
  pub added : (x : TopicState) (t : Topic) (log_limit clock : ℕ) → R x (new_topic t 0 0) → R x (new_topic t log_limit clock)

-- from each topic to that of its number
abbrev Each : (TopicState → TopicState → Type 0) → List TopicState → List TopicState → Type 0
Each R old new = (u : Topic) → R (topic_in old u) (topic_in new u)

module _ (R : TopicState → TopicState → Type 0) (steps : Steps R) where
  still : (topics : List TopicState) → Each R topics topics
  still topics u = steps.same (topic_in topics u)

  stepped : (topics : List TopicState) (t : Topic) (y : TopicState) → R (topic_in topics t) y → Each R topics (set topics t.0 y)
  stepped topics t y h u = at_topic_from (λ v z. R (topic_in topics v) z) topics t u y (λ k. h) (still topics u)

  effect : (w : World) (e : Move) → InEachCase (λ v o. Each R w.topics v.topics) w e
  effect w (AddsTopic clock) = always (λ u.
      at_added (λ v z. R (topic_in w.topics u) z) w.topics w.log_limit clock u (steps.added (topic_in w.topics u) u w.log_limit clock) (still w.topics u))
  effect w (Subscribes c t) = always (stepped w.topics t _ (steps.subscribed (length w.subscriptions) (topic_at w t)))
  effect w (Unsubscribes c s) = (still w.topics, λ k. stepped w.topics (subscription_at w s).topic _ (steps.unsubscribed s (topic_at w (subscription_at w s).topic)))
  effect w (Leaves c) =
      (still w.topics, λ s. (still w.topics, λ k. stepped w.topics (subscription_at w s.it).topic _ (steps.unsubscribed s.it (topic_at w (subscription_at w s.it).topic))))
  effect w (Proposes c t memory) =
      let f = undecided_at w c in (stepped w.topics t _ (steps.proposed (speaker w c).floor (part_at f.txn.id f.txn.sends t) (topic_at w t)), λ k. still w.topics)
  effect w (Cancels c t) = (still w.topics, λ k. stepped w.topics t _ (steps.cancelled k.it.id (topic_at w t)))
  effect w (Learns t id) = (still w.topics, λ v. stepped w.topics t _ (steps.learned id (decided_stamp v.it) (topic_at w t)))
  effect w (Releases t) = always (stepped w.topics t _ (steps.released (queue_has_room w) (topic_at w t)))
  effect w (Turns t) = always (stepped w.topics t _ (steps.turned (queue_has_room w) (verdict_in w) (topic_at w t)))
  effect w _ = (still w.topics, λ k. still w.topics)

  -- so it holds from each topic to what any event makes of it
  pub topic_after : (w : World) (e : Move) (u : Topic) → R (topic_at w u) (topic_at (world_after w e) u)
  topic_after w e u = by_refusal (λ v o. R (topic_at w u) (topic_at v u)) w e (λ why. still w.topics u)
      (λ n. by_found (λ v o. Each R w.topics v.topics) w e (effect w e) u)
