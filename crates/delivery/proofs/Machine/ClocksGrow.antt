-- No event lowers a topic's clock.
use Rattle.std.proofs.Common.{◌≤◌, arith}
use Rattle.delivery.proofs.Words.All.{Topic, TopicState, release_keeps, turn_keeps, World, topic_at, Move, world_after}
use Rattle.delivery.proofs.Machine.TopicOfMove.{Steps, topic_after}

abbrev Grows : TopicState → TopicState → Type 0
Grows x y = x.clock ≤ y.clock

grows : Steps Grows
grows = record {
  same = λ x. omega arith;
  subscribed = λ n x. omega arith;
  unsubscribed = λ s x. omega arith;
  proposed = λ floor part x. omega arith;
  cancelled = λ id x. omega arith;
  learned = λ id stamp x. omega arith;
  released = λ takes x. release_keeps (λ z. x.clock ≤ z.clock) takes x (omega arith) (λ p e. omega arith);
  turned = λ takes find x. turn_keeps (λ z. x.clock ≤ z.clock) takes find (λ y id v f n k. omega arith) (λ y p e k. k) x (omega arith);
  added = λ x t log_limit clock k. (let m : x.clock ≤ 0 = k in omega arith);
}

-- no event lowers a topic's clock
pub clock_grows : (w : World) (e : Move) (u : Topic) → (topic_at w u).clock ≤ (topic_at (world_after w e) u).clock
clock_grows w e u = topic_after Grows grows w e u
