-- What a topic's log has stays: each event adds to its end alone.
use Rattle.std.proofs.Common.{refl}
use Rattle.delivery.proofs.Words.All.{Topic, due_part, World, topic_at, Move, world_after}
use Rattle.delivery.proofs.Machine.TopicOfMove.{Steps, topic_after}
use Rattle.delivery.proofs.Theorem.TurnIsItsSteps.{Longer, Longer-same, released_longer, turned_longer}

grows : Steps Longer
grows = record {
  same = λ x. Longer-same x x refl;
  subscribed = λ n x. Longer-same x _ refl;
  unsubscribed = λ s x. Longer-same x _ refl;
  proposed = λ floor part x. Longer-same x _ refl;
  cancelled = λ id x. Longer-same x _ refl;
  learned = λ id stamp x. Longer-same x _ refl;
  released = λ takes x. released_longer takes x (due_part x);
  turned = λ takes find x. turned_longer takes find x;
  added = λ x t log_limit clock k. record { rows = k.rows; is = k.is };
}

-- a topic's log is what it was, with more rows behind
pub log_grows : (w : World) (e : Move) (u : Topic) → Longer (topic_at w u) (topic_at (world_after w e) u)
log_grows w e u = topic_after Longer grows w e u
