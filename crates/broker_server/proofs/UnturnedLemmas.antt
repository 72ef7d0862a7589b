-- Topics that a connection has to turn stand once each.
use Rattle.std.proofs.Common.{◌≡◌, ℕ, true, false, List, [], ◌∷◌, ◌++◌, refl, arith}
use Rattle.std.specs.Prelude.{◌==◌}
use Rattle.std.proofs.lemmas.List.Folds.{list_any-append}
use Rattle.mcast_txn.specs.declared.id.Topic.{Topic}
use Rattle.broker_server.specs.UnturnedTopics.{each_once, is_unturned}

-- two numbers that differ, the other way round
pub differ : (a b : ℕ) → (a == b) ≡ false → (b == a) ≡ false
differ a b apart = grind arith

-- a topic that stands nowhere among others, which stand once each, may stand behind them
pub once_behind : (topic : Topic) (topics : List Topic) → is_unturned topic topics ≡ false → each_once topics ≡ true
    → each_once (topics ++ topic ∷ []) ≡ true
once_behind topic [] new once = refl
once_behind topic (first ∷ topics) new once = grind (arith, list_any-append (λ (other : Topic). other.0 == first.0) topics (topic ∷ []), differ first.0 topic.0, once_behind topic topics)
