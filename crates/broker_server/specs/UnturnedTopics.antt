-- Which topics a connection has to turn, or to tell their heads of.
use Rattle.std.specs.Prelude.{◌≡◌, ◌⊎◌, Bool, true, false, ◌&&◌, not, List, [], ◌∷◌, ◌++◌, ◌==◌}
use Rattle.std.specs.List.{list_any}
use Rattle.mcast_txn.specs.declared.id.Topic.{Topic}

-- The topics at which a connection's transactions were proposed since they were turned, or their heads told.
-- topics: those that are known, the first that was first.
-- any: whether any topic may be one of them, since there was no memory for one.
pub record UnturnedTopics : Type 0 where
  pub topics : List Topic
  pub any : Bool

-- none
abbrev pub none_unturned : UnturnedTopics
none_unturned = record { topics = []; any = false }

-- this topic is one of these
abbrev pub is_unturned : Topic → List Topic → Bool
is_unturned topic topics = list_any (λ other. other.0 == topic.0) topics

-- No topic stands twice. So topics 3, 5 stand once each, and of 3, 5, 3 one stands twice.
abbrev pub each_once : List Topic → Bool
each_once [] = true
each_once (topic ∷ topics) = not (is_unturned topic topics) && each_once topics

-- A topic comes to them: unless it is one already, it comes behind the others, or, where there is no memory
-- for it, any topic may be one of them. So after topics 3, 5 and 3 again, they are 3 and 5.
abbrev pub AddsUnturned : UnturnedTopics → Topic → UnturnedTopics → Type 0
AddsUnturned old topic new =
    ((is_unturned topic old.topics ≡ true) × (new ≡ old))
    ⊎ ((is_unturned topic old.topics ≡ false)
    × ((new ≡ record old { topics = old.topics ++ topic ∷ [] }) ⊎ (new ≡ record old { any = true })))
