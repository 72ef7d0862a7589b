-- Only serves proofs: what a net keeps.
use Rattle.std.specs.Prelude.{◌≡◌, ◌≤◌, ℕ, List, map, length, reverse}
use Rattle.sender_gate.specs.Senders.{SendersState}
use Rattle.delivery.specs.declared.kept.Kept.{Kept}
use Rattle.delivery.specs.Topics.{TopicList, max_topics}
use Rattle.delivery.specs.Core.Steps.{CoreStep, kept_of}
use Rattle.delivery.specs.Core.State.{core_of}
use Rattle.delivery.specs.Core.Outcomes.{IsCoreRun}
use Rattle.delivery.specs.Inner.Clients.{AreClients}
use Rattle.delivery.specs.Inner.View.{View, view_of}

-- The kept run is one of a core, and what is held is the view of that core.
-- as_many: each topic has a name and an opening clock.
-- few: there are no more topics than a core may have.
-- steps: its steps, each a kept event with what it read, the newest first.
pub record KeepsRun (topics : TopicList) (capacity : ℕ) (kept : List Kept) (held : View) : Type 0 where
  pub as_many : length topics.clocks ≡ length topics.names
  pub few : length topics.clocks ≤ max_topics
  pub steps : List CoreStep
  pub are_kept : kept ≡ reverse (map kept_of steps)
  pub is_run : IsCoreRun topics capacity steps
  pub view : held ≡ view_of (core_of topics capacity steps)

-- so it is, and the senders beside it are those of that core
pub record KeepsBoth
    (topics : TopicList) (capacity : ℕ) (kept : List Kept) (held : View) (clients : SendersState)
    : Type 0 where
  pub run : KeepsRun topics capacity kept held
  pub claimed : AreClients (core_of topics capacity run.steps) clients
