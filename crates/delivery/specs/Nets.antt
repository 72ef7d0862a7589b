-- What a net shows, and what it reports.
use Rattle.std.specs.Prelude.{◌≡◌, ℕ, List, ◌∷◌, ◌++◌, map, length}
use Rattle.delivery.specs.declared.event.Event.{Event}
use Rattle.delivery.specs.declared.kept.Kept.{Kept}
use Rattle.delivery.specs.declared.outcome.Outcome.{Outcome}
use Rattle.delivery.specs.Topics.{TopicList}
use Rattle.delivery.specs.Machine.Moves.{Answer}
use Rattle.delivery.specs.Core.Steps.{CoreStep, kept_of, AreReadings}
use Rattle.delivery.specs.Core.Account.{account_of}
use Rattle.delivery.specs.Core.Told.{told_of}
use Rattle.delivery.specs.Core.State.{Core, core_of}
use Rattle.delivery.specs.Core.Outcomes.{IsCoreRun, MayStep}
use Rattle.delivery.specs.Core.Reports.{Report, report_of}
use Rattle.delivery.specs.Core.Delivery.{Delivers, IsWritten, kept_run}

-- The topics that it began with, the capacity of its queues, its kept run, the oldest event first, its steps,
-- and how many more events it has room to keep. The steps are the events of the kept run, the newest first,
-- each with what it read and its outcome: `IsDelivered` says which they are.
pub record KeptRun : Type 0 where
  pub topics : TopicList
  pub capacity : ℕ
  pub kept : List Kept
  pub steps : List CoreStep
  pub spare : ℕ

-- the greatest capacity of a queue
abbrev pub max_capacity : ℕ
max_capacity = 4096

-- the events of a kept run
abbrev pub events_of : List Kept → List Event
events_of kept = map (λ k. k.event) kept

-- The net has taken these events, in their order: each was kept, after all that was kept before, and nothing
-- else but the steps and the spare room has changed.
-- added: what was kept of them, each with its outcome.
pub record HasTaken (events : List Event) (old new : KeptRun) : Type 0 where
  pub added : List Kept
  pub are_events : events_of added ≡ events
  pub is_new : new ≡ record old { kept = old.kept ++ added; steps = new.steps; spare = new.spare }

-- the account of a net's steps
abbrev pub account_of_net : KeptRun → List Answer
account_of_net net = account_of net.topics.names net.steps

-- The core of a net: that of its topics and its capacity after its steps. So a net that kept nothing has
-- `new_core`, and one that kept an Open has the core after it.
abbrev pub core_of_net : KeptRun → Core
core_of_net net = core_of net.topics net.capacity net.steps

-- The net has answered the event by this outcome: its steps have one more, which its core could make.
-- step: the event, what it read, and its outcome.
pub record HasAnswered (event : Event) (outcome : Outcome) (old new : KeptRun) : Type 0 where
  pub step : CoreStep
  pub is_kept : kept_of step ≡ record { event = event; outcome = outcome }
  pub is_new : new.steps ≡ step ∷ old.steps
  pub may : MayStep (core_of_net old) step

-- The report is that of the net's core, which could make each of its steps.
-- as_many: each topic has a name and an opening clock.
-- is_run: each step was one that a core of these topics and this capacity could make.
pub record IsRunOfCore (net : KeptRun) (r : Report) : Type 0 where
  pub as_many : length net.topics.clocks ≡ length net.topics.names
  pub is_run : IsCoreRun net.topics net.capacity net.steps
  pub is_report : r ≡ report_of (core_of_net net)

-- What the net reports is delivered.
-- kept: what it kept is the run of its steps.
-- read: what was read of each connection are the first frames of its octets.
-- delivered: commits, logs, spans and queues are those that its steps tell.
-- written: what was written to each connection is what the steps say.
-- answered: the steps are a run of the core, and the report is its core's.
pub record IsDelivered (net : KeptRun) (r : Report) : Type 0 where
  pub kept : net.kept ≡ kept_run net.steps
  pub read : AreReadings net.steps
  pub delivered : Delivers net.capacity (told_of net.topics.names net.steps) r
  pub written : IsWritten net.topics.names net.steps r
  pub answered : IsRunOfCore net r

-- the report of the net's core is delivered
abbrev pub HasReport : KeptRun → Type 0
HasReport net = IsDelivered net (report_of (core_of_net net))
