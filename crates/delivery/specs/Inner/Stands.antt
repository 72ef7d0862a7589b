-- Only serves proofs: the cores that a run leads to, and what a call of the code makes of one.
use Rattle.std.specs.Prelude.{◌≡◌, ℕ, List, length, Option, Some, None, Result, Ok, Err}
use Rattle.delivery.specs.declared.event.Event.{Event}
use Rattle.delivery.specs.declared.outcome.Outcome.{Outcome}
use Rattle.delivery.specs.declared.refusal.Refusal.{Refusal}
use Rattle.delivery.specs.declared.stage.Stage.{Stage}
use Rattle.delivery.specs.Topics.{TopicList}
use Rattle.delivery.specs.Machine.Objections.{Objection, refusal_of}
use Rattle.delivery.specs.Core.Steps.{CoreStep, Reading}
use Rattle.delivery.specs.Core.State.{Core, core_of, core_after}
use Rattle.delivery.specs.Core.Outcomes.{IsCoreRun, MayStep}
use Rattle.delivery.specs.Inner.View.{View, EndpointView, view_of}

-- ---- checks

-- what stands against reading a connection of this stage
abbrev pub stage_objection : Stage → Option Objection
stage_objection (Stage.Open endpoint) = None
stage_objection (Stage.Leaving parting) = Some Objection.Busy
stage_objection Stage.Gone = Some Objection.Gone

-- the same of an endpoint, if there is one
abbrev pub endpoint_objection : Option EndpointView → Option Objection
endpoint_objection None = Some Objection.NoConn
endpoint_objection (Some endpoint) = stage_objection endpoint.stage

-- the check passes where nothing stands against it, and otherwise reports what does
abbrev pub IsChecked : Result Unit Refusal → Option Objection → Type 0
IsChecked (Ok passed) why = why ≡ None
IsChecked (Err refusal) why = (o : Objection) × (why ≡ Some o) × (refusal_of o ≡ Some refusal)

-- ---- steps

-- a run of the core leads to this core; each of its topics has a name and an opening clock
pub record IsReached (k : Core) : Type 0 where
  pub topics : TopicList
  pub capacity : ℕ
  pub steps : List CoreStep
  pub as_many : length topics.clocks ≡ length topics.names
  pub is : k ≡ core_of topics capacity steps
  pub run : IsCoreRun topics capacity steps

-- this is held of a core that a run leads to
abbrev pub IsHeld : View → Type 0
IsHeld held = (k : Core) × IsReached k × (held ≡ view_of k)

-- this event, what it read and its outcome, as a step
abbrev pub step_of : Event → Reading → Outcome → CoreStep
step_of e reading o = record { event = e; reading = reading; outcome = o }

-- the core may answer the event so, and this is the view of what it is then
pub record Makes (k : Core) (e : Event) (o : Outcome) (new : View) : Type 0 where
  pub reading : Reading
  pub may : MayStep k (step_of e reading o)
  pub view : new ≡ view_of (core_after k (step_of e reading o))
