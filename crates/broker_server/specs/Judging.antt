-- How a session judges a frame of one connection, of which others make topics, too.
use Rattle.std.specs.Prelude.{◌≡◌, ℕ, List, [], ◌∷◌, ◌++◌}
use Rattle.stomp_frame.specs.declared.raw_frame.RawFrame.{RawFrame}
use Rattle.stomp_session.specs.declared.action.Step.{Step}
use Rattle.stomp_session.specs.Answers.{Accepts, Refuses}
use Rattle.stomp_session.specs.Frames.{with_destination}
use Rattle.stomp_session.specs.Open.{SessionState, StandsFor, held_after}
use Rattle.delivery.specs.declared.connection_fault.ConnectionFault.TheVariants.{Session}
use Rattle.broker_server.specs.declared.conversation.conversation_fault.ConversationFault.{ConversationFault}
use Rattle.broker_server.specs.declared.conversation.conversation_fault.ConversationFault.TheVariants.{Connection, NoMemory}

-- others stand behind these names, or none: A and B grow to A, B and C, and to A and B
abbrev pub Grows : List (List ℕ) → List (List ℕ) → Type 0
Grows names known = (more : List (List ℕ)) × (known ≡ names ++ more)

-- By these names the session accepts the frame behind those that it accepted before, with this step; and the
-- names are then with the frame's destination, if it has one.
pub record IsFrameAccepted
    (f : RawFrame) (step : Step) (old : SessionState) (known : List (List ℕ)) (new : SessionState)
    (names : List (List ℕ))
    : Type 0 where
  pub judged : (frames : List RawFrame) → StandsFor old known frames
      → Accepts (held_after known frames) f step × StandsFor new names (frames ++ f ∷ [])
  pub named : names ≡ with_destination f known

-- By these names the session refuses the frame by this, by what those before it left; or there was no memory
-- for a name.
abbrev pub IsFrameRefused : RawFrame → ConversationFault → SessionState → List (List ℕ) → Type 0
IsFrameRefused f (Connection (Session why)) old known =
    (frames : List RawFrame) → StandsFor old known frames → Refuses (held_after known frames) f why
IsFrameRefused f NoMemory old known = Unit {0}
IsFrameRefused f _ old known = ⊥
