-- What a run makes of its connections: which subscriptions a session has open, what an UNSUBSCRIBE finds,
-- and that an event of one connection changes no other.
use Rattle.std.specs.Prelude.{◌≡◌, ◌≢◌, ℕ, ◌+◌, true, List, [], ◌∷◌, map, length, Option, Some, None, if◌then◌else◌}
use Rattle.stomp_frame.specs.declared.command.Command.{Command}
use Rattle.stomp_frame.specs.declared.raw_frame.RawFrame.{RawFrame}
use Rattle.mcast_txn.specs.declared.id.Topic.{Topic}
use Rattle.mcast_txn.specs.Checks.{first_refusal}
use Rattle.stomp_session.specs.Answers.{action_by}
use Rattle.stomp_session.specs.Frames.{id_of}
use Rattle.stomp_session.specs.Open.{state_of}
use Rattle.stomp_session.specs.Refusals.{session_fault}
use Rattle.delivery.specs.declared.event.Event.{Event}
use Rattle.delivery.specs.Topics.{TopicList}
use Rattle.delivery.specs.Machine.Objections.{Objection}
use Rattle.delivery.specs.Machine.World.{World, Subscription, is_reading, connection_at, subscription_at}
use Rattle.delivery.specs.Machine.Moves.{Move, is_live, needs_idle, move_refusal}
use Rattle.delivery.specs.Core.Steps.{CoreStep, accepted_of, number_by}
use Rattle.delivery.specs.Core.Output.{text_out, sub_id_text}
use Rattle.delivery.specs.Core.State.{Core, core_for, core_of, core_after, frame_move, session_at, unread_at}
use Rattle.delivery.specs.Core.Outcomes.{IsCoreRun, claim_fault}

-- The numbers of the connection's subscriptions that aren't closed, where the first has number i. So where
-- connection 0 began 0 and 2, connection 1 began 1, and 0 was closed, those of 0 from 0 on are 2.
abbrev pub live_numbers : ℕ → ℕ → List Subscription → List ℕ
live_numbers c i [] = []
live_numbers c i (x ∷ xs) =
    if is_live c x then i ∷ live_numbers c (i + 1) xs else live_numbers c (i + 1) xs

-- a subscription as its session has it: its id, as its SUBSCRIBE spells it, and its topic
abbrev pub live_sub : World → List CoreStep → ℕ → List ℕ × Topic
live_sub w steps s = (sub_id_text s steps, (subscription_at w s).topic)

-- The connection that an event is of, if there is one: an Open's is the new one, a Take's that of its
-- subscription.
abbrev pub event_connection : World → Event → Option ℕ
event_connection w Event.Open = Some (length w.connections)
event_connection w (Event.Piece c octets) = Some c
event_connection w (Event.Next c) = Some c
event_connection w (Event.Propose c t) = Some c
event_connection w (Event.Decide c) = Some c
event_connection w (Event.Withdraw c) = Some c
event_connection w (Event.Cancel c t) = Some c
event_connection w (Event.Learn t id) = None
event_connection w (Event.Release t) = None
event_connection w (Event.Turn t) = None
event_connection w (Event.Take s) = Some (subscription_at w s).connection
event_connection w (Event.Leave c) = Some c
event_connection w (Event.Lost c) = Some c

-- Nothing of connection c is changed.
-- standing: its sender, and whether it is open, leaving or gone.
-- unread: what its reader stands for.
-- accepted: the frames that its session has accepted.
-- session: what its session has open, though another connection's frame may make a topic.
-- text: the octets that were written to it.
pub record KeepsConnection (before after : Core) (c : ℕ) : Type 0 where
  pub standing : connection_at after.world c ≡ connection_at before.world c
  pub unread : unread_at c after.steps ≡ unread_at c before.steps
  pub accepted : accepted_of c after.steps ≡ accepted_of c before.steps
  pub session : state_of (session_at after c) ≡ state_of (session_at before c)
  pub text : text_out after.names c after.steps ≡ text_out before.names c before.steps

-- ---- of every run, over all topics with their opening clocks and all capacities

-- What an open connection's session has open are the connection's subscriptions that aren't closed, in order.
abbrev pub OpenAreLive : Type 0
OpenAreLive =
    (topics : TopicList) (capacity : ℕ) (steps : List CoreStep) → length topics.clocks ≡ length topics.names
    → IsCoreRun topics capacity steps → (c : ℕ)
    → let k = core_of topics capacity steps in is_reading (connection_at k.world c).standing ≡ true
    → (session_at k c).subscriptions
    ≡ map (live_sub k.world k.steps) (live_numbers c 0 k.world.subscriptions)

-- Nothing stands against the end of the subscription that an accepted UNSUBSCRIBE names: it is there, it is
-- the connection's, and it isn't closed.
abbrev pub UnsubscribesFind : Type 0
UnsubscribesFind =
    (topics : TopicList) (capacity : ℕ) (steps : List CoreStep) → length topics.clocks ≡ length topics.names
    → IsCoreRun topics capacity steps → (c : ℕ) (f : RawFrame) → f.command ≡ Command.Unsubscribe
    → let k = core_of topics capacity steps in first_refusal (needs_idle k.world c) ≡ None
    → session_fault (session_at k c) f ≡ None
    → move_refusal k.world (Move.Unsubscribes c (number_by c (id_of f) k.steps)) ≡ None

-- Of a frame that its session and its claim let pass, the machine refuses nothing but a transaction of a
-- sender whose numbers are used up.
abbrev pub FramesPass : Type 0
FramesPass =
    (topics : TopicList) (capacity : ℕ) (steps : List CoreStep) → length topics.clocks ≡ length topics.names
    → IsCoreRun topics capacity steps → (c : ℕ) (f : RawFrame) (move : Move) (why : Objection)
    → let k = core_of topics capacity steps in let action = action_by f.command (session_at k c) f in
    first_refusal (needs_idle k.world c) ≡ None
    → session_fault (session_at k c) f ≡ None → claim_fault k action ≡ None
    → frame_move k c action ≡ Some move → move_refusal (core_for k f).world move ≡ Some why
    → why ≡ Objection.SeqFull

-- A step changes no connection but its event's own.
abbrev pub OtherConnectionsStay : Type 0
OtherConnectionsStay =
    (topics : TopicList) (capacity : ℕ) (step : CoreStep) (older : List CoreStep)
    → IsCoreRun topics capacity (step ∷ older) → (c : ℕ)
    → let k = core_of topics capacity older in event_connection k.world step.event ≢ Some c
    → KeepsConnection k (core_after k step) c
