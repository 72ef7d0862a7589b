-- The core: its opening topics' names, the machine of topics and transactions, and the steps so far, from
-- which all else of it is read.
use Rattle.std.specs.Prelude.{ℕ, ◌==◌, Bool, true, false, not, ◌&&◌, List, [], ◌∷◌, Option, Some, None, Ok, Err, if◌then◌else◌, ◌++◌, codes}
use Rattle.std.specs.Option.{option_to_list, option_map_or}
use Rattle.stomp_frame.specs.declared.raw_frame.RawFrame.{RawFrame}
use Rattle.stomp_frame.specs.Faults.{fault_of}
use Rattle.stomp_frame.specs.Reader.{Unread, unread_of, with_piece, ReadsNext}
use Rattle.mcast_group.specs.declared.fault.ProposeFault.{ProposeFault}
use Rattle.stomp_session.specs.declared.action.Action.{Action}
use Rattle.stomp_session.specs.declared.action.Action.TheVariants as actions
use Rattle.stomp_session.specs.Names.{is_known}
use Rattle.stomp_session.specs.Frames.{field, has_destination}
use Rattle.stomp_session.specs.Open.{Held, held_after}
use Rattle.stomp_session.specs.Answers.{action_by}
use Rattle.delivery.specs.declared.event.Event.{Event}
use Rattle.delivery.specs.declared.outcome.Outcome.{Outcome}
use Rattle.delivery.specs.Topics.{TopicList}
use Rattle.delivery.specs.Machine.World.{World, start}
use Rattle.delivery.specs.Machine.Moves.{Move}
use Rattle.delivery.specs.Machine.Runs.{run}
use Rattle.delivery.specs.Core.Steps.{CoreStep, Reading, frame_in, has_effect, is_fed, accepted_of, names_after, number_by, reader_limits}
use Rattle.delivery.specs.Core.Claims.{claims_of, claimed_sender}
use Rattle.delivery.specs.Core.Output.{is_cut}

-- the names of the topics that it began with, the machine, and the steps, the newest first
pub record Core : Type 0 where
  pub names : List (List ℕ)
  pub world : World
  pub steps : List CoreStep

-- how many rows a topic of a core holds: it is never drained
abbrev pub log_limit : ℕ
log_limit = 65536

-- a core of these topics, whose queues have this capacity, before its first event
abbrev pub new_core : TopicList → ℕ → Core
new_core topics capacity =
    record { names = topics.names; world = start capacity log_limit topics.clocks; steps = [] }

-- ---- what a connection's reader stands for

-- what a reader stands for after it read this
abbrev pub left_by : Unread → Reading → Unread
left_by u Reading.Nothing = u
left_by u (Reading.Waits left) = left
left_by u (Reading.Finds f left) = left
left_by u (Reading.Fails k left) = left

-- what the reader of connection c stands for after an event
abbrev pub unread_after : ℕ → Unread → Event → Reading → Outcome → Unread
unread_after c u (Event.Piece d octets) reading o = if d == c && is_fed o then with_piece u octets else u
unread_after c u (Event.Next d) reading o = if d == c then left_by u reading else u
unread_after c u e reading o = u

-- what the reader of connection c stands for
abbrev pub unread_at : ℕ → List CoreStep → Unread
unread_at c [] = unread_of reader_limits
unread_at c (step ∷ older) =
    unread_after c (unread_at c older) step.event step.reading step.outcome

-- a reader that stands for this text reads this; where it found no memory, nothing
abbrev pub IsReadBy : Unread → Reading → Type 0
IsReadBy u Reading.Nothing = Unit {0}
IsReadBy u (Reading.Waits left) = ReadsNext u (Ok None) left
IsReadBy u (Reading.Finds f left) = ReadsNext u (Ok (Some f)) left
IsReadBy u (Reading.Fails k left) = ReadsNext u (Err (fault_of k)) left

-- ---- what a connection's session holds

-- the topics' names so far: the opening names, and behind them those of the topics that were made since
abbrev pub names_at : Core → List (List ℕ)
names_at k = names_after k.names k.steps

-- what is open after the connection's accepted frames
abbrev pub session_at : Core → ℕ → Held
session_at k c = held_after (names_at k) (accepted_of c k.steps)

-- ---- which moves of the machine an event is

-- what an accepted frame asks of the machine, if it does: a CONNECT that its connection speaks for the sender
-- of its client-id, or a new one, an UNSUBSCRIBE the end of the subscription that its id names
abbrev pub frame_move : Core → ℕ → Action → Option Move
frame_move k c (actions.Connected client) =
    Some (Move.Connects c (claimed_sender client (claims_of k.steps)))
frame_move k c actions.Nothing = None
frame_move k c (actions.Subscribe id t) = Some (Move.Subscribes c t)
frame_move k c (actions.Unsubscribe id) = Some (Move.Unsubscribes c (number_by c id k.steps))
frame_move k c (actions.Commit sends) = Some (Move.Commits c sends)
frame_move k c actions.Disconnect = Some (Move.Disconnects c)

-- the move that makes a frame's topic, where its destination is none's yet
abbrev pub topic_moves : List (List ℕ) → RawFrame → List Move
topic_moves names f =
    if has_destination f.command && not (is_known (field (codes "destination") f) names)
    then Move.AddsTopic 0 ∷ [] else []

-- The core once a frame's destination has its topic, with clock 0 where the frame makes it. So a SEND to B,
-- where A alone is there, makes topic 1.
abbrev pub core_for : Core → RawFrame → Core
core_for k f = record k { world = run (topic_moves (names_at k) f) k.world }

-- an ERROR is answered, or was left out
abbrev pub is_faulted : Outcome → Bool
is_faulted (Outcome.Faulted fault cut) = true
is_faulted o = false

-- the proposal found no memory
abbrev pub is_out_of_memory : Outcome → Bool
is_out_of_memory (Outcome.Failed ProposeFault.NoMemory) = true
is_out_of_memory o = false

-- there was no memory, and nothing was done
abbrev pub is_no_memory : Outcome → Bool
is_no_memory Outcome.NoMemory = true
is_no_memory o = false

-- those of a Next: of an accepted frame the one that makes its topic, and its own; of an ERROR that the
-- connection is leaving; otherwise none
abbrev pub next_moves : Core → ℕ → Reading → Outcome → List Move
next_moves k c reading o =
    if is_faulted o then Move.Errs c ∷ []
    else (if has_effect o
    then
    option_map_or
    (λ f. topic_moves (names_at k) f
    ++ option_to_list (frame_move k c (action_by f.command (session_at k c) f)))
    (frame_in reading) []
    else [])

-- The moves of the machine that an event of the core is, with what was read and what came of it. A Decide
-- whose RECEIPT was left out is also the loss of its connection.
abbrev pub moves : Core → Event → Reading → Outcome → List Move
moves k Event.Open reading o = if is_no_memory o then [] else Move.Opens ∷ []
moves k (Event.Piece c octets) reading o = []
moves k (Event.Next c) reading o = next_moves k c reading o
moves k (Event.Propose c t) reading o = Move.Proposes c t (not (is_out_of_memory o)) ∷ []
moves k (Event.Decide c) reading o = Move.Decides c ∷ (if is_cut o then Move.Lost c ∷ [] else [])
moves k (Event.Withdraw c) reading o = Move.Withdraws c ∷ []
moves k (Event.Cancel c t) reading o = Move.Cancels c t ∷ []
moves k (Event.Learn t id) reading o = Move.Learns t id ∷ []
moves k (Event.Release t) reading o = Move.Releases t ∷ []
moves k (Event.Turn t) reading o = Move.Turns t ∷ []
moves k (Event.Take s) reading o = if is_no_memory o then [] else Move.Takes s ∷ []
moves k (Event.Leave c) reading o = Move.Leaves c ∷ []
moves k (Event.Lost c) reading o = Move.Lost c ∷ []

-- the core after a step: the machine after its moves, and the step
abbrev pub core_after : Core → CoreStep → Core
core_after k step = record {
  names = k.names;
  world = run (moves k step.event step.reading step.outcome) k.world;
  steps = step ∷ k.steps;
}

-- the core of these steps
abbrev pub core_of : TopicList → ℕ → List CoreStep → Core
core_of topics capacity [] = new_core topics capacity
core_of topics capacity (step ∷ older) = core_after (core_of topics capacity older) step
