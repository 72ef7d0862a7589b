-- What may come of an event: the outcome of its table, with the checks in their order, or one for want of
-- memory.
use Rattle.std.specs.Prelude.{◌≡◌, ℕ, Bool, true, false, ◌||◌, List, [], ◌∷◌, ◌++◌, length, Option, Some, None, if◌then◌else◌}
use Rattle.std.specs.List.{list_any}
use Rattle.std.specs.Option.{option_map, option_or, option_map_or, option_and_then, option_to_list}
use Rattle.stomp_frame.specs.declared.raw_frame.RawFrame.{RawFrame}
use Rattle.stomp_frame.specs.Cases.{case_fault}
use Rattle.mcast_txn.specs.Lists.{In}
use Rattle.mcast_txn.specs.Checks.{first_refusal}
use Rattle.stomp_session.specs.declared.action.Action.{Action}
use Rattle.stomp_session.specs.declared.action.Action.TheVariants as actions
use Rattle.stomp_session.specs.declared.fault.SessionFault.{SessionFault}
use Rattle.stomp_session.specs.Refusals.{session_fault}
use Rattle.stomp_session.specs.Answers.{action_by, takes_memory}
use Rattle.delivery.specs.declared.event.Event.{Event}
use Rattle.delivery.specs.declared.outcome.Outcome.{Outcome}
use Rattle.delivery.specs.declared.refusal.Refusal.{Refusal}
use Rattle.delivery.specs.declared.connection_fault.ConnectionFault.{ConnectionFault}
use Rattle.delivery.specs.Topics.{TopicList}
use Rattle.delivery.specs.Machine.Objections.{Objection, refusal_of}
use Rattle.delivery.specs.Machine.World.{is_in_use}
use Rattle.delivery.specs.Machine.Moves.{Move, Answer, needs_open, needs_idle, move_refusal, answer_to}
use Rattle.delivery.specs.Core.Steps.{CoreStep, Reading}
use Rattle.delivery.specs.Core.Claims.{claims_of, claimed_sender, is_one_too_many}
use Rattle.delivery.specs.Core.Account.{account_of}
use Rattle.delivery.specs.Core.Output.{next_replies, replies_to}
use Rattle.delivery.specs.Core.State.{Core, IsReadBy, unread_at, session_at, frame_move, core_for, core_of}

-- ---- the machine's answers, as the core reports them

-- An outcome of the machine's answer. None of an objection that the core doesn't report. An ERROR of the
-- machine's own is that of a queue that has lagged.
abbrev pub outcome_of : Answer → Option Outcome
outcome_of (Answer.Refused why) = option_map Outcome.Refused (refusal_of why)
outcome_of Answer.Done = Some Outcome.Done
outcome_of (Answer.Opened c) = Some (Outcome.Opened c)
outcome_of (Answer.Begun txn) = Some (Outcome.Flying txn.id)
outcome_of (Answer.Subscribed s c t from) = Some (Outcome.Subscribed s from)
outcome_of (Answer.Unsubscribed s to) = Some (Outcome.Unsubscribed s to)
outcome_of (Answer.Leaving c) = Some Outcome.Leaving
outcome_of (Answer.Error c) = Some (Outcome.Faulted ConnectionFault.Lagged false)
outcome_of (Answer.Gone c) = Some (Outcome.Gone false)
outcome_of (Answer.Ticket id ticket) = Some (Outcome.Proposed ticket.n)
outcome_of (Answer.Failed id why) = Some (Outcome.Failed why)
outcome_of (Answer.Decided id stamp) = Some (Outcome.Decided stamp false)
outcome_of (Answer.Withdrawn id c) = Some (Outcome.Withdrawn false)
outcome_of (Answer.Cancelled id t) = Some Outcome.Cancelled
outcome_of (Answer.Learnt id t) = Some Outcome.Learnt
outcome_of (Answer.Released t id) = Some (Outcome.Released id)
outcome_of (Answer.Turned t count) = Some (Outcome.Turned count)
outcome_of (Answer.Handed s item) = Some (Outcome.Handed (length item.sends))

-- what comes of a move
abbrev pub move_outcome : Core → Move → List Outcome
move_outcome k move = option_to_list (outcome_of (answer_to k.world move))

-- where something stands against it, that alone; otherwise these
abbrev pub unless : Option Objection → List Outcome → List Outcome
unless why outcomes =
    option_map_or (λ w. option_to_list (option_map Outcome.Refused (refusal_of w))) why outcomes

-- there are some
abbrev pub is_any : {X : Type 0} → List X → Bool
is_any [] = false
is_any (x ∷ xs) = true

-- ---- Next

-- want of memory, as a fault of a frame that was read
abbrev pub frame_no_memory : ConnectionFault
frame_no_memory = ConnectionFault.Session SessionFault.NoMemory

-- Why the sender that an action claims can't be had, if it can't: another connection speaks for it; or the
-- claim would keep one client-id too many, or begin one sender too many. In this order.
abbrev pub claim_fault : Core → Action → Option ConnectionFault
claim_fault k (actions.Connected client) =
    let before = claims_of k.steps in
    first_refusal
    ((option_map_or (is_in_use k.world) (claimed_sender client before) false, ConnectionFault.SenderInUse)
    ∷ (is_one_too_many client before, ConnectionFault.TooManyClients) ∷ [])
claim_fault k action = None

-- Why the frame ends its connection, if it does: by the case table; by the session; by its claim; by its
-- topic, which is there once it is made, or its sender, reported as want of memory. In this order.
abbrev pub frame_fault : Core → ℕ → RawFrame → Option ConnectionFault
frame_fault k c f =
    option_or (option_map ConnectionFault.Frame (case_fault f))
    (option_or (option_map ConnectionFault.Session (session_fault (session_at k c) f))
    (option_or (claim_fault k (action_by f.command (session_at k c) f))
    (option_map (λ why. frame_no_memory)
    (option_and_then (λ move. move_refusal (core_for k f).world move)
    (frame_move k c (action_by f.command (session_at k c) f))))))

-- a fault's ERROR, or the same with its reply left out
abbrev pub fault_outcomes : ConnectionFault → List Outcome
fault_outcomes fault = Outcome.Faulted fault false ∷ Outcome.Faulted fault true ∷ []

-- what comes of a frame that is accepted, with memory
abbrev pub frame_outcome : Core → ℕ → RawFrame → List Outcome
frame_outcome k c f =
    option_map_or (move_outcome (core_for k f)) (frame_move k c (action_by f.command (session_at k c) f))
    (Outcome.Done ∷ [])

-- An accepted frame wants memory: its session takes some for it, as for each frame that makes a subscription
-- or a transaction; or it is answered at once. So a DISCONNECT never does, an UNSUBSCRIBE or an ABORT only
-- with a receipt, and a CONNECT always.
abbrev pub wants_memory : Core → ℕ → RawFrame → Bool
wants_memory k c f =
    takes_memory f.command (session_at k c) f
    || list_any (λ o. is_any (next_replies (Some f) o)) (frame_outcome k c f)

-- where memory is wanted: that there was none
abbrev pub outcomes_without : Bool → ConnectionFault → List Outcome
outcomes_without wanted fault = if wanted then fault_outcomes fault else []

-- what may come of a frame that is accepted: its outcome; and where it wants memory, that there was none
abbrev pub accepted_outcomes : Core → ℕ → RawFrame → List Outcome
accepted_outcomes k c f = frame_outcome k c f ++ outcomes_without (wants_memory k c f) frame_no_memory

-- What may come of what was read. Where nothing was, there was no memory to read what is unread; so a Next
-- finds memory wherever all that was fed is read.
abbrev pub reading_outcomes : Core → ℕ → Reading → List Outcome
reading_outcomes k c Reading.Nothing =
    outcomes_without (is_any (unread_at c k.steps).text) ConnectionFault.ReaderNoMemory
reading_outcomes k c (Reading.Waits left) = Outcome.Refused Refusal.NoFrame ∷ []
reading_outcomes k c (Reading.Finds f left) =
    option_map_or fault_outcomes (frame_fault k c f) (accepted_outcomes k c f)
reading_outcomes k c (Reading.Fails check left) = fault_outcomes (ConnectionFault.Stream check)

-- ---- all events

-- the outcome with its reply left out
abbrev pub cut_of : Outcome → Outcome
cut_of (Outcome.Decided stamp cut) = Outcome.Decided stamp true
cut_of (Outcome.Withdrawn cut) = Outcome.Withdrawn true
cut_of (Outcome.Gone cut) = Outcome.Gone true
cut_of o = o

-- the outcome, and where a reply is due the same with the reply left out
abbrev pub with_cut : Core → ℕ → Event → Outcome → List Outcome
with_cut k c e o =
    o ∷ (if is_any (replies_to c k.steps (account_of k.names k.steps) e Reading.Nothing o)
    then cut_of o ∷ [] else [])

-- the same of a move's outcome
abbrev pub reply_outcomes : Core → ℕ → Event → List Outcome → List Outcome
reply_outcomes k c e [] = []
reply_outcomes k c e (o ∷ os) = with_cut k c e o

-- What may come of an event: first what does with memory, then what does without. So of a Take of a
-- subscription whose queue has an item: `Handed` or NoMemory; of a Turn: `Turned` alone.
abbrev pub outcomes : Core → Event → Reading → List Outcome
outcomes k Event.Open reading = move_outcome k Move.Opens ++ Outcome.NoMemory ∷ []
outcomes k (Event.Piece c octets) reading =
    unless (first_refusal (needs_open k.world c)) (Outcome.Fed ∷ Outcome.NoMemory ∷ [])
outcomes k (Event.Next c) reading =
    unless (first_refusal (needs_idle k.world c)) (reading_outcomes k c reading)
outcomes k (Event.Propose c t) reading =
    move_outcome k (Move.Proposes c t true) ++ move_outcome k (Move.Proposes c t false)
outcomes k (Event.Decide c) reading =
    reply_outcomes k c (Event.Decide c) (move_outcome k (Move.Decides c))
outcomes k (Event.Withdraw c) reading =
    reply_outcomes k c (Event.Withdraw c) (move_outcome k (Move.Withdraws c))
outcomes k (Event.Cancel c t) reading = move_outcome k (Move.Cancels c t)
outcomes k (Event.Learn t id) reading = move_outcome k (Move.Learns t id)
outcomes k (Event.Release t) reading = move_outcome k (Move.Releases t)
outcomes k (Event.Turn t) reading = move_outcome k (Move.Turns t)
outcomes k (Event.Take s) reading =
    unless (move_refusal k.world (Move.Takes s))
    (move_outcome k (Move.Takes s) ++ Outcome.NoMemory ∷ [])
outcomes k (Event.Leave c) reading =
    reply_outcomes k c (Event.Leave c) (move_outcome k (Move.Leaves c))
outcomes k (Event.Lost c) reading = move_outcome k (Move.Lost c)

-- a Next reads what its reader gives, unless it is refused before; nothing else reads
abbrev pub IsReadAt : Core → Event → Reading → Type 0
IsReadAt k (Event.Next c) reading =
    elim (first_refusal (needs_idle k.world c)) [
      | None ↦ IsReadBy (unread_at c k.steps) reading
      | Some why ↦ reading ≡ Reading.Nothing
    ]
IsReadAt k e reading = reading ≡ Reading.Nothing

-- the core may make this step
pub record MayStep (k : Core) (step : CoreStep) : Type 0 where
  pub reading : IsReadAt k step.event step.reading
  pub outcome : In step.outcome (outcomes k step.event step.reading)

-- each of these steps was one that the core could make
abbrev pub IsCoreRun : TopicList → ℕ → List CoreStep → Type 0
IsCoreRun topics capacity [] = Unit {0}
IsCoreRun topics capacity (step ∷ older) =
    MayStep (core_of topics capacity older) step × IsCoreRun topics capacity older
