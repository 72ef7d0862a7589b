-- Only serves proofs: what the private calls of the event Next make of a view.
use Rattle.std.specs.Prelude.{◌≡◌, ◌++◌, ℕ, Bool, true, false, List, [], ◌∷◌, get_or, set, slice_get, take, Option, Some, None, Result, Ok, Err, if◌then◌else◌}
use Rattle.std.specs.Option.{option_map_or, option_or}
use Rattle.mcast_txn.specs.Checks.{first_refusal}
use Rattle.mcast_txn.specs.Lists.{In}
use Rattle.stomp_frame.specs.declared.fault.Check.{Check}
use Rattle.stomp_frame.specs.declared.fault.FrameFault.{FrameFault}
use Rattle.stomp_frame.specs.declared.raw_frame.RawFrame.{RawFrame}
use Rattle.stomp_frame.specs.Cases.{case_fault}
use Rattle.stomp_frame.specs.Reader.{Unread}
use Rattle.stomp_frame.specs.Receipts.{receipt_of}
use Rattle.stomp_frame.specs.ServerFrames.{error_frame, receipt_frame}
use Rattle.stomp_frame.specs.Writing.{spelling_of}
use Rattle.stomp_session.specs.declared.action.Step.{Step}
use Rattle.stomp_session.specs.declared.action.Action.{Action}
use Rattle.stomp_session.specs.Answers.{Accepts, Refuses, action_by}
use Rattle.stomp_session.specs.Open.{Held, StandsFor, held_after, state_of}
use Rattle.stomp_session.specs.Frames.{with_destination}
use Rattle.stomp_session.specs.Refusals.{session_fault}
use Rattle.delivery.specs.declared.connection_fault.ConnectionFault.{ConnectionFault}
use Rattle.delivery.specs.declared.open_endpoint.OpenEndpoint.{OpenEndpoint}
use Rattle.delivery.specs.declared.outcome.Outcome.{Outcome}
use Rattle.delivery.specs.declared.stage.Stage.{Stage}
use Rattle.delivery.specs.Faults.{connection_title}
use Rattle.delivery.specs.Machine.Objections.{Objection}
use Rattle.delivery.specs.Machine.Moves.{needs_idle}
use Rattle.delivery.specs.Core.Steps.{Reading, accepted_of, frame_in}
use Rattle.delivery.specs.Core.Output.{receipt_asked, says_version}
use Rattle.delivery.specs.Core.State.{Core, IsReadBy, names_at, session_at, unread_at}
use Rattle.delivery.specs.Core.Outcomes.{accepted_outcomes, fault_outcomes, frame_fault, is_any, reading_outcomes, wants_memory}
use Rattle.delivery.specs.Inner.Stands.{IsReached, endpoint_objection}
use Rattle.delivery.specs.Inner.View.{View, EndpointView, SenderView, view_of, no_endpoint, number_among, is_undecided, named_view}

-- ---- one endpoint

-- one endpoint is changed so
abbrev pub changed_endpoint : (EndpointView → EndpointView) → ℕ → View → View
changed_endpoint f c v = record v { endpoints = set v.endpoints c (f (get_or v.endpoints c no_endpoint)) }

-- the endpoint at this stage
abbrev pub staged_endpoint : Stage → EndpointView → EndpointView
staged_endpoint stage endpoint = record endpoint { stage = stage }

-- ---- checks

-- the sender has an undecided transaction
abbrev pub is_sending : Option SenderView → Bool
is_sending None = false
is_sending (Some x) = is_undecided x.sending

-- what stands against reading a frame, where this sender speaks
abbrev pub sending_objection : List SenderView → ℕ → Option Objection
sending_objection senders s = if is_sending (slice_get senders s) then Some Objection.Busy else None

-- what stands against a Next of connection c
abbrev pub idle_objection : View → ℕ → Option Objection
idle_objection v c =
    option_or (endpoint_objection (slice_get v.endpoints c))
    (sending_objection v.senders (number_among v.senders (get_or v.endpoints c no_endpoint)))

-- ---- what is read

-- a reader's fault, as that of its connection
abbrev pub reader_fault : FrameFault → ConnectionFault
reader_fault FrameFault.BadCommand = ConnectionFault.Stream Check.BadCommand
reader_fault FrameFault.BadLine = ConnectionFault.Stream Check.BadLine
reader_fault FrameFault.BadHeader = ConnectionFault.Stream Check.BadHeader
reader_fault FrameFault.BadEscape = ConnectionFault.Stream Check.BadEscape
reader_fault FrameFault.BadText = ConnectionFault.Stream Check.BadText
reader_fault FrameFault.BadLength = ConnectionFault.Stream Check.BadLength
reader_fault FrameFault.BadEnd = ConnectionFault.Stream Check.BadEnd
reader_fault FrameFault.LineTooLong = ConnectionFault.Stream Check.LineTooLong
reader_fault FrameFault.TooManyHeaders = ConnectionFault.Stream Check.TooManyHeaders
reader_fault FrameFault.BodyTooLong = ConnectionFault.Stream Check.BodyTooLong
reader_fault FrameFault.NoMemory = ConnectionFault.ReaderNoMemory

-- the frame is a client's, and this session accepts it with this step
pub record IsAccepted (s : Held) (f : RawFrame) (step : Step) : Type 0 where
  pub cased : case_fault f ≡ None
  pub accepts : Accepts s f step

-- the frame is refused with this fault: by the case table, or by this session
abbrev pub IsRefusedAs : Held → RawFrame → ConnectionFault → Type 0
IsRefusedAs s f (ConnectionFault.Frame fault) = case_fault f ≡ Some fault
IsRefusedAs s f (ConnectionFault.Session fault) = (case_fault f ≡ None) × Refuses s f fault
IsRefusedAs s f (ConnectionFault.Stream check) = ⊥
IsRefusedAs s f ConnectionFault.SenderInUse = ⊥
IsRefusedAs s f ConnectionFault.TooManyClients = ⊥
IsRefusedAs s f ConnectionFault.Lagged = ⊥
IsRefusedAs s f ConnectionFault.ReaderNoMemory = ⊥

-- why a frame ends its connection, and the frame, if one was read
abbrev pub EndpointFault : Type 0
EndpointFault = ConnectionFault × Option RawFrame

-- what an open endpoint, whose session accepted these frames, makes of what it reads, and of the topics'
-- names
abbrev pub JudgesReading
    : List RawFrame → List (List ℕ) → OpenEndpoint → Reading → Result (Option Step) EndpointFault
    → OpenEndpoint
    → List (List ℕ) → Type 0
JudgesReading accepted names old (Reading.Waits left) (Ok None) new later =
    (new ≡ record old { reader = left }) × (later ≡ names)
JudgesReading accepted names old (Reading.Finds f left) (Ok (Some step)) new later =
    IsAccepted (held_after names accepted) f step
    × (new ≡ record old { reader = left; session = state_of (held_after later (accepted ++ f ∷ [])) })
    × (later ≡ with_destination f names)
JudgesReading accepted names old (Reading.Finds f left) (Err e) new later =
    (e.1 ≡ Some f) × IsRefusedAs (held_after names accepted) f e.0 × (later ≡ names)
JudgesReading accepted names old Reading.Nothing (Err e) new later =
    (e.1 ≡ None) × (e.0 ≡ ConnectionFault.ReaderNoMemory) × (is_any old.reader.text ≡ true) × (later ≡ names)
JudgesReading accepted names old (Reading.Fails check left) (Err e) new later =
    (e.1 ≡ None) × (e.0 ≡ ConnectionFault.Stream check) × (later ≡ names)
JudgesReading accepted names old reading result new later = ⊥

-- what its reader reads, and what the endpoint makes of it
pub record Judgement
    (accepted : List RawFrame) (names : List (List ℕ)) (old : OpenEndpoint)
    (result : Result (Option Step) EndpointFault) (new : OpenEndpoint) (later : List (List ℕ))
    : Type 0 where
  pub reading : Reading
  pub read : IsReadBy old.reader reading
  pub judged : JudgesReading accepted names old reading result new later

-- so of each list of frames that its session stands for, while its reader returned no fault
abbrev pub Judges
    : List (List ℕ) → OpenEndpoint → Result (Option Step) EndpointFault → OpenEndpoint → List (List ℕ)
    → Type 0
Judges names old result new later =
    (accepted : List RawFrame) → StandsFor old.session names accepted → old.reader.answered ≡ None
    → Judgement accepted names old result new later

-- the same of an endpoint, if it is open
abbrev pub JudgesAt
    : List (List ℕ) → Stage → Result (Option Step) EndpointFault → Stage → List (List ℕ) → Type 0
JudgesAt names (Stage.Open old) result new later =
    (after : OpenEndpoint) × (new ≡ Stage.Open after) × Judges names old result after later
JudgesAt names (Stage.Leaving parting) result new later = Unit {0}
JudgesAt names Stage.Gone result new later = Unit {0}

-- ---- replies

-- the text of a fault's ERROR, with this receipt, which says the version or doesn't
abbrev pub error_text : ConnectionFault → Option (List ℕ) → Bool → List ℕ
error_text fault receipt version = spelling_of (error_frame (connection_title fault) receipt version)

-- the text of a RECEIPT, if one is asked for
abbrev pub receipt_text : Option (List ℕ) → List ℕ
receipt_text receipt = option_map_or (λ id. spelling_of (receipt_frame id)) receipt []

-- an endpoint that ends by an ERROR of this text, or whose ERROR was left out
abbrev pub failed_endpoint : Bool → List ℕ → EndpointView → EndpointView
failed_endpoint cut text endpoint = record endpoint {
  stage = Stage.Leaving None;
  output = if cut then endpoint.output else endpoint.output ++ text;
}

-- an endpoint with only this many octets out
abbrev pub shortened_endpoint : ℕ → EndpointView → EndpointView
shortened_endpoint len endpoint = record endpoint { output = take len endpoint.output }

-- ---- a frame that ends its connection

-- Why a Next of connection c ends it: what it read, the ERROR's fault and receipt, and whether it says the
-- version.
pub record Ends
    (k : Core) (c : ℕ) (reading : Reading) (fault : ConnectionFault) (receipt : Option (List ℕ))
    (version : Bool)
    : Type 0 where
  pub reached : IsReached k
  pub idle : first_refusal (needs_idle k.world c) ≡ None
  pub read : IsReadBy (unread_at c k.steps) reading
  pub may : (cut : Bool) → In (Outcome.Faulted fault cut) (reading_outcomes k c reading)
  pub asked : receipt ≡ receipt_asked (frame_in reading)
  pub said : version ≡ says_version (frame_in reading) fault

-- so of this frame, if one was read, while the connection is at some stage
pub record HasFault
    (k : Core) (c : ℕ) (fault : ConnectionFault) (frame : Option RawFrame) (held : View)
    : Type 0 where
  pub reading : Reading
  pub stage : Stage
  pub ends : Ends k c reading fault (receipt_asked frame) (says_version frame fault)
  pub view : held ≡ changed_endpoint (staged_endpoint stage) c (view_of k)

-- ---- an accepted frame

-- the frame of connection c, where nothing is at fault with it, wants memory
abbrev pub MayLack : Core → ℕ → RawFrame → Type 0
MayLack k c f = frame_fault k c f ≡ None → wants_memory k c f ≡ true

-- the frame of connection c may end it by this fault
abbrev pub MayEnd : Core → ℕ → RawFrame → ConnectionFault → Type 0
MayEnd k c f fault =
    (cut : Bool)
    → In (Outcome.Faulted fault cut)
    (option_map_or fault_outcomes (frame_fault k c f) (accepted_outcomes k c f))

-- the stage of connection c once it accepted this frame too, and its reader stands for this
abbrev pub accepted_stage : Core → ℕ → RawFrame → Unread → Stage
accepted_stage k c f left = Stage.Open (record {
  reader = left;
  session = state_of (held_after (with_destination f (names_at k)) (accepted_of c k.steps ++ f ∷ []));
  receipt = None;
})

-- A Next of connection c read this frame, which its session accepted, and this is held then, where this was
-- before. It asks for this action and this receipt.
pub record AsksOver
    (base : View) (k : Core) (c : ℕ) (f : RawFrame) (left : Unread)
    (action : Action) (receipt : Option (List ℕ)) (held : View)
    : Type 0 where
  pub reached : IsReached k
  pub idle : first_refusal (needs_idle k.world c) ≡ None
  pub read : IsReadBy (unread_at c k.steps) (Reading.Finds f left)
  pub cased : case_fault f ≡ None
  pub free : session_fault (session_at k c) f ≡ None
  pub does : action_by f.command (session_at k c) f ≡ action
  pub wants : receipt_of f ≡ receipt
  pub view : held ≡ changed_endpoint (staged_endpoint (accepted_stage k c f left)) c base

-- the action is another than a CONNECT's
abbrev pub claims_none : Action → Bool
claims_none (Action.Connected client) = false
claims_none action = true

-- the name of its destination is there, and its topic may not be yet
abbrev pub AsksNamed : Core → ℕ → RawFrame → Unread → Action → Option (List ℕ) → View → Type 0
AsksNamed k c f left action receipt held =
    AsksOver (record (view_of k) { names = with_destination f (names_at k) }) k c f left action receipt held

-- its destination has its topic
abbrev pub Asks : Core → ℕ → RawFrame → Unread → Action → Option (List ℕ) → View → Type 0
Asks k c f left action receipt held = AsksOver (named_view f (view_of k)) k c f left action receipt held

-- the names and the topics are those of before
abbrev pub AsksUnnamed : Core → ℕ → RawFrame → Unread → Action → Option (List ℕ) → View → Type 0
AsksUnnamed k c f left action receipt held = AsksOver (view_of k) k c f left action receipt held
