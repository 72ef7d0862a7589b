-- A run of the core, as its reader takes it: its steps, and of each connection the octets that it was fed and
-- the frames that were read and accepted. Worked examples: proofs/Core.
use Rattle.std.specs.Prelude.{◌≡◌, ℕ, ◌==◌, Bool, true, false, List, [], ◌∷◌, ◌++◌, Option, Some, None, if◌then◌else◌}
use Rattle.std.specs.Prelude.{◌&&◌}
use Rattle.std.specs.Option.{is_some, option_to_list, option_map_or, unwrap_or}
use Rattle.std.specs.Str.{bytes_eq}
use Rattle.stomp_frame.specs.declared.limits.Limits.{Limits}
use Rattle.stomp_frame.specs.declared.raw_frame.RawFrame.{RawFrame}
use Rattle.stomp_frame.specs.declared.fault.Check.{Check}
use Rattle.stomp_frame.specs.Grammar.{BeginsWith}
use Rattle.stomp_frame.specs.Reader.{Unread}
use Rattle.mcast_txn.specs.Lists.{In}
use Rattle.stomp_session.specs.Frames.{id_of, with_destination}
use Rattle.delivery.specs.declared.event.Event.{Event}
use Rattle.delivery.specs.declared.outcome.Outcome.{Outcome}
use Rattle.delivery.specs.declared.kept.Kept.{Kept}
use Rattle.delivery.specs.declared.connection_fault.ConnectionFault.{ConnectionFault}

-- what a Next read, and what its reader stands for then: a frame is due, a frame, or the stream's fault;
-- nothing, where no frame was asked for or there was no memory
pub data Reading : Type 0 where
  Nothing : Reading
  Waits : (left : Unread) → Reading
  Finds : (f : RawFrame) (left : Unread) → Reading
  Fails : (k : Check) (left : Unread) → Reading

-- a step of a run: an event, what it read, and what came of it. A list of them has the newest first.
pub record CoreStep : Type 0 where
  pub event : Event
  pub reading : Reading
  pub outcome : Outcome

-- the step as the core keeps it
abbrev pub kept_of : CoreStep → Kept
kept_of step = record { event = step.event; outcome = step.outcome }

-- the frame that was read
abbrev pub frame_in : Reading → Option RawFrame
frame_in (Reading.Finds f left) = Some f
frame_in reading = None

-- the event asks for a frame of connection c
abbrev pub is_next : ℕ → Event → Bool
is_next c (Event.Next d) = d == c
is_next c e = false

-- the octets were fed
abbrev pub is_fed : Outcome → Bool
is_fed Outcome.Fed = true
is_fed o = false

-- the frame that was read has had its effect; not where it was answered by an ERROR
abbrev pub has_effect : Outcome → Bool
has_effect Outcome.Done = true
has_effect (Outcome.Subscribed s from) = true
has_effect (Outcome.Unsubscribed s to) = true
has_effect (Outcome.Flying id) = true
has_effect Outcome.Leaving = true
has_effect o = false

-- the octets that an event of this outcome fed to connection c
abbrev pub fed_to : ℕ → Event → Outcome → List ℕ
fed_to c (Event.Piece d octets) Outcome.Fed = if d == c then octets else []
fed_to c e o = []

-- the octets that connection c was fed: where pieces `AB` and `C` of it were fed and one was refused between,
-- `ABC`
abbrev pub fed_octets : ℕ → List CoreStep → List ℕ
fed_octets c [] = []
fed_octets c (step ∷ older) = fed_octets c older ++ fed_to c step.event step.outcome

-- the frame of connection c that was read, if one was
abbrev pub frame_from : ℕ → CoreStep → List RawFrame
frame_from c step = if is_next c step.event then option_to_list (frame_in step.reading) else []

-- the frames of connection c that were read
abbrev pub frames_of : ℕ → List CoreStep → List RawFrame
frames_of c [] = []
frames_of c (step ∷ older) = frames_of c older ++ frame_from c step

-- the frames of connection c that were accepted, the oldest first: no other has an effect
abbrev pub accepted_of : ℕ → List CoreStep → List RawFrame
accepted_of c [] = []
accepted_of c (s ∷ older) = accepted_of c older ++ (if has_effect s.outcome then frame_from c s else [])

-- the frame that was read, if it was accepted
abbrev pub accepted_in : CoreStep → Option RawFrame
accepted_in step = if has_effect step.outcome then frame_in step.reading else None

-- the names, with the destination of the frame that the step accepted behind them where it is new
abbrev pub names_with : CoreStep → List (List ℕ) → List (List ℕ)
names_with step names = option_map_or (λ f. with_destination f names) (accepted_in step) names

-- The topics' names after these steps: the opening names, and behind them each destination that was new in an
-- accepted frame, in order. So where A was there and SENDs to B, to A and to C were accepted, and between
-- them one to D was refused, they are A, B, C.
abbrev pub names_after : List (List ℕ) → List CoreStep → List (List ℕ)
names_after opening [] = opening
names_after opening (step ∷ older) = names_with step (names_after opening older)

-- the frame of connection c that was read has this subscription id
abbrev pub has_id : ℕ → List ℕ → CoreStep → Bool
has_id c id s = is_next c s.event && option_map_or (λ f. bytes_eq (id_of f) id) (frame_in s.reading) false

-- the subscription that the outcome says begins, if one does
abbrev pub begun_by : Outcome → Option ℕ
begun_by (Outcome.Subscribed s from) = Some s
begun_by o = None

-- The subscription that an id of connection c names: that of the last accepted SUBSCRIBE with this id. So
-- after SUBSCRIBEs of `s` and `t`, numbers 0 and 1, an UNSUBSCRIBE of `s` and a SUBSCRIBE of `s`, number 2,
-- `s` names 2.
abbrev pub number_by : ℕ → List ℕ → List CoreStep → ℕ
number_by c id [] = 0
number_by c id (s ∷ older) =
    if has_id c id s then unwrap_or (begun_by s.outcome) (number_by c id older) else number_by c id older

-- ---- what was read is what the octets say

-- An event of this outcome read a frame: a Next that had its effect, or that was answered by an ERROR, other
-- than one of the stream's fault or of no memory for the reader. So a Next that is refused read none.
abbrev pub reads_frame : Event → Outcome → Bool
reads_frame (Event.Next c) (Outcome.Faulted (ConnectionFault.Stream k) cut) = false
reads_frame (Event.Next c) (Outcome.Faulted ConnectionFault.Lagged cut) = false
reads_frame (Event.Next c) (Outcome.Faulted ConnectionFault.ReaderNoMemory cut) = false
reads_frame (Event.Next c) (Outcome.Faulted fault cut) = true
reads_frame (Event.Next c) o = has_effect o
reads_frame e o = false

-- The text begins with these frames, end-of-lines between them aside, and whatever comes after.
abbrev pub BeginsWithFrames : Limits → List ℕ → List RawFrame → Type 0
BeginsWithFrames limits text [] = Unit {0}
BeginsWithFrames limits text (f ∷ fs) =
    (others : List ℕ) × BeginsWith limits text f others × BeginsWithFrames limits others fs

-- the limits of the core's readers
abbrev pub reader_limits : Limits
reader_limits = record { line = 4096; headers = 64; body = 1048576 }

-- What was read of each connection are the first frames of its octets, one for each outcome that says so, and
-- nothing else.
pub record AreReadings (steps : List CoreStep) : Type 0 where
  pub shown : (s : CoreStep) → In s steps → is_some (frame_in s.reading) ≡ reads_frame s.event s.outcome
  pub first : (c : ℕ) → BeginsWithFrames reader_limits (fed_octets c steps) (frames_of c steps)
