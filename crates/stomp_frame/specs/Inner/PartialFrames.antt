-- Only serves proofs: reading on from where a frame was left. The reader's contract speaks of the grammar.
use Rattle.std.specs.Prelude.{◌≡◌, ◌≢◌, ℕ, ◌+◌, ◌-◌, ◌≤◌, ◌<◌, nat_lt, List, [], ◌++◌, length, drop, slice_index, Option, Some, None, Result, Ok, Err, if◌then◌else◌}
use Rattle.std.specs.Option.{option_map_or}
use Rattle.stomp_frame.specs.declared.command.Command.{Command}
use Rattle.stomp_frame.specs.declared.fault.Check.TheVariants.{BadLength, BodyTooLong}
use Rattle.stomp_frame.specs.declared.limits.Limits.{Limits}
use Rattle.stomp_frame.specs.declared.raw_frame.RawFrame.{RawFrame}
use Rattle.stomp_frame.specs.declared.reading.awaited.Awaited.{Awaited}
use Rattle.stomp_frame.specs.declared.reading.awaited.Awaited.TheVariants.{CommandLine, HeaderLine, Body}
use Rattle.stomp_frame.specs.declared.reading.partial_frame.PartialFrame.{PartialFrame}
use Rattle.stomp_frame.specs.Headers.{Header}
use Rattle.stomp_frame.specs.Commands.{has_escapes}
use Rattle.stomp_frame.specs.ContentLength.{length_of, content_length}
use Rattle.stomp_frame.specs.Inner.Parser.{Halt, Fault, ◌>>=◌, after_eols, headers_at, counted_at, uncounted_at, body_at, frame_at}

-- the length that the headers give a body, or None where it ends at its first NULL
unfoldable pub body_length : Limits → List Header → Result (Option ℕ) Halt
body_length limits headers =
    option_map_or (λ digits.
    option_map_or (λ n. if nat_lt limits.body n then Err (Fault BodyTooLong) else Ok (Some n))
    (length_of digits) (Err (Fault BadLength)))
    (content_length headers) (Ok None)

-- a body of this length, or up to its first NULL
unfoldable pub body_of : Limits → Option ℕ → List ℕ → Result (List ℕ × List ℕ) Halt
body_of limits (Some n) text = counted_at n text
body_of limits None text = uncounted_at limits text

-- the frame, once its body is read
abbrev pub frame_of_body : Command → List Header → Result (List ℕ × List ℕ) Halt
    → Result (RawFrame × List ℕ) Halt
frame_of_body command headers read =
    read >>= λ body. Ok (record { command = command; headers = headers; body = body.0 }, body.1)

-- the frame, once the headers are read, and the text after them
abbrev pub frame_after_headers : Limits → Command → List Header × List ℕ
    → Result (RawFrame × List ℕ) Halt
frame_after_headers limits command headers =
    frame_of_body command headers.0 (body_at limits headers.0 headers.1)

-- the frame, once its first headers are read, and the text after them
abbrev pub frame_after_front : Limits → Command → List Header → List ℕ → Result (RawFrame × List ℕ) Halt
frame_after_front limits command front text =
    (headers_at limits (has_escapes command) (limits.headers - length front) text
    >>= λ x. Ok (front ++ x.0, x.1))
    >>= frame_after_headers limits command

-- the frame that reading on from here gives
abbrev pub frame_resumed : Limits → Awaited → List Header → List ℕ → Result (RawFrame × List ℕ) Halt
frame_resumed limits CommandLine headers text = frame_at limits text
frame_resumed limits (HeaderLine command) headers text = frame_after_front limits command headers text
frame_resumed limits (Body command length) headers text =
    frame_of_body command headers (body_of limits length text)

-- the octet that is searched for; a body of a known length is not searched
abbrev pub sought : Awaited → ℕ
sought CommandLine = 10
sought (HeaderLine command) = 10
sought (Body command length) = 0

-- The octet is none of the first n.
abbrev pub IsUnfound : ℕ → List ℕ → ℕ → Type 0
IsUnfound b text n = (i : ℕ) → i < n → slice_index text i ≢ b

-- Before there is a command, there are no headers and nothing is parsed; after it, the text doesn't begin
-- with an end-of-line, whatever comes.
abbrev pub HasBegun : List ℕ → Awaited → List Header → ℕ → Type 0
HasBegun text CommandLine headers parsed = (headers ≡ []) × (parsed ≡ 0)
HasBegun text (HeaderLine command) headers parsed =
    (more : List ℕ) → after_eols (text ++ more) ≡ text ++ more
HasBegun text (Body command length) headers parsed =
    (more : List ℕ) → after_eols (text ++ more) ≡ text ++ more

-- The first parsed octets of the text are parsed, and the next searched octets hold nothing that is searched
-- for: whatever comes after the text, reading it from its start is reading on from there.
pub record IsReadUpTo (limits : Limits) (text : List ℕ) (awaited : Awaited) (headers : List Header)
    (parsed searched : ℕ) : Type 0 where
  pub within : parsed + searched ≤ length text
  pub few : length headers ≤ limits.headers
  pub begun : HasBegun text awaited headers parsed
  pub resumes : (more : List ℕ)
      → frame_at limits (text ++ more) ≡ frame_resumed limits awaited headers (drop parsed text ++ more)
  pub unfound : IsUnfound (sought awaited) (drop parsed text) searched

-- A text is read up to what a partial frame says.
abbrev pub IsPartial : Limits → List ℕ → PartialFrame → Type 0
IsPartial limits text partial =
    IsReadUpTo limits text partial.awaited partial.headers partial.parsed partial.searched

-- In what a reader holds, the unread text begins at start; it begins with end-of-lines, and the partial frame
-- begins at front, after these: skipping them ends there, whatever comes.
pub record IsReaderState (limits : Limits) (text : List ℕ) (start front : ℕ) (partial : PartialFrame)
    : Type 0 where
  pub order : start ≤ front
  pub within : front ≤ length text
  pub skips : (more : List ℕ) → after_eols (drop start text ++ more) ≡ after_eols (drop front text ++ more)
  pub read : IsPartial limits (drop front text) partial
