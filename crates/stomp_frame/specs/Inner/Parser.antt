-- The reading of a text as a function, with the first check that fails. Public contracts speak of Grammar and
-- Checks, to which proofs tie it. Where a definition is built on it, as the steps of the core's kept run are,
-- those relations pin what it gives, and nobody need believe it.
use Rattle.std.specs.Prelude.{◌≡◌, ℕ, ◌+◌, ◌-◌, zero, suc, Bool, true, false, not, ◌&&◌, ◌||◌, ◌==◌, nat_lt, nat_le, List, [], ◌∷◌, length, take, drop, slice_index, Option, Some, None, Result, Ok, Err, find, if◌then◌else◌}
use Rattle.std.specs.List.{list_any}
use Rattle.std.specs.Option.{option_map, option_map_or}
use Rattle.std.specs.Str.{is_utf8, bytes_eq}
use Rattle.stomp_escape.specs.Inner.Unescaping.{unescaped}
use Rattle.stomp_escape.specs.declared.fault.EscapeFault.{EscapeFault}
use Rattle.stomp_frame.specs.declared.command.Command.{Command}
use Rattle.stomp_frame.specs.declared.command.Command.TheVariants.{Send, Subscribe, Unsubscribe, Begin, Commit, Abort, Ack, Nack, Disconnect, Connect, Stomp, Connected, Message, Receipt, Error}
use Rattle.stomp_frame.specs.declared.fault.Check.{Check}
use Rattle.stomp_frame.specs.declared.fault.Check.TheVariants.{BadCommand, BadLine, BadHeader, BadEscape, BadText, BadLength, BadEnd, LineTooLong, TooManyHeaders, BodyTooLong}
use Rattle.stomp_frame.specs.declared.fault.Stop.{Stop}
use Rattle.stomp_frame.specs.declared.fault.Stop.TheVariants as stops
use Rattle.stomp_frame.specs.declared.limits.Limits.{Limits}
use Rattle.stomp_frame.specs.declared.raw_frame.RawFrame.{RawFrame}
use Rattle.stomp_frame.specs.Headers.{Header}
use Rattle.stomp_frame.specs.Commands.{word, has_escapes}
use Rattle.stomp_frame.specs.ContentLength.{length_of, content_length}

-- why a text gives nothing: more is due, or a check fails
pub data Halt : Type 0 where
  Open : Halt
  Fault : Check → Halt

infixl 10 ◌>>=◌
abbrev pub ◌>>=◌ : {A B : Type 0} → Result A Halt → (A → Result B Halt) → Result B Halt
(Ok x) >>= f = f x
(Err e) >>= f = Err e

-- What a function returned, seen by view, is what reading gives, unless memory ran out.
abbrev pub Stops : {Y : Type 0} → Stop → Result Y Halt → Type 0
Stops stops.Open read = read ≡ Err Open
Stops stops.Memory read = Unit {0}
Stops (stops.Fault k) read = read ≡ Err (Fault k)

abbrev pub Returns : {X Y : Type 0} → (X → Y) → Result X Stop → Result Y Halt → Type 0
Returns view (Ok x) read = read ≡ Ok (view x)
Returns view (Err e) read = Stops e read

-- what comes before the first such octet, and what comes after it
abbrev pub cut : ℕ → List ℕ → Option (List ℕ × List ℕ)
cut b [] = None
cut b (x ∷ text) = if x == b then Some ([], text) else option_map (λ p. (x ∷ p.0, p.1)) (cut b text)

-- without one CR at its end
abbrev pub without_cr : List ℕ → List ℕ
without_cr line = if slice_index line (length line - 1) == 13 then take (length line - 1) line else line

-- an octet of ASCII, other than CR and NULL
abbrev pub is_plain : ℕ → Bool
is_plain b = nat_lt b 128 && not (b == 13) && not (b == 0)

-- a line's content, if it passes
unfoldable pub checked : Limits → List ℕ → Result (List ℕ) Halt
checked limits content =
    if nat_lt limits.line (length content) then Err (Fault LineTooLong)
    else if list_any (λ b. b == 13 || b == 0) content then Err (Fault BadLine)
    else if is_utf8 content then Ok content else Err (Fault BadText)

-- A line is judged once its LF is there, or once two octets more than a content may have are there without
-- one.
unfoldable pub line_at : Limits → List ℕ → Result (List ℕ × List ℕ) Halt
line_at limits text =
    option_map_or (λ p. checked limits (without_cr p.0) >>= λ content. Ok (content, p.1)) (cut 10 text)
    (if nat_le (limits.line + 2) (length text) then Err (Fault LineTooLong) else Err Open)

-- the text after the end-of-lines at its front
unfoldable pub after_eols : List ℕ → List ℕ
after_eols [] = []
after_eols (b ∷ []) = if b == 10 then [] else b ∷ []
after_eols (b ∷ c ∷ rest) =
    if b == 10 then after_eols (c ∷ rest)
    else if b == 13 && c == 10 then after_eols rest
    else b ∷ c ∷ rest

-- all commands
abbrev pub commands : List Command
commands =
    Send ∷ Subscribe ∷ Unsubscribe ∷ Begin ∷ Commit ∷ Abort ∷ Ack ∷ Nack ∷ Disconnect ∷ Connect ∷ Stomp
    ∷ Connected ∷ Message ∷ Receipt ∷ Error ∷ []

-- the command that a line is
abbrev pub command_named : List ℕ → Option Command
command_named line = find (λ c. bytes_eq (word c) line) commands

-- the command that a line is, or the fault that it is none
unfoldable pub command_of : List ℕ → Result Command Halt
command_of line = option_map_or (λ c. Ok c) (command_named line) (Err (Fault BadCommand))

-- an undefined escape and a cut one are one fault
abbrev pub or_bad_escape : Result (List ℕ) EscapeFault → Result (List ℕ) Halt
or_bad_escape (Ok v) = Ok v
or_bad_escape (Err e) = Err (Fault BadEscape)

-- a name or a value
unfoldable pub field_of : Bool → List ℕ → Result (List ℕ) Halt
field_of false text = Ok text
field_of true text = or_bad_escape (unescaped text)

-- a header: what comes before the first colon, which isn't empty, and what comes after it
abbrev pub named : Bool → List ℕ × List ℕ → Result Header Halt
named escapes parts =
    if length parts.0 == 0 then Err (Fault BadHeader)
    else (field_of escapes parts.0 >>= λ name. field_of escapes parts.1 >>= λ value. Ok (name, value))

-- a header's line
unfoldable pub header_of : Bool → List ℕ → Result Header Halt
header_of escapes line = option_map_or (named escapes) (cut 58 line) (Err (Fault BadHeader))

-- the headers up to the empty line, with room for this number
unfoldable pub headers_at : Limits → Bool → ℕ → List ℕ → Result (List Header × List ℕ) Halt
headers_at limits escapes zero text = do
  line ← line_at limits text
  if length line.0 == 0 then Ok ([], line.1) else Err (Fault TooManyHeaders)
headers_at limits escapes (suc room) text = do
  line ← line_at limits text
  if length line.0 == 0 then Ok ([], line.1)
      else (header_of escapes line.0 >>= λ h.
      headers_at limits escapes room line.1 >>= λ hs. Ok (h ∷ hs.0, hs.1))

-- a body of n octets, and NULL
unfoldable pub counted_at : ℕ → List ℕ → Result (List ℕ × List ℕ) Halt
counted_at n text =
    if nat_le (length text) n then Err Open
    else if slice_index text n == 0 then Ok (take n text, drop (n + 1) text)
    else Err (Fault BadEnd)

-- a body up to the first NULL
unfoldable pub uncounted_at : Limits → List ℕ → Result (List ℕ × List ℕ) Halt
uncounted_at limits text =
    option_map_or
    (λ p. if nat_lt limits.body (length p.0) then Err (Fault BodyTooLong) else Ok p) (cut 0 text)
    (if nat_lt limits.body (length text) then Err (Fault BodyTooLong) else Err Open)

-- the body, as the headers say
unfoldable pub body_at : Limits → List Header → List ℕ → Result (List ℕ × List ℕ) Halt
body_at limits headers text =
    option_map_or (λ digits.
    option_map_or (λ n. if nat_lt limits.body n then Err (Fault BodyTooLong) else counted_at n text)
    (length_of digits) (Err (Fault BadLength)))
    (content_length headers) (uncounted_at limits text)

-- the first frame, and the text after it
unfoldable pub frame_at : Limits → List ℕ → Result (RawFrame × List ℕ) Halt
frame_at limits text = do
  line ← line_at limits (after_eols text)
  command ← command_of line.0
  headers ← headers_at limits (has_escapes command) limits.headers line.1
  body ← body_at limits headers.0 headers.1
  Ok (record { command = command; headers = headers.0; body = body.0 }, body.1)
