-- Worked examples: a stream of two frames, rests that are open, one rest at each fault, and the case table's answers.
-- Each is a witness of its definition, whose comment names it.
use Rattle.std.proofs.Common.{◌≡◌, ℕ, true, false, List, [], ◌∷◌, ◌++◌, codes, Some, None, refl, arith}
use Rattle.std.specs.Fmt.{digits}
use Rattle.std.specs.List.{list_all}
use Rattle.std.specs.Str.{is_utf8}
use Rattle.std.proofs.lemmas.Bool.{false_from_ne_true}
use Rattle.std.proofs.lemmas.Str.{IsUtf8-from_is_utf8, is_utf8-from_IsUtf8, lead_after_ascii}
use Rattle.stomp_escape.specs.Inner.Unescaping.{unescaped_from}
use Rattle.stomp_frame.specs.declared.command.Command.{Command}
use Rattle.stomp_frame.specs.declared.command.Command.TheVariants as commands
use Rattle.stomp_frame.specs.declared.limits.Limits.{Limits}
use Rattle.stomp_frame.specs.declared.raw_frame.RawFrame.{RawFrame}
use Rattle.stomp_frame.specs.declared.fault.Check.TheVariants as checks
use Rattle.stomp_frame.specs.declared.case_fault.RequiredHeader.TheVariants as required
use Rattle.stomp_frame.specs.declared.case_fault.CaseFault.TheVariants as faults
use Rattle.stomp_frame.specs.Grammar.{Stream}
use Rattle.stomp_frame.specs.Checks.{IsOpen, IsAtFault}
use Rattle.stomp_frame.specs.Cases.{case_fault}
use Rattle.stomp_frame.specs.ContentLength.{length_of}
use Rattle.stomp_frame.specs.ServerFrames.{message_frame, message_id, part_message_frame}
use Rattle.stomp_frame.specs.Inner.Parser.{Open, line_at, after_eols, checked, command_of, field_of, header_of, headers_at, counted_at, uncounted_at, body_at, frame_at}
use Rattle.stomp_frame.proofs.Digits.{is_ascii, ascii_text}
use Rattle.stomp_frame.proofs.Whole.{begins, leaves, opens}
use Rattle.stomp_frame.proofs.FirstFailed.{frame_fault}

abbrev standard : Limits
standard = record { line = 4096; headers = 64; body = 1048576 }

-- limits that a short text can break
abbrev small : Limits
small = record { line = 20; headers = 2; body = 4 }

-- a line of ASCII, as each is here but one, is UTF-8
ascii : (text : List ℕ) → list_all is_ascii text ≡ true → is_utf8 text ≡ true
ascii text e = is_utf8-from_IsUtf8 text (ascii_text text e).utf8

-- ---- a stream

-- a SEND whose body has a NULL, as its content-length allows
abbrev first : RawFrame
first = record {
  command = commands.Send;
  headers = (codes "destination", codes "A") ∷ (codes "content-length", codes "3") ∷ [];
  body = 97 ∷ 0 ∷ 98 ∷ [];
}

-- a SEND whose body ends at the first NULL
abbrev second : RawFrame
second = record { command = commands.Send; headers = (codes "k", codes "a:b") ∷ []; body = codes "hi" }

abbrev after_first : List ℕ
after_first = codes "\r\n\nSEND\r\nk:a\\cb\r\n\r\nhi" ++ 0 ∷ 10 ∷ []

-- end-of-lines of both forms before the frames and after them, lines that end in CR LF, and an escape
pub two_frames : Stream standard (codes "\nSEND\ndestination:A\ncontent-length:3\n\na" ++ 0 ∷ 98 ∷ 0 ∷ after_first) (first ∷ second ∷ []) []
unfolding frame_at line_at after_eols checked command_of field_of header_of headers_at counted_at uncounted_at body_at unescaped_from
two_frames = (
  after_first,
  begins standard (codes "\nSEND\ndestination:A\ncontent-length:3\n\na" ++ 0 ∷ 98 ∷ 0 ∷ after_first) first after_first (rw (ascii (codes "SEND") refl, ascii (codes "destination:A") refl, ascii (codes "content-length:3") refl, ascii [] refl) refl),
  (10 ∷ [], begins standard after_first second (10 ∷ []) (rw (ascii (codes "SEND") refl, ascii (codes "k:a\\cb") refl, ascii [] refl) refl), leaves standard (10 ∷ []) Open refl),
)

-- ---- open rests

-- a frame without its end
pub open_frame : IsOpen standard (codes "SEND\nk:v\n\nhi")
unfolding frame_at line_at after_eols checked command_of field_of header_of headers_at counted_at uncounted_at body_at unescaped_from
open_frame = opens standard (codes "SEND\nk:v\n\nhi") (rw (ascii (codes "SEND") refl, ascii (codes "k:v") refl, ascii [] refl) refl)

-- a CR after a line at the limit may be that of its end
pub open_line : IsOpen small (codes "SEND\nk:345678901234567890\r")
unfolding frame_at line_at after_eols checked command_of field_of header_of headers_at counted_at uncounted_at body_at unescaped_from
open_line = opens small (codes "SEND\nk:345678901234567890\r") (rw (ascii (codes "SEND") refl) refl)

-- nothing at all
pub open_nothing : IsOpen standard []
unfolding frame_at line_at after_eols checked command_of field_of header_of headers_at counted_at uncounted_at body_at unescaped_from
open_nothing = opens standard [] refl

-- ---- each fault

-- a command in small letters
pub bad_command : IsAtFault standard (codes "send\n") checks.BadCommand
unfolding frame_at line_at after_eols checked command_of field_of header_of headers_at counted_at uncounted_at body_at unescaped_from
bad_command = frame_fault standard (codes "send\n") checks.BadCommand (rw (ascii (codes "send") refl) refl)

-- a NULL in a line; that the line isn't UTF-8 is looked for later
pub bad_line : IsAtFault standard (codes "SEND\n" ++ 0 ∷ 255 ∷ 10 ∷ []) checks.BadLine
unfolding frame_at line_at after_eols checked command_of field_of header_of headers_at counted_at uncounted_at body_at unescaped_from
bad_line = frame_fault standard (codes "SEND\n" ++ 0 ∷ 255 ∷ 10 ∷ []) checks.BadLine (rw (ascii (codes "SEND") refl) refl)

-- no colon in a line
pub bad_header : IsAtFault standard (codes "SEND\nabc\n") checks.BadHeader
unfolding frame_at line_at after_eols checked command_of field_of header_of headers_at counted_at uncounted_at body_at unescaped_from
bad_header = frame_fault standard (codes "SEND\nabc\n") checks.BadHeader (rw (ascii (codes "SEND") refl, ascii (codes "abc") refl) refl)

-- `\t` is no escape
pub bad_escape : IsAtFault standard (codes "SEND\nk:a\\t\n") checks.BadEscape
unfolding frame_at line_at after_eols checked command_of field_of header_of headers_at counted_at uncounted_at body_at unescaped_from
bad_escape = frame_fault standard (codes "SEND\nk:a\\t\n") checks.BadEscape (rw (ascii (codes "SEND") refl, ascii (codes "k:a\\t") refl) refl)

not_text : is_utf8 (codes "k:" ++ 128 ∷ []) ≡ false
not_text = false_from_ne_true (is_utf8 (codes "k:" ++ 128 ∷ [])) (λ t.
    let lead = lead_after_ascii (codes "k:" ++ 128 ∷ []) 1 (IsUtf8-from_is_utf8 (codes "k:" ++ 128 ∷ []) t) (omega arith) (omega arith) (omega arith) in
    absurd (omega arith))

-- after a colon an octet that only continues a character
pub bad_text : IsAtFault standard (codes "SEND\nk:" ++ 128 ∷ 10 ∷ []) checks.BadText
unfolding frame_at line_at after_eols checked command_of field_of header_of headers_at counted_at uncounted_at body_at unescaped_from
bad_text = frame_fault standard (codes "SEND\nk:" ++ 128 ∷ 10 ∷ []) checks.BadText (rw (ascii (codes "SEND") refl, not_text) refl)

-- the first content-length counts, and isn't digits
pub bad_length : IsAtFault standard (codes "SEND\ncontent-length:x\ncontent-length:1\n\n") checks.BadLength
unfolding frame_at line_at after_eols checked command_of field_of header_of headers_at counted_at uncounted_at body_at unescaped_from
bad_length = frame_fault standard (codes "SEND\ncontent-length:x\ncontent-length:1\n\n") checks.BadLength (rw (ascii (codes "SEND") refl, ascii (codes "content-length:x") refl, ascii (codes "content-length:1") refl, ascii [] refl) refl)

-- another octet than NULL after as many as content-length says
pub bad_end : IsAtFault standard (codes "SEND\ncontent-length:1\n\nab") checks.BadEnd
unfolding frame_at line_at after_eols checked command_of field_of header_of headers_at counted_at uncounted_at body_at unescaped_from
bad_end = frame_fault standard (codes "SEND\ncontent-length:1\n\nab") checks.BadEnd (rw (ascii (codes "SEND") refl, ascii (codes "content-length:1") refl, ascii [] refl) refl)

-- two octets more than the limit, without an end
pub line_too_long : IsAtFault small (codes "SEND\nk:34567890123456789012") checks.LineTooLong
unfolding frame_at line_at after_eols checked command_of field_of header_of headers_at counted_at uncounted_at body_at unescaped_from
line_too_long = frame_fault small (codes "SEND\nk:34567890123456789012") checks.LineTooLong (rw (ascii (codes "SEND") refl) refl)

-- a third header; that it has no colon is looked for later
pub too_many_headers : IsAtFault small (codes "SEND\na:\nb:\nabc\n") checks.TooManyHeaders
unfolding frame_at line_at after_eols checked command_of field_of header_of headers_at counted_at uncounted_at body_at unescaped_from
too_many_headers = frame_fault small (codes "SEND\na:\nb:\nabc\n") checks.TooManyHeaders (rw (ascii (codes "SEND") refl, ascii (codes "a:") refl, ascii (codes "b:") refl, ascii (codes "abc") refl) refl)

-- five octets without a NULL
pub body_too_long : IsAtFault small (codes "SEND\n\nbbbbb") checks.BodyTooLong
unfolding frame_at line_at after_eols checked command_of field_of header_of headers_at counted_at uncounted_at body_at unescaped_from
body_too_long = frame_fault small (codes "SEND\n\nbbbbb") checks.BodyTooLong (rw (ascii (codes "SEND") refl, ascii [] refl) refl)

-- ---- the case table

abbrev frame_of : Command → List ℕ → RawFrame
frame_of command body = record { command = command; headers = []; body = body }

-- a server's frame; one that no client may send here; of a missing header and a body the header; a body; and none
pub cases_in_order :
    (case_fault (frame_of commands.Message (codes "b")) ≡ Some faults.NotClient)
    × (case_fault (frame_of commands.Ack (codes "b")) ≡ Some faults.Unsupported)
    × (case_fault (frame_of commands.Begin (codes "b")) ≡ Some (faults.Missing required.Transaction))
    × (case_fault (frame_of commands.Disconnect (codes "b")) ≡ Some faults.BodyNotAllowed)
    × (case_fault (frame_of commands.Disconnect []) ≡ None)
cases_in_order = (refl, refl, refl, refl, refl)

-- ---- lengths

-- leading zeros count as digits, and more than ten aren't read
pub lengths : (length_of (codes "007") ≡ Some 7) × (length_of (codes "00000000001") ≡ None) × (length_of [] ≡ None)
lengths = (refl, refl, refl)

-- ---- which of its transaction's MESSAGEs one is

-- The second of three says so behind its content-length, and its SEND's own `part` isn't passed on.
pub second_of_three :
    part_message_frame 2 3 (codes "s") (message_id 7 0 4) ((codes "destination", codes "A") ∷ (codes "part", codes "1/1") ∷ (codes "k", codes "v") ∷ []) (codes "hi")
    ≡ record {
      command = commands.Message;
      headers = (codes "subscription", codes "s")
          ∷ (codes "message-id", codes "7.0.4")
          ∷ (codes "destination", codes "A")
          ∷ (codes "content-length", codes "2")
          ∷ (codes "part", codes "2/3")
          ∷ (codes "k", codes "v")
          ∷ [];
      body = codes "hi";
    }
unfolding digits
second_of_three = refl

-- without parts it has no such header, and the SEND's own is passed on
pub without_parts :
    (message_frame (codes "s") (message_id 7 0 4) ((codes "destination", codes "A") ∷ (codes "part", codes "1/1") ∷ (codes "k", codes "v") ∷ []) (codes "hi")).headers
    ≡ (codes "subscription", codes "s") ∷ (codes "message-id", codes "7.0.4") ∷ (codes "destination", codes "A") ∷ (codes "content-length", codes "2") ∷ (codes "part", codes "1/1") ∷ (codes "k", codes "v") ∷ []
unfolding digits
without_parts = refl
