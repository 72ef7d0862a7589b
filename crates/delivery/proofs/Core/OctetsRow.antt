-- A worked row from its octets: what is read is computed, and is by the grammar the first frames of the octets.
use Rattle.delivery.proofs.Words.All.{refl, ◌≡◌, ℕ, true, false, List, [], ◌∷◌, map, codes, Ok, list_all, RawFrame, Event, kept_of, BeginsWithFrames, fed_octets, frames_of, reader_limits, Core, new_core, report_of, Fed, Flying, Proposed, steps_of}
use Rattle.delivery.specs.declared.outcome.Outcome.TheVariants.{Opened, Done, Subscribed, Decided, Turned, Handed}
use Rattle.std.specs.Fmt.{digits}
use Rattle.std.specs.Str.{is_utf8, chars}
use Rattle.std.specs.Char.{encode_utf8}
use Rattle.stomp_escape.specs.Inner.Unescaping.{unescaped_from}
use Rattle.stomp_frame.specs.declared.command.Command.TheVariants as commands
use Rattle.stomp_frame.specs.Inner.Parser.{checked, line_at, after_eols, command_of, field_of, header_of, headers_at, counted_at, uncounted_at, body_at, frame_at}
use Rattle.stomp_frame.proofs.Whole.{begins}
use Rattle.delivery.proofs.Core.ShownReadings.{shows_reading}
use Rattle.delivery.proofs.Core.Acts.{topic_list, played, act, reads, frame, connect, subscribe, propose, turn, stamp, id, shown_outcomes, A}

-- ---- a SEND with a NULL in its body, and its MESSAGE

-- a SEND to A whose body of three octets has a NULL
abbrev pub with_null : RawFrame
with_null = frame commands.Send ((codes "destination", A) ∷ (codes "content-length", codes "3") ∷ []) (codes "a\0b")

-- a core after CONNECT, SUBSCRIBE and this SEND in three pieces, delivered to the subscription
abbrev pub sent : Core
sent = played (new_core (topic_list ((A, 0) ∷ [])) 64) (act Event.Open
    ∷ act (Event.Piece 0 (codes "CONNECT\naccept-version:1.2\nhost:h\n\n\0")) ∷ reads 0 connect
    ∷ act (Event.Piece 0 (codes "SUBSCRIBE\nid:s\ndestination:A\n\n\0SEND\ndesti")) ∷ reads 0 (subscribe (codes "s") A)
    ∷ act (Event.Piece 0 (codes "nation:A\ncontent-length:3\n\na\0b\0")) ∷ reads 0 with_null
    ∷ propose 0 0 ∷ act (Event.Decide 0) ∷ turn 0 ∷ act (Event.Take 0) ∷ [])

sent_outcomes : shown_outcomes sent
    ≡ Opened 0 ∷ Fed ∷ Done ∷ Fed ∷ Subscribed 0 (stamp 0 0) ∷ Fed ∷ Flying (id 0 1) ∷ Proposed 1 ∷ Decided (stamp 1 0) false ∷ Turned 1 ∷ Handed 1 ∷ []
sent_outcomes = refl

sent_outs : (report_of sent).outs
    ≡ codes "CONNECTED\nversion:1.2\nheart-beat:0,0\n\n\0MESSAGE\nsubscription:s\nmessage-id:1.0.0\ndestination:A\ncontent-length:3\n\na\0b\0" ∷ []
unfolding digits
sent_outs = refl

-- the octets of the third frame
abbrev pub third : List ℕ
third = codes "SEND\ndestination:A\ncontent-length:3\n\na\0b\0"

-- the octets of the second frame and the third
abbrev pub second : List ℕ
second = codes "SUBSCRIBE\nid:s\ndestination:A\n\n\0SEND\ndestination:A\ncontent-length:3\n\na\0b\0"

-- the octets of all three frames
abbrev pub first : List ℕ
first = codes "CONNECT\naccept-version:1.2\nhost:h\n\n\0SUBSCRIBE\nid:s\ndestination:A\n\n\0SEND\ndestination:A\ncontent-length:3\n\na\0b\0"

first_is : frame_at reader_limits first ≡ Ok (connect, second)
unfolding checked line_at after_eols command_of field_of header_of headers_at counted_at uncounted_at body_at frame_at unescaped_from is_utf8 chars encode_utf8
first_is = refl

second_is : frame_at reader_limits second ≡ Ok (subscribe (codes "s") A, third)
unfolding checked line_at after_eols command_of field_of header_of headers_at counted_at uncounted_at body_at frame_at unescaped_from is_utf8 chars encode_utf8
second_is = refl

third_is : frame_at reader_limits third ≡ Ok (with_null, [])
unfolding checked line_at after_eols command_of field_of header_of headers_at counted_at uncounted_at body_at frame_at unescaped_from is_utf8 chars encode_utf8
third_is = refl

sent_octets : fed_octets 0 sent.steps ≡ first
sent_octets = refl

-- each step shows whether it read a frame, and the frames that were read are the first of what was fed
sent_shown : list_all shows_reading sent.steps ≡ true
sent_shown = refl

sent_first : BeginsWithFrames reader_limits (fed_octets 0 sent.steps) (frames_of 0 sent.steps)
sent_first = (
  second,
  begins reader_limits first connect second first_is,
  (
    third,
    begins reader_limits second (subscribe (codes "s") A) third second_is,
    ([], begins reader_limits third with_null [] third_is, tt),
  ),
)

-- the reads of the kept run, computed from its octets
sent_frames : frames_of 0 (steps_of (map kept_of sent.steps)) ≡ connect ∷ subscribe (codes "s") A ∷ with_null ∷ []
unfolding checked line_at after_eols command_of field_of header_of headers_at counted_at uncounted_at body_at frame_at unescaped_from is_utf8 chars encode_utf8
sent_frames = refl
