-- Only serves proofs: the steps of a kept run, as a function of it. What each Next read is what the reader of
-- its connection gives of the octets that it was fed. Nobody need believe it: a net has some list of steps,
-- and what is said of that list says which.
use Rattle.std.specs.Prelude.{Bool, true, false, ℕ, List, [], ◌∷◌, Some, Result, Ok, Err, if◌then◌else◌}
use Rattle.stomp_frame.specs.declared.raw_frame.RawFrame.{RawFrame}
use Rattle.stomp_frame.specs.Reader.{Unread}
use Rattle.stomp_frame.specs.Inner.Parser.{Halt, after_eols, frame_at}
use Rattle.delivery.specs.declared.event.Event.{Event}
use Rattle.delivery.specs.declared.outcome.Outcome.{Outcome}
use Rattle.delivery.specs.declared.refusal.Refusal.{Refusal}
use Rattle.delivery.specs.declared.connection_fault.ConnectionFault.{ConnectionFault}
use Rattle.delivery.specs.declared.kept.Kept.{Kept}
use Rattle.delivery.specs.Core.Steps.{CoreStep, Reading, reader_limits}
use Rattle.delivery.specs.Core.State.{unread_at}

-- what a reader gives of its text, and what it stands for then
abbrev pub reading_of : Unread → Result (RawFrame × List ℕ) Halt → Reading
reading_of u (Ok p) = Reading.Finds p.0 (record u { text = p.1 })
reading_of u (Err Halt.Open) = Reading.Waits (record u { text = after_eols u.text })
reading_of u (Err (Halt.Fault k)) = Reading.Fails k (record u { answered = Some k })

-- a Next was refused before it read, or its reader found no memory
abbrev pub reads_nothing : Outcome → Bool
reads_nothing (Outcome.Refused Refusal.NoFrame) = false
reads_nothing (Outcome.Refused why) = true
reads_nothing (Outcome.Faulted ConnectionFault.ReaderNoMemory cut) = true
reads_nothing o = false

-- what an event read
abbrev pub reading_at : List CoreStep → Event → Outcome → Reading
reading_at older (Event.Next c) o =
    if reads_nothing o then Reading.Nothing
    else reading_of (unread_at c older) (frame_at reader_limits (unread_at c older).text)
reading_at older e o = Reading.Nothing

-- The steps of a kept run, the newest first in both. So where a connection was fed one whole frame, the Next
-- that is answered `Done` found this frame, and one that is answered `Refused NoFrame` after it waits.
abbrev pub steps_of : List Kept → List CoreStep
steps_of [] = []
steps_of (kept ∷ before) =
    let older = steps_of before in
    record {
      event = kept.event;
      reading = reading_at older kept.event kept.outcome;
      outcome = kept.outcome;
    }
    ∷ older
