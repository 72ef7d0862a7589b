-- What a reader gives of a stream that it is fed in any pieces.
use Rattle.std.specs.Prelude.{◌≡◌, ℕ, List, [], ◌∷◌, ◌++◌, Some, None, Ok, Err}
use Rattle.stomp_frame.specs.declared.limits.Limits.{Limits}
use Rattle.stomp_frame.specs.declared.raw_frame.RawFrame.{RawFrame}
use Rattle.stomp_frame.specs.declared.fault.Check.{Check}
use Rattle.stomp_frame.specs.Faults.{fault_of}
use Rattle.stomp_frame.specs.Grammar.{Stream}
use Rattle.stomp_frame.specs.Checks.{IsOpen, IsAtFault}
use Rattle.stomp_frame.specs.Reader.{Unread, unread_of, with_piece, ReadsNext}

-- A new reader was fed the octets of text, in any pieces and with any calls of `next` between them, which
-- returned the frames given; and now it is this reader. Calls that found no memory changed nothing and are
-- left out. No call has returned a fault yet.
pub data HasRead (limits : Limits) : List ℕ → List RawFrame → Unread → Type 0 where
  begins : HasRead limits [] [] (unread_of limits)
  feeds : (text : List ℕ) (given : List RawFrame) (reader : Unread) (piece : List ℕ)
      → HasRead limits text given reader → HasRead limits (text ++ piece) given (with_piece reader piece)
  gives : (text : List ℕ) (given : List RawFrame) (old new : Unread) (f : RawFrame)
      → HasRead limits text given old → ReadsNext old (Ok (Some f)) new
      → HasRead limits text (given ++ f ∷ []) new
  waits : (text : List ℕ) (given : List RawFrame) (old new : Unread)
      → HasRead limits text given old → ReadsNext old (Ok None) new → HasRead limits text given new

-- The octets fed are the frames given, then those of the reader's unread text, and then its rest.
abbrev pub GivesAndKeeps : Type 0
GivesAndKeeps = (limits : Limits) (text : List ℕ) (given : List RawFrame) (reader : Unread)
    (fs : List RawFrame) (rest : List ℕ)
    → HasRead limits text given reader → Stream limits reader.text fs rest
    → Stream limits text (given ++ fs) rest

-- The frames given are the first ones of the octets fed.
abbrev pub GivesFirstFrames : Type 0
GivesFirstFrames = (limits : Limits) (text : List ℕ) (given : List RawFrame) (reader : Unread)
    (fs : List RawFrame) (rest : List ℕ)
    → HasRead limits text given reader → Stream limits text fs rest
    → (later : List RawFrame) × (fs ≡ given ++ later)

-- Where `next` returns None, all frames of the octets fed were given, and what is unread is their rest,
-- which is open.
abbrev pub WaitsAfterAll : Type 0
WaitsAfterAll = (limits : Limits) (text : List ℕ) (given : List RawFrame) (old new : Unread)
    (fs : List RawFrame) (rest : List ℕ)
    → HasRead limits text given old → ReadsNext old (Ok None) new → Stream limits text fs rest
    → (fs ≡ given) × (new.text ≡ rest) × IsOpen limits rest

-- Where `next` returns a fault, all frames of the octets fed were given, and their rest is at that fault.
abbrev pub FaultsAfterAll : Type 0
FaultsAfterAll = (limits : Limits) (text : List ℕ) (given : List RawFrame) (old new : Unread) (k : Check)
    (fs : List RawFrame) (rest : List ℕ)
    → HasRead limits text given old → ReadsNext old (Err (fault_of k)) new → Stream limits text fs rest
    → (fs ≡ given) × IsAtFault limits rest k
