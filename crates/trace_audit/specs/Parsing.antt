-- The text of a trace as lines: what adding them leaves, and which one is the first that can't be added.
use Rattle.std.specs.Prelude.{◌≡◌, ℕ, ◌+◌, true, false, ◌==◌, List, [], ◌∷◌, ◌++◌, length, Option, Some, None, Result, Ok, Err, if◌then◌else◌}
use Rattle.std.specs.Option.{option_map}
use Rattle.trace_audit.specs.Rows.{is_misfit, with_row}
use Rattle.trace_audit.specs.Text.{SpellsRow}
use Rattle.trace_audit.specs.Trace.{TraceData, no_trace_data}
use Rattle.trace_audit.specs.declared.row.TraceRow.{TraceRow}
use Rattle.trace_audit.specs.declared.text.parse_fault.ParseFault.{ParseFault}
use Rattle.trace_audit.specs.declared.text.parse_fault.ParseFault.TheVariants as parse

-- an octet before the first of these
abbrev pub onto_first : ℕ → List (List ℕ) → List (List ℕ)
onto_first b [] = (b ∷ []) ∷ []
onto_first b (line ∷ lines) = (b ∷ line) ∷ lines

-- The lines of a text: what is before each LF, and what is after the last one, unless that is nothing. So
-- `a`, LF, LF, `b` has three lines, of which the second is empty, and another LF adds none.
abbrev pub lines_of : List ℕ → List (List ℕ)
lines_of [] = []
lines_of (b ∷ text) = if b == 10 then [] ∷ lines_of text else onto_first b (lines_of text)

-- What comes before the first such octet, and what comes after it. So `a b c` is cut at its first space into
-- `a` and `b c`, and `abc` isn't.
abbrev pub cut : ℕ → List ℕ → Option (List ℕ × List ℕ)
cut b [] = None
cut b (x ∷ text) = if x == b then Some ([], text) else option_map (λ p. (x ∷ p.0, p.1)) (cut b text)

-- each of these lines spells a row that fits, and the rows in order lead from one trace to the other
abbrev pub AddsLines : List (List ℕ) → TraceData → TraceData → Type 0
AddsLines [] old new = new ≡ old
AddsLines (line ∷ lines) old new =
    (row : TraceRow) × SpellsRow line row × (is_misfit row old ≡ false)
    × AddsLines lines (with_row row old) new

-- the line can't be added to the trace: it spells no row, or one that doesn't fit
abbrev pub IsBadLine : List ℕ → TraceData → Type 0
IsBadLine line trace = (row : TraceRow) → SpellsRow line row → is_misfit row trace ≡ true

-- line n, from 1, is the first that can't be added
pub record IsFirstBad (lines : List (List ℕ)) (n : ℕ) : Type 0 where
  pub front : List (List ℕ)
  pub line : List ℕ
  pub back : List (List ℕ)
  pub trace : TraceData
  pub cut : lines ≡ front ++ line ∷ back
  pub number : n ≡ length front + 1
  pub added : AddsLines front no_trace_data trace
  pub bad : IsBadLine line trace

-- the fault is that of this text
abbrev pub IsParseFault : List ℕ → ParseFault → Type 0
IsParseFault text (parse.BadRow n) = IsFirstBad (lines_of text) n
IsParseFault text parse.NoMemory = Unit {0}

-- what a call returned is this answer, unless memory ran out
abbrev pub GivesTrace : Result TraceData ParseFault → Result TraceData ParseFault → Type 0
GivesTrace (Ok trace) answer = answer ≡ Ok trace
GivesTrace (Err (parse.BadRow n)) answer = answer ≡ Err (parse.BadRow n)
GivesTrace (Err parse.NoMemory) answer = Unit {0}

-- ---- numbers (own)

abbrev pub parse_number : ParseFault → ℕ
parse_number (parse.BadRow n) = 90
parse_number parse.NoMemory = 91
