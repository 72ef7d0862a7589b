-- How a text is spelled in a header's name or value (STOMP 1.2, "Value Encoding"). A text is a list of
-- octets. Worked examples: src/tests.rt.
use Rattle.std.specs.Prelude.{◌≡◌, ◌≢◌, ℕ, ◌⊎◌, List, [], ◌∷◌, ◌++◌, length, Option, Some, None, Result, Ok, Err, ◌==◌, if◌then◌else◌}
use Rattle.std.specs.Option.{option_map_or}
use Rattle.std.specs.List.{AllByRecursion, flat_map}
use Rattle.stomp_escape.specs.declared.fault.EscapeFault.{EscapeFault}
use Rattle.stomp_escape.specs.declared.fault.EscapeFault.TheVariants.{Undefined, Cut, NoMemory}

-- The letter after the backslash in an octet's escape (STOMP 1.2, "Value Encoding"):
-- r for CR (13), n for LF (10), c for colon (58), and backslash (92) for itself.
abbrev pub letter_of : ℕ → Option ℕ
letter_of b =
    if b == 13 then Some 114
    else if b == 10 then Some 110
    else if b == 58 then Some 99
    else if b == 92 then Some 92
    else None

-- An octet as it is written: its escape, where it has one, or else itself.
abbrev pub escaped_octet : ℕ → List ℕ
escaped_octet b = option_map_or (λ c. 92 ∷ c ∷ []) (letter_of b) (b ∷ [])

-- A text as it is written: each octet that has an escape is replaced by it, as `a:b` by `a\cb`.
abbrev pub escaped : List ℕ → List ℕ
escaped v = flat_map escaped_octet v

-- Text has no octet that would end a header's name or line: no CR, no LF and no colon
-- (STOMP 1.2, "Augmented BNF").
abbrev pub IsUnbroken : List ℕ → Type 0
IsUnbroken text = AllByRecursion (λ b. (b ≢ 13) × (b ≢ 10) × (b ≢ 58)) text

-- new is old with a prefix of text after it: none of it, some, or all.
abbrev pub AppendsFront : List ℕ → List ℕ → List ℕ → Type 0
AppendsFront text old new = (front rest : List ℕ) × (text ≡ front ++ rest) × (new ≡ old ++ front)

-- Text spells v: each octet of v is written by its escape or, unless it is a backslash, as itself
-- (STOMP 1.2, "Value Encoding"). So `a\cb` spells `a:b`, and a raw `a:b` does too: whether a raw colon,
-- CR or LF is allowed somewhere is for the grammar of frames to say.
abbrev pub Spells : List ℕ → List ℕ → Type 0
Spells text [] = text ≡ []
Spells text (b ∷ v) =
    (rest : List ℕ) × Spells rest v × ((text ≡ escaped_octet b ++ rest) ⊎ ((b ≢ 92) × (text ≡ b ∷ rest)))

-- The first fault of text from the left, where all before it is spelled: at this index a backslash with
-- no letter of an escape after it ("undefined escape sequences such as \t MUST be treated as a fatal
-- protocol error"; STOMP 1.2, "Value Encoding"), or a backslash that is last. So `ab\x\` has Undefined 2,
-- and `a\` has Cut. Being out of memory is no fault of a text.
abbrev pub IsFirstFault : List ℕ → EscapeFault → Type 0
IsFirstFault text (Undefined at) =
    (v front : List ℕ) × (c : ℕ) × (rest : List ℕ) × Spells front v × (length front ≡ at)
    × (text ≡ front ++ 92 ∷ c ∷ rest) × ((b : ℕ) → letter_of b ≢ Some c)
IsFirstFault text Cut = (v front : List ℕ) × Spells front v × (text ≡ front ++ 92 ∷ [])
IsFirstFault text NoMemory = ⊥

-- Text spells some value.
abbrev pub IsSpelled : List ℕ → Type 0
IsSpelled text = (v : List ℕ) × Spells text v

-- Text has a first fault.
abbrev pub IsFaulty : List ℕ → Type 0
IsFaulty text = (e : EscapeFault) × IsFirstFault text e

-- What a call returned is this answer, unless memory ran out.
abbrev pub Gives : Result (List ℕ) EscapeFault → Result (List ℕ) EscapeFault → Type 0
Gives (Ok v) answer = answer ≡ Ok v
Gives (Err (Undefined at)) answer = answer ≡ Err (Undefined at)
Gives (Err Cut) answer = answer ≡ Err Cut
Gives (Err NoMemory) answer = Unit {0}
