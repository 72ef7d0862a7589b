-- Only serves proofs: reading a spelling from left to right, up to the first fault. No public contract
-- names this reading. What a text means is said by Spells and IsFirstFault (specs/Escape.antt);
-- proofs/Laws.antt ties the two.
use Rattle.std.specs.Prelude.{ℕ, ◌+◌, List, [], ◌∷◌, ◌++◌, Option, Some, None, Result, Ok, Err, ◌==◌, if◌then◌else◌}
use Rattle.std.specs.Option.{option_map_or}
use Rattle.stomp_escape.specs.declared.fault.EscapeFault.{EscapeFault}
use Rattle.stomp_escape.specs.declared.fault.EscapeFault.TheVariants.{Undefined, Cut}

-- the octet whose escape has this letter (STOMP 1.2, "Value Encoding")
abbrev pub octet_of : ℕ → Option ℕ
octet_of c =
    if c == 114 then Some 13
    else if c == 110 then Some 10
    else if c == 99 then Some 58
    else if c == 92 then Some 92
    else None

-- an octet before what was read
abbrev pub before : ℕ → Result (List ℕ) EscapeFault → Result (List ℕ) EscapeFault
before b (Ok v) = Ok (b ∷ v)
before b (Err e) = Err e

-- the reading of a text that begins at this index of the whole
unfoldable pub unescaped_from : ℕ → List ℕ → Result (List ℕ) EscapeFault
unescaped_from at [] = Ok []
unescaped_from at (b ∷ []) = if b == 92 then Err Cut else Ok (b ∷ [])
unescaped_from at (b ∷ c ∷ rest) =
    if b == 92
    then option_map_or (λ o. before o (unescaped_from (at + 2) rest)) (octet_of c) (Err (Undefined at))
    else before b (unescaped_from (at + 1) (c ∷ rest))

-- the reading of a whole text
abbrev pub unescaped : List ℕ → Result (List ℕ) EscapeFault
unescaped text = unescaped_from 0 text

-- what was read, and what is read of the text after it
abbrev pub with_front : List ℕ → Result (List ℕ) EscapeFault → Result (List ℕ) EscapeFault
with_front front (Ok v) = Ok (front ++ v)
with_front front (Err e) = Err e

-- the reading of a text whose octets before this index are read as this front
abbrev pub unescaped_after : List ℕ → ℕ → List ℕ → Result (List ℕ) EscapeFault
unescaped_after front at rest = with_front front (unescaped_from at rest)
