-- Only serves proofs: an octet as it is written, without a branch.
use Rattle.std.specs.Prelude.{ℕ}
use Rattle.std.specs.Option.{option_map_or}
use Rattle.stomp_escape.specs.Escape.{letter_of}

-- the letter of an octet's escape, or 0 where it has none
abbrev pub letter_or_zero : ℕ → ℕ
letter_or_zero b = option_map_or (λ c. c) (letter_of b) 0

-- the first octet that it is written as
abbrev pub first_written : ℕ → ℕ
first_written b = option_map_or (λ c. 92) (letter_of b) b
