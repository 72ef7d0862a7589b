-- How a broker's tickets are counted.
use Rattle.std.specs.Prelude.{ℕ}

-- The shares of workers.
-- workers: of how many workers they are.
-- tickets: how many tickets these were given.
pub record SharesState : Type 0 where
  pub workers : ℕ
  pub tickets : ℕ

-- the most tickets that a broker gives, 2^64 - 1 (own)
abbrev pub most_tickets : ℕ
most_tickets = 18446744073709551615
