-- What the refusals of a move say, where none of them holds.
use Rattle.delivery.proofs.Words.All.{◌≡◌, ℕ, ◌<◌, not, false, length, ltb, ltb-true, not-false, World}

-- its connection is there
pub connection_there : (w : World) (c : ℕ) → not (ltb c (length w.connections)) ≡ false → c < length w.connections
connection_there w c e = ltb-true c (length w.connections) (not-false (ltb c (length w.connections)) e)
