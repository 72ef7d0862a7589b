-- These modules only serve proofs: no public contract cites them, and nobody need believe them.
pub mod Board
pub mod EndState
