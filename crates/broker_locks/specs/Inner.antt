-- These modules only serve proofs: no public contract cites them, and nobody need believe them.
pub mod Proposing
pub mod Cancelling
pub mod Done
pub mod KeptRows
pub mod Waited
