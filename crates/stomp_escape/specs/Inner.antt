-- These modules only serve proofs: no public contract cites them, and nobody need believe them.
pub mod Escaping
pub mod Rooms
pub mod Unescaping
