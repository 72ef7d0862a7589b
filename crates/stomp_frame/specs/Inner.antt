-- These modules only serve proofs, and nobody need believe them. No public contract of this crate cites them.
pub mod Parser
pub mod Usual
pub mod NameKinds
pub mod PartialFrames
pub mod Withheld
