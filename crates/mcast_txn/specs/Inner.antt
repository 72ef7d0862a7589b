-- These modules only serve proofs: no public contract cites them, and nobody need believe them.
pub mod Decided
pub mod DraftSends
pub mod RowIndex
pub mod Sealed
pub mod SealedSends
pub mod SendsHeld
pub mod Shares
pub mod SlotIndex
pub mod StoredSends
pub mod TicketSlots
