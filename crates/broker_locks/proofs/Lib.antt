pub mod Proposals
pub mod Cancels
pub mod Whole
pub mod Committed
pub mod CancelRoom
pub mod TraceKept
pub mod PlaceTraces
pub mod Balance
pub mod Idle
pub mod Spans
pub mod Limits
pub mod Adding
pub mod Gathered
pub mod TraceRows
pub mod RunTraces
pub mod Lookups
pub mod Hearing
pub mod Waiting
pub mod OctetLemmas
pub mod Roomy
pub mod RoomKept
pub mod Reserving
mod Examples
mod ExamplesRoom
pub mod Ends
