-- Only serves proofs.
pub mod Clients
pub mod Leaving
pub mod NetInvariant
pub mod Nexts
pub mod Readings
pub mod Rooms
pub mod Senders
pub mod Stands
pub mod Subscriptions
pub mod Takes
pub mod TopicSteps
pub mod Verdicts
pub mod View
pub mod ViewReports
