pub mod Faults
pub mod Gate
pub mod Inner
pub mod Senders
