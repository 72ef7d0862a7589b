pub mod Names
pub mod Frames
pub mod Open
pub mod Versions
pub mod Faults
pub mod Refusals
pub mod Answers
pub mod Inner
