-- The delivery theorem: what is claimed of every run of the machine, and of each move.
pub mod Due
pub mod Settled
pub mod Laws
pub mod Reported
pub mod Answers
pub mod Spans
pub mod Tied
pub mod Examples
