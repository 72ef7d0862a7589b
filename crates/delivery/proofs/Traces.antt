-- The trace of every run is explained, and complete where all topics are settled.
pub mod Lists
pub mod TracedRows
pub mod Sequence
pub mod Explained
pub mod Made
pub mod OfRuns
pub mod OfNets
pub mod Examples
