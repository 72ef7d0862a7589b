-- These modules only serve proofs: no public contract cites them, and nobody need believe them.
pub mod Chained
pub mod InOrder
pub mod LogFault
pub mod Orders
pub mod Printing
pub mod Reading
pub mod Sorting
