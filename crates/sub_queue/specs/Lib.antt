pub mod Ends
pub mod Inner
pub mod Rule
pub mod Shown
pub mod VecQueue
