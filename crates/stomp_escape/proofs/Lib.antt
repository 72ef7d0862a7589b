pub mod Letters
pub mod Steps
pub mod Laws
pub mod Waiting
