-- Senders that are kept by client-id.
pub mod RestingStay
pub mod Claiming
pub mod GivenBack
pub mod BothOfStep
