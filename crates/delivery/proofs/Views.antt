-- Laws that the code of the core rests on.
pub mod Events
pub mod Endpoints
pub mod Senders
pub mod Subscriptions
pub mod Clients
pub mod Verdicts
pub mod Lists
pub mod Runs
