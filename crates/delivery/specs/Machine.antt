-- The ordering machine: what the core holds of topics, senders, connections and subscriptions, and its moves.
pub mod World
pub mod Observed
pub mod Objections
pub mod Moves
pub mod Runs
