-- Subscriptions: how they begin and end, and their queues.
pub mod SubsOfStep
pub mod NewSubscription
pub mod ClosedIsDropped
pub mod OthersBeginNone
pub mod PlainMovesKeepAll
pub mod QueueOfSubscription
pub mod OpenIsLive
pub mod GaugesOfEntries
pub mod TurnAsksOwnEntries
