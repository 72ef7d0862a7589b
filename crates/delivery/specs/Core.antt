-- The core: its steps, what they say of the ordering machine, what is written to each connection, which steps
-- a run may have, what is reported of it, and what the core's calls are to deliver.
pub mod Steps
pub mod Claims
pub mod Account
pub mod Told
pub mod Output
pub mod State
pub mod Outcomes
pub mod Reports
pub mod Stepped
pub mod Connections
pub mod Delivery
pub mod Answered
