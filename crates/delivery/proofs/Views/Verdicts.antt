-- The verdicts of all senders.
pub mod FoundVerdict
pub mod VerdictOfSender
pub mod VerdictTable
