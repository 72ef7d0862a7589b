-- What every run of the machine keeps, move by move.
pub mod AnswerLemmas
pub mod ByFound
pub mod TopicOfMove
pub mod ClocksGrow
pub mod Effects
pub mod Invariant
pub mod InvariantIsKept
pub mod MadeOnce
pub mod ProposeStep
pub mod QueueSteps
pub mod SenderSteps
pub mod Speakers
pub mod SpanSteps
pub mod SubscriptionSteps
pub mod TopicSteps
pub mod VerdictsFit
