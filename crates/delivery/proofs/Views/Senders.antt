-- Senders and their undecided transactions.
pub mod HeldSenders
pub mod SenderChanges
pub mod SameSeqAndReceipt
pub mod LastFailure
pub mod TicketsOfTopics
pub mod SlotsOfTopics
pub mod RoomLasts
pub mod SendsAreToTopics
pub mod ConnectedSpeak
