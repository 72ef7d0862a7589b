-- Lists by number, and the text of messages.
pub mod ByNumber
pub mod TextOfMessages
