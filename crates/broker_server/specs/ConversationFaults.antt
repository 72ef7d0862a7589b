-- Why a connection of the server ends by an ERROR, and how it is told (own).
use Rattle.std.specs.Prelude.{ℕ, Bool, false, List, codes, Option}
use Rattle.stomp_frame.specs.declared.raw_frame.RawFrame.{RawFrame}
use Rattle.stomp_frame.specs.ServerFrames.{error_frame}
use Rattle.sender_gate.specs.declared.fault.ClaimFault.TheVariants as claim
use Rattle.broker_locks.specs.declared.fault.CommitFault.TheVariants as commit
use Rattle.broker_locks.specs.Faults.{commit_title}
use Rattle.stomp_frame.specs.declared.fault.Check.{Check}
use Rattle.stomp_frame.specs.declared.fault.FrameFault.{FrameFault}
use Rattle.delivery.specs.declared.connection_fault.ConnectionFault.TheVariants.{Stream, ReaderNoMemory}
use Rattle.delivery.specs.Faults.{connection_title}
use Rattle.delivery.specs.Core.Output.{says_version}
use Rattle.broker_server.specs.declared.conversation.conversation_fault.ConversationFault.{ConversationFault}
use Rattle.broker_server.specs.declared.conversation.conversation_fault.ConversationFault.TheVariants.{Connection, Claim, Commit, Lagged}

-- The message of its ERROR. What a client can't mend is told as want of memory: so 49 is told as 72, and so
-- is 55.
abbrev pub conversation_title : ConversationFault → List ℕ
conversation_title (Connection fault) = connection_title fault
conversation_title (Claim claim.SenderInUse) = codes "77 SenderInUse"
conversation_title (Claim claim.TooManyClients) = codes "78 TooManyClients"
conversation_title (Commit commit.ClockFull) = commit_title commit.ClockFull
conversation_title (Commit commit.LogFull) = commit_title commit.LogFull
conversation_title (Commit commit.NoMemory) = commit_title commit.NoMemory
conversation_title (Lagged topic items) = codes "74 Lagged"
conversation_title _ = codes "72 NoMemory"

-- whether its ERROR says which version is supported, where it is a fault of this frame, if one was read
abbrev pub tells_version : Option RawFrame → ConversationFault → Bool
tells_version read (Connection fault) = says_version read fault
tells_version read _ = false

-- a reader's fault, as that of its connection: where its text fails a check, or there was no memory
abbrev pub fault_of_reader : FrameFault → ConversationFault
fault_of_reader FrameFault.BadCommand = Connection (Stream Check.BadCommand)
fault_of_reader FrameFault.BadLine = Connection (Stream Check.BadLine)
fault_of_reader FrameFault.BadHeader = Connection (Stream Check.BadHeader)
fault_of_reader FrameFault.BadEscape = Connection (Stream Check.BadEscape)
fault_of_reader FrameFault.BadText = Connection (Stream Check.BadText)
fault_of_reader FrameFault.BadLength = Connection (Stream Check.BadLength)
fault_of_reader FrameFault.BadEnd = Connection (Stream Check.BadEnd)
fault_of_reader FrameFault.LineTooLong = Connection (Stream Check.LineTooLong)
fault_of_reader FrameFault.TooManyHeaders = Connection (Stream Check.TooManyHeaders)
fault_of_reader FrameFault.BodyTooLong = Connection (Stream Check.BodyTooLong)
fault_of_reader FrameFault.NoMemory = Connection ReaderNoMemory

-- the ERROR of a frame that asked for this receipt, if it asked for one, which says the version or doesn't
abbrev pub told_error : Bool → ConversationFault → Option (List ℕ) → RawFrame
told_error version fault receipt = error_frame (conversation_title fault) receipt version
