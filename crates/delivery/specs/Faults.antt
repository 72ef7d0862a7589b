-- The numbers and names of what the core refuses (own).
use Rattle.std.specs.Prelude.{ℕ, List, codes}
use Rattle.stomp_frame.specs.Faults.{fault_of, frame_number, title_of}
use Rattle.stomp_frame.specs.Cases.{case_number, case_title}
use Rattle.stomp_session.specs.Faults.{number_of, session_title}
use Rattle.delivery.specs.declared.connection_fault.ConnectionFault.{ConnectionFault}
use Rattle.delivery.specs.declared.connection_fault.ConnectionFault.TheVariants as connection
use Rattle.delivery.specs.declared.refusal.Refusal.{Refusal}
use Rattle.delivery.specs.declared.refusal.Refusal.TheVariants as refusal

-- its number
abbrev pub refusal_number : Refusal → ℕ
refusal_number refusal.NotPending = 43
refusal_number refusal.NoSub = 48
refusal_number refusal.Twice = 51
refusal_number refusal.Incomplete = 52
refusal_number refusal.NotLeaving = 79
refusal_number refusal.NoConn = 80
refusal_number refusal.Busy = 81
refusal_number refusal.NoFrame = 82
refusal_number refusal.NoFlight = 83
refusal_number refusal.NotNamed = 84
refusal_number refusal.NotDecided = 85
refusal_number refusal.NothingDue = 86
refusal_number refusal.Gone = 87
refusal_number refusal.Marked = 88
refusal_number refusal.NotMarked = 89

-- its number and its name
abbrev pub refusal_title : Refusal → List ℕ
refusal_title refusal.NotPending = codes "43 NotPending"
refusal_title refusal.NoSub = codes "48 NoSub"
refusal_title refusal.Twice = codes "51 Twice"
refusal_title refusal.Incomplete = codes "52 Incomplete"
refusal_title refusal.NotLeaving = codes "79 NotLeaving"
refusal_title refusal.NoConn = codes "80 NoConn"
refusal_title refusal.Busy = codes "81 Busy"
refusal_title refusal.NoFrame = codes "82 NoFrame"
refusal_title refusal.NoFlight = codes "83 NoFlight"
refusal_title refusal.NotNamed = codes "84 NotNamed"
refusal_title refusal.NotDecided = codes "85 NotDecided"
refusal_title refusal.NothingDue = codes "86 NothingDue"
refusal_title refusal.Gone = codes "87 Gone"
refusal_title refusal.Marked = codes "88 Marked"
refusal_title refusal.NotMarked = codes "89 NotMarked"

-- the number of what ends a connection: that of the check, of the case table or of the session, or the
-- core's own
abbrev pub connection_number : ConnectionFault → ℕ
connection_number (connection.Stream check) = frame_number (fault_of check)
connection_number (connection.Frame fault) = case_number fault
connection_number (connection.Session fault) = number_of fault
connection_number connection.SenderInUse = 77
connection_number connection.TooManyClients = 78
connection_number connection.Lagged = 74
connection_number connection.ReaderNoMemory = 72

-- its number and its name, as the message of the ERROR has them
abbrev pub connection_title : ConnectionFault → List ℕ
connection_title (connection.Stream check) = title_of (fault_of check)
connection_title (connection.Frame fault) = case_title fault
connection_title (connection.Session fault) = session_title fault
connection_title connection.SenderInUse = codes "77 SenderInUse"
connection_title connection.TooManyClients = codes "78 TooManyClients"
connection_title connection.Lagged = codes "74 Lagged"
connection_title connection.ReaderNoMemory = codes "72 NoMemory"
