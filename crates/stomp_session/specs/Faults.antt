-- The numbers and names of what a session refuses (own).
use Rattle.std.specs.Prelude.{ℕ, List, codes}
use Rattle.stomp_session.specs.declared.fault.SessionFault.{SessionFault}
use Rattle.stomp_session.specs.declared.fault.SessionFault.TheVariants.{NotConnected, AlreadyConnected, NoVersion, SubIdInUse, NoSuchSub, TxnInUse, NoSuchTxn, AckMode, TooManySubs, TooManyTxns, TooManySends, NoMemory, Closed, TooManyTopics, BadDestination}

-- its number (own)
abbrev pub number_of : SessionFault → ℕ
number_of NotConnected = 60
number_of AlreadyConnected = 61
number_of NoVersion = 62
number_of SubIdInUse = 63
number_of NoSuchSub = 64
number_of TxnInUse = 65
number_of NoSuchTxn = 66
number_of AckMode = 68
number_of TooManySubs = 69
number_of TooManyTxns = 70
number_of TooManySends = 71
number_of NoMemory = 72
number_of Closed = 73
number_of TooManyTopics = 75
number_of BadDestination = 76

-- the message of its ERROR frame
abbrev pub session_title : SessionFault → List ℕ
session_title NotConnected = codes "60 NotConnected"
session_title AlreadyConnected = codes "61 AlreadyConnected"
session_title NoVersion = codes "62 NoVersion"
session_title SubIdInUse = codes "63 SubIdInUse"
session_title NoSuchSub = codes "64 NoSuchSub"
session_title TxnInUse = codes "65 TxnInUse"
session_title NoSuchTxn = codes "66 NoSuchTxn"
session_title AckMode = codes "68 AckMode"
session_title TooManySubs = codes "69 TooManySubs"
session_title TooManyTxns = codes "70 TooManyTxns"
session_title TooManySends = codes "71 TooManySends"
session_title NoMemory = codes "72 NoMemory"
session_title Closed = codes "73 Closed"
session_title TooManyTopics = codes "75 TooManyTopics"
session_title BadDestination = codes "76 BadDestination"
