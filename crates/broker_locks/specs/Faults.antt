-- The numbers and the titles of the faults of a commit and of a running broker (own).
use Rattle.std.specs.Prelude.{ℕ, List, codes}
use Rattle.mcast_group.specs.declared.fault.ProposeFault.{ProposeFault}
use Rattle.mcast_group.specs.declared.fault.ProposeFault.TheVariants as propose
use Rattle.broker_locks.specs.declared.fault.CommitFault.{CommitFault}
use Rattle.broker_locks.specs.declared.fault.CommitFault.TheVariants as commit
use Rattle.broker_locks.specs.declared.no_room.NoRoom.{NoRoom}
use Rattle.broker_locks.specs.declared.no_room.NoRoom.TheVariants as no_room
use Rattle.broker_locks.specs.declared.server_fault.ServerFault.{ServerFault}
use Rattle.broker_locks.specs.declared.server_fault.ServerFault.TheVariants as server

abbrev pub commit_number : CommitFault → ℕ
commit_number commit.ClockFull = 40
commit_number commit.LogFull = 41
commit_number commit.NoMemory = 42
commit_number commit.Twice = 49
commit_number commit.AlreadySet = 32

-- the message of the ERROR that ends the connection of a refused transaction
abbrev pub commit_title : CommitFault → List ℕ
commit_title commit.ClockFull = codes "40 ClockFull"
commit_title commit.LogFull = codes "41 LogFull"
commit_title commit.NoMemory = codes "42 NoMemory"
commit_title commit.Twice = codes "49 Twice"
commit_title commit.AlreadySet = codes "32 AlreadySet"

-- a topic's fault, as the commit's
abbrev pub commit_fault : ProposeFault → CommitFault
commit_fault propose.ClockFull = commit.ClockFull
commit_fault propose.LogFull = commit.LogFull
commit_fault propose.NoMemory = commit.NoMemory
commit_fault propose.Twice = commit.Twice

-- ---- of a reservation (own)

abbrev pub no_room_number : NoRoom → ℕ
no_room_number (no_room.Full topic sub) = 104
no_room_number no_room.NoMemory = 105

abbrev pub no_room_title : NoRoom → List ℕ
no_room_title (no_room.Full topic sub) = codes "104 Full"
no_room_title no_room.NoMemory = codes "105 NoMemory"

-- ---- of a running broker (own)

abbrev pub server_number : ServerFault → ℕ
server_number server.TooManyConns = 100
server_number server.NoMemory = 101
server_number server.Io = 102

abbrev pub server_title : ServerFault → List ℕ
server_title server.TooManyConns = codes "100 TooManyConns"
server_title server.NoMemory = codes "101 NoMemory"
server_title server.Io = codes "102 Io"
