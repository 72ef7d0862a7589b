-- The numbers of the faults of a gate and of a claim (own).
use Rattle.std.specs.Prelude.{ℕ}
use Rattle.mcast_txn.specs.declared.fault.BallotFault.{BallotFault}
use Rattle.mcast_txn.specs.declared.fault.BallotFault.TheVariants as ballot
use Rattle.sender_gate.specs.declared.fault.ClaimFault.{ClaimFault}
use Rattle.sender_gate.specs.declared.fault.ClaimFault.TheVariants as claim
use Rattle.sender_gate.specs.declared.fault.GateFault.{GateFault}
use Rattle.sender_gate.specs.declared.fault.GateFault.TheVariants as gate

abbrev pub gate_number : GateFault → ℕ
gate_number gate.NotNamed = 50
gate_number gate.Twice = 51
gate_number gate.Incomplete = 52
gate_number gate.SeqFull = 53
gate_number gate.BelowFloor = 54
gate_number gate.NoMemory = 55

-- the ballot's fault, as the gate tells it
abbrev pub gate_fault : BallotFault → GateFault
gate_fault ballot.NotNamed = gate.NotNamed
gate_fault ballot.Twice = gate.Twice

abbrev pub claim_number : ClaimFault → ℕ
claim_number claim.SenderInUse = 77
claim_number claim.TooManyClients = 78
claim_number claim.NoMemory = 55
