use Rattle.sender_gate.proofs.ClaimLemmas.{claimed_is_in_use}
use Rattle.sender_gate.proofs.law.claimed_is_in_use.Goals as goal

pub returns : goal.returns
returns c = claimed_is_in_use
