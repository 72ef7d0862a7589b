use Rattle.sender_gate.proofs.ClaimLemmas.{given_back_is_claimed}
use Rattle.sender_gate.proofs.law.given_back_is_claimed.Goals as goal

pub returns : goal.returns
returns c = given_back_is_claimed
