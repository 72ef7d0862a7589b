-- What a claim that isn't refused goes on with. Only proofs go by it; no public contract speaks of it.
use Rattle.std.specs.Prelude.{◌≡◌, ℕ, true, List, slice_get, slice_set, Option, Some, None, is_some}
use Rattle.mcast_txn.specs.declared.id.Sender.{Sender}
use Rattle.sender_gate.specs.declared.claim.Claim.{Claim}
use Rattle.sender_gate.specs.declared.claim.Claim.TheVariants as claims
use Rattle.sender_gate.specs.Senders.{KeptSender, SendersState, after_claim, claimed}

-- the senders with this one, in use, at an index
abbrev pub with_used_at : ℕ → KeptSender → SendersState → SendersState
with_used_at index k s = record s { kept = slice_set s.kept index (record k { gate = None }) }

-- The kept sender at an index is the one that is claimed.
pub record IsClaimedAt (client : Option (List ℕ)) (s : SendersState) (index : ℕ) : Type 0 where
  pub kept : KeptSender
  pub found : claimed client s ≡ Some kept
  pub at : slice_get s.kept index ≡ Some kept
  pub after : after_claim client s ≡ with_used_at index kept s

-- This sender is the next, and none is kept that the claim could go on with.
pub record IsNextSender (client : Option (List ℕ)) (s : SendersState) (sender : Sender) : Type 0 where
  pub none : claimed client s ≡ None
  pub number : sender.0 ≡ s.begun

-- What is claimed is there for this claim: a kept sender isn't in use.
abbrev pub IsClaim : Option (List ℕ) → SendersState → Claim → Type 0
IsClaim client s (claims.Kept index) = (at : IsClaimedAt client s index) × (is_some at.kept.gate ≡ true)
IsClaim client s (claims.New sender) = IsNextSender client s sender
