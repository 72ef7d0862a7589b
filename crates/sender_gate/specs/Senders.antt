-- Senders that outlive a connection, kept by client-id.
-- proofs/SenderRows.antt has worked rows, computed from these definitions.
use Rattle.std.specs.Prelude.{◌≡◌, ◌+◌, ◌==◌, nat_lt, ℕ, Bool, true, false, not, ◌&&◌, ◌||◌, ◌⊎◌, List, [], ◌∷◌, ◌++◌, length, map, find, Option, Some, None, is_some, is_none, if◌then◌else◌}
use Rattle.std.specs.Option.{option_and_then, option_map_or, option_to_list, unwrap_or}
use Rattle.std.specs.Str.{bytes_eq}
use Rattle.mcast_txn.specs.declared.id.Sender.{Sender}
use Rattle.mcast_txn.specs.Checks.{first_refusal}
use Rattle.mcast_txn.specs.Stamp.{zero_stamp}
use Rattle.sender_gate.specs.declared.fault.ClaimFault.{ClaimFault}
use Rattle.sender_gate.specs.declared.fault.ClaimFault.TheVariants.{SenderInUse, TooManyClients, NoMemory}
use Rattle.sender_gate.specs.Gate.{GateState}

-- a sender that is kept: its client-id, its number, and the gate that was given back, none while it is in use
pub record KeptSender : Type 0 where
  pub client : List ℕ
  pub sender : Sender
  pub gate : Option GateState

-- how many senders have begun, and those of them that are kept, in the order in which they began
pub record SendersState : Type 0 where
  pub begun : ℕ
  pub kept : List KeptSender

-- the most client-ids that are kept (own)
abbrev pub max_clients : ℕ
max_clients = 65536

-- the most senders that begin, since each has a number below 2^64
abbrev pub max_senders : ℕ
max_senders = 18446744073709551616

-- the gate of a sender that has sent nothing
abbrev pub new_gate : Sender → GateState
new_gate sender = record { sender = sender; seq = 0; floor = zero_stamp }

-- the kept sender of this client-id
abbrev pub find_kept : List ℕ → SendersState → Option KeptSender
find_kept client s = find (λ k. bytes_eq client k.client) s.kept

-- the kept sender that a claim goes on with: that of its client-id, if it has one that is kept
abbrev pub claimed : Option (List ℕ) → SendersState → Option KeptSender
claimed client s = option_and_then (λ id. find_kept id s) client

-- the sender that a claim goes on with is in use
abbrev pub is_claimed_already : Option (List ℕ) → SendersState → Bool
is_claimed_already client s = option_map_or (λ k. is_none k.gate) (claimed client s) false

-- the claim has a client-id that isn't kept yet
abbrev pub has_new_client : Option (List ℕ) → SendersState → Bool
has_new_client client s = is_some client && is_none (claimed client s)

-- the claim would keep one client-id too many, or begin one sender too many
abbrev pub lacks_room : Option (List ℕ) → SendersState → Bool
lacks_room client s =
    (has_new_client client s && not (nat_lt (length s.kept) max_clients))
    || (is_none (claimed client s) && not (nat_lt s.begun max_senders))

-- why a claim is refused, but for memory
abbrev pub claim_refusal : Option (List ℕ) → SendersState → Option ClaimFault
claim_refusal client s =
    first_refusal ((is_claimed_already client s, SenderInUse) ∷ (lacks_room client s, TooManyClients) ∷ [])

-- A refused claim may answer this fault: why it is refused, or else that there was no memory, which only a
-- new client-id needs.
abbrev pub MayRefuse : Option (List ℕ) → SendersState → ClaimFault → Type 0
MayRefuse client s fault =
    (claim_refusal client s ≡ Some fault)
    ⊎ ((claim_refusal client s ≡ None) × (fault ≡ NoMemory) × (has_new_client client s ≡ true))

-- the gate that a claim gets: the one that was given back last, or a new sender's
abbrev pub claimed_gate : Option (List ℕ) → SendersState → GateState
claimed_gate client s =
    option_map_or (λ k. unwrap_or k.gate (new_gate k.sender)) (claimed client s)
    (new_gate (record { 0 = s.begun }))

-- a kept sender, in use where it is that of this client-id
abbrev pub in_use_by : List ℕ → KeptSender → KeptSender
in_use_by client k = if bytes_eq client k.client then record k { gate = None } else k

-- the senders with the one of this client-id in use
abbrev pub with_in_use : List ℕ → SendersState → SendersState
with_in_use client s = record s { kept = map (in_use_by client) s.kept }

-- a new kept sender of this client-id and number: it is in use
abbrev pub new_kept : List ℕ → ℕ → KeptSender
new_kept client number = record { client = client; sender = record { 0 = number }; gate = None }

-- the senders with one more that begins, and is kept where it has a client-id
abbrev pub with_new_sender : Option (List ℕ) → SendersState → SendersState
with_new_sender client s = record {
  begun = s.begun + 1;
  kept = s.kept ++ map (λ id. new_kept id s.begun) (option_to_list client);
}

-- the senders after a claim that isn't refused
abbrev pub after_claim : Option (List ℕ) → SendersState → SendersState
after_claim client s =
    if is_some (claimed client s) then option_map_or (λ id. with_in_use id s) client s
    else with_new_sender client s

-- a kept sender, with this gate where the gate is its own and it is in use
abbrev pub kept_with : GateState → KeptSender → KeptSender
kept_with gate k =
    if (k.sender.0 == gate.sender.0) && is_none k.gate then record k { gate = Some gate } else k

-- The senders after a gate was given back: the kept sender that it is of has it, where that is in use. Any
-- other gate is dropped.
abbrev pub after_give_back : GateState → SendersState → SendersState
after_give_back gate s = record s { kept = map (kept_with gate) s.kept }

-- A gate that was given back is the one that the next claim of its client-id gets: that isn't refused.
abbrev pub GivenBackIsClaimed : Type 0
GivenBackIsClaimed =
    (client : List ℕ) (gate : GateState) (s : SendersState) (k : KeptSender)
    → find_kept client s ≡ Some k → k.sender ≡ gate.sender → k.gate ≡ None
    → (claim_refusal (Some client) (after_give_back gate s) ≡ None)
    × (claimed_gate (Some client) (after_give_back gate s) ≡ gate)

-- A client-id that was claimed is in use: the next claim of it is refused.
abbrev pub ClaimedIsInUse : Type 0
ClaimedIsInUse =
    (client : List ℕ) (s : SendersState)
    → claim_refusal (Some client) (after_claim (Some client) s) ≡ Some SenderInUse
