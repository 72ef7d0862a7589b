-- Only serves proofs: the senders as `Senders` holds them beside a core, and what a step makes of both.
use Rattle.std.specs.Prelude.{◌≡◌, ◌<◌, ℕ, List, [], ◌∷◌, ◌++◌, length, get_or, nat_lt, set, slice_get, Option, Some, None, if◌then◌else◌}
use Rattle.std.specs.Option.{option_and_then, option_map_or}
use Rattle.stomp_frame.specs.ServerFrames.{connected_frame}
use Rattle.stomp_frame.specs.Writing.{spelling_of}
use Rattle.sender_gate.specs.declared.fault.ClaimFault.{ClaimFault}
use Rattle.sender_gate.specs.declared.fault.ClaimFault.TheVariants as claims
use Rattle.sender_gate.specs.Gate.{GateState}
use Rattle.sender_gate.specs.Senders.{KeptSender, SendersState, after_give_back, claim_refusal, claimed_gate, find_kept}
use Rattle.delivery.specs.declared.connection_fault.ConnectionFault.{ConnectionFault}
use Rattle.delivery.specs.declared.event.Event.{Event}
use Rattle.delivery.specs.declared.outcome.Outcome.{Outcome}
use Rattle.delivery.specs.declared.sending.Sending.{Sending}
use Rattle.delivery.specs.Machine.World.{World, is_in_use, sender_at}
use Rattle.delivery.specs.Core.Claims.{Claim, claims_of, is_kept, begun_count, kept_sender, kept_count}
use Rattle.delivery.specs.Core.Outcomes.{MayStep, frame_no_memory}
use Rattle.delivery.specs.Core.Steps.{Reading}
use Rattle.delivery.specs.Core.State.{Core, core_after}
use Rattle.delivery.specs.Inner.Senders.{sender_in}
use Rattle.delivery.specs.Inner.Stands.{IsReached, step_of}
use Rattle.delivery.specs.Inner.View.{View, EndpointView, SenderView, rested_sender, view_of, no_endpoint}

-- ---- what is held

-- the gate of the sender of this number, while no connection speaks for it
abbrev pub resting_gate : World → ℕ → Option GateState
resting_gate w s =
    if is_in_use w s then None
    else
    Some (record { sender = record { 0 = s }; seq = (sender_at w s).seq; floor = (sender_at w s).floor })

-- the kept sender of this client-id after these claims, if it is kept
abbrev pub kept_entry : World → List Claim → List ℕ → Option KeptSender
kept_entry w before id =
    if is_kept id before
    then
    Some (record {
      client = id;
      sender = record { 0 = kept_sender id before };
      gate = resting_gate w (kept_sender id before);
    })
    else None

-- These senders are those of a machine after these claims: as many have begun, as many are kept, and by each
-- client-id its own is found.
pub record AreClaimed (w : World) (before : List Claim) (clients : SendersState) : Type 0 where
  pub begun : clients.begun ≡ begun_count before
  pub count : length clients.kept ≡ kept_count before
  pub found : (id : List ℕ) → find_kept id clients ≡ kept_entry w before id

-- so they are those of a core
abbrev pub AreClients : Core → SendersState → Type 0
AreClients k clients = AreClaimed k.world (claims_of k.steps) clients

-- this is held of a core that a run leads to, and these are its senders
abbrev pub AreHeld : View → SendersState → Type 0
AreHeld held clients = (k : Core) × IsReached k × (held ≡ view_of k) × AreClients k clients

-- ---- a step

-- the core may answer the event so; this is the view of what it is then, and these are its senders
pub record MakesBoth (k : Core) (e : Event) (o : Outcome) (new : View) (senders : SendersState) : Type 0 where
  pub reading : Reading
  pub may : MayStep k (step_of e reading o)
  pub view : new ≡ view_of (core_after k (step_of e reading o))
  pub claimed : AreClients (core_after k (step_of e reading o)) senders

-- ---- a claim

-- a refused claim's fault, as that of its connection
abbrev pub refused_claim : ClaimFault → ConnectionFault
refused_claim claims.SenderInUse = ConnectionFault.SenderInUse
refused_claim claims.TooManyClients = ConnectionFault.TooManyClients
refused_claim claims.NoMemory = frame_no_memory

-- a claim that isn't refused gets the gate of a new sender, or of one that is resting
abbrev pub MayResume : Option (List ℕ) → SendersState → View → Type 0
MayResume client clients v =
    claim_refusal client clients ≡ None
    → (claimed_gate client clients).sender.0 < length v.senders
    → (sender_in v (claimed_gate client clients).sender.0).sending ≡ Sending.Resting

-- with the sender of this gate, which goes on from it; one more where it is a new one's
abbrev pub with_sender_of : GateState → View → View
with_sender_of gate v =
    if nat_lt gate.sender.0 (length v.senders)
    then
    record v {
      senders = set v.senders gate.sender.0
          (record (sender_in v gate.sender.0) { sending = Sending.Idle gate });
    }
    else
    record v {
      senders = v.senders ++ record { sending = Sending.Idle gate; leftovers = [] } ∷ [];
      verdicts = v.verdicts ++ [] ∷ [];
    }

-- the endpoint of a connection that has claimed the sender of this number, with its CONNECTED
abbrev pub claiming_endpoint : ℕ → EndpointView → EndpointView
claiming_endpoint s endpoint =
    record endpoint { sender = Some s; output = endpoint.output ++ spelling_of connected_frame }

-- what is held once connection c has claimed the sender of this gate
abbrev pub claimed_view : GateState → ℕ → View → View
claimed_view gate c v =
    record (with_sender_of gate v) {
      endpoints = set v.endpoints c (claiming_endpoint gate.sender.0 (get_or v.endpoints c no_endpoint));
    }

-- ---- a gate that is given back

-- the gate of a sender without a transaction
abbrev pub idle_gate : SenderView → Option GateState
idle_gate x = elim x.sending [
  | Sending.Idle gate ↦ Some gate
  | Sending.Resting ↦ None
  | Sending.Flying flight topics ↦ None
  | Sending.Marked gate tickets fault ↦ None
]

-- the gate of a connection's sender, if it has one without a transaction
abbrev pub gate_at : View → ℕ → Option GateState
gate_at v c =
    option_and_then (λ s. option_and_then idle_gate (slice_get v.senders s))
    (get_or v.endpoints c no_endpoint).sender

-- these senders, with that gate given back
abbrev pub given_back : View → ℕ → SendersState → SendersState
given_back v c clients = option_map_or (λ gate. after_give_back gate clients) (gate_at v c) clients

-- what is held without that gate
abbrev pub rested_view : ℕ → View → View
rested_view c v =
    option_map_or (λ s. record v { senders = set v.senders s (rested_sender (sender_in v s)) })
    (get_or v.endpoints c no_endpoint).sender v
