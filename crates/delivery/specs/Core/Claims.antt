-- Which sender a connection speaks for, from the CONNECTs of a run that were accepted alone.
use Rattle.std.specs.Prelude.{ℕ, ◌+◌, ◌==◌, nat_lt, Bool, true, false, not, ◌&&◌, ◌||◌, List, [], ◌∷◌, ◌++◌, Option, Some, None, if◌then◌else◌}
use Rattle.std.specs.List.{flat_map, list_any, position_or_len}
use Rattle.std.specs.Option.{is_some, option_map_or, unwrap_or}
use Rattle.std.specs.Str.{bytes_eq}
use Rattle.stomp_frame.specs.declared.raw_frame.RawFrame.{RawFrame}
use Rattle.stomp_frame.specs.Cases.{is_connect}
use Rattle.stomp_session.specs.Frames.{client_of}
use Rattle.sender_gate.specs.Senders.{max_clients, max_senders}
use Rattle.delivery.specs.declared.event.Event.{Event}
use Rattle.delivery.specs.Core.Steps.{CoreStep, accepted_in}

-- an accepted CONNECT: of which connection, and with which client-id, if it has one
pub record Claim : Type 0 where
  pub connection : ℕ
  pub client : Option (List ℕ)

-- the claim that an event makes, where this frame was accepted
abbrev pub claim_of : Event → Option RawFrame → List Claim
claim_of (Event.Next c) (Some f) =
    if is_connect f.command then record { connection = c; client = client_of f } ∷ [] else []
claim_of e accepted = []

-- the claims of a run, the newest first
abbrev pub claims_of : List CoreStep → List Claim
claims_of steps = flat_map (λ (step : CoreStep). claim_of step.event (accepted_in step)) steps

-- the claim has this client-id
abbrev pub has_client : List ℕ → Claim → Bool
has_client id claim = option_map_or (bytes_eq id) claim.client false

-- this client-id was claimed before: its sender is kept
abbrev pub is_kept : List ℕ → List Claim → Bool
is_kept id before = list_any (has_client id) before

-- a sender begins by a claim without a client-id, and by the first of each client-id
abbrev pub begins : Option (List ℕ) → List Claim → Bool
begins client before = option_map_or (λ id. not (is_kept id before)) client true

-- how many senders have begun
abbrev pub begun_count : List Claim → ℕ
begun_count [] = 0
begun_count (claim ∷ before) =
    if begins claim.client before then begun_count before + 1 else begun_count before

-- The sender of this client-id: as many senders had begun before the first claim of it. So of claims of p,
-- without a client-id, of p and of q, in this order, p has 0 and q has 2.
abbrev pub kept_sender : List ℕ → List Claim → ℕ
kept_sender id [] = 0
kept_sender id (claim ∷ before) =
    if has_client id claim && not (is_kept id before) then begun_count before else kept_sender id before

-- the sender that goes on by such a claim, if one does
abbrev pub claimed_sender : Option (List ℕ) → List Claim → Option ℕ
claimed_sender None before = None
claimed_sender (Some id) before = if is_kept id before then Some (kept_sender id before) else None

-- The sender that connection c speaks for, once it has claimed one: that which goes on by its claim, or the
-- next to begin.
abbrev pub sender_claimed : ℕ → List Claim → Option ℕ
sender_claimed c [] = None
sender_claimed c (claim ∷ before) =
    if claim.connection == c
    then Some (unwrap_or (claimed_sender claim.client before) (begun_count before))
    else sender_claimed c before

-- they are one client-id
abbrev pub is_one_client : Option (List ℕ) → Option (List ℕ) → Bool
is_one_client client other = option_map_or (λ id. option_map_or (bytes_eq id) other false) client false

-- The senders that have begun, in their order, each by its client-id. So after claims of p, without a
-- client-id, of p and of q, in this order, there are p, one without and q.
abbrev pub senders_of : List Claim → List (Option (List ℕ))
senders_of [] = []
senders_of (claim ∷ before) =
    let senders = senders_of before in
    if list_any (is_one_client claim.client) senders then senders else senders ++ claim.client ∷ []

-- The sender that connection c speaks for, by its place among them: that of its client-id, or the next to
-- begin. Before its claim, 0.
abbrev pub sender_of : ℕ → List Claim → ℕ
sender_of c [] = 0
sender_of c (x ∷ past) =
    if x.connection == c then position_or_len (is_one_client x.client) (senders_of past) else sender_of c past

-- how many of the senders that have begun are kept
abbrev pub kept_count : List Claim → ℕ
kept_count [] = 0
kept_count (claim ∷ before) =
    if is_some claim.client && begins claim.client before then kept_count before + 1 else kept_count before

-- such a claim would keep one client-id too many, or begin one sender too many
abbrev pub is_one_too_many : Option (List ℕ) → List Claim → Bool
is_one_too_many client before =
    begins client before
    && ((is_some client && not (nat_lt (kept_count before) max_clients))
    || not (nat_lt (begun_count before) max_senders))
