-- Worked rows of senders that outlive a connection.
use Rattle.delivery.proofs.Words.All.{false, refl, ◌≡◌, ℕ, List, [], ◌∷◌, map, codes, Some, None, Event, Refusal, ConnectionFault, Claim, begun_count, claims_of, kept_count, sender_claimed, senders_of, sender_of, Core, new_core, report_of, Flying, Proposed, Faulted}
use Rattle.delivery.specs.declared.outcome.Outcome.TheVariants.{Opened, Done, Failed, Decided, Withdrawn, Cancelled, Turned, Leaving, Gone, Refused}
use Rattle.stomp_frame.specs.declared.command.Command.TheVariants as commands
use Rattle.mcast_group.specs.declared.fault.ProposeFault.TheVariants as proposals
use Rattle.delivery.proofs.Core.Agreement.{agreements, all_agree}
use Rattle.delivery.proofs.Core.Rows.{greeting}
use Rattle.delivery.proofs.Core.Acts.{topic_list, Act, frame, topic, stamp, id, log_row, act, reads, played, shown_outcomes, begin, send, send_in, commit, opens, propose, turn, A, B}

-- the client-ids of these rows
abbrev pub p : List ℕ
p = codes "p"

abbrev pub q : List ℕ
q = codes "q"

-- a connection is opened, and connected with this client-id
abbrev pub opens_as : ℕ → List ℕ → List Act → List Act
opens_as c client then =
    act Event.Open
    ∷ reads c (frame commands.Connect ((codes "accept-version", codes "1.2") ∷ (codes "host", codes "h") ∷ (codes "client-id", client) ∷ []) [])
    ∷ then

-- a transaction of c to A and B
abbrev pub commits_both : ℕ → List Act → List Act
commits_both c then =
    reads c (begin (codes "x")) ∷ reads c (send_in (codes "x") A (codes "1")) ∷ reads c (send_in (codes "x") B (codes "1"))
    ∷ reads c (commit (codes "x")) ∷ then

-- the text out of a connection whose client-id is in use
abbrev pub in_use : List ℕ
in_use = codes "ERROR\nmessage:77 SenderInUse\ncontent-length:0\n\n\0"

-- ---- a sender goes on, with its count and its floor, once its connection is gone

-- a core with topics A, whose clock is at 9, and B
abbrev pub nine : Core
nine = new_core (topic_list ((A, 9) ∷ (B, 0) ∷ [])) 64

-- p commits to A and B and is lost; a second connection of p comes too soon, a third in time, and one without a client-id
abbrev pub lasting_acts : List Act
lasting_acts = opens_as 0 p (commits_both 0 (
    propose 0 0 ∷ propose 0 1 ∷ act (Event.Decide 0) ∷ act (Event.Lost 0)
    ∷ opens_as 1 p (act (Event.Leave 0)
    ∷ opens_as 2 p (reads 2 (send B (codes "2")) ∷ propose 2 1 ∷ act (Event.Decide 2) ∷ turn 1
    ∷ opens 3 (reads 3 (send B (codes "3")) ∷ [])))))

-- the core after them
abbrev pub lasting : Core
lasting = played nine lasting_acts

lasting_rows : (shown_outcomes lasting
    ≡ Opened 0 ∷ Done ∷ Done ∷ Done ∷ Done ∷ Flying (id 0 1) ∷ Proposed 10 ∷ Proposed 1 ∷ Decided (stamp 10 0) false ∷ Leaving
    ∷ Opened 1 ∷ Faulted ConnectionFault.SenderInUse false ∷ Gone false
    ∷ Opened 2 ∷ Done ∷ Flying (id 0 2) ∷ Proposed 11 ∷ Decided (stamp 11 1) false ∷ Turned 2
    ∷ Opened 3 ∷ Done ∷ Flying (id 1 1) ∷ [])
    × (agreements nine lasting_acts ≡ all_agree)
    × ((report_of lasting).commits ≡ log_row 0 1 10 0 (0 ∷ 1 ∷ []) ∷ log_row 0 2 11 1 (1 ∷ []) ∷ [])
    × ((report_of lasting).outs ≡ greeting ∷ in_use ∷ greeting ∷ greeting ∷ [])
lasting_rows = (refl, refl, refl, refl)

-- ---- it is in use while its lost connection's transaction goes on

-- p is lost between its two proposals; of three more connections of p the last comes once it is gone
abbrev pub flying_acts : List Act
flying_acts = opens_as 0 p (commits_both 0 (
    propose 0 0 ∷ act (Event.Lost 0)
    ∷ opens_as 1 p (act (Event.Leave 0) ∷ propose 0 1 ∷ act (Event.Decide 0)
    ∷ opens_as 2 p (act (Event.Leave 0)
    ∷ opens_as 3 p (reads 3 (send B (codes "2")) ∷ propose 3 1 ∷ [])))))

flying_rows : (shown_outcomes (played nine flying_acts)
    ≡ Opened 0 ∷ Done ∷ Done ∷ Done ∷ Done ∷ Flying (id 0 1) ∷ Proposed 10 ∷ Leaving
    ∷ Opened 1 ∷ Faulted ConnectionFault.SenderInUse false ∷ Refused Refusal.Busy ∷ Proposed 1 ∷ Decided (stamp 10 0) false
    ∷ Opened 2 ∷ Faulted ConnectionFault.SenderInUse false ∷ Gone false
    ∷ Opened 3 ∷ Done ∷ Flying (id 0 2) ∷ Proposed 11 ∷ [])
    × (agreements nine flying_acts ≡ all_agree)
flying_rows = (refl, refl)

-- ---- and until the tickets of a withdrawn transaction are cancelled

-- a core with topics A, whose clock is full, and B
abbrev pub full_a : Core
full_a = new_core (topic_list ((A, 18446744073709551615) ∷ (B, 0) ∷ [])) 64

-- p's transaction gets a ticket of B, and none of A; then p sends to B by another connection, and so does q
abbrev pub cancelling_acts : List Act
cancelling_acts = opens 0 (opens_as 1 p (commits_both 1 (
    propose 1 1 ∷ propose 1 0 ∷ act (Event.Withdraw 1) ∷ act (Event.Leave 1)
    ∷ opens_as 2 p (act (Event.Cancel 1 (topic 1)) ∷ act (Event.Leave 1)
    ∷ opens_as 3 p (reads 3 (send B (codes "2")) ∷ propose 3 1 ∷ act (Event.Decide 3)
    ∷ opens_as 4 q (reads 4 (send B (codes "3")) ∷ []))))))

cancelling_rows : (shown_outcomes (played full_a cancelling_acts)
    ≡ Opened 0 ∷ Done ∷ Opened 1 ∷ Done ∷ Done ∷ Done ∷ Done ∷ Flying (id 1 1) ∷ Proposed 1 ∷ Failed proposals.ClockFull
    ∷ Withdrawn false ∷ Refused Refusal.Busy
    ∷ Opened 2 ∷ Faulted ConnectionFault.SenderInUse false ∷ Cancelled ∷ Gone false
    ∷ Opened 3 ∷ Done ∷ Flying (id 1 2) ∷ Proposed 2 ∷ Decided (stamp 2 1) false
    ∷ Opened 4 ∷ Done ∷ Flying (id 2 1) ∷ [])
    × (agreements full_a cancelling_acts ≡ all_agree)
cancelling_rows = (refl, refl)

-- ---- counting

-- connection 3 has claimed q, 2 p, 1 none and 0 p: three senders have begun, and two of them are kept
abbrev pub four_claims : List Claim
four_claims =
    record { connection = 3; client = Some q } ∷ record { connection = 2; client = Some p }
    ∷ record { connection = 1; client = None } ∷ record { connection = 0; client = Some p } ∷ []

four_senders : map (λ c. sender_claimed c four_claims) (0 ∷ 1 ∷ 2 ∷ 3 ∷ 4 ∷ []) ≡ Some 0 ∷ Some 1 ∷ Some 0 ∷ Some 2 ∷ None ∷ []
four_senders = refl

-- the senders in their order, and the number of each connection's
claims_counted : (senders_of four_claims ≡ Some p ∷ None ∷ Some q ∷ [])
    × (map (λ c. sender_of c four_claims) (0 ∷ 1 ∷ 2 ∷ 3 ∷ 4 ∷ []) ≡ 0 ∷ 1 ∷ 0 ∷ 2 ∷ 0 ∷ [])
    × (begun_count four_claims ≡ 3)
    × (kept_count four_claims ≡ 2)
claims_counted = (refl, refl, refl, refl)

-- a refused CONNECT claims nothing: of the four in `lasting` the second isn't there
lasting_claims : claims_of lasting.steps
    ≡ record { connection = 3; client = None } ∷ record { connection = 2; client = Some p } ∷ record { connection = 0; client = Some p } ∷ []
lasting_claims = refl
