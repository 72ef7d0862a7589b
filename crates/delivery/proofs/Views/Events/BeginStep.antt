-- A transaction that begins.
use Rattle.delivery.proofs.Words.All.{◌≡◌, ℕ, ◌+◌, ◌<◌, ◌≤◌, nat_lt, true, List, [], ◌∷◌, ◌++◌, length, get_or, set, Option, Some, None, refl, sym, ap, ◌∙◌, arith, lt-ltb, SentMessage, Decision, last_number, RawFrame, Unread, World, Undecided, SenderState, Standing, is_reading, connection_at, sender_at, speaker, with_sender, speaker_number, find_verdict, next_txn, commit_effect, receipt_asked, commit_frame, Core, each_number, speaker_at, sender_in, launched_id, launched_view, asked_view, gate_of, IsReached, View, EndpointView, SenderView, held_sender, view_with, sender_view, sending_view, endpoint_view, stage_view, no_endpoint, verdict_list}
use Rattle.std.proofs.lemmas.List.FromFn.{map-range_with_len_more}
use Rattle.delivery.specs.Inner.Senders.{launched_sender, asked_endpoint}
use Rattle.delivery.specs.Inner.View.{is_idle}
use Rattle.delivery.proofs.Words.Changes.{length-each_number, IsSpeaking, number_at, endpoint_in, speaker_is, sender_is, speaker_there, speaker_with, speaking_used, lists_with, endpoints_with_sender, endpoint_with_sender, next_undecided}

-- the sender with its new transaction
abbrev flown : World → ℕ → List SentMessage → SenderState
flown w c sends = record (speaker w c) { seq = (speaker w c).seq + 1; flight = Some (record { txn = next_txn w c sends; given = []; mark = None }) }

-- an idle sender that begins is the one with the new transaction
begun_is_flown : (w : World) (c : ℕ) (sends : List SentMessage) → (speaker w c).flight ≡ None
    → launched_sender sends (sender_view (speaker_number w c) (speaker w c)) ≡ sender_view (speaker_number w c) (flown w c sends)
begun_is_flown w c sends idle =
    let s = speaker_number w c in let x = speaker w c in
    ap (λ (o : Option Undecided). launched_sender sends (record { sending = sending_view s x.seq x.floor o; leftovers = (sender_view s x).leftovers })) idle

-- one more transaction, which has no verdict
list_grown : (verdicts : List Decision) (s seq : ℕ) → find_verdict (record { sender = record { 0 = s }; seq = seq + 1 }) verdicts ≡ None
    → verdict_list verdicts s seq ++ None ∷ [] ≡ verdict_list verdicts s (seq + 1)
list_grown verdicts s seq none =
    let verdict = λ (q : ℕ). find_verdict (record { sender = record { 0 = s }; seq = q }) verdicts in let e : 1 + seq ≡ seq + 1 = omega arith in
    ap (λ o. verdict_list verdicts s seq ++ o ∷ []) (sym none) ∙ sym (map-range_with_len_more verdict 1 seq (seq + 1) e)

asked_stage : (names : List (List ℕ)) (standing : Standing) (flight : Option Undecided) (f : Undecided) (accepted : List RawFrame) (unread : Unread) (endpoint : EndpointView)
    → is_reading standing ≡ true → asked_endpoint (receipt_asked (commit_frame accepted)) (record endpoint { stage = stage_view names standing flight accepted unread })
    ≡ record endpoint { stage = stage_view names standing (Some f) accepted unread }
asked_stage names Standing.Open flight f accepted unread endpoint reads = refl
asked_stage names Standing.Leaving flight f accepted unread endpoint reads = absurd (cc)
asked_stage names Standing.Gone flight f accepted unread endpoint reads = absurd (cc)

-- what is held once the connection's sender has begun a transaction of these SENDs, and its endpoint has the receipt that
-- the last accepted frame asked for
pub begun_is : (names : List (List ℕ)) (k : Core) (c : ℕ) (first : SentMessage) (others : List SentMessage) → IsReached k → c < length k.world.connections → IsSpeaking k.world c
    → is_reading (connection_at k.world c).standing ≡ true → (speaker k.world c).flight ≡ None
    → (accepted : ℕ → List RawFrame) (unread : ℕ → Unread) (text : ℕ → List ℕ) (began : ℕ → Option RawFrame)
    → asked_view (receipt_asked (commit_frame (accepted c))) c (launched_view (first ∷ others) c (view_with names k.world accepted unread text began))
    ≡ view_with names (commit_effect k.world c (first ∷ others)) accepted unread text began
begun_is names k c first others reached there speaking reads idle accepted unread text began =
    let w = k.world in let sends = first ∷ others in let s = speaker_number w c in let x = flown w c sends in let v = view_with names w accepted unread text began in
    let known = speaker_there k c reached speaking in let at = speaker_is names w accepted unread text began c there in let list = verdict_list w.verdicts s (sender_at w s).seq in
    let found : get_or v.verdicts s [] ≡ list = number_at (λ n. verdict_list w.verdicts n (sender_at w n).seq) w.senders s [] known in
    let senders : set v.senders (speaker_at v c) (launched_sender sends (sender_in v (speaker_at v c))) ≡ each_number (held_sender (with_sender w s x)) 0 (set w.senders s x) =
    ap (λ n. set v.senders n (launched_sender sends (sender_in v n))) at
    ∙ (ap (λ y. set v.senders s (launched_sender sends y)) (sender_is names w accepted unread text began s known (speaking_used w c speaking))
    ∙ (ap (λ y. set v.senders s y) (begun_is_flown w c sends idle)
    ∙ speaker_with k c x reached speaking)) in
    let verdicts : set v.verdicts (speaker_at v c) (get_or v.verdicts (speaker_at v c) [] ++ None ∷ []) ≡ each_number (λ n. verdict_list w.verdicts n (sender_at (with_sender w s x) n).seq) 0 (set w.senders s x) =
    ap (λ n. set v.verdicts n (get_or v.verdicts n [] ++ None ∷ [])) at
    ∙ (ap (λ y. set v.verdicts s (y ++ None ∷ [])) found
    ∙ (ap (λ y. set v.verdicts s y) (list_grown w.verdicts s (sender_at w s).seq (next_undecided k s reached known))
    ∙ lists_with w s x w.verdicts known (λ n differs. refl))) in
    let endpoint : asked_endpoint (receipt_asked (commit_frame (accepted c))) (get_or v.endpoints c no_endpoint) ≡ endpoint_view names (with_sender w s x) c (accepted c) (unread c) (text c) =
    ap (λ y. asked_endpoint (receipt_asked (commit_frame (accepted c))) y) (endpoint_in names w accepted unread text began c no_endpoint there)
    ∙ (asked_stage names (connection_at w c).standing (speaker w c).flight (record { txn = next_txn w c sends; given = []; mark = None }) (accepted c) (unread c)
    (endpoint_view names w c (accepted c) (unread c) (text c)) reads
    ∙ sym (endpoint_with_sender names k c x (accepted c) (unread c) (text c) reached speaking)) in
    let endpoints = ap (λ y. set v.endpoints c y) endpoint ∙ endpoints_with_sender names k c x accepted unread text reached there speaking in
    λ i. record v { senders = senders i; verdicts = verdicts i; endpoints = endpoints i }

-- the id that is answered
pub begun_id_is : (names : List (List ℕ)) (k : Core) (c : ℕ) (sends : List SentMessage) → IsReached k → c < length k.world.connections → IsSpeaking k.world c → (speaker k.world c).flight ≡ None
    → (accepted : ℕ → List RawFrame) (unread : ℕ → Unread) (text : ℕ → List ℕ) (began : ℕ → Option RawFrame)
    → launched_id (view_with names k.world accepted unread text began) c ≡ (next_txn k.world c sends).id
begun_id_is names k c sends reached there speaking idle accepted unread text began =
    let w = k.world in let s = (speaker_number w c) in let v = view_with names w accepted unread text began in
    ap (λ n. Rattle.sender_gate.specs.Gate.next_id (gate_of (sender_in v n).sending)) (speaker_is names w accepted unread text began c there)
    ∙ (ap (λ (y : SenderView). Rattle.sender_gate.specs.Gate.next_id (gate_of y.sending)) (sender_is names w accepted unread text began s (speaker_there k c reached speaking) (speaking_used w c speaking))
    ∙ ap (λ (o : Option Undecided). Rattle.sender_gate.specs.Gate.next_id (gate_of (sending_view s (speaker w c).seq (speaker w c).floor o))) idle)

-- what is held has the connection's sender, which is between two transactions
abbrev pub IsIdleIn : View → ℕ → Type 0
IsIdleIn v c = (speaker_at v c < length v.senders) × (is_idle (sender_in v (speaker_at v c)).sending ≡ true)

pub idle_in : (names : List (List ℕ)) (k : Core) (c : ℕ) → IsReached k → c < length k.world.connections → IsSpeaking k.world c → (speaker k.world c).flight ≡ None
    → (accepted : ℕ → List RawFrame) (unread : ℕ → Unread) (text : ℕ → List ℕ) (began : ℕ → Option RawFrame) → IsIdleIn (view_with names k.world accepted unread text began) c
idle_in names k c reached there speaking idle accepted unread text began =
    let w = k.world in let s = speaker_number w c in let v = view_with names w accepted unread text began in let at = speaker_is names w accepted unread text began c there in
    let known = speaker_there k c reached speaking in
    let many = length-each_number (held_sender w) 0 w.senders in (
      omega (arith, at, known, many),
      ap (λ n. is_idle (sender_in v n).sending) at
          ∙ (ap (λ (y : SenderView). is_idle y.sending) (sender_is names w accepted unread text began s known (speaking_used w c speaking))
          ∙ ap (λ (o : Option Undecided). is_idle (sending_view s (speaker w c).seq (speaker w c).floor o)) idle),
    )

-- so a number was left
pub begun_free : (k : Core) (c : ℕ) (sends : List SentMessage) → (next_txn k.world c sends).id.seq ≤ last_number → nat_lt (speaker k.world c).seq last_number ≡ true
begun_free k c sends within = lt-ltb (speaker k.world c).seq last_number (omega (arith, within))
