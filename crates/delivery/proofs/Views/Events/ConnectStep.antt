-- A Next whose frame is a CONNECT: its connection speaks for the sender that it claims.
use Rattle.delivery.proofs.Words.All.{◌≡◌, ◌≢◌, ℕ, ◌<◌, nat_lt, Bool, true, false, cond, not, List, [], ◌∷◌, ◌++◌, length, get_or, set, Option, Some, None, refl, sym, ap, subst, ◌∙◌, arith, append-nil, flat_map, is_some, option_map, option_map_or, option_or, unwrap_or, lt-ltb, ltb-true, get_or-set_same, get_or-set_other, set-get_or, first_refusal, GateState, SendersState, after_claim, claim_refusal, claimed_gate, new_gate, is_connect, RawFrame, Unread, connected_frame, spelling_of, client_of, some_same, none_some, not_true, Objection, World, Connection, SenderState, Undecided, is_gone, nobody, new_sender, connection_at, sender_at, speaker, speaks_for, is_in_use, Move, claimed_senders, connect_effect, move_refusal, needs_idle, run, ConnectionFault, Event, Outcome, Sending, begun_count, claim_of, claimed_sender, claims_of, is_one_too_many, receipts_of, subscribe_frame, text_out, claim_fault, frame_no_memory, Core, core_for, next_moves, session_at, unread_at, Reading, accepted_of, each_number, live_numbers, AreClaimed, AreClients, MakesBoth, MayResume, refused_claim, with_sender_of, Asks, MayEnd, no_sender, sender_in, EndpointView, SenderView, View, endpoint_view, held_sender, sender_view, sending_view, stage_view, verdict_list, view_after, view_with, written_endpoint}
use Rattle.stomp_session.specs.declared.action.Action.TheVariants as actions
use Rattle.sender_gate.specs.declared.fault.ClaimFault.{ClaimFault}
use Rattle.delivery.specs.Machine.Moves.{claim_refusals}
use Rattle.delivery.proofs.Words.Changes.{connect_of, connect_plain, with_endpoint, length-each_number, speaks_of, stand_of, held_leftovers, held_same, spoken_used, unused_rests, used_held, number_at, number_set}
use Rattle.delivery.proofs.Core.FrameWorld.{framed_none}
use Rattle.delivery.proofs.Machine.SubscriptionSteps.{beyond}
use Rattle.delivery.proofs.Theorem.SendersAreOwn.{silent, speaks, spoken_sender, unspoken}
use Rattle.delivery.proofs.Views.Clients.Claiming.{UsesOne, after_it, claimed_begun, claimed_number, new_gate_is, own_gate_is, refused_alike}
use Rattle.delivery.proofs.Views.Clients.RestingStay.{any_set}
use Rattle.delivery.proofs.Views.Events.NextFaults.{asked_objection, by_fault, fault_of_frame, may_lack}
use Rattle.delivery.proofs.Views.Events.WantsMemory.{connect_wants}
use Rattle.delivery.proofs.Views.Events.NextFrames.{move_may, moved_world, names_for, replied_view}
use Rattle.delivery.proofs.Views.Events.NextStep.{held_still, idle_flight, idle_open, idle_there, next_of}
use Rattle.delivery.proofs.Views.Events.NextTxns.{later_free}
use Rattle.delivery.proofs.Views.Events.OpenStep.{get_or-push_default, pushed}
use Rattle.delivery.proofs.Views.Senders.ConnectedSpeak.{has_none}

-- ---- the machine

-- each sender is as it was, and a new one as one that there isn't yet
same_sender : (w : World) (c : ℕ) (claimed : Option ℕ) (r : ℕ) → sender_at (connect_effect w c claimed) r ≡ sender_at w r
same_sender w c None r = get_or-push_default w.senders new_sender r
same_sender w c (Some s) r = refl

-- the sender that is claimed is in use then
claimed_used : (w : World) (c : ℕ) (claimed : Option ℕ) → c < length w.connections → is_gone (connection_at w c).standing ≡ false
    → is_in_use (connect_effect w c claimed) (unwrap_or claimed (length w.senders)) ≡ true
claimed_used w c claimed there staying =
    let s = unwrap_or claimed (length w.senders) in let x : Connection = record { sender = Some s; standing = (connection_at w c).standing } in
    spoken_used (connect_effect w c claimed) c s (ap (speaks_for s) (get_or-set_same w.connections c x nobody there) ∙ speaks s x staying refl)

-- and each other one where it was
others_used : (w : World) (c : ℕ) (claimed : Option ℕ) → (connection_at w c).sender ≡ None
    → (r : ℕ) → r ≢ unwrap_or claimed (length w.senders) → is_in_use (connect_effect w c claimed) r ≡ is_in_use w r
others_used w c claimed none r apart =
    let s = unwrap_or claimed (length w.senders) in let x : Connection = record { sender = Some s; standing = (connection_at w c).standing } in
    any_set (speaks_for r) w.connections c x nobody
    (not_true (speaks_for r x) refl (λ e. apart (some_same r s (sym (spoken_sender r x e)))) ∙ sym (silent r (connection_at w c) none))

-- what lets a connection go on as a sender of this gate
pub record ConnectsFree (w : World) (c : ℕ) (claimed : Option ℕ) (gate : GateState) : Type 0 where
  pub there : c < length w.connections
  pub staying : is_gone (connection_at w c).standing ≡ false
  pub none : (connection_at w c).sender ≡ None
  pub idle : (speaker w c).flight ≡ None
  pub rests : (sender_at w (unwrap_or claimed (length w.senders))).flight ≡ None
  pub number : gate.sender.0 ≡ unwrap_or claimed (length w.senders)
  pub fresh : claimed ≡ None → gate ≡ new_gate (record { 0 = length w.senders })
  pub goes_on : (s : ℕ) → claimed ≡ Some s → gate ≡ record { sender = record { 0 = s }; seq = (sender_at w s).seq; floor = (sender_at w s).floor }
  pub within : (s : ℕ) → claimed ≡ Some s → s < length w.senders
  pub free : move_refusal w (Move.Connects c claimed) ≡ None

-- whom another connection speaks for, it speaks for
other_speaker : (w : World) (c : ℕ) (claimed : Option ℕ) (n : ℕ) → n ≢ c → (o : Option ℕ) → (connection_at w n).sender ≡ o
    → sender_at w (unwrap_or o (length w.senders)) ≡ sender_at (connect_effect w c claimed) (unwrap_or o (length (connect_effect w c claimed).senders))
other_speaker w c claimed n other (Some r) e = sym (same_sender w c claimed r)
other_speaker w c claimed n other None e =
    beyond w.senders (length w.senders) new_sender (omega arith)
    ∙ sym (beyond (connect_effect w c claimed).senders (length (connect_effect w c claimed).senders) new_sender (omega arith))

other_endpoint : (names : List (List ℕ)) (w : World) (c : ℕ) (claimed : Option ℕ) (n : ℕ) (accepted : List RawFrame) (unread : Unread) (text : List ℕ) → n ≢ c
    → endpoint_view names w n accepted unread text ≡ endpoint_view names (connect_effect w c claimed) n accepted unread text
other_endpoint names w c claimed n accepted unread text other =
    let v = connect_effect w c claimed in let same : connection_at w n ≡ connection_at v n = sym (get_or-set_other w.connections c n _ nobody other) in
    let spoken : speaker w n ≡ speaker v n =
    other_speaker w c claimed n other (connection_at w n).sender refl ∙ ap (λ (x : Connection). sender_at v (unwrap_or x.sender (length v.senders))) same in
    λ i. record { sender = (same i).sender; stage = stage_view names (same i).standing (spoken i).flight accepted unread; live = live_numbers n 0 w.subscriptions; output = text }

own_endpoint : (names : List (List ℕ)) (w : World) (c : ℕ) (claimed : Option ℕ) (gate : GateState) (accepted : List RawFrame) (unread : Unread) (text : List ℕ) → ConnectsFree w c claimed gate
    → record (endpoint_view names w c accepted unread text) { sender = Some gate.sender.0 } ≡ endpoint_view names (connect_effect w c claimed) c accepted unread text
own_endpoint names w c claimed gate accepted unread text h =
    let v = connect_effect w c claimed in let s = unwrap_or claimed (length w.senders) in
    let x : Connection = record { sender = Some s; standing = (connection_at w c).standing } in
    let now : connection_at v c ≡ x = get_or-set_same w.connections c x nobody h.there in
    let flight : (speaker w c).flight ≡ (speaker v c).flight =
    h.idle ∙ sym (ap (λ (y : Connection). (sender_at v (unwrap_or y.sender (length v.senders))).flight) now
    ∙ (ap (λ (y : SenderState). y.flight) (same_sender w c claimed s) ∙ h.rests)) in
    λ i. record {
      sender = (ap (λ (n : ℕ). Some n) h.number ∙ ap (λ (y : Connection). y.sender) (sym now)) i;
      stage = stage_view names (ap (λ (y : Connection). y.standing) (sym now) i) (flight i) accepted unread;
      live = live_numbers c 0 w.subscriptions;
      output = text;
    }

-- ---- what is held

-- its connection speaks for this sender
abbrev pub spoken_for : ℕ → ℕ → EndpointView → View → View
spoken_for c s d v = record v { endpoints = set v.endpoints c (record (get_or v.endpoints c d) { sender = Some s }) }

-- what is held once the sender is claimed
claimed_whole : (names : List (List ℕ)) (w : World) (c : ℕ) (claimed : Option ℕ) (gate : GateState) (d : EndpointView) → ConnectsFree w c claimed gate
    → (accepted : ℕ → List RawFrame) (unread : ℕ → Unread) (text : ℕ → List ℕ) (began : ℕ → Option RawFrame)
    → spoken_for c gate.sender.0 d (with_sender_of gate (view_with names w accepted unread text began)) ≡ view_with names (connect_effect w c claimed) accepted unread text began
claimed_whole names w c claimed gate d h accepted unread text began = by claimed refl endpoints
  where
    V : View
    V = view_with names w accepted unread text began

    many : length (view_with names w accepted unread text began).senders ≡ length w.senders
    many = length-each_number (held_sender w) 0 w.senders

    used : (s : ℕ) → unwrap_or claimed (length w.senders) ≡ s → is_in_use (connect_effect w c claimed) s ≡ true
    used s is = ap (is_in_use (connect_effect w c claimed)) (sym is) ∙ claimed_used w c claimed h.there h.staying

    others : (n : ℕ) → n ≢ unwrap_or claimed (length w.senders) → held_sender w n ≡ held_sender (connect_effect w c claimed) n
    others n apart = held_same w (connect_effect w c claimed) n (others_used w c claimed h.none n apart) (same_sender w c claimed n)

    endpoints : set (each_number (λ n. endpoint_view names w n (accepted n) (unread n) (text n)) 0 w.connections) c
        (record (get_or (each_number (λ n. endpoint_view names w n (accepted n) (unread n) (text n)) 0 w.connections) c d) { sender = Some gate.sender.0 })
        ≡ each_number (λ n. endpoint_view names (connect_effect w c claimed) n (accepted n) (unread n) (text n)) 0 (connect_effect w c claimed).connections
    endpoints =
        let f = λ (n : ℕ). endpoint_view names w n (accepted n) (unread n) (text n) in
        let g = λ (n : ℕ). endpoint_view names (connect_effect w c claimed) n (accepted n) (unread n) (text n) in
        ap (λ (l : EndpointView). set (each_number f 0 w.connections) c (record l { sender = Some gate.sender.0 })) (number_at f w.connections c d h.there)
        ∙ (ap (λ (l : EndpointView). set (each_number f 0 w.connections) c l) (own_endpoint names w c claimed gate (accepted c) (unread c) (text c) h)
        ∙ number_set f g w.connections c _ h.there (λ n within other. other_endpoint names w c claimed n (accepted n) (unread n) (text n) other))

    grown : View → View
    grown v = record v { senders = v.senders ++ record { sending = Sending.Idle gate; leftovers = [] } ∷ []; verdicts = v.verdicts ++ [] ∷ [] }

    woken : View → View
    woken v = record v { senders = set v.senders gate.sender.0 (record (sender_in v gate.sender.0) { sending = Sending.Idle gate }) }

    by : (o : Option ℕ) → claimed ≡ o → set (each_number (λ n. endpoint_view names w n (accepted n) (unread n) (text n)) 0 w.connections) c
        (record (get_or (each_number (λ n. endpoint_view names w n (accepted n) (unread n) (text n)) 0 w.connections) c d) { sender = Some gate.sender.0 })
        ≡ each_number (λ n. endpoint_view names (connect_effect w c claimed) n (accepted n) (unread n) (text n)) 0 (connect_effect w c claimed).connections
        → spoken_for c gate.sender.0 d (with_sender_of gate (view_with names w accepted unread text began)) ≡ view_with names (connect_effect w c claimed) accepted unread text began
    by None e ends =
        let v0 = view_with names w accepted unread text began in let new = connect_effect w c claimed in
        let is_new : new.senders ≡ w.senders ++ new_sender ∷ [] = ap (claimed_senders w.senders) e in let gate_is = h.fresh e in
        let next : unwrap_or claimed (length w.senders) ≡ length w.senders = ap (λ (o : Option ℕ). unwrap_or o (length w.senders)) e in
        let number : gate.sender.0 ≡ length w.senders = ap (λ (g : GateState). g.sender.0) gate_is in
        let beyond_all : nat_lt gate.sender.0 (length v0.senders) ≡ false =
        not_true (nat_lt gate.sender.0 (length v0.senders)) refl (λ t. (let q = ltb-true gate.sender.0 (length v0.senders) t in absurd (omega (arith, q, number, many)))) in
        let x : SenderView = record { sending = Sending.Idle gate; leftovers = [] } in let state : (n : ℕ) → sender_at new n ≡ sender_at w n = same_sender w c claimed in
        let last : sender_at new (length w.senders) ≡ new_sender = state (length w.senders) ∙ beyond w.senders (length w.senders) new_sender (omega arith) in
        let senders : v0.senders ++ x ∷ [] ≡ each_number (held_sender new) 0 new.senders =
        pushed (held_sender w) (held_sender new) w.senders new_sender x (λ n l. others n (λ is. absurd (omega (arith, l, is, next))))
        (used_held new (length w.senders) (used (length w.senders) next)
        ∙ (ap (sender_view (length w.senders)) last ∙ ap (λ (g : GateState). record { sending = Sending.Idle g; leftovers = [] }) (sym gate_is)))
        ∙ ap (λ (ss : List SenderState). each_number (held_sender new) 0 ss) (sym is_new) in
        let verdicts : v0.verdicts ++ [] ∷ [] ≡ each_number (λ n. verdict_list w.verdicts n (sender_at new n).seq) 0 new.senders =
        pushed (λ n. verdict_list w.verdicts n (sender_at w n).seq) (λ n. verdict_list w.verdicts n (sender_at new n).seq) w.senders new_sender []
        (λ n l. ap (λ (z : SenderState). verdict_list w.verdicts n z.seq) (sym (state n)))
        (ap (λ (z : SenderState). verdict_list w.verdicts (length w.senders) z.seq) last)
        ∙ ap (λ (ss : List SenderState). each_number (λ n. verdict_list w.verdicts n (sender_at new n).seq) 0 ss) (sym is_new) in
        ap (λ (b : Bool). spoken_for c gate.sender.0 d (cond b (woken v0) (grown v0))) beyond_all
        ∙ (λ i. record v0 { senders = senders i; verdicts = verdicts i; endpoints = ends i })
    by (Some s) e ends =
        let v0 = view_with names w accepted unread text began in let new = connect_effect w c claimed in
        let same : w.senders ≡ new.senders = sym (ap (claimed_senders w.senders) e) in
        let state : (n : ℕ) → sender_at w n ≡ sender_at new n = λ n. sym (same_sender w c claimed n) in let l = h.within s e in
        let chosen : unwrap_or claimed (length w.senders) ≡ s = ap (λ (o : Option ℕ). unwrap_or o (length w.senders)) e in let number : gate.sender.0 ≡ s = h.number ∙ chosen in
        let below : nat_lt gate.sender.0 (length v0.senders) ≡ true = lt-ltb gate.sender.0 (length v0.senders) (omega (arith, l, number, many)) in let x = sender_at w s in
        let flight : x.flight ≡ None = ap (λ (n : ℕ). (sender_at w n).flight) (sym chosen) ∙ h.rests in
        let sending : Sending.Idle gate ≡ sending_view s x.seq x.floor x.flight =
        ap Sending.Idle (h.goes_on s e) ∙ ap (λ (o : Option Undecided). sending_view s x.seq x.floor o) (sym flight) in
        let left : (sender_in v0 s).leftovers ≡ (sender_view s x).leftovers =
        ap (λ (y : SenderView). y.leftovers) (number_at (held_sender w) w.senders s (no_sender s) l) ∙ held_leftovers w s in
        let own : record (sender_in v0 s) { sending = Sending.Idle gate } ≡ held_sender new s =
        (λ i. record { sending = sending i; leftovers = left i }) ∙ (ap (sender_view s) (state s) ∙ sym (used_held new s (used s chosen))) in
        let senders : set v0.senders gate.sender.0 (record (sender_in v0 gate.sender.0) { sending = Sending.Idle gate }) ≡ each_number (held_sender new) 0 new.senders =
        ap (λ (n : ℕ). set v0.senders n (record (sender_in v0 n) { sending = Sending.Idle gate })) number
        ∙ (ap (λ (y : SenderView). set v0.senders s y) own
        ∙ (number_set (held_sender w) (held_sender new) w.senders s x l (λ n within other. others n (λ is. other (is ∙ chosen)))
        ∙ ap (λ (ss : List SenderState). each_number (held_sender new) 0 ss) (set-get_or w.senders s new_sender ∙ same))) in
        let verdicts : v0.verdicts ≡ each_number (λ n. verdict_list w.verdicts n (sender_at new n).seq) 0 new.senders =
        λ i. each_number (λ n. verdict_list w.verdicts n (state n i).seq) 0 (same i) in
        ap (λ (b : Bool). spoken_for c gate.sender.0 d (cond b (woken v0) (grown v0))) below
        ∙ (λ i. record v0 { senders = senders i; verdicts = verdicts i; endpoints = ends i })

-- there are as many endpoints with the sender
pub sender_endpoints : (gate : GateState) (v : View) → length (with_sender_of gate v).endpoints ≡ length v.endpoints
sender_endpoints gate v = by (nat_lt gate.sender.0 (length v.senders))
  where
    by : (b : Bool) → length (cond b (record v { senders = set v.senders gate.sender.0 (record (sender_in v gate.sender.0) { sending = Sending.Idle gate }) })
        (record v { senders = v.senders ++ record { sending = Sending.Idle gate; leftovers = [] } ∷ []; verdicts = v.verdicts ++ [] ∷ [] })).endpoints ≡ length v.endpoints
    by true = refl
    by false = refl

-- ---- nothing stands against it

pub connect_free : (w : World) (c : ℕ) (claimed : Option ℕ) → first_refusal (needs_idle w c) ≡ None → (connection_at w c).sender ≡ None
    → ((s : ℕ) → claimed ≡ Some s → s < length w.senders) → option_map_or (is_in_use w) claimed false ≡ false → move_refusal w (Move.Connects c claimed) ≡ None
connect_free w c claimed idle none within unused =
    ap (λ (o : Option Objection). option_or o None)
    (later_free (needs_idle w c) ((is_some (connection_at w c).sender, Objection.HasSender) ∷ claim_refusals w claimed) idle
    (ap (λ (o : Option ℕ). first_refusal ((is_some o, Objection.HasSender) ∷ claim_refusals w claimed)) none ∙ (elim claimed as (λ (claimed : Option ℕ). ((s : ℕ) → claimed ≡ Some s → s < length w.senders) → option_map_or (is_in_use w) claimed false ≡ false → first_refusal (claim_refusals w claimed) ≡ None) [
      | None ↦ λ within unused. refl
      | Some s ↦ λ within unused. (λ i. first_refusal ((not (lt-ltb s (length w.senders) (within s refl) i), Objection.NoSender) ∷ (unused i, Objection.InUse) ∷ []))
    ]) within unused))

-- the first of two refusals
pub first_fails : (a b : Bool) → first_refusal ((a, ConnectionFault.SenderInUse) ∷ (b, ConnectionFault.TooManyClients) ∷ []) ≡ None → a ≡ false
first_fails true b e = none_some _ (sym e)
first_fails false b e = refl

-- the sender that is claimed is in use then, and no other that wasn't
uses_one : (w : World) (c : ℕ) (claimed : Option ℕ) → c < length w.connections → is_gone (connection_at w c).standing ≡ false → (connection_at w c).sender ≡ None
    → UsesOne w (connect_effect w c claimed) (length w.senders) (unwrap_or claimed (length w.senders))
uses_one w c claimed there staying none = record {
  used = claimed_used w c claimed there staying;
  others = λ r apart within.
      λ i. cond (others_used w c claimed none r apart i) None (Some (record { sender = record { 0 = r }; seq = (same_sender w c claimed r i).seq; floor = (same_sender w c claimed r i).floor }));
}

-- ---- the step

module _ (k : Core) (c : ℕ) (f : RawFrame) (left : Unread) (client receipt : Option (List ℕ)) (held : View) (clients : SendersState)
    (asks : Asks k c f left (actions.Connected client) receipt held) (kept : AreClients k clients) where
  -- why it may be refused is why the senders refuse it
  pub claim_alike : claim_fault k (actions.Connected client) ≡ option_map refused_claim (claim_refusal client clients)
  claim_alike = refused_alike k.world (claims_of k.steps) clients kept client

  connecting : (is_connect f.command ≡ true) × (client_of f ≡ client)
  connecting = connect_of f.command (session_at k c) f client asks.does

  speaks_for_none : (connection_at k.world c).sender ≡ None
  speaks_for_none = has_none k c f asks.reached connecting.0 asks.free

  same_core : core_for k f ≡ k
  same_core = framed_none k f (connect_plain f.command connecting.0)

  many : length k.world.senders ≡ begun_count (claims_of k.steps)
  many = (stand_of k asks.reached).begun

  within : (s : ℕ) → claimed_sender client (claims_of k.steps) ≡ Some s → s < length k.world.senders
  within s e = let l = claimed_begun client (claims_of k.steps) s e in let m = many in omega (arith, l, m)

  -- where they don't refuse it, the sender that it goes on with isn't in use
  unused : claim_refusal client clients ≡ None → option_map_or (is_in_use k.world) (claimed_sender client (claims_of k.steps)) false ≡ false
  unused allowed =
      first_fails (option_map_or (is_in_use k.world) (claimed_sender client (claims_of k.steps)) false) (is_one_too_many client (claims_of k.steps))
      (claim_alike ∙ ap (option_map refused_claim) allowed)

  sender_unused : claim_refusal client clients ≡ None → (s : ℕ) → claimed_sender client (claims_of k.steps) ≡ Some s → is_in_use k.world s ≡ false
  sender_unused allowed s e = ap (λ (o : Option ℕ). option_map_or (is_in_use k.world) o false) (sym e) ∙ unused allowed

  -- nothing stands against it
  connects_free : claim_refusal client clients ≡ None → ConnectsFree (core_for k f).world c (claimed_sender client (claims_of k.steps)) (claimed_gate client clients)
  connects_free allowed =
      subst (λ (z : Core). ConnectsFree z.world c (claimed_sender client (claims_of k.steps)) (claimed_gate client clients)) (sym same_core) (record {
        there = idle_there k.world c asks.idle;
        staying = ap is_gone (idle_open k.world c asks.idle);
        none = speaks_for_none;
        idle = idle_flight k.world c asks.idle;
        rests = (elim (claimed_sender client (claims_of k.steps)) as (λ (o : Option ℕ). claimed_sender client (claims_of k.steps) ≡ o → (sender_at k.world (unwrap_or o (length k.world.senders))).flight ≡ None) [
          | None ↦ λ e. ap (λ (y : SenderState). y.flight) (beyond k.world.senders (length k.world.senders) new_sender (omega arith))
          | Some s ↦ λ e. ((speaks_of k asks.reached).resting s (unspoken k.world s (sender_unused allowed s e))).0
        ]) refl;
        number = claimed_number k.world (claims_of k.steps) clients kept client
            ∙ ap (λ (n : ℕ). unwrap_or (claimed_sender client (claims_of k.steps)) n) (sym many);
        fresh = λ none. new_gate_is k.world (claims_of k.steps) clients kept client none ∙ ap (λ (n : ℕ). new_gate (record { 0 = n })) (sym many);
        goes_on = λ s e. own_gate_is k.world (claims_of k.steps) clients kept client s e (sender_unused allowed s e);
        within = within;
        free = connect_free k.world c (claimed_sender client (claims_of k.steps)) asks.idle speaks_for_none within (unused allowed);
      })

  -- a refusal of theirs ends it
  pub claim_refused : (fault : ClaimFault) → claim_refusal client clients ≡ Some fault → MayEnd k c f (refused_claim fault)
  claim_refused fault refused cut =
      by_fault k c f (refused_claim fault) cut
      (fault_of_frame k c f asks.cased asks.free
      ∙ ap (λ (x : Option ConnectionFault). option_or x (option_map (λ (why : Objection). frame_no_memory) (asked_objection k c f)))
      (ap (claim_fault k) asks.does ∙ (claim_alike ∙ ap (option_map refused_claim) refused)))

  -- and else there may be no memory for it
  pub claim_lacks : claim_refusal client clients ≡ None → MayEnd k c f frame_no_memory
  claim_lacks allowed =
      may_lack k c f asks.cased asks.free (ap (claim_fault k) asks.does ∙ (claim_alike ∙ ap (option_map refused_claim) allowed))
      (connect_wants k c f left client receipt held asks)

  -- CONNECTED is written, and else all is held as it was
  still : (written : View) (d : EndpointView) → written ≡ with_endpoint held c (written_endpoint (spelling_of connected_frame) (get_or held.endpoints c d))
      → written ≡ held_still (names_for k f) (core_for k f) (core_for k f).world c (Reading.Finds f left) Outcome.Done
  still written d wrote =
      replied_view k c f left (actions.Connected client) receipt held written Outcome.Done (spelling_of connected_frame) d asks refl
      (sym (append-nil (spelling_of connected_frame))
      ∙ ap (λ (b : Bool). flat_map spelling_of (cond b (connected_frame ∷ []) (receipts_of f))) (sym connecting.0)) wrote

  -- a sender that it goes on with is resting
  pub claim_rests : (written : View) (d : EndpointView) → written ≡ with_endpoint held c (written_endpoint (spelling_of connected_frame) (get_or held.endpoints c d))
      → MayResume client clients written
  claim_rests written d wrote allowed there = by (claimed_sender client (claims_of k.steps)) refl
    where
      n : ℕ
      n = (claimed_gate client clients).sender.0

      senders : written.senders ≡ each_number (held_sender k.world) 0 k.world.senders
      senders = ap (λ (v : View). v.senders) (still written d wrote) ∙ ap (λ (z : Core). each_number (held_sender z.world) 0 z.world.senders) same_core

      number : (claimed_gate client clients).sender.0 ≡ unwrap_or (claimed_sender client (claims_of k.steps)) (begun_count (claims_of k.steps))
      number = claimed_number k.world (claims_of k.steps) clients kept client

      by : (o : Option ℕ) → claimed_sender client (claims_of k.steps) ≡ o → (sender_in written (claimed_gate client clients).sender.0).sending ≡ Sending.Resting
      by None e =
          let next = number ∙ ap (λ (o : Option ℕ). unwrap_or o (begun_count (claims_of k.steps))) e in
          let len = ap (λ (ss : List SenderView). length ss) senders ∙ length-each_number (held_sender k.world) 0 k.world.senders in
          let all = many in absurd (omega (arith, there, next, len, all))
      by (Some s) e =
          ap (λ (m : ℕ). (sender_in written m).sending) (number ∙ ap (λ (o : Option ℕ). unwrap_or o (begun_count (claims_of k.steps))) e)
          ∙ (ap (λ (ss : List SenderView). (get_or ss s (no_sender s)).sending) senders
          ∙ (ap (λ (y : SenderView). y.sending) (number_at (held_sender k.world) k.world.senders s (no_sender s) (within s e))
          ∙ unused_rests k.world s (speaks_of k asks.reached) (sender_unused allowed s e)))

  -- its connection speaks for the sender that it claims, and is answered by CONNECTED
  pub connect_both : (written mid new : View) (s : ℕ) (later : SendersState) (d : EndpointView) → claim_refusal client clients ≡ None
      → written ≡ with_endpoint held c (written_endpoint (spelling_of connected_frame) (get_or held.endpoints c d)) → (claimed_gate client clients).sender.0 ≡ s
      → mid ≡ with_sender_of (claimed_gate client clients) written → new ≡ spoken_for c s d mid → later ≡ after_claim client clients
      → MakesBoth k (Event.Next c) Outcome.Done new later
  connect_both written mid new s later d allowed wrote number claimed spoke after =
      let before = claims_of k.steps in let sender = claimed_sender client before in let gate = claimed_gate client clients in let move = Move.Connects c sender in
      let step = next_of c (Reading.Finds f left) Outcome.Done in let steps = step ∷ k.steps in let q = core_for k f in let can = connects_free allowed in
      let unclaimed : claim_fault k (actions.Connected client) ≡ None = claim_alike ∙ ap (option_map refused_claim) allowed in
      let whole = claimed_whole (names_for k f) q.world c sender gate d can (λ n. accepted_of n steps) (λ n. unread_at n steps) (λ n. text_out k.names n steps) (λ n. subscribe_frame n k.steps) in
      let world : run (next_moves k c (Reading.Finds f left) Outcome.Done) k.world ≡ connect_effect q.world c sender =
      moved_world k c f left (actions.Connected client) move Outcome.Done asks.does refl can.free refl refl in
      let uses : UsesOne k.world (connect_effect k.world c sender) (begun_count before) (unwrap_or sender (begun_count before)) =
      subst (λ (n : ℕ). UsesOne k.world (connect_effect k.world c sender) n (unwrap_or sender n)) many
      (uses_one k.world c sender (idle_there k.world c asks.idle) (ap is_gone (idle_open k.world c asks.idle)) speaks_for_none) in
      let one : record { connection = c; client = client } ∷ before ≡ claim_of (Event.Next c) (Some f) ++ before =
      (λ i. record { connection = c; client = sym connecting.1 i } ∷ before)
      ∙ ap (λ (b : Bool). cond b (record { connection = c; client = client_of f } ∷ []) [] ++ before) (sym connecting.0) in
      record {
        reading = Reading.Finds f left;
        may = move_may k c f left (actions.Connected client) receipt held move Outcome.Done asks unclaimed refl can.free refl;
        view = spoke
            ∙ ((λ i. spoken_for c (sym number i) d (claimed i))
            ∙ (ap (λ (v : View). spoken_for c gate.sender.0 d (with_sender_of gate v)) (still written d wrote)
            ∙ (whole
            ∙ ap (λ (v : World). view_after k.names v steps) (sym world))));
        claimed = subst (λ (v : World). AreClaimed v (claim_of (Event.Next c) (Some f) ++ before) later)
            (ap (λ (z : Core). connect_effect z.world c sender) (sym same_core) ∙ sym world)
            (subst (λ cs. AreClaimed (connect_effect k.world c sender) cs later) one
            (subst (λ (z : SendersState). AreClaimed (connect_effect k.world c sender) (record { connection = c; client = client } ∷ before) z) (sym after)
            (after_it k.world (connect_effect k.world c sender) before clients c kept client uses)));
      }
