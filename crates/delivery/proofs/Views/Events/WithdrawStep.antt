-- A transaction is withdrawn.
use Rattle.delivery.proofs.Words.All.{◌≡◌, ◌≢◌, ℕ, ◌<◌, Bool, true, false, cond, not, ◌&&◌, List, [], ◌∷◌, ◌++◌, map, length, get_or, set, Option, Some, None, refl, sym, ap, ◌∙◌, slice_get, eq-eqb, map-append, append-nil, set-get_or, flat_map, is_some, option_or, option_and_then, Ticket, TxnId, first_refusal, In, ProposeFault, propose_title, RawFrame, Unread, receipt_of, error_frame, spelling_of, refusal_first, refusal_after, some_same, Objection, refusal_of, Undecided, SenderState, Connection, Standing, is_reading, is_gone, nobody, connection_at, sender_at, speaker, with_sender, speaker_number, Move, Answer, move_refusal, needs_connection, undecided_or_none, undecided_at, leftover, with_leaving, Event, Outcome, Refusal, Sending, Stage, account_of, last_of, has_closed, receipt_asked, commit_frame, failed_title, replies_to, text_out, Reading, accepted_of, Core, unread_at, names_at, each_number, move_outcome, is_any, gone_objection, there_objection, speaker_at, sender_in, withdraw_refusal, failure_of, withdrawn_view, reads_frames, refused_view, IsReached, Makes, step_of, EndpointView, SenderView, view_of, view_after, sender_view, sending_view, undecided_view, endpoint_view, stage_view, parting_receipt, leaving_endpoint, no_endpoint, ticket_of}
use Rattle.std.proofs.lemmas.Simd.{map-map}
use Rattle.delivery.specs.Inner.Senders.{withdrawn_sender, shut_stage, with_error, refused_endpoint}
use Rattle.delivery.specs.Inner.View.{gate_view}
use Rattle.delivery.proofs.Machine.Effects.{made_world, made_answer}
use Rattle.delivery.proofs.Views.Runs.AccountOfTransactions.{flight_id, last_is}
use Rattle.delivery.proofs.Views.Endpoints.SpeakerAndEnd.{closed_is}
use Rattle.delivery.proofs.Views.Events.DecideStep.{set_twice}
use Rattle.delivery.proofs.Views.Senders.LastFailure.{failed_is}
use Rattle.delivery.proofs.Views.Endpoints.DisconnectIsLast.{not_parting}
use Rattle.delivery.proofs.Words.Changes.{number_set, endpoint_of_stage, stage_kept, speaker_of, endpoint_of, sender_of_endpoint, speaker_with, differ, endpoint_is, left_view, step_makes}
use Rattle.delivery.proofs.Views.Senders.SameSeqAndReceipt.{lists_kept}
use Rattle.delivery.proofs.Views.Events.ConnectionIsThere.{flying_speaking, there_checked, is_there, still_there, reported, refused_step, refused_outcome, answered_outcome, replied_in, cut_in}

-- ---- what stands against it

-- the checks of its transaction
abbrev pub withdraw_checks : Option Undecided → List (Bool × Objection)
withdraw_checks o = (not (is_some o), Objection.NoFlight) ∷ (not (is_some (undecided_or_none o).mark), Objection.NotMarked) ∷ []

-- a marked transaction
record Withdrawable (o : Option Undecided) : Type 0 where
  flight : Undecided
  is : o ≡ Some flight
  fault : ProposeFault
  marked : flight.mark ≡ Some fault
  passes : first_refusal (withdraw_checks o) ≡ None

withdrawable : (o : Option Undecided) → option_and_then refusal_of (first_refusal (withdraw_checks o)) ≡ None → Withdrawable o
withdrawable None e = absurd (cc)
withdrawable (Some f) e = go f.mark refl e
  where
    go : (m : Option ProposeFault) → f.mark ≡ m → option_and_then refusal_of (first_refusal ((not (is_some m), Objection.NotMarked) ∷ [])) ≡ None → Withdrawable (Some f)
    go None is e = absurd (cc)
    go (Some fault) is e = record {
      flight = f;
      is = refl;
      fault = fault;
      marked = is;
      passes = ap (λ (m : Option ProposeFault). first_refusal ((not (is_some m), Objection.NotMarked) ∷ [])) is;
    }

-- a connection that isn't there or is gone
pub withdraw_gone : (k : Core) (c : ℕ) (o : Objection) (why : Refusal) → there_objection (slice_get (view_of k).endpoints c) ≡ Some o → refusal_of o ≡ Some why
    → Makes k (Event.Withdraw c) (Outcome.Refused why) (view_of k)
withdraw_gone k c o why stands is =
    let refused : move_refusal k.world (Move.Withdraws c) ≡ Some o =
    ap (λ (r : Option Objection). option_or r None)
    (refusal_first (needs_connection k.world c) (withdraw_checks (speaker k.world c).flight) o (sym (there_checked k c) ∙ stands)) in
    refused_step k (Event.Withdraw c) why (Move.Withdraws c) o refl refused
    (replied_in k c (Event.Withdraw c) (Move.Withdraws c) (Outcome.Refused why) (refused_outcome k (Move.Withdraws c) o why refused is)) refl

-- the sender's refusal in the view of a core
refusal_is : (k : Core) (c s : ℕ) → IsReached k → there_objection (slice_get (view_of k).endpoints c) ≡ None → s ≡ speaker_at (view_of k) c
    → withdraw_refusal (sender_in (view_of k) s).sending ≡ option_and_then refusal_of (first_refusal (withdraw_checks (speaker k.world c).flight))
refusal_is k c s reached free is =
    let x = speaker k.world c in
    ap (λ (y : SenderView). withdraw_refusal y.sending) (sender_of_endpoint k c s reached (is_there k c free) (still_there k c free) is)
    ∙ elim x.flight as (λ (o : Option Undecided). withdraw_refusal (sending_view (speaker_number k.world c) x.seq x.floor o) ≡ option_and_then refusal_of (first_refusal (withdraw_checks o))) [
      | None ↦ refl
      | Some f ↦ elim f.mark as (λ (m : Option ProposeFault). withdraw_refusal (undecided_view x.floor f m) ≡ option_and_then refusal_of (first_refusal ((not (is_some m), Objection.NotMarked) ∷ []))) [ None ↦ refl | Some fault ↦ refl ]
    ]

-- one that is refused
pub withdraw_refused : (k : Core) (c s : ℕ) (why : Refusal) → IsReached k → there_objection (slice_get (view_of k).endpoints c) ≡ None → s ≡ speaker_at (view_of k) c
    → Some why ≡ withdraw_refusal (sender_in (view_of k) s).sending → Makes k (Event.Withdraw c) (Outcome.Refused why) (view_of k)
withdraw_refused k c s why reached free is refused =
    let checks = withdraw_checks (speaker k.world c).flight in let found = reported (first_refusal checks) why (refused ∙ refusal_is k c s reached free is) in
    let moved : move_refusal k.world (Move.Withdraws c) ≡ Some found.0 =
    ap (λ (r : Option Objection). option_or r None)
    (refusal_after (needs_connection k.world c) checks (sym (there_checked k c) ∙ free) ∙ found.1) in
    refused_step k (Event.Withdraw c) why (Move.Withdraws c) found.0 refl moved
    (replied_in k c (Event.Withdraw c) (Move.Withdraws c) (Outcome.Refused why) (refused_outcome k (Move.Withdraws c) found.0 why moved found.2)) refl

-- ---- the sender

-- the sender once its transaction is withdrawn
abbrev pub withdrawn_state : SenderState → Undecided → SenderState
withdrawn_state x f = record x { flight = None; leftovers = x.leftovers ++ map (leftover f.txn.id) f.given }

-- what is asked of a withdrawal
record Withdraws (k : Core) (c s : ℕ) : Type 0 where
  was : IsReached k
  free : there_objection (slice_get (view_of k).endpoints c) ≡ None
  own : s ≡ speaker_at (view_of k) c
  can : Withdrawable (speaker k.world c).flight

marked_is : (s : ℕ) (x : SenderState) (f : Undecided) (fault : ProposeFault) → x.flight ≡ Some f → f.mark ≡ Some fault
    → sending_view s x.seq x.floor x.flight ≡ Sending.Marked (gate_view x.floor f.txn.id) (map (ticket_of f.txn.id) f.given) fault
marked_is s x f fault is marked = ap (λ (o : Option Undecided). sending_view s x.seq x.floor o) is ∙ ap (λ (m : Option ProposeFault). undecided_view x.floor f m) marked

withdrawn_is : (k : Core) (s : ℕ) (f : Undecided) (fault : ProposeFault) → IsReached k → (sender_at k.world s).flight ≡ Some f → f.mark ≡ Some fault
    → withdrawn_sender (sender_view s (sender_at k.world s)) ≡ sender_view s (withdrawn_state (sender_at k.world s) f)
withdrawn_is k s f fault was is marked =
    let x = sender_at k.world s in let old = (sender_view s x).leftovers in
    let left : old ++ map (ticket_of f.txn.id) f.given ≡ (sender_view s (withdrawn_state x f)).leftovers =
    ap (λ (ts : List Ticket). old ++ ts) (sym (map-map (λ y. ticket_of y.id y.ticket) (leftover f.txn.id) f.given))
    ∙ sym (map-append (λ y. ticket_of y.id y.ticket) x.leftovers (map (leftover f.txn.id) f.given)) in
    ap (λ (z : Sending). withdrawn_sender (record { sending = z; leftovers = old })) (marked_is s x f fault is marked)
    ∙ ((λ i. record { sending = Sending.Idle (gate_view x.floor f.txn.id); leftovers = left i })
    ∙ ap (λ (id : TxnId). record (sender_view s (withdrawn_state x f)) { sending = Sending.Idle (gate_view x.floor id) }) (flight_id k s f was is))

-- ---- the endpoint

not_gone : (names : List (List ℕ)) (standing : Standing) (flight : Option Undecided) (accepted : List RawFrame) (unread : Unread)
    → gone_objection (stage_view names standing flight accepted unread) ≡ None → is_gone standing ≡ false
not_gone names Standing.Open flight accepted unread e = refl
not_gone names Standing.Leaving flight accepted unread e = refl
not_gone names Standing.Gone flight accepted unread e = absurd (cc)

-- the stage of one that isn't gone
shut_is : (names : List (List ℕ)) (standing : Standing) (flight : Option Undecided) (accepted : List RawFrame) (unread : Unread)
    → is_gone standing ≡ false → (is_reading standing ≡ true → parting_receipt accepted ≡ None)
    → shut_stage (stage_view names standing flight accepted unread) ≡ Stage.Leaving (parting_receipt accepted)
shut_is names Standing.Open flight accepted unread there none = ap (λ (o : Option (List ℕ)). Stage.Leaving o) (sym (none refl))
shut_is names Standing.Leaving flight accepted unread there none = refl
shut_is names Standing.Gone flight accepted unread there none = absurd (cc)

-- where it is left out, nothing is written
error_or_none : (cut : Bool) (more with text : List ℕ) → with ≡ text ++ more → cond cut text with ≡ text ++ cond cut [] more
error_or_none true more with text e = sym (append-nil text)
error_or_none false more with text e = e

open_reads : (names : List (List ℕ)) (standing : Standing) (flight : Option Undecided) (accepted : List RawFrame) (unread : Unread)
    → reads_frames (stage_view names standing flight accepted unread) ≡ true → is_reading standing ≡ true
open_reads names Standing.Open flight accepted unread e = refl
open_reads names Standing.Leaving flight accepted unread e = absurd (cc)
open_reads names Standing.Gone flight accepted unread e = absurd (cc)

-- the ERROR of the event
abbrev pub error_of : Core → ℕ → ProposeFault → RawFrame
error_of k c fault = error_frame (propose_title fault) (receipt_asked (commit_frame (accepted_of c k.steps))) false

-- what the event writes to its connection
replies_are : (k : Core) (c s : ℕ) (cut : Bool) (h : Withdraws k c s) → replies_to c k.steps (account_of k.names k.steps) (Event.Withdraw c) Reading.Nothing (Outcome.Withdrawn cut)
    ≡ cond (not (not (is_reading (connection_at k.world c).standing))) (error_of k c h.can.fault ∷ []) []
replies_are k c s cut h =
    let account = account_of k.names k.steps in let there = is_there k c h.free in let receipt = receipt_asked (commit_frame (accepted_of c k.steps)) in
    let title : failed_title (last_of c k.steps account) account ≡ propose_title h.can.fault =
    ap (λ (id : TxnId). failed_title id account) (last_is k c h.can.flight h.was h.can.is) ∙ failed_is k c h.can.flight h.can.fault h.was h.can.is h.can.marked in
    ap (λ (b : Bool). cond (b && not (has_closed c account)) (error_frame (failed_title (last_of c k.steps account) account) receipt false ∷ []) []) (eq-eqb c c refl)
    ∙ (ap (λ (b : Bool). cond (not b) (error_frame (failed_title (last_of c k.steps account) account) receipt false ∷ []) []) (closed_is k c h.was there)
    ∙ ap (λ (m : List ℕ). cond (not (not (is_reading (connection_at k.world c).standing))) (error_frame m receipt false ∷ []) []) title)

-- ---- what is held

withdrawn_whole : (k : Core) (c s : ℕ) (cut : Bool) (h : Withdraws k c s) → refused_view cut (propose_title h.can.fault) c (withdrawn_view s (view_of k))
    ≡ view_after k.names (with_leaving (with_sender k.world (speaker_number k.world c) (withdrawn_state (speaker k.world c) h.can.flight)) c)
    (step_of (Event.Withdraw c) Reading.Nothing (Outcome.Withdrawn cut) ∷ k.steps)
withdrawn_whole k c s cut h =
    let w = k.world in let v = view_of k in let n = speaker_number w c in let f = h.can.flight in let message = propose_title h.can.fault in
    let x = withdrawn_state (speaker w c) f in let u = with_sender w n x in let step = step_of (Event.Withdraw c) Reading.Nothing (Outcome.Withdrawn cut) in
    let after : Core = record { names = k.names; world = u; steps = step ∷ k.steps } in let there = is_there k c h.free in let speaking = flying_speaking k c f h.free h.can.is in
    let standing = (connection_at w c).standing in let account = account_of k.names k.steps in
    let old = λ (m : ℕ). endpoint_view (names_at k) w m (accepted_of m k.steps) (unread_at m k.steps) (text_out k.names m k.steps) in
    let new = λ (m : ℕ). endpoint_view (names_at k) u m (accepted_of m (step ∷ k.steps)) (unread_at m k.steps) (text_out k.names m (step ∷ k.steps)) in
    let accepted = accepted_of c k.steps in let unread = unread_at c k.steps in let text = text_out k.names c k.steps in
    let more = flat_map spelling_of (replies_to c k.steps account (Event.Withdraw c) Reading.Nothing (Outcome.Withdrawn cut)) in
    let senders : set v.senders s (withdrawn_sender (sender_in v s)) ≡ (view_of after).senders =
    ap (λ (y : SenderView). set v.senders s (withdrawn_sender y)) (sender_of_endpoint k c s h.was there (still_there k c h.free) h.own)
    ∙ (ap (λ (y : SenderView). set v.senders s y) (withdrawn_is k n f h.can.fault h.was h.can.is h.can.marked)
    ∙ (ap (λ (m : ℕ). set v.senders m (sender_view n x)) (h.own ∙ speaker_of k c there)
    ∙ speaker_with k c x h.was speaking)) in
    let texts : cond cut text (with_error message text (old c).stage) ≡ text_out k.names c (step ∷ k.steps) =
    error_or_none cut more (with_error message text (old c).stage) text
    (ap (λ (o : Option Undecided). with_error message text (stage_view (names_at k) standing o accepted unread)) h.can.is
    ∙ (elim standing as (λ (standing : Standing). with_error message text (stage_view (names_at k) standing (Some f) accepted unread) ≡ text ++ flat_map spelling_of (cond (not (not (is_reading standing))) (error_frame message (receipt_asked (commit_frame accepted)) false ∷ []) [])) [
      | Standing.Open ↦ ap (λ (octets : List ℕ). text ++ octets) (sym (append-nil (spelling_of (error_frame message (receipt_asked (commit_frame accepted)) false))))
      | Standing.Leaving ↦ sym (append-nil text)
      | Standing.Gone ↦ sym (append-nil text)
    ]
    ∙ ap (λ (fs : List RawFrame). text ++ flat_map spelling_of fs) (sym (replies_are k c s cut h)))) in
    let gone : is_gone standing ≡ false = not_gone (names_at k) standing (speaker w c).flight accepted unread
    (sym (ap there_objection (endpoint_is k c there)) ∙ h.free) in
    let none : is_reading standing ≡ true → parting_receipt accepted ≡ None = λ reads. ap (λ (o : Option RawFrame). option_and_then receipt_of o) (not_parting k c h.was reads) in
    let parting = parting_receipt (accepted_of c (step ∷ k.steps)) in
    let stages : shut_stage (old c).stage ≡ Stage.Leaving parting =
    shut_is (names_at k) standing (speaker w c).flight accepted unread gone none
    ∙ ap (λ (fs : List RawFrame). Stage.Leaving (parting_receipt fs)) (sym (append-nil accepted)) in
    let endpoint : refused_endpoint cut message (old c) ≡ leaving_endpoint parting (new c) = λ i. record (old c) { stage = stages i; output = texts i } in
    let others : (m : ℕ) → m < length w.connections → m ≢ c → old m ≡ new m = λ m within other.
    endpoint_of_stage (names_at k) w u m (accepted_of m k.steps) (unread_at m k.steps) (text_out k.names m k.steps) refl refl
    (stage_kept k c m x h.was speaking other (names_at k) (accepted_of m k.steps) (unread_at m k.steps))
    ∙ (λ i. endpoint_view (names_at k) u m (sym (append-nil (accepted_of m k.steps)) i) (unread_at m k.steps) (sym (silent m other) i)) in
    let changed : set (each_number old 0 w.connections) c (new c) ≡ each_number new 0 w.connections =
    number_set old new w.connections c (connection_at w c) there others
    ∙ ap (λ (ys : List Connection). each_number new 0 ys) (set-get_or w.connections c nobody) in
    let endpoints : set v.endpoints c (refused_endpoint cut message (get_or v.endpoints c no_endpoint)) ≡ set (view_of after).endpoints c (leaving_endpoint parting (get_or (view_of after).endpoints c no_endpoint)) =
    ap (λ (l : EndpointView). set v.endpoints c (refused_endpoint cut message l)) (endpoint_of k c no_endpoint there)
    ∙ (ap (λ (l : EndpointView). set v.endpoints c l) endpoint
    ∙ (sym (set_twice v.endpoints c (new c) (leaving_endpoint parting (new c)))
    ∙ (ap (λ (ls : List EndpointView). set ls c (leaving_endpoint parting (new c))) changed
    ∙ ap (λ (l : EndpointView). set (view_of after).endpoints c (leaving_endpoint parting l)) (sym (endpoint_of after c no_endpoint there))))) in
    (λ i. record v { senders = senders i; verdicts = lists_kept k c x h.was speaking refl i; endpoints = endpoints i })
    ∙ left_view after c parting no_endpoint there gone refl
  where
    quiet_text : (b : Bool) (text : List ℕ) → text ++ cond b [] [] ≡ text
    quiet_text true text = append-nil text
    quiet_text false text = append-nil text

    silent : (m : ℕ) → m ≢ c → text_out k.names m (step_of (Event.Withdraw c) Reading.Nothing (Outcome.Withdrawn cut) ∷ k.steps) ≡ text_out k.names m k.steps
    silent m other =
        let account = account_of k.names k.steps in
        ap (λ (b : Bool). text_out k.names m k.steps ++ cond cut [] (flat_map spelling_of (cond (b && not (has_closed m account))
        (error_frame (failed_title (last_of m k.steps account) account) (receipt_asked (commit_frame (accepted_of m k.steps))) false ∷ []) []))) (differ c m (λ z. other (sym z)))
        ∙ quiet_text cut (text_out k.names m k.steps)

-- ---- the event

-- a marked transaction is withdrawn, with its ERROR or without memory for it
pub withdraw_makes : (k : Core) (c s : ℕ) (fault : ProposeFault) (cut : Bool) → IsReached k → there_objection (slice_get (view_of k).endpoints c) ≡ None
    → s ≡ speaker_at (view_of k) c → None ≡ withdraw_refusal (sender_in (view_of k) s).sending → Some fault ≡ failure_of (sender_in (view_of k) s).sending
    → (cut ≡ true → reads_frames (get_or (view_of k).endpoints c no_endpoint).stage ≡ true)
    → Makes k (Event.Withdraw c) (Outcome.Withdrawn cut) (refused_view cut (propose_title fault) c (withdrawn_view s (view_of k)))
withdraw_makes k c s fault cut was free own allowed kept asked =
    let w = k.world in let x = speaker w c in let n = speaker_number w c in let there = is_there k c free in
    let h : Withdraws k c s = record { was = was; free = free; own = own; can = withdrawable x.flight (sym (allowed ∙ refusal_is k c s was free own)) } in
    let same : h.can.fault ≡ fault = sym (some_same fault h.can.fault
    (kept ∙ (ap (λ (y : SenderView). failure_of y.sending) (sender_of_endpoint k c s was there (still_there k c free) own) ∙ ap failure_of (marked_is n x h.can.flight h.can.fault h.can.is h.can.marked)))) in
    let move = Move.Withdraws c in
    let moved : move_refusal w move ≡ None =
    ap (λ (r : Option Objection). option_or r None)
    (refusal_after (needs_connection w c) (withdraw_checks x.flight) (sym (there_checked k c) ∙ free) ∙ h.can.passes) in
    let outcome = answered_outcome k move (Answer.Withdrawn (undecided_at w c).txn.id c) (Outcome.Withdrawn false) (made_answer w move moved) refl in
    let world = made_world w move moved ∙ ap (λ (o : Option Undecided). with_leaving (with_sender w n (withdrawn_state x (undecided_or_none o))) c) h.can.is in
    step_makes k (Event.Withdraw c) (Outcome.Withdrawn cut) (with_leaving (with_sender w n (withdrawn_state x h.can.flight)) c) refl (replied k c s cut h outcome asked) world
    (ap (λ (z : ProposeFault). refused_view cut (propose_title z) c (withdrawn_view s (view_of k))) (sym same) ∙ withdrawn_whole k c s cut h)
  where
    replied : (k : Core) (c s : ℕ) (cut : Bool) (h : Withdraws k c s) → move_outcome k (Move.Withdraws c) ≡ Outcome.Withdrawn false ∷ []
        → (cut ≡ true → reads_frames (get_or (view_of k).endpoints c no_endpoint).stage ≡ true)
        → In (Outcome.Withdrawn cut) (Rattle.delivery.specs.Core.Outcomes.reply_outcomes k c (Event.Withdraw c) (move_outcome k (Move.Withdraws c)))
    replied k c s false h outcome asked = replied_in k c (Event.Withdraw c) (Move.Withdraws c) (Outcome.Withdrawn false) outcome
    replied k c s true h outcome asked =
        let there = is_there k c h.free in
        let reads = open_reads (names_at k) (connection_at k.world c).standing (speaker k.world c).flight (accepted_of c k.steps) (unread_at c k.steps)
        (ap (λ (l : EndpointView). reads_frames l.stage) (sym (endpoint_of k c no_endpoint there)) ∙ asked refl) in
        cut_in k c (Event.Withdraw c) (Move.Withdraws c) (Outcome.Withdrawn false) outcome
        (ap is_any (replies_are k c s false h) ∙ ap (λ (b : Bool). is_any (cond (not (not b)) (error_of k c h.can.fault ∷ []) [])) reads)
