-- A transaction is decided.
use Rattle.delivery.proofs.Words.All.{◌≡◌, ◌≢◌, ℕ, zero, suc, ◌-◌, ◌<◌, ◌==◌, Bool, true, false, cond, not, ◌&&◌, ◌||◌, List, [], ◌∷◌, ◌++◌, map, length, get_or, set, Option, Some, None, refl, sym, ap, ◌∙◌, slice_get, eq-eqb, lt-ltb, map-append, append-nil, set-get_or, list_any, list_all, flat_map, is_some, option_map, option_map_or, option_and_then, Topic, TxnId, Stamp, Decision, row_at, first_refusal, LogRow, greatest, topics_of, ProposeFault, RawFrame, Unread, receipt_of, receipt_frame, spelling_of, refusal_first, refusal_after, log_row, Objection, refusal_of, World, Undecided, SenderState, Connection, Standing, is_reading, is_gone, nobody, connection_at, sender_at, speaker, with_sender, speaker_number, Move, Answer, move_refusal, needs_connection, has_ticket, is_complete, undecided_or_none, undecided_at, decide_effect, with_leaving, run, Event, Outcome, Refusal, Sending, account_of, has_closed, receipts_of, receipt_asked, commit_frame, replies_to, text_out, subscribe_frame, Reading, accepted_of, Core, unread_at, names_at, each_number, move_outcome, is_any, there_objection, speaker_at, sender_in, decide_refusal, decision_of, decided_row, decided_sender, decided_view, receipt_in, confirmed_view, IsReached, Makes, step_of, EndpointView, SenderView, held_sender, view_of, view_with, view_after, sender_view, sending_view, undecided_view, endpoint_view, stage_view, parting_receipt, leaving_endpoint, no_endpoint, verdict_list}
use Rattle.std.specs.List.{find}
use Rattle.std.specs.Option.{is_none}
use Rattle.delivery.specs.declared.refusal.Refusal.TheVariants as refusal
use Rattle.delivery.specs.Inner.Senders.{verdicts_with, asked_stage, with_receipt, confirmed_endpoint}
use Rattle.delivery.proofs.Machine.Effects.{made_world, made_answer}
use Rattle.delivery.proofs.Views.Runs.AccountOfTransactions.{flight_id}
use Rattle.delivery.proofs.Views.Endpoints.SpeakerAndEnd.{closed_is}
use Rattle.delivery.proofs.Views.Endpoints.DisconnectIsLast.{not_parting}
use Rattle.delivery.proofs.Words.Changes.{IsSpeaking, number_at, number_set, endpoint_of_stage, speaker_of, held_of, endpoint_of, sender_of_endpoint, speaker_there, speaker_with, speaking_used, lists_with, endpoint_with_sender, stage_kept, differ, left_view, step_makes}
use Rattle.delivery.proofs.Views.Events.ConnectionIsThere.{there_checked, is_there, still_there, flying_speaking, reported, refused_step, refused_outcome, answered_outcome, replied_in, cut_in}
use Rattle.delivery.proofs.Views.Senders.TicketsOfTopics.{tickets_are}
use Rattle.delivery.proofs.Views.Verdicts.VerdictOfSender.{undecided_unvoted, undecided_seq, list_stays, list_filled}

-- ---- what stands against it

-- the checks of its transaction
abbrev pub decide_checks : Option Undecided → List (Bool × Objection)
decide_checks o =
    (not (is_some o), Objection.NoFlight) ∷ (is_some (undecided_or_none o).mark, Objection.Marked)
    ∷ (not (is_complete (undecided_or_none o)), Objection.Incomplete) ∷ []

-- a topic without a row gave no ticket
row_given : (t : Topic) (given : List Stamp) → is_none (row_at t given) ≡ not (has_ticket t given)
row_given t [] = refl
row_given t (a ∷ more) = go (row_given t more) (a.topic.0 == t.0)
  where
    go : is_none (row_at t more) ≡ not (has_ticket t more) → (b : Bool)
        → is_none (option_map (λ (row : Stamp). row.n) (cond b (Some a) (find (λ row. row.topic.0 == t.0) more))) ≡ not (b || has_ticket t more)
    go later true = refl
    go later false = later

not_both : (a b : Bool) → not a || not b ≡ not (a && b)
not_both true b = refl
not_both false b = refl

-- one of these lacks a ticket where not each of them gave one
lacks : (given : List Stamp) (ts : List Topic) → list_any {X = Topic × Option ℕ} (λ s. is_none s.1) (map (λ t. (t, row_at t given)) ts) ≡ not (list_all (λ t. has_ticket t given) ts)
lacks given [] = refl
lacks given (t ∷ ts) =
    ap (λ (b : Bool). b || list_any {X = Topic × Option ℕ} (λ s. is_none s.1) (map (λ t. (t, row_at t given)) ts)) (row_given t given)
    ∙ (ap (λ (b : Bool). not (has_ticket t given) || b) (lacks given ts) ∙ not_both (has_ticket t given) (list_all (λ t. has_ticket t given) ts))

incomplete : (b : Bool) → cond (not b) (Some refusal.Incomplete) None ≡ option_and_then refusal_of (cond (not b) (Some Objection.Incomplete) None)
incomplete true = refl
incomplete false = refl

-- the sender's refusal is that of the first check that fails
pub decide_checked : (s seq : ℕ) (floor : Stamp) (o : Option Undecided) → decide_refusal (sending_view s seq floor o) ≡ option_and_then refusal_of (first_refusal (decide_checks o))
decide_checked s seq floor None = refl
decide_checked s seq floor (Some f) = elim f.mark as (λ (m : Option ProposeFault). decide_refusal (undecided_view floor f m) ≡ option_and_then refusal_of (first_refusal ((is_some m, Objection.Marked) ∷ (not (is_complete f), Objection.Incomplete) ∷ []))) [
  | Some fault ↦ refl
  | None ↦ ap (λ (b : Bool). cond b (Some refusal.Incomplete) None) (lacks f.given (topics_of f.txn.sends)) ∙ incomplete (is_complete f)
]

-- where none fails there is a transaction, and no topic refused it
pub record Decidable (o : Option Undecided) : Type 0 where
  pub flight : Undecided
  pub is : o ≡ Some flight
  pub unmarked : flight.mark ≡ None
  pub passes : first_refusal (decide_checks o) ≡ None

passes_incomplete : (b : Bool) → cond b (Some refusal.Incomplete) None ≡ None → b ≡ false
passes_incomplete true e = absurd (cc)
passes_incomplete false e = refl

decidable : (s seq : ℕ) (floor : Stamp) (o : Option Undecided) → decide_refusal (sending_view s seq floor o) ≡ None → Decidable o
decidable s seq floor None e = absurd (cc)
decidable s seq floor (Some f) e = go f.mark refl e
  where
    go : (m : Option ProposeFault) → f.mark ≡ m → decide_refusal (undecided_view floor f m) ≡ None → Decidable (Some f)
    go (Some fault) is e = absurd (cc)
    go None is e = record {
      flight = f;
      is = refl;
      unmarked = is;
      passes = ap (λ (m : Option ProposeFault). first_refusal ((is_some m, Objection.Marked) ∷ (not (is_complete f), Objection.Incomplete) ∷ [])) is
          ∙ ap (λ (b : Bool). cond b (Some Objection.Incomplete) None) (sym (lacks f.given (topics_of f.txn.sends)) ∙ passes_incomplete _ e);
    }

-- a connection that isn't there or is gone
pub decide_gone : (k : Core) (c : ℕ) (o : Objection) (why : Refusal) → there_objection (slice_get (view_of k).endpoints c) ≡ Some o → refusal_of o ≡ Some why
    → Makes k (Event.Decide c) (Outcome.Refused why) (view_of k)
decide_gone k c o why stands is =
    let refused : move_refusal k.world (Move.Decides c) ≡ Some o =
    ap (λ (r : Option Objection). Rattle.std.specs.Option.option_or r None)
    (refusal_first (needs_connection k.world c) (decide_checks (speaker k.world c).flight) o (sym (there_checked k c) ∙ stands)) in
    refused_step k (Event.Decide c) why (Move.Decides c) o refl refused
    (replied_in k c (Event.Decide c) (Move.Decides c) (Outcome.Refused why) (refused_outcome k (Move.Decides c) o why refused is)) refl

-- a sender without a transaction that can be decided
pub decide_refused : (k : Core) (c s : ℕ) (why : Refusal) → IsReached k → there_objection (slice_get (view_of k).endpoints c) ≡ None → s ≡ speaker_at (view_of k) c
    → Some why ≡ decide_refusal (sender_in (view_of k) s).sending → Makes k (Event.Decide c) (Outcome.Refused why) (view_of k)
decide_refused k c s why reached free is refused =
    let x = speaker k.world c in let there = is_there k c free in let checks = decide_checks x.flight in
    let found = reported (first_refusal checks) why
    (refused ∙ (ap (λ (y : SenderView). decide_refusal y.sending) (sender_of_endpoint k c s reached there (still_there k c free) is)
    ∙ decide_checked (speaker_number k.world c) x.seq x.floor x.flight)) in
    let moved : move_refusal k.world (Move.Decides c) ≡ Some found.0 =
    ap (λ (r : Option Objection). Rattle.std.specs.Option.option_or r None)
    (refusal_after (needs_connection k.world c) checks (sym (there_checked k c) ∙ free) ∙ found.1) in
    refused_step k (Event.Decide c) why (Move.Decides c) found.0 refl moved
    (replied_in k c (Event.Decide c) (Move.Decides c) (Outcome.Refused why) (refused_outcome k (Move.Decides c) found.0 why moved found.2)) refl

-- ---- the sender, its verdict and its row

-- the sender once its transaction is decided
abbrev pub decided_state : SenderState → Undecided → SenderState
decided_state x f = record x { floor = greatest f.given; flight = None }

-- an unmarked transaction is on its way
pub flying_is : (s : ℕ) (x : SenderState) (f : Undecided) → x.flight ≡ Some f → f.mark ≡ None
    → sending_view s x.seq x.floor x.flight ≡ sending_view s x.seq x.floor (Some (record f { mark = None }))
flying_is s x f is unmarked = ap (λ (o : Option Undecided). sending_view s x.seq x.floor o) is ∙ ap (λ (m : Option ProposeFault). undecided_view x.floor f m) unmarked

-- what the view has of the flight
decided_is : (k : Core) (s : ℕ) (f : Undecided) → IsReached k → (sender_at k.world s).flight ≡ Some f → f.mark ≡ None
    → decided_sender (sender_view s (sender_at k.world s)) ≡ sender_view s (decided_state (sender_at k.world s) f)
decided_is k s f reached flight unmarked =
    let x = sender_at k.world s in let leftovers = (sender_view s x).leftovers in
    ap (λ (z : Sending). decided_sender (record { sending = z; leftovers = leftovers })) (flying_is s x f flight unmarked)
    ∙ (ap (λ (rows : List Stamp). record { sending = Sending.Idle (record { sender = f.txn.id.sender; seq = f.txn.id.seq; floor = greatest rows }); leftovers = leftovers })
    (tickets_are k s f reached flight)
    ∙ ap (λ (id : TxnId). record { sending = Sending.Idle (record { sender = id.sender; seq = id.seq; floor = greatest f.given }); leftovers = leftovers }) (flight_id k s f reached flight))

decision_is : (k : Core) (s : ℕ) (f : Undecided) → IsReached k → (sender_at k.world s).flight ≡ Some f → f.mark ≡ None
    → decision_of (sender_view s (sender_at k.world s)).sending ≡ record { id = f.txn.id; rows = f.given }
decision_is k s f reached flight unmarked =
    ap decision_of (flying_is s (sender_at k.world s) f flight unmarked)
    ∙ ap (λ (rows : List Stamp). record { id = f.txn.id; rows = rows }) (tickets_are k s f reached flight)

row_is : (k : Core) (s : ℕ) (f : Undecided) → IsReached k → (sender_at k.world s).flight ≡ Some f → f.mark ≡ None
    → decided_row (sender_view s (sender_at k.world s)).sending ≡ log_row (record { txn = f.txn; stamp = greatest f.given })
row_is k s f reached flight unmarked =
    ap decided_row (flying_is s (sender_at k.world s) f flight unmarked)
    ∙ ap (λ (rows : List Stamp). record { id = f.txn.id; topics = topics_of f.txn.sends; stamp = greatest rows }) (tickets_are k s f reached flight)

-- ---- the RECEIPT

-- the octets with the RECEIPT are those with the replies
receipted : (text : List ℕ) (frame : Option RawFrame) → with_receipt text (receipt_asked frame) ≡ text ++ flat_map spelling_of (option_map_or receipts_of frame [])
receipted text None = sym (append-nil text)
receipted text (Some f) = elim (receipt_of f) as (λ (o : Option (List ℕ)). with_receipt text o ≡ text ++ flat_map spelling_of (option_map_or (λ id. receipt_frame id ∷ []) o [])) [
  | None ↦ sym (append-nil text)
  | Some id ↦ ap (λ (octets : List ℕ). text ++ octets) (sym (append-nil (spelling_of (receipt_frame id))))
]

-- only an open endpoint asked for one
asked_open : (names : List (List ℕ)) (standing : Standing) (flight : Option Undecided) (accepted : List RawFrame) (unread : Unread)
    → is_some (receipt_in (stage_view names standing flight accepted unread)) ≡ true → is_reading standing ≡ true
asked_open names Standing.Open flight accepted unread e = refl
asked_open names Standing.Leaving flight accepted unread e = absurd (cc)
asked_open names Standing.Gone flight accepted unread e = absurd (cc)

-- then there is a reply
asked_reply : (names : List (List ℕ)) (standing : Standing) (f : Undecided) (accepted : List RawFrame) (unread : Unread)
    → is_some (receipt_in (stage_view names standing (Some f) accepted unread)) ≡ true → is_any (option_map_or receipts_of (commit_frame accepted) []) ≡ true
asked_reply names Standing.Open f accepted unread e = go (commit_frame accepted) e
  where
    more : (o : Option (List ℕ)) → is_some o ≡ true → is_any (option_map_or (λ id. receipt_frame id ∷ []) o []) ≡ true
    more None e = absurd (cc)
    more (Some id) e = refl

    go : (frame : Option RawFrame) → is_some (receipt_asked frame) ≡ true → is_any (option_map_or receipts_of frame []) ≡ true
    go None e = absurd (cc)
    go (Some f) e = more (receipt_of f) e
asked_reply names Standing.Leaving f accepted unread e = absurd (cc)
asked_reply names Standing.Gone f accepted unread e = absurd (cc)

-- ---- all together

-- what is asked of a connection's sender that decides
pub record Decides (k : Core) (c : ℕ) : Type 0 where
  pub reached : IsReached k
  pub free : there_objection (slice_get (view_of k).endpoints c) ≡ None
  pub can : Decidable (speaker k.world c).flight

-- the connection speaks for its sender
decides_speaking : (k : Core) (c : ℕ) → Decides k c → IsSpeaking k.world c
decides_speaking k c h = flying_speaking k c h.can.flight h.free h.can.is

-- the move isn't refused
decides_free : (k : Core) (c : ℕ) → Decides k c → move_refusal k.world (Move.Decides c) ≡ None
decides_free k c h =
    ap (λ (r : Option Objection). Rattle.std.specs.Option.option_or r None)
    (refusal_after (needs_connection k.world c) (decide_checks (speaker k.world c).flight) (sym (there_checked k c) ∙ h.free) ∙ h.can.passes)

-- the senders, verdicts and rows after it
pub record AreDecided (k : Core) (c s : ℕ) : Type 0 where
  pub senders : (decided_view s (view_of k)).senders ≡ each_number (held_sender (decide_effect k.world c)) 0 (decide_effect k.world c).senders
  pub verdicts : (decided_view s (view_of k)).verdicts
      ≡ each_number (λ n. verdict_list (decide_effect k.world c).verdicts n (sender_at (decide_effect k.world c) n).seq) 0 (decide_effect k.world c).senders
  pub commits : (decided_view s (view_of k)).commits ≡ map log_row (decide_effect k.world c).commits

are_decided : (k : Core) (c s : ℕ) → s ≡ speaker_at (view_of k) c → Decides k c → AreDecided k c s
are_decided k c s is h =
    let w = k.world in let there = is_there k c h.free in let n = speaker_number w c in let known = speaker_there k c h.reached (decides_speaking k c h) in let f = h.can.flight in
    let flight : (sender_at w n).flight ≡ Some f = h.can.is in let same : s ≡ n = is ∙ speaker_of k c there in
    let held = held_of k n known (speaking_used w c (decides_speaking k c h)) in let undecided : undecided_at w c ≡ f = ap undecided_or_none h.can.is in
    let decision : Decision = record { id = f.txn.id; rows = f.given } in
    let found : decision_of (sender_in (view_of k) n).sending ≡ decision = ap (λ (y : SenderView). decision_of y.sending) held ∙ decision_is k n f h.reached flight h.can.unmarked in
    let own = flight_id k n f h.reached flight in let list = number_at (λ m. verdict_list w.verdicts m (sender_at w m).seq) w.senders n [] known in
    let seq : (sender_at w n).seq ≢ 0 = λ z. undecided_seq k n f h.reached flight (ap (λ (id : TxnId). id.seq) own ∙ z) in
    record {
      senders =
          ap (λ m. set (view_of k).senders m (decided_sender (sender_in (view_of k) m))) same
          ∙ (ap (λ (y : SenderView). set (view_of k).senders n (decided_sender y)) held
          ∙ (ap (λ (y : SenderView). set (view_of k).senders n y) (decided_is k n f h.reached flight h.can.unmarked)
          ∙ (speaker_with k c (decided_state (speaker w c) f) h.reached (decides_speaking k c h)
          ∙ ap (λ (g : Undecided). each_number (held_sender (with_sender w n (decided_state (speaker w c) g))) 0 (set w.senders n (decided_state (speaker w c) g))) (sym undecided))));
      verdicts =
          ap (λ m. verdicts_with m (decision_of (sender_in (view_of k) m).sending) (view_of k).verdicts) same
          ∙ (ap (λ (v : Decision). verdicts_with n v (view_of k).verdicts) found
          ∙ (ap (λ (y : List (Option Decision)). set (view_of k).verdicts n (set y (decision.id.seq - 1) (Some decision))) list
          ∙ (ap (λ (y : List (Option Decision)). set (view_of k).verdicts n y) (list_filled w.verdicts decision n (sender_at w n).seq own seq (undecided_unvoted k n f h.reached flight))
          ∙ (lists_with w n (decided_state (speaker w c) f) (w.verdicts ++ decision ∷ []) known
          (λ m other. list_stays w.verdicts decision n m (sender_at w m).seq (ap (λ (id : TxnId). id.sender.0) own) other)
          ∙ ap (λ (g : Undecided). each_number (λ m. verdict_list (w.verdicts ++ record { id = g.txn.id; rows = g.given } ∷ []) m (sender_at (with_sender w n (decided_state (speaker w c) g)) m).seq) 0
          (set w.senders n (decided_state (speaker w c) g))) (sym undecided)))));
      commits =
          ap (λ m. (view_of k).commits ++ decided_row (sender_in (view_of k) m).sending ∷ []) same
          ∙ (ap (λ (r : LogRow). (view_of k).commits ++ r ∷ []) (ap (λ (y : SenderView). decided_row y.sending) held ∙ row_is k n f h.reached flight h.can.unmarked)
          ∙ (sym (map-append log_row w.commits (record { txn = f.txn; stamp = greatest f.given } ∷ []))
          ∙ ap (λ (g : Undecided). map log_row (w.commits ++ record { txn = g.txn; stamp = greatest g.given } ∷ [])) (sym undecided)));
    }

-- the text of a connection after the step
decided_text : (k : Core) (c n : ℕ) (stamp : Stamp) → n ≢ c
    → text_out k.names n k.steps ≡ text_out k.names n (step_of (Event.Decide c) Reading.Nothing (Outcome.Decided stamp false) ∷ k.steps)
decided_text k c n stamp other =
    let account = account_of k.names k.steps in let replies = option_map_or receipts_of (commit_frame (accepted_of n k.steps)) [] in
    sym (ap (λ (b : Bool). text_out k.names n k.steps ++ flat_map spelling_of (cond (b && not (has_closed n account)) replies [])) (differ c n (λ z. other (sym z)))
    ∙ append-nil (text_out k.names n k.steps))

-- what is held with the RECEIPT, if one was asked for
decided_whole : (k : Core) (c s : ℕ) (stamp : Stamp) → s ≡ speaker_at (view_of k) c → Decides k c → confirmed_view false c (decided_view s (view_of k))
    ≡ view_after k.names (decide_effect k.world c) (step_of (Event.Decide c) Reading.Nothing (Outcome.Decided stamp false) ∷ k.steps)
decided_whole k c s stamp is h =
    let w = k.world in let v = decide_effect w c in let step = step_of (Event.Decide c) Reading.Nothing (Outcome.Decided stamp false) in let there = is_there k c h.free in
    let are = are_decided k c s is h in let account = account_of k.names k.steps in let accepted = accepted_of c k.steps in let unread = unread_at c k.steps in
    let text = text_out k.names c k.steps in let x = decided_state (speaker w c) (undecided_at w c) in let standing = (connection_at w c).standing in
    let old = λ (n : ℕ). endpoint_view (names_at k) w n (accepted_of n k.steps) (unread_at n k.steps) (text_out k.names n k.steps) in
    let new = λ (n : ℕ). endpoint_view (names_at k) v n (accepted_of n k.steps) (unread_at n k.steps) (text_out k.names n (step ∷ k.steps)) in
    let replies = option_map_or receipts_of (commit_frame accepted) [] in
    let texts : with_receipt text (receipt_in (old c).stage) ≡ text_out k.names c (step ∷ k.steps) =
    ap (λ (o : Option Undecided). with_receipt text (receipt_in (stage_view (names_at k) standing o accepted unread))) h.can.is
    ∙ (elim standing as (λ (standing : Standing). with_receipt text (receipt_in (stage_view (names_at k) standing (Some h.can.flight) accepted unread)) ≡ text ++ flat_map spelling_of (cond (not (not (is_reading standing))) (option_map_or receipts_of (commit_frame accepted) []) [])) [
      | Standing.Open ↦ receipted text (commit_frame accepted)
      | Standing.Leaving ↦ sym (append-nil text)
      | Standing.Gone ↦ sym (append-nil text)
    ]
    ∙ (ap (λ (b : Bool). text ++ flat_map spelling_of (cond (not b) replies [])) (sym (closed_is k c h.reached there))
    ∙ ap (λ (b : Bool). text ++ flat_map spelling_of (cond (b && not (has_closed c account)) replies [])) (sym (eq-eqb c c refl)))) in
    let stages : asked_stage None (old c).stage ≡ (new c).stage =
    ap (λ (o : Option Undecided). asked_stage None (stage_view (names_at k) standing o accepted unread)) h.can.is
    ∙ (elim standing as (λ (standing : Standing). asked_stage None (stage_view (names_at k) standing (Some h.can.flight) accepted unread) ≡ stage_view (names_at k) standing None accepted unread) [
      | Standing.Open ↦ refl
      | Standing.Leaving ↦ refl
      | Standing.Gone ↦ refl
    ]
    ∙ sym (ap (λ (l : EndpointView). l.stage) (endpoint_with_sender (names_at k) k c x accepted unread text h.reached (decides_speaking k c h)))) in
    let endpoint : confirmed_endpoint (get_or (view_of k).endpoints c no_endpoint) ≡ new c =
    ap confirmed_endpoint (endpoint_of k c no_endpoint there)
    ∙ (λ i. record (old c) { stage = stages i; output = texts i }) in
    let others : (n : ℕ) → n < length w.connections → n ≢ c → old n ≡ new n = λ n within other.
    endpoint_of_stage (names_at k) w v n (accepted_of n k.steps) (unread_at n k.steps) (text_out k.names n k.steps) refl refl
    (stage_kept k c n x h.reached (decides_speaking k c h) other (names_at k) (accepted_of n k.steps) (unread_at n k.steps))
    ∙ ap (λ (octets : List ℕ). endpoint_view (names_at k) v n (accepted_of n k.steps) (unread_at n k.steps) octets) (decided_text k c n stamp other) in
    let endpoints = ap (λ (l : EndpointView). set (view_of k).endpoints c l) endpoint
    ∙ (number_set old new w.connections c (connection_at w c) there others
    ∙ ap (λ (xs : List Connection). each_number new 0 xs) (set-get_or w.connections c nobody)) in
    (λ i. record (view_of k) { senders = are.senders i; verdicts = are.verdicts i; commits = are.commits i; endpoints = endpoints i })
    ∙ (λ i. view_with (names_at k) v (λ n. sym (append-nil (accepted_of n k.steps)) i) (λ n. unread_at n k.steps) (λ n. text_out k.names n (step ∷ k.steps)) (λ n. subscribe_frame n k.steps))

-- ---- without memory for the RECEIPT

open_free : (standing : Standing) → is_reading standing ≡ true → first_refusal ((is_gone standing, Objection.Gone) ∷ (not (is_reading standing), Objection.Busy) ∷ []) ≡ None
open_free Standing.Open e = refl
open_free Standing.Leaving e = absurd (cc)
open_free Standing.Gone e = absurd (cc)

-- an open connection may be lost
lost_free : (w : World) (c : ℕ) → c < length w.connections → is_reading (connection_at w c).standing ≡ true → move_refusal w (Move.Lost c) ≡ None
lost_free w c there reads =
    ap (λ (b : Bool). Rattle.std.specs.Option.option_or (first_refusal ((not b, Objection.NoConn) ∷ (is_gone (connection_at w c).standing, Objection.Gone)
    ∷ (not (is_reading (connection_at w c).standing), Objection.Busy) ∷ [])) None) (lt-ltb c (length w.connections) there)
    ∙ ap (λ (o : Option Objection). Rattle.std.specs.Option.option_or o None) (open_free (connection_at w c).standing reads)

-- what is written twice is what was written last
pub set_twice : {X : Type 0} (xs : List X) (i : ℕ) (y z : X) → set (set xs i y) i z ≡ set xs i z
set_twice [] i y z = refl
set_twice (x ∷ xs) zero y z = refl
set_twice (x ∷ xs) (suc i) y z = ap (λ ys. x ∷ ys) (set_twice xs i y z)

-- then the connection is leaving
decided_cut : (k : Core) (c s : ℕ) (stamp : Stamp) → s ≡ speaker_at (view_of k) c → Decides k c → is_reading (connection_at k.world c).standing ≡ true
    → confirmed_view true c (decided_view s (view_of k))
    ≡ view_after k.names (with_leaving (decide_effect k.world c) c) (step_of (Event.Decide c) Reading.Nothing (Outcome.Decided stamp true) ∷ k.steps)
decided_cut k c s stamp is h reads =
    let w = k.world in let v = decide_effect w c in let step = step_of (Event.Decide c) Reading.Nothing (Outcome.Decided stamp true) in
    let after : Core = record { names = k.names; world = v; steps = step ∷ k.steps } in let there = is_there k c h.free in let are = are_decided k c s is h in
    let x = decided_state (speaker w c) (undecided_at w c) in
    let old = λ (n : ℕ). endpoint_view (names_at k) w n (accepted_of n k.steps) (unread_at n k.steps) (text_out k.names n k.steps) in
    let new = λ (n : ℕ). endpoint_view (names_at k) v n (accepted_of n (step ∷ k.steps)) (unread_at n k.steps) (text_out k.names n (step ∷ k.steps)) in
    let plain = λ (n : ℕ). endpoint_view (names_at k) v n (accepted_of n k.steps) (unread_at n k.steps) (text_out k.names n k.steps) in
    let same : (n : ℕ) → plain n ≡ new n = λ n i. endpoint_view (names_at k) v n (sym (append-nil (accepted_of n k.steps)) i) (unread_at n k.steps) (sym (append-nil (text_out k.names n k.steps)) i) in
    let others : (n : ℕ) → n < length w.connections → n ≢ c → old n ≡ new n = λ n within other.
    endpoint_of_stage (names_at k) w v n (accepted_of n k.steps) (unread_at n k.steps) (text_out k.names n k.steps) refl refl
    (stage_kept k c n x h.reached (decides_speaking k c h) other (names_at k) (accepted_of n k.steps) (unread_at n k.steps)) ∙ same n in
    let leaving : leaving_endpoint None (old c) ≡ leaving_endpoint None (new c) = ap (λ (l : EndpointView). leaving_endpoint None l) (same c) in
    let changed : set (each_number old 0 w.connections) c (new c) ≡ each_number new 0 w.connections =
    number_set old new w.connections c (connection_at w c) there others
    ∙ ap (λ (xs : List Connection). each_number new 0 xs) (set-get_or w.connections c nobody) in
    let endpoints : set (view_of k).endpoints c (leaving_endpoint None (get_or (view_of k).endpoints c no_endpoint)) ≡ set (view_of after).endpoints c (leaving_endpoint None (get_or (view_of after).endpoints c no_endpoint)) =
    ap (λ (l : EndpointView). set (view_of k).endpoints c (leaving_endpoint None l)) (endpoint_of k c no_endpoint there)
    ∙ (ap (λ (l : EndpointView). set (view_of k).endpoints c l) leaving
    ∙ (sym (set_twice (view_of k).endpoints c (new c) (leaving_endpoint None (new c)))
    ∙ (ap (λ (ls : List EndpointView). set ls c (leaving_endpoint None (new c))) changed
    ∙ ap (λ (l : EndpointView). set (view_of after).endpoints c (leaving_endpoint None l)) (sym (endpoint_of after c no_endpoint there))))) in
    let parting : parting_receipt (accepted_of c (step ∷ k.steps)) ≡ None =
    ap parting_receipt (append-nil (accepted_of c k.steps))
    ∙ ap (λ (f : Option RawFrame). option_and_then receipt_of f) (not_parting k c h.reached reads) in
    (λ i. record (view_of k) { senders = are.senders i; verdicts = are.verdicts i; commits = are.commits i; endpoints = endpoints i })
    ∙ left_view after c None no_endpoint there (still_there k c h.free) parting

-- ---- the event

stamp_is : (k : Core) (c s : ℕ) (stamp : Stamp) → s ≡ speaker_at (view_of k) c → Decides k c → stamp ≡ (decided_row (sender_in (view_of k) s).sending).stamp
    → greatest (undecided_at k.world c).given ≡ stamp
stamp_is k c s stamp is h kept =
    let there = is_there k c h.free in let n = speaker_number k.world c in
    ap (λ (o : Option Undecided). greatest (undecided_or_none o).given) h.can.is
    ∙ sym (kept ∙ (ap (λ (y : SenderView). (decided_row y.sending).stamp) (sender_of_endpoint k c s h.reached there (still_there k c h.free) is)
    ∙ ap (λ (r : LogRow). r.stamp) (row_is k n h.can.flight h.reached h.can.is h.can.unmarked)))

decided_outcome : (k : Core) (c s : ℕ) (stamp : Stamp) → s ≡ speaker_at (view_of k) c → Decides k c → stamp ≡ (decided_row (sender_in (view_of k) s).sending).stamp
    → move_outcome k (Move.Decides c) ≡ Outcome.Decided stamp false ∷ []
decided_outcome k c s stamp is h kept =
    answered_outcome k (Move.Decides c) (Answer.Decided (undecided_at k.world c).txn.id (greatest (undecided_at k.world c).given)) (Outcome.Decided stamp false)
    (made_answer k.world (Move.Decides c) (decides_free k c h)) (ap (λ (a : Stamp). Some (Outcome.Decided a false)) (stamp_is k c s stamp is h kept))

-- a transaction that can be decided is, with its RECEIPT or without memory for it
pub decide_makes : (k : Core) (c s : ℕ) (stamp : Stamp) (cut : Bool) → IsReached k → there_objection (slice_get (view_of k).endpoints c) ≡ None
    → s ≡ speaker_at (view_of k) c → None ≡ decide_refusal (sender_in (view_of k) s).sending → stamp ≡ (decided_row (sender_in (view_of k) s).sending).stamp
    → (cut ≡ true → is_some (receipt_in (get_or (view_of k).endpoints c no_endpoint).stage) ≡ true)
    → Makes k (Event.Decide c) (Outcome.Decided stamp cut) (confirmed_view cut c (decided_view s (view_of k)))
decide_makes k c s stamp cut reached free is allowed kept asked = go cut asked
  where
    there : c < length k.world.connections
    there = is_there k c free

    decides : Decides k c
    decides = record {
      reached = reached;
      free = free;
      can = decidable (speaker_number k.world c) (speaker k.world c).seq (speaker k.world c).floor (speaker k.world c).flight
          (sym (allowed ∙ ap (λ (y : SenderView). decide_refusal y.sending) (sender_of_endpoint k c s reached there (still_there k c free) is)));
    }

    outcome : move_outcome k (Move.Decides c) ≡ Outcome.Decided stamp false ∷ []
    outcome = decided_outcome k c s stamp is decides kept

    world : run (Move.Decides c ∷ []) k.world ≡ decide_effect k.world c
    world = made_world k.world (Move.Decides c) (decides_free k c decides)

    go : (cut : Bool) → (cut ≡ true → is_some (receipt_in (get_or (view_of k).endpoints c no_endpoint).stage) ≡ true)
        → Makes k (Event.Decide c) (Outcome.Decided stamp cut) (confirmed_view cut c (decided_view s (view_of k)))
    go false asked =
        step_makes k (Event.Decide c) (Outcome.Decided stamp false) (decide_effect k.world c) refl
        (replied_in k c (Event.Decide c) (Move.Decides c) (Outcome.Decided stamp false) outcome) world (decided_whole k c s stamp is decides)
    go true asked =
        let standing = (connection_at k.world c).standing in let accepted = accepted_of c k.steps in let account = account_of k.names k.steps in
        let wants : is_some (receipt_in (stage_view (names_at k) standing (speaker k.world c).flight accepted (unread_at c k.steps))) ≡ true =
        ap (λ (l : EndpointView). is_some (receipt_in l.stage)) (sym (endpoint_of k c no_endpoint there)) ∙ asked refl in
        let reads = asked_open (names_at k) standing (speaker k.world c).flight accepted (unread_at c k.steps) wants in
        let some = asked_reply (names_at k) standing decides.can.flight accepted (unread_at c k.steps)
        (ap (λ (o : Option Undecided). is_some (receipt_in (stage_view (names_at k) standing o accepted (unread_at c k.steps)))) (sym decides.can.is) ∙ wants) in
        let replies = option_map_or receipts_of (commit_frame accepted) [] in
        let any : is_any (replies_to c k.steps account (Event.Decide c) Reading.Nothing (Outcome.Decided stamp false)) ≡ true =
        ap (λ (b : Bool). is_any (cond (b && not (has_closed c account)) replies [])) (eq-eqb c c refl)
        ∙ (ap (λ (b : Bool). is_any (cond (not b) replies [])) (closed_is k c reached there ∙ ap not reads) ∙ some) in
        let worlds : run (Move.Decides c ∷ Move.Lost c ∷ []) k.world ≡ with_leaving (decide_effect k.world c) c =
        ap (λ (w : World). run (Move.Lost c ∷ []) w) world
        ∙ made_world (decide_effect k.world c) (Move.Lost c) (lost_free (decide_effect k.world c) c there reads) in
        step_makes k (Event.Decide c) (Outcome.Decided stamp true) (with_leaving (decide_effect k.world c) c) refl
        (cut_in k c (Event.Decide c) (Move.Decides c) (Outcome.Decided stamp false) outcome any) worlds (decided_cut k c s stamp is decides reads)
