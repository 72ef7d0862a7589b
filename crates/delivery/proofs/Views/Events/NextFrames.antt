-- A Next whose frame is accepted, and asks for nothing of the machine but that its connection ends.
use Rattle.delivery.proofs.Words.All.{◌≡◌, ℕ, ◌<◌, Bool, true, false, cond, inl, List, [], ◌∷◌, ◌++◌, length, get_or, Option, Some, None, refl, sym, ap, subst, ◌∙◌, flat_map, option_map, option_map_or, option_or, option_and_then, option_to_list, unwrap_or, append-nil, get_or-set_same, In, first_refusal, RawFrame, Unread, receipt_of, connected_frame, receipt_frame, spelling_of, Action, action_by, with_destination, is_disconnect, In-append_left, Objection, World, Connection, Standing, nobody, connection_at, sender_at, speaker, is_gone, Move, move_refusal, move_effect, move_answer, needs_idle, with_leaving, run, ConnectionFault, Event, Outcome, Stage, Reading, has_effect, accepted_of, is_cut, receipts_of, text_out, Core, core_for, frame_move, is_faulted, next_moves, session_at, names_at, topic_moves, MayStep, claim_fault, fault_outcomes, frame_fault, frame_no_memory, frame_outcome, move_outcome, outcome_of, reading_outcomes, accepted_outcomes, outcomes_without, wants_memory, live_numbers, Asks, AsksUnnamed, accepted_stage, error_text, failed_endpoint, receipt_text, staged_endpoint, MayEnd, Makes, View, EndpointView, view_of, view_after, stage_view, leaving_endpoint, no_endpoint, parting_receipt, written_endpoint}
use Rattle.std.specs.List.{find}
use Rattle.stomp_session.specs.declared.action.Action.TheVariants as actions
use Rattle.delivery.proofs.Words.Steps.{made_answer, made_world, run_append}
use Rattle.delivery.proofs.Words.Changes.{with_endpoint, endpoint_again, in_outcome}
use Rattle.delivery.proofs.Core.FrameWorld.{idle_for}
use Rattle.delivery.proofs.Views.Events.FrameTopic.{named_is}
use Rattle.delivery.proofs.Views.Events.UntoldVersion.{untold}
use Rattle.delivery.proofs.Views.Events.NextFaults.{asked_objection, fault_is, endpoint_of, endpoint_there, next_ends, within_endpoints}
use Rattle.delivery.proofs.Views.Events.NextStep.{view_by, held_still, next_of, next_endpoint, next_makes, next_may, next_still, next_written, text_added, frames_added, idle_there, idle_reads, idle_stage, idle_open}
use Rattle.delivery.proofs.Views.Endpoints.DisconnectIsLast.{not_parting}
use Rattle.delivery.proofs.Views.Clients.RestingStay.{standing_speaks}
use Rattle.delivery.proofs.Core.Actions.{frame_fits}

-- ---- what is held

-- the names with those of the frame
abbrev pub names_for : Core → RawFrame → List (List ℕ)
names_for k f = with_destination f (names_at k)

-- the connection is there once the frame's destination has its topic
pub there_for : (k : Core) (f : RawFrame) (c : ℕ) → first_refusal (needs_idle k.world c) ≡ None → c < length (core_for k f).world.connections
there_for k f c idle = idle_there (core_for k f).world c (idle_for k f c idle)

-- once the frame is accepted, and its destination has its topic
pub accepted_view : (k : Core) (c : ℕ) (f : RawFrame) (left : Unread) (action : Action) (receipt : Option (List ℕ)) (held : View) → Asks k c f left action receipt held
    → held ≡ with_endpoint (view_by (names_for k f) (core_for k f)) c (staged_endpoint (accepted_stage k c f left) (endpoint_of (names_for k f) (core_for k f) c))
accepted_view k c f left action receipt held asks =
    let names = names_for k f in let q = core_for k f in
    asks.view
    ∙ (ap (λ (v : View). with_endpoint v c (staged_endpoint (accepted_stage k c f left) (get_or v.endpoints c no_endpoint))) (named_is k f asks.reached)
    ∙ ap (λ (l : EndpointView). with_endpoint (view_by names q) c (staged_endpoint (accepted_stage k c f left) l)) (endpoint_there names q c no_endpoint (there_for k f c asks.idle)))

-- and its endpoint is changed so
pub changed_view : (k : Core) (c : ℕ) (f : RawFrame) (left : Unread) (action : Action) (receipt : Option (List ℕ)) (held new : View) (change : EndpointView → EndpointView) (d : EndpointView)
    → Asks k c f left action receipt held → new ≡ with_endpoint held c (change (get_or held.endpoints c d))
    → new ≡ with_endpoint (view_by (names_for k f) (core_for k f)) c (change (staged_endpoint (accepted_stage k c f left) (endpoint_of (names_for k f) (core_for k f) c)))
changed_view k c f left action receipt held new change d asks is =
    let names = names_for k f in let q = core_for k f in
    is
    ∙ (ap (λ (v : View). with_endpoint v c (change (get_or v.endpoints c d))) (accepted_view k c f left action receipt held asks)
    ∙ endpoint_again (view_by names q) c (staged_endpoint (accepted_stage k c f left) (endpoint_of names q c)) change d (within_endpoints names q c (there_for k f c asks.idle)))

-- with the reply of this outcome it is what is held of the world in which its destination has its topic
pub replied_view : (k : Core) (c : ℕ) (f : RawFrame) (left : Unread) (action : Action) (receipt : Option (List ℕ)) (held new : View) (o : Outcome) (text : List ℕ) (d : EndpointView)
    → Asks k c f left action receipt held → has_effect o ≡ true → text ≡ text_added (Reading.Finds f left) o
    → new ≡ with_endpoint held c (written_endpoint text (get_or held.endpoints c d))
    → new ≡ held_still (names_for k f) (core_for k f) (core_for k f).world c (Reading.Finds f left) o
replied_view k c f left action receipt held new o text d asks effect text_is is =
    let names = names_for k f in let q = core_for k f in let w = q.world in let reading = Reading.Finds f left in let accepted = accepted_of c k.steps in
    let frames : f ∷ [] ≡ frames_added reading o = ap (λ (b : Bool). cond b (f ∷ []) []) (sym effect) in
    let endpoint : written_endpoint text (staged_endpoint (accepted_stage k c f left) (endpoint_of names q c)) ≡ next_endpoint names q w c reading o =
    λ i. record {
      sender = (connection_at w c).sender;
      stage = (sym (idle_stage names q c (accepted ++ f ∷ []) left (idle_for k f c asks.idle))
          ∙ ap (λ (fs : List RawFrame). stage_view names (connection_at w c).standing (speaker w c).flight (accepted ++ fs) left) frames) i;
      live = live_numbers c 0 w.subscriptions;
      output = text_out k.names c k.steps ++ text_is i;
    } in
    changed_view k c f left action receipt held new (written_endpoint text) d asks is
    ∙ (ap (λ (l : EndpointView). with_endpoint (view_by names q) c l) endpoint
    ∙ next_still names q c reading o (there_for k f c asks.idle))

-- ---- it can't be done

-- the frame has no effect, its destination has no topic, and the connection ends by an ERROR
pub next_ends_with : (k : Core) (c : ℕ) (f : RawFrame) (left : Unread) (action : Action) (fault : ConnectionFault) (receipt said : Option (List ℕ)) (held new : View) (o : Outcome) (d : EndpointView)
    → AsksUnnamed k c f left action receipt held → MayEnd k c f fault → said ≡ receipt → o ≡ Outcome.Faulted fault (is_cut o)
    → new ≡ with_endpoint held c (failed_endpoint (is_cut o) (error_text fault said false) (get_or held.endpoints c d)) → Makes k (Event.Next c) o new
next_ends_with k c f left action fault receipt said held new o d asks may same is view =
    subst (λ (p : Outcome). Makes k (Event.Next c) p new) (sym is)
    (next_ends k c (Reading.Finds f left) fault receipt false (is_cut o) (accepted_stage k c f left) held new d
    (record { reached = asks.reached; idle = asks.idle; read = asks.read; may = may; asked = sym asks.wants; said = sym (untold k c f fault asks.cased asks.free may) })
    (asks.view
    ∙ ap (λ (l : EndpointView). with_endpoint (view_of k) c (staged_endpoint (accepted_stage k c f left) l)) (endpoint_there (names_at k) k c no_endpoint (idle_there k.world c asks.idle)))
    (view ∙ ap (λ (r : Option (List ℕ)). with_endpoint held c (failed_endpoint (is_cut o) (error_text fault r false) (get_or held.endpoints c d))) same))

-- ---- what may come of it

-- the machine has nothing against it
pub unfaulted : (k : Core) (c : ℕ) (f : RawFrame) (left : Unread) (action : Action) (receipt : Option (List ℕ)) (held : View)
    → Asks k c f left action receipt held → claim_fault k action ≡ None → asked_objection k c f ≡ None → (o : Outcome) → In o (frame_outcome k c f)
    → In o (reading_outcomes k c (Reading.Finds f left))
unfaulted k c f left action receipt held asks unclaimed none o may =
    let e : frame_fault k c f ≡ None =
    fault_is k c f asks.cased asks.free (ap (claim_fault k) asks.does ∙ unclaimed) ∙ ap (λ (why : Option Objection). option_map (λ (w : Objection). frame_no_memory) why) none in
    subst (λ (x : Option ConnectionFault). In o (option_map_or fault_outcomes x (accepted_outcomes k c f))) (sym e)
    (In-append_left o (frame_outcome k c f) (outcomes_without (wants_memory k c f) frame_no_memory) may)

-- a frame that asks for no move is done
pub done_makes : (k : Core) (c : ℕ) (f : RawFrame) (left : Unread) (action : Action) (receipt : Option (List ℕ)) (held new : View) (text : List ℕ) (d : EndpointView)
    → Asks k c f left action receipt held → claim_fault k action ≡ None → frame_move k c action ≡ None → text ≡ text_added (Reading.Finds f left) Outcome.Done
    → new ≡ with_endpoint held c (written_endpoint text (get_or held.endpoints c d)) → Makes k (Event.Next c) Outcome.Done new
done_makes k c f left action receipt held new text d asks unclaimed none text_is is =
    let q = core_for k f in let ts = topic_moves (names_at k) f in
    let move : frame_move k c (action_by f.command (session_at k c) f) ≡ None = ap (frame_move k c) asks.does ∙ none in
    let may : In Outcome.Done (frame_outcome k c f) =
    subst (λ (m : Option Move). In Outcome.Done (option_map_or (move_outcome q) m (Outcome.Done ∷ []))) (sym move) (inl refl) in
    let still = replied_view k c f left action receipt held new Outcome.Done text d asks refl text_is is in
    next_makes k c (Reading.Finds f left) Outcome.Done new asks.idle asks.read
    (unfaulted k c f left action receipt held asks unclaimed (ap (λ (m : Option Move). option_and_then (λ x. move_refusal q.world x) m) move) Outcome.Done may)
    (still
    ∙ ap (λ (w : World). view_after k.names w (next_of c (Reading.Finds f left) Outcome.Done ∷ k.steps))
    (sym (run_append ts [] k.world) ∙ ap (λ (m : Option Move). run (ts ++ option_to_list m) k.world) (sym move)))

-- the world after such a move
pub moved_world : (k : Core) (c : ℕ) (f : RawFrame) (left : Unread) (action : Action) (move : Move) (o : Outcome)
    → action_by f.command (session_at k c) f ≡ action → frame_move k c action ≡ Some move → move_refusal (core_for k f).world move ≡ None
    → has_effect o ≡ true → is_faulted o ≡ false → run (next_moves k c (Reading.Finds f left) o) k.world ≡ move_effect (core_for k f).world move
moved_world k c f left action move o does some free effect fine =
    let q = core_for k f in let ts = topic_moves (names_at k) f in let own = option_to_list (frame_move k c (action_by f.command (session_at k c) f)) in
    let asked : frame_move k c (action_by f.command (session_at k c) f) ≡ Some move = ap (frame_move k c) does ∙ some in
    let made : next_moves k c (Reading.Finds f left) o ≡ ts ++ move ∷ [] =
    ap (λ (b : Bool). cond b (Move.Errs c ∷ []) (cond (has_effect o) (ts ++ own) [])) fine
    ∙ (ap (λ (b : Bool). cond b (ts ++ own) []) effect
    ∙ ap (λ (m : Option Move). ts ++ option_to_list m) asked) in
    ap (λ (ms : List Move). run ms k.world) made ∙ (run_append ts (move ∷ []) k.world ∙ made_world q.world move free)

-- the core may make such a step
pub move_may : (k : Core) (c : ℕ) (f : RawFrame) (left : Unread) (action : Action) (receipt : Option (List ℕ)) (held : View) (move : Move) (o : Outcome)
    → Asks k c f left action receipt held → claim_fault k action ≡ None → frame_move k c action ≡ Some move → move_refusal (core_for k f).world move ≡ None
    → outcome_of (move_answer (core_for k f).world move) ≡ Some o → MayStep k (next_of c (Reading.Finds f left) o)
move_may k c f left action receipt held move o asks unclaimed some free answer =
    let q = core_for k f in let asked : frame_move k c (action_by f.command (session_at k c) f) ≡ Some move = ap (frame_move k c) asks.does ∙ some in
    let may : In o (frame_outcome k c f) =
    subst (λ (m : Option Move). In o (option_map_or (move_outcome q) m (Outcome.Done ∷ []))) (sym asked)
    (in_outcome q move o (move_answer q.world move) (made_answer q.world move free) answer) in
    next_may k c (Reading.Finds f left) o asks.idle asks.read
    (unfaulted k c f left action receipt held asks unclaimed (ap (λ (m : Option Move). option_and_then (λ x. move_refusal q.world x) m) asked ∙ free) o may)

-- a frame that asks for a move which the machine makes
pub move_makes : (k : Core) (c : ℕ) (f : RawFrame) (left : Unread) (action : Action) (receipt : Option (List ℕ)) (held new : View) (move : Move) (o : Outcome)
    → Asks k c f left action receipt held → claim_fault k action ≡ None → frame_move k c action ≡ Some move → move_refusal (core_for k f).world move ≡ None
    → outcome_of (move_answer (core_for k f).world move) ≡ Some o → has_effect o ≡ true → is_faulted o ≡ false
    → new ≡ view_after k.names (move_effect (core_for k f).world move) (next_of c (Reading.Finds f left) o ∷ k.steps) → Makes k (Event.Next c) o new
move_makes k c f left action receipt held new move o asks unclaimed some free answer effect fine view = record {
  reading = Reading.Finds f left;
  may = move_may k c f left action receipt held move o asks unclaimed some free answer;
  view = view ∙ ap (λ (v : World). view_after k.names v (next_of c (Reading.Finds f left) o ∷ k.steps))
      (sym (moved_world k c f left action move o asks.does some free effect fine));
}

-- ---- frames that need no more than their RECEIPT

one_receipt : (o : Option (List ℕ)) → receipt_text o ≡ flat_map spelling_of (option_map_or (λ id. receipt_frame id ∷ []) o [])
one_receipt None = refl
one_receipt (Some id) = sym (append-nil (spelling_of (receipt_frame id)))

-- the text of the RECEIPT that a frame asks for
pub receipt_is : (k : Core) (c : ℕ) (f : RawFrame) (left : Unread) (action : Action) (receipt : Option (List ℕ)) (held : View)
    → Asks k c f left action receipt held → receipt_text receipt ≡ flat_map spelling_of (receipts_of f)
receipt_is k c f left action receipt held asks = ap receipt_text (sym asks.wants) ∙ one_receipt (receipt_of f)

-- a frame that asks for nothing is answered by its RECEIPT
pub next_acknowledges : (k : Core) (c : ℕ) (f : RawFrame) (left : Unread) (receipt : Option (List ℕ)) (held new : View) (d : EndpointView)
    → Asks k c f left actions.Nothing receipt held → new ≡ with_endpoint held c (written_endpoint (receipt_text receipt) (get_or held.endpoints c d))
    → Makes k (Event.Next c) Outcome.Done new
next_acknowledges k c f left receipt held new d asks is =
    let other = frame_fits f.command (session_at k c) f asks.does in
    let text : receipt_text receipt ≡ text_added (Reading.Finds f left) Outcome.Done =
    receipt_is k c f left actions.Nothing receipt held asks
    ∙ ap (λ (b : Bool). flat_map spelling_of (cond b (connected_frame ∷ []) (receipts_of f))) (sym other) in
    done_makes k c f left actions.Nothing receipt held new (receipt_text receipt) d asks refl refl text is

-- ---- DISCONNECT

find_more : (b : Bool) (x f : RawFrame) (o q : Option RawFrame) → cond b (Some x) o ≡ None → (o ≡ None → q ≡ Some f) → cond b (Some x) q ≡ Some f
find_more true x f o q e h = absurd (cc)
find_more false x f o q e h = h e

find_last : (p : RawFrame → Bool) (xs : List RawFrame) (f : RawFrame) → find p xs ≡ None → p f ≡ true → find p (xs ++ f ∷ []) ≡ Some f
find_last p [] f none is = ap (λ (b : Bool). cond b (Some f) None) is
find_last p (x ∷ xs) f none is = find_more (p x) x f (find p xs) (find p (xs ++ f ∷ [])) none (λ e. find_last p xs f e is)

-- the connection is leaving, and its RECEIPT is due later
pub next_disconnects : (k : Core) (c : ℕ) (f : RawFrame) (left : Unread) (receipt : Option (List ℕ)) (held new : View) (d : EndpointView)
    → Asks k c f left actions.Disconnect receipt held → new ≡ with_endpoint held c (leaving_endpoint receipt (get_or held.endpoints c d))
    → Makes k (Event.Next c) Outcome.Leaving new
next_disconnects k c f left receipt held new d asks is =
    let names = names_for k f in let q = core_for k f in let w = q.world in let o = Outcome.Leaving in let reading = Reading.Finds f left in let idle = idle_for k f c asks.idle in
    let there = there_for k f c asks.idle in let x : Connection = record { sender = (connection_at w c).sender; standing = Standing.Leaving } in let v = with_leaving w c in
    let now : connection_at v c ≡ x = get_or-set_same w.connections c x nobody there in let accepted = accepted_of c k.steps in
    let parted : parting_receipt (accepted ++ f ∷ []) ≡ receipt =
    ap (λ (g : Option RawFrame). option_and_then receipt_of g)
    (find_last (λ g. is_disconnect g.command) accepted f (not_parting k c asks.reached (idle_reads k.world c asks.idle)) (frame_fits f.command (session_at k c) f asks.does))
    ∙ asks.wants in
    let endpoint : leaving_endpoint receipt (staged_endpoint (accepted_stage k c f left) (endpoint_of names q c)) ≡ next_endpoint names q v c reading o =
    λ i. record {
      sender = (sym now i).sender;
      stage = (ap (λ (p : Option (List ℕ)). Stage.Leaving p) (sym parted)
          ∙ ap (λ (y : Connection). stage_view names y.standing (sender_at w (unwrap_or y.sender (length w.senders))).flight (accepted ++ f ∷ []) left) (sym now)) i;
      live = live_numbers c 0 w.subscriptions;
      output = sym (append-nil (text_out k.names c k.steps)) i;
    } in
    let free : move_refusal w (Move.Disconnects c) ≡ None = ap (λ (why : Option Objection). option_or why None) idle in
    move_makes k c f left actions.Disconnect receipt held new (Move.Disconnects c) o asks refl refl free refl refl refl
    (changed_view k c f left actions.Disconnect receipt held new (leaving_endpoint receipt) d asks is
    ∙ (ap (λ (l : EndpointView). with_endpoint (view_by names q) c l) endpoint
    ∙ next_written names q c reading o x there (standing_speaks (connection_at w c) Standing.Leaving refl (ap is_gone (idle_open w c idle)))))
