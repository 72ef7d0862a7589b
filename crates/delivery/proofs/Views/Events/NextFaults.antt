-- A Next that reads no whole frame, and one that ends its connection by an ERROR.
use Rattle.delivery.proofs.Words.All.{◌≡◌, ℕ, ◌<◌, Bool, true, false, cond, inl, inr, List, [], ◌∷◌, ◌++◌, length, get_or, Option, Some, None, refl, sym, ap, subst, ◌∙◌, arith, ◌||◌, Result, Ok, Err, flat_map, list_any, option_map, option_map_or, option_or, option_and_then, option_to_list, unwrap_or, append-nil, get_or-set_same, true≢false, first_refusal, In, CaseFault, RawFrame, Command, case_fault, is_connect, Unread, receipt_of, spelling_of, Step, SessionFault, Action, action_by, takes_memory, with_destination, Held, held_after, state_of, session_fault, Objection, refusal_of, World, Connection, Standing, nobody, connection_at, sender_at, speaker, is_gone, Move, needs_idle, move_refusal, with_leaving, Event, ConnectionFault, OpenEndpoint, Outcome, Refusal, Stage, Reading, frame_in, accepted_of, is_cut, receipt_asked, says_version, next_replies, text_out, Core, IsReadBy, core_for, frame_move, session_at, unread_at, names_at, claim_fault, fault_outcomes, frame_fault, frame_no_memory, frame_outcome, reading_outcomes, unless, accepted_outcomes, is_any, outcomes_without, wants_memory, live_numbers, AsksNamed, IsRefusedAs, Judgement, EndpointFault, error_text, failed_endpoint, idle_objection, staged_endpoint, accepted_stage, MayEnd, MayLack, IsReached, Makes, View, EndpointView, view_of, view_after, stage_view, endpoint_view, no_endpoint, parting_receipt}
use Rattle.stomp_frame.specs.declared.command.Command.TheVariants as commands
use Rattle.stomp_session.specs.declared.action.Action.TheVariants as actions
use Rattle.stomp_session.specs.Answers.{Refuses}
use Rattle.delivery.specs.Core.State.{left_by}
use Rattle.delivery.specs.Inner.Nexts.{Ends, HasFault, JudgesReading, JudgesAt}
use Rattle.delivery.proofs.Machine.Effects.{made_world}
use Rattle.delivery.proofs.Words.Changes.{connect_of, with_endpoint, endpoint_again, length-each_number, refused_is_quiet, in_one, endpoint_at, quiet_makes}
use Rattle.delivery.proofs.Core.FramesRead.{unanswered}
use Rattle.delivery.proofs.Core.NamesKnown.{known_all}
use Rattle.delivery.proofs.Views.Events.ReadingChecks.{idle_checked}
use Rattle.delivery.proofs.Views.Events.NextStep.{ReadsUnless, view_by, next_of, next_endpoint, next_makes, next_still, next_written, frames_added, text_added, idle_there, idle_reads, idle_stage, idle_open}
use Rattle.delivery.proofs.Views.Endpoints.DisconnectIsLast.{not_parting}
use Rattle.delivery.proofs.Views.Clients.RestingStay.{standing_speaks}

-- ---- the endpoint of a connection

-- the endpoint of connection c
abbrev pub endpoint_of : List (List ℕ) → Core → ℕ → EndpointView
endpoint_of names k c = endpoint_view names k.world c (accepted_of c k.steps) (unread_at c k.steps) (text_out k.names c k.steps)

-- that the view has
pub endpoint_there : (names : List (List ℕ)) (k : Core) (c : ℕ) (d : EndpointView) → c < length k.world.connections → get_or (view_by names k).endpoints c d ≡ endpoint_of names k c
endpoint_there names k c d there = endpoint_at k c d (λ n. endpoint_view names k.world n (accepted_of n k.steps) (unread_at n k.steps) (text_out k.names n k.steps)) there

-- there are as many endpoints
pub within_endpoints : (names : List (List ℕ)) (k : Core) (c : ℕ) → c < length k.world.connections → c < length (view_by names k).endpoints
within_endpoints names k c there =
    let f = λ (n : ℕ). endpoint_view names k.world n (accepted_of n k.steps) (unread_at n k.steps) (text_out k.names n k.steps) in
    omega (arith, there, length-each_number f 0 k.world.connections)

-- what it has where it is idle
abbrev pub idle_endpoint : Core → ℕ → OpenEndpoint
idle_endpoint k c = record { reader = unread_at c k.steps; session = state_of (session_at k c); receipt = None }

-- ---- refused

-- a refused Next changes nothing
pub next_refused : (k : Core) (c : ℕ) (why : Objection) (reason : Refusal) → idle_objection (view_of k) c ≡ Some why
    → refusal_of why ≡ Some reason → Makes k (Event.Next c) (Outcome.Refused reason) (view_of k)
next_refused k c why reason is reported =
    let o = Outcome.Refused reason in let objected = sym (idle_checked k c) ∙ is in
    quiet_makes k (Event.Next c) o k.world (refused_is_quiet k.names (Event.Next c) reason k.steps)
    (subst (ReadsUnless (unread_at c k.steps) Reading.Nothing) (sym objected) refl)
    (in_one o (unless (first_refusal (needs_idle k.world c)) (reading_outcomes k c Reading.Nothing))
    (ap (λ (x : Option Objection). unless x (reading_outcomes k c Reading.Nothing)) objected
    ∙ ap (λ (r : Option Refusal). option_to_list (option_map Outcome.Refused r)) reported)) refl refl

-- ---- what was judged

-- a Next of an idle connection whose endpoint is judged so, and what is held then
pub record IsJudged (k : Core) (c : ℕ) (result : Result (Option Step) EndpointFault) (held : View) : Type 0 where
  pub after : OpenEndpoint
  pub view : held ≡ with_endpoint (record (view_of k) { names = held.names }) c (staged_endpoint (Stage.Open after) (endpoint_of (names_at k) k c))
  pub judgement : Judgement (accepted_of c k.steps) (names_at k) (idle_endpoint k c) result after held.names

judged_at : (k : Core) (c : ℕ) (stage new : Stage) (result : Result (Option Step) EndpointFault) (held : View) → IsReached k
    → first_refusal (needs_idle k.world c) ≡ None → held ≡ with_endpoint (record (view_of k) { names = held.names }) c (staged_endpoint new (endpoint_of (names_at k) k c))
    → stage ≡ Stage.Open (idle_endpoint k c) → JudgesAt (names_at k) stage result new held.names → IsJudged k c result held
judged_at k c stage new result held reached idle view is h =
    let at = subst (λ (s : Stage). JudgesAt (names_at k) s result new held.names) is h in
    let silent : (unread_at c k.steps).answered ≡ None =
    subst (λ (z : Core). first_refusal (needs_idle z.world c) ≡ None → (unread_at c z.steps).answered ≡ None) (sym reached.is)
    (unanswered reached.topics reached.capacity reached.steps reached.run c) idle in
    record {
      after = at.0;
      view = view ∙ ap (λ (s : Stage). with_endpoint (record (view_of k) { names = held.names }) c (staged_endpoint s (endpoint_of (names_at k) k c))) at.1;
      judgement = at.2 (accepted_of c k.steps) (record { holds = refl; known = λ f i. known_all k.names k.steps c f i }) silent;
    }

-- the endpoint of an idle connection is judged
pub judged : (k : Core) (c : ℕ) (result : Result (Option Step) EndpointFault) (held : View) (d : EndpointView) → IsReached k → first_refusal (needs_idle k.world c) ≡ None
    → held ≡ with_endpoint (record (view_of k) { names = held.names }) c (staged_endpoint (get_or held.endpoints c d).stage (get_or (view_of k).endpoints c d))
    → JudgesAt (names_at k) (get_or (view_of k).endpoints c d).stage result (get_or held.endpoints c d).stage held.names → IsJudged k c result held
judged k c result held d reached idle view h =
    let at = endpoint_there (names_at k) k c d (idle_there k.world c idle) in
    judged_at k c (get_or (view_of k).endpoints c d).stage (get_or held.endpoints c d).stage result held reached idle
    (view ∙ ap (λ (l : EndpointView). with_endpoint (record (view_of k) { names = held.names }) c (staged_endpoint (get_or held.endpoints c d).stage l)) at)
    (ap (λ (l : EndpointView). l.stage) at ∙ idle_stage (names_at k) k c (accepted_of c k.steps) (unread_at c k.steps) idle) h

-- the same of what is held of a core, and of what its call returned
pub read_judged : (k : Core) (c : ℕ) (old held : View) (result known : Result (Option Step) EndpointFault) (d : EndpointView) → IsReached k
    → idle_objection (view_of k) c ≡ None → old ≡ view_of k
    → held ≡ with_endpoint (record old { names = held.names }) c (staged_endpoint (get_or held.endpoints c d).stage (get_or old.endpoints c d))
    → JudgesAt old.names (get_or old.endpoints c d).stage result (get_or held.endpoints c d).stage held.names → result ≡ known → IsJudged k c known held
read_judged k c old held result known d reached free is view h same =
    judged k c known held d reached (sym (idle_checked k c) ∙ free)
    (view ∙ ap (λ (v : View). with_endpoint (record v { names = held.names }) c (staged_endpoint (get_or held.endpoints c d).stage (get_or v.endpoints c d))) is)
    (subst (λ (v : View). JudgesAt v.names (get_or v.endpoints c d).stage known (get_or held.endpoints c d).stage held.names) is
    (subst (λ (r : Result (Option Step) EndpointFault). JudgesAt old.names (get_or old.endpoints c d).stage r (get_or held.endpoints c d).stage held.names) same h))

-- where no name was added, the view is that of before with another endpoint
unnamed : (k : Core) (c : ℕ) (held : View) (endpoint : EndpointView) → held.names ≡ names_at k → held ≡ with_endpoint (record (view_of k) { names = held.names }) c endpoint
    → held ≡ with_endpoint (view_of k) c endpoint
unnamed k c held endpoint names view = view ∙ ap (λ (ns : List (List ℕ)). with_endpoint (record (view_of k) { names = ns }) c endpoint) names

-- ---- no whole frame

staged_is : (k : Core) (c : ℕ) (stage : Stage) (accepted : List RawFrame) (unread : Unread) (text : List ℕ)
    → stage_view (names_at k) (connection_at k.world c).standing (speaker k.world c).flight accepted unread ≡ stage → text ≡ text_out k.names c k.steps
    → staged_endpoint stage (endpoint_of (names_at k) k c) ≡ endpoint_view (names_at k) k.world c accepted unread text
staged_is k c stage accepted unread text is same = λ i. record {
  sender = (connection_at k.world c).sender;
  stage = sym is i;
  live = live_numbers c 0 k.world.subscriptions;
  output = sym same i;
}

waits_by : (k : Core) (c : ℕ) (held : View) (after : OpenEndpoint) (reading : Reading) → first_refusal (needs_idle k.world c) ≡ None
    → held ≡ with_endpoint (record (view_of k) { names = held.names }) c (staged_endpoint (Stage.Open after) (endpoint_of (names_at k) k c))
    → IsReadBy (unread_at c k.steps) reading → JudgesReading (accepted_of c k.steps) (names_at k) (idle_endpoint k c) reading (Ok None) after held.names
    → Makes k (Event.Next c) (Outcome.Refused Refusal.NoFrame) held
waits_by k c held after (Reading.Waits left) idle view read is =
    let o = Outcome.Refused Refusal.NoFrame in let reading = Reading.Waits left in let accepted = accepted_of c k.steps ++ frames_added reading o in
    let endpoint = staged_is k c (Stage.Open (record { reader = left; session = state_of (held_after (names_at k) accepted); receipt = None })) accepted left
    (text_out k.names c k.steps ++ text_added reading o) (idle_stage (names_at k) k c accepted left idle) (append-nil (text_out k.names c k.steps)) in
    let session : after ≡ record { reader = left; session = state_of (held_after (names_at k) accepted); receipt = None } =
    is.0 ∙ ap (λ (fs : List RawFrame). record { reader = left; session = state_of (held_after (names_at k) fs); receipt = None }) (sym (append-nil (accepted_of c k.steps))) in
    next_makes k c reading o held idle read (inl refl)
    (unnamed k c held (staged_endpoint (Stage.Open after) (endpoint_of (names_at k) k c)) is.1 view
    ∙ (ap (λ (l : OpenEndpoint). with_endpoint (view_of k) c (staged_endpoint (Stage.Open l) (endpoint_of (names_at k) k c))) session
    ∙ (ap (λ (l : EndpointView). with_endpoint (view_of k) c l) endpoint
    ∙ next_still (names_at k) k c reading o (idle_there k.world c idle))))
waits_by k c held after Reading.Nothing idle view read is = absurd is
waits_by k c held after (Reading.Finds f left) idle view read is = absurd is
waits_by k c held after (Reading.Fails check left) idle view read is = absurd is

-- there is no whole frame yet: the reader may have passed over end-of-lines
pub next_waits : (k : Core) (c : ℕ) (held : View) → first_refusal (needs_idle k.world c) ≡ None → IsJudged k c (Ok None) held
    → Makes k (Event.Next c) (Outcome.Refused Refusal.NoFrame) held
next_waits k c held idle h = waits_by k c held h.after h.judgement.reading idle h.view h.judgement.read h.judgement.judged

-- ---- ERRORs

cut_text : (cut : Bool) (old text new : List ℕ) → new ≡ text → cond cut old (old ++ text) ≡ old ++ cond cut [] new
cut_text true old text new is = sym (append-nil old)
cut_text false old text new is = ap (λ (octets : List ℕ). old ++ octets) (sym is)

-- the connection is leaving, with its ERROR or without
pub next_ends : (k : Core) (c : ℕ) (reading : Reading) (fault : ConnectionFault) (receipt : Option (List ℕ)) (version cut : Bool) (stage : Stage) (held new : View) (d : EndpointView)
    → Ends k c reading fault receipt version → held ≡ with_endpoint (view_of k) c (staged_endpoint stage (endpoint_of (names_at k) k c))
    → new ≡ with_endpoint held c (failed_endpoint cut (error_text fault receipt version) (get_or held.endpoints c d)) → Makes k (Event.Next c) (Outcome.Faulted fault cut) new
next_ends k c reading fault receipt version cut stage held new d ends view is =
    let o = Outcome.Faulted fault cut in let there = idle_there k.world c ends.idle in let endpoints : c < length (view_of k).endpoints = within_endpoints (names_at k) k c there in
    let x : Connection = record { sender = (connection_at k.world c).sender; standing = Standing.Leaving } in let w = with_leaving k.world c in
    let now : connection_at w c ≡ x = get_or-set_same k.world.connections c x nobody there in let accepted = accepted_of c k.steps in
    let parted : parting_receipt (accepted ++ []) ≡ None =
    ap parting_receipt (append-nil accepted)
    ∙ ap (λ (f : Option RawFrame). option_and_then receipt_of f) (not_parting k c ends.reached (idle_reads k.world c ends.idle)) in
    let text : error_text fault receipt version ≡ error_text fault (receipt_asked (frame_in reading)) (says_version (frame_in reading) fault) =
    λ i. error_text fault (ends.asked i) (ends.said i) in
    let endpoint : failed_endpoint cut (error_text fault receipt version) (staged_endpoint stage (endpoint_of (names_at k) k c)) ≡ next_endpoint (names_at k) k w c reading o =
    λ i. record {
      sender = (sym now i).sender;
      stage = (ap (λ (p : Option (List ℕ)). Stage.Leaving p) (sym parted)
          ∙ ap (λ (y : Connection). stage_view (names_at k) y.standing (sender_at k.world (unwrap_or y.sender (length k.world.senders))).flight (accepted ++ []) (left_by (unread_at c k.steps) reading)) (sym now)) i;
      live = live_numbers c 0 k.world.subscriptions;
      output = cut_text cut (text_out k.names c k.steps) (error_text fault receipt version) (flat_map spelling_of (next_replies (frame_in reading) o))
          (elim (frame_in reading) as (λ (read : Option RawFrame). flat_map spelling_of (next_replies read (Outcome.Faulted fault cut)) ≡ error_text fault (receipt_asked read) (says_version read fault)) [
            | None ↦ append-nil (error_text fault (receipt_asked None) (says_version None fault))
            | Some f ↦ append-nil (error_text fault (receipt_asked (Some f)) (says_version (Some f) fault))
          ] ∙ sym text) i;
    } in
    let free : move_refusal k.world (Move.Errs c) ≡ None = ap (λ (why : Option Objection). option_or why None) ends.idle in
    next_makes k c reading o new ends.idle ends.read (ends.may cut)
    (is
    ∙ (ap (λ (v : View). with_endpoint v c (failed_endpoint cut (error_text fault receipt version) (get_or v.endpoints c d))) view
    ∙ (endpoint_again (view_of k) c (staged_endpoint stage (endpoint_of (names_at k) k c)) (failed_endpoint cut (error_text fault receipt version)) d endpoints
    ∙ (ap (λ (l : EndpointView). with_endpoint (view_of k) c l) endpoint
    ∙ (next_written (names_at k) k c reading o x there
    (standing_speaks (connection_at k.world c) Standing.Leaving refl (ap is_gone (idle_open k.world c ends.idle)))
    ∙ ap (λ (v : World). view_after k.names v (next_of c reading o ∷ k.steps)) (sym (made_world k.world (Move.Errs c) free)))))))

-- ---- which fault it may be

in_faults : (fault : ConnectionFault) (cut : Bool) → In (Outcome.Faulted fault cut) (fault_outcomes fault)
in_faults fault false = inl refl
in_faults fault true = inr (inl refl)

in_later : (o : Outcome) (xs ys : List Outcome) → In o ys → In o (xs ++ ys)
in_later o [] ys h = h
in_later o (x ∷ xs) ys h = inr (in_later o xs ys h)

pub by_fault : (k : Core) (c : ℕ) (f : RawFrame) (fault : ConnectionFault) (cut : Bool) → frame_fault k c f ≡ Some fault
    → In (Outcome.Faulted fault cut) (option_map_or fault_outcomes (frame_fault k c f) (accepted_outcomes k c f))
by_fault k c f fault cut e =
    subst (λ (x : Option ConnectionFault). In (Outcome.Faulted fault cut) (option_map_or fault_outcomes x (accepted_outcomes k c f))) (sym e)
    (in_faults fault cut)

-- what the machine has against an accepted frame
abbrev pub asked_objection : Core → ℕ → RawFrame → Option Objection
asked_objection k c f = option_and_then (λ move. move_refusal (core_for k f).world move) (frame_move k c (action_by f.command (session_at k c) f))

-- what is at fault with it but for that
abbrev pub asked_claim : Core → ℕ → RawFrame → Option ConnectionFault
asked_claim k c f = claim_fault k (action_by f.command (session_at k c) f)

-- these alone end its connection
pub fault_of_frame : (k : Core) (c : ℕ) (f : RawFrame) → case_fault f ≡ None → session_fault (session_at k c) f ≡ None
    → frame_fault k c f ≡ option_or (asked_claim k c f) (option_map (λ why. frame_no_memory) (asked_objection k c f))
fault_of_frame k c f cased free =
    let rest = option_or (asked_claim k c f) (option_map (λ (why : Objection). frame_no_memory) (asked_objection k c f)) in
    ap (λ (x : Option CaseFault). option_or (option_map ConnectionFault.Frame x) (option_or (option_map ConnectionFault.Session (session_fault (session_at k c) f)) rest)) cased
    ∙ ap (λ (x : Option SessionFault). option_or (option_map ConnectionFault.Session x) rest) free

-- the second alone, where nothing stands against its claim
pub fault_is : (k : Core) (c : ℕ) (f : RawFrame) → case_fault f ≡ None → session_fault (session_at k c) f ≡ None → asked_claim k c f ≡ None
    → frame_fault k c f ≡ option_map (λ why. frame_no_memory) (asked_objection k c f)
fault_is k c f cased free unclaimed =
    fault_of_frame k c f cased free
    ∙ ap (λ (x : Option ConnectionFault). option_or x (option_map (λ (why : Objection). frame_no_memory) (asked_objection k c f))) unclaimed

-- nothing stands against the claim of a frame that is no CONNECT, as there is none
pub none_claimed : (k : Core) (c : ℕ) (f : RawFrame) → is_connect f.command ≡ false → asked_claim k c f ≡ None
none_claimed k c f other = by (action_by f.command (session_at k c) f) refl
  where
    by : (action : Action) → action_by f.command (session_at k c) f ≡ action → claim_fault k action ≡ None
    by (actions.Connected client) does = absurd (true≢false (sym (connect_of f.command (session_at k c) f client does).0 ∙ other))
    by action does = refl

-- a frame for which its session takes memory is none
takes_other : (command : Command) (s : Held) (f : RawFrame) → takes_memory command s f ≡ true → is_connect command ≡ false
takes_other commands.Connect s f takes = absurd (true≢false (sym takes))
takes_other commands.Stomp s f takes = absurd (true≢false (sym takes))
takes_other _ s f takes = refl

-- an accepted frame that wants memory may find none
pub may_lack : (k : Core) (c : ℕ) (f : RawFrame) → case_fault f ≡ None → session_fault (session_at k c) f ≡ None → asked_claim k c f ≡ None → MayLack k c f
    → MayEnd k c f frame_no_memory
may_lack k c f cased free unclaimed wants cut = go (asked_objection k c f) (fault_is k c f cased free unclaimed)
  where
    go : (why : Option Objection) → frame_fault k c f ≡ option_map (λ (w : Objection). frame_no_memory) why
        → In (Outcome.Faulted frame_no_memory cut) (option_map_or fault_outcomes (frame_fault k c f) (accepted_outcomes k c f))
    go None e =
        subst (λ (x : Option ConnectionFault). In (Outcome.Faulted frame_no_memory cut) (option_map_or fault_outcomes x (accepted_outcomes k c f))) (sym e)
        (in_later (Outcome.Faulted frame_no_memory cut) (frame_outcome k c f) (outcomes_without (wants_memory k c f) frame_no_memory)
        (subst (λ (b : Bool). In (Outcome.Faulted frame_no_memory cut) (outcomes_without b frame_no_memory)) (sym (wants e)) (in_faults frame_no_memory cut)))
    go (Some w) e = by_fault k c f frame_no_memory cut e

session_may : (k : Core) (c : ℕ) (f : RawFrame) (left : Unread) (fault : SessionFault) → case_fault f ≡ None → Refuses (session_at k c) f fault → (cut : Bool)
    → In (Outcome.Faulted (ConnectionFault.Session fault) cut) (reading_outcomes k c (Reading.Finds f left))
session_may k c f left fault cased h cut = elim h [
  | inl is ↦
      (let rest = option_or (asked_claim k c f) (option_map (λ (why : Objection). frame_no_memory) (asked_objection k c f)) in
      by_fault k c f (ConnectionFault.Session fault) cut
      (ap (λ (x : Option CaseFault). option_or (option_map ConnectionFault.Frame x) (option_or (option_map ConnectionFault.Session (session_fault (session_at k c) f)) rest)) cased
      ∙ ap (λ (x : Option SessionFault). option_or (option_map ConnectionFault.Session x) rest) is))
  | inr e ↦ subst (λ (x : SessionFault). In (Outcome.Faulted (ConnectionFault.Session x) cut) (reading_outcomes k c (Reading.Finds f left))) (sym e.1)
      (may_lack k c f cased e.0 (none_claimed k c f (takes_other f.command (session_at k c) f e.2)) (λ none. ap (λ (b : Bool). b || list_any (λ o. is_any (next_replies (Some f) o)) (frame_outcome k c f)) e.2) cut)
]

refused_may : (k : Core) (c : ℕ) (f : RawFrame) (left : Unread) (fault : ConnectionFault) → IsRefusedAs (session_at k c) f fault → (cut : Bool)
    → In (Outcome.Faulted fault cut) (reading_outcomes k c (Reading.Finds f left))
refused_may k c f left (ConnectionFault.Frame fault) h cut =
    by_fault k c f (ConnectionFault.Frame fault) cut
    (ap (λ (x : Option CaseFault). option_or (option_map ConnectionFault.Frame x)
    (option_or (option_map ConnectionFault.Session (session_fault (session_at k c) f))
    (option_or (asked_claim k c f) (option_map (λ (why : Objection). frame_no_memory) (asked_objection k c f))))) h)
refused_may k c f left (ConnectionFault.Session fault) h cut = session_may k c f left fault h.0 h.1 cut
refused_may k c f left _ h cut = absurd h

-- it is a fault that the connection may have, and no name was added
faulted_by : (k : Core) (c : ℕ) (after : OpenEndpoint) (fault : ConnectionFault) (frame : Option RawFrame) (reading : Reading) (later : List (List ℕ)) → IsReached k
    → first_refusal (needs_idle k.world c) ≡ None → IsReadBy (unread_at c k.steps) reading
    → JudgesReading (accepted_of c k.steps) (names_at k) (idle_endpoint k c) reading (Err (fault, frame)) after later
    → Ends k c reading fault (receipt_asked frame) (says_version frame fault) × (later ≡ names_at k)
faulted_by k c after fault frame Reading.Nothing later reached idle read is = (
  record {
    reached = reached;
    idle = idle;
    read = read;
    may = λ cut. subst (λ (b : Bool). In (Outcome.Faulted fault cut) (outcomes_without b ConnectionFault.ReaderNoMemory)) (sym is.2)
        (subst (λ (x : ConnectionFault). In (Outcome.Faulted x cut) (fault_outcomes ConnectionFault.ReaderNoMemory)) (sym is.1) (in_faults ConnectionFault.ReaderNoMemory cut));
    asked = ap receipt_asked is.0;
    said = ap (λ (o : Option RawFrame). says_version o fault) is.0;
  },
  is.3,
)
faulted_by k c after fault frame (Reading.Waits left) later reached idle read is = absurd is
faulted_by k c after fault frame (Reading.Finds f left) later reached idle read is = (
  record {
    reached = reached;
    idle = idle;
    read = read;
    may = refused_may k c f left fault is.1;
    asked = ap receipt_asked is.0;
    said = ap (λ (o : Option RawFrame). says_version o fault) is.0;
  },
  is.2,
)
faulted_by k c after fault frame (Reading.Fails check left) later reached idle read is = (
  record {
    reached = reached;
    idle = idle;
    read = read;
    may = λ cut. subst (λ (x : ConnectionFault). In (Outcome.Faulted x cut) (fault_outcomes (ConnectionFault.Stream check))) (sym is.1) (in_faults (ConnectionFault.Stream check) cut);
    asked = ap receipt_asked is.0;
    said = ap (λ (o : Option RawFrame). says_version o fault) is.0;
  },
  is.2,
)

-- an endpoint that ends by its fault
pub next_faults : (k : Core) (c : ℕ) (fault : ConnectionFault) (frame : Option RawFrame) (held : View) → IsReached k
    → first_refusal (needs_idle k.world c) ≡ None → IsJudged k c (Err (fault, frame)) held → HasFault k c fault frame held
next_faults k c fault frame held reached idle h =
    let by = faulted_by k c h.after fault frame h.judgement.reading held.names reached idle h.judgement.read h.judgement.judged in
    record {
      reading = h.judgement.reading;
      stage = Stage.Open h.after;
      ends = by.0;
      view = unnamed k c held (staged_endpoint (Stage.Open h.after) (endpoint_of (names_at k) k c)) by.1 h.view
          ∙ ap (λ (l : EndpointView). with_endpoint (view_of k) c (staged_endpoint (Stage.Open h.after) l)) (sym (endpoint_there (names_at k) k c no_endpoint (idle_there k.world c idle)));
    }

-- it ends by an ERROR
pub next_fails : (k : Core) (c : ℕ) (fault : ConnectionFault) (frame : Option RawFrame) (receipt : Option (List ℕ)) (version : Bool) (held new : View) (o : Outcome) (d : EndpointView)
    → HasFault k c fault frame held → receipt ≡ receipt_asked frame → version ≡ says_version frame fault → o ≡ Outcome.Faulted fault (is_cut o)
    → new ≡ with_endpoint held c (failed_endpoint (is_cut o) (error_text fault receipt version) (get_or held.endpoints c d)) → Makes k (Event.Next c) o new
next_fails k c fault frame receipt version held new o d h same says is view =
    subst (λ (p : Outcome). Makes k (Event.Next c) p new) (sym is)
    (next_ends k c h.reading fault (receipt_asked frame) (says_version frame fault) (is_cut o) h.stage held new d h.ends
    (h.view ∙ ap (λ (l : EndpointView). with_endpoint (view_of k) c (staged_endpoint h.stage l)) (endpoint_there (names_at k) k c no_endpoint (idle_there k.world c h.ends.idle)))
    (view ∙ (λ i. with_endpoint held c (failed_endpoint (is_cut o) (error_text fault (same i) (says i)) (get_or held.endpoints c d)))))

-- ---- a frame that is accepted

-- which frame it is
pub record IsTakenUp (k : Core) (c : ℕ) (step : Step) (held : View) : Type 0 where
  pub frame : RawFrame
  pub left : Unread
  pub asks : AsksNamed k c frame left step.action step.receipt held

takes_by : (k : Core) (c : ℕ) (held : View) (after : OpenEndpoint) (step : Step) (reading : Reading) → IsReached k → first_refusal (needs_idle k.world c) ≡ None
    → held ≡ with_endpoint (record (view_of k) { names = held.names }) c (staged_endpoint (Stage.Open after) (endpoint_of (names_at k) k c))
    → IsReadBy (unread_at c k.steps) reading → JudgesReading (accepted_of c k.steps) (names_at k) (idle_endpoint k c) reading (Ok (Some step)) after held.names
    → IsTakenUp k c step held
takes_by k c held after step (Reading.Finds f left) reached idle view read is =
    let later = with_destination f (names_at k) in
    let session : after ≡ record { reader = left; session = state_of (held_after later (accepted_of c k.steps ++ f ∷ [])); receipt = None } =
    is.1 ∙ ap (λ (ns : List (List ℕ)). record { reader = left; session = state_of (held_after ns (accepted_of c k.steps ++ f ∷ [])); receipt = None }) is.2 in
    record {
      frame = f;
      left = left;
      asks = record {
        reached = reached;
        idle = idle;
        read = read;
        cased = is.0.cased;
        free = is.0.accepts.accepted;
        does = sym is.0.accepts.action;
        wants = sym is.0.accepts.receipt;
        view = view
            ∙ ((λ i. with_endpoint (record (view_of k) { names = is.2 i }) c (staged_endpoint (Stage.Open (session i)) (endpoint_of (names_at k) k c)))
            ∙ ap (λ (l : EndpointView). with_endpoint (record (view_of k) { names = later }) c (staged_endpoint (accepted_stage k c f left) l))
            (sym (endpoint_there (names_at k) k c no_endpoint (idle_there k.world c idle))));
      };
    }
takes_by k c held after step Reading.Nothing reached idle view read is = absurd is
takes_by k c held after step (Reading.Waits left) reached idle view read is = absurd is
takes_by k c held after step (Reading.Fails check left) reached idle view read is = absurd is

-- the frame that a Next read is accepted
pub next_takes : (k : Core) (c : ℕ) (step : Step) (held : View) → IsReached k → first_refusal (needs_idle k.world c) ≡ None
    → IsJudged k c (Ok (Some step)) held → IsTakenUp k c step held
next_takes k c step held reached idle h = takes_by k c held h.after step h.judgement.reading reached idle h.view h.judgement.read h.judgement.judged
