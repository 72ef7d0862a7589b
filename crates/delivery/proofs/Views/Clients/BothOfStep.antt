-- What a step makes of a core, and of the senders beside it.
use Rattle.delivery.proofs.Words.All.{◌≡◌, ℕ, ◌<◌, nat_lt, Bool, true, false, cond, not, ◌&&◌, ◌||◌, arith, List, [], ◌∷◌, ◌++◌, length, get_or, Option, Some, None, refl, sym, ap, subst, ◌∙◌, codes, slice_get, list_all, is_some, option_and_then, option_map, option_map_or, option_or, option_to_list, unwrap_or, false≢true, or_parts, slice_get-get_or, GateState, SendersState, after_give_back, Stamp, is_connect, RawFrame, Unread, Action, action_by, client_of, field, has_destination, is_known, one_answer, none_some, Objection, World, Undecided, is_gone, connection_at, entry_at, sender_at, speaker, speaker_number, speaks_for, Move, leave_effect, move_effect, move_refusal, oldest_live, world_after, run, Event, Outcome, claim_of, claims_of, claim_fault, is_cut, Core, IsReadBy, frame_move, is_faulted, is_no_memory, moves, names_at, session_at, topic_moves, unread_at, Reading, frame_in, has_effect, AreClaimed, AreClients, MakesBoth, given_back, idle_gate, Asks, claims_none, IsReached, Makes, EndpointView, SenderView, View, held_sender, sender_view, sending_view, view_of, no_endpoint, end_with, leave_objection, oldest_end, no_sender, left_at}
use Rattle.stomp_session.specs.declared.action.Action.TheVariants as actions
use Rattle.delivery.proofs.Words.Changes.{claims_asked, length-each_number, speaks_of, spoken_used, endpoint_of, held_of}
use Rattle.delivery.proofs.Views.Clients.Claiming.{same_clients}
use Rattle.delivery.proofs.Views.Clients.RestingStay.{Rests, closed_rests, is_still, run_rests}
use Rattle.delivery.proofs.Views.Clients.GivenBack.{departed, gate_by, given, none_given}
use Rattle.delivery.proofs.Views.Events.LeaveStep.{can_leave, endpoint_oldest, leave_checked, none_to_close}
use Rattle.delivery.proofs.Words.Steps.{by_refusal, checked, none_of}
use Rattle.delivery.proofs.Theorem.SendersAreOwn.{speaks}
use Rattle.delivery.proofs.Views.Events.NextStep.{ReadsUnless}
use Rattle.delivery.proofs.Core.Counts.{no_effect}

-- ---- a step that claims nothing

-- the moves are none of a claim, and none of a leaving
still_both : (k : Core) (e : Event) (o : Outcome) (new : View) (clients : SendersState) → (makes : Makes k e o new)
    → claim_of e (cond (has_effect o) (frame_in makes.reading) None) ≡ [] → list_all is_still (moves k e makes.reading o) ≡ true
    → AreClients k clients → MakesBoth k e o new clients
still_both k e o new clients makes none still h = record {
  reading = makes.reading;
  may = makes.may;
  view = makes.view;
  claimed = subst (λ cs. AreClaimed (run (moves k e makes.reading o) k.world) (cs ++ claims_of k.steps) clients) (sym none)
      (same_clients k.world (run (moves k e makes.reading o) k.world) (claims_of k.steps) clients (λ s l. run_rests (moves k e makes.reading o) k.world still s) h);
}

-- the event is no Next and no Leave
abbrev pub is_plain_event : Event → Bool
is_plain_event (Event.Next c) = false
is_plain_event (Event.Leave c) = false
is_plain_event e = true

if_still : (b : Bool) (xs ys : List Move) → list_all is_still xs ≡ true → list_all is_still ys ≡ true → list_all is_still (cond b xs ys) ≡ true
if_still true xs ys p q = p
if_still false xs ys p q = q

plain_still : (k : Core) (e : Event) (rd : Reading) (o : Outcome) → is_plain_event e ≡ true → list_all is_still (moves k e rd o) ≡ true
plain_still k (Event.Next c) rd o e = absurd (false≢true e)
plain_still k (Event.Leave c) rd o e = absurd (false≢true e)
plain_still k Event.Open rd o e = if_still (is_no_memory o) [] (Move.Opens ∷ []) refl refl
plain_still k (Event.Decide c) rd o e = if_still (is_cut o) (Move.Lost c ∷ []) [] refl refl
plain_still k (Event.Take s) rd o e = if_still (is_no_memory o) [] (Move.Takes s ∷ []) refl refl
plain_still k event rd o e = refl

plain_claims : (e : Event) (f : Option RawFrame) → is_plain_event e ≡ true → claim_of e f ≡ []
plain_claims (Event.Next c) f e = absurd (false≢true e)
plain_claims event f e = refl

-- such an event leaves the senders
pub plain_both : (k : Core) (e : Event) (o : Outcome) (new : View) (clients : SendersState) → is_plain_event e ≡ true → Makes k e o new → AreClients k clients → MakesBoth k e o new clients
plain_both k e o new clients plain makes h =
    still_both k e o new clients makes (plain_claims e (cond (has_effect o) (frame_in makes.reading) None) plain) (plain_still k e makes.reading o plain) h

-- ---- a Next

-- one without an effect claims nothing
pub silent_both : (k : Core) (c : ℕ) (o : Outcome) (new : View) (clients : SendersState) → has_effect o ≡ false → Makes k (Event.Next c) o new → AreClients k clients
    → MakesBoth k (Event.Next c) o new clients
silent_both k c o new clients silent makes h =
    still_both k (Event.Next c) o new clients makes
    (ap (λ (b : Bool). claim_of (Event.Next c) (cond b (frame_in makes.reading) None)) silent)
    (if_still (is_faulted o) (Move.Errs c ∷ []) (cond (has_effect o) accepted []) refl (ap (λ (b : Bool). list_all is_still (cond b accepted [])) silent)) h
  where
    accepted : List Move
    accepted = option_map_or (λ f. topic_moves (names_at k) f ++ option_to_list (frame_move k c (action_by f.command (session_at k c) f))) (frame_in makes.reading) []

-- nor does an ERROR
pub faulted_both : (k : Core) (c : ℕ) (o : Outcome) (new : View) (clients : SendersState) → is_faulted o ≡ true → Makes k (Event.Next c) o new → AreClients k clients
    → MakesBoth k (Event.Next c) o new clients
faulted_both k c o new clients faulted = silent_both k c o new clients (no_effect o faulted)

action_still : (k : Core) (c : ℕ) (action : Action) → claims_none action ≡ true → list_all is_still (option_to_list (frame_move k c action)) ≡ true
action_still k c (actions.Connected client) e = absurd (false≢true e)
action_still k c action e = refl

topic_still : (b : Bool) (ms : List Move) → list_all is_still ms ≡ true → list_all is_still (cond b (Move.AddsTopic 0 ∷ []) [] ++ ms) ≡ true
topic_still true ms e = e
topic_still false ms e = e

-- nothing stands against a claim where there is none
pub unclaimed_by : (k : Core) (action : Action) → claims_none action ≡ true → claim_fault k action ≡ None
unclaimed_by k (actions.Connected client) e = absurd (false≢true e)
unclaimed_by k action e = refl

-- nor does an accepted frame that is no CONNECT
pub accepted_both : (k : Core) (c : ℕ) (f : RawFrame) (left : Unread) (action : Action) (receipt : Option (List ℕ)) (held new : View) (o : Outcome) (clients : SendersState)
    → Asks k c f left action receipt held → claims_none action ≡ true → Makes k (Event.Next c) o new → AreClients k clients → MakesBoth k (Event.Next c) o new clients
accepted_both k c f left action receipt held new o clients asks other makes h =
    still_both k (Event.Next c) o new clients makes (claims makes.reading read) (still makes.reading read) h
  where
    read : IsReadBy (unread_at c k.steps) makes.reading
    read = subst (ReadsUnless (unread_at c k.steps) makes.reading) asks.idle makes.may.reading

    same : (g : RawFrame) (rest : Unread) → IsReadBy (unread_at c k.steps) (Reading.Finds g rest) → f ≡ g
    same g rest r = let one = one_answer (unread_at c k.steps) (Rattle.std.specs.Prelude.Ok (Some f)) left (Rattle.std.specs.Prelude.Ok (Some g)) rest asks.read r in
        let e = one.0 in cc

    quiet : (g : RawFrame) → f ≡ g → is_connect g.command ≡ false
    quiet g is = subst (λ (x : RawFrame). is_connect x.command ≡ false) is ((elim (is_connect f.command) as (λ (b : Bool). is_connect f.command ≡ b → is_connect f.command ≡ false) [
      | true ↦ λ connects. absurd (false≢true (sym (ap claims_none (sym asks.does ∙ claims_asked f.command (session_at k c) f connects)) ∙ other))
      | false ↦ λ e. e
    ]) refl)

    none : (b : Bool) (g : RawFrame) → is_connect g.command ≡ false → claim_of (Event.Next c) (cond b (Some g) None) ≡ []
    none true g e = ap (λ (b : Bool). cond b (record { connection = c; client = client_of g } ∷ []) []) e
    none false g e = refl

    empty : (b : Bool) → claim_of (Event.Next c) (cond b None None) ≡ []
    empty true = refl
    empty false = refl

    claims : (rd : Reading) → IsReadBy (unread_at c k.steps) rd → claim_of (Event.Next c) (cond (has_effect o) (frame_in rd) None) ≡ []
    claims (Reading.Finds g rest) r = none (has_effect o) g (quiet g (same g rest r))
    claims Reading.Nothing r = empty (has_effect o)
    claims (Reading.Waits rest) r = empty (has_effect o)
    claims (Reading.Fails check rest) r = empty (has_effect o)

    still : (rd : Reading) → IsReadBy (unread_at c k.steps) rd → list_all is_still (moves k (Event.Next c) rd o) ≡ true
    still (Reading.Finds g rest) r =
        if_still (is_faulted o) (Move.Errs c ∷ []) _ refl
        (if_still (has_effect o) _ []
        (topic_still (has_destination g.command && not (is_known (field (codes "destination") g) (names_at k))) (option_to_list (frame_move k c (action_by g.command (session_at k c) g)))
        (ap (λ (a : Action). list_all is_still (option_to_list (frame_move k c a))) (ap (λ (x : RawFrame). action_by x.command (session_at k c) x) (sym (same g rest r)) ∙ asks.does)
        ∙ action_still k c action other)) refl)
    still Reading.Nothing r = if_still (is_faulted o) (Move.Errs c ∷ []) _ refl (if_still (has_effect o) [] [] refl refl)
    still (Reading.Waits rest) r = if_still (is_faulted o) (Move.Errs c ∷ []) _ refl (if_still (has_effect o) [] [] refl refl)
    still (Reading.Fails check rest) r = if_still (is_faulted o) (Move.Errs c ∷ []) _ refl (if_still (has_effect o) [] [] refl refl)

-- ---- a Leave

-- a step of a leaving that isn't its last changes no sender
leave_rests : (w : World) (c : ℕ) → (oldest_live c 0 w.subscriptions ≡ None → move_refusal w (Move.Leaves c) ≡ None → Prim.⊥) → Rests w (world_after w (Move.Leaves c))
leave_rests w c last = by_refusal (λ v o. Rests w v) w (Move.Leaves c) (λ why s. refl) (λ free. (elim (oldest_live c 0 w.subscriptions) as (λ (o : Option ℕ). oldest_live c 0 w.subscriptions ≡ o → move_refusal w (Move.Leaves c) ≡ None → Rests w (leave_effect w c o)) [
  | None ↦ λ e free. absurd (last e free)
  | Some s ↦ λ e free. closed_rests w s (entry_at w s)
]) refl free)

-- so the senders stay
leave_stays : (k : Core) (c : ℕ) (o : Outcome) (new : View) (clients : SendersState) → (oldest_live c 0 k.world.subscriptions ≡ None → move_refusal k.world (Move.Leaves c) ≡ None → Prim.⊥)
    → Makes k (Event.Leave c) o new → AreClients k clients → MakesBoth k (Event.Leave c) o new clients
leave_stays k c o new clients last makes h = record {
  reading = makes.reading;
  may = makes.may;
  view = makes.view;
  claimed = same_clients k.world (world_after k.world (Move.Leaves c)) (claims_of k.steps) clients (λ s l. leave_rests k.world c last s) h;
}

-- where it is refused
pub leave_refused_both : (k : Core) (c : ℕ) (why : Objection) (o : Outcome) (new : View) (clients : SendersState)
    → leave_objection (view_of k).senders (slice_get (view_of k).endpoints c) ≡ Some why
    → Makes k (Event.Leave c) o new → AreClients k clients → MakesBoth k (Event.Leave c) o new clients
leave_refused_both k c why o new clients stands =
    leave_stays k c o new clients
    (λ none free. none_some why (sym free ∙ ap (λ (x : Option Objection). option_or x None) (sym (leave_checked k c) ∙ stands)))

-- where a subscription is closed
pub leave_closes_both : (k : Core) (c s : ℕ) (to : Stamp) (o : Outcome) (new : View) (clients : SendersState) → IsReached k
    → leave_objection (view_of k).senders (slice_get (view_of k).endpoints c) ≡ None → oldest_end (view_of k) c ≡ Some (s, to)
    → Makes k (Event.Leave c) o new → AreClients k clients → MakesBoth k (Event.Leave c) o new clients
leave_closes_both k c s to o new clients reached free found =
    leave_stays k c o new clients
    (λ none unrefused. none_some (s, to) (sym (ap (λ (z : Option ℕ). option_and_then (λ n. option_map (end_with n) (left_at n (view_of k))) z)
    (endpoint_oldest k c (can_leave k c free).there ∙ none)) ∙ found))

-- where it is gone, its gate is given back
pub leave_gone_both : (k : Core) (c : ℕ) (o : Outcome) (new : View) (clients : SendersState) → IsReached k
    → leave_objection (view_of k).senders (slice_get (view_of k).endpoints c) ≡ None → oldest_end (view_of k) c ≡ None
    → Makes k (Event.Leave c) o new → AreClients k clients → MakesBoth k (Event.Leave c) o new (given_back (view_of k) c clients)
leave_gone_both k c o new clients reached free none makes h = record {
  reading = makes.reading;
  may = makes.may;
  view = makes.view;
  claimed = subst (λ (v : World). AreClaimed v (claims_of k.steps) (given_back (view_of k) c clients)) (sym world)
      (by (connection_at k.world c).sender refl);
}
  where
    w : World
    w = k.world

    there : c < length k.world.connections
    there = (can_leave k c free).there

    oldest : oldest_live c 0 k.world.subscriptions ≡ None
    oldest = none_to_close k c reached (can_leave k c free).there none

    world : world_after k.world (Move.Leaves c) ≡ departed k.world c
    world =
        ap (λ (x : Option Objection). elim x [ None ↦ move_effect k.world (Move.Leaves c) | Some why ↦ k.world ]) (can_leave k c free).free
        ∙ ap (leave_effect k.world c) oldest

    idle : (speaker k.world c).flight ≡ None
    idle =
        none_of (speaker k.world c).flight
        (or_parts (is_some (speaker k.world c).flight) (nat_lt 0 (length (speaker k.world c).leftovers))
        (sym (ap (λ (x : Option ℕ). not (is_some x) && (is_some (speaker k.world c).flight || nat_lt 0 (length (speaker k.world c).leftovers))) oldest)
        ∙ (checked k.world (Move.Leaves c) (can_leave k c free).free).1.1.1.0)).0

    endpoint : (get_or (view_of k).endpoints c no_endpoint).sender ≡ (connection_at k.world c).sender
    endpoint = ap (λ (l : EndpointView). l.sender) (endpoint_of k c no_endpoint (can_leave k c free).there)

    by : (s : Option ℕ) → (connection_at k.world c).sender ≡ s → AreClaimed (departed k.world c) (claims_of k.steps) (given_back (view_of k) c clients)
    by None e =
        subst (λ (g : Option GateState). AreClaimed (departed k.world c) (claims_of k.steps) (option_map_or (λ gate. after_give_back gate clients) g clients))
        (sym (ap (λ (x : Option ℕ). option_and_then (λ s. option_and_then idle_gate (slice_get (view_of k).senders s)) x) (endpoint ∙ e)))
        (none_given k.world c (claims_of k.steps) clients e h)
    by (Some s) e =
        let spoken : speaker_number k.world c ≡ s = ap (λ (x : Option ℕ). unwrap_or x (length k.world.senders)) e in
        let speaking : speaks_for s (connection_at k.world c) ≡ true =
        speaks s (connection_at k.world c) (ap is_gone (can_leave k c free).leaving) e in
        let l = (speaks_of k reached).there c s e in let many : s < length (view_of k).senders = omega (arith, l, length-each_number (held_sender k.world) 0 k.world.senders) in
        let found : slice_get (view_of k).senders s ≡ Some (sender_view s (sender_at k.world s)) =
        slice_get-get_or (view_of k).senders s (no_sender s) many ∙ ap (λ (x : SenderView). Some x) (held_of k s l (spoken_used k.world c s speaking)) in
        let gate : idle_gate (sender_view s (sender_at k.world s)) ≡ Some (gate_by k.world s) =
        ap (λ (x : Option Undecided). idle_gate (record { sending = sending_view s (sender_at k.world s).seq (sender_at k.world s).floor x; leftovers = (sender_view s (sender_at k.world s)).leftovers }))
        (ap (λ (n : ℕ). (sender_at k.world n).flight) (sym spoken) ∙ idle) in
        subst (λ (g : Option GateState). AreClaimed (departed k.world c) (claims_of k.steps) (option_map_or (λ x. after_give_back x clients) g clients))
        (sym (ap (λ (x : Option ℕ). option_and_then (λ n. option_and_then idle_gate (slice_get (view_of k).senders n)) x) (endpoint ∙ e)
        ∙ (ap (λ (x : Option SenderView). option_and_then idle_gate x) found ∙ gate)))
        (given k.world c s (claims_of k.steps) clients (speaks_of k reached) (can_leave k c free).there speaking h)
