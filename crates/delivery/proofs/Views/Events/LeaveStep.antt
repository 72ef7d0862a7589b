-- The steps of a connection's leaving.
use Rattle.std.proofs.Common.{filter}
use Rattle.delivery.proofs.Words.All.{◌≡◌, ◌≢◌, ℕ, ◌+◌, ◌<◌, ◌≤◌, ◌==◌, nat_lt, Bool, true, false, cond, not, ◌&&◌, ◌||◌, ◌⊎◌, inl, inr, List, [], ◌∷◌, ◌++◌, length, get_or, set, Option, Some, None, refl, sym, ap, subst, ◌∙◌, arith, eq-eqb, slice_get, flat_map, is_some, option_map, option_map_or, option_and_then, option_or, option_to_list, unwrap_or, lt-ltb, ltb-true, ltb-false, false≢true, cases_Bool, cases_lt, slice_get-get_or, slice_get_past, append-nil, length-map, get_or-set_same, get_or-set_other, In, first_refusal, Stamp, RawFrame, Unread, receipt_frame, spelling_of, is_disconnect, some_same, none_some, Objection, refusal_of, World, Undecided, SenderState, Connection, Subscription, Standing, nobody, new_sender, connection_at, sender_at, speaker, is_reading, is_gone, speaker_number, Move, Answer, move_refusal, move_refusals, oldest_live, is_live, leave_effect, leave_answer, close_effect, end_now, run, Event, Outcome, Refusal, Stage, Reading, accepted_of, account_of, text_out, subscribe_frame, receipts_of, replies_to, Core, unread_at, names_at, outcome_of, move_outcome, reply_outcomes, is_any, each_number, live_numbers, IsReached, Makes, step_of, View, EndpointView, SenderView, LeftView, view_of, view_with, sender_view, sending_view, undecided_view, stage_view, endpoint_view, parting_receipt, no_endpoint, is_undecided, number_among, held_sender, no_sub, left_at, closed_if_left, closed_view, rested_view, end_with, leaving_objection, waits, leave_objection, oldest_end, oldest_closed, has_parting, gone_view}
use Rattle.delivery.specs.Inner.Leaving.{is_busy, oldest_in, parting_text, gone_endpoint}
use Rattle.delivery.proofs.Words.Steps.{made_world, made_answer, refused_answer, set_length, beyond, is_oldest}
use Rattle.delivery.proofs.Views.Lists.ByNumber.{each_number-set, get_or-each_number, length-each_number}
use Rattle.delivery.proofs.Views.Endpoints.EndpointsStay.{leave_is_quiet}
use Rattle.delivery.proofs.Views.Events.OneMove.{refused_makes, endpoint_is, endpoint_at, no_endpoint as no_endpoint_there, same_endpoint, endpoint_read, with_connection, quiet_makes, step_makes}
use Rattle.delivery.proofs.Views.Endpoints.DisconnectIsLast.{parting_is}
use Rattle.delivery.proofs.Views.Endpoints.StandingOfConnection.{differ}
use Rattle.delivery.proofs.Views.Clients.GivenBack.{gone_rests}
use Rattle.delivery.proofs.Views.Subscriptions.ClosedIsDropped.{closed_is, closed_end}
use Rattle.delivery.proofs.Views.Senders.HeldSenders.{held_undecided, held_leftovers}

-- ---- what stands against it

-- a sender is busy as its view says
busy_view : (s : ℕ) (x : SenderState) → is_busy (sender_view s x) ≡ (is_some x.flight || nat_lt 0 (length x.leftovers))
busy_view s x =
    ap (λ (b : Bool). b || nat_lt 0 (length (sender_view s x).leftovers)) (elim x.flight as (λ (flight : Option Undecided). is_undecided (sending_view s x.seq x.floor flight) ≡ is_some flight) [
      | None ↦ refl
      | Some f ↦ elim f.mark as (λ mark. is_undecided (undecided_view x.floor f mark) ≡ true) [ None ↦ refl | Some fault ↦ refl ]
    ])
    ∙ ap (λ (n : ℕ). is_some x.flight || nat_lt 0 n) (length-map x.leftovers _)

-- of a sender that isn't there neither is
sender_busy : (w : World) (s : ℕ) → option_map_or is_busy (slice_get (each_number (held_sender w) 0 w.senders) s) false
    ≡ (is_some (sender_at w s).flight || nat_lt 0 (length (sender_at w s).leftovers))
sender_busy w s = elim (cases_lt s (length w.senders)) [ inl l ↦ here l | inr l ↦ none l ]
  where
    f : ℕ → SenderView
    f = held_sender w

    busy : is_busy (held_sender w s) ≡ is_busy (sender_view s (sender_at w s))
    busy = λ i. held_undecided w s i || nat_lt 0 (length (held_leftovers w s i))

    here : s < length w.senders → option_map_or is_busy (slice_get (each_number f 0 w.senders) s) false ≡ (is_some (sender_at w s).flight || nat_lt 0 (length (sender_at w s).leftovers))
    here l =
        let many : s < length (each_number f 0 w.senders) = omega (arith, l, length-each_number f 0 w.senders) in let e : 0 + s ≡ s = omega arith in
        ap (λ (o : Option SenderView). option_map_or is_busy o false) (slice_get-get_or (each_number f 0 w.senders) s (f s) many)
        ∙ (ap is_busy (get_or-each_number f 0 w.senders s (f s) l ∙ ap f e)
        ∙ (busy ∙ busy_view s (sender_at w s)))

    none : length w.senders ≤ s → option_map_or is_busy (slice_get (each_number f 0 w.senders) s) false ≡ (is_some (sender_at w s).flight || nat_lt 0 (length (sender_at w s).leftovers))
    none l =
        let many : length (each_number f 0 w.senders) ≤ s = omega (arith, l, length-each_number f 0 w.senders) in
        ap (λ (o : Option SenderView). option_map_or is_busy o false) (slice_get_past (each_number f 0 w.senders) s many)
        ∙ sym (ap (λ (x : SenderState). is_some x.flight || nat_lt 0 (length x.leftovers)) (beyond w.senders s new_sender l))

-- the oldest live subscription is the first of the endpoint
pub oldest_is : (c i : ℕ) (xs : List Subscription) → slice_get (live_numbers c i xs) 0 ≡ oldest_live c i xs
oldest_is c i [] = refl
oldest_is c i (x ∷ xs) = (elim (is_live c x) as (λ (b : Bool). slice_get (live_numbers c (i + 1) xs) 0 ≡ oldest_live c (i + 1) xs → slice_get (cond b (i ∷ live_numbers c (i + 1) xs) (live_numbers c (i + 1) xs)) 0 ≡ cond b (Some i) (oldest_live c (i + 1) xs)) [
  | true ↦ λ rest. refl
  | false ↦ λ rest. rest
]) (oldest_is c (i + 1) xs)

some_first : (ns : List ℕ) → nat_lt 0 (length ns) ≡ is_some (slice_get ns 0)
some_first [] = refl
some_first (n ∷ ns) = lt-ltb 0 (length (n ∷ ns)) (omega arith)

stage_leaving : (names : List (List ℕ)) (standing : Standing) (flight : Option Undecided) (accepted : List RawFrame) (unread : Unread) (busy : Bool)
    → leaving_objection (stage_view names standing flight accepted unread) busy
    ≡ first_refusal ((is_gone standing, Objection.Gone) ∷ (is_reading standing, Objection.NotLeaving) ∷ (busy, Objection.Busy) ∷ [])
stage_leaving names Standing.Open flight accepted unread busy = refl
stage_leaving names Standing.Leaving flight accepted unread busy = refl
stage_leaving names Standing.Gone flight accepted unread busy = refl

-- what stands against the endpoint stands against the move
pub leave_checked : (k : Core) (c : ℕ) → leave_objection (view_of k).senders (slice_get (view_of k).endpoints c) ≡ first_refusal (move_refusals k.world (Move.Leaves c))
leave_checked k c =
    let w = k.world in let x = connection_at w c in let endpoint = endpoint_view (names_at k) w c (accepted_of c k.steps) (unread_at c k.steps) (text_out k.names c k.steps) in
    let wait = not (is_some (oldest_live c 0 w.subscriptions)) && (is_some (speaker w c).flight || nat_lt 0 (length (speaker w c).leftovers)) in
    let checks = λ (b : Bool). first_refusal ((not b, Objection.NoConn) ∷ (is_gone x.standing, Objection.Gone) ∷ (is_reading x.standing, Objection.NotLeaving) ∷ (wait, Objection.Busy) ∷ []) in
    let busy : option_map_or is_busy (slice_get (view_of k).senders (number_among (view_of k).senders endpoint)) false ≡ (is_some (speaker w c).flight || nat_lt 0 (length (speaker w c).leftovers)) =
    ap (λ (n : ℕ). option_map_or is_busy (slice_get (view_of k).senders (unwrap_or x.sender n)) false) (length-each_number (held_sender w) 0 w.senders)
    ∙ sender_busy w (speaker_number w c) in
    let waiting : waits (view_of k).senders endpoint ≡ wait =
    λ i. not ((some_first (live_numbers c 0 w.subscriptions) ∙ ap (λ (o : Option ℕ). is_some o) (oldest_is c 0 w.subscriptions)) i) && busy i in
    elim (cases_Bool (nat_lt c (length w.connections))) [
      | inl t ↦
          ap (leave_objection (view_of k).senders) (endpoint_is k c (ltb-true c (length w.connections) t))
          ∙ (ap (leaving_objection endpoint.stage) waiting
          ∙ (stage_leaving (names_at k) x.standing (speaker w c).flight (accepted_of c k.steps) (unread_at c k.steps) wait
          ∙ ap checks (sym t)))
      | inr f ↦ ap (leave_objection (view_of k).senders) (no_endpoint_there k c (ltb-false c (length w.connections) f)) ∙ ap checks (sym f)
    ]

-- there is no endpoint beyond the last
pub no_leave : (senders : List SenderView) (endpoints : List EndpointView) (c : ℕ) → length endpoints ≤ c → leave_objection senders (slice_get endpoints c) ≡ Some Objection.NoConn
no_leave senders endpoints c none = ap (leave_objection senders) (slice_get_past endpoints c none)

-- the endpoint that was read
pub endpoint_leaves : (senders : List SenderView) (endpoints : List EndpointView) (c : ℕ) (endpoint : EndpointView) → c < length endpoints → endpoint ≡ get_or endpoints c endpoint
    → leave_objection senders (slice_get endpoints c) ≡ leaving_objection endpoint.stage (waits senders endpoint)
endpoint_leaves senders endpoints c endpoint there is = ap (leave_objection senders) (endpoint_read endpoints c endpoint there is)

-- where nothing stands against it, the connection is there and it is leaving
pub record CanLeave (k : Core) (c : ℕ) : Type 0 where
  pub there : c < length k.world.connections
  pub leaving : (connection_at k.world c).standing ≡ Standing.Leaving
  pub free : move_refusal k.world (Move.Leaves c) ≡ None

stage_free : (standing : Standing) (busy : Bool) → first_refusal ((is_gone standing, Objection.Gone) ∷ (is_reading standing, Objection.NotLeaving) ∷ (busy, Objection.Busy) ∷ []) ≡ None
    → standing ≡ Standing.Leaving
stage_free Standing.Open busy e = absurd (cc)
stage_free Standing.Leaving busy e = refl
stage_free Standing.Gone busy e = absurd (cc)

pub can_leave : (k : Core) (c : ℕ) → leave_objection (view_of k).senders (slice_get (view_of k).endpoints c) ≡ None → CanLeave k c
can_leave k c is = go (cases_Bool (nat_lt c (length k.world.connections)))
  where
    clear : first_refusal (move_refusals k.world (Move.Leaves c)) ≡ None
    clear = sym (leave_checked k c) ∙ is

    rest : List (Bool × Objection)
    rest = (is_gone (connection_at k.world c).standing, Objection.Gone) ∷ (is_reading (connection_at k.world c).standing, Objection.NotLeaving)
        ∷ (not (is_some (oldest_live c 0 k.world.subscriptions)) && (is_some (speaker k.world c).flight || nat_lt 0 (length (speaker k.world c).leftovers)), Objection.Busy) ∷ []

    go : (nat_lt c (length k.world.connections) ≡ true) ⊎ (nat_lt c (length k.world.connections) ≡ false) → CanLeave k c
    go (inl t) = record {
      there = ltb-true c (length k.world.connections) t;
      leaving = stage_free (connection_at k.world c).standing _ (sym (ap (λ (b : Bool). first_refusal ((not b, Objection.NoConn) ∷ rest)) t) ∙ clear);
      free = ap (λ (o : Option Objection). option_or o None) clear;
    }
    go (inr f) = absurd (no_conn (sym (ap (λ (b : Bool). first_refusal ((not b, Objection.NoConn) ∷ rest)) f) ∙ clear))
      where
        no_conn : Some Objection.NoConn ≡ None → Prim.⊥
        no_conn e = cc

-- where nothing stands against it, there is the endpoint
pub leave_endpoint : (v : View) (c : ℕ) → leave_objection v.senders (slice_get v.endpoints c) ≡ None → c < length v.endpoints
leave_endpoint v c is = elim (cases_lt c (length v.endpoints)) [
  | inl l ↦ l
  | inr far ↦ some_none (sym (no_leave v.senders v.endpoints c far) ∙ is)
]
  where
    some_none : Some Objection.NoConn ≡ None → c < length v.endpoints
    some_none e = absurd (cc)

-- a closed subscription leaves as many endpoints
pub oldest_endpoints : (v : View) (c : ℕ) → length (oldest_closed v c).endpoints ≡ length v.endpoints
oldest_endpoints v c = elim (oldest_in v c) as (λ o. length (option_map_or (λ s. closed_view s v) o v).endpoints ≡ length v.endpoints) [ None ↦ refl | Some s ↦ closed s (left_at s v) ]
  where
    closed : (s : ℕ) (left : Option LeftView) → length (closed_if_left s left v).endpoints ≡ length v.endpoints
    closed s None = refl
    closed s (Some left) = set_length v.endpoints (get_or v.subs s no_sub).connection _

-- a refused step changes nothing
pub leave_refused : (k : Core) (c : ℕ) (why : Objection) (refusal : Refusal) → leave_objection (view_of k).senders (slice_get (view_of k).endpoints c) ≡ Some why
    → refusal_of why ≡ Some refusal → Makes k (Event.Leave c) (Outcome.Refused refusal) (view_of k)
leave_refused k c why refusal is reported =
    let refused : move_refusal k.world (Move.Leaves c) ≡ Some why = ap (λ (o : Option Objection). option_or o None) (sym (leave_checked k c) ∙ is) in
    let alone : move_outcome k (Move.Leaves c) ≡ Outcome.Refused refusal ∷ [] =
    ap (λ (b : Answer). option_to_list (outcome_of b)) (refused_answer k.world (Move.Leaves c) why refused)
    ∙ ap (λ (r : Option Refusal). option_to_list (option_map Outcome.Refused r)) reported in
    refused_makes k (Event.Leave c) refusal (Move.Leaves c) why refl
    (ap (reply_outcomes k c (Event.Leave c)) alone ∙ sym alone) refused reported refl

-- ---- a subscription is closed

-- the number that is first in its endpoint
pub endpoint_oldest : (k : Core) (c : ℕ) → c < length k.world.connections → oldest_in (view_of k) c ≡ oldest_live c 0 k.world.subscriptions
endpoint_oldest k c there =
    let f = λ (n : ℕ). endpoint_view (names_at k) k.world n (accepted_of n k.steps) (unread_at n k.steps) (text_out k.names n k.steps) in
    ap (λ (l : EndpointView). slice_get l.live 0) (endpoint_at k c no_endpoint f there) ∙ oldest_is c 0 k.world.subscriptions

abbrev end_pair : ℕ → Stamp → ℕ × Stamp
end_pair s to = (s, to)

-- where it ends by the view
ends_as : (k : Core) (c s : ℕ) → IsReached k → c < length k.world.connections → oldest_live c 0 k.world.subscriptions ≡ Some s
    → oldest_end (view_of k) c ≡ Some (s, end_now k.world s)
ends_as k c s reached there e =
    let o = is_oldest k.world c s e in
    ap (λ (z : Option ℕ). option_and_then (λ n. option_map (end_with n) (left_at n (view_of k))) z) (endpoint_oldest k c there ∙ e)
    ∙ (elim (left_at s (view_of k)) as (λ (left : Option LeftView). option_map (λ (z : LeftView). z.to) left ≡ Some (end_now k.world s) → option_map (end_with s) left ≡ Some (s, end_now k.world s)) [
      | None ↦ λ h. none_some (end_now k.world s) h
      | Some left ↦ λ h. ap (λ (to : Stamp). Some (s, to)) (some_same left.to (end_now k.world s) h)
    ]) (closed_end k c s reached o.there o.live (λ n. accepted_of n k.steps) (λ n. unread_at n k.steps) (λ n. text_out k.names n k.steps) (λ n. subscribe_frame n k.steps))

-- the oldest subscription is closed
pub leave_closes : (k : Core) (c s : ℕ) (to : Stamp) → IsReached k → leave_objection (view_of k).senders (slice_get (view_of k).endpoints c) ≡ None
    → oldest_end (view_of k) c ≡ Some (s, to) → Makes k (Event.Leave c) (Outcome.Unsubscribed s to) (oldest_closed (view_of k) c)
leave_closes k c s to reached is found = go (oldest_live c 0 k.world.subscriptions) refl
  where
    can : CanLeave k c
    can = can_leave k c is

    go : (o : Option ℕ) → oldest_live c 0 k.world.subscriptions ≡ o → Makes k (Event.Leave c) (Outcome.Unsubscribed s to) (oldest_closed (view_of k) c)
    go None e =
        let none : oldest_end (view_of k) c ≡ None = ap (λ (z : Option ℕ). option_and_then (λ n. option_map (end_with n) (left_at n (view_of k))) z) (endpoint_oldest k c can.there ∙ e) in
        none_some (s, to) (sym none ∙ found)
    go (Some n) e =
        let end : end_pair n (end_now k.world n) ≡ end_pair s to = some_same (end_pair n (end_now k.world n)) (end_pair s to) (sym (ends_as k c n reached can.there e) ∙ found) in
        let same : n ≡ s = ap (λ (p : ℕ × Stamp). p.0) end in let stamp : end_now k.world n ≡ to = ap (λ (p : ℕ × Stamp). p.1) end in
        subst (λ (m : ℕ). Makes k (Event.Leave c) (Outcome.Unsubscribed m to) (oldest_closed (view_of k) c)) same
        (subst (λ (z : Stamp). Makes k (Event.Leave c) (Outcome.Unsubscribed n z) (oldest_closed (view_of k) c)) stamp (closes n e))
      where
        closes : (n : ℕ) → oldest_live c 0 k.world.subscriptions ≡ Some n → Makes k (Event.Leave c) (Outcome.Unsubscribed n (end_now k.world n)) (oldest_closed (view_of k) c)
        closes n e =
            let o = is_oldest k.world c n e in
            let alone : move_outcome k (Move.Leaves c) ≡ Outcome.Unsubscribed n (end_now k.world n) ∷ [] =
            ap (λ (b : Answer). option_to_list (outcome_of b)) (made_answer k.world (Move.Leaves c) can.free ∙ ap (leave_answer k.world c) e) in
            let world : run (Move.Leaves c ∷ []) k.world ≡ close_effect k.world n = made_world k.world (Move.Leaves c) can.free ∙ ap (leave_effect k.world c) e in
            quiet_makes k (Event.Leave c) (Outcome.Unsubscribed n (end_now k.world n)) (close_effect k.world n) (leave_is_quiet k.names c n (end_now k.world n) k.steps) refl
            (rw (ap (reply_outcomes k c (Event.Leave c)) alone) (inl refl)) world
            (ap (λ (z : Option ℕ). option_map_or (λ m. closed_view m (view_of k)) z (view_of k)) (endpoint_oldest k c can.there ∙ e)
            ∙ closed_is k c n reached can.there o.there o.live (λ n. accepted_of n k.steps) (λ n. unread_at n k.steps) (λ n. text_out k.names n k.steps) (λ n. subscribe_frame n k.steps))

-- ---- the connection is gone

-- there is none to close
pub none_to_close : (k : Core) (c : ℕ) → IsReached k → c < length k.world.connections → oldest_end (view_of k) c ≡ None → oldest_live c 0 k.world.subscriptions ≡ None
none_to_close k c reached there none = (elim (oldest_live c 0 k.world.subscriptions) as (λ (o : Option ℕ). oldest_live c 0 k.world.subscriptions ≡ o → oldest_live c 0 k.world.subscriptions ≡ None) [
  | None ↦ λ e. e
  | Some n ↦ λ e. none_some _ (sym none ∙ ends_as k c n reached there e)
]) refl

-- what was held stays
pub none_closed : (k : Core) (c : ℕ) → IsReached k → leave_objection (view_of k).senders (slice_get (view_of k).endpoints c) ≡ None
    → oldest_end (view_of k) c ≡ None → oldest_closed (view_of k) c ≡ view_of k
none_closed k c reached is none =
    let can = can_leave k c is in
    ap (λ (z : Option ℕ). option_map_or (λ m. closed_view m (view_of k)) z (view_of k)) (endpoint_oldest k c can.there ∙ none_to_close k c reached can.there none)

-- what the step writes to connection n
abbrev written : Core → ℕ → Bool → ℕ → List ℕ
written k c cut n = cond cut [] (flat_map spelling_of (cond (c == n) (flat_map receipts_of (filter (λ f. is_disconnect f.command) (accepted_of n k.steps))) []))

written_none : (cut b : Bool) (fs : List RawFrame) → b ≡ false → cond cut [] (flat_map spelling_of (cond b fs [])) ≡ []
written_none true b fs e = refl
written_none false b fs e = ap (λ (z : Bool). flat_map spelling_of (cond z fs [])) e

written_own : (cut b : Bool) (fs : List RawFrame) → b ≡ true → cond cut [] (flat_map spelling_of (cond b fs [])) ≡ cond cut [] (flat_map spelling_of fs)
written_own cut b fs e = ap (λ (z : Bool). cond cut [] (flat_map spelling_of (cond z fs []))) e

-- a reply that may be left out is one that there is
cut_outcome : (k : Core) (c : ℕ) → IsReached k → has_parting (Stage.Leaving (parting_receipt (accepted_of c k.steps))) ≡ true
    → is_any (replies_to c k.steps (account_of k.names k.steps) (Event.Leave c) Reading.Nothing (Outcome.Gone false)) ≡ true
cut_outcome k c reached asked =
    ap (λ (b : Bool). is_any (cond b (flat_map receipts_of (filter (λ f. is_disconnect f.command) (accepted_of c k.steps))) [])) (eq-eqb c c refl)
    ∙ (ap is_any (parting_is k c reached)
    ∙ (elim (parting_receipt (accepted_of c k.steps)) as (λ (parting : Option (List ℕ)). has_parting (Stage.Leaving parting) ≡ true → is_any (option_map_or (λ id. receipt_frame id ∷ []) parting []) ≡ true) [
      | None ↦ λ e. absurd (false≢true e)
      | Some id ↦ λ e. refl
    ]) asked)

-- the connection is gone, with its RECEIPT or without
pub leave_gone : (k : Core) (c : ℕ) (cut : Bool) → IsReached k → leave_objection (view_of k).senders (slice_get (view_of k).endpoints c) ≡ None
    → oldest_end (view_of k) c ≡ None → (cut ≡ true → has_parting (get_or (view_of k).endpoints c no_endpoint).stage ≡ true)
    → Makes k (Event.Leave c) (Outcome.Gone cut) (gone_view cut c (rested_view c (view_of k)))
leave_gone k c cut reached is none asked =
    let can = can_leave k c is in let w = k.world in let steps = k.steps in let step = step_of (Event.Leave c) Reading.Nothing (Outcome.Gone cut) in
    let x : Connection = record { sender = (connection_at w c).sender; standing = Standing.Gone } in let u = with_connection w c x in
    let oldest = none_to_close k c reached can.there none in let accepted = λ (n : ℕ). accepted_of n steps in let unread = λ (n : ℕ). unread_at n steps in
    let text = λ (n : ℕ). text_out k.names n steps in let later = λ (n : ℕ). text_out k.names n steps ++ written k c cut n in
    let f = λ (n : ℕ). endpoint_view (names_at k) w n (accepted n) (unread n) (text n) in let g = λ (n : ℕ). endpoint_view (names_at k) u n (accepted n) (unread n) (later n) in
    let now : connection_at u c ≡ x = get_or-set_same w.connections c x nobody can.there in let parting = parting_receipt (accepted c) in
    let staged : (f c).stage ≡ Stage.Leaving parting = ap (λ (z : Standing). stage_view (names_at k) z (speaker w c).flight (accepted c) (unread c)) can.leaving in
    let own : written k c cut c ≡ cond cut [] (parting_text (f c).stage) =
    written_own cut (c == c) _ (eq-eqb c c refl)
    ∙ ap (λ (z : List ℕ). cond cut [] z) (ap (λ (rs : List RawFrame). flat_map spelling_of rs) (parting_is k c reached) ∙ (elim parting as (λ (parting : Option (List ℕ)). flat_map spelling_of (option_map_or (λ id. receipt_frame id ∷ []) parting []) ≡ parting_text (Stage.Leaving parting)) [
      | None ↦ refl
      | Some id ↦ append-nil (spelling_of (receipt_frame id))
    ] ∙ ap parting_text (sym staged))) in
    let endpoint : gone_endpoint cut (f c) ≡ g c = λ i. record {
      sender = (sym now i).sender;
      stage = stage_view (names_at k) (sym now i).standing (sender_at w (unwrap_or (sym now i).sender (length w.senders))).flight (accepted c) (unread c);
      live = live_numbers c 0 w.subscriptions;
      output = text c ++ sym own i;
    } in
    let first : c ≡ 0 + c = omega arith in
    let other : (n : ℕ) → n ≢ c → f n ≡ g n = λ n apart.
    same_endpoint (names_at k) w u n (accepted n) (unread n) (text n) (sym (get_or-set_other w.connections c n x nobody apart)) refl refl
    ∙ ap (λ (z : List ℕ). endpoint_view (names_at k) u n (accepted n) (unread n) z)
    (sym (append-nil (text n)) ∙ ap (λ (z : List ℕ). text n ++ z) (sym (written_none cut (c == n) _ (differ c n (λ e. apart (sym e)))))) in
    let endpoints : set (view_of k).endpoints c (gone_endpoint cut (get_or (view_of k).endpoints c no_endpoint)) ≡ each_number g 0 u.connections =
    ap (λ (l : EndpointView). set (view_of k).endpoints c (gone_endpoint cut l)) (endpoint_at k c no_endpoint f can.there)
    ∙ (ap (λ (l : EndpointView). set (view_of k).endpoints c l) (endpoint ∙ ap g first)
    ∙ each_number-set f g 0 w.connections c x can.there (λ n low high apart. other n (λ e. apart (e ∙ first)))) in
    let world : run (Move.Leaves c ∷ []) w ≡ u = made_world w (Move.Leaves c) can.free ∙ ap (leave_effect w c) oldest in
    let alone : move_outcome k (Move.Leaves c) ≡ Outcome.Gone false ∷ [] =
    ap (λ (b : Answer). option_to_list (outcome_of b)) (made_answer w (Move.Leaves c) can.free ∙ ap (leave_answer w c) oldest) in
    step_makes k (Event.Leave c) (Outcome.Gone cut) u refl
    (rw (ap (reply_outcomes k c (Event.Leave c)) alone) (either cut (λ e. cut_outcome k c reached (asked_here (asked e) staged)))) world
    (ap (gone_view cut c) (gone_rests k c reached can.there (ap is_gone can.leaving))
    ∙ (ap (λ (ls : List EndpointView). record (view_of k) { senders = each_number (held_sender u) 0 w.senders; endpoints = ls }) endpoints
    ∙ (λ i. view_with (names_at k) u (λ n. sym (append-nil (accepted n)) i) unread later (λ s. subscribe_frame s steps))))
  where
    asked_here : has_parting (get_or (view_of k).endpoints c no_endpoint).stage ≡ true
        → (endpoint_view (names_at k) k.world c (accepted_of c k.steps) (unread_at c k.steps) (text_out k.names c k.steps)).stage ≡ Stage.Leaving (parting_receipt (accepted_of c k.steps))
        → has_parting (Stage.Leaving (parting_receipt (accepted_of c k.steps))) ≡ true
    asked_here h staged =
        let f = λ (n : ℕ). endpoint_view (names_at k) k.world n (accepted_of n k.steps) (unread_at n k.steps) (text_out k.names n k.steps) in
        sym (ap has_parting staged) ∙ (sym (ap (λ (l : EndpointView). has_parting l.stage) (endpoint_at k c no_endpoint f (can_leave k c is).there)) ∙ h)

    either : (cut : Bool) → (cut ≡ true → is_any (replies_to c k.steps (account_of k.names k.steps) (Event.Leave c) Reading.Nothing (Outcome.Gone false)) ≡ true)
        → In (Outcome.Gone cut) (reply_outcomes k c (Event.Leave c) (Outcome.Gone false ∷ []))
    either false h = inl refl
    either true h = let e = h refl in rw e (inr (inl refl))
