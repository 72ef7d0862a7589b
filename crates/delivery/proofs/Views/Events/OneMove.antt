-- Steps of one move, and a refused one.
use Rattle.delivery.proofs.Words.All.{◌≡◌, ◌≢◌, ℕ, ◌+◌, ◌<◌, ◌≤◌, Bool, true, false, not, nat_lt, List, [], ◌∷◌, ◌++◌, length, get_or, set, Option, Some, None, refl, sym, ap, ◌∙◌, arith, inl, inr, slice_get, ltb-true, ltb-false, cases_Bool, slice_get-get_or, slice_get_past, option_map, option_to_list, unwrap_or, get_or-set_same, get_or-set_other, set-get_or, In, first_refusal, RawFrame, Unread, Objection, refusal_of, World, Undecided, Connection, Standing, nobody, new_sender, connection_at, sender_at, speaker, is_reading, is_gone, Move, Answer, move_refusal, answer_to, needs_open, with_leaving, run, Event, Outcome, Refusal, Reading, accepted_of, text_out, subscribe_frame, Core, moves, unread_at, names_at, outcomes, outcome_of, move_outcome, IsReadAt, each_number, live_numbers, Makes, step_of, stage_objection, endpoint_objection, EndpointView, View, view_of, view_with, view_after, written_endpoint, stage_view, endpoint_view, leaving_endpoint, parting_receipt}
use Rattle.delivery.proofs.Machine.Effects.{refused_answer, same_world}
use Rattle.delivery.proofs.Views.Lists.ByNumber.{each_number-set, get_or-each_number, length-each_number}
use Rattle.delivery.proofs.Views.Endpoints.EndpointsStay.{IsQuiet, quiet_view, refused_is_quiet}
use Rattle.delivery.proofs.Views.Senders.HeldSenders.{senders_standing}

-- ---- one move

-- an outcome is the only one of a list
pub in_one : (o : Outcome) (os : List Outcome) → os ≡ o ∷ [] → In o os
in_one o os e = rw e (inl refl)

-- the outcome of a move
pub in_outcome : (k : Core) (move : Move) (o : Outcome) (a : Answer) → answer_to k.world move ≡ a → outcome_of a ≡ Some o → In o (move_outcome k move)
in_outcome k move o a answered is = in_one o (move_outcome k move) (ap (λ (b : Answer). option_to_list (outcome_of b)) answered ∙ ap (λ (p : Option Outcome). option_to_list p) is)

-- a step that reads nothing makes what is held of the world that its moves lead to
pub step_makes : (k : Core) (e : Event) (o : Outcome) (v : World) {held : View} → IsReadAt k e Reading.Nothing → In o (outcomes k e Reading.Nothing)
    → run (moves k e Reading.Nothing o) k.world ≡ v → held ≡ view_after k.names v (step_of e Reading.Nothing o ∷ k.steps) → Makes k e o held
step_makes k e o v read may world is = record {
  reading = Reading.Nothing;
  may = record { reading = read; outcome = may };
  view = is ∙ ap (λ (w : World). view_after k.names w (step_of e Reading.Nothing o ∷ k.steps)) (sym world);
}

-- and where it replies and begins nothing, of that world after the steps before it
pub quiet_makes : (k : Core) (e : Event) (o : Outcome) (v : World) {held : View} → IsQuiet k.names (step_of e Reading.Nothing o) k.steps → IsReadAt k e Reading.Nothing
    → In o (outcomes k e Reading.Nothing) → run (moves k e Reading.Nothing o) k.world ≡ v → held ≡ view_after k.names v k.steps → Makes k e o held
quiet_makes k e o v quiet read may world is = step_makes k e o v read may world (is ∙ sym (quiet_view k.names (step_of e Reading.Nothing o) k.steps v quiet))

-- an event of one move that is refused changes nothing that is held
pub refused_makes : (k : Core) (e : Event) (why : Refusal) (move : Move) (objection : Objection) → moves k e Reading.Nothing (Outcome.Refused why) ≡ move ∷ []
    → outcomes k e Reading.Nothing ≡ move_outcome k move → move_refusal k.world move ≡ Some objection → refusal_of objection ≡ Some why → IsReadAt k e Reading.Nothing
    → Makes k e (Outcome.Refused why) (view_of k)
refused_makes k e why move objection are may refused reported read =
    let answered : In (Outcome.Refused why) (move_outcome k move) =
    in_outcome k move (Outcome.Refused why) (Answer.Refused objection) (refused_answer k.world move objection refused) (ap (λ (r : Option Refusal). option_map Outcome.Refused r) reported) in
    quiet_makes k e (Outcome.Refused why) k.world (refused_is_quiet k.names e why k.steps) read (rw may answered)
    (ap (λ (ms : List Move). run ms k.world) are ∙ same_world k.world move objection refused) refl

-- ---- endpoints

-- an endpoint is that of its connection and its sender
pub same_endpoint : (names : List (List ℕ)) (w v : World) (c : ℕ) (accepted : List RawFrame) (unread : Unread) (text : List ℕ)
    → connection_at w c ≡ connection_at v c → w.senders ≡ v.senders → w.subscriptions ≡ v.subscriptions
    → endpoint_view names w c accepted unread text ≡ endpoint_view names v c accepted unread text
same_endpoint names w v c accepted unread text connection senders subscriptions =
    λ i. record {
      sender = (connection i).sender;
      stage = stage_view names (connection i).standing (get_or (senders i) (unwrap_or (connection i).sender (length (senders i))) new_sender).flight accepted unread;
      live = live_numbers c 0 (subscriptions i);
      output = text;
    }

-- the world with another connection in its place
abbrev pub with_connection : World → ℕ → Connection → World
with_connection w c x = record w { connections = set w.connections c x }

-- one endpoint of the view, by its number
pub endpoint_at : (k : Core) (c : ℕ) (d : EndpointView) → (endpoint : ℕ → EndpointView) → c < length k.world.connections
    → get_or (each_number endpoint 0 k.world.connections) c d ≡ endpoint c
endpoint_at k c d endpoint there = let e : 0 + c ≡ c = omega arith in get_or-each_number endpoint 0 k.world.connections c d there ∙ ap endpoint e

-- where one connection is another, one endpoint is
pub endpoints_with : (names : List (List ℕ)) (w : World) (c : ℕ) (x : Connection)
    (accepted : ℕ → List RawFrame) (unread : ℕ → Unread) (text : ℕ → List ℕ) → c < length w.connections
    → set (each_number (λ n. endpoint_view names w n (accepted n) (unread n) (text n)) 0 w.connections) c
    (endpoint_view names (with_connection w c x) c (accepted c) (unread c) (text c))
    ≡ each_number (λ n. endpoint_view names (with_connection w c x) n (accepted n) (unread n) (text n)) 0 (set w.connections c x)
endpoints_with names w c x accepted unread text there =
    let f = λ (n : ℕ). endpoint_view names w n (accepted n) (unread n) (text n) in
    let g = λ (n : ℕ). endpoint_view names (with_connection w c x) n (accepted n) (unread n) (text n) in let e : c ≡ 0 + c = omega arith in
    ap (λ (n : ℕ). set (each_number f 0 w.connections) c (g n)) e
    ∙ each_number-set f g 0 w.connections c x there
    (λ n low high other. same_endpoint names w (with_connection w c x) n (accepted n) (unread n) (text n)
    (sym (get_or-set_other w.connections c n x nobody (λ same. other (same ∙ e)))) refl refl)

-- ---- checks

standing_objection : (names : List (List ℕ)) (standing : Standing) (flight : Option Undecided) (accepted : List RawFrame) (unread : Unread)
    → stage_objection (stage_view names standing flight accepted unread) ≡ first_refusal ((is_gone standing, Objection.Gone) ∷ (not (is_reading standing), Objection.Busy) ∷ [])
standing_objection names Standing.Open flight accepted unread = refl
standing_objection names Standing.Leaving flight accepted unread = refl
standing_objection names Standing.Gone flight accepted unread = refl

some_is_none : {X : Type 0} {Y : Type 0} {x : X} → Some x ≡ None → Y
some_is_none e = absurd (cc)

-- the endpoint of a connection that is there
pub endpoint_is : (k : Core) (c : ℕ) → c < length k.world.connections → slice_get (view_of k).endpoints c
    ≡ Some (endpoint_view (names_at k) k.world c (accepted_of c k.steps) (unread_at c k.steps) (text_out k.names c k.steps))
endpoint_is k c there =
    let f = λ (n : ℕ). endpoint_view (names_at k) k.world n (accepted_of n k.steps) (unread_at n k.steps) (text_out k.names n k.steps) in
    let n : c < length (each_number f 0 k.world.connections) = omega (arith, there, length-each_number f 0 k.world.connections) in
    slice_get-get_or (each_number f 0 k.world.connections) c (f c) n ∙ ap (λ (x : EndpointView). Some x) (endpoint_at k c (f c) f there)

-- there is none of one that isn't
pub no_endpoint : (k : Core) (c : ℕ) → length k.world.connections ≤ c → slice_get (view_of k).endpoints c ≡ None
no_endpoint k c none =
    let f = λ (n : ℕ). endpoint_view (names_at k) k.world n (accepted_of n k.steps) (unread_at n k.steps) (text_out k.names n k.steps) in
    let n : length (each_number f 0 k.world.connections) ≤ c = omega (arith, none, length-each_number f 0 k.world.connections) in
    slice_get_past (each_number f 0 k.world.connections) c n

-- what stands against the endpoint stands against its connection
pub open_checked : (k : Core) (c : ℕ) → endpoint_objection (slice_get (view_of k).endpoints c) ≡ first_refusal (needs_open k.world c)
open_checked k c =
    let x = connection_at k.world c in
    let checks = λ (b : Bool). first_refusal ((not b, Objection.NoConn) ∷ (is_gone x.standing, Objection.Gone) ∷ (not (is_reading x.standing), Objection.Busy) ∷ []) in
    elim (cases_Bool (nat_lt c (length k.world.connections))) [
      | inl t ↦
          ap endpoint_objection (endpoint_is k c (ltb-true c (length k.world.connections) t))
          ∙ (standing_objection (names_at k) x.standing (speaker k.world c).flight (accepted_of c k.steps) (unread_at c k.steps)
          ∙ ap checks (sym t))
      | inr f ↦ ap endpoint_objection (no_endpoint k c (ltb-false c (length k.world.connections) f)) ∙ ap checks (sym f)
    ]

-- where nothing stands against it, it is there and open
pub checked_there : (k : Core) (c : ℕ) → endpoint_objection (slice_get (view_of k).endpoints c) ≡ None → c < length k.world.connections
checked_there k c free =
    elim (cases_Bool (nat_lt c (length k.world.connections))) [
      | inl t ↦ ltb-true c (length k.world.connections) t
      | inr f ↦ some_is_none (sym (ap endpoint_objection (no_endpoint k c (ltb-false c (length k.world.connections) f))) ∙ free)
    ]

gone_or_busy : (standing : Standing) → first_refusal ((is_gone standing, Objection.Gone) ∷ (not (is_reading standing), Objection.Busy) ∷ []) ≡ None → is_reading standing ≡ true
gone_or_busy Standing.Open e = refl
gone_or_busy Standing.Leaving e = absurd (cc)
gone_or_busy Standing.Gone e = absurd (cc)

-- and it is open
pub checked_open : (k : Core) (c : ℕ) → endpoint_objection (slice_get (view_of k).endpoints c) ≡ None → is_reading (connection_at k.world c).standing ≡ true
checked_open k c free =
    let x = connection_at k.world c in
    gone_or_busy x.standing
    (sym (standing_objection (names_at k) x.standing (speaker k.world c).flight (accepted_of c k.steps) (unread_at c k.steps))
    ∙ (sym (ap endpoint_objection (endpoint_is k c (checked_there k c free))) ∙ free))

-- ---- endpoints of a list

-- there is no endpoint beyond the last
pub endpoint_missing : (endpoints : List EndpointView) (c : ℕ) → length endpoints ≤ c → endpoint_objection (slice_get endpoints c) ≡ Some Objection.NoConn
endpoint_missing endpoints c none = ap endpoint_objection (slice_get_past endpoints c none)

-- the endpoint that was read
pub endpoint_read : (endpoints : List EndpointView) (c : ℕ) (endpoint : EndpointView) → c < length endpoints → endpoint ≡ get_or endpoints c endpoint
    → slice_get endpoints c ≡ Some endpoint
endpoint_read endpoints c endpoint there is = slice_get-get_or endpoints c endpoint there ∙ ap (λ (x : EndpointView). Some x) (sym is)

-- ---- an endpoint that is leaving

-- what is held once this connection is leaving, whatever is held of endpoints
pub left_with : (names : List (List ℕ)) (w : World) (accepted : ℕ → List RawFrame) (unread : ℕ → Unread) (text : ℕ → List ℕ) (began : ℕ → Option RawFrame)
    (c : ℕ) (parting : Option (List ℕ)) (d : EndpointView) → c < length w.connections → is_gone (connection_at w c).standing ≡ false → parting_receipt (accepted c) ≡ parting
    → let v = view_with names w accepted unread text began in
    record v { endpoints = set v.endpoints c (leaving_endpoint parting (get_or v.endpoints c d)) } ≡ view_with names (with_leaving w c) accepted unread text began
left_with names w accepted unread text began c parting d there staying is =
    let x : Connection = record { sender = (connection_at w c).sender; standing = Standing.Leaving } in
    let f = λ (n : ℕ). endpoint_view names w n (accepted n) (unread n) (text n) in let ls = each_number f 0 w.connections in let e : 0 + c ≡ c = omega arith in
    let u = with_connection w c x in let now : connection_at u c ≡ x = get_or-set_same w.connections c x nobody there in
    let endpoint : leaving_endpoint (parting_receipt (accepted c)) (f c) ≡ endpoint_view names u c (accepted c) (unread c) (text c) =
    λ i. record {
      sender = (sym now i).sender;
      stage = stage_view names (sym now i).standing (sender_at w (unwrap_or (sym now i).sender (length w.senders))).flight (accepted c) (unread c);
      live = live_numbers c 0 w.subscriptions;
      output = text c;
    } in
    let parted : leaving_endpoint parting (f c) ≡ leaving_endpoint (parting_receipt (accepted c)) (f c) = ap (λ (p : Option (List ℕ)). leaving_endpoint p (f c)) (sym is) in
    let old : leaving_endpoint parting (get_or ls c d) ≡ leaving_endpoint parting (f c) = ap (leaving_endpoint parting) (get_or-each_number f 0 w.connections c d there ∙ ap f e) in
    let endpoints : set ls c (leaving_endpoint parting (get_or ls c d)) ≡ each_number (λ n. endpoint_view names u n (accepted n) (unread n) (text n)) 0 u.connections =
    ap (λ (l : EndpointView). set ls c l) (old ∙ (parted ∙ endpoint)) ∙ endpoints_with names w c x accepted unread text there in
    let senders = senders_standing w c Standing.Leaving refl staying in λ i. record (view_with names w accepted unread text began) { senders = senders i; endpoints = endpoints i }

-- the same of a core
pub left_view : (k : Core) (c : ℕ) (parting : Option (List ℕ)) (d : EndpointView) → c < length k.world.connections
    → is_gone (connection_at k.world c).standing ≡ false → parting_receipt (accepted_of c k.steps) ≡ parting
    → record (view_of k) { endpoints = set (view_of k).endpoints c (leaving_endpoint parting (get_or (view_of k).endpoints c d)) }
    ≡ view_after k.names (with_leaving k.world c) k.steps
left_view k c parting d there staying is =
    left_with (names_at k) k.world (λ n. accepted_of n k.steps) (λ n. unread_at n k.steps) (λ n. text_out k.names n k.steps) (λ s. subscribe_frame s k.steps) c parting d there staying is

-- ---- text that is written to an endpoint

-- what is held once this text is written to a connection, whatever is held of endpoints
pub written_with : (names : List (List ℕ)) (w : World) (accepted : ℕ → List RawFrame) (unread : ℕ → Unread) (text later : ℕ → List ℕ) (began : ℕ → Option RawFrame)
    (c : ℕ) (more : List ℕ) (d : EndpointView) → c < length w.connections → later c ≡ text c ++ more → ((n : ℕ) → n ≢ c → later n ≡ text n)
    → let v = view_with names w accepted unread text began in
    record v { endpoints = set v.endpoints c (written_endpoint more (get_or v.endpoints c d)) } ≡ view_with names w accepted unread later began
written_with names w accepted unread text later began c more d there own others =
    let f = λ (n : ℕ). endpoint_view names w n (accepted n) (unread n) (text n) in let g = λ (n : ℕ). endpoint_view names w n (accepted n) (unread n) (later n) in
    let ls = each_number f 0 w.connections in let e : c ≡ 0 + c = omega arith in
    let endpoint : written_endpoint more (get_or ls c d) ≡ g c =
    ap (written_endpoint more) (get_or-each_number f 0 w.connections c d there ∙ ap f (sym e))
    ∙ ap (λ (t : List ℕ). endpoint_view names w c (accepted c) (unread c) t) (sym own) in
    let endpoints : set ls c (written_endpoint more (get_or ls c d)) ≡ each_number g 0 w.connections =
    ap (λ (l : EndpointView). set ls c l) endpoint
    ∙ (ap (λ (n : ℕ). set ls c (g n)) e
    ∙ (each_number-set f g 0 w.connections c (connection_at w c) there
    (λ n low high differ. ap (λ (t : List ℕ). endpoint_view names w n (accepted n) (unread n) t) (sym (others n (λ same. differ (same ∙ e)))))
    ∙ ap (λ (xs : List Connection). each_number g 0 xs) (set-get_or w.connections c nobody))) in
    ap (λ (zs : List EndpointView). record (view_with names w accepted unread text began) { endpoints = zs }) endpoints
