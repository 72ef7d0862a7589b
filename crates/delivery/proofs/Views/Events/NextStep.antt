-- A Next: the endpoint of its connection alone has another reader, session and text, and the rest is what the machine makes
-- of it.
use Rattle.delivery.proofs.Words.All.{◌≡◌, ◌≢◌, ℕ, ◌+◌, ◌<◌, ◌==◌, Bool, true, false, cond, inl, inr, List, [], ◌∷◌, ◌++◌, length, set, Option, Some, None, refl, sym, ap, subst, ◌∙◌, arith, eq-eqb, flat_map, option_to_list, unwrap_or, eqb-true, ltb-true, or_parts, not-false, cases_Bool, append-nil, get_or-set_other, set-get_or, first_refusal, In, RawFrame, Unread, spelling_of, held_after, state_of, passes, Objection, World, Connection, Standing, nobody, connection_at, sender_at, speaker, is_reading, speaks_for, needs_idle, run, Event, Outcome, Stage, CoreStep, Reading, frame_in, has_effect, accepted_of, is_cut, next_replies, subscribe_frame, text_out, Core, IsReadBy, next_moves, unread_at, MayStep, reading_outcomes, unless, each_number, live_numbers, Makes, step_of, View, EndpointView, view_with, view_after, stage_view, endpoint_view}
use Rattle.delivery.specs.Core.State.{left_by}
use Rattle.delivery.proofs.Words.Changes.{with_endpoint, each_number-set, if_same, with_connection, senders_alike}
use Rattle.delivery.proofs.Machine.ByFound.{none_of}

-- ---- what a Next adds

-- a Next of connection c as a step
abbrev pub next_of : ℕ → Reading → Outcome → CoreStep
next_of c reading o = step_of (Event.Next c) reading o

-- the frames that it adds to those accepted of its connection
abbrev pub frames_added : Reading → Outcome → List RawFrame
frames_added reading o = cond (has_effect o) (option_to_list (frame_in reading)) []

-- the text that it writes to it
abbrev pub text_added : Reading → Outcome → List ℕ
text_added reading o = cond (is_cut o) [] (flat_map spelling_of (next_replies (frame_in reading) o))

own : (c : ℕ) → (c == c) ≡ true
own c = eq-eqb c c refl

-- of its connection these were accepted
pub own_accepted : (c : ℕ) (reading : Reading) (o : Outcome) (older : List CoreStep) → accepted_of c (next_of c reading o ∷ older) ≡ accepted_of c older ++ frames_added reading o
own_accepted c reading o older = ap (λ (b : Bool). accepted_of c older ++ cond (has_effect o) (cond b (option_to_list (frame_in reading)) []) []) (own c)

-- its reader stands for this
pub own_unread : (c : ℕ) (reading : Reading) (o : Outcome) (older : List CoreStep) → unread_at c (next_of c reading o ∷ older) ≡ left_by (unread_at c older) reading
own_unread c reading o older = ap (λ (b : Bool). cond b (left_by (unread_at c older) reading) (unread_at c older)) (own c)

-- its text out is this
pub own_text : (names : List (List ℕ)) (c : ℕ) (reading : Reading) (o : Outcome) (older : List CoreStep)
    → text_out names c (next_of c reading o ∷ older) ≡ text_out names c older ++ text_added reading o
own_text names c reading o older = ap (λ (b : Bool). text_out names c older ++ cond (is_cut o) [] (flat_map spelling_of (cond b (next_replies (frame_in reading) o) []))) (own c)

differs : (c n : ℕ) → n ≢ c → (c == n) ≡ false
differs c n other = elim (cases_Bool (c == n)) [ inl t ↦ absurd (other (sym (eqb-true c n t))) | inr f ↦ f ]

other_accepted : (c n : ℕ) (reading : Reading) (o : Outcome) (older : List CoreStep) → n ≢ c → accepted_of n (next_of c reading o ∷ older) ≡ accepted_of n older
other_accepted c n reading o older other =
    ap (λ (b : Bool). accepted_of n older ++ cond (has_effect o) (cond b (option_to_list (frame_in reading)) []) []) (differs c n other)
    ∙ (ap (λ (fs : List RawFrame). accepted_of n older ++ fs) (if_same (has_effect o) []) ∙ append-nil (accepted_of n older))

other_unread : (c n : ℕ) (reading : Reading) (o : Outcome) (older : List CoreStep) → n ≢ c → unread_at n (next_of c reading o ∷ older) ≡ unread_at n older
other_unread c n reading o older other = ap (λ (b : Bool). cond b (left_by (unread_at n older) reading) (unread_at n older)) (differs c n other)

other_text : (names : List (List ℕ)) (c n : ℕ) (reading : Reading) (o : Outcome) (older : List CoreStep) → n ≢ c
    → text_out names n (next_of c reading o ∷ older) ≡ text_out names n older
other_text names c n reading o older other =
    ap (λ (b : Bool). text_out names n older ++ cond (is_cut o) [] (flat_map spelling_of (cond b (next_replies (frame_in reading) o) []))) (differs c n other)
    ∙ (ap (λ (octets : List ℕ). text_out names n older ++ octets) (if_same (is_cut o) []) ∙ append-nil (text_out names n older))

-- ---- the endpoint

-- what is held of a core by these names
abbrev pub view_by : List (List ℕ) → Core → View
view_by names k =
    view_with names k.world (λ c. accepted_of c k.steps) (λ c. unread_at c k.steps) (λ c. text_out k.names c k.steps)
    (λ s. subscribe_frame s k.steps)

-- the endpoint of connection c in this world after a Next
abbrev pub next_endpoint : List (List ℕ) → Core → World → ℕ → Reading → Outcome → EndpointView
next_endpoint names k w c reading o =
    endpoint_view names w c (accepted_of c k.steps ++ frames_added reading o) (left_by (unread_at c k.steps) reading)
    (text_out k.names c k.steps ++ text_added reading o)

-- what is held of the world of before after a Next, with the began of before
abbrev pub held_still : List (List ℕ) → Core → World → ℕ → Reading → Outcome → View
held_still names k w c reading o =
    let steps = next_of c reading o ∷ k.steps in
    view_with names w (λ n. accepted_of n steps) (λ n. unread_at n steps) (λ n. text_out k.names n steps)
    (λ s. subscribe_frame s k.steps)

-- with another standing of its connection, or the same, that is the view of before with another endpoint
pub next_written : (names : List (List ℕ)) (k : Core) (c : ℕ) (reading : Reading) (o : Outcome) (x : Connection) → c < length k.world.connections
    → ((s : ℕ) → speaks_for s x ≡ speaks_for s (connection_at k.world c)) → with_endpoint (view_by names k) c (next_endpoint names k (with_connection k.world c x) c reading o)
    ≡ held_still names k (with_connection k.world c x) c reading o
next_written names k c reading o x there same =
    let w = with_connection k.world c x in let steps = next_of c reading o ∷ k.steps in
    let f = λ (n : ℕ). endpoint_view names k.world n (accepted_of n k.steps) (unread_at n k.steps) (text_out k.names n k.steps) in
    let g = λ (n : ℕ). endpoint_view names w n (accepted_of n steps) (unread_at n steps) (text_out k.names n steps) in let e : c ≡ 0 + c = omega arith in
    let endpoint : next_endpoint names k w c reading o ≡ g c =
    λ i. endpoint_view names w c (sym (own_accepted c reading o k.steps) i) (sym (own_unread c reading o k.steps) i) (sym (own_text k.names c reading o k.steps) i) in
    let others : (n : ℕ) → n ≢ 0 + c → f n ≡ g n = λ n differ.
    (let other : n ≢ c = λ is. differ (is ∙ e) in
    let connection : connection_at k.world n ≡ connection_at w n = sym (get_or-set_other k.world.connections c n x nobody other) in
    λ i. record {
      sender = (connection i).sender;
      stage = stage_view names (connection i).standing (sender_at k.world (unwrap_or (connection i).sender (length k.world.senders))).flight
          (sym (other_accepted c n reading o k.steps other) i) (sym (other_unread c n reading o k.steps other) i);
      live = live_numbers n 0 k.world.subscriptions;
      output = sym (other_text k.names c n reading o k.steps other) i;
    }) in
    let endpoints : set (view_by names k).endpoints c (next_endpoint names k w c reading o) ≡ each_number g 0 w.connections =
    ap (λ (l : EndpointView). set (view_by names k).endpoints c l) endpoint
    ∙ (ap (λ (n : ℕ). set (each_number f 0 k.world.connections) c (g n)) e
    ∙ each_number-set f g 0 k.world.connections c x there (λ n low high differ. others n differ)) in
    let senders = senders_alike k.world c x same in λ i. record (view_by names k) { senders = senders i; endpoints = endpoints i }

-- ---- an idle connection

-- it is there
pub idle_there : (w : World) (c : ℕ) → first_refusal (needs_idle w c) ≡ None → c < length w.connections
idle_there w c idle = ltb-true c (length w.connections) (not-false _ (passes (needs_idle w c) idle).0)

-- it is open
pub idle_reads : (w : World) (c : ℕ) → first_refusal (needs_idle w c) ≡ None → is_reading (connection_at w c).standing ≡ true
idle_reads w c idle = not-false _ (or_parts _ _ (passes (needs_idle w c) idle).1.1.0).0

is_open : (standing : Standing) → is_reading standing ≡ true → standing ≡ Standing.Open
is_open Standing.Open e = refl
is_open Standing.Leaving e = absurd (cc)
is_open Standing.Gone e = absurd (cc)

pub idle_open : (w : World) (c : ℕ) → first_refusal (needs_idle w c) ≡ None → (connection_at w c).standing ≡ Standing.Open
idle_open w c idle = is_open (connection_at w c).standing (idle_reads w c idle)

-- its sender has no undecided transaction
pub idle_flight : (w : World) (c : ℕ) → first_refusal (needs_idle w c) ≡ None → (speaker w c).flight ≡ None
idle_flight w c idle = none_of (speaker w c).flight (or_parts _ _ (passes (needs_idle w c) idle).1.1.0).1

-- how far it is
pub idle_stage : (names : List (List ℕ)) (k : Core) (c : ℕ) (accepted : List RawFrame) (unread : Unread) → first_refusal (needs_idle k.world c) ≡ None
    → stage_view names (connection_at k.world c).standing (speaker k.world c).flight accepted unread
    ≡ Stage.Open (record { reader = unread; session = state_of (held_after names accepted); receipt = None })
idle_stage names k c accepted unread idle =
    let standing = idle_open k.world c idle in let flight = idle_flight k.world c idle in λ i. stage_view names (standing i) (flight i) accepted unread

-- ---- worlds

-- a connection that is put in its own place changes nothing
same_connection : (w : World) (c : ℕ) → with_connection w c (connection_at w c) ≡ w
same_connection w c = ap (λ (cs : List Connection). record w { connections = cs }) (set-get_or w.connections c nobody)

-- the same where the world is that of before
pub next_still : (names : List (List ℕ)) (k : Core) (c : ℕ) (reading : Reading) (o : Outcome) → c < length k.world.connections
    → with_endpoint (view_by names k) c (next_endpoint names k k.world c reading o) ≡ held_still names k k.world c reading o
next_still names k c reading o there =
    subst (λ (w : World). with_endpoint (view_by names k) c (next_endpoint names k w c reading o) ≡ held_still names k w c reading o) (same_connection k.world c)
    (next_written names k c reading o (connection_at k.world c) there (λ s. refl))

-- ---- the step

-- it reads so where this stands against it
abbrev pub ReadsUnless : Unread → Reading → Option Objection → Type 0
ReadsUnless u reading why = elim why [ None ↦ IsReadBy u reading | Some o ↦ reading ≡ Reading.Nothing ]

-- the core may make such a step
pub next_may : (k : Core) (c : ℕ) (reading : Reading) (o : Outcome) → first_refusal (needs_idle k.world c) ≡ None
    → IsReadBy (unread_at c k.steps) reading → In o (reading_outcomes k c reading) → MayStep k (next_of c reading o)
next_may k c reading o idle read may = record {
  reading = subst (ReadsUnless (unread_at c k.steps) reading) (sym idle) read;
  outcome = subst (λ (why : Option Objection). In o (unless why (reading_outcomes k c reading))) (sym idle) may;
}

-- and this is held then
pub next_makes : (k : Core) (c : ℕ) (reading : Reading) (o : Outcome) (held : View) → first_refusal (needs_idle k.world c) ≡ None
    → IsReadBy (unread_at c k.steps) reading → In o (reading_outcomes k c reading)
    → held ≡ view_after k.names (run (next_moves k c reading o) k.world) (next_of c reading o ∷ k.steps) → Makes k (Event.Next c) o held
next_makes k c reading o held idle read may view = record { reading = reading; may = next_may k c reading o idle read may; view = view }
