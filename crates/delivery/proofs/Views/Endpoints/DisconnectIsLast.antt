-- The frames of a connection that a core accepted: of one that isn't there none, and a DISCONNECT only of one that
-- isn't open any more, and then only one.
use Rattle.std.proofs.Common.{◌≡◌, ℕ, ◌≤◌, ◌==◌, Bool, true, false, cond, ◌⊎◌, inl, inr, List, [], ◌∷◌, ◌++◌, filter, length, Option, Some, None, refl, sym, ap, subst, ◌∙◌, arith}
use Rattle.delivery.proofs.Words.All.{eqb-true, false≢true, or_parts, not-false, cases_lt, append-nil, flat_map, option_map_or, option_and_then, option_or, option_to_list, first_refusal, In, RawFrame, Command, receipt_of, Unread, receipt_frame, action_by, has_destination, is_disconnect, at_set_within, passes, none_some, Objection, World, Connection, nobody, is_reading, connection_at, Move, move_effect, needs_idle, run, TopicList, Event, Outcome, CoreStep, Reading, frame_in, has_effect, frame_from, accepted_of, receipts_of, Core, core_of, core_after, moves, frame_move, names_at, session_at, is_faulted, topic_moves, IsCoreRun, outcomes, IsReached, parting_receipt}
use Rattle.std.specs.List.{find}
use Rattle.stomp_frame.specs.declared.command.Command.TheVariants as commands
use Rattle.stomp_session.specs.declared.action.Action.TheVariants as actions
use Rattle.delivery.proofs.Core.FrameWorld.{no_topic}
use Rattle.delivery.proofs.Core.Speaking.{open_in}
use Rattle.delivery.proofs.Words.Changes.{core_is, if_same, grown, stays_shut, open_there, by_next}

-- what a step adds to the accepted frames of connection c
abbrev pub added_by : ℕ → CoreStep → List RawFrame
added_by c step = cond (has_effect step.outcome) (frame_from c step) []

-- it adds this frame of an open connection, which isn't open any more after a DISCONNECT
pub record Adds (k : Core) (c : ℕ) (step : CoreStep) : Type 0 where
  pub frame : RawFrame
  pub is : added_by c step ≡ frame ∷ []
  pub reads : open_in k.world.connections c ≡ true
  pub parts : is_disconnect frame.command ≡ true → open_in (core_after k step).world.connections c ≡ false

-- ---- one step

-- what had its effect isn't a fault
not_faulted : (o : Outcome) → has_effect o ≡ true → is_faulted o ≡ false
not_faulted (Outcome.Faulted fault cut) e = absurd (false≢true e)
not_faulted _ e = refl

-- a DISCONNECT asks for the end of its connection
disconnects : (command : Command) (s : Rattle.stomp_session.specs.Open.Held) (f : RawFrame) → is_disconnect command ≡ true → action_by command s f ≡ actions.Disconnect
disconnects commands.Disconnect s f e = refl
disconnects _ s f e = absurd (false≢true e)

-- it has no destination
parts_nowhere : (command : Command) → is_disconnect command ≡ true → has_destination command ≡ false
parts_nowhere commands.Disconnect e = refl
parts_nowhere _ e = absurd (false≢true e)

-- a connection that no test for a frame stands against is open
idle_open : (w : World) (c : ℕ) → first_refusal (needs_idle w c) ≡ None → open_in w.connections c ≡ true
idle_open w c n = not-false (open_in w.connections c) (or_parts _ _ (passes (needs_idle w c) n).1.1.0).0

leaves : (w : World) (c : ℕ) → first_refusal (needs_idle w c) ≡ None → open_in (run (Move.Disconnects c ∷ []) w).connections c ≡ false
leaves w c n =
    subst (λ (v : World). open_in v.connections c ≡ false)
    (sym (ap (λ (o : Option Objection). elim (option_or o None) [ None ↦ move_effect w (Move.Disconnects c) | Some why ↦ w ]) n))
    (at_set_within (λ (z : Connection). is_reading z.standing ≡ false) w.connections c c _ nobody (open_there w.connections c (idle_open w c n)) (λ e. refl) (λ ne. absurd (ne refl)))

found : (k : Core) (c : ℕ) (f : RawFrame) (left : Unread) (o : Outcome) → first_refusal (needs_idle k.world c) ≡ None → (d : ℕ) → (d == c) ≡ true → d ≡ c
    → (b : Bool) → has_effect o ≡ b
    → (added_by c (record { event = Event.Next d; reading = Reading.Finds f left; outcome = o }) ≡ []) ⊎ Adds k c (record { event = Event.Next d; reading = Reading.Finds f left; outcome = o })
found k c f left o n d e i false h = inl (ap (λ b. cond b (cond (d == c) (f ∷ []) []) []) h)
found k c f left o n d e i true h = inr (record {
  frame = f;
  is = ap (λ b. cond b (cond (d == c) (f ∷ []) []) []) h ∙ ap (λ b. cond b (f ∷ []) []) e;
  reads = idle_open k.world c n;
  parts = λ p. subst (λ ms. open_in (run ms k.world).connections c ≡ false) (sym (asked p)) (leaves k.world c n);
})
  where
    asked : is_disconnect f.command ≡ true → moves k (Event.Next d) (Reading.Finds f left) o ≡ Move.Disconnects c ∷ []
    asked p =
        ap (λ m. moves k (Event.Next m) (Reading.Finds f left) o) i
        ∙ (ap (λ b. cond b (Move.Errs c ∷ []) (cond (has_effect o) (topic_moves (names_at k) f ++ option_to_list (frame_move k c (action_by f.command (session_at k c) f))) [])) (not_faulted o h)
        ∙ (ap (λ b. cond b (topic_moves (names_at k) f ++ option_to_list (frame_move k c (action_by f.command (session_at k c) f))) []) h
        ∙ (λ j. no_topic k f (parts_nowhere f.command p) j ++ option_to_list (frame_move k c (disconnects f.command (session_at k c) f p j)))))

next_adds : (k : Core) (c d : ℕ) (rd : Reading) (o : Outcome) → In o (outcomes k (Event.Next d) rd) → (b : Bool) → (d == c) ≡ b
    → (added_by c (record { event = Event.Next d; reading = rd; outcome = o }) ≡ []) ⊎ Adds k c (record { event = Event.Next d; reading = rd; outcome = o })
next_adds k c d rd o i false e = inl (ap (λ b. cond (has_effect o) (cond b (option_to_list (frame_in rd)) []) []) e ∙ if_same (has_effect o) [])
next_adds k c d rd o i true e =
    let m : d ≡ c = eqb-true d c e in
    by_next k d (λ rd o. (added_by c (record { event = Event.Next d; reading = rd; outcome = o }) ≡ []) ⊎ Adds k c (record { event = Event.Next d; reading = rd; outcome = o }))
    (λ rd why. inl refl) (λ rd fault cut n. inl refl)
    (λ f left o n free j. found k c f left o (subst (λ z. first_refusal (needs_idle k.world z) ≡ None) m n) d e m (has_effect o) refl)
    rd o i

-- a step adds nothing, or a frame of an open connection
pub adds_one : (k : Core) (c : ℕ) (e : Event) (rd : Reading) (o : Outcome) → In o (outcomes k e rd)
    → (added_by c (record { event = e; reading = rd; outcome = o }) ≡ []) ⊎ Adds k c (record { event = e; reading = rd; outcome = o })
adds_one k c (Event.Next d) rd o i = next_adds k c d rd o i (d == c) refl
adds_one k c _ rd o i = inl (if_same (has_effect o) [])

-- ---- all steps

-- of a connection that isn't there no frame was accepted
pub unheard : (topics : TopicList) (capacity : ℕ) (steps : List CoreStep) → IsCoreRun topics capacity steps → (c : ℕ)
    → length (core_of topics capacity steps).world.connections ≤ c → accepted_of c steps ≡ []
unheard topics capacity [] h c l = refl
unheard topics capacity (step ∷ older) h c l =
    let k = core_of topics capacity older in let g = grown (moves k step.event step.reading step.outcome) k.world in
    ap (λ z. z ++ added_by c step) (unheard topics capacity older h.1 c (omega arith))
    ∙ elim (adds_one k c step.event step.reading step.outcome h.0.outcome) [
      | inl e ↦ e
      | inr a ↦ absurd (let t = open_there k.world.connections c a.reads in omega arith)
    ]

-- the frame is a DISCONNECT
abbrev pub parts_by : RawFrame → Bool
parts_by f = is_disconnect f.command

find_after : (xs ys : List RawFrame) → find parts_by xs ≡ None → find parts_by (xs ++ ys) ≡ find parts_by ys
find_after [] ys e = refl
find_after (x ∷ xs) ys e = (elim (parts_by x) as (λ (b : Bool). cond b (Some x) (find parts_by xs) ≡ None → cond b (Some x) (find parts_by (xs ++ ys)) ≡ find parts_by ys) [ true ↦ λ e. none_some x (sym e) | false ↦ λ e. (find_after xs ys) e ]) e

-- of an open connection no DISCONNECT was accepted
pub unparted : (topics : TopicList) (capacity : ℕ) (steps : List CoreStep) → IsCoreRun topics capacity steps → (c : ℕ)
    → open_in (core_of topics capacity steps).world.connections c ≡ true → find parts_by (accepted_of c steps) ≡ None
unparted topics capacity [] h c e = refl
unparted topics capacity (step ∷ older) h c e =
    find_after (accepted_of c older) (added_by c step) (before (unparted topics capacity older h.1 c) (open_in k.world.connections c) refl)
    ∙ elim (adds_one k c step.event step.reading step.outcome h.0.outcome) [
      | inl d ↦ ap (λ z. find parts_by z) d
      | inr a ↦ ap (λ z. find parts_by z) a.is ∙ last_case a (parts_by a.frame) refl
    ]
  where
    k : Core
    k = core_of topics capacity older

    last_case : (a : Adds k c step) (b : Bool) → parts_by a.frame ≡ b → find parts_by (a.frame ∷ []) ≡ None
    last_case a true p = absurd (false≢true (sym (a.parts p) ∙ e))
    last_case a false p = ap (λ b. cond b (Some a.frame) None) p

    before : (open_in k.world.connections c ≡ true → find parts_by (accepted_of c older) ≡ None) → (b : Bool) → open_in k.world.connections c ≡ b
        → find parts_by (accepted_of c older) ≡ None
    before ih true o = ih o
    before ih false o = elim (cases_lt c (length k.world.connections)) [
      | inl l ↦ absurd (false≢true (sym (stays_shut (moves k step.event step.reading step.outcome) k.world c l o) ∙ e))
      | inr l ↦ ap (λ z. find parts_by z) (unheard topics capacity older h.1 c l)
    ]

-- ---- the RECEIPT of a DISCONNECT

-- the RECEIPTs that DISCONNECTs of these frames ask for are that of the first
abbrev pub OneReceipt : List RawFrame → Type 0
OneReceipt fs = flat_map receipts_of (filter parts_by fs) ≡ option_map_or (λ id. receipt_frame id ∷ []) (option_and_then receipt_of (find parts_by fs)) []

one_frame : (b : Bool) (f : RawFrame) → flat_map receipts_of (cond b (f ∷ []) []) ≡ option_map_or (λ id. receipt_frame id ∷ []) (option_and_then receipt_of (cond b (Some f) None)) []
one_frame true f = elim (receipt_of f) as (λ o. option_map_or (λ id. receipt_frame id ∷ []) o [] ++ [] ≡ option_map_or (λ id. receipt_frame id ∷ []) o []) [ None ↦ refl | Some id ↦ refl ]
one_frame false f = refl

one_more : (b : Bool) (x : RawFrame) (fs : List RawFrame) (o p : Option RawFrame) → cond b (Some x) o ≡ None
    → (o ≡ None → flat_map receipts_of fs ≡ option_map_or (λ id. receipt_frame id ∷ []) (option_and_then receipt_of p) [])
    → flat_map receipts_of (cond b (x ∷ fs) fs) ≡ option_map_or (λ id. receipt_frame id ∷ []) (option_and_then receipt_of (cond b (Some x) p)) []
one_more true x fs o p e h = none_some x (sym e)
one_more false x fs o p e h = h e

one_last : (xs : List RawFrame) (f : RawFrame) → find parts_by xs ≡ None → OneReceipt (xs ++ f ∷ [])
one_last [] f e = one_frame (parts_by f) f
one_last (x ∷ xs) f e = one_more (parts_by x) x (filter parts_by (xs ++ f ∷ [])) (find parts_by xs) (find parts_by (xs ++ f ∷ [])) e (one_last xs f)

one_receipt : (topics : TopicList) (capacity : ℕ) (steps : List CoreStep) → IsCoreRun topics capacity steps → (c : ℕ) → OneReceipt (accepted_of c steps)
one_receipt topics capacity [] h c = refl
one_receipt topics capacity (step ∷ older) h c = elim (adds_one (core_of topics capacity older) c step.event step.reading step.outcome h.0.outcome) [
  | inl e ↦ subst OneReceipt (sym (ap (λ z. accepted_of c older ++ z) e ∙ append-nil (accepted_of c older))) (one_receipt topics capacity older h.1 c)
  | inr a ↦ subst OneReceipt (sym (ap (λ z. accepted_of c older ++ z) a.is))
      (one_last (accepted_of c older) a.frame (unparted topics capacity older h.1 c a.reads))
]

-- ---- of a core that a run leads to

steps_of : (k : Core) (reached : IsReached k) → k.steps ≡ reached.steps
steps_of k reached = ap (λ (z : Core). z.steps) (reached.is ∙ core_is reached.topics reached.capacity reached.steps)

-- the RECEIPTs that a connection's DISCONNECTs ask for are that of its only one
pub parting_is : (k : Core) (c : ℕ) → IsReached k → flat_map receipts_of (filter (λ f. is_disconnect f.command) (accepted_of c k.steps))
    ≡ option_map_or (λ id. receipt_frame id ∷ []) (parting_receipt (accepted_of c k.steps)) []
parting_is k c reached = subst (λ steps. OneReceipt (accepted_of c steps)) (sym (steps_of k reached)) (one_receipt reached.topics reached.capacity reached.steps reached.run c)

-- an open connection has accepted no DISCONNECT
pub not_parting : (k : Core) (c : ℕ) → IsReached k → is_reading (connection_at k.world c).standing ≡ true → find (λ f. is_disconnect f.command) (accepted_of c k.steps) ≡ None
not_parting k c reached reading =
    subst (λ steps. find parts_by (accepted_of c steps) ≡ None) (sym (steps_of k reached))
    (unparted reached.topics reached.capacity reached.steps reached.run c (subst (λ (z : Core). open_in z.world.connections c ≡ true) reached.is reading))
