-- A step shows whether it read a frame: its outcome says so.
use Rattle.delivery.proofs.Words.All.{◌≡◌, ℕ, Bool, true, false, cond, not, ◌&&◌, inl, inr, List, [], ◌∷◌, length, Option, Some, None, refl, sym, ap, subst, ◌∙◌, list_all, is_some, option_map, option_map_or, option_and_then, option_or, option_to_list, SentMessage, first_refusal, In, CaseFault, case_fault, Action, SessionFault, action_by, session_fault, some_same, none_some, Objection, refusal_of, World, topic_at, is_in_use, Move, needs_idle, move_refusal, move_answer, answer_to, commit_answer, end_now, Connects, Commits, Subscribes, Unsubscribes, Disconnects, TopicList, Event, Outcome, ConnectionFault, CoreStep, Reading, frame_in, reads_frame, number_by, Core, core_of, IsReadBy, unread_at, session_at, frame_move, core_for, outcome_of, move_outcome, unless, frame_no_memory, reading_outcomes, outcomes, IsReadAt, IsCoreRun, claim_fault, claims_of, claimed_sender, is_one_too_many, Refusal}
use Rattle.stomp_session.specs.declared.action.Action.TheVariants as actions
use Rattle.delivery.proofs.Core.ShownReadings.{has_frame, says_frame, reads_as_said, shows_reading}
use Rattle.delivery.proofs.Words.Steps.{made_answer}
use Rattle.delivery.proofs.Words.Changes.{in_option, refusal_some, unobjected, IsFaultOf, by_reading}

-- a Next that read this shows it
abbrev Shows : Reading → Outcome → Type 0
Shows rd o = cond (says_frame o) (is_some (frame_in rd)) (not (is_some (frame_in rd))) ≡ true

-- a fault of a claim is of a frame that was read
claimed : (k : Core) (action : Action) (fault : ConnectionFault) → claim_fault k action ≡ Some fault → has_frame fault ≡ true
claimed k (actions.Connected client) fault e =
    by (option_map_or (is_in_use k.world) (claimed_sender client (claims_of k.steps)) false) (is_one_too_many client (claims_of k.steps)) e
  where
    by : (a b : Bool) → first_refusal ((a, ConnectionFault.SenderInUse) ∷ (b, ConnectionFault.TooManyClients) ∷ []) ≡ Some fault → has_frame fault ≡ true
    by true b d = ap has_frame (sym (some_same _ fault d))
    by false true d = ap has_frame (sym (some_same _ fault d))
    by false false d = none_some fault d
claimed k _ fault e = none_some fault e

-- so is each fault of a frame
framed : (a : Option CaseFault) (b : Option SessionFault) (d : Option ConnectionFault) (c : Option Objection) (fault : ConnectionFault) → (d ≡ Some fault → has_frame fault ≡ true)
    → option_or (option_map ConnectionFault.Frame a) (option_or (option_map ConnectionFault.Session b) (option_or d (option_map (λ why. frame_no_memory) c))) ≡ Some fault
    → has_frame fault ≡ true
framed (Some x) b d c fault h e = ap has_frame (sym (some_same _ fault e))
framed None (Some x) d c fault h e = ap has_frame (sym (some_same _ fault e))
framed None None (Some x) c fault h e = h e
framed None None None (Some x) fault h e = ap has_frame (sym (some_same _ fault e))
framed None None None None fault h e = none_some fault e

committed_said : (w : World) (c : ℕ) (sends : List SentMessage) (o : Outcome) → outcome_of (commit_answer w c sends) ≡ Some o → says_frame o ≡ true
committed_said w c [] o d = ap says_frame (sym (some_same _ o d))
committed_said w c (first ∷ others) o d = ap says_frame (sym (some_same _ o d))

-- an outcome of a move that isn't refused is its answer's
pub effect_of : (w : World) (mv : Move) (o : Outcome) → move_refusal w mv ≡ None → In o (option_to_list (outcome_of (answer_to w mv))) → outcome_of (move_answer w mv) ≡ Some o
effect_of w mv o n i = ap outcome_of (sym (made_answer w mv n)) ∙ in_option o _ i

-- the outcome of an accepted frame says that it was read
accepted_said : (k : Core) (w : World) (c : ℕ) (action : Action) (o : Outcome) → option_and_then (λ mv. move_refusal w mv) (frame_move k c action) ≡ None
    → In o (option_map_or (move_outcome (record k { world = w })) (frame_move k c action) (Outcome.Done ∷ [])) → says_frame o ≡ true
accepted_said k w c (actions.Connected client) o n i = ap says_frame (sym (some_same Outcome.Done o (effect_of w (Connects c (claimed_sender client (claims_of k.steps))) o n i)))
accepted_said k w c actions.Nothing o n i = elim i [ inl e ↦ ap says_frame (sym e) | inr j ↦ absurd j ]
accepted_said k w c (actions.Subscribe id t) o n i =
    ap says_frame (sym (some_same (Outcome.Subscribed (length w.subscriptions) (topic_at w t).frontier) o (effect_of w (Subscribes c t) o n i)))
accepted_said k w c (actions.Unsubscribe id) o n i =
    let s = number_by c id k.steps in ap says_frame (sym (some_same (Outcome.Unsubscribed s (end_now w s)) o (effect_of w (Unsubscribes c s) o n i)))
accepted_said k w c (actions.Commit sends) o n i = committed_said w c sends o (effect_of w (Commits c sends) o n i)
accepted_said k w c actions.Disconnect o n i = ap says_frame (sym (some_same Outcome.Leaving o (effect_of w (Disconnects c) o n i)))

read : (rd : Reading) (o : Outcome) (b : Bool) → says_frame o ≡ b → is_some (frame_in rd) ≡ b → Shows rd o
read rd o true e f = ap (λ b. cond b (is_some (frame_in rd)) (not (is_some (frame_in rd)))) e ∙ f
read rd o false e f = ap (λ b. cond b (is_some (frame_in rd)) (not (is_some (frame_in rd)))) e ∙ ap not f

-- whether its reply was left out says nothing of what was read
either_cut : (fault : ConnectionFault) (cut : Bool) → says_frame (Outcome.Faulted fault cut) ≡ has_frame fault
either_cut (ConnectionFault.Stream k) cut = refl
either_cut ConnectionFault.Lagged cut = refl
either_cut ConnectionFault.ReaderNoMemory cut = refl
either_cut _ cut = refl

-- a fault says whether a frame was read
fault_shown : (k : Core) (c : ℕ) (rd : Reading) (fault : ConnectionFault) → IsFaultOf k c rd fault → has_frame fault ≡ is_some (frame_in rd)
fault_shown k c Reading.Nothing fault h = ap has_frame (sym h)
fault_shown k c (Reading.Waits left) fault h = absurd h
fault_shown k c (Reading.Finds f left) fault (inl e) =
    framed (case_fault f) (session_fault (session_at k c) f) (claim_fault k (action_by f.command (session_at k c) f))
    (option_and_then (λ mv. move_refusal (core_for k f).world mv) (frame_move k c (action_by f.command (session_at k c) f))) fault
    (claimed k (action_by f.command (session_at k c) f) fault) e
fault_shown k c (Reading.Finds f left) fault (inr e) = ap has_frame (sym e)
fault_shown k c (Reading.Fails check left) fault h = ap has_frame (sym h)

-- a Next that isn't refused shows what it read
pub idle : (k : Core) (c : ℕ) (rd : Reading) (o : Outcome) → In o (reading_outcomes k c rd) → Shows rd o
idle k c rd o i =
    by_reading k c Shows (λ left. read (Reading.Waits left) (Outcome.Refused Refusal.NoFrame) false refl refl)
    (λ rd fault cut h. read rd (Outcome.Faulted fault cut) (is_some (frame_in rd)) (either_cut fault cut ∙ fault_shown k c rd fault h) refl)
    (λ f left o e j. read (Reading.Finds f left) o true (accepted_said k (core_for k f).world c (action_by f.command (session_at k c) f) o (unobjected k c f e).move j) refl)
    rd o i

-- a Next reads what its reader gives, unless it is refused
abbrev pub ReadsUnless : Core → ℕ → Reading → Option Objection → Type 0
ReadsUnless k c rd why = elim why [ None ↦ IsReadBy (unread_at c k.steps) rd | Some w ↦ rd ≡ Reading.Nothing ]

nothing_read : (e : Event) (rd : Reading) (o : Outcome) → rd ≡ Reading.Nothing → reads_as_said e false o ≡ true → reads_as_said e (is_some (frame_in rd)) o ≡ true
nothing_read e rd o h g = subst (λ z. reads_as_said e (is_some (frame_in z)) o ≡ true) (sym h) g

-- nor does whose Next it is
next_says : (c : ℕ) (o : Outcome) → reads_frame (Event.Next c) o ≡ says_frame o
next_says c (Outcome.Faulted (ConnectionFault.Stream k) cut) = refl
next_says c (Outcome.Faulted ConnectionFault.Lagged cut) = refl
next_says c (Outcome.Faulted ConnectionFault.ReaderNoMemory cut) = refl
next_says c (Outcome.Faulted _ cut) = refl
next_says c _ = refl

event_shows : (k : Core) (e : Event) (rd : Reading) (o : Outcome) → IsReadAt k e rd → In o (outcomes k e rd) → reads_as_said e (is_some (frame_in rd)) o ≡ true
event_shows k (Event.Next c) rd o h i =
    subst (λ (b : Bool). cond b (is_some (frame_in rd)) (not (is_some (frame_in rd))) ≡ true) (sym (next_says c o))
    ((elim (first_refusal (needs_idle k.world c)) as (λ (why : Option Objection). ReadsUnless k c rd why → In o (unless why (reading_outcomes k c rd)) → Shows rd o) [
      | None ↦ λ h i. idle k c rd o i
      | Some why ↦ λ h i. (let r = refusal_some (refusal_of why) o (in_option o _ i) in read rd o false (ap says_frame (sym r.is)) (ap (λ z. is_some (frame_in z)) h))
    ]) h i)
event_shows k event rd o h i = nothing_read event rd o h refl

-- each step of a run shows what it read
pub all_shown : (topics : TopicList) (capacity : ℕ) (steps : List CoreStep) → IsCoreRun topics capacity steps → list_all shows_reading steps ≡ true
all_shown topics capacity [] run = refl
all_shown topics capacity (step ∷ older) run =
    ap (λ b. b && list_all shows_reading older) (event_shows (core_of topics capacity older) step.event step.reading step.outcome run.0.reading run.0.outcome)
    ∙ all_shown topics capacity older run.1
