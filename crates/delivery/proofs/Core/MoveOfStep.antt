-- Which move of the machine a step of the core is.
use Rattle.delivery.proofs.Words.All.{◌≡◌, ℕ, Bool, true, false, cond, not, ◌&&◌, ◌⊎◌, inl, inr, List, [], ◌∷◌, ◌++◌, length, Option, Some, None, refl, sym, ap, subst, ◌∙◌, codes, option_map_or, option_and_then, option_to_list, Topic, SentMessage, first_refusal, In, RawFrame, Unread, Action, action_by, is_known, field, has_destination, some_same, Objection, refusal_of, World, topic_at, Move, Answer, needs_open, move_refusal, answer_to, world_after, commit_answer, end_now, run, move_topic, AddsTopic, Opens, Connects, Commits, Subscribes, Unsubscribes, Disconnects, Errs, Lost, Leaves, Proposes, Decides, Withdraws, Cancels, Learns, Releases, Turns, Takes, Event, Outcome, Reading, number_by, has_effect, is_cut, Core, core_for, names_at, session_at, frame_move, is_faulted, is_no_memory, is_out_of_memory, moves, outcome_of, move_outcome, unless, cut_of, outcomes, event_topic, claims_of, claimed_sender}
use Rattle.stomp_session.specs.declared.action.Action.TheVariants as actions
use Rattle.delivery.proofs.Words.Steps.{same_world, In-append_cases}
use Rattle.delivery.proofs.Words.Changes.{in_option, refusal_some, replied, same_memory, unobjected, by_next}
use Rattle.delivery.proofs.Core.ReadingsShown.{effect_of}

-- ---- the moves of an event

-- a move of a frame that is accepted
abbrev pub is_of_frame : Move → Bool
is_of_frame (Connects c claimed) = true
is_of_frame (Commits c sends) = true
is_of_frame (Subscribes c t) = true
is_of_frame (Unsubscribes c s) = true
is_of_frame (Disconnects c) = true
is_of_frame mv = false

-- the move is one of this event
abbrev pub IsMoveOf : Event → Move → Type 0
IsMoveOf Event.Open mv = mv ≡ Opens
IsMoveOf (Event.Piece c octets) mv = Prim.⊥
IsMoveOf (Event.Next c) mv = is_of_frame mv ≡ true
IsMoveOf (Event.Propose c t) mv = (memory : Bool) × (mv ≡ Proposes c t memory)
IsMoveOf (Event.Decide c) mv = mv ≡ Decides c
IsMoveOf (Event.Withdraw c) mv = mv ≡ Withdraws c
IsMoveOf (Event.Cancel c t) mv = mv ≡ Cancels c t
IsMoveOf (Event.Learn t id) mv = mv ≡ Learns t id
IsMoveOf (Event.Release t) mv = mv ≡ Releases t
IsMoveOf (Event.Turn t) mv = mv ≡ Turns t
IsMoveOf (Event.Take s) mv = mv ≡ Takes s
IsMoveOf (Event.Leave c) mv = mv ≡ Leaves c
IsMoveOf (Event.Lost c) mv = mv ≡ Lost c

-- the outcome is none of a move's that isn't refused
abbrev pub is_plain : Outcome → Bool
is_plain (Outcome.Refused why) = true
is_plain Outcome.Fed = true
is_plain Outcome.NoMemory = true
is_plain Outcome.Done = true
is_plain o = false

-- the world after these moves
abbrev pub world_then : Core → Event → Reading → Outcome → World
world_then k e rd o = run (moves k e rd o) k.world

-- the step is this move, and what came of it; its reply may be left out
pub record Moved (k : Core) (e : Event) (rd : Reading) (o : Outcome) : Type 0 where
  pub move : Move
  pub own : IsMoveOf e move
  pub topic : move_topic k.world move ≡ event_topic k e rd
  pub world : world_then k e rd o ≡ world_after k.world move
  pub base : Outcome
  pub is : outcome_of (answer_to k.world move) ≡ Some base
  pub cut : (base ≡ o) ⊎ (cut_of base ≡ o)

-- the step is a decision whose RECEIPT was left out: its connection is lost, too
pub record DecidedAndLost (k : Core) (e : Event) (rd : Reading) (o : Outcome) : Type 0 where
  pub connection : ℕ
  pub event : e ≡ Event.Decide connection
  pub world : world_then k e rd o ≡ world_after (world_after k.world (Decides connection)) (Lost connection)
  pub base : Outcome
  pub is : outcome_of (answer_to k.world (Decides connection)) ≡ Some base
  pub cut : (base ≡ o) ⊎ (cut_of base ≡ o)
  pub was_cut : is_cut o ≡ true

-- the step is an ERROR
pub record Erred (k : Core) (e : Event) (rd : Reading) (o : Outcome) : Type 0 where
  pub connection : ℕ
  pub world : world_then k e rd o ≡ world_after k.world (Errs connection)
  pub faulted : is_faulted o ≡ true

-- the world once a topic was made
abbrev pub with_topic : World → World
with_topic w = world_after w (AddsTopic 0)

-- after the topic of a frame was made, nothing more was done, or a move of the frame
abbrev pub MovedThen : Core → Event → Reading → Outcome → Type 0
MovedThen k e rd o =
    ((world_then k e rd o ≡ with_topic k.world) × (is_plain o ≡ true))
    ⊎ ((move : Move) × (is_of_frame move ≡ true) × (move_topic k.world move ≡ event_topic k e rd)
    × (world_then k e rd o ≡ world_after (with_topic k.world) move)
    × (outcome_of (answer_to (with_topic k.world) move) ≡ Some o))

-- the step is a frame that makes its topic, and what it does then
pub record MadeTopic (k : Core) (e : Event) (rd : Reading) (o : Outcome) : Type 0 where
  pub connection : ℕ
  pub event : e ≡ Event.Next connection
  pub effect : has_effect o ≡ true
  pub then : MovedThen k e rd o

-- what a step is of the machine: nothing, an ERROR, a move, a decision with a loss, or a topic and a move
abbrev pub Comes : Core → Event → Reading → Outcome → Type 0
Comes k e rd o =
    ((world_then k e rd o ≡ k.world) × (is_plain o ≡ true))
    ⊎ (Erred k e rd o ⊎ (Moved k e rd o ⊎ (DecidedAndLost k e rd o ⊎ MadeTopic k e rd o)))

-- ---- outcomes

-- no answer of the machine is that there was no memory
pub remembered : (a : Answer) (o : Outcome) → outcome_of a ≡ Some o → is_no_memory o ≡ false
remembered (Answer.Refused why) o e = let r = refusal_some (refusal_of why) o e in ap is_no_memory (sym r.is)
remembered _ o e = ap is_no_memory (sym (some_same _ o e))

-- an event that is one move, and its outcome
alone : (k : Core) (e : Event) (rd : Reading) (o : Outcome) (mv : Move) → IsMoveOf e mv → move_topic k.world mv ≡ event_topic k e rd
    → world_then k e rd o ≡ world_after k.world mv → outcome_of (answer_to k.world mv) ≡ Some o → Comes k e rd o
alone k e rd o mv own topic world is = inr (inr (inl (record { move = mv; own = own; topic = topic; world = world; base = o; is = is; cut = inl refl })))

-- ---- a Next

-- the moves of an accepted frame, by whether it makes its topic, and its action
abbrev frame_moves : Core → Bool → ℕ → Action → Outcome → List Move
frame_moves k new c action o = cond (is_faulted o) (Errs c ∷ []) (cond (has_effect o) (cond new (AddsTopic 0 ∷ []) [] ++ option_to_list (frame_move k c action)) [])

-- a frame makes its topic
abbrev is_first_use : Core → RawFrame → Bool
is_first_use k f = has_destination f.command && not (is_known (field (codes "destination") f) (names_at k))

-- the world before a frame's own move
abbrev first_world : Core → Bool → World
first_world k new = run (cond new (AddsTopic 0 ∷ []) []) k.world

-- a frame that has its effect is the move of its action
accepted : (k : Core) (c : ℕ) (f : RawFrame) (left : Unread) (o : Outcome) (action : Action) (mv : Move) → action_by f.command (session_at k c) f ≡ action
    → frame_move k c action ≡ Some mv → is_of_frame mv ≡ true → is_faulted o ≡ false → has_effect o ≡ true → outcome_of (answer_to (core_for k f).world mv) ≡ Some o
    → Comes k (Event.Next c) (Reading.Finds f left) o
accepted k c f left o action mv by is own sound effect came = by_use (is_first_use k f) refl
  where
    found : frame_move k c (action_by f.command (session_at k c) f) ≡ Some mv
    found = ap (frame_move k c) by ∙ is

    moved : frame_moves k (is_first_use k f) c (action_by f.command (session_at k c) f) o ≡ cond (is_first_use k f) (AddsTopic 0 ∷ []) [] ++ mv ∷ []
    moved =
        let ms = cond (is_first_use k f) (AddsTopic 0 ∷ []) [] ++ option_to_list (frame_move k c (action_by f.command (session_at k c) f)) in
        ap (λ b. cond b (Errs c ∷ []) (cond (has_effect o) ms [])) sound
        ∙ (ap (λ b. cond b ms []) effect ∙ ap (λ (m : Option Move). cond (is_first_use k f) (AddsTopic 0 ∷ []) [] ++ option_to_list m) found)

    by_use : (new : Bool) → is_first_use k f ≡ new → Comes k (Event.Next c) (Reading.Finds f left) o
    by_use false e =
        alone k (Event.Next c) (Reading.Finds f left) o mv own (sym (ap (option_and_then (move_topic k.world)) found))
        (ap (λ ms. run ms k.world) moved ∙ ap (λ (b : Bool). run (cond b (AddsTopic 0 ∷ []) [] ++ mv ∷ []) k.world) e)
        (subst (λ (b : Bool). outcome_of (answer_to (first_world k b) mv) ≡ Some o) e came)
    by_use true e = inr (inr (inr (inr (record {
      connection = c;
      event = refl;
      effect = effect;
      then = inr (
        mv,
        own,
        sym (ap (option_and_then (move_topic k.world)) found),
        ap (λ ms. run ms k.world) moved ∙ ap (λ (b : Bool). run (cond b (AddsTopic 0 ∷ []) [] ++ mv ∷ []) k.world) e,
        subst (λ (b : Bool). outcome_of (answer_to (first_world k b) mv) ≡ Some o) e came,
      );
    }))))

-- a frame that is done has none
done : (k : Core) (c : ℕ) (f : RawFrame) (left : Unread) (o : Outcome) (action : Action) → action_by f.command (session_at k c) f ≡ action
    → frame_move k c action ≡ None → Outcome.Done ≡ o → Comes k (Event.Next c) (Reading.Finds f left) o
done k c f left o action by is e = subst (Comes k (Event.Next c) (Reading.Finds f left)) e (by_use (is_first_use k f) refl)
  where
    moved : run (frame_moves k (is_first_use k f) c (action_by f.command (session_at k c) f) Outcome.Done) k.world ≡ run (cond (is_first_use k f) (AddsTopic 0 ∷ []) [] ++ []) k.world
    moved = ap (λ (m : Option Move). run (cond (is_first_use k f) (AddsTopic 0 ∷ []) [] ++ option_to_list m) k.world) (ap (frame_move k c) by ∙ is)

    by_use : (new : Bool) → is_first_use k f ≡ new → Comes k (Event.Next c) (Reading.Finds f left) Outcome.Done
    by_use false e = inl (moved ∙ ap (λ (b : Bool). run (cond b (AddsTopic 0 ∷ []) [] ++ []) k.world) e, refl)
    by_use true e = inr (inr (inr (inr (record {
      connection = c;
      event = refl;
      effect = refl;
      then = inl (moved ∙ ap (λ (b : Bool). run (cond b (AddsTopic 0 ∷ []) [] ++ []) k.world) e, refl);
    }))))

accepted_by : (k : Core) (c : ℕ) (f : RawFrame) (left : Unread) (o : Outcome) (action : Action) → action_by f.command (session_at k c) f ≡ action
    → option_and_then (λ mv. move_refusal (core_for k f).world mv) (frame_move k c action) ≡ None
    → In o (option_map_or (move_outcome (core_for k f)) (frame_move k c action) (Outcome.Done ∷ [])) → Comes k (Event.Next c) (Reading.Finds f left) o
accepted_by k c f left o (actions.Connected client) by n i =
    let w = (core_for k f).world in let mv = Connects c (claimed_sender client (claims_of k.steps)) in let is = some_same Outcome.Done o (effect_of w mv o n i) in
    accepted k c f left o (actions.Connected client) mv by refl refl (ap is_faulted (sym is)) (ap has_effect (sym is)) (in_option o _ i)
accepted_by k c f left o actions.Nothing by n i = elim i [ inl e ↦ done k c f left o actions.Nothing by refl e | inr j ↦ absurd j ]
accepted_by k c f left o (actions.Subscribe id t) by n i =
    let w = (core_for k f).world in let is = some_same (Outcome.Subscribed (length w.subscriptions) (topic_at w t).frontier) o (effect_of w (Subscribes c t) o n i) in
    accepted k c f left o (actions.Subscribe id t) (Subscribes c t) by refl refl (ap is_faulted (sym is)) (ap has_effect (sym is)) (in_option o _ i)
accepted_by k c f left o (actions.Unsubscribe id) by n i =
    let w = (core_for k f).world in let s = number_by c id k.steps in let is = some_same (Outcome.Unsubscribed s (end_now w s)) o (effect_of w (Unsubscribes c s) o n i) in
    accepted k c f left o (actions.Unsubscribe id) (Unsubscribes c s) by refl refl (ap is_faulted (sym is)) (ap has_effect (sym is)) (in_option o _ i)
accepted_by k c f left o (actions.Commit sends) by n i =
    (elim sends as (λ (sends : List SentMessage). action_by f.command (session_at k c) f ≡ actions.Commit sends → outcome_of (answer_to (core_for k f).world (Commits c sends)) ≡ Some o → outcome_of (commit_answer (core_for k f).world c sends) ≡ Some o → Comes k (Event.Next c) (Reading.Finds f left) o) [
      | [] ↦ λ by came d. (let is = some_same _ o d in accepted k c f left o (actions.Commit []) (Commits c []) by refl refl (ap is_faulted (sym is)) (ap has_effect (sym is)) came)
      | first ∷ more ↦ λ by came d. (let is = some_same _ o d in accepted k c f left o (actions.Commit (first ∷ more)) (Commits c (first ∷ more)) by refl refl (ap is_faulted (sym is)) (ap has_effect (sym is)) came)
    ]) by (in_option o _ i) (effect_of (core_for k f).world (Commits c sends) o n i)
accepted_by k c f left o actions.Disconnect by n i =
    let is = some_same Outcome.Leaving o (effect_of (core_for k f).world (Disconnects c) o n i) in
    accepted k c f left o actions.Disconnect (Disconnects c) by refl refl (ap is_faulted (sym is)) (ap has_effect (sym is)) (in_option o _ i)

-- ---- the others

opened_comes : (k : Core) (rd : Reading) (o : Outcome) → In o (move_outcome k Opens ++ Outcome.NoMemory ∷ []) → Comes k Event.Open rd o
opened_comes k rd o i = elim (In-append_cases o (move_outcome k Opens) (Outcome.NoMemory ∷ []) i) [
  | inl j ↦ elim j [
    | inl e ↦ subst (Comes k Event.Open rd) e (alone k Event.Open rd _ Opens refl refl refl refl)
    | inr n ↦ absurd n
  ]
  | inr j ↦ elim j [ inl e ↦ subst (Comes k Event.Open rd) e (inl (refl, refl)) | inr n ↦ absurd n ]
]

proposed_comes : (k : Core) (c : ℕ) (t : Topic) (rd : Reading) (o : Outcome) → In o (move_outcome k (Proposes c t true) ++ move_outcome k (Proposes c t false))
    → Comes k (Event.Propose c t) rd o
proposed_comes k c t rd o i = elim (In-append_cases o (move_outcome k (Proposes c t true)) _ i) [
  | inl j ↦ by_memory true (in_option o _ j)
  | inr j ↦ by_memory false (in_option o _ j)
]
  where
    by_memory : (m : Bool) → outcome_of (answer_to k.world (Proposes c t m)) ≡ Some o → Comes k (Event.Propose c t) rd o
    by_memory m d =
        let q = not (is_out_of_memory o) in
        alone k (Event.Propose c t) rd o (Proposes c t q) (q, refl) refl refl
        (same_memory k.world c t m o (move_refusal k.world (Proposes c t m)) _ d)

taken_comes : (k : Core) (s : ℕ) (rd : Reading) (o : Outcome) (why : Option Objection) → move_refusal k.world (Takes s) ≡ why
    → In o (unless why (move_outcome k (Takes s) ++ Outcome.NoMemory ∷ [])) → Comes k (Event.Take s) rd o
taken_comes k s rd o None n i = elim (In-append_cases o (move_outcome k (Takes s)) (Outcome.NoMemory ∷ []) i) [
  | inl j ↦ (let d = in_option o _ j in
      alone k (Event.Take s) rd o (Takes s) refl refl (ap (λ b. run (cond b [] (Takes s ∷ [])) k.world) (remembered (answer_to k.world (Takes s)) o d)) d)
  | inr j ↦ elim j [ inl e ↦ subst (Comes k (Event.Take s) rd) e (inl (refl, refl)) | inr m ↦ absurd m ]
]
taken_comes k s rd o (Some why) n i =
    let r = refusal_some (refusal_of why) o (in_option o _ i) in subst (Comes k (Event.Take s) rd) r.is (inl (same_world k.world (Takes s) why n, refl))

-- an outcome, cut or not
either : {Q : Type 0} (b o : Outcome) → (b ≡ o) ⊎ ((cut_of b ≡ o) × Q) → (b ≡ o) ⊎ (cut_of b ≡ o)
either b o (inl e) = inl e
either b o (inr e) = inr e.0

-- each step of the core is one of these
pub comes : (k : Core) (e : Event) (rd : Reading) (o : Outcome) → In o (outcomes k e rd) → Comes k e rd o
comes k Event.Open rd o i = opened_comes k rd o i
comes k (Event.Piece c octets) rd o i = (elim (first_refusal (needs_open k.world c)) as (λ (why : Option Objection). In o (unless why (Outcome.Fed ∷ Outcome.NoMemory ∷ [])) → Comes k (Event.Piece c octets) rd o) [
  | None ↦ λ i. elim i [ inl e ↦ subst (Comes k (Event.Piece c octets) rd) e (inl (refl, refl)) | inr j ↦ elim j [ inl e ↦ subst (Comes k (Event.Piece c octets) rd) e (inl (refl, refl)) | inr n ↦ absurd n ] ]
  | Some why ↦ λ i. (let r = refusal_some (refusal_of why) o (in_option o _ i) in subst (Comes k (Event.Piece c octets) rd) r.is (inl (refl, refl)))
]) i
comes k (Event.Next c) rd o i =
    by_next k c (Comes k (Event.Next c)) (λ rd why. inl (refl, refl))
    (λ rd fault cut n. inr (inl (record { connection = c; world = refl; faulted = refl })))
    (λ f left o n e j. accepted_by k c f left o (action_by f.command (session_at k c) f) refl (unobjected k c f e).move j)
    rd o i
comes k (Event.Propose c t) rd o i = proposed_comes k c t rd o i
comes k (Event.Decide c) rd o i = (elim (is_cut o) as (λ (b : Bool). is_cut o ≡ b → Comes k (Event.Decide c) rd o) [
  | false ↦ λ e. (let h = replied k c (Event.Decide c) _ o i in inr (inr (inl (record { move = Decides c; own = refl; topic = refl; world = ap (λ b. run (Decides c ∷ cond b (Lost c ∷ []) []) k.world) e; base = h.base; is = h.is; cut = either h.base o h.cut }))))
  | true ↦ λ e. (let h = replied k c (Event.Decide c) _ o i in inr (inr (inr (inl (record { connection = c; event = refl; world = ap (λ b. run (Decides c ∷ cond b (Lost c ∷ []) []) k.world) e; base = h.base; is = h.is; cut = either h.base o h.cut; was_cut = e })))))
]) refl
comes k (Event.Withdraw c) rd o i =
    let h = replied k c (Event.Withdraw c) _ o i in
    inr (inr (inl (record { move = Withdraws c; own = refl; topic = refl; world = refl; base = h.base; is = h.is; cut = either h.base o h.cut })))
comes k (Event.Cancel c t) rd o i = alone k (Event.Cancel c t) rd o (Cancels c t) refl refl refl (in_option o _ i)
comes k (Event.Learn t id) rd o i = alone k (Event.Learn t id) rd o (Learns t id) refl refl refl (in_option o _ i)
comes k (Event.Release t) rd o i = alone k (Event.Release t) rd o (Releases t) refl refl refl (in_option o _ i)
comes k (Event.Turn t) rd o i = alone k (Event.Turn t) rd o (Turns t) refl refl refl (in_option o _ i)
comes k (Event.Take s) rd o i = taken_comes k s rd o (move_refusal k.world (Takes s)) refl i
comes k (Event.Leave c) rd o i =
    let h = replied k c (Event.Leave c) _ o i in
    inr (inr (inl (record { move = Leaves c; own = refl; topic = refl; world = refl; base = h.base; is = h.is; cut = either h.base o h.cut })))
comes k (Event.Lost c) rd o i = alone k (Event.Lost c) rd o (Lost c) refl refl refl (in_option o _ i)
