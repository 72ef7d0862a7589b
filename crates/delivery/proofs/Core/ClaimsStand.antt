-- Whom each connection of a core speaks for, and how many senders there are, is as the accepted CONNECTs say.
use Rattle.delivery.proofs.Words.All.{◌≡◌, ℕ, ◌+◌, ◌<◌, ◌==◌, Bool, true, false, cond, not, ◌&&◌, List, [], ◌∷◌, ◌++◌, length, get_or, set, Option, Some, None, refl, sym, ap, subst, ◌∙◌, arith, true≢false, codes, list_all, position_or_len, option_map, option_map_or, option_and_then, option_to_list, option_or, unwrap_or, false≢true, and_parts, ltb-true, eqb-true, eq-eqb, not-false, length_push, In, Command, RawFrame, CaseFault, is_connect, case_fault, Unread, Action, SessionFault, is_known, field, client_of, has_destination, Held, action_by, session_fault, at_set, at_set_within, none_some, not_true, Objection, World, Connection, SenderState, nobody, new_sender, connection_at, speaker_number, subscription_at, Move, world_after, move_refusal, move_effect, claimed_senders, connect_effect, run, AddsTopic, Opens, Connects, Commits, Disconnects, Errs, Lost, Leaves, Proposes, Decides, Withdraws, Cancels, Takes, Standing, Event, Outcome, ConnectionFault, TopicList, CoreStep, Reading, frame_in, has_effect, Claim, claim_of, claims_of, is_kept, begins, begun_count, kept_sender, claimed_sender, sender_claimed, is_one_client, senders_of, sender_of, is_cut, Core, core_for, core_of, names_at, moves, topic_moves, frame_move, session_at, is_no_memory, frame_no_memory, claim_fault, frame_fault, outcomes, IsCoreRun}
use Rattle.stomp_frame.specs.declared.command.Command.TheVariants as commands
use Rattle.stomp_session.specs.declared.action.Action.TheVariants as actions
use Rattle.delivery.proofs.Words.Steps.{at_push, set_length, by_refusal, checked, by_found, InEachCase, always}
use Rattle.delivery.proofs.Core.ByReading.{by_next}
use Rattle.delivery.proofs.Core.SenderPlaces.{no_place, place_of}
use Rattle.delivery.proofs.Core.Actions.{frame_fits}

-- there are as many senders as have begun, and each connection speaks for whom it claimed
pub record Stand (w : World) (claims : List Claim) : Type 0 where
  pub begun : length w.senders ≡ begun_count claims
  pub spoken : (c : ℕ) → (connection_at w c).sender ≡ sender_claimed c claims

-- ---- a move that claims none

-- there are as many senders as before, and each connection speaks for whom it spoke
record Keeps (w v : World) : Type 0 where
  senders : length v.senders ≡ length w.senders
  spoken : (c : ℕ) → (connection_at v c).sender ≡ (connection_at w c).sender

abbrev is_quiet : Move → Bool
is_quiet (Connects c claimed) = false
is_quiet e = true

senders_alone : {w v : World} → length v.senders ≡ length w.senders → v.connections ≡ w.connections → Keeps w v
senders_alone {w} same e = record { senders = same; spoken = λ c. ap (λ (z : List Connection). (get_or z c nobody).sender) e }

-- a connection stands otherwise
stood : {w v : World} (c : ℕ) (standing : Standing) → length v.senders ≡ length w.senders
    → v.connections ≡ set w.connections c (record { sender = (connection_at w c).sender; standing = standing }) → Keeps w v
stood {w} c standing same e = record {
  senders = same;
  spoken = λ d. ap (λ (z : List Connection). (get_or z d nobody).sender) e
      ∙ at_set (λ (z : Connection). z.sender ≡ (connection_at w d).sender) w.connections c d _ nobody (λ k. ap (λ n. (connection_at w n).sender) (sym k)) refl;
}

effect_keeps : (w : World) (e : Move) → is_quiet e ≡ true → InEachCase (λ v o. Keeps w v) w e
effect_keeps w (Connects c claimed) q = absurd (false≢true q)
effect_keeps w Opens q = always (record {
  senders = refl;
  spoken = λ c. at_push (λ (z : Connection). z.sender ≡ (connection_at w c).sender) w.connections c _ nobody (λ k e. e) refl;
})
effect_keeps w (Commits c sends) q = (senders_alone refl refl, λ k. senders_alone (set_length w.senders (speaker_number w c) _) refl)
effect_keeps w (Disconnects c) q = always (stood c Standing.Leaving refl refl)
effect_keeps w (Errs c) q = always (stood c Standing.Leaving refl refl)
effect_keeps w (Lost c) q = always (stood c Standing.Leaving refl refl)
effect_keeps w (Leaves c) q = (stood c Standing.Gone refl refl, λ s. (senders_alone refl refl, λ k. senders_alone refl refl))
effect_keeps w (Proposes c t memory) q = (senders_alone (set_length w.senders (speaker_number w c) _) refl, λ k. senders_alone (set_length w.senders (speaker_number w c) _) refl)
effect_keeps w (Decides c) q = always (senders_alone (set_length w.senders (speaker_number w c) _) refl)
effect_keeps w (Withdraws c) q = always (stood c Standing.Leaving (set_length w.senders (speaker_number w c) _) refl)
effect_keeps w (Cancels c t) q = (senders_alone refl refl, λ k. senders_alone (set_length w.senders (speaker_number w c) _) refl)
effect_keeps w (Takes s) q = (stood (subscription_at w s).connection Standing.Leaving refl refl, λ k. senders_alone refl refl)
effect_keeps w _ q = (senders_alone refl refl, λ k. senders_alone refl refl)

quiet_stand : (w : World) (e : Move) (claims : List Claim) → is_quiet e ≡ true → Stand w claims → Stand (world_after w e) claims
quiet_stand w e claims q h =
    let k = by_refusal (λ v o. Keeps w v) w e (λ why. senders_alone refl refl) (λ n. by_found (λ v o. Keeps w v) w e (effect_keeps w e q)) in
    record { begun = k.senders ∙ h.begun; spoken = λ c. k.spoken c ∙ h.spoken c }

run_stand : (ms : List Move) (w : World) (claims : List Claim) → list_all is_quiet ms ≡ true → Stand w claims → Stand (run ms w) claims
run_stand [] w claims q h = h
run_stand (e ∷ es) w claims q h = let k = and_parts (is_quiet e) (list_all is_quiet es) q in run_stand es (world_after w e) claims k.1 (quiet_stand w e claims k.0 h)

-- ---- a claim

claim_counts : (client : Option (List ℕ)) (claims : List Claim) (senders : List SenderState) → length senders ≡ begun_count claims
    → length (claimed_senders senders (claimed_sender client claims)) ≡ cond (begins client claims) (begun_count claims + 1) (begun_count claims)
claim_counts None claims senders h = let m = length_push senders new_sender in omega (arith, m, h)
claim_counts (Some id) claims senders h = elim (is_kept id claims) as (λ (b : Bool). length (claimed_senders senders (cond b (Some (Rattle.delivery.specs.Core.Claims.kept_sender id claims)) None)) ≡ cond (not b) (begun_count claims + 1) (begun_count claims)) [
  | true ↦ h
  | false ↦ (let m = length_push senders new_sender in omega (arith, m, h))
]

claimed_stand : (w : World) (c : ℕ) (client : Option (List ℕ)) (claims : List Claim) → c < length w.connections → Stand w claims
    → Stand (connect_effect w c (claimed_sender client claims)) (record { connection = c; client = client } ∷ claims)
claimed_stand w c client claims l h = record {
  begun = claim_counts client claims w.senders h.begun;
  spoken = λ d. at_set_within (λ (z : Connection). z.sender ≡ cond (c == d) (Some (unwrap_or (claimed_sender client claims) (begun_count claims))) (sender_claimed d claims))
      w.connections c d _ nobody l
      (λ k. ap (λ (n : ℕ). Some (unwrap_or (claimed_sender client claims) n)) h.begun
      ∙ sym (ap (λ (b : Bool). cond b (Some (unwrap_or (claimed_sender client claims) (begun_count claims))) (sender_claimed d claims)) (eq-eqb c d (sym k))))
      (λ ne. h.spoken d
      ∙ sym (ap (λ (b : Bool). cond b (Some (unwrap_or (claimed_sender client claims) (begun_count claims))) (sender_claimed d claims))
      (not_true (c == d) refl (λ e. ne (sym (eqb-true c d e))))));
}

-- ---- an accepted frame

-- a frame that asks for a claim is a CONNECT, and the claim is of its client-id
pub connect_of : (command : Command) (s : Held) (f : RawFrame) (client : Option (List ℕ)) → action_by command s f ≡ actions.Connected client
    → (is_connect command ≡ true) × (client_of f ≡ client)
connect_of command s f client e = frame_fits command s f e

-- each CONNECT asks for it
pub claims_asked : (command : Command) (s : Held) (f : RawFrame) → is_connect command ≡ true → action_by command s f ≡ actions.Connected (client_of f)
claims_asked commands.Connect s f e = refl
claims_asked commands.Stomp s f e = refl
claims_asked _ s f e = absurd (false≢true e)

pub connect_plain : (command : Command) → is_connect command ≡ true → has_destination command ≡ false
connect_plain commands.Connect e = refl
connect_plain commands.Stomp e = refl
connect_plain _ e = absurd (false≢true e)

-- nothing stands against the frame
pub record Unobjected (k : Core) (c : ℕ) (f : RawFrame) : Type 0 where
  pub session : session_fault (session_at k c) f ≡ None
  pub move : option_and_then (λ mv. move_refusal (core_for k f).world mv) (frame_move k c (action_by f.command (session_at k c) f)) ≡ None

-- so it is where nothing is at fault with it
pub unobjected : (k : Core) (c : ℕ) (f : RawFrame) → frame_fault k c f ≡ None → Unobjected k c f
unobjected k c f e =
    by (case_fault f) (session_fault (session_at k c) f) refl (claim_fault k (action_by f.command (session_at k c) f))
    (option_and_then (λ mv. move_refusal (core_for k f).world mv) (frame_move k c (action_by f.command (session_at k c) f))) refl e
  where
    by : (a : Option CaseFault) (b : Option SessionFault) → session_fault (session_at k c) f ≡ b → (y : Option ConnectionFault) (x : Option Objection)
        → option_and_then (λ mv. move_refusal (core_for k f).world mv) (frame_move k c (action_by f.command (session_at k c) f)) ≡ x
        → option_or (option_map ConnectionFault.Frame a) (option_or (option_map ConnectionFault.Session b) (option_or y (option_map (λ why. frame_no_memory) x))) ≡ None → Unobjected k c f
    by (Some a) b s y x m e = none_some _ (sym e)
    by None (Some b) s y x m e = none_some _ (sym e)
    by None None s (Some y) x m e = none_some _ (sym e)
    by None None s None (Some x) m e = none_some _ (sym e)
    by None None s None None m e = record { session = s; move = m }

-- a frame that has had its effect had no fault
faultless : (k : Core) (c : ℕ) (f : RawFrame) (left : Unread) (o : Outcome) → has_effect o ≡ true → In o (outcomes k (Event.Next c) (Reading.Finds f left)) → frame_fault k c f ≡ None
faultless k c f left o effect i =
    by_next k c (λ rd o. has_effect o ≡ true → option_and_then (frame_fault k c) (frame_in rd) ≡ None) (λ rd why h. absurd (false≢true h)) (λ rd fault cut n h. absurd (false≢true h)) (λ f left o n e j h. e)
    (Reading.Finds f left) o i effect

quiet_action : (k : Core) (c : ℕ) (action : Action) → ((client : Option (List ℕ)) → action ≡ actions.Connected client → Prim.⊥) → list_all is_quiet (option_to_list (frame_move k c action)) ≡ true
quiet_action k c (actions.Connected client) n = absurd (n client refl)
quiet_action k c _ n = refl

-- the moves of an accepted frame, and its claim
found_stand : (k : Core) (c : ℕ) (f : RawFrame) (left : Unread) (o : Outcome) → has_effect o ≡ true → In o (outcomes k (Event.Next c) (Reading.Finds f left)) → Stand k.world (claims_of k.steps)
    → Stand (run (topic_moves (names_at k) f ++ option_to_list (frame_move k c (action_by f.command (session_at k c) f))) k.world) (claim_of (Event.Next c) (Some f) ++ claims_of k.steps)
found_stand k c f left o effect i h = by_connect (is_connect f.command) refl
  where
    action : Action
    action = action_by f.command (session_at k c) f

    claims : List Claim
    claims = claims_of k.steps

    by_connect : (b : Bool) → is_connect f.command ≡ b
        → Stand (run (topic_moves (names_at k) f ++ option_to_list (frame_move k c action)) k.world) (cond b (record { connection = c; client = client_of f } ∷ []) [] ++ claims)
    by_connect false e =
        run_stand (topic_moves (names_at k) f ++ option_to_list (frame_move k c action)) k.world claims
        ((elim (has_destination f.command && not (is_known (field (codes "destination") f) (names_at k))) as (λ (b : Bool). list_all is_quiet (option_to_list (frame_move k c action)) ≡ true → list_all is_quiet (cond b (AddsTopic 0 ∷ []) [] ++ (option_to_list (frame_move k c action))) ≡ true) [
          | true ↦ λ q. q
          | false ↦ λ q. q
        ]) (quiet_action k c action (λ client d. true≢false (sym (connect_of f.command (session_at k c) f client d).0 ∙ e)))) h
    by_connect true e =
        let asks = claims_asked f.command (session_at k c) f e in let mv = Connects c (claimed_sender (client_of f) claims) in
        let none : topic_moves (names_at k) f ≡ [] =
        ap (λ (b : Bool). cond (b && not (is_known (field (codes "destination") f) (names_at k))) (AddsTopic 0 ∷ []) []) (connect_plain f.command e) in
        let free : move_refusal k.world mv ≡ None =
        ap (λ ms. move_refusal (run ms k.world) mv) (sym none)
        ∙ (ap (λ (a : Action). option_and_then (λ m. move_refusal (core_for k f).world m) (frame_move k c a)) (sym asks)
        ∙ (unobjected k c f (faultless k c f left o effect i)).move) in
        let world : run (topic_moves (names_at k) f ++ option_to_list (frame_move k c action)) k.world ≡ connect_effect k.world c (claimed_sender (client_of f) claims) =
        ap (λ ms. run (ms ++ option_to_list (frame_move k c action)) k.world) none
        ∙ (ap (λ (a : Action). run (option_to_list (frame_move k c a)) k.world) asks
        ∙ ap (λ (why : Option Objection). elim why [ None ↦ move_effect k.world mv | Some x ↦ k.world ]) free) in
        subst (λ w. Stand w (record { connection = c; client = client_of f } ∷ claims)) (sym world)
        (claimed_stand k.world c (client_of f) claims (ltb-true c (length k.world.connections) (not-false _ (checked k.world mv free).0)) h)

-- ---- a step

read_stand : (k : Core) (c : ℕ) (rd : Reading) (o : Outcome) → has_effect o ≡ true → In o (outcomes k (Event.Next c) rd) → Stand k.world (claims_of k.steps)
    → Stand (run (option_map_or (λ f. topic_moves (names_at k) f ++ option_to_list (frame_move k c (action_by f.command (session_at k c) f))) (frame_in rd) []) k.world)
    (claim_of (Event.Next c) (frame_in rd) ++ claims_of k.steps)
read_stand k c (Reading.Finds f left) o effect i h = found_stand k c f left o effect i h
read_stand k c Reading.Nothing o effect i h = h
read_stand k c (Reading.Waits left) o effect i h = h
read_stand k c (Reading.Fails check left) o effect i h = h

-- the moves of a Next, and its claim
abbrev NextStands : Core → ℕ → Reading → Outcome → Type 0
NextStands k c rd o = Stand (run (moves k (Event.Next c) rd o) k.world) (claim_of (Event.Next c) (cond (has_effect o) (frame_in rd) None) ++ claims_of k.steps)

next_stand : (k : Core) (c : ℕ) (rd : Reading) (o : Outcome) → In o (outcomes k (Event.Next c) rd) → Stand k.world (claims_of k.steps) → NextStands k c rd o
next_stand k c rd (Outcome.Faulted fault cut) i h = quiet_stand k.world (Errs c) (claims_of k.steps) refl h
next_stand k c rd Outcome.Done i h = read_stand k c rd Outcome.Done refl i h
next_stand k c rd (Outcome.Subscribed s from) i h = read_stand k c rd (Outcome.Subscribed s from) refl i h
next_stand k c rd (Outcome.Unsubscribed s to) i h = read_stand k c rd (Outcome.Unsubscribed s to) refl i h
next_stand k c rd (Outcome.Flying id) i h = read_stand k c rd (Outcome.Flying id) refl i h
next_stand k c rd Outcome.Leaving i h = read_stand k c rd Outcome.Leaving refl i h
next_stand k c rd _ i h = h

step_stand : (k : Core) (e : Event) (rd : Reading) (o : Outcome) → In o (outcomes k e rd) → Stand k.world (claims_of k.steps)
    → Stand (run (moves k e rd o) k.world) (claim_of e (cond (has_effect o) (frame_in rd) None) ++ claims_of k.steps)
step_stand k (Event.Next c) rd o i h = next_stand k c rd o i h
step_stand k Event.Open rd o i h = run_stand (moves k Event.Open rd o) k.world (claims_of k.steps) (elim (is_no_memory o) as (λ (b : Bool). list_all is_quiet (cond b [] (Opens ∷ [])) ≡ true) [ true ↦ refl | false ↦ refl ]) h
step_stand k (Event.Decide c) rd o i h = run_stand (moves k (Event.Decide c) rd o) k.world (claims_of k.steps) (elim (is_cut o) as (λ (b : Bool). list_all is_quiet (Decides c ∷ cond b (Lost c ∷ []) []) ≡ true) [ true ↦ refl | false ↦ refl ]) h
step_stand k (Event.Take s) rd o i h = run_stand (moves k (Event.Take s) rd o) k.world (claims_of k.steps) (elim (is_no_memory o) as (λ (b : Bool). list_all is_quiet (cond b [] (Takes s ∷ [])) ≡ true) [ true ↦ refl | false ↦ refl ]) h
step_stand k event rd o i h = run_stand (moves k event rd o) k.world (claims_of k.steps) refl h

-- the steps of a core are those that led to it
pub core_steps : (topics : TopicList) (capacity : ℕ) (steps : List CoreStep) → (core_of topics capacity steps).steps ≡ steps
core_steps topics capacity [] = refl
core_steps topics capacity (step ∷ older) = ap (λ (ss : List CoreStep). step ∷ ss) (core_steps topics capacity older)

-- so it is in each run of the core
pub claims_stand : (topics : TopicList) (capacity : ℕ) (steps : List CoreStep) → IsCoreRun topics capacity steps → Stand (core_of topics capacity steps).world (claims_of steps)
claims_stand topics capacity [] r = record { begun = refl; spoken = λ c. refl }
claims_stand topics capacity (step ∷ older) r =
    let k = core_of topics capacity older in let is = core_steps topics capacity older in
    subst (λ (ss : List CoreStep). Stand (run (moves k step.event step.reading step.outcome) k.world) (claim_of step.event (cond (has_effect step.outcome) (frame_in step.reading) None) ++ claims_of ss)) is
    (step_stand k step.event step.reading step.outcome r.0.outcome (subst (λ (ss : List CoreStep). Stand k.world (claims_of ss)) (sym is) (claims_stand topics capacity older r.1)))

-- the same by the core's own steps
pub core_stands : (topics : TopicList) (capacity : ℕ) (steps : List CoreStep) → IsCoreRun topics capacity steps
    → Stand (core_of topics capacity steps).world (claims_of (core_of topics capacity steps).steps)
core_stands topics capacity steps r =
    subst (λ (ss : List CoreStep). Stand (core_of topics capacity steps).world (claims_of ss)) (sym (core_steps topics capacity steps)) (claims_stand topics capacity steps r)

-- what a connection's claim gives it, as a number
number_claimed : (c : ℕ) (claims : List Claim) → unwrap_or (sender_claimed c claims) 0 ≡ sender_of c claims
number_claimed c [] = refl
number_claimed c (claim ∷ before) = by (claim.connection == c) claim.client (number_claimed c before)
  where
    kept : (id : List ℕ) (k : Bool) → unwrap_or (cond k (Some (kept_sender id before)) None) (begun_count before) ≡ cond k (kept_sender id before) (begun_count before)
    kept id true = refl
    kept id false = refl

    by : (b : Bool) (o : Option (List ℕ)) → unwrap_or (sender_claimed c before) 0 ≡ sender_of c before
        → unwrap_or (cond b (Some (unwrap_or (claimed_sender o before) (begun_count before))) (sender_claimed c before)) 0
        ≡ cond b (position_or_len (is_one_client o) (senders_of before)) (sender_of c before)
    by false o same = same
    by true None same = sym (no_place before)
    by true (Some id) same = kept id (is_kept id before) ∙ sym (place_of id before)

-- whom a connection speaks for its claim says
pub claims_own : {w : World} (older : List CoreStep) → Stand w (claims_of older) → (c s : ℕ) → (connection_at w c).sender ≡ Some s → s ≡ sender_of c (claims_of older)
claims_own older h c s e = ap (λ (o : Option ℕ). unwrap_or o 0) (sym e ∙ h.spoken c) ∙ number_claimed c (claims_of older)
