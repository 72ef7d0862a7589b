-- How many topics and connections there are after a run of the core.
use Rattle.delivery.proofs.Words.All.{◌≡◌, ℕ, suc, ◌+◌, Bool, true, false, cond, not, ◌&&◌, inl, inr, true≢false, List, [], ◌∷◌, ◌++◌, length, Option, Some, None, refl, sym, ap, subst, ◌∙◌, arith, codes, list_all, false≢true, and_parts, option_map_or, option_to_list, length_push, ◌⊎◌, new_topic, Action, action_by, is_known, field, has_destination, with_destination, RawFrame, some_same, World, new_topics, subscription_at, Move, world_after, answer_to, move_effect, run, refusal_of, AddsTopic, Opens, Connects, Disconnects, Errs, Lost, Leaves, Decides, Withdraws, Takes, Standing, Event, Outcome, TopicList, CoreStep, Reading, frame_in, has_effect, is_cut, Core, log_limit, core_after, core_for, core_of, moves, frame_move, names_at, session_at, topic_moves, is_faulted, is_no_memory, outcome_of, cut_of, IsReadAt, IsCoreRun}
use Rattle.stomp_session.specs.declared.action.Action.TheVariants as actions
use Rattle.delivery.proofs.Words.Steps.{run_append, set_length, InEachCase, by_found, always, by_refusal}
use Rattle.delivery.specs.Core.Delivery.{opened_by, opened_in}
use Rattle.delivery.proofs.Core.ByReading.{refusal_some}
use Rattle.delivery.proofs.Core.MoveOfStep
use Rattle.delivery.proofs.Core.MoveOfStep.{Comes, comes, world_then, with_topic}
use Rattle.delivery.proofs.Theorem.NumbersRise.{AddsNone, topics_stay}

-- ---- the machine's moves

-- the move adds no topic
abbrev pub adds_none : Move → Bool
adds_none (AddsTopic clock) = false
adds_none e = true

-- a move that adds no topic and opens no connection
abbrev is_plain : Move → Bool
is_plain (AddsTopic clock) = false
is_plain Opens = false
is_plain e = true

plain_adds : (e : Move) → is_plain e ≡ true → AddsNone e
plain_adds (AddsTopic clock) p = absurd (false≢true p)
plain_adds Opens p = absurd (false≢true p)
plain_adds _ p = tt

-- a move that adds none leaves as many
pub step_adds_none : (w : World) (e : Move) → adds_none e ≡ true → length (world_after w e).topics ≡ length w.topics
step_adds_none w (AddsTopic clock) p = absurd (false≢true p)
step_adds_none w e p = topics_stay w e tt

-- plain moves leave as many topics
run_plain : (ms : List Move) (w : World) → list_all is_plain ms ≡ true → length (run ms w).topics ≡ length w.topics
run_plain [] w p = refl
run_plain (e ∷ es) w p =
    let k = and_parts (is_plain e) (list_all is_plain es) p in
    run_plain es (world_after w e) k.1
    ∙ topics_stay w e (plain_adds e k.0)

-- ---- the moves of an event

frame_plain : (k : Core) (c : ℕ) (action : Action) → list_all is_plain (option_to_list (frame_move k c action)) ≡ true
frame_plain k c (actions.Connected client) = refl
frame_plain k c _ = refl

-- ---- connections

-- there is one more where the outcome, or the same cut, says so
record Opened (w v : World) (o : Outcome) : Type 0 where
  after : length v.connections ≡ length w.connections + opened_by o
  cut : length v.connections ≡ length w.connections + opened_by (cut_of o)

none : {w v : World} {x : Outcome} → length v.connections ≡ length w.connections → opened_by x ≡ 0 → opened_by (cut_of x) ≡ 0 → (z : Outcome) → Some x ≡ Some z → Opened w v z
none {w} {v} {x} same a b z e = subst (Opened w v) (some_same x z e) (record { after = omega (arith, same, a); cut = omega (arith, same, b) })

each_opens : (w : World) (e : Move) → InEachCase (λ v a. (z : Outcome) → outcome_of a ≡ Some z → Opened w v z) w e
each_opens w Opens = always (λ z e. let n = length_push w.connections (record { sender = None; standing = Standing.Open }) in
    subst (Opened w (move_effect w Opens)) (some_same _ z e) (record { after = n; cut = n }))
each_opens w (Connects c claimed) = always (none (set_length w.connections c _) refl refl)
each_opens w (Disconnects c) = always (none (set_length w.connections c _) refl refl)
each_opens w (Errs c) = always (none (set_length w.connections c _) refl refl)
each_opens w (Lost c) = always (none (set_length w.connections c _) refl refl)
each_opens w (Leaves c) = (none (set_length w.connections c _) refl refl, λ s. (none refl refl refl, λ k. none refl refl refl))
each_opens w (Withdraws c) = always (none (set_length w.connections c _) refl refl)
each_opens w (Takes s) = (none (set_length w.connections (subscription_at w s).connection _) refl refl, λ k. none refl refl refl)
each_opens w _ = (none refl refl refl, λ k. none refl refl refl)

move_opens : (w : World) (e : Move) (z : Outcome) → outcome_of (answer_to w e) ≡ Some z → Opened w (world_after w e) z
move_opens w e =
    by_refusal (λ v a. (z : Outcome) → outcome_of a ≡ Some z → Opened w v z) w e
    (λ why z d. subst (Opened w w) (refusal_some (refusal_of why) z d).is (record { after = omega arith; cut = omega arith }))
    (λ n. by_found (λ v a. (z : Outcome) → outcome_of a ≡ Some z → Opened w v z) w e (each_opens w e))

plain_none : (o : Outcome) → (MoveOfStep.is_plain o ≡ true) ⊎ (is_faulted o ≡ true) → opened_by o ≡ 0
plain_none (Outcome.Opened c) h = absurd (elim h [ inl e ↦ false≢true e | inr e ↦ false≢true e ])
plain_none _ h = refl

-- a step opens so many
step_opens : (k : Core) (e : Event) (rd : Reading) (o : Outcome) → Comes k e rd o → length (world_then k e rd o).connections ≡ length k.world.connections + opened_by o
step_opens k e rd o (inl h) = let same = ap (λ (w : World). length w.connections) h.0 in let n = plain_none o (inl h.1) in omega (arith, same, n)
step_opens k e rd o (inr (inl h)) =
    let w = k.world in let same = ap (λ (v : World). length v.connections) h.world in let n = plain_none o (inr h.faulted) in
    let m = by_refusal (λ v a. length v.connections ≡ length w.connections) w (Errs h.connection) (λ why. refl) (λ n. set_length w.connections h.connection _) in omega (arith, same, n, m)
step_opens k e rd o (inr (inr (inl h))) =
    let w = k.world in let same = ap (λ (v : World). length v.connections) h.world in let m = move_opens w h.move h.base h.is in
    same ∙ elim h.cut [ inl d ↦ m.after ∙ ap (λ z. length w.connections + opened_by z) d | inr d ↦ m.cut ∙ ap (λ z. length w.connections + opened_by z) d ]
step_opens k e rd o (inr (inr (inr (inl h)))) =
    let w = k.world in let c = h.connection in let v = world_after w (Decides c) in
    let same = ap (λ (z : World). length z.connections) h.world in let m = move_opens w (Decides c) h.base h.is in
    let lost = by_refusal (λ z a. length z.connections ≡ length v.connections) v (Lost c) (λ why. refl) (λ n. set_length v.connections c _) in
    same ∙ (lost ∙ elim h.cut [ inl d ↦ m.after ∙ ap (λ z. length w.connections + opened_by z) d | inr d ↦ m.cut ∙ ap (λ z. length w.connections + opened_by z) d ])
step_opens k e rd o (inr (inr (inr (inr h)))) = elim h.then [
  | inl (is, plain) ↦ (let same = ap (λ (w : World). length w.connections) is in let n = plain_none o (inl plain) in omega (arith, same, n))
  | inr (mv, own, topic, is, came) ↦ ap (λ (w : World). length w.connections) is ∙ (move_opens (with_topic k.world) mv o came).after
]

-- ---- topics

-- a topic is made where a name is new
made_both : (a known : Bool) (names : List (List ℕ)) (name : List ℕ) (w : World) → length w.topics ≡ length names
    → length (run (cond (a && not known) (AddsTopic 0 ∷ []) []) w).topics ≡ length (cond a (cond known names (names ++ name ∷ [])) names)
made_both true true names name w h = h
made_both true false names name w h =
    let a = length_push w.topics (new_topic (record { 0 = length w.topics }) w.log_limit 0) in let b = length_push names name in omega (arith, a, b, h)
made_both false known names name w h = h

-- there is a topic for each name once a frame's destination has one
pub topic_for_name : (k : Core) (f : RawFrame) → length k.world.topics ≡ length (names_at k) → length (core_for k f).world.topics ≡ length (with_destination f (names_at k))
topic_for_name k f h = made_both (has_destination f.command) (is_known (field (codes "destination") f) (names_at k)) (names_at k) (field (codes "destination") f) k.world h

next_topics : (k : Core) (c : ℕ) (a b : Bool) (read : Option RawFrame) → (a ≡ true → b ≡ false) → length k.world.topics ≡ length (names_at k) → length
    (run
    (cond a (Errs c ∷ []) (cond b (option_map_or (λ f. topic_moves (names_at k) f ++ option_to_list (frame_move k c (action_by f.command (session_at k c) f))) read []) [])) k.world).topics
    ≡ length (option_map_or (λ f. with_destination f (names_at k)) (cond b read None) (names_at k))
next_topics k c true true read apart h = absurd (true≢false (apart refl))
next_topics k c true false read apart h = run_plain (Errs c ∷ []) k.world refl ∙ h
next_topics k c false false read apart h = h
next_topics k c false true None apart h = h
next_topics k c false true (Some f) apart h =
    let ms = option_to_list (frame_move k c (action_by f.command (session_at k c) f)) in
    ap (λ (w : World). length w.topics) (run_append (topic_moves (names_at k) f) ms k.world)
    ∙ (run_plain ms (core_for k f).world (frame_plain k c (action_by f.command (session_at k c) f)) ∙ topic_for_name k f h)

pub no_effect : (o : Outcome) → is_faulted o ≡ true → has_effect o ≡ false
no_effect (Outcome.Faulted fault cut) e = refl
no_effect o e = absurd (false≢true e)

-- what reads nothing makes no topic
still_topics : (k : Core) (e : Event) (rd : Reading) (o : Outcome) → rd ≡ Reading.Nothing → list_all is_plain (moves k e rd o) ≡ true → length k.world.topics ≡ length (names_at k)
    → length (run (moves k e rd o) k.world).topics ≡ length (names_at (core_after k (record { event = e; reading = rd; outcome = o })))
still_topics k e rd o is plain h =
    run_plain (moves k e rd o) k.world plain
    ∙ (h ∙ ap (λ (n : Option RawFrame). length (option_map_or (λ f. with_destination f (names_at k)) n (names_at k))) (sym ((elim (has_effect o) as (λ (b : Bool). (q : Reading) → q ≡ Reading.Nothing → cond b (frame_in q) None ≡ None) [ true ↦ λ q n. ap frame_in n | false ↦ λ q n. refl ]) rd is)))

-- after a step there is a topic for each name, where there was before
pub step_topics : (k : Core) (e : Event) (rd : Reading) (o : Outcome) → IsReadAt k e rd → length k.world.topics ≡ length (names_at k)
    → length (run (moves k e rd o) k.world).topics ≡ length (names_at (core_after k (record { event = e; reading = rd; outcome = o })))
step_topics k Event.Open rd o is h = elim (is_no_memory o) as (λ (b : Bool). length (run (cond b [] (Opens ∷ [])) k.world).topics ≡ length k.world.topics) [ true ↦ refl | false ↦ refl ] ∙ still_topics k (Event.Piece 0 []) rd o is refl h
step_topics k (Event.Next c) rd o is h = next_topics k c (is_faulted o) (has_effect o) (frame_in rd) (no_effect o) h
step_topics k (Event.Decide c) rd o is h = still_topics k (Event.Decide c) rd o is (elim (is_cut o) as (λ (b : Bool). list_all is_plain (Decides c ∷ cond b (Lost c ∷ []) []) ≡ true) [ true ↦ refl | false ↦ refl ]) h
step_topics k (Event.Take s) rd o is h = still_topics k (Event.Take s) rd o is (elim (is_no_memory o) as (λ (b : Bool). list_all is_plain (cond b [] (Takes s ∷ [])) ≡ true) [ true ↦ refl | false ↦ refl ]) h
step_topics k e rd o is h = still_topics k e rd o is refl h

-- ---- a run

new_count : (i limit : ℕ) (clocks : List ℕ) → length (new_topics i limit clocks) ≡ length clocks
new_count i limit [] = refl
new_count i limit (clock ∷ clocks) = ap suc (new_count (i + 1) limit clocks)

-- there are as many connections as were opened
pub connections_counted : (topics : TopicList) (capacity : ℕ) (steps : List CoreStep) → IsCoreRun topics capacity steps
    → length (core_of topics capacity steps).world.connections ≡ opened_in steps
connections_counted topics capacity [] run = refl
connections_counted topics capacity (step ∷ older) run =
    let k = core_of topics capacity older in
    step_opens k step.event step.reading step.outcome (comes k step.event step.reading step.outcome run.0.outcome)
    ∙ ap (λ (n : ℕ). n + opened_by step.outcome) (connections_counted topics capacity older run.1)

-- there is a topic for each name
pub topics_counted : (topics : TopicList) (capacity : ℕ) (steps : List CoreStep) → length topics.clocks ≡ length topics.names → IsCoreRun topics capacity steps
    → length (core_of topics capacity steps).world.topics ≡ length (names_at (core_of topics capacity steps))
topics_counted topics capacity [] same run = new_count 0 65536 topics.clocks ∙ same
topics_counted topics capacity (step ∷ older) same run =
    let k = core_of topics capacity older in step_topics k step.event step.reading step.outcome run.0.reading (topics_counted topics capacity older same run.1)

-- both
pub counted : (topics : TopicList) (capacity : ℕ) (steps : List CoreStep) → length topics.clocks ≡ length topics.names → IsCoreRun topics capacity steps
    → (length (core_of topics capacity steps).world.topics ≡ length (names_at (core_of topics capacity steps)))
    × (length (core_of topics capacity steps).world.connections ≡ opened_in steps)
counted topics capacity steps same run = (topics_counted topics capacity steps same run, connections_counted topics capacity steps run)

-- ---- how many rows a topic holds

-- no move changes it
effect_limit : (w : World) (e : Move) → InEachCase (λ v o. v.log_limit ≡ w.log_limit) w e
effect_limit w (Leaves c) = (refl, λ s. (refl, λ k. refl))
effect_limit w _ = (refl, λ k. refl)

run_limit : (ms : List Move) (w : World) → (run ms w).log_limit ≡ w.log_limit
run_limit [] w = refl
run_limit (e ∷ es) w =
    run_limit es (world_after w e) ∙ by_refusal (λ v o. v.log_limit ≡ w.log_limit) w e (λ why. refl) (λ m. by_found (λ v o. v.log_limit ≡ w.log_limit) w e (effect_limit w e))

-- so it is that of a core
pub limit_counted : (topics : TopicList) (capacity : ℕ) (steps : List CoreStep) → (core_of topics capacity steps).world.log_limit ≡ log_limit
limit_counted topics capacity [] = refl
limit_counted topics capacity (step ∷ older) =
    let k = core_of topics capacity older in run_limit (moves k step.event step.reading step.outcome) k.world ∙ limit_counted topics capacity older
