-- A turn is its learns and its releases, one by one, and what its topic's log gets of it.
use Rattle.delivery.proofs.Words.All.{◌≡◌, ℕ, zero, suc, ◌-◌, ◌<◌, Bool, true, not, inl, inr, List, [], ◌∷◌, ◌++◌, map, length, set, Option, Some, None, refl, sym, ap, ◌∙◌, arith, append_assoc, option_or, option_map, is_some, lt-ltb, le-ltb, ltb-true, not-false, cases_lt, length-set, get_or_past, get_or-set_same, set-get_or, set-set, Decision, Topic, TxnId, LearnFault, first_refusal, LogRow, TopicState, Pending, Entry, row_of, new_topic, learn_fault, after_learn, with_stamp, after_try, after_tries, due_part, after_release, after_releases, after_turn, decided_stamp, map_length, after_release_if, Objection, World, topic_at, with_topic, log_at, Move, world_after, move_effect, is_topic, learn_objection_of, learn_objection, learn_effect, verdict_in, queue_has_room, move_answer, release_answer, run, Learns, Releases, Turns, Released, Turned}
use Rattle.mcast_group.proofs.Learning.{tried_all_held}
use Rattle.delivery.specs.Theorem.Laws
use Rattle.delivery.proofs.Words.Steps.{by_refusal, checked, run_append}

-- the world after a step: the new one, or the old one where it is refused
abbrev stepped : World → World → Option Objection → World
stepped old new o = elim o [ None ↦ new | Some why ↦ old ]

-- ---- a topic that is written

twice : (w : World) (t : Topic) (x y : TopicState) → with_topic (with_topic w t x) t y ≡ with_topic w t y
twice w t x y = ap (λ (z : List TopicState). record w { topics = z }) (set-set w.topics t.0 x y)

unwritten : (w : World) (t : Topic) → with_topic w t (topic_at w t) ≡ w
unwritten w t = ap (λ (z : List TopicState). record w { topics = z }) (set-get_or w.topics t.0 (new_topic t 0 0))

is_read : (w : World) (t : Topic) (x : TopicState) → t.0 < length w.topics → topic_at (with_topic w t x) t ≡ x
is_read w t x room = get_or-set_same w.topics t.0 x (new_topic t 0 0) room

is_there : (w : World) (t : Topic) (x : TopicState) → t.0 < length w.topics → is_topic (with_topic w t x) t ≡ true
is_there w t x room = lt-ltb t.0 (length (set w.topics t.0 x)) (let n = length-set w.topics t.0 x in omega arith)

-- ---- a learning

fault_case : (w : World) (t : Topic) (id : TxnId) (v : Decision) (x : TopicState) (o : Option LearnFault) → let u = with_topic w t x in stepped u (with_topic u t (after_learn id (decided_stamp v) x)) (option_map learn_objection_of o) ≡ with_topic w t (elim o [ None ↦ after_learn id (decided_stamp v) x | Some fault ↦ x ])
fault_case w t id v x None = twice w t x (after_learn id (decided_stamp v) x)
fault_case w t id v x (Some fault) = refl

learn_step : (w : World) (t : Topic) (id : TxnId) (x : TopicState) → t.0 < length w.topics → world_after (with_topic w t x) (Learns t id) ≡ with_topic w t (after_try id (verdict_in w id) x)
learn_step w t id x room =
    let u = with_topic w t x in
    ap (λ (b : Bool). stepped u (move_effect u (Learns t id)) (option_or (first_refusal ((not b, Objection.NotNamed) ∷ [])) (learn_objection u t id (verdict_in w id)))) (is_there w t x room)
    ∙ elim (verdict_in w id) as (λ (o : Option Decision). let u = with_topic w t x in stepped u (learn_effect u t id o) (learn_objection u t id o) ≡ with_topic w t (after_try id o x)) [
      | None ↦ refl
      | Some v ↦ (let u = with_topic w t x in ap (λ (z : TopicState). stepped u (with_topic u t (after_learn id (decided_stamp v) z)) (option_map learn_objection_of (learn_fault id v z))) (is_read w t x room) ∙ fault_case w t id v x (learn_fault id v x))
    ]

learn_steps : (w : World) (t : Topic) (ps : List Pending) (x : TopicState) → t.0 < length w.topics → run (map (λ p. Learns t p.part.id) ps) (with_topic w t x) ≡ with_topic w t (after_tries (verdict_in w) ps x)
learn_steps w t [] x room = refl
learn_steps w t (p ∷ ps) x room =
    ap (run (map (λ q. Learns t q.part.id) ps)) (learn_step w t p.part.id x room)
    ∙ learn_steps w t ps (after_try p.part.id (verdict_in w p.part.id) x) room

-- ---- a release

due_case : (w : World) (t : Topic) (x : TopicState) (o : Option Pending) → let u = with_topic w t x in let y = after_release_if (queue_has_room w) x o in stepped u (with_topic u t y) (option_or (first_refusal ((not (is_some o), Objection.NothingDue) ∷ [])) None) ≡ with_topic w t y
due_case w t x None = refl
due_case w t x (Some p) = twice w t x (after_release_if (queue_has_room w) x (Some p))

release_step : (w : World) (t : Topic) (x : TopicState) → t.0 < length w.topics → world_after (with_topic w t x) (Releases t) ≡ with_topic w t (after_release (queue_has_room w) x)
release_step w t x room =
    let u = with_topic w t x in
    ap (λ (b : Bool). stepped u (move_effect u (Releases t)) (option_or (first_refusal ((not b, Objection.NotNamed) ∷ (not (is_some (due_part (topic_at u t))), Objection.NothingDue) ∷ [])) None)) (is_there w t x room)
    ∙ (ap (λ (z : TopicState). stepped u (with_topic u t (after_release (queue_has_room w) z)) (option_or (first_refusal ((not (is_some (due_part z)), Objection.NothingDue) ∷ [])) None)) (is_read w t x room)
    ∙ due_case w t x (due_part x))

release_steps : (w : World) (t : Topic) (ps : List Pending) (x : TopicState) → t.0 < length w.topics → run (map (λ p. Releases t) ps) (with_topic w t x) ≡ with_topic w t (after_releases (queue_has_room w) (length ps) x)
release_steps w t [] x room = refl
release_steps w t (p ∷ ps) x room =
    ap (run (map (λ q. Releases t) ps)) (release_step w t x room)
    ∙ release_steps w t ps (after_release (queue_has_room w) x) room

-- ---- the whole turn

tried_length : (id : TxnId) (o : Option Decision) (x : TopicState) → length (after_try id o x).pending ≡ length x.pending
tried_length id None x = refl
tried_length id (Some v) x = elim (learn_fault id v x) as (λ (o : Option LearnFault). let y : TopicState = elim o [ None ↦ after_learn id (decided_stamp v) x | Some fault ↦ x ] in length y.pending ≡ length x.pending) [
  | None ↦ map_length (with_stamp id (decided_stamp v)) x.pending
  | Some fault ↦ refl
]

all_length : (find : TxnId → Option Decision) (ps : List Pending) (x : TopicState) → length (after_tries find ps x).pending ≡ length x.pending
all_length find [] x = refl
all_length find (p ∷ ps) x = all_length find ps (after_try p.part.id (find p.part.id) x) ∙ tried_length p.part.id (find p.part.id) x

abbrev steps_of : Topic → List Pending → List Move
steps_of t ps = map (λ p. Learns t p.part.id) ps ++ map (λ p. Releases t) ps

turn_within : (w : World) (t : Topic) → t.0 < length w.topics → with_topic w t (after_turn (queue_has_room w) (verdict_in w) (topic_at w t)) ≡ run (steps_of t (topic_at w t).pending) w
turn_within w t room =
    let x = topic_at w t in let y = after_tries (verdict_in w) x.pending x in
    let learns = map (λ (p : Pending). Learns t p.part.id) x.pending in let releases = map (λ (p : Pending). Releases t) x.pending in
    ap (λ (k : ℕ). with_topic w t (after_releases (queue_has_room w) k y)) (all_length (verdict_in w) x.pending x)
    ∙ (sym (release_steps w t x.pending y room)
    ∙ (ap (run releases) (sym (learn_steps w t x.pending x room))
    ∙ (ap (λ (v : World). run releases (run learns v)) (unwritten w t) ∙ sym (run_append learns releases w))))

turn_when : (w : World) (t : Topic) (b : Bool) → is_topic w t ≡ b → world_after w (Turns t) ≡ stepped w (move_effect w (Turns t)) (option_or (first_refusal ((not b, Objection.NotNamed) ∷ [])) None)
turn_when w t b e = ap (λ (z : Bool). stepped w (move_effect w (Turns t)) (option_or (first_refusal ((not z, Objection.NotNamed) ∷ [])) None)) e

-- a turn is a learn for each pending part, and then as many releases
pub turn_is_its_steps : Laws.TurnIsItsSteps
turn_is_its_steps w t = elim (cases_lt t.0 (length w.topics)) [
  | inl l ↦ turn_when w t true (lt-ltb t.0 (length w.topics) l) ∙ turn_within w t l
  | inr l ↦ turn_when w t _ (le-ltb t.0 (length w.topics) l)
      ∙ ap (λ (x : TopicState). run (steps_of t x.pending) w) (sym (get_or_past w.topics t.0 (new_topic t 0 0) l))
]

-- ---- the log

-- y's log is x's with more rows behind
pub record Longer (x y : TopicState) : Type 0 where
  pub rows : List LogRow
  pub is : y.held ≡ x.held ++ rows

append_nothing : (xs : List LogRow) → xs ≡ xs ++ []
append_nothing [] = refl
append_nothing (x ∷ xs) = ap (λ z. x ∷ z) (append_nothing xs)

pub Longer-same : (x y : TopicState) → y.held ≡ x.held → Longer x y
Longer-same x y e = record { rows = []; is = e ∙ append_nothing x.held }

Longer-then : (x y z : TopicState) → Longer x y → Longer y z → Longer x z
Longer-then x y z a b = record { rows = a.rows ++ b.rows; is = b.is ∙ (ap (λ (rows : List LogRow). rows ++ b.rows) a.is ∙ append_assoc x.held a.rows b.rows) }

pub released_longer : (accepts : Entry → Bool) (x : TopicState) (o : Option Pending) → Longer x (after_release_if accepts x o)
released_longer accepts x None = Longer-same x x refl
released_longer accepts x (Some p) = record { rows = row_of p ∷ []; is = refl }

times_longer : (accepts : Entry → Bool) (k : ℕ) (x : TopicState) → Longer x (after_releases accepts k x)
times_longer accepts zero x = Longer-same x x refl
times_longer accepts (suc k) x = let y = after_release accepts x in Longer-then x y (after_releases accepts k y) (released_longer accepts x (due_part x)) (times_longer accepts k y)

pub turned_longer : (accepts : Entry → Bool) (find : TxnId → Option Decision) (x : TopicState) → Longer x (after_turn accepts find x)
turned_longer accepts find x =
    let y = after_tries find x.pending x in
    Longer-then x y (after_turn accepts find x) (Longer-same x y (tried_all_held find x.pending x)) (times_longer accepts (length y.pending) y)

more_rows : (xs ys : List LogRow) → length (xs ++ ys) - length xs ≡ length ys
more_rows [] ys = omega arith
more_rows (x ∷ xs) ys = let h : length (xs ++ ys) - length xs ≡ length ys = more_rows xs ys in omega arith

counts_rows : (x y : TopicState) (h : Longer x y) → length h.rows ≡ length y.held - length x.held
counts_rows x y h = sym (ap (λ (rows : List LogRow). length rows - length x.held) h.is ∙ more_rows x.held h.rows)

-- the log of a topic that is there, as it is written
log_written : (w : World) (t : Topic) (x : TopicState) → is_topic w t ≡ true → log_at (with_topic w t x) t ≡ x.held
log_written w t x e = ap (λ (z : TopicState). z.held) (is_read w t x (ltb-true t.0 (length w.topics) e))

released_case : (w : World) (t u : Topic) (id : TxnId) (o : Option Pending) → is_topic w t ≡ true → release_answer t o ≡ Released u id → (u ≡ t) × (row : LogRow) × (row.id ≡ id) × (log_at (with_topic w t (after_release_if (queue_has_room w) (topic_at w t) o)) t ≡ log_at w t ++ row ∷ [])
released_case w t u id None room e = cc
released_case w t u id (Some p) room e =
    let a : u ≡ t = cc in let b : p.part.id ≡ id = cc in (a, row_of p, b, log_written w t (after_release_if (queue_has_room w) (topic_at w t) (Some p)) room)

-- a release adds to its topic's log the row of the transaction that it answers
pub released_is_logged : Laws.ReleasedIsLogged
released_is_logged w t u id =
    by_refusal (λ v o. o ≡ Released u id → (u ≡ t) × (row : LogRow) × (row.id ≡ id) × (log_at v t ≡ log_at w t ++ row ∷ [])) w (Releases t)
    (λ why e. cc)
    (λ n e. released_case w t u id (due_part (topic_at w t)) (not-false (is_topic w t) (checked w (Releases t) n).0) e)

turned_here : (w : World) (t u : Topic) (count : ℕ) → is_topic w t ≡ true → move_answer w (Turns t) ≡ Turned u count → (u ≡ t) × (rows : List LogRow) × (length rows ≡ count) × (log_at (move_effect w (Turns t)) t ≡ log_at w t ++ rows)
turned_here w t u count room e =
    let x = topic_at w t in let y = after_turn (queue_has_room w) (verdict_in w) x in let h = turned_longer (queue_has_room w) (verdict_in w) x in
    let a : u ≡ t = cc in let b : length y.held - length x.held ≡ count = cc in (a, h.rows, counts_rows x y h ∙ b, log_written w t y room ∙ h.is)

-- a turn adds as many rows to its topic's log as it answers
pub turned_is_logged : Laws.TurnedIsLogged
turned_is_logged w t u count =
    by_refusal (λ v o. o ≡ Turned u count → (u ≡ t) × (rows : List LogRow) × (length rows ≡ count) × (log_at v t ≡ log_at w t ++ rows)) w (Turns t)
    (λ why e. cc)
    (λ n e. turned_here w t u count (not-false (is_topic w t) (checked w (Turns t) n).0) e)
