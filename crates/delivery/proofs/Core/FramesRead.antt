-- What a run read of a connection are the first frames of its octets, by the grammar.
use Rattle.delivery.proofs.Words.All.{◌≡◌, ℕ, ◌<◌, ◌==◌, Bool, true, false, cond, ◌&&◌, ◌⊎◌, inl, inr, true≢false, List, [], ◌∷◌, ◌++◌, length, Option, Some, None, refl, sym, ap, subst, ◌∙◌, append_assoc, append-nil, arith, eqb-true, ltb-true, false≢true, or_parts, not-false, option_map_or, option_to_list, option_or, first_refusal, In, Limits, RawFrame, Check, Unread, with_piece, at_set_within, passes, Objection, refusal_of, World, Connection, Standing, is_reading, nobody, connection_at, Move, needs_open, needs_idle, run, Errs, TopicList, Event, Outcome, ConnectionFault, CoreStep, Reading, frame_in, is_fed, is_next, fed_octets, frames_of, reader_limits, BeginsWithFrames, Core, core_of, moves, unread_after, unread_at, IsReadBy, unless, fault_outcomes, reading_outcomes, outcomes, IsReadAt, IsCoreRun}
use Rattle.stomp_frame.specs.Grammar.{AreEols, BeginsWith}
use Rattle.stomp_frame.proofs.Pieces.{eols_before}
use Rattle.stomp_frame.proofs.Whole.{keeps_first_frame}
use Rattle.delivery.proofs.Core.ShownReadings.{shown_each}
use Rattle.delivery.specs.Core.Steps.{fed_to, AreReadings}
use Rattle.delivery.specs.Core.State.{left_by}
use Rattle.delivery.proofs.Words.Steps.{set_length, made_world}
use Rattle.delivery.proofs.Words.Changes.{in_option, refusal_some, grown, stays_shut, core_steps}
use Rattle.delivery.proofs.Core.ReadingsShown.{ReadsUnless, all_shown}
use Rattle.delivery.proofs.Core.Speaking.{open_in}

-- the text is these frames, end-of-lines between them, and then this, perhaps behind more end-of-lines
abbrev Front : Limits → List ℕ → List RawFrame → List ℕ → Type 0
Front limits text [] tail = (eols : List ℕ) × AreEols eols × (text ≡ eols ++ tail)
Front limits text (f ∷ fs) tail = (others : List ℕ) × BeginsWith limits text f others × Front limits others fs tail

-- it begins with the frames
front_begins : (limits : Limits) (text : List ℕ) (fs : List RawFrame) (tail : List ℕ) → Front limits text fs tail → BeginsWithFrames limits text fs
front_begins limits text [] tail h = tt
front_begins limits text (f ∷ fs) tail h = (h.0, h.1, front_begins limits h.0 fs tail h.2)

-- more octets behind
front_longer : (limits : Limits) (text : List ℕ) (fs : List RawFrame) (tail more : List ℕ) → Front limits text fs tail → Front limits (text ++ more) fs (tail ++ more)
front_longer limits text [] tail more h = (h.0, h.1, ap (λ (z : List ℕ). z ++ more) h.2 ∙ append_assoc h.0 tail more)
front_longer limits text (f ∷ fs) tail more h = (h.0 ++ more, keeps_first_frame limits text more f h.0 h.1, front_longer limits h.0 fs tail more h.2)

-- end-of-lines that are left out
front_shorter : (limits : Limits) (text : List ℕ) (fs : List RawFrame) (tail rest eols : List ℕ) → AreEols eols → tail ≡ eols ++ rest → Front limits text fs tail → Front limits text fs rest
front_shorter limits text [] tail rest eols k e h = (h.0 ++ eols, eols_before h.0 eols h.1 k, h.2 ∙ (ap (λ (z : List ℕ). h.0 ++ z) e ∙ sym (append_assoc h.0 eols rest)))
front_shorter limits text (f ∷ fs) tail rest eols k e h = (h.0, h.1, front_shorter limits h.0 fs tail rest eols k e h.2)

-- one frame more
front_next : (limits : Limits) (text : List ℕ) (fs : List RawFrame) (tail : List ℕ) (f : RawFrame) (others : List ℕ) → BeginsWith limits tail f others → Front limits text fs tail → Front limits text (fs ++ f ∷ []) others
front_next limits text [] tail f others b h = (
  others,
  record {
    eols = h.0 ++ b.eols;
    spelling = b.spelling;
    are_eols = eols_before h.0 b.eols h.1 b.are_eols;
    is_spelling = b.is_spelling;
    parts = h.2 ∙ (ap (λ (z : List ℕ). h.0 ++ z) b.parts ∙ sym (append_assoc h.0 b.eols (b.spelling ++ others)));
  },
  ([], ([], refl), refl),
)
front_next limits text (g ∷ gs) tail f others b h = (h.0, h.1, front_next limits h.0 gs tail f others b h.2)

-- ---- a connection's reader

-- the connection is there, and isn't open
abbrev IsShut : World → ℕ → Type 0
IsShut w c = (c < length w.connections) × (open_in w.connections c ≡ false)

-- What a reader stands for, beside the octets that it was fed and the frames that were read: they are its front; or it
-- returned a fault, and its connection isn't open.
abbrev Reads : List ℕ → List RawFrame → Unread → Type 0 → Type 0
Reads text fs u Shut = (u.limits ≡ reader_limits) × (((u.answered ≡ None) × Front reader_limits text fs u.text) ⊎ (Shut × BeginsWithFrames reader_limits text fs))

-- nothing was fed or read
reads_same : (text text' : List ℕ) (fs fs' : List RawFrame) (u u' : Unread) (S T : Type 0) → text' ≡ text → fs' ≡ fs → u' ≡ u → (S → T) → Reads text fs u S → Reads text' fs' u' T
reads_same text text' fs fs' u u' S T a b c d h =
    subst (λ t. Reads t fs' u' T) (sym a) (subst (λ z. Reads text z u' T) (sym b) (subst (λ z. Reads text fs z T) (sym c)
    (h.0, elim h.1 [ inl k ↦ inl k | inr k ↦ inr (d k.0, k.1) ])))

same_branch : {X : Type 0} (b : Bool) (x : X) → cond b x x ≡ x
same_branch true x = refl
same_branch false x = refl

-- of a connection after these steps
abbrev ReadsAt : Core → ℕ → Type 0
ReadsAt k c = Reads (fed_octets c k.steps) (frames_of c k.steps) (unread_at c k.steps) (IsShut k.world c)

-- of it after one step more, with these fed, read and left
abbrev ReadsAfter : Core → ℕ → List ℕ → List RawFrame → Unread → World → Type 0
ReadsAfter k c piece read u w = Reads (fed_octets c k.steps ++ piece) (frames_of c k.steps ++ read) u (IsShut w c)

still_shut : (w : World) (c : ℕ) (ms : List Move) → IsShut w c → IsShut (run ms w) c
still_shut w c ms h = (let n = grown ms w in let l = h.0 in omega arith, stays_shut ms w c h.0 h.1)

quiet : (k : Core) (c : ℕ) (ms : List Move) (piece : List ℕ) → piece ≡ [] → ReadsAt k c → ReadsAfter k c piece [] (unread_at c k.steps) (run ms k.world)
quiet k c ms piece e h =
    reads_same (fed_octets c k.steps) _ (frames_of c k.steps) _ (unread_at c k.steps) _ (IsShut k.world c) (IsShut (run ms k.world) c)
    (ap (λ (z : List ℕ). fed_octets c k.steps ++ z) e ∙ append-nil (fed_octets c k.steps)) (append-nil (frames_of c k.steps)) refl (still_shut k.world c ms) h

-- ---- a piece

-- a connection that nothing stands against is open
not_shut : (w : World) (c : ℕ) → first_refusal (needs_open w c) ≡ None → IsShut w c → Prim.⊥
not_shut w c n h = true≢false (sym (not-false _ (passes (needs_open w c) n).1.1.0) ∙ h.1)

piece_read : (k : Core) (c : ℕ) (octets : List ℕ) (ms : List Move) → first_refusal (needs_open k.world c) ≡ None → ReadsAt k c
    → ReadsAfter k c octets [] (with_piece (unread_at c k.steps) octets) (run ms k.world)
piece_read k c octets ms n h =
    let u = unread_at c k.steps in elim h.1 [
      | inr j ↦ absurd (not_shut k.world c n j.0)
      | inl j ↦ subst (λ (v : Unread). ReadsAfter k c octets [] v (run ms k.world))
          (ap (λ (a : Option Check). option_map_or (λ x. u) a (record u { text = u.text ++ octets })) (sym j.0)) (
            h.0,
            inl (
              j.0,
              subst (λ z. Front reader_limits (fed_octets c k.steps ++ octets) z (u.text ++ octets)) (sym (append-nil (frames_of c k.steps)))
                  (front_longer reader_limits (fed_octets c k.steps) (frames_of c k.steps) u.text octets j.1),
            ),
          )
    ]

piece_case : (k : Core) (c d : ℕ) (octets : List ℕ) (o : Outcome) (ms : List Move) (a b : Bool) → (d == c) ≡ a → is_fed o ≡ b
    → In o (unless (first_refusal (needs_open k.world d)) (Outcome.Fed ∷ Outcome.NoMemory ∷ [])) → ReadsAt k c
    → ReadsAfter k c (cond b (cond a octets []) []) [] (cond (a && b) (with_piece (unread_at c k.steps) octets) (unread_at c k.steps)) (run ms k.world)
piece_case k c d octets o ms false b e f i h = quiet k c ms (cond b [] []) (same_branch b []) h
piece_case k c d octets o ms true false e f i h = quiet k c ms [] refl h
piece_case k c d octets o ms true true e f i h =
    let same : d ≡ c = eqb-true d c e in
    piece_read k c octets ms
    (subst (λ n. first_refusal (needs_open k.world n) ≡ None) same ((elim (first_refusal (needs_open k.world d)) as (λ (why : Option Objection). first_refusal (needs_open k.world d) ≡ why → In o (unless why (Outcome.Fed ∷ Outcome.NoMemory ∷ [])) → first_refusal (needs_open k.world d) ≡ None) [
      | None ↦ λ e i. e
      | Some why ↦ λ e i. absurd (false≢true (ap is_fed (refusal_some (refusal_of why) o (in_option o _ i)).is ∙ f))
    ]) refl i)) h

-- ---- a Next

-- one that is read is of an open connection
idle_open : (w : World) (c : ℕ) → first_refusal (needs_idle w c) ≡ None → IsShut w c → Prim.⊥
idle_open w c n h = true≢false (sym (not-false _ (or_parts _ _ (passes (needs_idle w c) n).1.1.0).0) ∙ h.1)

-- after an ERROR it isn't
shut_by_error : (w : World) (c : ℕ) → first_refusal (needs_idle w c) ≡ None → IsShut (run (Errs c ∷ []) w) c
shut_by_error w c n =
    let l : c < length w.connections = ltb-true c (length w.connections) (not-false _ (passes (needs_idle w c) n).0) in
    subst (λ v. IsShut v c) (sym (made_world w (Errs c) (ap (λ (z : Option Objection). option_or z None) n))) (
      (let m = set_length w.connections c (record { sender = (connection_at w c).sender; standing = Standing.Leaving }) in omega arith),
      at_set_within (λ (z : Connection). is_reading z.standing ≡ false) w.connections c c _ nobody l (λ j. refl) (λ ne. absurd (ne refl)),
    )

fails_shut : (k : Core) (c : ℕ) (check : Check) (left : Unread) (o : Outcome) → first_refusal (needs_idle k.world c) ≡ None → In o (fault_outcomes (ConnectionFault.Stream check))
    → IsShut (run (moves k (Event.Next c) (Reading.Fails check left) o) k.world) c
fails_shut k c check left o n i = elim i [
  | inl e ↦ subst (λ z. IsShut (run (moves k (Event.Next c) (Reading.Fails check left) z) k.world) c) e (shut_by_error k.world c n)
  | inr j ↦ elim j [
    | inl e ↦ subst (λ z. IsShut (run (moves k (Event.Next c) (Reading.Fails check left) z) k.world) c) e (shut_by_error k.world c n)
    | inr m ↦ absurd m
  ]
]

next_read : (k : Core) (c : ℕ) (rd : Reading) (o : Outcome) (ms : List Move) → moves k (Event.Next c) rd o ≡ ms → first_refusal (needs_idle k.world c) ≡ None → IsReadBy (unread_at c k.steps) rd
    → In o (reading_outcomes k c rd) → ReadsAt k c → ReadsAfter k c [] (option_to_list (frame_in rd)) (left_by (unread_at c k.steps) rd) (run ms k.world)
next_read k c Reading.Nothing o ms m n r i h = quiet k c ms [] refl h
next_read k c (Reading.Waits left) o ms m n r i h =
    let u = unread_at c k.steps in let l = r.1 in elim h.1 [
      | inr j ↦ absurd (idle_open k.world c n j.0)
      | inl j ↦ subst (λ (v : Unread). ReadsAfter k c [] [] v (run ms k.world)) (sym r.3) (
        h.0,
        inl (
          j.0,
          subst (λ z. Front reader_limits z (frames_of c k.steps ++ []) r.0) (sym (append-nil (fed_octets c k.steps)))
              (subst (λ z. Front reader_limits (fed_octets c k.steps) z r.0) (sym (append-nil (frames_of c k.steps)))
              (front_shorter reader_limits (fed_octets c k.steps) (frames_of c k.steps) u.text r.0 l.eols l.are_eols l.parts j.1)),
        ),
      )
    ]
next_read k c (Reading.Finds f left) o ms m n r i h =
    let u = unread_at c k.steps in elim h.1 [
      | inr j ↦ absurd (idle_open k.world c n j.0)
      | inl j ↦ subst (λ (v : Unread). ReadsAfter k c [] (f ∷ []) v (run ms k.world)) (sym r.2) (
        h.0,
        inl (
          j.0,
          subst (λ z. Front reader_limits z (frames_of c k.steps ++ f ∷ []) r.0) (sym (append-nil (fed_octets c k.steps)))
              (front_next reader_limits (fed_octets c k.steps) (frames_of c k.steps) u.text f r.0 (subst (λ z. BeginsWith z u.text f r.0) h.0 r.1) j.1),
        ),
      )
    ]
next_read k c (Reading.Fails check left) o ms m n r i h =
    let u = unread_at c k.steps in elim h.1 [
      | inr j ↦ absurd (idle_open k.world c n j.0)
      | inl j ↦ subst (λ (v : Unread). ReadsAfter k c [] [] v (run ms k.world)) (sym r.5) (
        h.0,
        inr (
          subst (λ z. IsShut (run z k.world) c) m (fails_shut k c check left o n i),
          subst (λ z. BeginsWithFrames reader_limits z (frames_of c k.steps ++ [])) (sym (append-nil (fed_octets c k.steps)))
              (subst (λ z. BeginsWithFrames reader_limits (fed_octets c k.steps) z) (sym (append-nil (frames_of c k.steps)))
              (front_begins reader_limits (fed_octets c k.steps) (frames_of c k.steps) u.text j.1)),
        ),
      )
    ]

next_case : (k : Core) (c : ℕ) (rd : Reading) (o : Outcome) (ms : List Move) → moves k (Event.Next c) rd o ≡ ms → (why : Option Objection) → first_refusal (needs_idle k.world c) ≡ why
    → ReadsUnless k c rd why → In o (unless why (reading_outcomes k c rd)) → ReadsAt k c
    → ReadsAfter k c [] (option_to_list (frame_in rd)) (left_by (unread_at c k.steps) rd) (run ms k.world)
next_case k c rd o ms m None e r i h = next_read k c rd o ms m e r i h
next_case k c rd o ms m (Some why) e r i h =
    subst (λ z. ReadsAfter k c [] (option_to_list (frame_in z)) (left_by (unread_at c k.steps) z) (run ms k.world)) (sym r) (quiet k c ms [] refl h)

next_of : (k : Core) (c d : ℕ) (rd : Reading) (o : Outcome) (a : Bool) → (d == c) ≡ a → IsReadAt k (Event.Next d) rd → In o (outcomes k (Event.Next d) rd) → ReadsAt k c
    → ReadsAfter k c [] (cond a (option_to_list (frame_in rd)) []) (cond a (left_by (unread_at c k.steps) rd) (unread_at c k.steps)) (run (moves k (Event.Next d) rd o) k.world)
next_of k c d rd o false e r i h = quiet k c (moves k (Event.Next d) rd o) [] refl h
next_of k c d rd o true e r i h =
    let same : d ≡ c = eqb-true d c e in
    next_case k c rd o (moves k (Event.Next d) rd o) (ap (λ n. moves k (Event.Next n) rd o) (sym same)) (first_refusal (needs_idle k.world c)) refl
    (subst (λ n. IsReadAt k (Event.Next n) rd) same r) (subst (λ n. In o (outcomes k (Event.Next n) rd)) same i) h

-- ---- every event

fed_is : (c d : ℕ) (octets : List ℕ) (o : Outcome) → fed_to c (Event.Piece d octets) o ≡ cond (is_fed o) (cond (d == c) octets []) []
fed_is c d octets Outcome.Fed = refl
fed_is c d octets o = refl

step_read : (k : Core) (c : ℕ) (e : Event) (rd : Reading) (o : Outcome) → IsReadAt k e rd → In o (outcomes k e rd) → ReadsAt k c
    → ReadsAfter k c (fed_to c e o) (cond (is_next c e) (option_to_list (frame_in rd)) []) (unread_after c (unread_at c k.steps) e rd o) (run (moves k e rd o) k.world)
step_read k c (Event.Piece d octets) rd o r i h =
    subst (λ (z : List ℕ). ReadsAfter k c z [] (cond ((d == c) && is_fed o) (with_piece (unread_at c k.steps) octets) (unread_at c k.steps)) (run (moves k (Event.Piece d octets) rd o) k.world))
    (sym (fed_is c d octets o)) (piece_case k c d octets o (moves k (Event.Piece d octets) rd o) (d == c) (is_fed o) refl refl i h)
step_read k c (Event.Next d) rd o r i h = next_of k c d rd o (d == c) refl r i h
step_read k c event rd o r i h = quiet k c (moves k event rd o) [] refl h

reads_all : (topics : TopicList) (capacity : ℕ) (steps : List CoreStep) → IsCoreRun topics capacity steps → (c : ℕ) → ReadsAt (core_of topics capacity steps) c
reads_all topics capacity [] is_run c = (refl, inl (refl, ([], ([], refl), refl)))
reads_all topics capacity (step ∷ older) is_run c =
    (step_read (core_of topics capacity older) c step.event step.reading step.outcome is_run.0.reading is_run.0.outcome (reads_all topics capacity older is_run.1 c))

-- what a run read are the first frames of each connection's octets, and each step shows it
pub are_readings : (topics : TopicList) (capacity : ℕ) (steps : List CoreStep) → IsCoreRun topics capacity steps → AreReadings steps
are_readings topics capacity steps is_run = record {
  shown = shown_each steps (all_shown topics capacity steps is_run);
  first = λ c. (let h = subst (λ z. Reads (fed_octets c z) (frames_of c z) (unread_at c z) (IsShut (core_of topics capacity steps).world c)) (core_steps topics capacity steps) (reads_all topics capacity steps is_run c) in elim h.1 [
    | inl j ↦ front_begins reader_limits (fed_octets c steps) (frames_of c steps) (unread_at c steps).text j.1
    | inr j ↦ j.1
  ]);
}

-- each reader has the core's limits
pub limits_are : (topics : TopicList) (capacity : ℕ) (steps : List CoreStep) → IsCoreRun topics capacity steps → (c : ℕ)
    → (unread_at c (core_of topics capacity steps).steps).limits ≡ reader_limits
limits_are topics capacity steps is_run c = (reads_all topics capacity steps is_run c).0

-- the reader of a connection whose frames may be read has returned no fault
pub unanswered : (topics : TopicList) (capacity : ℕ) (steps : List CoreStep) → IsCoreRun topics capacity steps → (c : ℕ)
    → first_refusal (needs_idle (core_of topics capacity steps).world c) ≡ None → (unread_at c (core_of topics capacity steps).steps).answered ≡ None
unanswered topics capacity steps is_run c idle = elim (reads_all topics capacity steps is_run c).1 [
  | inl j ↦ j.0
  | inr j ↦ absurd (idle_open (core_of topics capacity steps).world c idle j.0)
]
