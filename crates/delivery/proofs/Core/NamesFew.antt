-- There are never more topics than there may be.
use Rattle.delivery.proofs.Words.All.{◌≡◌, ℕ, ◌<◌, ◌≤◌, Bool, true, false, cond, not, ◌&&◌, List, [], ◌∷◌, ◌++◌, length, Option, Some, None, refl, sym, ap, subst, arith, codes, nat_lt, option_map_or, false≢true, true≢false, ltb-true, length-append, first_refusal, In, Command, RawFrame, field, has_destination, id_of, with_destination, is_known, max_topics, Held, is_closed, is_new, is_open, open_refusals, session_fault, TopicList, Event, Outcome, CoreStep, Reading, frame_in, has_effect, names_after, Core, core_of, names_at, session_at, IsCoreRun, IsReadAt, outcomes}
use Rattle.stomp_frame.specs.declared.command.Command.TheVariants as commands
use Rattle.stomp_session.specs.declared.fault.SessionFault.TheVariants as faults
use Rattle.stomp_session.specs.Refusals.{has_bad_destination, has_one_topic_too_many, has_other_ack, is_full, is_in_full_transaction, is_in_no_transaction}
use Rattle.delivery.proofs.Core.AccountOfRun.{core_is}
use Rattle.delivery.proofs.Core.ByReading.{by_next}
use Rattle.delivery.proofs.Core.ClaimsStand.{unobjected}

-- ---- a frame that its session accepts

fourth : {F : Type 0} (a b c d : Bool) (v w x y : F) (rest : Option F) → cond a (Some v) (cond b (Some w) (cond c (Some x) (cond d (Some y) rest))) ≡ None → d ≡ false
fourth true b c d v w x y rest e = absurd (cc)
fourth false true c d v w x y rest e = absurd (cc)
fourth false false true d v w x y rest e = absurd (cc)
fourth false false false true v w x y rest e = absurd (cc)
fourth false false false false v w x y rest e = refl

later : {F : Type 0} (a : Bool) (v : F) (rest : Option F) → cond a (Some v) rest ≡ None → rest ≡ None
later true v rest e = absurd (cc)
later false v rest e = e

not_too_many : (command : Command) (s : Held) (f : RawFrame) → first_refusal ((is_closed s.phase, faults.Closed) ∷ open_refusals command s f) ≡ None
    → has_destination command ≡ true → has_one_topic_too_many s f ≡ false
not_too_many commands.Send s f e has =
    fourth (is_closed s.phase) (is_new s.phase) (has_bad_destination s f) (has_one_topic_too_many s f) faults.Closed faults.NotConnected faults.BadDestination faults.TooManyTopics
    (first_refusal ((is_in_no_transaction s f, faults.NoSuchTxn) ∷ (is_in_full_transaction s f, faults.TooManySends) ∷ [])) e
not_too_many commands.Subscribe s f e has =
    fourth (is_new s.phase) (has_other_ack f) (has_bad_destination s f) (has_one_topic_too_many s f) faults.NotConnected faults.AckMode faults.BadDestination faults.TooManyTopics
    (first_refusal ((is_open (id_of f) s.subscriptions, faults.SubIdInUse) ∷ (is_full s.subscriptions, faults.TooManySubs) ∷ []))
    (later (is_closed s.phase) faults.Closed _ e)
not_too_many _ s f e has = absurd (false≢true has)

new_room : (known : Bool) (n : ℕ) → (not known && not (nat_lt n max_topics)) ≡ false → known ≡ false → n < max_topics
new_room true n e new = absurd (true≢false new)
new_room false n e new = (elim (nat_lt n max_topics) as (λ (b : Bool). nat_lt n max_topics ≡ b → not b ≡ false → n < max_topics) [ true ↦ λ is h. ltb-true n max_topics is | false ↦ λ is h. absurd (true≢false h) ]) refl e

-- where an accepted frame makes a topic there is room for one more
pub room_for : (s : Held) (f : RawFrame) → session_fault s f ≡ None → has_destination f.command ≡ true → is_known (field (codes "destination") f) s.names ≡ false
    → length s.names < max_topics
room_for s f free has new = new_room (is_known (field (codes "destination") f) s.names) (length s.names) (not_too_many f.command s f free has) new

few_with : (s : Held) (f : RawFrame) → session_fault s f ≡ None → length s.names ≤ max_topics → length (with_destination f s.names) ≤ max_topics
few_with s f free few = by (has_destination f.command) refl (is_known name s.names) refl
  where
    name : List ℕ
    name = field (codes "destination") f

    by : (a : Bool) → has_destination f.command ≡ a → (b : Bool) → is_known name s.names ≡ b → length (cond a (cond b s.names (s.names ++ name ∷ [])) s.names) ≤ max_topics
    by false has b new = few
    by true has true new = few
    by true has false new = let l = room_for s f free has new in let n = length-append s.names (name ∷ []) in omega (arith, l, n)

-- ---- a step

-- the names with those that the step adds
abbrev Few : Core → Reading → Outcome → Type 0
Few k rd o = length (option_map_or (λ (f : RawFrame). with_destination f (names_at k)) (cond (has_effect o) (frame_in rd) None) (names_at k)) ≤ max_topics

unread_few : (k : Core) (rd : Reading) (o : Outcome) → frame_in rd ≡ None → length (names_at k) ≤ max_topics → Few k rd o
unread_few k rd o none few = elim (has_effect o) as (λ (b : Bool). length (option_map_or (λ (f : RawFrame). with_destination f (names_at k)) (cond b (frame_in rd) None) (names_at k)) ≤ max_topics) [
  | true ↦ subst (λ (x : Option RawFrame). length (option_map_or (λ (f : RawFrame). with_destination f (names_at k)) x (names_at k)) ≤ max_topics) (sym none) few
  | false ↦ few
]

next_few : (k : Core) (c : ℕ) (rd : Reading) (o : Outcome) → In o (outcomes k (Event.Next c) rd) → length (names_at k) ≤ max_topics → Few k rd o
next_few k c rd o i few =
    by_next k c (Few k) (λ rd why. few) (λ rd fault cut n. few)
    (λ f left o n e j. elim (has_effect o) as (λ (b : Bool). length (option_map_or (λ (g : RawFrame). with_destination g (names_at k)) (cond b (Some f) None) (names_at k)) ≤ max_topics) [ true ↦ few_with (session_at k c) f (unobjected k c f e).session few | false ↦ few ])
    rd o i

step_few : (k : Core) (e : Event) (rd : Reading) (o : Outcome) → IsReadAt k e rd → In o (outcomes k e rd) → length (names_at k) ≤ max_topics → Few k rd o
step_few k (Event.Next c) rd o is i few = next_few k c rd o i few
step_few k _ rd o is i few = unread_few k rd o (ap frame_in is) few

-- ---- a run

few_so_far : (topics : TopicList) (capacity : ℕ) (steps : List CoreStep) → length topics.names ≤ max_topics → IsCoreRun topics capacity steps
    → length (names_at (core_of topics capacity steps)) ≤ max_topics
few_so_far topics capacity [] few run = few
few_so_far topics capacity (step ∷ older) few run =
    step_few (core_of topics capacity older) step.event step.reading step.outcome run.0.reading run.0.outcome (few_so_far topics capacity older few run.1)

-- there are at most so many names
pub names_few : (topics : TopicList) (capacity : ℕ) (steps : List CoreStep) → length topics.names ≤ max_topics → IsCoreRun topics capacity steps
    → length (names_after topics.names steps) ≤ max_topics
names_few topics capacity steps few run = subst (λ (k : Core). length (names_at k) ≤ max_topics) (core_is topics capacity steps) (few_so_far topics capacity steps few run)
