-- Each event is answered by an outcome of its own.
use Rattle.delivery.proofs.Words.All.{◌≡◌, ℕ, zero, suc, ◌+◌, ◌<◌, ◌≤◌, Bool, true, false, cond, not, ◌&&◌, List, [], ◌∷◌, length, Option, Some, None, refl, sym, subst, ◌⊎◌, inl, inr, arith, ltb, slice_get, is_some, true≢false, and_parts, ltb-true, not-false, part_at, Decision, In, Topic, TxnId, ProposeFault, first_refusal, Item, Pending, due_part, propose_fault, none_some, some_same, not_true, World, Leftover, Subscription, subscription_at, speaker, topic_at, accepted_at, end_at, Move, move_answer, move_refusal, move_refusals, cancel_objection, learn_objection, commit_answer, leave_answer, propose_answer, proposal_fault, or_out_of_memory, cancel_answer, release_answer, take_answer, find_leftover, find_verdict, oldest_live, is_live, undecided_at, IsAnswer, AddsTopic, Opens, Connects, Commits, Subscribes, Unsubscribes, Disconnects, Errs, Lost, Leaves, Proposes, Decides, Withdraws, Cancels, Learns, Releases, Turns, Takes, Answer, answer_to}
use Rattle.delivery.specs.Theorem.Answers.{IsOldest, MovesAreAnswered}
use Rattle.delivery.proofs.Machine.Invariant.{sub_in}
use Rattle.delivery.proofs.Machine.SenderSteps.{leftover_found}
use Rattle.delivery.proofs.Machine.Speakers.{has_speaker}
use Rattle.delivery.proofs.Machine.InvariantIsKept.{by_refusal, checked, or_else_after, verdict_found}

-- ---- the oldest subscription

-- the one that is found, where the first has number i: live, and none before it is
record Eldest (c i n : ℕ) (xs : List Subscription) : Type 0 where
  place : ℕ
  is : n ≡ i + place
  there : place < length xs
  live : is_live c (sub_in xs place) ≡ true
  none : (q : ℕ) → q < place → is_live c (sub_in xs q) ≡ false

none_before : (c : ℕ) (x : Subscription) (xs : List Subscription) (place q : ℕ) → is_live c x ≡ false → ((r : ℕ) → r < place → is_live c (sub_in xs r) ≡ false) → q < suc place → is_live c (sub_in (x ∷ xs) q) ≡ false
none_before c x xs place zero d h l = d
none_before c x xs place (suc q) d h l = h q (omega arith)

eldest_case : (c i n : ℕ) (x : Subscription) (xs : List Subscription) (b : Bool) → is_live c x ≡ b → (oldest_live c (i + 1) xs ≡ Some n → Eldest c (i + 1) n xs) → cond b (Some i) (oldest_live c (i + 1) xs) ≡ Some n → Eldest c i n (x ∷ xs)
eldest_case c i n x xs true d ih e = let k : i ≡ n = some_same i n e in record { place = 0; is = omega arith; there = omega arith; live = d; none = λ q l. absurd (omega arith) }
eldest_case c i n x xs false d ih e =
    let h = ih e in let p : ℕ = h.place in let a : n ≡ i + 1 + p = h.is in let l : p < length xs = h.there in
    record { place = suc h.place; is = omega arith; there = omega arith; live = h.live; none = λ q k. none_before c x xs h.place q d h.none k }

eldest : (c i n : ℕ) (xs : List Subscription) → oldest_live c i xs ≡ Some n → Eldest c i n xs
eldest c i n [] e = none_some n e
eldest c i n (x ∷ xs) e = eldest_case c i n x xs (is_live c x) refl (eldest c (i + 1) n xs) e

all_case : (c i : ℕ) (x : Subscription) (xs : List Subscription) (b : Bool) → is_live c x ≡ b → (oldest_live c (i + 1) xs ≡ None → (q : ℕ) → q < length xs → is_live c (sub_in xs q) ≡ false) → cond b (Some i) (oldest_live c (i + 1) xs) ≡ None → (q : ℕ) → q < length (x ∷ xs) → is_live c (sub_in (x ∷ xs) q) ≡ false
all_case c i x xs true d ih e q l = none_some i (sym e)
all_case c i x xs false d ih e q l = none_before c x xs (length xs) q d (ih e) (omega arith)

all_closed : (c i : ℕ) (xs : List Subscription) → oldest_live c i xs ≡ None → (q : ℕ) → q < length xs → is_live c (sub_in xs q) ≡ false
all_closed c i [] e q l = absurd (omega arith)
all_closed c i (x ∷ xs) e q l = all_case c i x xs (is_live c x) refl (all_closed c (i + 1) xs) e q l

pub is_oldest : (w : World) (c s : ℕ) → oldest_live c 0 w.subscriptions ≡ Some s → IsOldest w c s
is_oldest w c s e =
    let h = eldest c 0 s w.subscriptions e in
    let p : s ≡ h.place = (let d : s ≡ 0 + h.place = h.is in omega arith) in record {
      there = subst (λ n. n < length w.subscriptions) (sym p) h.there;
      live = subst (λ n. is_live c (subscription_at w n) ≡ true) (sym p) h.live;
      oldest = λ q l. h.none q (subst (λ n. q < n) p l);
    }

-- ---- each answer

leave_is : (w : World) (c : ℕ) (o : Option ℕ) → oldest_live c 0 w.subscriptions ≡ o → IsAnswer w (Leaves c) (leave_answer w c o)
leave_is w c None e = (refl, all_closed c 0 w.subscriptions e)
leave_is w c (Some s) e = inr (c, refl, is_oldest w c s e)

fault_is : (memory : Bool) (fault : Option ProposeFault) (why : ProposeFault) → or_out_of_memory memory fault ≡ Some why → (fault ≡ Some why) ⊎ ((why ≡ ProposeFault.NoMemory) × (memory ≡ false) × (fault ≡ None))
fault_is true None why e = none_some why e
fault_is false None why e = inr (sym (some_same ProposeFault.NoMemory why e), refl, refl)
fault_is memory (Some fault) why e = inl e

cancel_is : (w : World) (c : ℕ) (t : Topic) (o : Option Leftover) → find_leftover t (speaker w c).leftovers ≡ o → cancel_objection w t o ≡ None → IsAnswer w (Cancels c t) (cancel_answer t o)
cancel_is w c t None f n = none_some _ (sym n)
cancel_is w c t (Some k) f n = let h = leftover_found t (speaker w c).leftovers k f in (c, refl, k, h.stands, refl, h.topic)

learn_is : (w : World) (t : Topic) (id : TxnId) (o : Option Decision) → find_verdict id w.verdicts ≡ o → learn_objection w t id o ≡ None → (v : Decision) × In v w.verdicts × (v.id ≡ id)
learn_is w t id None f n = none_some _ (sym n)
learn_is w t id (Some v) f n = let h = verdict_found id w.verdicts v f in (v, h.0, h.1)

release_is : (w : World) (t : Topic) (o : Option Pending) → due_part (topic_at w t) ≡ o → not (is_some o) ≡ false → IsAnswer w (Releases t) (release_answer t o)
release_is w t None e n = absurd (true≢false n)
release_is w t (Some p) e n = (refl, p, e, refl)

-- where there's no item of this number the list is no longer
item_past : (n : ℕ) (items : List Item) → slice_get items n ≡ None → length items ≤ n
item_past n [] e = omega arith
item_past zero (i ∷ items) e = none_some i (sym e)
item_past (suc n) (i ∷ items) e = let m : length items ≤ n = item_past n items e in omega arith

item_there : (n : ℕ) (items : List Item) → slice_get items n ≡ None → ltb n (length items) ≡ false
item_there n items e =
    let m : length items ≤ n = item_past n items e in not_true (ltb n (length items)) refl (λ l. let k : n < length items = ltb-true n (length items) l in omega arith)

or_end : (b c : Bool) → b ≡ false → (not b && not c) ≡ false → c ≡ true
or_end false true e k = refl
or_end false false e k = absurd (true≢false k)
or_end true c e k = absurd (true≢false e)

answer_is : (w : World) (e : Move) → move_refusal w e ≡ None → IsAnswer w e (move_answer w e)
answer_is w (AddsTopic clock) n = inl (clock, refl)
answer_is w Opens n = (refl, refl)
answer_is w (Connects c claimed) n = inr (inl (c, claimed, refl))
answer_is w (Commits c sends) n = elim sends as (λ o. IsAnswer w (Commits c o) (commit_answer w c o)) [ [] ↦ inr (inr (c, refl)) | first ∷ others ↦ (c, refl, (has_speaker w c (not-false _ (checked w (Commits c sends) n).1.1.1.0)), refl) ]
answer_is w (Subscribes c t) n = (refl, refl, refl)
answer_is w (Unsubscribes c s) n =
    let k = and_parts (ltb s (length w.subscriptions)) (is_live c (subscription_at w s)) (not-false _ (checked w (Unsubscribes c s) n).1.1.1.0) in inl (c, refl, k.1)
answer_is w (Disconnects c) n = inl refl
answer_is w (Errs c) n = inl refl
answer_is w (Lost c) n = inr refl
answer_is w (Leaves c) n = leave_is w c (oldest_live c 0 w.subscriptions) refl
answer_is w (Proposes c t memory) n = (elim (proposal_fault w c t memory) as (λ (o : Option ProposeFault). proposal_fault w c t memory ≡ o → IsAnswer w (Proposes c t memory) (propose_answer w c t o)) [
  | None ↦ λ e. (c, memory, refl, refl)
  | Some why ↦ λ e. (c, t, memory, refl, refl, fault_is memory (propose_fault (speaker w c).floor (part_at (undecided_at w c).txn.id (undecided_at w c).txn.sends t) (topic_at w t)) why e)
]) refl
answer_is w (Decides c) n = (c, refl, refl, refl)
answer_is w (Withdraws c) n = (refl, refl)
answer_is w (Cancels c t) n = cancel_is w c t (find_leftover t (speaker w c).leftovers) refl (or_else_after (first_refusal (move_refusals w (Cancels c t))) _ n)
answer_is w (Learns t id) n = let h = learn_is w t id (find_verdict id w.verdicts) refl (or_else_after (first_refusal (move_refusals w (Learns t id))) _ n) in (refl, h.0, h.1, h.2)
answer_is w (Releases t) n = release_is w t (due_part (topic_at w t)) refl (checked w (Releases t) n).1.0
answer_is w (Turns t) n = refl
answer_is w (Takes s) n =
    (elim (slice_get (accepted_at w s) (subscription_at w s).taken) as (λ (o : Option Item). slice_get (accepted_at w s) (subscription_at w s).taken ≡ o → IsAnswer w (Takes s) (take_answer w s o)) [
      | None ↦ λ e. inr (s, refl, refl, or_end (ltb (subscription_at w s).taken (length (accepted_at w s))) (is_some (end_at w s)) (item_there (subscription_at w s).taken (accepted_at w s) e) ((checked w (Takes s) n).1.1.0), e)
      | Some item ↦ λ e. (refl, e)
    ]) refl

-- each event has an answer of its own, in any core
pub events_are_answered : MovesAreAnswered
events_are_answered w e = by_refusal (λ v o. IsAnswer w e o) w e (λ why. tt) (λ n. answer_is w e n)

-- so what it is answered says which event it was
pub answer_as : (w : World) (e : Move) {o : Answer} → answer_to w e ≡ o → IsAnswer w e o
answer_as w e a = subst (IsAnswer w e) a (events_are_answered w e)
