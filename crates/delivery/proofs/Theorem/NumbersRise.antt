-- The numbers that a topic gives rise along a run, each above its opening clock.
use Rattle.delivery.proofs.Words.All.{◌≡◌, ℕ, zero, suc, ◌+◌, ◌<◌, ◌≤◌, ◌==◌, Bool, true, false, cond, ◌⊎◌, inl, inr, List, [], ◌∷◌, ◌++◌, length, get_or, max, refl, sym, ap, subst, ◌∙◌, arith, AllByRecursion, eqb-true, get_or_past, length_push, RisesBy, In, CommitRow, Topic, TxnId, Stamp, TopicState, new_topic, same_topics, In-push_cases, World, topic_at, speaker, subscription_at, start, new_topics, Move, Answer, world_after, answer_to, run, answers_from, txn_of_id, Run, answers_of, final_world, added_clocks, AddsTopic, Subscribes, Unsubscribes, Leaves, Proposes, Cancels, Learns, Releases, Turns}
use Rattle.delivery.specs.Machine.Moves.Answer.{Ticket}
use Rattle.delivery.specs.Theorem.Tied.{numbers_at}
use Rattle.delivery.proofs.Words.Steps.{row, at_push_two, set_length, Reached, tickets, by_refusal, step_reached, start_reached, by_found, InEachCase, always}
use Rattle.delivery.proofs.Theorem.StepLaws.{ticket_is_own}
use Rattle.delivery.proofs.Machine.ClocksGrow.{clock_grows}

-- ---- lists of numbers

all_push : (P : ℕ → Type 0) (xs : List ℕ) (n : ℕ) → AllByRecursion P xs → P n → AllByRecursion P (xs ++ n ∷ [])
all_push P [] n all h = (h, tt)
all_push P (x ∷ xs) n all h = (all.0, all_push P xs n all.1 h)

rises_push : (xs : List ℕ) (n : ℕ) → RisesBy (λ m. m) xs → ((m : ℕ) → In m xs → m < n) → RisesBy (λ m. m) (xs ++ n ∷ [])
rises_push [] n h below = (tt, tt)
rises_push (x ∷ xs) n h below = (all_push (λ m. x < m) xs n h.0 (below x (inl refl)), rises_push xs n h.1 (λ m i. below m (inr i)))

-- ---- a topic's numbers are those of its tickets

-- the ticket of a number
record NumberOf (t : Topic) (n : ℕ) (ts : List CommitRow) : Type 0 where
  it : CommitRow
  stands : In it ts
  topic : it.stamp.topic ≡ t
  number : it.stamp.n ≡ n

number_more : (t : Topic) (n : ℕ) (ts : List CommitRow) (a : CommitRow) → NumberOf t n ts → NumberOf t n (a ∷ ts)
number_more t n ts a h = record { it = h.it; stands = inr h.stands; topic = h.topic; number = h.number }

number_case : (t : Topic) (n : ℕ) (id : TxnId) (ticket : Stamp) (past : List Answer) (b : Bool) → (ticket.topic.0 == t.0) ≡ b → (In n (numbers_at t past) → NumberOf t n (tickets past)) → In n (cond b (numbers_at t past ++ ticket.n ∷ []) (numbers_at t past)) → NumberOf t n (row (txn_of_id id past) ticket ∷ tickets past)
number_case t n id ticket past true e ih i = elim (In-push_cases n ticket.n (numbers_at t past) i) [
  | inl k ↦ number_more t n (tickets past) (row (txn_of_id id past) ticket) (ih k)
  | inr d ↦ record { it = row (txn_of_id id past) ticket; stands = inl refl; topic = same_topics ticket.topic t (eqb-true ticket.topic.0 t.0 e); number = d }
]
number_case t n id ticket past false e ih i = number_more t n (tickets past) (row (txn_of_id id past) ticket) (ih i)

number_of : (t : Topic) (n : ℕ) (past : List Answer) → In n (numbers_at t past) → NumberOf t n (tickets past)
number_of t n [] i = absurd i
number_of t n (Ticket id ticket ∷ past) i = number_case t n id ticket past (ticket.topic.0 == t.0) refl (number_of t n past) i
number_of t n (o ∷ past) i = number_of t n past i

-- each number is at most the topic's clock
pub number_le : (past : List Answer) (w : World) (t : Topic) (n : ℕ) → Reached past w → In n (numbers_at t past) → n ≤ (topic_at w t).clock
number_le past w t n h i = let k = number_of t n past i in subst (λ m. m ≤ (topic_at w t).clock) k.number ((h.inv.tied t).given k.it k.stands k.topic)

-- ---- along a run

-- the numbers so far, beside the opening clocks so far
pub record Rising (past : List Answer) (opening : List ℕ) (w : World) : Type 0 where
  pub count : length opening ≡ length w.topics
  pub rising : (t : Topic) → RisesBy (λ n. n) (numbers_at t past)
  pub above : (t : Topic) (n : ℕ) → In n (numbers_at t past) → get_or opening t.0 0 < n
  pub opened : (t : Topic) → get_or opening t.0 0 ≤ (topic_at w t).clock

-- the opening clocks after one more event
abbrev opening_after : List ℕ → Move → List ℕ
opening_after opening (AddsTopic clock) = opening ++ clock ∷ []
opening_after opening e = opening

append_none : (xs : List ℕ) → xs ++ [] ≡ xs
append_none [] = refl
append_none (x ∷ xs) = ap (λ z. x ∷ z) (append_none xs)

append_one : (xs : List ℕ) (y : ℕ) (ys : List ℕ) → (xs ++ y ∷ []) ++ ys ≡ xs ++ y ∷ ys
append_one [] y ys = refl
append_one (x ∷ xs) y ys = ap (λ z. x ∷ z) (append_one xs y ys)

opening_step : (opening : List ℕ) (e : Move) (es : List Move) → opening_after opening e ++ added_clocks es ≡ opening ++ added_clocks (e ∷ es)
opening_step opening (AddsTopic clock) es = append_one opening clock (added_clocks es)
opening_step opening e es = refl

-- what one more outcome leaves of a topic's numbers: they are the same, or there is one more above the clock
record OneMore (past : List Answer) (w : World) (o : Answer) (t : Topic) : Type 0 where
  rising : RisesBy (λ n. n) (numbers_at t (o ∷ past))
  above : (n : ℕ) → In n (numbers_at t (o ∷ past)) → In n (numbers_at t past) ⊎ ((topic_at w t).clock < n)

more_case : (past : List Answer) (w : World) (t : Topic) (id : TxnId) (ticket : Stamp) (b : Bool) → Reached past w → (ticket.topic.0 == t.0) ≡ b → (ticket.topic ≡ t → (topic_at w t).clock < ticket.n) → RisesBy (λ n. n) (numbers_at t past) → RisesBy (λ n. n) (cond b (numbers_at t past ++ ticket.n ∷ []) (numbers_at t past)) × ((n : ℕ) → In n (cond b (numbers_at t past ++ ticket.n ∷ []) (numbers_at t past)) → In n (numbers_at t past) ⊎ ((topic_at w t).clock < n))
more_case past w t id ticket true h e high r =
    let l = high (same_topics ticket.topic t (eqb-true ticket.topic.0 t.0 e)) in (
      rises_push (numbers_at t past) ticket.n r (λ m i. let k : m ≤ (topic_at w t).clock = number_le past w t m h i in let d : (topic_at w t).clock < ticket.n = l in omega arith),
      λ n i. elim (In-push_cases n ticket.n (numbers_at t past) i) [ inl k ↦ inl k | inr d ↦ inr (subst (λ m. (topic_at w t).clock < m) d l) ],
    )
more_case past w t id ticket false h e high r = (r, λ n i. inl i)

one_more : (past : List Answer) (w : World) (t : Topic) (o : Answer) → Reached past w → ((id : TxnId) (ticket : Stamp) → o ≡ Ticket id ticket → ticket.topic ≡ t → (topic_at w t).clock < ticket.n) → RisesBy (λ n. n) (numbers_at t past) → OneMore past w o t
one_more past w t (Ticket id ticket) h high r = let k = more_case past w t id ticket (ticket.topic.0 == t.0) h refl (high id ticket refl) r in record { rising = k.0; above = k.1 }
one_more past w t o h high r = record { rising = r; above = λ n i. inl i }

ticket_high : (w : World) (e : Move) (t : Topic) (id : TxnId) (ticket : Stamp) → answer_to w e ≡ Ticket id ticket → ticket.topic ≡ t → (topic_at w t).clock < ticket.n
ticket_high w e t id ticket o d =
    let (c, u, memory, is, own, named, at) = ticket_is_own w e id ticket o in let here : u ≡ t = sym (ap (λ (z : Stamp). z.topic) at) ∙ d in
    let n : ticket.n ≡ max (topic_at w u).clock (speaker w c).floor.n + 1 = ap (λ (z : Stamp). z.n) at in let l : (topic_at w u).clock < ticket.n = omega arith in
    subst (λ z. (topic_at w z).clock < ticket.n) here l

-- a topic is added: no number was given by one that wasn't there
added_above : (past : List Answer) (opening : List ℕ) (w : World) (clock : ℕ) (t : Topic) (n : ℕ) → Reached past w → Rising past opening w → In n (numbers_at t past) → get_or (opening ++ clock ∷ []) t.0 0 < n
added_above past opening w clock t n r h i =
    at_push_two (λ m. m < n) opening t.0 clock 0
    (λ e. let beyond : length w.topics ≤ t.0 = (let m : length opening ≡ length w.topics = h.count in omega arith) in
    let none : (topic_at w t).clock ≡ 0 = ap (λ (x : TopicState). x.clock) (get_or_past w.topics t.0 (new_topic t 0 0) beyond) in
    let k : n ≤ (topic_at w t).clock = number_le past w t n r i in
    let l : get_or opening t.0 0 < n = h.above t n i in absurd (omega arith))
    (λ ne. h.above t n i)

added_opened : (past : List Answer) (opening : List ℕ) (w : World) (clock : ℕ) (t : Topic) → Rising past opening w → get_or (opening ++ clock ∷ []) t.0 0 ≤ (topic_at (world_after w (AddsTopic clock)) t).clock
added_opened past opening w clock t h =
    let v = world_after w (AddsTopic clock) in let m : length opening ≡ length w.topics = h.count in
    at_push_two (λ n. n ≤ (topic_at v t).clock) opening t.0 clock 0
    (λ e. at_push_two (λ (x : TopicState). clock ≤ x.clock) w.topics t.0 (new_topic (record { 0 = length w.topics }) w.log_limit clock) (new_topic t 0 0)
    (λ d. omega arith) (λ ne. absurd (ne (omega arith))))
    (λ ne. let l : get_or opening t.0 0 ≤ (topic_at w t).clock = h.opened t in
    let g : (topic_at w t).clock ≤ (topic_at v t).clock = clock_grows w (AddsTopic clock) t in omega arith)

-- an event that adds no topic
kept_rising : (past : List Answer) (opening : List ℕ) (w : World) (e : Move) → Reached past w → length (world_after w e).topics ≡ length w.topics → Rising past opening w → Rising (answer_to w e ∷ past) opening (world_after w e)
kept_rising past opening w e r same h =
    let more = λ (t : Topic). one_more past w t (answer_to w e) r (λ id ticket o d. ticket_high w e t id ticket o d) (h.rising t) in record {
      count = h.count ∙ sym same;
      rising = λ t. (more t).rising;
      above = λ t n i. elim ((more t).above n i) [
        | inl k ↦ h.above t n k
        | inr l ↦ (let o : get_or opening t.0 0 ≤ (topic_at w t).clock = h.opened t in let m : (topic_at w t).clock < n = l in omega arith)
      ];
      opened = λ t. let o : get_or opening t.0 0 ≤ (topic_at w t).clock = h.opened t in
          let g : (topic_at w t).clock ≤ (topic_at (world_after w e) t).clock = clock_grows w e t in omega arith;
    }

added_rising : (past : List Answer) (opening : List ℕ) (w : World) (clock : ℕ) → Reached past w → Rising past opening w → Rising (answer_to w (AddsTopic clock) ∷ past) (opening ++ clock ∷ []) (world_after w (AddsTopic clock))
added_rising past opening w clock r h =
    let m = length_push opening clock in let n = length_push w.topics (new_topic (record { 0 = length w.topics }) w.log_limit clock) in
    let c = h.count in record {
      count = omega arith;
      rising = h.rising;
      above = λ t n i. added_above past opening w clock t n r h i;
      opened = λ t. added_opened past opening w clock t h;
    }

-- the number of topics, where none is added
abbrev pub AddsNone : Move → Type 0
AddsNone (AddsTopic clock) = Prim.⊥
AddsNone e = Unit {0}

length_effect : (w : World) (e : Move) → AddsNone e → InEachCase (λ v o. length v.topics ≡ length w.topics) w e
length_effect w (AddsTopic clock) n = absurd n
length_effect w (Subscribes c t) n = always (set_length w.topics t.0 _)
length_effect w (Unsubscribes c s) n = (refl, λ k. set_length w.topics (subscription_at w s).topic.0 _)
length_effect w (Leaves c) n = (refl, λ s. (refl, λ k. set_length w.topics (subscription_at w s.it).topic.0 _))
length_effect w (Proposes c t memory) n = (set_length w.topics t.0 _, λ k. refl)
length_effect w (Cancels c t) n = (refl, λ k. set_length w.topics t.0 _)
length_effect w (Learns t id) n = (refl, λ k. set_length w.topics t.0 _)
length_effect w (Releases t) n = always (set_length w.topics t.0 _)
length_effect w (Turns t) n = always (set_length w.topics t.0 _)
length_effect w _ n = (refl, λ k. refl)

pub topics_stay : (w : World) (e : Move) → AddsNone e → length (world_after w e).topics ≡ length w.topics
topics_stay w e n = by_refusal (λ v o. length v.topics ≡ length w.topics) w e (λ why. refl) (λ k. by_found (λ v o. length v.topics ≡ length w.topics) w e (length_effect w e n))

step_rising : (past : List Answer) (opening : List ℕ) (w : World) (e : Move) → Reached past w → Rising past opening w → Rising (answer_to w e ∷ past) (opening_after opening e) (world_after w e)
step_rising past opening w (AddsTopic clock) r h = added_rising past opening w clock r h
step_rising past opening w e r h = kept_rising past opening w e r (topics_stay w e tt) h

-- ---- a run

run_rising : (es : List Move) (past : List Answer) (opening : List ℕ) (w : World) → Reached past w → Rising past opening w → Rising (answers_from es w past) (opening ++ added_clocks es) (run es w)
run_rising [] past opening w r h = subst (λ z. Rising past z w) (sym (append_none opening)) h
run_rising (e ∷ es) past opening w r h =
    subst (λ z. Rising (answers_from (e ∷ es) w past) z (run (e ∷ es) w)) (opening_step opening e es)
    (run_rising es (answer_to w e ∷ past) (opening_after opening e) (world_after w e) (step_reached past w e r) (step_rising past opening w e r h))

start_count : (i log_limit : ℕ) (clocks : List ℕ) → length clocks ≡ length (new_topics i log_limit clocks)
start_count i log_limit [] = refl
start_count i log_limit (clock ∷ clocks) = let m = start_count (i + 1) log_limit clocks in omega arith

start_clock : (i log_limit : ℕ) (clocks : List ℕ) (j : ℕ) (d : Topic) → get_or clocks j 0 ≤ (get_or (new_topics i log_limit clocks) j (new_topic d 0 0)).clock
start_clock i log_limit [] j d = omega arith
start_clock i log_limit (clock ∷ clocks) zero d = omega arith
start_clock i log_limit (clock ∷ clocks) (suc j) d = start_clock (i + 1) log_limit clocks j d

-- along a run the numbers that a topic gives rise, each above its opening clock
pub rising_run : (r : Run) → Rising (answers_of r) (r.clocks ++ added_clocks r.events) (final_world r)
rising_run r =
    run_rising r.events [] r.clocks (start r.capacity r.log_limit r.clocks) (start_reached r.capacity r.log_limit r.clocks) (record {
      count = start_count 0 r.log_limit r.clocks;
      rising = λ t. tt;
      above = λ t n i. absurd i;
      opened = λ t. start_clock 0 r.log_limit r.clocks t.0 t;
    })
