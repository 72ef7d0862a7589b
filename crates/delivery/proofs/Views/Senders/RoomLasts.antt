-- The room that a transaction makes as it begins: it is there, and it lasts until the transaction has ended.
use Rattle.delivery.proofs.Words.All.{◌≡◌, ℕ, zero, suc, ◌+◌, ◌<◌, ◌≤◌, ◌==◌, Bool, true, false, cond, List, [], ◌∷◌, ◌++◌, map, length, get_or, set, Option, Some, None, refl, sym, ap, subst, ◌∙◌, arith, eqb-true, length-map, option_map, option_and_then, option_to_list, Topic, TxnId, SentMessage, ticket_rows, part_at, Slots, held_at, with_slot, TopicPart, topics_of, GateState, FlightState, some_same, none_some, Sending, KeepsRoom, is_flying, flying_count, SenderView}
use Rattle.std.specs.List.{find}
use Rattle.sender_gate.specs.Gate.{flight_of}
use Rattle.delivery.specs.Inner.Rooms.{AreOwn}

-- ---- the room for tickets

-- what a slot that was found holds
abbrev held : {A : Type 0} → Option (Topic × Option A) → Option A
held found = option_and_then (λ o. o) (option_map (λ s. s.1) found)

-- each part of a new flight is that of its topic
own_at : (id : TxnId) (sends : List SentMessage) (ts : List Topic) → AreOwn (map (λ u. (u, Some (part_at id sends u))) ts)
own_at id sends [] t p e = none_some p e
own_at id sends (u ∷ us) t p e = by_case (own_at id sends us t p) (u.0 == t.0) refl e
  where
    by_case : (held_at t (map (λ v. (v, Some (part_at id sends v))) us) ≡ Some p → p.topic ≡ t) → (b : Bool) → (u.0 == t.0) ≡ b
        → held (cond b (Some (u, Some (part_at id sends u))) (find (λ s. s.0.0 == t.0) (map (λ v. (v, Some (part_at id sends v))) us))) ≡ Some p → p.topic ≡ t
    by_case later true same is = subst (λ (q : TopicPart). q.topic ≡ t) (some_same (part_at id sends u) p is) (ap (λ (n : ℕ). record { 0 = n }) (eqb-true u.0 t.0 same))
    by_case later false same is = later is

-- a sender with this much room has it where a transaction begins
pub launched_room : (gate : GateState) (sends : List SentMessage) (flight : FlightState) (topics : List Topic) (many leftovers capacity : ℕ)
    → flight ≡ flight_of gate sends → many ≡ length (topics_of sends) → leftovers + many ≤ capacity → KeepsRoom (Sending.Flying flight topics) leftovers capacity
launched_room gate sends flight topics many leftovers capacity is count room =
    subst (λ (f : FlightState). KeepsRoom (Sending.Flying f topics) leftovers capacity) (sym is) (record {
      room = (let n = length-map {B = Topic × Option ℕ} (topics_of sends) (λ t. (t, None)) in omega (arith, n, count, room));
      own = own_at (flight_of gate sends).id sends (topics_of sends);
    })

-- what is held once a part was taken out was held before
held_less : {A : Type 0} (t u : Topic) (slots : Slots A) (p : A) → held_at u (with_slot t None slots) ≡ Some p → held_at u slots ≡ Some p
held_less t u [] p e = e
held_less {A = A} t u (s ∷ ss) p e = by_case (held_less t u ss p) (s.0.0 == t.0) (s.0.0 == u.0) refl e
  where
    by_case : (held_at u (with_slot t None ss) ≡ Some p → held_at u ss ≡ Some p) → (b c : Bool) → (s.0.0 == u.0) ≡ c
        → held (cond ((cond b (s.0, None) s).0.0 == u.0) (Some (cond b (s.0, None) s)) (find (λ s. s.0.0 == u.0) (with_slot t None ss))) ≡ Some p
        → held (cond (s.0.0 == u.0) (Some s) (find (λ s. s.0.0 == u.0) ss)) ≡ Some p
    by_case later true true same is = none_some p (sym (ap (λ (c : Bool). held (cond c (Some (s.0, None)) (find (λ s. s.0.0 == u.0) (with_slot t None ss)))) same) ∙ is)
    by_case later true false same is =
        ap (λ (c : Bool). held (cond c (Some s) (find (λ s. s.0.0 == u.0) ss))) same
        ∙ later (sym (ap (λ (c : Bool). held (cond c (Some (s.0, None)) (find (λ s. s.0.0 == u.0) (with_slot t None ss)))) same) ∙ is)
    by_case later false true same is =
        ap (λ (c : Bool). held (cond c (Some s) (find (λ s. s.0.0 == u.0) ss))) same
        ∙ (sym (ap (λ (c : Bool). held (cond c (Some s) (find (λ s. s.0.0 == u.0) (with_slot t None ss)))) same) ∙ is)
    by_case later false false same is =
        ap (λ (c : Bool). held (cond c (Some s) (find (λ s. s.0.0 == u.0) ss))) same
        ∙ later (sym (ap (λ (c : Bool). held (cond c (Some s) (find (λ s. s.0.0 == u.0) (with_slot t None ss)))) same) ∙ is)

-- the parts that are left are those of their topics still
pub own_less : (t : Topic) (parts : Slots TopicPart) → AreOwn parts → AreOwn (with_slot t None parts)
own_less t parts own u p e = own u p (held_less t u parts p e)

-- so the room is there still
pub taken_room : (t : Topic) (flight : FlightState) (topics : List Topic) (leftovers capacity : ℕ) → KeepsRoom (Sending.Flying flight topics) leftovers capacity
    → KeepsRoom (Sending.Flying (record flight { parts = with_slot t None flight.parts }) topics) leftovers capacity
taken_room t flight topics leftovers capacity h = record { room = h.room; own = own_less t flight.parts h.own }

-- there are no more tickets than topics
pub few_tickets : (tickets : Slots ℕ) → length (ticket_rows tickets) ≤ length tickets
few_tickets [] = omega arith
few_tickets (s ∷ more) = by_case (few_tickets more) s.1
  where
    by_case : length (ticket_rows more) ≤ length more → (o : Option ℕ) → length (option_to_list (option_map (λ n. record { n = n; topic = s.0 }) o) ++ ticket_rows more) ≤ suc (length more)
    by_case few None = omega (arith, few)
    by_case few (Some n) = omega (arith, few)

-- ---- the promised rows

-- 1 where it holds
abbrev pub one_where : Bool → ℕ
one_where b = cond b 1 0

count_head : (b c : Bool) (n : ℕ) → cond c (n + 1) n + one_where b ≡ cond b (n + 1) n + one_where c
count_head true true n = refl
count_head true false n = omega arith
count_head false true n = omega arith
count_head false false n = refl

count_tail : (b : Bool) (m n p q : ℕ) → m + p ≡ n + q → cond b (m + 1) m + p ≡ cond b (n + 1) n + q
count_tail true m n p q e = omega (arith, e)
count_tail false m n p q e = e

-- where one sender is another, as many more are on their way as it is one of them
pub count_set : (senders : List SenderView) (s : ℕ) (x d : SenderView) → s < length senders
    → flying_count (set senders s x) + one_where (is_flying (get_or senders s d).sending) ≡ flying_count senders + one_where (is_flying x.sending)
count_set [] s x d there = absurd (omega arith)
count_set (y ∷ ys) zero x d there = count_head (is_flying y.sending) (is_flying x.sending) (flying_count ys)
count_set (y ∷ ys) (suc s) x d there =
    count_tail (is_flying y.sending) (flying_count (set ys s x)) (flying_count ys) (one_where (is_flying (get_or ys s d).sending)) (one_where (is_flying x.sending))
    (count_set ys s x d (omega arith))

-- a sender whose transaction begins is one more
pub count_launched : (senders : List SenderView) (s : ℕ) (x d : SenderView) → s < length senders
    → is_flying (get_or senders s d).sending ≡ false → is_flying x.sending ≡ true → flying_count senders + 1 ≡ flying_count (set senders s x)
count_launched senders s x d there before after = let b = ap one_where before in let a = ap one_where after in let e = count_set senders s x d there in omega (arith, a, b, e)

-- one whose transaction ends is one fewer
pub count_ended : (senders : List SenderView) (s : ℕ) (x d : SenderView) → s < length senders
    → is_flying (get_or senders s d).sending ≡ true → is_flying x.sending ≡ false → flying_count senders ≡ flying_count (set senders s x) + 1
count_ended senders s x d there before after = let b = ap one_where before in let a = ap one_where after in let e = count_set senders s x d there in omega (arith, a, b, e)

-- with any other there are as many
pub count_same : (senders : List SenderView) (s : ℕ) (x d : SenderView) → s < length senders
    → is_flying x.sending ≡ is_flying (get_or senders s d).sending → flying_count senders ≡ flying_count (set senders s x)
count_same senders s x d there same = let a = ap one_where same in let e = count_set senders s x d there in omega (arith, a, e)

-- so are they with one more that has no transaction on its way
pub count_pushed : (senders : List SenderView) (x : SenderView) → is_flying x.sending ≡ false → flying_count (senders ++ x ∷ []) ≡ flying_count senders
count_pushed [] x idle = ap (λ (b : Bool). cond b (0 + 1) 0) idle
count_pushed (y ∷ ys) x idle = ap (λ (n : ℕ). cond (is_flying y.sending) (n + 1) n) (count_pushed ys x idle)
