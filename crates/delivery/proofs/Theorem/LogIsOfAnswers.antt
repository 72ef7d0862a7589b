-- A topic's log is the agreed sequence restricted to it, up to its frontier: as many rows as its outcomes released.
use Rattle.delivery.proofs.Words.All.{◌≡◌, ℕ, ◌+◌, ◌-◌, ◌<◌, ◌≤◌, ◌==◌, Bool, true, false, cond, not, ◌&&◌, List, [], ◌∷◌, map, length, take, Option, Some, None, refl, sym, ap, subst, ◌∙◌, arith, not-true, true≢false, and_parts, and_from, eqb-true, eq-eqb, ltb-true, not-false, get_or-set_same, length-append, take-map, filter, stamp_lt, part_at, topics_of, CommitRow, stamp_of, agreed, In, Rises, names, Topic, Stamp, ProposeFault, LogRow, Item, row_stamp, TopicState, Pending, Entry, new_topic, due_part, after_propose, after_cancel, after_learn, after_unsubscribe, after_turn, row_of, decided_stamp, lt_asym, le_lt, same_topics, In-map, In-map_cases, In-filter, In-filter_cases, at_set, filter_none, In-sorted, In-sorted_cases, Rises-sorted, Rises-filter, Rises-map, same_rising, map_length, after_release_if, log_row, World, topic_at, speaker, subscription_at, entry_at, with_topic, log_at, frontier_at, Move, Answer, move_refusal, move_effect, move_answer, is_topic, find_leftover, find_verdict, verdict_in, oldest_live, commit_effect, commit_answer, proposal_fault, propose_effect, propose_answer, cancel_effect, cancel_answer, learn_effect, release_answer, queue_has_room, take_effect, undecided_at, take_answer, leave_effect, leave_answer, close_effect_of, commits_of, released_at, answers_of, final_world, is_logged, Done, Learnt}
use Rattle.mcast_group.proofs.Turns.{turn_grows}
use Rattle.delivery.specs.Machine.Moves.Move.{AddsTopic, Commits, Subscribes, Unsubscribes, Leaves, Proposes, Cancels, Learns, Releases, Turns, Takes}
use Rattle.delivery.specs.Theorem.Laws
use Rattle.delivery.proofs.Words.Steps.{topic_in, Holds, at_topic_from, at_added, topic_with, tickets, by_refusal, checked, reached, at_new, frontier_is, in_log, by_run}

-- ---- the log beside the agreed sequence

log_is : (ts : List CommitRow) (w : World) (t : Topic) → Holds ts w → let x = topic_in w.topics t in x.held ≡ map log_row (filter (is_logged t x.frontier) (agreed w.commits))
log_is ts w t inv =
    let x = topic_in w.topics t in
    same_rising row_stamp x.held (map log_row (filter (is_logged t x.frontier) (agreed w.commits))) (inv.tied t).sound.rises
    (Rises-map stamp_of row_stamp log_row (filter (is_logged t x.frontier) (agreed w.commits)) (λ r. refl)
    (Rises-filter stamp_of (is_logged t x.frontier) (agreed w.commits) (Rises-sorted stamp_of w.commits inv.consistent.apart)))
    to_log from_log
  where
    to_log : (l : LogRow) → In l (topic_in w.topics t).held → In l (map log_row (filter (is_logged t (topic_in w.topics t).frontier) (agreed w.commits)))
    to_log l k =
        let x = topic_in w.topics t in let g = (inv.tied t).logged l k in let e : g.row.stamp ≡ l.stamp = ap (λ (z : LogRow). z.stamp) g.is in
        subst (λ z. In z (map log_row (filter (is_logged t x.frontier) (agreed w.commits)))) g.is
        (In-map log_row g.row (filter (is_logged t x.frontier) (agreed w.commits))
        (In-filter (is_logged t x.frontier) g.row (agreed w.commits) (In-sorted stamp_of g.row w.commits g.stands)
        (and_from (names t (topics_of g.row.txn.sends)) (not (stamp_lt x.frontier g.row.stamp)) g.named
        (ap not (subst (λ z. stamp_lt x.frontier z ≡ false) (sym e) ((inv.tied t).sound.past l k))))))

    from_log : (l : LogRow) → In l (map log_row (filter (is_logged t (topic_in w.topics t).frontier) (agreed w.commits))) → In l (topic_in w.topics t).held
    from_log l k =
        let x = topic_in w.topics t in let m = In-map_cases log_row l (filter (is_logged t x.frontier) (agreed w.commits)) k in
        let n = In-filter_cases (is_logged t x.frontier) m.from (agreed w.commits) m.stands in let r = m.from in
        let a = and_parts (names t (topics_of r.txn.sends)) (not (stamp_lt x.frontier r.stamp)) n.passes in let old = In-sorted_cases stamp_of r w.commits n.stands in
        subst (λ z. In z x.held) m.is (in_log ts w t r inv old (not-true (stamp_lt x.frontier r.stamp) a.1) ((inv.tied t).placed r old a.0))

-- a topic's log is the agreed sequence restricted to it, up to its frontier
pub log_is_agreed : Laws.LogIsAgreed
log_is_agreed r t =
    let h = reached r in let w = final_world r in
    log_is (tickets (answers_of r)) w t h.inv
    ∙ (ap (λ f. map log_row (filter (is_logged t f) (agreed w.commits))) (frontier_is (tickets (answers_of r)) w t h.inv)
    ∙ ap (λ z. map log_row (filter (is_logged t (frontier_at w t)) (agreed z))) (sym h.commits))

-- ---- the log beside the outcomes

abbrev Counts : Topic → List Answer → World → Type 0
Counts t past w = length (log_at w t) ≡ released_at t past

-- a topic's step that leaves its log
held_beside : (w : World) (u t : Topic) (y : TopicState) → y.held ≡ (topic_in w.topics u).held → log_at (with_topic w u y) t ≡ log_at w t
held_beside w u t y e = at_topic_from (λ v z. z.held ≡ (topic_in w.topics v).held) w.topics u t y (λ k. e) refl

beside : (t : Topic) (past : List Answer) (w : World) (u : Topic) (y : TopicState) → y.held ≡ (topic_in w.topics u).held → Counts t past w → Counts t past (with_topic w u y)
beside t past w u y e h = ap (λ (z : List LogRow). length z) (held_beside w u t y e) ∙ h

written : (t : Topic) (past : List Answer) (w : World) (u : Topic) (y : TopicState) (n : ℕ) → u.0 < length w.topics → length y.held ≡ length (log_at w u) + n → Counts t past w → length (log_at (with_topic w u y) t) ≡ cond (u.0 == t.0) (released_at t past + n) (released_at t past)
written t past w u y n room e h = (elim (u.0 == t.0) as (λ (b : Bool). (u.0 == t.0) ≡ b → length (log_at (with_topic w u y) t) ≡ cond b (released_at t past + n) (released_at t past)) [
  | true ↦ λ d. (let s = same_topics u t (eqb-true u.0 t.0 d) in subst (λ z. length (log_at (with_topic w u y) z) ≡ length (log_at w z) + n) s (ap (λ (z : TopicState). length z.held) (get_or-set_same w.topics u.0 y (new_topic u 0 0) room) ∙ e) ∙ ap (λ (k : ℕ). k + n) h)
  | false ↦ λ d. at_set (λ (z : TopicState). length z.held ≡ length (log_at w t)) w.topics u.0 t.0 y (new_topic t 0 0) (λ k. absurd (true≢false (sym (eq-eqb u.0 t.0 (sym k)) ∙ d))) refl ∙ h
]) refl

-- ---- each event

added_counts : (t : Topic) (past : List Answer) (w : World) (clock : ℕ) → Counts t past w → Counts t (Done ∷ past) (move_effect w (AddsTopic clock))
added_counts t past w clock h = at_added (λ u z. length z.held ≡ released_at t past) w.topics w.log_limit clock t (λ k. k) h

closed_counts : (t : Topic) (past : List Answer) (w : World) (s : ℕ) (o : Option Entry) → Counts t past w → Counts t past (close_effect_of w s o)
closed_counts t past w s None h = h
closed_counts t past w s (Some entry) h = let u = (subscription_at w s).topic in beside t past w u (after_unsubscribe s (topic_at w u)) refl h

turned_counts : (t : Topic) (past : List Answer) (w : World) (u : Topic) → is_topic w u ≡ true → Counts t past w → Counts t (move_answer w (Turns u) ∷ past) (move_effect w (Turns u))
turned_counts t past w u room h =
    let x = topic_at w u in let y = after_turn (queue_has_room w) (verdict_in w) x in let l : length x.held ≤ length y.held = turn_grows (queue_has_room w) (verdict_in w) x in
    written t past w u y (length y.held - length x.held) (ltb-true u.0 (length w.topics) room) (omega arith) h

taken_counts : (t : Topic) (past : List Answer) (w : World) (q : ℕ) (o : Option Item) → Counts t past w → Counts t (take_answer w q o ∷ past) (take_effect w q o)
taken_counts t past w q None h = h
taken_counts t past w q (Some item) h = h

effect_counts : (t : Topic) (past : List Answer) (w : World) (e : Move) → move_refusal w e ≡ None → Counts t past w → Counts t (move_answer w e ∷ past) (move_effect w e)
effect_counts t past w (AddsTopic clock) n h = added_counts t past w clock h
effect_counts t past w (Commits c sends) n h = elim sends as (λ sends. Counts t (commit_answer w c sends ∷ past) (commit_effect w c sends)) [ [] ↦ h | first ∷ others ↦ h ]
effect_counts t past w (Subscribes c u) n h = beside t past w u (topic_with w u) refl h
effect_counts t past w (Unsubscribes c s) n h = closed_counts t past w s (entry_at w s) h
effect_counts t past w (Leaves c) n h = elim (oldest_live c 0 w.subscriptions) as (λ o. Counts t (leave_answer w c o ∷ past) (leave_effect w c o)) [ None ↦ h | Some s ↦ closed_counts t past w s (entry_at w s) h ]
effect_counts t past w (Proposes c u memory) n h = elim (proposal_fault w c u memory) as (λ (o : Option ProposeFault). Counts t (propose_answer w c u o ∷ past) (propose_effect w c u o)) [
  | None ↦ beside t past w u (after_propose (speaker w c).floor (part_at (undecided_at w c).txn.id (undecided_at w c).txn.sends u) (topic_at w u)) refl h
  | Some fault ↦ h
]
effect_counts t past w (Cancels c u) n h = elim (find_leftover u (speaker w c).leftovers) as (λ o. Counts t (cancel_answer u o ∷ past) (cancel_effect w c u o)) [ None ↦ h | Some k ↦ beside t past w u (after_cancel k.id (topic_at w u)) refl h ]
effect_counts t past w (Learns u id) n h = elim (find_verdict id w.verdicts) as (λ o. Counts t (Learnt id u ∷ past) (learn_effect w u id o)) [ None ↦ h | Some v ↦ beside t past w u (after_learn id (decided_stamp v) (topic_at w u)) refl h ]
effect_counts t past w (Releases u) n h = elim (due_part (topic_at w u)) as (λ (o : Option Pending). Counts t (release_answer u o ∷ past) (with_topic w u (after_release_if (queue_has_room w) (topic_at w u) o))) [
  | None ↦ beside t past w u (topic_at w u) refl h
  | Some p ↦ written t past w u (after_release_if (queue_has_room w) (topic_at w u) (Some p)) 1 (ltb-true u.0 (length w.topics) (not-false (is_topic w u) (checked w (Releases u) n).0)) (length-append (log_at w u) (row_of p ∷ [])) h
]
effect_counts t past w (Turns u) n h = turned_counts t past w u (not-false (is_topic w u) (checked w (Turns u) n).0) h
effect_counts t past w (Takes q) n h = taken_counts t past w q _ h
effect_counts t past w _ n h = h

-- a topic's log has as many rows as its answers released
pub log_counts_releases : Laws.LogCountsReleases
log_counts_releases r t =
    by_run (Counts t) (λ capacity log_limit clocks. at_new (λ (z : TopicState). length z.held ≡ 0) 0 log_limit clocks t.0 t (omega arith) (λ limit clock. refl))
    (λ q e h. by_refusal (λ v o. Counts t (o ∷ answers_of q) v) (final_world q) e (λ why. h) (λ n. effect_counts t (answers_of q) (final_world q) e n h)) r

-- ---- both

-- of rows that rise those up to f that pass are a front of those that pass
abbrev pub IsFront : (CommitRow → Bool) → Stamp → List CommitRow → Type 0
IsFront p f rows = let q : CommitRow → Bool = λ r. p r && not (stamp_lt f r.stamp) in filter q rows ≡ take (length (filter q rows)) (filter p rows)

front_case : (p : CommitRow → Bool) (f : Stamp) (x : CommitRow) (xs : List CommitRow) → ((y : CommitRow) → In y xs → stamp_lt x.stamp y.stamp ≡ true) → IsFront p f xs → let q : CommitRow → Bool = λ r. p r && not (stamp_lt f r.stamp) in (a b : Bool) → stamp_lt f x.stamp ≡ b → let front = cond (a && not b) (x ∷ filter q xs) (filter q xs) in front ≡ take (length front) (cond a (x ∷ filter p xs) (filter p xs))
front_case p f x xs up h false b e = h
front_case p f x xs up h true false e = ap (λ z. x ∷ z) h
front_case p f x xs up h true true e =
    let n = filter_none (λ r. p r && not (stamp_lt f r.stamp)) xs
    (λ y i. (elim (p y) as (λ (a : Bool). (a && (not (stamp_lt f y.stamp))) ≡ false) [ true ↦ (ap not (le_lt f x.stamp y.stamp (lt_asym f x.stamp e) (up y i))) | false ↦ refl ])) in
    n ∙ sym (ap (λ (z : List CommitRow). take (length z) (x ∷ filter p xs)) n)

-- of rows that rise, those up to a stamp are a front
pub front : (p : CommitRow → Bool) (f : Stamp) (rows : List CommitRow) → Rises stamp_of rows → IsFront p f rows
front p f [] up = refl
front p f (x ∷ xs) up = front_case p f x xs up.0 (front p f xs up.1) (p x) (stamp_lt f x.stamp) refl

-- a topic's log is as many rows of the agreed sequence at it as were released, from the first
pub log_is_of_outcomes : Laws.LogIsOfAnswers
log_is_of_outcomes r t =
    let h = reached r in let w = final_world r in let f = frontier_at w t in let cs = commits_of (answers_of r) in
    let p : CommitRow → Bool = λ row. names t (topics_of row.txn.sends) in
    let up : Rises stamp_of (agreed cs) = subst (λ z. Rises stamp_of (agreed z)) (sym h.commits) (Rises-sorted stamp_of w.commits h.inv.consistent.apart) in
    let a = log_is_agreed r t in let logged = filter (is_logged t f) (agreed cs) in
    let n : length logged ≡ released_at t (answers_of r) = sym (map_length log_row logged) ∙ (sym (ap (λ (z : List LogRow). length z) a) ∙ log_counts_releases r t) in
    a ∙ (ap (map log_row) (front p f (agreed cs) up)
    ∙ (sym (take-map log_row (length logged) (filter p (agreed cs)))
    ∙ ap (λ (k : ℕ). take k (map log_row (filter p (agreed cs)))) n))
