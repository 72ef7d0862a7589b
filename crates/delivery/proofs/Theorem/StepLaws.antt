-- What holds of each step.
use Rattle.delivery.proofs.Words.All.{◌≡◌, ◌≢◌, ℕ, ◌+◌, ◌<◌, ◌==◌, max, Bool, true, false, cond, ◌⊎◌, inl, inr, List, [], ◌∷◌, ◌++◌, map, length, set, Option, Some, None, refl, sym, ap, subst, ◌∙◌, ltb, option_or, option_map, is_some, true≢false, not, not-true, not-false, and_parts, list_all, topics_of, In, names, Decision, Topic, TxnId, Stamp, ProposeFault, LearnFault, CancelFault, first_refusal, Item, TopicState, Pending, Entry, new_topic, find_entry, find_pending, cancel_fault_of, learn_fault, entry_after, after_release, item_of, same_topics, at_set, at_set_within, found_part, some_same, none_some, after_release_if, delivered_number, Objection, World, Leftover, topic_at, speaker, subscription_at, speaker_number, Move, Answer, answer_to, move_refusal, move_refusals, topic_objection, move_answer, undecided_at, find_leftover, find_verdict, proposal_fault, propose_answer, cancel_objection, cancel_objection_of, learn_objection, learn_objection_of, queue_has_room, answers_of, final_world, move_topic, is_odd, Refused}
use Rattle.delivery.specs.Machine.Moves.Answer.{Ticket}
use Rattle.delivery.specs.Machine.Moves.Move.{AddsTopic, Connects, Subscribes, Unsubscribes, Leaves, Proposes, Cancels, Learns, Releases, Turns}
use Rattle.delivery.specs.Theorem.Laws
use Rattle.delivery.specs.Theorem.Laws.{live_topic, IsGiven}
use Rattle.delivery.proofs.Words.Steps.{made_world, topic_in, leftover_found, at_old, Reached, tickets, by_refusal, checked, asks_of, reached, by_found, InEachCase, always, by_run, answer_as}
use Rattle.delivery.proofs.Machine.VerdictsFit.{learn_fault_is}

-- ---- an answer is no refusal

no_refusal : (w : World) (e : Move) (why : Objection) → InEachCase (λ v o. o ≡ Refused why → Prim.⊥) w e
no_refusal w (Leaves c) why = ((λ d. cc), λ s. ((λ d. cc), λ k d. cc))
no_refusal w _ why = ((λ d. cc), λ k d. cc)

-- no effect is answered by a refusal
pub no_answer : (w : World) (e : Move) (why : Objection) → move_answer w e ≡ Refused why → Prim.⊥
no_answer w e why = by_found (λ v o. o ≡ Refused why → Prim.⊥) w e (no_refusal w e why)

-- a refused event changes nothing
pub refusals_change_nothing : Laws.RefusalsChangeNothing
refusals_change_nothing w e why = by_refusal (λ v o. o ≡ Refused why → v ≡ w) w e (λ other k. refl) (λ n k. absurd (no_answer w e why k))

-- ---- other topics

untouched : (topics : List TopicState) (t u : Topic) (y : TopicState) → (Some t ≡ Some u → Prim.⊥) → topic_in (set topics t.0 y) u ≡ topic_in topics u
untouched topics t u y ne = at_set (λ z. z ≡ topic_in topics u) topics t.0 u.0 y (new_topic u 0 0) (λ e. absurd (ne (ap Some (sym (same_topics u t e))))) refl

effect_untouched : (w : World) (e : Move) (u : Topic) → u.0 < length w.topics → move_topic w e ≢ Some u → InEachCase (λ v o. topic_at v u ≡ topic_at w u) w e
effect_untouched w (AddsTopic clock) u l ne = always (at_old (λ z. z ≡ topic_at w u) w.topics u.0 _ (new_topic u 0 0) l refl)
effect_untouched w (Subscribes c t) u l ne = always (untouched w.topics t u _ ne)
effect_untouched w (Unsubscribes c s) u l ne = (refl, λ k. untouched w.topics (subscription_at w s).topic u _ ne)
effect_untouched w (Leaves c) u l ne = (refl, λ s. (refl, λ k. untouched w.topics (subscription_at w s.it).topic u _ (λ e. ne (ap (live_topic w) s.is ∙ e))))
effect_untouched w (Proposes c t memory) u l ne = (untouched w.topics t u _ ne, λ k. refl)
effect_untouched w (Cancels c t) u l ne = (refl, λ k. untouched w.topics t u _ ne)
effect_untouched w (Learns t id) u l ne = (refl, λ k. untouched w.topics t u _ ne)
effect_untouched w (Releases t) u l ne = always (untouched w.topics t u _ ne)
effect_untouched w (Turns t) u l ne = always (untouched w.topics t u _ ne)
effect_untouched w _ u l ne = (refl, λ k. refl)

-- an event changes no other topic than its own
pub others_untouched : Laws.OthersUntouched
others_untouched w e u l ne = by_refusal (λ v o. topic_at v u ≡ topic_at w u) w e (λ why. refl)
    (λ n. by_found (λ v o. topic_at v u ≡ topic_at w u) w e (effect_untouched w e u l ne))

-- ---- tickets

-- it is named, and the ticket is one above
abbrev IsOwn : World → ℕ → Stamp → Type 0
IsOwn w c ticket =
    (names ticket.topic (topics_of (undecided_at w c).txn.sends) ≡ true)
    × (ticket ≡ record { n = max (topic_at w ticket.topic).clock (speaker w c).floor.n + 1; topic = ticket.topic })

ticket_case : (w : World) (c : ℕ) (t : Topic) (o : Option ProposeFault) (id : TxnId) (ticket : Stamp) → propose_answer w c t o ≡ Ticket id ticket
    → ticket ≡ record { n = max (topic_at w t).clock (speaker w c).floor.n + 1; topic = t }
ticket_case w c t None id ticket e = cc
ticket_case w c t (Some fault) id ticket e = cc

-- a ticket comes from a topic that is named, one above its clock and its sender's floor
pub ticket_is_own : Laws.TicketIsOwn
ticket_is_own w e id ticket a =
    let h = answer_as w e a in let c = h.0 in let t = ticket.topic in let m = h.1 in
    let own : IsOwn w c ticket =
    by_refusal (λ v o. o ≡ Ticket id ticket → IsOwn w c ticket) w (Proposes c t m) (λ why d. cc)
    (λ n d. ((asks_of w c t m n).named, ticket_case w c t (proposal_fault w c t m) id ticket d)) (ap (answer_to w) (sym h.2) ∙ a) in
    (c, t, m, h.2, h.3, own.0, own.1)

-- ---- what never comes

abbrev are_usual : List (Bool × Objection) → Bool
are_usual cs = list_all (λ (c : Bool × Objection). not (is_odd c.1)) cs

usual_case : (b : Bool) (f why : Objection) (rest : Option Objection) → is_odd f ≡ false → (rest ≡ Some why → is_odd why ≡ false) → cond b (Some f) rest ≡ Some why → is_odd why ≡ false
usual_case true f why rest h ih e = subst (λ z. is_odd z ≡ false) (some_same f why e) h
usual_case false f why rest h ih e = ih e

usual_first : (cs : List (Bool × Objection)) (why : Objection) → are_usual cs ≡ true → first_refusal cs ≡ Some why → is_odd why ≡ false
usual_first [] why h e = none_some why e
usual_first (c ∷ cs) why h e =
    let both = and_parts (not (is_odd c.1)) (are_usual cs) h in usual_case c.0 c.1 why (first_refusal cs) (not-true (is_odd c.1) both.0) (λ k. usual_first cs why both.1 k) e

usual_checks : (w : World) (e : Move) → are_usual (move_refusals w e) ≡ true
usual_checks w (Connects c None) = refl
usual_checks w (Connects c (Some s)) = refl
usual_checks w _ = refl

usual_learn : (why : Objection) (o : Option LearnFault) → (o ≡ None) ⊎ (o ≡ Some LearnFault.NotPending) → option_map learn_objection_of o ≡ Some why → is_odd why ≡ false
usual_learn why o (inl n) e = none_some why (sym (ap (option_map learn_objection_of) n) ∙ e)
usual_learn why o (inr n) e = subst (λ z. is_odd z ≡ false) (some_same Objection.NotPending why (sym (ap (option_map learn_objection_of) n) ∙ e)) refl

learning_usual : (past : List Answer) (w : World) (t : Topic) (id : TxnId) (why : Objection) → Reached past w → (o : Option Decision) → find_verdict id w.verdicts ≡ o → learn_objection w t id o ≡ Some why → is_odd why ≡ false
learning_usual past w t id why h None f e = subst (λ z. is_odd z ≡ false) (some_same Objection.NotDecided why e) refl
learning_usual past w t id why h (Some v) f e = usual_learn why (learn_fault id v (topic_at w t)) (learn_fault_is (tickets past) w t id v h.inv f) e

-- a leftover part hasn't learnt
cancel_usual : (past : List Answer) (w : World) (t : Topic) (k : Leftover) (why : Objection) → Reached past w → ((p : Pending) → In p (topic_in w.topics t).pending → p.part.id ≡ k.id → is_some p.learnt ≡ false) → (o : Option Pending) → find_pending k.id (topic_in w.topics t).pending ≡ o → option_map cancel_objection_of (cancel_fault_of o) ≡ Some why → is_odd why ≡ false
cancel_usual past w t k why h un None f e = subst (λ z. is_odd z ≡ false) (some_same Objection.NotPending why e) refl
cancel_usual past w t k why h un (Some p) f e =
    let g = found_part k.id (topic_in w.topics t).pending p f in
    none_some why (sym (ap (λ (b : Bool). option_map cancel_objection_of (cond b (Some CancelFault.Decided) None)) (un p g.stands g.is)) ∙ e)

unlearnt : (past : List Answer) (w : World) (t : Topic) (s : ℕ) (k : Leftover) → Reached past w → In k (Rattle.delivery.proofs.Machine.Invariant.sender_in w.senders s).leftovers → (p : Pending) → In p (topic_in w.topics t).pending → p.part.id ≡ k.id → (o : Option Stamp) → p.learnt ≡ o → is_some o ≡ false
unlearnt past w t s k h i p j e None d = refl
unlearnt past w t s k h i p j e (Some stamp) d =
    let c = (h.inv.tied t).decided p j stamp d in
    absurd (((h.inv.serves s).left k i).uncommitted c.row c.stands (Rattle.mcast_txn.proofs.Orders.id_same c.row.txn.id k.id (c.id_is ∙ e)))

topic_usual : (past : List Answer) (w : World) (e : Move) (why : Objection) → Reached past w → topic_objection w e ≡ Some why → is_odd why ≡ false
topic_usual past w (Cancels c t) why h e = (elim (find_leftover t (speaker w c).leftovers) as (λ (o : Option Leftover). find_leftover t (speaker w c).leftovers ≡ o → cancel_objection w t o ≡ Some why → is_odd why ≡ false) [
  | None ↦ λ f e. subst (λ z. is_odd z ≡ false) (some_same Objection.NotNamed why e) refl
  | Some k ↦ λ f e. (let g = leftover_found t (speaker w c).leftovers k f in cancel_usual past w t k why h (λ p i d. unlearnt past w t (speaker_number w c) k h g.stands p i d p.learnt refl) (find_pending k.id (topic_in w.topics t).pending) refl e)
]) refl e
topic_usual past w (Learns t id) why h e = learning_usual past w t id why h (find_verdict id w.verdicts) refl e
topic_usual past w e why h k = none_some why k

else_usual : (a b : Option Objection) (why : Objection) → (a ≡ Some why → is_odd why ≡ false) → (b ≡ Some why → is_odd why ≡ false) → option_or a b ≡ Some why → is_odd why ≡ false
else_usual None b why f g e = g e
else_usual (Some x) b why f g e = f e

refusal_usual : (past : List Answer) (w : World) (e : Move) (why : Objection) → Reached past w → move_refusal w e ≡ Some why → is_odd why ≡ false
refusal_usual past w e why h =
    else_usual (first_refusal (move_refusals w e)) (topic_objection w e) why (usual_first (move_refusals w e) why (usual_checks w e)) (topic_usual past w e why h)

-- an event that is answered by a refusal was refused for it
pub outcome_case : (w : World) (e : Move) (why : Objection) (o : Option Objection) → (move_answer w e ≡ Refused why → Prim.⊥) → elim o [ None ↦ move_answer w e | Some other ↦ Refused other ] ≡ Refused why → o ≡ Some why
outcome_case w e why None never k = absurd (never k)
outcome_case w e why (Some other) never k = let d : other ≡ why = cc in ap Some d

-- in a world that a run reaches, no move is refused as foreign, as a clash, or as decided
pub outcome_usual : (past : List Answer) (w : World) (e : Move) (why : Objection) → Reached past w → answer_to w e ≡ Refused why → is_odd why ≡ false
outcome_usual past w e why h k = refusal_usual past w e why h (outcome_case w e why (move_refusal w e) (no_answer w e why) k)

-- in a run nothing is refused as foreign, as a clash, or as decided
pub odd_never_comes : Laws.OddNeverComes
odd_never_comes = by_run (λ past w. (why : Objection) → In (Refused why) past → is_odd why ≡ false) (λ capacity log_limit clocks why i. absurd i)
    (λ r e old why i. elim i [ inl k ↦ outcome_usual (answers_of r) (final_world r) e why (reached r) k | inr k ↦ old why k ])

-- a verdict that is found after a run is learnt, or refused because nothing of it is pending
pub found_is_learnt : Laws.FoundIsLearnt
found_is_learnt r t id v e = learn_fault_is (tickets (answers_of r)) (final_world r) t id v (reached r).inv e

-- ---- lag

given_case : (w : World) (frontier : Stamp) (p : Pending) (number : ℕ) (from : Stamp) (accepted : List Item) (b : Bool) → let before : Entry = record { number = number; from = from; to = None; accepted = accepted } in queue_has_room w before ≡ b → IsGiven w frontier p before (cond b (record before { accepted = accepted ++ item_of p ∷ [] }) (record before { to = Some frontier }))
given_case w frontier p number from accepted true e = record { number = refl; room = λ k. (refl, refl); full = λ k. absurd (true≢false (sym e ∙ k)) }
given_case w frontier p number from accepted false e = record { number = refl; room = λ k. absurd (true≢false (sym k ∙ e)); full = λ k. (refl, refl) }

given_of : (w : World) (frontier : Stamp) (p : Pending) (number : ℕ) (from : Stamp) (to : Option Stamp) (accepted : List Item) → to ≡ None → let before : Entry = record { number = number; from = from; to = to; accepted = accepted } in IsGiven w frontier p before (entry_after (queue_has_room w) frontier (item_of p) before)
given_of w frontier p number from None accepted e = given_case w frontier p number from accepted (queue_has_room w (record { number = number; from = from; to = None; accepted = accepted })) refl
given_of w frontier p number from (Some end) accepted e = none_some end (sym e)

stepped_case : (step : Entry → Entry) (b : Bool) (x e : Entry) (o p : Option Entry) → (o ≡ Some e → p ≡ Some (step e)) → cond b (Some x) o ≡ Some e → cond b (Some (step x)) p ≡ Some (step e)
stepped_case step true x e o p ih k = ap (λ z. Some (step z)) (some_same x e k)
stepped_case step false x e o p ih k = ih k

-- where each subscription makes a step that keeps its number, the one of a number is what it was after its step
pub find_stepped : (n : ℕ) (step : Entry → Entry) → ((e : Entry) → (step e).number ≡ e.number) → (es : List Entry) (e : Entry) → find_entry n es ≡ Some e → find_entry n (map step es) ≡ Some (step e)
find_stepped n step number [] e k = none_some e k
find_stepped n step number (x ∷ es) e k =
    subst (λ (a : ℕ). cond (a == n) (Some (step x)) (find_entry n (map step es)) ≡ Some (step e)) (sym (number x))
    (stepped_case step (x.number == n) x e (find_entry n es) (find_entry n (map step es)) (find_stepped n step number es e) k)

-- a release gives an open subscription the item where its queue has room, and else it lags
pub lags_where_full : Laws.LagsWhereFull
lags_where_full w t p number before n due found unended =
    let x = topic_at w t in let later = entry_after (queue_has_room w) x.frontier (item_of p) before in
    let room = Rattle.std.proofs.lemmas.Bool.ltb-true t.0 (length w.topics) (not-false (ltb t.0 (length w.topics)) (checked w (Releases t) n).0) in (
      later,
      subst (λ (v : World). find_entry number (topic_at v t).subscriptions ≡ Some later) (sym (made_world w (Releases t) n))
          (at_set_within (λ (z : TopicState). find_entry number z.subscriptions ≡ Some later) w.topics t.0 t.0 (after_release (queue_has_room w) x) (new_topic t 0 0) room
          (λ k. subst (λ (o : Option Pending). find_entry number (after_release_if (queue_has_room w) x o).subscriptions ≡ Some later) (sym due)
          (find_stepped number (entry_after (queue_has_room w) x.frontier (item_of p)) (delivered_number (queue_has_room w) x.frontier (item_of p)) x.subscriptions before found))
          (λ ne. absurd (ne refl))),
      given_of w x.frontier p before.number before.from before.to before.accepted unended,
    )
