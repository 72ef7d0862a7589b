-- A ticket is cancelled.
use Rattle.delivery.proofs.Words.All.{◌≡◌, ℕ, suc, ◌+◌, ◌<◌, ◌==◌, Bool, true, false, cond, not, ◌&&◌, nat_lt, List, [], ◌∷◌, map, length, get_or, set, Option, Some, None, Result, Ok, Err, inl, inr, refl, sym, ap, subst, ◌∙◌, arith, slice_get, lt-ltb, ltb-true, cases_Bool, append-nil, position, position_or_len, remove, is_some, option_or, option_map, Ticket, Topic, TxnId, Stamp, same_id, In, CancelFault, GroupState, result_of, Pending, cancel_fault, cancel_fault_of, after_cancel, id_itself, refusal_first, refusal_after, Waits, found_part, finds_part, none_some, some_same, Objection, refusal_of, World, Leftover, SenderState, topic_at, sender_at, speaker, with_sender, with_topic, speaker_number, Move, Answer, move_refusal, needs_connection, is_topic, find_leftover, drop_leftover, cancel_objection, cancel_objection_of, cancel_effect, cancel_answer, Run, final_world, Event, Outcome, Refusal, CoreStep, Reading, accepted_of, text_out, subscribe_frame, Core, names_at, unread_at, there_objection, speaker_at, sender_in, is_group, cancel_refusal_in, cancelled_view, IsReached, Makes, step_of, View, SenderView, view_of, sender_view, group_view, ticket_of, group_in, no_group}
use Rattle.delivery.specs.declared.refusal.Refusal.TheVariants as refusal
use Rattle.delivery.specs.Inner.Senders.{no_ticket, leftover_at, leftover_in, leftover_view}
use Rattle.delivery.proofs.Words.Steps.{made_world, made_answer, topic_in, leftover_found, reached}
use Rattle.delivery.proofs.Words.Changes.{by_world, IsQuiet, held_leftovers, sender_of, speaker_of, sender_of_endpoint, in_outcome, quiet_makes}
use Rattle.delivery.proofs.Views.Events.ProposeStep.{group_there}
use Rattle.delivery.proofs.Views.Events.ReleaseStep.{group_at}
use Rattle.delivery.proofs.Views.Senders.SameSeqAndReceipt.{sender_quiet, topic_quiet}
use Rattle.delivery.proofs.Views.Events.ConnectionIsThere.{cancelling_speaking, there_checked, is_there, still_there, refused_step, refused_outcome}

-- ---- the place of a ticket

-- a ticket as the code has it
abbrev pub as_ticket : Leftover → Ticket
as_ticket k = ticket_of k.id k.ticket

-- it is of this topic
abbrev pub is_of : Topic → Ticket → Bool
is_of t k = k.topic.0 == t.0

-- the first ticket of a topic among others, and its place
pub record FoundAt (t : Topic) (ks : List Leftover) (k : Leftover) : Type 0 where
  pub index : ℕ
  pub place : position_or_len (is_of t) (map as_ticket ks) ≡ index
  pub there : index < length (map as_ticket ks)
  pub is : get_or (map as_ticket ks) index no_ticket ≡ as_ticket k
  pub others : remove (map as_ticket ks) index ≡ map as_ticket (drop_leftover t ks)

found_at : (t : Topic) (ks : List Leftover) (k : Leftover) → find_leftover t ks ≡ Some k → FoundAt t ks k
found_at t [] k e = none_some k e
found_at t (l ∷ ls) k e = go (l.ticket.topic.0 == t.0) refl (found_at t ls k) e
  where
    go : (b : Bool) → (l.ticket.topic.0 == t.0) ≡ b → (find_leftover t ls ≡ Some k → FoundAt t ls k) → cond b (Some l) (find_leftover t ls) ≡ Some k → FoundAt t (l ∷ ls) k
    go true same later e = record {
      index = 0;
      place = ap (λ (b : Bool). cond (not b) (1 + position_or_len (is_of t) (map as_ticket ls)) 0) same;
      there = omega arith;
      is = ap as_ticket (some_same l k e);
      others = ap (λ (b : Bool). map as_ticket (cond b ls (l ∷ drop_leftover t ls))) (sym same);
    }
    go false same later e =
        let h = later e in let next : 1 + h.index ≡ suc h.index = omega arith in
        record {
          index = suc h.index;
          place = ap (λ (b : Bool). cond (not b) (1 + position_or_len (is_of t) (map as_ticket ls)) 0) same
              ∙ (ap (λ (n : ℕ). 1 + n) h.place ∙ next);
          there = (let below = h.there in omega (arith, below));
          is = h.is;
          others = ap (λ (ts : List Ticket). as_ticket l ∷ ts) h.others
              ∙ ap (λ (b : Bool). map as_ticket (cond b ls (l ∷ drop_leftover t ls))) (sym same);
        }

not_found : (t : Topic) (ks : List Leftover) → find_leftover t ks ≡ None → position_or_len (is_of t) (map as_ticket ks) ≡ length (map as_ticket ks)
not_found t [] e = refl
not_found t (l ∷ ls) e = (elim (l.ticket.topic.0 == t.0) as (λ (b : Bool). (find_leftover t ls ≡ None → position_or_len (is_of t) (map as_ticket ls) ≡ length (map as_ticket ls)) → cond b (Some l) (find_leftover t ls) ≡ None → cond (not b) (1 + position_or_len (is_of t) (map as_ticket ls)) 0 ≡ suc (length (map as_ticket ls))) [
  | true ↦ λ later e. none_some l (sym e)
  | false ↦ λ later e. (let same = later e in omega (arith, same))
]) (not_found t ls) e

-- the place of one that is found
place_is : (t : Topic) (ks : List Leftover) (k : Leftover) (h : FoundAt t ks k) → position (is_of t) (map as_ticket ks) ≡ Some h.index
place_is t ks k h =
    ap (λ (n : ℕ). cond (nat_lt n (length (map as_ticket ks))) (Some n) None) h.place
    ∙ ap (λ (b : Bool). cond b (Some h.index) None) (lt-ltb h.index (length (map as_ticket ks)) h.there)

-- there is none of one that isn't
no_place : (t : Topic) (ks : List Leftover) → find_leftover t ks ≡ None → position (is_of t) (map as_ticket ks) ≡ None
no_place t ks e =
    let n = length (map as_ticket ks) in
    ap (λ (m : ℕ). cond (nat_lt m n) (Some m) None) (not_found t ks e)
    ∙ elim (cases_Bool (nat_lt n n)) [
      | inl on ↦ (let l = ltb-true n n on in absurd (omega (arith, l)))
      | inr off ↦ ap (λ (b : Bool). cond b (Some n) None) off
    ]

-- ---- its part

-- a ticket that is to be cancelled is of a part that is pending and has learnt no stamp
free_in : (r : Run) (s : ℕ) (t : Topic) (k : Leftover) → find_leftover t (sender_at (final_world r) s).leftovers ≡ Some k → cancel_fault k.id (topic_at (final_world r) t) ≡ None
free_in r s t k e =
    let w = final_world r in let inv = (reached r).inv in let g = leftover_found t (sender_at w s).leftovers k e in let left = (inv.serves s).left k g.stands in
    let waits = subst (λ u. Waits k.id (topic_in w.topics u).pending) g.topic left.waits in let found = finds_part k.id (topic_at w t).pending waits.part waits.stands waits.is in
    let part = found_part k.id (topic_at w t).pending found.part found.found in
    ap cancel_fault_of found.found ∙ go found.part found.part.learnt refl part.stands part.is left.uncommitted
  where
    go : (p : Pending) (o : Option Stamp) → p.learnt ≡ o → In p (topic_at (final_world r) t).pending → p.part.id ≡ k.id
        → Rattle.delivery.proofs.Machine.Invariant.Uncommitted (final_world r).commits k.id → cancel_fault_of (Some p) ≡ None
    go p None is stands own un = ap (λ (o : Option Stamp). cond (is_some o) (Some CancelFault.Decided) None) is
    go p (Some stamp) is stands own un =
        let d = ((reached r).inv.tied t).decided p stands stamp is in absurd (un d.row d.stands (ap (λ (i : TxnId). same_id i k.id) (d.id_is ∙ own) ∙ id_itself k.id))

cancel_free : (q : Core) (s : ℕ) (t : Topic) (k : Leftover) → IsReached q → find_leftover t (sender_at q.world s).leftovers ≡ Some k → cancel_fault k.id (topic_at q.world t) ≡ None
cancel_free q s t k was = by_world (λ w. find_leftover t (sender_at w s).leftovers ≡ Some k → cancel_fault k.id (topic_at w t) ≡ None) q was (λ r. free_in r s t k)

-- ---- what stands against it

-- by the ticket that is found
abbrev left_objection : Option Leftover → Option Objection
left_objection None = Some Objection.NotNamed
left_objection (Some k) = None

abbrev left_refusal : Option Leftover → Option Refusal
left_refusal None = Some refusal.NotNamed
left_refusal (Some k) = None

-- the machine's objection
move_checked : (q : Core) (c : ℕ) (t : Topic) → IsReached q → there_objection (slice_get (view_of q).endpoints c) ≡ None
    → move_refusal q.world (Move.Cancels c t) ≡ cond (is_topic q.world t) (left_objection (find_leftover t (speaker q.world c).leftovers)) (Some Objection.NotNamed)
move_checked q c t was free =
    let w = q.world in
    ap (λ (r : Option Objection). option_or r (cancel_objection w t (find_leftover t (speaker w c).leftovers)))
    (refusal_after (needs_connection w c) ((not (is_topic w t), Objection.NotNamed) ∷ []) (sym (there_checked q c) ∙ free))
    ∙ go (is_topic w t) (find_leftover t (speaker w c).leftovers) refl
  where
    go : (b : Bool) (o : Option Leftover) → find_leftover t (speaker q.world c).leftovers ≡ o
        → option_or (cond (not b) (Some Objection.NotNamed) None) (cancel_objection q.world t o) ≡ cond b (left_objection o) (Some Objection.NotNamed)
    go true None e = refl
    go true (Some k) e = ap (λ (o : Option CancelFault). option_map cancel_objection_of o) (cancel_free q (speaker_number q.world c) t k was e)
    go false o e = refl

-- the private call's refusal
refusal_checked : (q : Core) (c s : ℕ) (t : Topic) → IsReached q → there_objection (slice_get (view_of q).endpoints c) ≡ None → s ≡ speaker_at (view_of q) c
    → cancel_refusal_in t s (view_of q) ≡ cond (is_topic q.world t) (left_refusal (find_leftover t (speaker q.world c).leftovers)) (Some refusal.NotNamed)
refusal_checked q c s t was free own =
    ap (λ (b : Bool). cond (b && is_some (leftover_at t (sender_in (view_of q) s))) None (Some refusal.NotNamed)) (group_there q t was)
    ∙ (ap (λ (y : SenderView). cond (is_topic q.world t && is_some (leftover_at t y)) None (Some refusal.NotNamed)) (sender_of_endpoint q c s was (is_there q c free) (still_there q c free) own)
    ∙ go (is_topic q.world t) (find_leftover t ks) refl)
  where
    ks : List Leftover
    ks = (speaker q.world c).leftovers

    go : (b : Bool) (o : Option Leftover) → find_leftover t ks ≡ o
        → cond (b && is_some (position (is_of t) (map as_ticket ks))) None (Some refusal.NotNamed) ≡ cond b (left_refusal o) (Some refusal.NotNamed)
    go false o e = refl
    go true None e = ap (λ (o : Option ℕ). cond (is_some o) None (Some refusal.NotNamed)) (no_place t ks e)
    go true (Some k) e = ap (λ (o : Option ℕ). cond (is_some o) None (Some refusal.NotNamed)) (place_is t ks k (found_at t ks k e))

-- the topic takes out the part of each ticket that is to be cancelled there
pub cancel_takes : (q : Core) (s : ℕ) (t : Topic) (i : ℕ) → IsReached q → s < length q.world.senders → is_group t (view_of q).groups ≡ true
    → leftover_at t (sender_in (view_of q) s) ≡ Some i → cancel_fault (leftover_in (sender_in (view_of q) s) i).id (group_in (view_of q) t).topic ≡ None
cancel_takes q s t i was there grouped at = by (find_leftover t ks) refl
  where
    ks : List Leftover
    ks = (sender_at q.world s).leftovers

    left : (sender_in (view_of q) s).leftovers ≡ map as_ticket ks
    left = ap (λ (y : SenderView). y.leftovers) (sender_of q s there) ∙ held_leftovers q.world s

    placed : position (is_of t) (map as_ticket ks) ≡ Some i
    placed = sym (ap (λ (ts : List Ticket). position (is_of t) ts) left) ∙ at

    by : (o : Option Leftover) → find_leftover t ks ≡ o → cancel_fault (leftover_in (sender_in (view_of q) s) i).id (group_in (view_of q) t).topic ≡ None
    by None e = none_some i (sym (no_place t ks e) ∙ placed)
    by (Some k) e =
        let h = found_at t ks k e in let same : i ≡ h.index = some_same i h.index (sym placed ∙ place_is t ks k h) in
        let topic : is_topic q.world t ≡ true = sym (group_there q t was) ∙ grouped in let group = group_at q t no_group (ltb-true t.0 (length q.world.topics) topic) in
        ap (λ (ts : List Ticket). cancel_fault (get_or ts i no_ticket).id (group_in (view_of q) t).topic) left
        ∙ (ap (λ (n : ℕ). cancel_fault (get_or (map as_ticket ks) n no_ticket).id (group_in (view_of q) t).topic) same
        ∙ (ap (λ (y : Ticket). cancel_fault y.id (group_in (view_of q) t).topic) h.is
        ∙ (ap (λ (g : GroupState). cancel_fault k.id g.topic) group
        ∙ cancel_free q s t k was e)))

-- so it never refuses to
pub cancel_never : (q : Core) (s : ℕ) (t : Topic) (i : ℕ) (id : TxnId) (x : SenderView) (g : GroupState) (fault : CancelFault) (result : Result Unit CancelFault)
    → IsReached q → s < length q.world.senders → x ≡ sender_in (view_of q) s → is_group t (view_of q).groups ≡ true → g ≡ group_in (view_of q) t
    → Some i ≡ leftover_at t x → id ≡ (leftover_in x i).id → result ≡ result_of (cancel_fault id g.topic) → result ≡ Err fault → Prim.⊥
cancel_never q s t i id x g fault result was there held grouped group at is answer refused =
    let free = cancel_takes q s t i was there grouped (sym (at ∙ ap (leftover_at t) held)) in
    let none : cancel_fault id g.topic ≡ None =
    ap (λ (y : TxnId). cancel_fault y g.topic) (is ∙ ap (λ (y : SenderView). (leftover_in y i).id) held)
    ∙ (ap (λ (h : GroupState). cancel_fault (leftover_in (sender_in (view_of q) s) i).id h.topic) group ∙ free) in
    let bad : Err fault ≡ Ok tt = sym refused ∙ (answer ∙ ap (λ (o : Option CancelFault). result_of o) none) in cc

-- a connection that isn't there or is gone
pub cancel_gone : (q : Core) (c : ℕ) (t : Topic) (o : Objection) (why : Refusal) → there_objection (slice_get (view_of q).endpoints c) ≡ Some o → refusal_of o ≡ Some why
    → Makes q (Event.Cancel c t) (Outcome.Refused why) (view_of q)
cancel_gone q c t o why stands is =
    let w = q.world in
    let refused : move_refusal w (Move.Cancels c t) ≡ Some o =
    ap (λ (r : Option Objection). option_or r (cancel_objection w t (find_leftover t (speaker w c).leftovers)))
    (refusal_first (needs_connection w c) ((not (is_topic w t), Objection.NotNamed) ∷ []) o (sym (there_checked q c) ∙ stands)) in
    refused_step q (Event.Cancel c t) why (Move.Cancels c t) o refl refused
    (subst (λ (os : List Outcome). In (Outcome.Refused why) os) (sym (refused_outcome q (Move.Cancels c t) o why refused is)) (inl refl)) refl

not_named : (b : Bool) (o : Option Leftover) (why : Refusal) → Some why ≡ cond b (left_refusal o) (Some refusal.NotNamed)
    → (cond b (left_objection o) (Some Objection.NotNamed) ≡ Some Objection.NotNamed) × (Some refusal.NotNamed ≡ Some why)
not_named true None why e = (refl, sym e)
not_named true (Some k) why e = none_some why (sym e)
not_named false o why e = (refl, sym e)

-- one that is refused
pub cancel_refused : (q : Core) (c s : ℕ) (t : Topic) (why : Refusal) → IsReached q → there_objection (slice_get (view_of q).endpoints c) ≡ None → s ≡ speaker_at (view_of q) c
    → Some why ≡ cancel_refusal_in t s (view_of q) → Makes q (Event.Cancel c t) (Outcome.Refused why) (view_of q)
cancel_refused q c s t why was free own refused =
    let h = not_named (is_topic q.world t) (find_leftover t (speaker q.world c).leftovers) why (refused ∙ refusal_checked q c s t was free own) in
    let moved : move_refusal q.world (Move.Cancels c t) ≡ Some Objection.NotNamed = move_checked q c t was free ∙ h.0 in
    refused_step q (Event.Cancel c t) why (Move.Cancels c t) Objection.NotNamed refl moved
    (subst (λ (os : List Outcome). In (Outcome.Refused why) os) (sym (refused_outcome q (Move.Cancels c t) Objection.NotNamed why moved h.1)) (inl refl)) refl

-- ---- the event

-- there is such a ticket
record Cancels (w : World) (c : ℕ) (t : Topic) : Type 0 where
  topic : is_topic w t ≡ true
  ticket : Leftover
  found : find_leftover t (speaker w c).leftovers ≡ Some ticket

cancels : (w : World) (c : ℕ) (t : Topic) → None ≡ cond (is_topic w t) (left_refusal (find_leftover t (speaker w c).leftovers)) (Some refusal.NotNamed) → Cancels w c t
cancels w c t e = go (is_topic w t) refl (find_leftover t (speaker w c).leftovers) refl e
  where
    go : (b : Bool) → is_topic w t ≡ b → (o : Option Leftover) → find_leftover t (speaker w c).leftovers ≡ o → None ≡ cond b (left_refusal o) (Some refusal.NotNamed) → Cancels w c t
    go true topic None found e = none_some refusal.NotNamed e
    go true topic (Some k) found e = record { topic = topic; ticket = k; found = found }
    go false topic o found e = none_some refusal.NotNamed e

quiet : (names : List (List ℕ)) (c : ℕ) (t : Topic) (older : List CoreStep) → IsQuiet names (step_of (Event.Cancel c t) Reading.Nothing Outcome.Cancelled) older
quiet names c t older = record { accepted = λ d. append-nil (accepted_of d older); unread = λ d. refl; text = λ d. append-nil (text_out names d older); began = λ s. refl; named = refl }

-- the part is taken out, and the ticket dropped
pub cancel_makes : (q : Core) (c s : ℕ) (t : Topic) → IsReached q → there_objection (slice_get (view_of q).endpoints c) ≡ None → s ≡ speaker_at (view_of q) c
    → None ≡ cancel_refusal_in t s (view_of q) → Makes q (Event.Cancel c t) Outcome.Cancelled (cancelled_view t s (view_of q))
cancel_makes q c s t was free own allowed =
    let w = q.world in let v = view_of q in let n = speaker_number w c in let x = speaker w c in let there = is_there q c free in
    let can = cancels w c t (allowed ∙ refusal_checked q c s t was free own) in let k = can.ticket in let h = found_at t x.leftovers k can.found in
    let held = sender_of_endpoint q c s was there (still_there q c free) own in let y = after_cancel k.id (topic_at w t) in
    let new : SenderState = record x { leftovers = drop_leftover t x.leftovers } in
    let moved : move_refusal w (Move.Cancels c t) ≡ None =
    move_checked q c t was free
    ∙ (ap (λ (b : Bool). cond b (left_objection (find_leftover t x.leftovers)) (Some Objection.NotNamed)) can.topic ∙ ap left_objection can.found) in
    let place : leftover_at t (sender_in v s) ≡ Some h.index = ap (leftover_at t) held ∙ place_is t x.leftovers k h in
    let id : (leftover_in (sender_in v s) h.index).id ≡ k.id = ap (λ (z : SenderView). (leftover_in z h.index).id) held ∙ ap (λ (z : Ticket). z.id) h.is in
    let groups : set v.groups t.0 (record (group_in v t) { topic = after_cancel (leftover_in (sender_in v s) h.index).id (group_in v t).topic }) ≡ set v.groups t.0 (group_view w y) =
    ap (λ (i : TxnId). set v.groups t.0 (record (group_in v t) { topic = after_cancel i (group_in v t).topic })) id
    ∙ ap (λ (g : GroupState). set v.groups t.0 (record g { topic = after_cancel k.id g.topic })) (group_at q t no_group (ltb-true t.0 (length w.topics) can.topic)) in
    let senders : set v.senders s (record (sender_in v s) { leftovers = remove (sender_in v s).leftovers h.index }) ≡ set v.senders n (sender_view n new) =
    ap (λ (z : SenderView). set v.senders s (record z { leftovers = remove z.leftovers h.index })) held
    ∙ (ap (λ (ts : List Ticket). set v.senders s (record (sender_view n x) { leftovers = ts })) h.others
    ∙ ap (λ (m : ℕ). set v.senders m (sender_view n new)) (own ∙ speaker_of q c there)) in
    let world = made_world w (Move.Cancels c t) moved ∙ ap (cancel_effect w c t) can.found in
    quiet_makes q (Event.Cancel c t) Outcome.Cancelled (with_topic (with_sender w n new) t y) (quiet q.names c t q.steps) refl
    (in_outcome q (Move.Cancels c t) Outcome.Cancelled (Answer.Cancelled k.id t) (made_answer w (Move.Cancels c t) moved ∙ ap (cancel_answer t) can.found) refl) world
    (ap (leftover_view t s v) place
    ∙ ((λ i. record v { groups = groups i; senders = senders i })
    ∙ (ap (λ (u : View). record u { groups = set u.groups t.0 (group_view w y) })
    (sender_quiet q c new was there (cancelling_speaking q c k free (leftover_found t x.leftovers k can.found).stands) refl (λ accepted. refl) (λ m. accepted_of m q.steps) (λ m. unread_at m q.steps) (λ m. text_out q.names m q.steps) (λ m. subscribe_frame m q.steps))
    ∙ topic_quiet (names_at q) (with_sender w n new) t y (λ m. accepted_of m q.steps) (λ m. unread_at m q.steps) (λ m. text_out q.names m q.steps) (λ m. subscribe_frame m q.steps))))
