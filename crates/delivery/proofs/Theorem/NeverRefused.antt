-- What a run's topics hold where the core looks for it: parts that are to be cancelled or proposed, and subscriptions' entries.
use Rattle.delivery.proofs.Words.All.{◌≡◌, ℕ, ◌<◌, Bool, true, false, cond, ◌⊎◌, inl, inr, List, [], ◌∷◌, length, Option, Some, None, refl, sym, ap, subst, ◌∙◌, arith, option_or, option_map, is_some, TopicPart, same_id, In, Topic, TxnId, Stamp, ProposeFault, CancelFault, SubFault, first_refusal, TopicState, Pending, Entry, find_pending, is_pending, cancel_fault_of, find_entry, id_equal, id_same, any_found, Waits, finds_part, Objection, World, Leftover, Subscription, topic_at, speaker, subscription_at, speaker_number, Move, Answer, answer_to, move_refusal, move_refusals, undecided_at, find_leftover, cancel_objection, cancel_objection_of, answers_of, final_world, Proposes, Cancels, Failed, Run}
use Rattle.delivery.specs.Theorem.Laws
use Rattle.delivery.proofs.Words.Steps.{topic_in, Owned, not_given, leftover_found, found_entry, finds_entry, Reached, by_refusal, asks_of, Asks, reached, by_run, answer_as}
use Rattle.delivery.proofs.Theorem.StepLaws.{no_answer, outcome_case}

-- ---- a ticket that is to be cancelled

else_cases : (a b : Option Objection) (why : Objection) → option_or a b ≡ Some why → (a ≡ Some why) ⊎ (b ≡ Some why)
else_cases None b why e = inr e
else_cases (Some x) b why e = inl e

-- no test that stands before a cancelling speaks of what is pending
not_checked : (a b c : Bool) → first_refusal ((a, Objection.NoConn) ∷ (b, Objection.Gone) ∷ (c, Objection.NotNamed) ∷ []) ≡ Some Objection.NotPending → Prim.⊥
not_checked true b c e = cc
not_checked false true c e = cc
not_checked false false true e = cc
not_checked false false false e = cc

found_case : (p : Pending) (b : Bool) → option_map cancel_objection_of (cond b (Some CancelFault.Decided) None) ≡ Some Objection.NotPending → Prim.⊥
found_case p true e = cc
found_case p false e = cc

waits_here : (id : TxnId) (ps : List Pending) → Waits id ps → option_map cancel_objection_of (cancel_fault_of (find_pending id ps)) ≡ Some Objection.NotPending → Prim.⊥
waits_here id ps h e =
    let f = finds_part id ps h.part h.stands h.is in
    found_case f.part (is_some f.part.learnt) (ap (λ (o : Option Pending). option_map cancel_objection_of (cancel_fault_of o)) (sym f.found) ∙ e)

is_waiting : (past : List Answer) (w : World) (c : ℕ) (t : Topic) → Reached past w → (o : Option Leftover) → find_leftover t (speaker w c).leftovers ≡ o → cancel_objection w t o ≡ Some Objection.NotPending → Prim.⊥
is_waiting past w c t h None f e = cc
is_waiting past w c t h (Some k) f e =
    let g = leftover_found t (speaker w c).leftovers k f in
    waits_here k.id (topic_at w t).pending (subst (λ u. Waits k.id (topic_in w.topics u).pending) g.topic ((h.inv.serves (speaker_number w c)).left k g.stands).waits) e

-- no cancelling is refused because its part isn't pending
pub cancel_finds_its_part : Laws.CancelFindsItsPart
cancel_finds_its_part r c t e =
    let w = final_world r in
    elim (else_cases (first_refusal (move_refusals w (Cancels c t))) (cancel_objection w t (find_leftover t (speaker w c).leftovers)) Objection.NotPending
    (outcome_case w (Cancels c t) Objection.NotPending (move_refusal w (Cancels c t)) (no_answer w (Cancels c t) Objection.NotPending) e)) [
      | inl k ↦ not_checked _ _ _ k
      | inr k ↦ is_waiting (answers_of r) w c t (reached r) (find_leftover t (speaker w c).leftovers) refl k
    ]

-- ---- a proposal

-- the undecided transaction has no part at a topic that gave it no ticket
not_waiting : (past : List Answer) (w : World) (c : ℕ) (t : Topic) → Reached past w → Asks w c t → is_pending (undecided_at w c).txn.id (topic_at w t).pending ≡ true → Prim.⊥
not_waiting past w c t h a e =
    let f = undecided_at w c in let s = speaker_number w c in let p = any_found (λ (q : Pending). same_id q.part.id f.txn.id) (topic_at w t).pending e in
    let tied = h.inv.tied t in let k = tied.ticketed p.it p.stands in let g = (h.inv.serves s).flying f (a.flying.is ∙ ap Some (sym a.flying.at)) in
    let own : k.ticket.txn.id ≡ f.txn.id = ap (λ (z : TopicPart). z.id) k.part_is ∙ id_equal p.it.part.id f.txn.id p.passes in
    let given = g.given_all k.ticket k.stands (g.same k.ticket k.stands (id_same k.ticket.txn.id f.txn.id own)) in
    let here : k.ticket.stamp.topic ≡ t = ap (λ (z : Stamp). z.topic) k.stamp_is ∙ (tied.sound.own p.it p.stands ∙ tied.topic) in
    not_given t f.given a.unheard k.ticket.stamp given (ap (λ (z : Topic). z.0) (sym here))

fault_case : (b d e : Bool) → (b ≡ true → Prim.⊥) → first_refusal ((b, ProposeFault.Twice) ∷ (d, ProposeFault.ClockFull) ∷ (e, ProposeFault.LogFull) ∷ []) ≡ Some ProposeFault.Twice → Prim.⊥
fault_case true d e n k = n refl
fault_case false true e n k = cc
fault_case false false true n k = cc
fault_case false false false n k = cc

-- no proposal is answered so
outcome_once : (r : Run) (e : Move) (id : TxnId) → answer_to (final_world r) e ≡ Failed id ProposeFault.Twice → Prim.⊥
outcome_once r e id a =
    let w = final_world r in let h = answer_as w e a in let c = h.0 in let t = h.1 in let m = h.2 in
    elim h.5 [
      | inl k ↦ by_refusal (λ v o. o ≡ Failed id ProposeFault.Twice → Prim.⊥) w (Proposes c t m) (λ why d. cc)
          (λ n d. fault_case (is_pending (undecided_at w c).txn.id (topic_at w t).pending) _ _ (not_waiting (answers_of r) w c t (reached r) (asks_of w c t m n)) k)
          (ap (answer_to w) (sym h.3) ∙ a)
      | inr k ↦ (let d = k.0 in cc)
    ]

-- no proposal fails because its transaction is pending there
pub none_is_pending_twice : Laws.NoneIsPendingTwice
none_is_pending_twice = by_run (λ past w. (id : TxnId) → In (Failed id ProposeFault.Twice) past → Prim.⊥) (λ capacity log_limit clocks id i. i)
    (λ r e old id i. elim i [ inl k ↦ outcome_once r e id k | inr k ↦ old id k ])

-- ---- subscriptions

fresh_case : (subs : List Subscription) (t : Topic) (x : TopicState) → ((e : Entry) → In e x.subscriptions → Owned subs t e.number e.from) → (o : Option Entry) → find_entry (length subs) x.subscriptions ≡ o → is_some o ≡ false
fresh_case subs t x own None f = refl
fresh_case subs t x own (Some e) f =
    let k = found_entry (length subs) x.subscriptions e f in
    absurd (let l : e.number < length subs = (own e k.stands).there in let n : e.number ≡ length subs = k.is in omega arith)

-- the next subscription's number is free at each topic
pub numbers_are_free : Laws.NumbersAreFree
numbers_are_free r t =
    let w = final_world r in let x = topic_at w t in
    ap (λ (b : Bool). cond b (Some SubFault.SubInUse) None)
    (fresh_case w.subscriptions t x ((reached r).inv.subscribes.owned t) (find_entry (length w.subscriptions) x.subscriptions) refl)

-- a subscription that isn't closed has its entry at its topic
pub entries_are_there : Laws.EntriesAreThere
entries_are_there r s l unclosed =
    let w = final_world r in let x = topic_at w (subscription_at w s).topic in let h = (reached r).inv.subscribes.live s l unclosed in
    let f = finds_entry s x.subscriptions h.entry h.stands h.number in ap (λ (o : Option Entry). cond (is_some o) None (Some (record {}))) f.found

-- each entry of a topic is that of a subscription to it that isn't closed
pub entries_are_owned : Laws.EntriesAreOwned
entries_are_owned r t e i = let h = (reached r).inv.subscribes.owned t e i in (h.there, h.topic, h.closed, h.from_is)
