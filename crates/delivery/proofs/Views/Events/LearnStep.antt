-- A topic learns the verdict of a transaction.
use Rattle.delivery.proofs.Words.All.{◌≡◌, ◌<◌, ◌≤◌, ◌⊎◌, inl, inr, Bool, true, false, not, List, [], ◌∷◌, map, length, get_or, set, Option, Some, None, Result, Ok, Err, refl, sym, ap, subst, ◌∙◌, option_or, lt-ltb, le-ltb, map-set, set-get_or, Topic, TxnId, Decision, first_refusal, LearnFault, GroupState, result_of, learn_fault, after_try, after_learn, decided_stamp, Objection, World, topic_at, with_topic, Move, Answer, is_topic, find_verdict, verdict_in, learn_objection, learn_objection_of, learn_effect, move_refusal, Event, Outcome, Refusal, Core, IsReached, Makes, verdict_held, learn_result, after_learn_at, view_of, group_view, no_group}
use Rattle.delivery.specs.Inner.TopicSteps.{group_after_try}
use Rattle.delivery.proofs.Machine.Effects.{made_world, made_answer}
use Rattle.delivery.proofs.Theorem.StepLaws.{found_is_learnt}
use Rattle.delivery.proofs.Words.Changes.{by_world, learn_is_quiet, in_outcome, refused_makes, quiet_makes}
use Rattle.delivery.proofs.Views.Events.ReleaseStep.{group_at}
use Rattle.delivery.proofs.Views.Verdicts.FoundVerdict.{verdict_is}

-- what stands against it, where the topic is there or not and this was found
learn_refusal : (w : World) (t : Topic) (id : TxnId) (b : Bool) (found : Option Decision) → is_topic w t ≡ b → find_verdict id w.verdicts ≡ found
    → move_refusal w (Move.Learns t id) ≡ option_or (first_refusal ((not b, Objection.NotNamed) ∷ [])) (learn_objection w t id found)
learn_refusal w t id b found there is = λ i. option_or (first_refusal ((not (there i), Objection.NotNamed) ∷ [])) (learn_objection w t id (is i))

-- there is no such topic
pub learn_unnamed : (k : Core) (t : Topic) (id : TxnId) → length k.world.topics ≤ t.0 → Makes k (Event.Learn t id) (Outcome.Refused Refusal.NotNamed) (view_of k)
learn_unnamed k t id none =
    refused_makes k (Event.Learn t id) Refusal.NotNamed (Move.Learns t id) Objection.NotNamed refl refl
    (learn_refusal k.world t id false (find_verdict id k.world.verdicts) (le-ltb t.0 (length k.world.topics) none) refl) refl refl

-- what is reported of a group's answer; Foreign and Clash never come
abbrev pub learn_outcome : Option (Result Unit LearnFault) → Outcome
learn_outcome None = Outcome.Refused Refusal.NotDecided
learn_outcome (Some (Ok done)) = Outcome.Learnt
learn_outcome (Some (Err fault)) = Outcome.Refused Refusal.NotPending

-- where nothing is learnt all stays
stays : (k : Core) (t : Topic) (id : TxnId) (found : Option Decision) → t.0 < length k.world.topics → verdict_held (view_of k) id ≡ found
    → after_try id found (topic_at k.world t) ≡ topic_at k.world t → after_learn_at (view_of k) t.0 id no_group ≡ view_of k
stays k t id found there is same =
    let gs = (view_of k).groups in let at = group_at k t no_group there in
    let group : group_after_try id (verdict_held (view_of k) id) (get_or gs t.0 no_group) ≡ get_or gs t.0 no_group =
    ap (λ (o : Option Decision). group_after_try id o (get_or gs t.0 no_group)) is
    ∙ (ap (λ (g : GroupState). group_after_try id found g) at
    ∙ (ap (λ (x : Rattle.mcast_group.specs.Machine.TopicState). record (group_view k.world (topic_at k.world t)) { topic = x }) same
    ∙ sym at)) in
    ap (λ (g : GroupState). record (view_of k) { groups = set gs t.0 g }) group
    ∙ ap (λ (hs : List GroupState). record (view_of k) { groups = hs }) (set-get_or gs t.0 no_group)

undecided : (k : Core) (t : Topic) (id : TxnId) → t.0 < length k.world.topics → find_verdict id k.world.verdicts ≡ None
    → Makes k (Event.Learn t id) (Outcome.Refused Refusal.NotDecided) (view_of k)
undecided k t id there none =
    refused_makes k (Event.Learn t id) Refusal.NotDecided (Move.Learns t id) Objection.NotDecided refl refl
    (learn_refusal k.world t id true None (lt-ltb t.0 (length k.world.topics) there) none) refl refl

-- what stands against a verdict that was found
fault_refusal : (w : World) (t : Topic) (id : TxnId) (v : Decision) (o : Option LearnFault) → t.0 < length w.topics
    → find_verdict id w.verdicts ≡ Some v → learn_fault id v (topic_at w t) ≡ o → move_refusal w (Move.Learns t id) ≡ Rattle.std.specs.Option.option_map learn_objection_of o
fault_refusal w t id v o there found is =
    learn_refusal w t id true (Some v) (lt-ltb t.0 (length w.topics) there) found
    ∙ ap (λ (f : Option LearnFault). Rattle.std.specs.Option.option_map learn_objection_of f) is

not_pending : (k : Core) (t : Topic) (id : TxnId) (v : Decision) → t.0 < length k.world.topics → find_verdict id k.world.verdicts ≡ Some v
    → learn_fault id v (topic_at k.world t) ≡ Some LearnFault.NotPending → Makes k (Event.Learn t id) (Outcome.Refused Refusal.NotPending) (view_of k)
not_pending k t id v there found fault =
    refused_makes k (Event.Learn t id) Refusal.NotPending (Move.Learns t id) Objection.NotPending refl refl
    (fault_refusal k.world t id v (Some LearnFault.NotPending) there found fault) refl refl

learnt : (k : Core) (t : Topic) (id : TxnId) (v : Decision) → t.0 < length k.world.topics → find_verdict id k.world.verdicts ≡ Some v
    → verdict_held (view_of k) id ≡ Some v → learn_fault id v (topic_at k.world t) ≡ None → Makes k (Event.Learn t id) Outcome.Learnt (after_learn_at (view_of k) t.0 id no_group)
learnt k t id v there found held fault =
    let w = k.world in let x = topic_at w t in let y = after_learn id (decided_stamp v) x in let free = fault_refusal w t id v None there found fault in
    let tried : after_try id (Some v) x ≡ y =
    ap (λ (o : Option LearnFault). elim o [ None ↦ y | Some f ↦ x ]) fault in
    let groups : set (view_of k).groups t.0 (group_after_try id (verdict_held (view_of k) id) (get_or (view_of k).groups t.0 no_group))
    ≡ map (group_view w) (set w.topics t.0 y) =
    ap (λ (o : Option Decision). set (view_of k).groups t.0 (group_after_try id o (get_or (view_of k).groups t.0 no_group))) held
    ∙ (ap (λ (g : GroupState). set (view_of k).groups t.0 (group_after_try id (Some v) g)) (group_at k t no_group there)
    ∙ (ap (λ (z : Rattle.mcast_group.specs.Machine.TopicState). set (view_of k).groups t.0 (record (group_view w x) { topic = z })) tried
    ∙ sym (map-set (group_view w) w.topics t.0 y))) in
    let effect : learn_effect w t id (find_verdict id w.verdicts) ≡ with_topic w t y = ap (learn_effect w t id) found in
    quiet_makes k (Event.Learn t id) Outcome.Learnt (with_topic w t y) (learn_is_quiet k.names t id k.steps) refl
    (in_outcome k (Move.Learns t id) Outcome.Learnt (Answer.Learnt id t) (made_answer w (Move.Learns t id) free) refl)
    (made_world w (Move.Learns t id) free ∙ effect) (ap (λ (gs : List GroupState). record (view_of k) { groups = gs }) groups)

-- this outcome may come of it
abbrev IsMade : Core → Topic → TxnId → Outcome → Type 0
IsMade k t id o = Makes k (Event.Learn t id) o (after_learn_at (view_of k) t.0 id no_group)

-- what a group of a topic that is there answers is reported so
pub learn_makes : (k : Core) (t : Topic) (id : TxnId) (r : Option (Result Unit LearnFault)) → IsReached k → t.0 < length k.world.topics
    → r ≡ learn_result id (verdict_held (view_of k) id) (get_or (view_of k).groups t.0 no_group)
    → Makes k (Event.Learn t id) (learn_outcome r) (after_learn_at (view_of k) t.0 id no_group)
learn_makes k t id r reached there is =
    subst (λ o. IsMade k t id (learn_outcome o)) (sym (is ∙ (ap (λ (g : GroupState). learn_result id (verdict_held (view_of k) id) g) (group_at k t no_group there) ∙ ap (λ (o : Option Decision). learn_result id o (group_view k.world x)) held)))
    (by_found (find_verdict id k.world.verdicts) refl)
  where
    x : Rattle.mcast_group.specs.Machine.TopicState
    x = topic_at k.world t

    held : verdict_held (view_of k) id ≡ find_verdict id k.world.verdicts
    held = verdict_is k id reached

    by_found : (found : Option Decision) → find_verdict id k.world.verdicts ≡ found → IsMade k t id (learn_outcome (learn_result id (find_verdict id k.world.verdicts) (group_view k.world x)))
    by_found None e =
        subst (λ o. IsMade k t id (learn_outcome (learn_result id o (group_view k.world x)))) (sym e)
        (subst (λ v. Makes k (Event.Learn t id) (Outcome.Refused Refusal.NotDecided) v) (sym (stays k t id None there (held ∙ e) refl)) (undecided k t id there e))
    by_found (Some v) e =
        subst (λ o. IsMade k t id (learn_outcome (learn_result id o (group_view k.world x)))) (sym e)
        (elim (by_world (λ w. verdict_in w id ≡ Some v → (learn_fault id v (topic_at w t) ≡ None) ⊎ (learn_fault id v (topic_at w t) ≡ Some LearnFault.NotPending)) k reached (λ r. found_is_learnt r t id v) e) [
          | inl none ↦ subst (λ (f : Option LearnFault). IsMade k t id (learn_outcome (Some (result_of f)))) (sym none) (learnt k t id v there e (held ∙ e) none)
          | inr fault ↦
              subst (λ (f : Option LearnFault). IsMade k t id (learn_outcome (Some (result_of f)))) (sym fault)
              (subst (λ z. Makes k (Event.Learn t id) (Outcome.Refused Refusal.NotPending) z)
              (sym (stays k t id (Some v) there (held ∙ e) (ap (λ (o : Option LearnFault). elim o [ None ↦ after_learn id (decided_stamp v) x | Some f ↦ x ]) fault)))
              (not_pending k t id v there e fault))
        ])

-- a topic that refuses a verdict has no such part pending: it is never another's, nor another one
pub never_odd : (k : Core) (t : Topic) (id : TxnId) (f : LearnFault) → IsReached k → t.0 < length k.world.topics
    → Some (Err f) ≡ learn_result id (verdict_held (view_of k) id) (get_or (view_of k).groups t.0 no_group) → f ≡ LearnFault.NotPending
never_odd k t id f reached there is =
    by_found (find_verdict id k.world.verdicts) refl
    (is
    ∙ (ap (λ (g : GroupState). learn_result id (verdict_held (view_of k) id) g) (group_at k t no_group there)
    ∙ ap (λ (o : Option Decision). learn_result id o (group_view k.world x)) (verdict_is k id reached)))
  where
    x : Rattle.mcast_group.specs.Machine.TopicState
    x = topic_at k.world t

    pending : (o : Option LearnFault) → (o ≡ None) ⊎ (o ≡ Some LearnFault.NotPending) → ◌≡◌ {A = Option (Result Unit LearnFault)} (Some (Err f)) (Some (result_of o))
        → f ≡ LearnFault.NotPending
    pending o (inl none) e = absurd (let h = e ∙ ap (λ (p : Option LearnFault). Some (result_of p)) none in cc)
    pending o (inr fault) e = let h = e ∙ ap (λ (p : Option LearnFault). Some (result_of p)) fault in cc

    by_found : (found : Option Decision) → find_verdict id k.world.verdicts ≡ found
        → Some (Err f) ≡ learn_result id (find_verdict id k.world.verdicts) (group_view k.world x) → f ≡ LearnFault.NotPending
    by_found None e h = absurd (let z = h ∙ ap (λ (o : Option Decision). learn_result id o (group_view k.world x)) e in cc)
    by_found (Some v) e h =
        pending (learn_fault id v x)
        (by_world (λ w. verdict_in w id ≡ Some v → (learn_fault id v (topic_at w t) ≡ None) ⊎ (learn_fault id v (topic_at w t) ≡ Some LearnFault.NotPending)) k reached (λ r. found_is_learnt r t id v) e)
        (h ∙ ap (λ (o : Option Decision). learn_result id o (group_view k.world x)) e)
