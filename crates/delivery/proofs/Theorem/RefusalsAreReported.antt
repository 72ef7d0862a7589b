-- What refuses a move is reported by the core, but for a sender without sequence numbers, and for what stands against
-- speaking for a sender.
use Rattle.delivery.proofs.Words.All.{◌≡◌, ℕ, Bool, true, false, cond, ◌⊎◌, inl, inr, List, [], ◌∷◌, Option, Some, None, refl, sym, subst, ◌∙◌, option_map, option_or, true≢false, first_refusal, Decision, Topic, TxnId, SentMessage, LearnFault, CancelFault, learn_fault, cancel_fault, some_same, none_some, Objection, World, Leftover, topic_at, speaker, Move, move_refusal, move_refusals, topic_objection, find_leftover, find_verdict, learn_objection, learn_objection_of, cancel_objection, cancel_objection_of, answers_of, final_world, is_odd, AddsTopic, Opens, Connects, Commits, Subscribes, Unsubscribes, Leaves, Proposes, Decides, Withdraws, Cancels, Learns, Releases, Turns}
use Rattle.delivery.specs.Machine.Objections.{is_reported}
use Rattle.delivery.specs.Theorem.Laws
use Rattle.delivery.specs.Theorem.Laws.{is_of_claim}
use Rattle.delivery.proofs.Theorem.AcceptedIsDue.{reached}
use Rattle.delivery.proofs.Theorem.StepLaws.{no_answer, outcome_case, outcome_usual}

-- the core never reports it: it is the machine's own
abbrev is_own : Objection → Bool
is_own Objection.SeqFull = true
is_own Objection.NoSender = true
is_own Objection.HasSender = true
is_own Objection.InUse = true
is_own why = false

-- what isn't odd is reported, or is the machine's own
reported : (why : Objection) → is_odd why ≡ false → (is_reported why ≡ true) ⊎ (is_own why ≡ true)
reported Objection.Foreign e = absurd (true≢false e)
reported Objection.Clash e = absurd (true≢false e)
reported Objection.Decided e = absurd (true≢false e)
reported Objection.SeqFull e = inr refl
reported Objection.NoSender e = inr refl
reported Objection.HasSender e = inr refl
reported Objection.InUse e = inr refl
reported _ e = inl refl

-- ---- what each of some refusals says, the first that holds says

abbrev Each : (Objection → Type 0) → List (Bool × Objection) → Type 0
Each P [] = Unit {0}
Each P (c ∷ cs) = P c.1 × Each P cs

first_case : (P : Objection → Type 0) (b : Bool) (f why : Objection) (rest : Option Objection) → P f → (rest ≡ Some why → P why) → cond b (Some f) rest ≡ Some why → P why
first_case P true f why rest h ih e = subst P (some_same f why e) h
first_case P false f why rest h ih e = ih e

first_is : (P : Objection → Type 0) (cs : List (Bool × Objection)) (why : Objection) → Each P cs → first_refusal cs ≡ Some why → P why
first_is P [] why h e = none_some why e
first_is P (c ∷ cs) why h e = first_case P c.0 c.1 why (first_refusal cs) h.0 (λ k. first_is P cs why h.1 k) e

either_is : (P : Objection → Type 0) (a b : Option Objection) (why : Objection) → (a ≡ Some why → P why) → (b ≡ Some why → P why) → option_or a b ≡ Some why → P why
either_is P None b why f g e = g e
either_is P (Some x) b why f g e = f e

refused_is : (P : Objection → Type 0) (w : World) (e : Move) (why : Objection) → Each P (move_refusals w e) → (topic_objection w e ≡ Some why → P why) → move_refusal w e ≡ Some why → P why
refused_is P w e why h k = either_is P (first_refusal (move_refusals w e)) (topic_objection w e) why (first_is P (move_refusals w e) why h) k

-- ---- another's than the machine's own

abbrev IsOther : Objection → Type 0
IsOther why = is_own why ≡ false

learn_other : (o : Option LearnFault) (why : Objection) → option_map learn_objection_of o ≡ Some why → IsOther why
learn_other None why e = none_some why e
learn_other (Some LearnFault.NotPending) why e = subst IsOther (some_same Objection.NotPending why e) refl
learn_other (Some LearnFault.Foreign) why e = subst IsOther (some_same Objection.Foreign why e) refl
learn_other (Some LearnFault.Clash) why e = subst IsOther (some_same Objection.Clash why e) refl

learning_other : (w : World) (t : Topic) (id : TxnId) (o : Option Decision) (why : Objection) → learn_objection w t id o ≡ Some why → IsOther why
learning_other w t id None why e = subst IsOther (some_same Objection.NotDecided why e) refl
learning_other w t id (Some v) why e = learn_other (learn_fault id v (topic_at w t)) why e

cancel_other : (o : Option CancelFault) (why : Objection) → option_map cancel_objection_of o ≡ Some why → IsOther why
cancel_other None why e = none_some why e
cancel_other (Some CancelFault.NotPending) why e = subst IsOther (some_same Objection.NotPending why e) refl
cancel_other (Some CancelFault.Decided) why e = subst IsOther (some_same Objection.Decided why e) refl

cancelling_other : (w : World) (t : Topic) (o : Option Leftover) (why : Objection) → cancel_objection w t o ≡ Some why → IsOther why
cancelling_other w t None why e = subst IsOther (some_same Objection.NotNamed why e) refl
cancelling_other w t (Some k) why e = cancel_other (cancel_fault k.id (topic_at w t)) why e

topic_other : (w : World) (e : Move) (why : Objection) → topic_objection w e ≡ Some why → IsOther why
topic_other w (Cancels c t) why k = cancelling_other w t (find_leftover t (speaker w c).leftovers) why k
topic_other w (Learns t id) why k = learning_other w t id (find_verdict id w.verdicts) why k
topic_other w e why k = none_some why k

-- ---- a commit, and a claim

abbrev OfCommit : Objection → Type 0
OfCommit why = (is_reported why ≡ true) ⊎ ((why ≡ Objection.SeqFull) ⊎ (why ≡ Objection.NoSender))

commit_refused : (w : World) (c : ℕ) (sends : List SentMessage) (why : Objection) → move_refusal w (Commits c sends) ≡ Some why → OfCommit why
commit_refused w c sends why =
    refused_is OfCommit w (Commits c sends) why (inl refl, (inl refl, (inl refl, (inr (inr refl), (inl refl, (inr (inl refl), tt)))))) (λ e. none_some why e)

abbrev OfClaim : Objection → Type 0
OfClaim why = (is_reported why ≡ true) ⊎ (is_of_claim why ≡ true)

claim_refused : (w : World) (c : ℕ) (claimed : Option ℕ) (why : Objection) → move_refusal w (Connects c claimed) ≡ Some why → OfClaim why
claim_refused w c None why = refused_is OfClaim w (Connects c None) why (inl refl, (inl refl, (inl refl, (inr refl, tt)))) (λ e. none_some why e)
claim_refused w c (Some s) why = refused_is OfClaim w (Connects c (Some s)) why (inl refl, (inl refl, (inl refl, (inr refl, (inr refl, (inr refl, tt)))))) (λ e. none_some why e)

-- ---- every move

abbrev IsExcept : Move → Objection → Type 0
IsExcept e why =
    (is_reported why ≡ true)
    ⊎ ((((why ≡ Objection.SeqFull) ⊎ (why ≡ Objection.NoSender)) × (c : ℕ) × (sends : List SentMessage) × (e ≡ Commits c sends))
    ⊎ ((is_of_claim why ≡ true) × (c : ℕ) × (claimed : Option ℕ) × (e ≡ Connects c claimed)))

plain : (w : World) (e : Move) (why : Objection) → is_odd why ≡ false → Each IsOther (move_refusals w e) → move_refusal w e ≡ Some why → IsExcept e why
plain w e why usual h k = elim (reported why usual) [
  | inl y ↦ inl y
  | inr own ↦ absurd (true≢false (sym own ∙ refused_is IsOther w e why h (topic_other w e why) k))
]

by_move : (w : World) (e : Move) (why : Objection) → is_odd why ≡ false → move_refusal w e ≡ Some why → IsExcept e why
by_move w (Connects c claimed) why u k = elim (claim_refused w c claimed why k) [ inl y ↦ inl y | inr of ↦ inr (inr (of, c, claimed, refl)) ]
by_move w (Commits c sends) why u k = elim (commit_refused w c sends why k) [ inl y ↦ inl y | inr of ↦ inr (inl (of, c, sends, refl)) ]
by_move w (AddsTopic clock) why u k = plain w (AddsTopic clock) why u tt k
by_move w Opens why u k = plain w Opens why u tt k
by_move w (Subscribes c t) why u k = plain w (Subscribes c t) why u (refl, (refl, (refl, (refl, tt)))) k
by_move w (Unsubscribes c s) why u k = plain w (Unsubscribes c s) why u (refl, (refl, (refl, (refl, tt)))) k
by_move w (Leaves c) why u k = plain w (Leaves c) why u (refl, (refl, (refl, (refl, tt)))) k
by_move w (Proposes c t memory) why u k = plain w (Proposes c t memory) why u (refl, (refl, (refl, (refl, (refl, (refl, tt)))))) k
by_move w (Decides c) why u k = plain w (Decides c) why u (refl, (refl, (refl, (refl, (refl, tt))))) k
by_move w (Withdraws c) why u k = plain w (Withdraws c) why u (refl, (refl, (refl, (refl, tt)))) k
by_move w (Learns t id) why u k = plain w (Learns t id) why u (refl, tt) k
by_move w (Releases t) why u k = plain w (Releases t) why u (refl, (refl, tt)) k
by_move w (Turns t) why u k = plain w (Turns t) why u (refl, tt) k
by_move w other why u k = plain w other why u (refl, (refl, (refl, tt))) k

-- what refuses a move is reported by the core, but for some of a commit and of a claim
pub refusals_are_reported : Laws.RefusalsAreReported
refusals_are_reported r e why k =
    by_move (final_world r) e why (outcome_usual (answers_of r) (final_world r) e why (reached r) k)
    (outcome_case (final_world r) e why (move_refusal (final_world r) e) (no_answer (final_world r) e why) k)
