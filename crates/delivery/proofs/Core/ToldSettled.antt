-- What is told of the machine's answers comes of one of them. So a topic that is settled, and a subscription that is silent, by what
-- is told of the answers is so by the answers.
use Rattle.delivery.proofs.Words.All.{AllByRecursion, ◌≡◌, ◌⊎◌, ℕ, true, inl, inr, List, [], ◌∷◌, ◌++◌, refl, sym, ap, subst, ◌∙◌, eq-eqb, Topic, TxnId, Stamp, Transaction, In, Answer, txn_of_id, Told}
use Rattle.delivery.specs.Theorem.Settled.{closes, SilentAfterClose, IsResolved as Resolved, AllResolved as Resolving, IsSettled as Settled, IsSilent as Silent}
use Rattle.delivery.specs.Core.Told.{AllResolved, IsSettled, IsSilent}
use Rattle.delivery.proofs.Machine.AnswerLemmas.{made_id}
use Rattle.delivery.proofs.Core.Tells.{tells, tell, source, told_in}
use Rattle.delivery.proofs.Views.Senders.TicketsOfTopics.{all_in}

-- ---- which answer tells what

-- what an answer is that tells this, after these
abbrev Means : Told → Answer → List Answer → Type 0
Means (Told.Begun txn) o past = o ≡ Answer.Begun txn
Means (Told.Decided txn stamp) o past = (id : TxnId) × (o ≡ Answer.Decided id stamp) × (txn_of_id id past ≡ txn)
Means (Told.Withdrawn txn) o past = (id : TxnId) × (c : ℕ) × (o ≡ Answer.Withdrawn id c) × (txn_of_id id past ≡ txn)
Means (Told.Cancelled id t) o past = o ≡ Answer.Cancelled id t
Means (Told.Subscribed s c t) o past = (from : Stamp) × (o ≡ Answer.Subscribed s c t from)
Means (Told.Unsubscribed s to) o past = o ≡ Answer.Unsubscribed s to
Means (Told.Closed c) o past = closes c o ≡ true
Means x o past = Unit {0}

-- an answer is all that it tells
each_means : (o : Answer) (past : List Answer) → AllByRecursion (λ (x : Told). Means x o past) (tells o past)
each_means (Answer.Begun txn) past = (refl, tt)
each_means (Answer.Subscribed s c t from) past = ((from, refl), tt)
each_means (Answer.Unsubscribed s to) past = (refl, tt)
each_means (Answer.Leaving c) past = (eq-eqb c c refl, tt)
each_means (Answer.Error c) past = (eq-eqb c c refl, tt)
each_means (Answer.Decided id stamp) past = ((id, refl, refl), tt)
each_means (Answer.Withdrawn id c) past = (eq-eqb c c refl, ((id, c, refl, refl), tt))
each_means (Answer.Cancelled id t) past = (refl, tt)
each_means (Answer.Ticket id ticket) past = (tt, tt)
each_means (Answer.Released t id) past = (tt, tt)
each_means (Answer.Turned t count) past = (tt, tt)
each_means (Answer.Handed s item) past = (tt, tt)
each_means o past = tt

means : (x : Told) (o : Answer) (past : List Answer) → In x (tells o past) → Means x o past
means x o past i = all_in (λ (z : Told). Means z o past) (tells o past) (each_means o past) x i

-- an end that is told was answered
pub end_from : (s : ℕ) (to : Stamp) (past : List Answer) → In (Told.Unsubscribed s to) (tell past) → In (Answer.Unsubscribed s to) past
end_from s to past i = let h = source (Told.Unsubscribed s to) past i in subst (λ (o : Answer). In o past) (means (Told.Unsubscribed s to) h.by h.before h.says) h.stands

-- ---- settled topics

decided_from : (txn : Transaction) (stamp : Stamp) (past : List Answer) → In (Told.Decided txn stamp) (tell past) → In (Answer.Decided txn.id stamp) past
decided_from txn stamp past i =
    let h = source (Told.Decided txn stamp) past i in let m = means (Told.Decided txn stamp) h.by h.before h.says in
    let same : m.0 ≡ txn.id = sym (made_id m.0 h.before) ∙ ap (λ (z : Transaction). z.id) m.2 in
    subst (λ (o : Answer). In o past) (m.1 ∙ ap (λ (z : TxnId). Answer.Decided z stamp) same) h.stands

withdrawn_from : (txn : Transaction) (past : List Answer) → In (Told.Withdrawn txn) (tell past) → (c : ℕ) × In (Answer.Withdrawn txn.id c) past
withdrawn_from txn past i =
    let h = source (Told.Withdrawn txn) past i in let m = means (Told.Withdrawn txn) h.by h.before h.says in
    let same : m.0 ≡ txn.id = sym (made_id m.0 h.before) ∙ ap (λ (z : Transaction). z.id) m.3 in
    (m.1, subst (λ (o : Answer). In o past) (m.2 ∙ ap (λ (z : TxnId). Answer.Withdrawn z m.1) same) h.stands)

cancelled_from : (id : TxnId) (t : Topic) (past : List Answer) → In (Told.Cancelled id t) (tell past) → In (Answer.Cancelled id t) past
cancelled_from id t past i = let h = source (Told.Cancelled id t) past i in subst (λ (o : Answer). In o past) (means (Told.Cancelled id t) h.by h.before h.says) h.stands

resolved_from : (t : Topic) (past : List Answer) (txn : Transaction)
    → ((stamp : Stamp) × In (Told.Decided txn stamp) (tell past)) ⊎ (In (Told.Withdrawn txn) (tell past) × (In (Told.Ticket txn.id t) (tell past) → In (Told.Cancelled txn.id t) (tell past)))
    → Resolved t past txn
resolved_from t past txn (inl d) = inl (d.0, decided_from txn d.0 past d.1)
resolved_from t past txn (inr d) =
    inr (
      withdrawn_from txn past d.0,
      (λ ticket i e. cancelled_from txn.id t past
          (d.1 (subst (λ (u : Topic). In (Told.Ticket txn.id u) (tell past)) e
          (told_in (Told.Ticket txn.id ticket.topic) (Answer.Ticket txn.id ticket) past (λ before. inl refl) i)))),
    )

resolving_from : (t : Topic) (past : List Answer) → AllResolved t (tell past) → Resolving t past
resolving_from t past h txn i named = resolved_from t past txn (h txn (told_in (Told.Begun txn) (Answer.Begun txn) past (λ before. inl refl) i) named)

-- a topic that is settled by what is told is settled by the answers
pub settled_from : (t : Topic) (past : List Answer) → IsSettled t (tell past) → Settled t past
settled_from t [] h = h
settled_from t (Answer.Begun txn ∷ past) h = (h.0, settled_from t past h.1)
settled_from t (Answer.Decided id stamp ∷ past) h = (h.0, settled_from t past h.1)
settled_from t (Answer.Withdrawn id c ∷ past) h = (h.0, settled_from t past h.1)
settled_from t (Answer.Cancelled id u ∷ past) h = (h.0, settled_from t past h.1)
settled_from t (Answer.Turned u n ∷ past) h = elim h [
  | inl k ↦ inl (k.0, resolving_from t past k.1)
  | inr k ↦ inr (settled_from t past k)
]
settled_from t (_ ∷ past) h = settled_from t past h

-- ---- silence

silent_from : (s : ℕ) (past : List Answer) → IsSilent s (tell past) → Silent s past
silent_from s past (inl k) = inl (k.0, end_from s k.0 past k.1)
silent_from s past (inr k) =
    let x = source (Told.Subscribed s k.0 k.1) past k.2 in let m = means (Told.Subscribed s k.0 k.1) x.by x.before x.says in let y = source (Told.Closed k.0) past k.3 in
    inr (k.0, k.1, m.0, y.by, subst (λ (o : Answer). In o past) m.1 x.stands, y.stands, means (Told.Closed k.0) y.by y.before y.says)

-- nothing is handed on of a subscription that was silent before, by what is told
abbrev pub SilentAsTold : List Told → Type 0
SilentAsTold [] = Unit {0}
SilentAsTold (Told.Handed s ∷ before) = (IsSilent s before → Prim.⊥) × SilentAsTold before
SilentAsTold (o ∷ before) = SilentAsTold before

silent_told : (past : List Answer) → SilentAfterClose past → SilentAsTold (tell past)
silent_told [] h = h
silent_told (Answer.Handed s item ∷ past) h = ((λ k. h.0 (silent_from s past k)), silent_told past h.1)
silent_told (_ ∷ past) h = silent_told past h

silent_above : (s : ℕ) (before xs : List Told) → SilentAsTold (xs ++ Told.Handed s ∷ before) → IsSilent s before → Prim.⊥
silent_above s before [] h k = h.0 k
silent_above s before (Told.Handed r ∷ xs) h k = silent_above s before xs h.1 k
silent_above s before (o ∷ xs) h k = silent_above s before xs h k

-- so of each that is told
pub silent_at : (past : List Answer) → SilentAfterClose past → (later before : List Told) (s : ℕ) → tell past ≡ later ++ Told.Handed s ∷ before → IsSilent s before → Prim.⊥
silent_at past h later before s e k = silent_above s before later (subst SilentAsTold e (silent_told past h)) k
