-- The readers of an account take nothing from refusals, nor from what was merely done: they read the same of
-- all that a machine answered and of what of it an account says.
use Rattle.delivery.proofs.Words.All.{◌≡◌, ℕ, ◌+◌, ◌==◌, Bool, true, false, cond, ◌||◌, List, [], ◌∷◌, ◌++◌, refl, ap, subst, ◌∙◌, inl, inr, false≢true, take, Topic, TxnId, Stamp, zero_stamp, CommitRow, Transaction, same_id, In, Item, LogRow, last_stamp, topics_of, names, Answer, txn_of_id, commits_of, txn_count, delivered_items, released_at, agreed_rows, IsResolved, AllResolved, IsSettled, IsSilent, SilentAfterClose, closes, Beginning, beginning_of, released_log, released_frontier, has_closed}
use Rattle.delivery.specs.Theorem.Settled.{is_at}
use Rattle.delivery.specs.Core.Answered.{begun_in}

-- an account says it
abbrev pub is_said : Answer → Bool
is_said (Answer.Refused why) = false
is_said Answer.Done = false
is_said o = true

-- what an account says of these answers
abbrev pub said : List Answer → List Answer
said [] = []
said (Answer.Refused why ∷ past) = said past
said (Answer.Done ∷ past) = said past
said (o ∷ past) = o ∷ said past

-- the transaction of an id
pub txn_of_id_said : (id : TxnId) (past : List Answer) → txn_of_id id (said past) ≡ txn_of_id id past
txn_of_id_said id [] = refl
txn_of_id_said id (Answer.Begun txn ∷ past) = ap (λ (z : Transaction). cond (same_id txn.id id) txn z) (txn_of_id_said id past)
txn_of_id_said id (_ ∷ past) = txn_of_id_said id past

-- the commit list
pub commits_said : (past : List Answer) → commits_of (said past) ≡ commits_of past
commits_said [] = refl
commits_said (Answer.Decided i stamp ∷ past) = ap (λ (z : List CommitRow). z ++ record { txn = txn_of_id i (said past); stamp = stamp } ∷ []) (commits_said past)
    ∙ ap (λ (z : Transaction). commits_of past ++ record { txn = z; stamp = stamp } ∷ []) (txn_of_id_said i past)
commits_said (_ ∷ past) = commits_said past

-- how many transactions a sender made
pub txn_count_said : (s : ℕ) (past : List Answer) → txn_count s (said past) ≡ txn_count s past
txn_count_said s [] = refl
txn_count_said s (Answer.Begun txn ∷ past) = ap (λ (k : ℕ). cond (txn.id.sender.0 == s) (k + 1) k) (txn_count_said s past)
txn_count_said s (_ ∷ past) = txn_count_said s past

-- the items that were delivered
pub delivered_said : (s : ℕ) (past : List Answer) → delivered_items s (said past) ≡ delivered_items s past
delivered_said s [] = refl
delivered_said s (Answer.Handed r item ∷ past) = ap (λ (z : List Item). cond (r == s) (z ++ item ∷ []) z) (delivered_said s past)
delivered_said s (_ ∷ past) = delivered_said s past

-- how many parts a topic released
pub released_said : (t : Topic) (past : List Answer) → released_at t (said past) ≡ released_at t past
released_said t [] = refl
released_said t (Answer.Released u i ∷ past) = ap (λ (k : ℕ). cond (u.0 == t.0) (k + 1) k) (released_said t past)
released_said t (Answer.Turned u n ∷ past) = ap (λ (k : ℕ). cond (u.0 == t.0) (k + n) k) (released_said t past)
released_said t (_ ∷ past) = released_said t past

-- how a subscription began
pub beginning_said : (s : ℕ) (past : List Answer) → beginning_of s (said past) ≡ beginning_of s past
beginning_said s [] = refl
beginning_said s (Answer.Subscribed r c u from ∷ past) = ap (λ (z : Beginning). cond (r == s) (record { connection = c; topic = u; from = from }) z) (beginning_said s past)
beginning_said s (_ ∷ past) = beginning_said s past

-- whether a connection was closed
pub has_closed_said : (d : ℕ) (past : List Answer) → has_closed d (said past) ≡ has_closed d past
has_closed_said d [] = refl
has_closed_said d (Answer.Leaving c ∷ past) = ap (λ (b : Bool). closes d (Answer.Leaving c) || b) (has_closed_said d past)
has_closed_said d (Answer.Error c ∷ past) = ap (λ (b : Bool). closes d (Answer.Error c) || b) (has_closed_said d past)
has_closed_said d (Answer.Withdrawn i c ∷ past) = ap (λ (b : Bool). closes d (Answer.Withdrawn i c) || b) (has_closed_said d past)
has_closed_said d (_ ∷ past) = has_closed_said d past

-- a topic's log, and its frontier
pub released_log_said : (t : Topic) (past : List Answer) → released_log t (said past) ≡ released_log t past
released_log_said t past =
    ap (λ (n : ℕ). take n (agreed_rows t (commits_of (said past)))) (released_said t past)
    ∙ ap (λ (z : List CommitRow). take (released_at t past) (agreed_rows t z)) (commits_said past)

pub released_frontier_said : (t : Topic) (past : List Answer) → released_frontier t (said past) ≡ released_frontier t past
released_frontier_said t past = ap (λ (z : List LogRow). last_stamp zero_stamp z) (released_log_said t past)

-- the subscriptions that began
pub begun_said : (past : List Answer) → begun_in (said past) ≡ begun_in past
begun_said [] = refl
begun_said (Answer.Subscribed r c u from ∷ past) = ap (λ (z : List (ℕ × Topic × Stamp)). z ++ (r, u, released_frontier u (said past)) ∷ []) (begun_said past)
    ∙ ap (λ (z : Stamp). begun_in past ++ (r, u, z) ∷ []) (released_frontier_said u past)
begun_said (_ ∷ past) = begun_said past

-- ---- what stands in it

-- what an account says was answered
pub said_from : (o : Answer) (past : List Answer) → In o (said past) → In o past
said_from o [] h = absurd h
said_from o (Answer.Refused why ∷ past) h = inr (said_from o past h)
said_from o (Answer.Done ∷ past) h = inr (said_from o past h)
said_from o (_ ∷ past) h = elim h [ inl e ↦ inl e | inr k ↦ inr (said_from o past k) ]

-- what was answered an account says, where it says such answers
pub said_in : (o : Answer) (past : List Answer) → is_said o ≡ true → In o past → In o (said past)
said_in o [] s h = absurd h
said_in o (Answer.Refused why ∷ past) s h = elim h [
  | inl e ↦ absurd (false≢true (ap (λ z. is_said z) e ∙ s))
  | inr k ↦ said_in o past s k
]
said_in o (Answer.Done ∷ past) s h = elim h [
  | inl e ↦ absurd (false≢true (ap (λ z. is_said z) e ∙ s))
  | inr k ↦ said_in o past s k
]
said_in o (_ ∷ past) s h = elim h [ inl e ↦ inl e | inr k ↦ inr (said_in o past s k) ]

-- ---- settled topics

resolved_said : (t : Topic) (past : List Answer) (txn : Transaction) → IsResolved t (said past) txn → IsResolved t past txn
resolved_said t past txn (inl d) = inl (d.0, said_from (Answer.Decided txn.id d.0) past d.1)
resolved_said t past txn (inr d) =
    inr (
      (d.0.0, said_from (Answer.Withdrawn txn.id d.0.0) past d.0.1),
      (λ ticket i e. said_from (Answer.Cancelled txn.id t) past (d.1 ticket (said_in (Answer.Ticket txn.id ticket) past refl i) e)),
    )

all_resolved_said : (t : Topic) (past : List Answer) → AllResolved t (said past) → AllResolved t past
all_resolved_said t past h txn i n = resolved_said t past txn (h txn (said_in (Answer.Begun txn) past refl i) n)

at_said : (t : Topic) (id : TxnId) (past : List Answer) → is_at t id (said past) ≡ false → is_at t id past ≡ false
at_said t id past h = subst (λ (z : Transaction). names t (topics_of z.sends) ≡ false) (txn_of_id_said id past) h

-- a topic that is settled by the account is settled by the run
pub settled_said : (t : Topic) (past : List Answer) → IsSettled t (said past) → IsSettled t past
settled_said t [] h = h
settled_said t (Answer.Begun txn ∷ past) h = (h.0, settled_said t past h.1)
settled_said t (Answer.Decided i stamp ∷ past) h = (at_said t i past h.0, settled_said t past h.1)
settled_said t (Answer.Withdrawn i c ∷ past) h = (at_said t i past h.0, settled_said t past h.1)
settled_said t (Answer.Cancelled i u ∷ past) h = (h.0, settled_said t past h.1)
settled_said t (Answer.Turned u n ∷ past) h = elim h [
  | inl k ↦ inl (k.0, all_resolved_said t past k.1)
  | inr k ↦ inr (settled_said t past k)
]
settled_said t (_ ∷ past) h = settled_said t past h

-- ---- silence

silent_from : (s : ℕ) (past : List Answer) → IsSilent s (said past) → IsSilent s past
silent_from s past (inl k) = inl (k.0, said_from (Answer.Unsubscribed s k.0) past k.1)
silent_from s past (inr k) = inr (k.0, k.1, k.2, k.3, said_from (Answer.Subscribed s k.0 k.1 k.2) past k.4, said_from k.3 past k.5, k.6)

-- an account is silent after a close where the run is
pub silent_said : (past : List Answer) → SilentAfterClose past → SilentAfterClose (said past)
silent_said [] h = h
silent_said (Answer.Handed r item ∷ past) h = ((λ k. h.0 (silent_from r past k)), silent_said past h.1)
silent_said (_ ∷ past) h = silent_said past h
