-- What is told of the machine's answers, in the account's fewer words, and what a reader takes from it: the same as from the
-- answers.
use Rattle.delivery.proofs.Words.All.{◌≡◌, ℕ, ◌+◌, ◌==◌, Bool, true, false, cond, inl, inr, List, [], ◌∷◌, ◌++◌, length, refl, sym, ap, subst, ◌∙◌, append_assoc, arith, length-append, take, Topic, Stamp, zero_stamp, CommitRow, In, Item, LogRow, last_stamp, In-append_left, Answer, txn_of_id, commits_of, delivered_items, released_at, agreed_rows, beginning_of, released_log, released_frontier, Told, committed, frontier_of, handed_count}
use Rattle.delivery.specs.Core.Answered.{begun_in as begun_answers}
use Rattle.delivery.specs.Core.Delivery.{begun_in}
use Rattle.delivery.specs.Core.Told.{released_count, told_log, owner_of}
use Rattle.delivery.proofs.Machine.SenderSteps.{In-append_cases}

-- what is told of an answer, after these
abbrev pub tells : Answer → List Answer → List Told
tells (Answer.Begun txn) past = Told.Begun txn ∷ []
tells (Answer.Subscribed s c t from) past = Told.Subscribed s c t ∷ []
tells (Answer.Unsubscribed s to) past = Told.Unsubscribed s to ∷ []
tells (Answer.Leaving c) past = Told.Closed c ∷ []
tells (Answer.Error c) past = Told.Closed c ∷ []
tells (Answer.Ticket id ticket) past = Told.Ticket id ticket.topic ∷ []
tells (Answer.Decided id stamp) past = Told.Decided (txn_of_id id past) stamp ∷ []
tells (Answer.Withdrawn id c) past = Told.Closed c ∷ Told.Withdrawn (txn_of_id id past) ∷ []
tells (Answer.Cancelled id t) past = Told.Cancelled id t ∷ []
tells (Answer.Released t id) past = Told.Released t ∷ []
tells (Answer.Turned t count) past = Told.Turned t count ∷ []
tells (Answer.Handed s item) past = Told.Handed s ∷ []
tells o past = []

-- what is told of all of them
abbrev pub tell : List Answer → List Told
tell [] = []
tell (o ∷ past) = tells o past ++ tell past

-- ---- what is read

pub committed_told : (past : List Answer) → committed (tell past) ≡ commits_of past
committed_told [] = refl
committed_told (Answer.Decided id stamp ∷ past) = ap (λ (z : List CommitRow). z ++ record { txn = txn_of_id id past; stamp = stamp } ∷ []) (committed_told past)
committed_told (_ ∷ past) = committed_told past

-- what is added where b holds, and else nothing
added : (b : Bool) (k m n : ℕ) → k ≡ m → k + cond b n 0 ≡ cond b (m + n) m
added true k m n e = ap (λ (i : ℕ). i + n) e
added false k m n e = let same : k + 0 ≡ m = omega (arith, e) in same

released_told : (t : Topic) (past : List Answer) → released_count t (tell past) ≡ released_at t past
released_told t [] = refl
released_told t (Answer.Released u id ∷ past) = added (u.0 == t.0) (released_count t (tell past)) (released_at t past) 1 (released_told t past)
released_told t (Answer.Turned u n ∷ past) = added (u.0 == t.0) (released_count t (tell past)) (released_at t past) n (released_told t past)
released_told t (_ ∷ past) = released_told t past

pub log_told : (t : Topic) (past : List Answer) → told_log t (tell past) ≡ released_log t past
log_told t past =
    ap (λ (n : ℕ). take n (agreed_rows t (committed (tell past)))) (released_told t past)
    ∙ ap (λ (z : List CommitRow). take (released_at t past) (agreed_rows t z)) (committed_told past)

pub frontier_told : (t : Topic) (past : List Answer) → frontier_of t (tell past) ≡ released_frontier t past
frontier_told t past = ap (λ (z : List LogRow). last_stamp zero_stamp z) (log_told t past)

one_more : (b : Bool) (k : ℕ) (xs : List Item) (item : Item) → k ≡ length xs → k + cond b 1 0 ≡ length (cond b (xs ++ item ∷ []) xs)
one_more true k xs item e = ap (λ n. n + 1) e ∙ sym (length-append xs (item ∷ []))
one_more false k xs item e = let same : k + 0 ≡ length xs = omega (arith, e) in same

pub handed_told : (s : ℕ) (past : List Answer) → handed_count s (tell past) ≡ length (delivered_items s past)
handed_told s [] = refl
handed_told s (Answer.Handed r item ∷ past) = one_more (r == s) (handed_count s (tell past)) (delivered_items s past) item (handed_told s past)
handed_told s (_ ∷ past) = handed_told s past

pub owner_told : (s : ℕ) (past : List Answer) → owner_of s (tell past) ≡ (beginning_of s past).connection
owner_told s [] = refl
owner_told s (Answer.Subscribed r c t from ∷ past) =
    elim (r == s) as (λ (b : Bool). cond b c (owner_of s (tell past)) ≡ (cond b (record { connection = c; topic = t; from = from }) (beginning_of s past)).connection) [ true ↦ refl | false ↦ (owner_told s past) ]
owner_told s (_ ∷ past) = owner_told s past

pub begun_told : (past : List Answer) → begun_in (tell past) ≡ begun_answers past
begun_told [] = refl
begun_told (Answer.Subscribed s c t from ∷ past) =
    ap (λ (z : List (ℕ × Topic × Stamp)). z ++ (s, t, frontier_of t (tell past)) ∷ []) (begun_told past)
    ∙ ap (λ (z : Stamp). begun_answers past ++ (s, t, z) ∷ []) (frontier_told t past)
begun_told (_ ∷ past) = begun_told past

-- ---- what stands in it

-- an answer that tells this, with those before and after it
pub record Source (x : Told) (past : List Answer) : Type 0 where
  pub by : Answer
  pub before : List Answer
  pub stands : In by past
  pub says : In x (tells by before)

pub source : (x : Told) (past : List Answer) → In x (tell past) → Source x past
source x [] i = absurd i
source x (o ∷ past) i = elim (In-append_cases x (tells o past) (tell past) i) [
  | inl k ↦ record { by = o; before = past; stands = inl refl; says = k }
  | inr k ↦ (let h = source x past k in record { by = h.by; before = h.before; stands = inr h.stands; says = h.says })
]

in_right : (x : Told) (xs ys : List Told) → In x ys → In x (xs ++ ys)
in_right x [] ys k = k
in_right x (y ∷ xs) ys k = inr (in_right x xs ys k)

-- what an answer tells whatever came before is told
pub told_in : (x : Told) (o : Answer) (past : List Answer) → ((before : List Answer) → In x (tells o before)) → In o past → In x (tell past)
told_in x o [] h i = absurd i
told_in x o (y ∷ past) h (inl e) = In-append_left x (tells y past) (tell past) (subst (λ (z : Answer). In x (tells z past)) (sym e) (h past))
told_in x o (y ∷ past) h (inr i) = in_right x (tells y past) (tell past) (told_in x o past h i)

-- what is told of a list of answers above others
pub tell_append : (later before : List Answer) → (told : List Told) × (tell (later ++ before) ≡ told ++ tell before)
tell_append [] before = ([], refl)
tell_append (o ∷ later) before =
    let h = tell_append later before in let a = tells o (later ++ before) in (a ++ h.0, ap (λ (z : List Told). a ++ z) h.1 ∙ sym (append_assoc a h.0 (tell before)))
