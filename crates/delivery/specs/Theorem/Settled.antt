-- When a topic is settled in a run, and when a subscription is silent.
use Rattle.std.specs.Prelude.{◌≡◌, ◌≢◌, ℕ, ◌==◌, Bool, true, false, List, [], ◌∷◌, ◌⊎◌}
use Rattle.mcast_txn.specs.declared.id.Topic.{Topic}
use Rattle.mcast_txn.specs.declared.id.TxnId.{TxnId}
use Rattle.mcast_txn.specs.declared.stamp.Stamp.{Stamp}
use Rattle.mcast_txn.specs.Transaction.{topics_of}
use Rattle.mcast_txn.specs.Agreed.{Transaction}
use Rattle.mcast_txn.specs.Lists.{In}
use Rattle.mcast_txn.specs.TopicSet.{names}
use Rattle.delivery.specs.Machine.Moves.{Answer}
use Rattle.delivery.specs.Machine.Moves.Answer.{Begun, Ticket, Decided, Withdrawn, Cancelled, Turned, Subscribed, Unsubscribed, Leaving, Error, Handed}
use Rattle.delivery.specs.Machine.Runs.{txn_of_id}

-- the transaction was decided; or it was withdrawn and, if t gave it a ticket, cancelled at t
abbrev pub IsResolved : Topic → List Answer → Transaction → Type 0
IsResolved t run txn =
    ((stamp : Stamp) × In (Decided txn.id stamp) run)
    ⊎ (((c : ℕ) × In (Withdrawn txn.id c) run)
    × ((ticket : Stamp) → In (Ticket txn.id ticket) run → ticket.topic ≡ t → In (Cancelled txn.id t) run))

-- so is each transaction that names t
abbrev pub AllResolved : Topic → List Answer → Type 0
AllResolved t run = (txn : Transaction) → In (Begun txn) run → names t (topics_of txn.sends) ≡ true
    → IsResolved t run txn

-- the transaction of this id names t
abbrev pub is_at : Topic → TxnId → List Answer → Bool
is_at t id run = names t (topics_of (txn_of_id id run).sends)

-- each transaction that names t is resolved, and a turn of t stands after the last of these outcomes, where
-- there is any
abbrev pub IsSettled : Topic → List Answer → Type 0
IsSettled t [] = Unit {0}
IsSettled t (Begun txn ∷ before) = (names t (topics_of txn.sends) ≡ false) × IsSettled t before
IsSettled t (Decided id stamp ∷ before) = (is_at t id before ≡ false) × IsSettled t before
IsSettled t (Withdrawn id c ∷ before) = (is_at t id before ≡ false) × IsSettled t before
IsSettled t (Cancelled id u ∷ before) = (u ≢ t) × IsSettled t before
IsSettled t (Turned u count ∷ before) = ((u ≡ t) × AllResolved t before) ⊎ IsSettled t before
IsSettled t (o ∷ before) = IsSettled t before

-- this closes connection c: it is leaving, by itself or lost, by an ERROR, or by a withdrawal
abbrev pub closes : ℕ → Answer → Bool
closes c (Leaving d) = d == c
closes c (Error d) = d == c
closes c (Withdrawn id d) = d == c
closes c o = false

-- s was unsubscribed, or its connection closed
abbrev pub IsSilent : ℕ → List Answer → Type 0
IsSilent s run =
    ((to : Stamp) × In (Unsubscribed s to) run)
    ⊎ ((c : ℕ) × (t : Topic) × (from : Stamp) × (o : Answer) × In (Subscribed s c t from) run × In o run
    × (closes c o ≡ true))

-- nothing is handed on of a subscription that was silent before
abbrev pub SilentAfterClose : List Answer → Type 0
SilentAfterClose [] = Unit {0}
SilentAfterClose (Handed s item ∷ before) = (IsSilent s before → Prim.⊥) × SilentAfterClose before
SilentAfterClose (o ∷ before) = SilentAfterClose before
