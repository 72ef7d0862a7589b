-- A run: a list of events, what came of each, and what a reader takes from that list. It has the newest
-- first.
use Rattle.std.specs.Prelude.{◌≡◌, ℕ, ◌+◌, ◌==◌, List, [], ◌∷◌, ◌++◌, if◌then◌else◌}
use Rattle.mcast_txn.specs.declared.id.Topic.{Topic}
use Rattle.mcast_txn.specs.declared.id.TxnId.{TxnId}
use Rattle.mcast_txn.specs.declared.stamp.Stamp.{Stamp}
use Rattle.mcast_txn.specs.Agreed.{Transaction, CommitRow}
use Rattle.mcast_txn.specs.Ids.{same_id}
use Rattle.mcast_txn.specs.Span.{Item}
use Rattle.delivery.specs.Machine.World.{World}
use Rattle.delivery.specs.Machine.Moves.{Move, Answer, world_after, answer_to}
use Rattle.delivery.specs.Machine.Moves.Answer.{Begun, Ticket, Decided, Handed}
use Rattle.delivery.specs.Machine.Moves.Answer.{Released, Turned}

-- the core after these events
abbrev pub run : List Move → World → World
run [] w = w
run (e ∷ events) w = run events (world_after w e)

-- what came of these events, before it what had come so far
abbrev pub answers_from : List Move → World → List Answer → List Answer
answers_from [] w before = before
answers_from (e ∷ events) w before = answers_from events (world_after w e) (answer_to w e ∷ before)

-- the transaction of this id, as it was made
abbrev pub txn_of_id : TxnId → List Answer → Transaction
txn_of_id id [] = record { id = id; sends = [] }
txn_of_id id (Begun txn ∷ before) = if same_id txn.id id then txn else txn_of_id id before
txn_of_id id (o ∷ before) = txn_of_id id before

-- the commit list: one row for each transaction that was decided, in that order
abbrev pub commits_of : List Answer → List CommitRow
commits_of [] = []
commits_of (Decided id stamp ∷ before) = commits_of before
    ++ record { txn = txn_of_id id before; stamp = stamp } ∷ []
commits_of (o ∷ before) = commits_of before

-- the tickets that this transaction was given
abbrev pub tickets_of : TxnId → List Answer → List Stamp
tickets_of id [] = []
tickets_of id (Ticket i ticket ∷ before) = if same_id i id
    then ticket ∷ tickets_of id before else tickets_of id before
tickets_of id (o ∷ before) = tickets_of id before

-- the items that this subscription was handed, in order
abbrev pub delivered_items : ℕ → List Answer → List Item
delivered_items s [] = []
delivered_items s (Handed r item ∷ before) = if r == s
    then delivered_items s before ++ item ∷ [] else delivered_items s before
delivered_items s (o ∷ before) = delivered_items s before

-- how many transactions this sender has made
abbrev pub txn_count : ℕ → List Answer → ℕ
txn_count s [] = 0
txn_count s (Begun txn ∷ before) = if txn.id.sender.0 == s then txn_count s before + 1 else txn_count s before
txn_count s (o ∷ before) = txn_count s before

-- the seq of each transaction counts its sender's, from 1
abbrev pub Numbered : List Answer → Type 0
Numbered [] = Unit {0}
Numbered (Begun txn ∷ before) = (txn.id.seq ≡ txn_count txn.id.sender.0 before + 1) × Numbered before
Numbered (o ∷ before) = Numbered before

-- how many parts were released at this topic: one by a release, and as many as a turn says
abbrev pub released_at : Topic → List Answer → ℕ
released_at t [] = 0
released_at t (Released u id ∷ before) = if u.0 == t.0 then released_at t before + 1 else released_at t before
released_at t (Turned u count ∷ before) =
    if u.0 == t.0 then released_at t before + count else released_at t before
released_at t (o ∷ before) = released_at t before
