-- What every world that a run leads to keeps.
use Rattle.std.proofs.Common.{◌≡◌, ◌≢◌, ℕ, ◌<◌, ◌≤◌, true, false, ◌⊎◌, List, [], ◌∷◌, length, get_or, Some, None}
use Rattle.delivery.proofs.Words.All.{stamp_lt, zero_stamp, part_at, TopicPart, topics_of, Transaction, CommitRow, stamp_of, same_id, In, names, Decision, Topic, TxnId, Stamp, LogRow, Item, IsSound, IsQueueOf, TopicState, Pending, Entry, EntryEnd, HasOneRowEach, new_topic, decided_stamp, Waits, log_row, item_at, World, Undecided, Leftover, SenderState, Subscription, new_sender, no_subscription}
use Rattle.mcast_txn.proofs.Sorting.{Apart}

-- a row: a transaction with a stamp, which is its ticket or, in the commit list, its own
abbrev pub row : Transaction → Stamp → CommitRow
row txn stamp = record { txn = txn; stamp = stamp }

-- ---- tickets and the commit list

-- a ticket has one transaction; a committed row is its greatest ticket, and a sender's rows rise
pub record Consistent (ts cs : List CommitRow) : Type 0 where
  pub one_txn : (a b : CommitRow) → In a ts → In b ts → a.stamp ≡ b.stamp → a.txn ≡ b.txn
  pub one_id : (a b : CommitRow) → In a ts → In b ts → same_id a.txn.id b.txn.id ≡ true → a.txn ≡ b.txn
  pub apart : Apart stamp_of cs
  pub from_ticket : (r : CommitRow) → In r cs → In r ts
  pub greatest : (r a : CommitRow) → In r cs → In a ts → a.txn ≡ r.txn → stamp_lt r.stamp a.stamp ≡ false
  pub ordered : (r q : CommitRow) → In r cs → In q cs → r.txn.id.sender.0 ≡ q.txn.id.sender.0 → r.txn.id.seq < q.txn.id.seq → stamp_lt r.stamp q.stamp ≡ true

-- no row of the commit list has this id
abbrev pub Uncommitted : List CommitRow → TxnId → Type 0
Uncommitted cs id = (r : CommitRow) → In r cs → same_id r.txn.id id ≡ true → Prim.⊥

-- ---- topics

-- the part is that of a ticket
pub record Ticketed (ts : List CommitRow) (part : TopicPart) (n : ℕ) : Type 0 where
  pub ticket : CommitRow
  pub stands : In ticket ts
  pub part_is : part_at ticket.txn.id ticket.txn.sends part.topic ≡ part
  pub stamp_is : ticket.stamp ≡ record { n = n; topic = part.topic }
  pub named : names part.topic (topics_of ticket.txn.sends) ≡ true

-- the commit list has a row of this id and stamp
pub record Committed (cs : List CommitRow) (id : TxnId) (stamp : Stamp) : Type 0 where
  pub row : CommitRow
  pub stands : In row cs
  pub id_is : row.txn.id ≡ id
  pub stamp_is : row.stamp ≡ stamp

-- the log row is that of a committed transaction that names t
pub record Logged (cs : List CommitRow) (t : Topic) (l : LogRow) : Type 0 where
  pub row : CommitRow
  pub stands : In row cs
  pub is : log_row row ≡ l
  pub named : names t (topics_of row.txn.sends) ≡ true

-- the item is the part at t of a committed transaction that names t
pub record Itemed (cs : List CommitRow) (t : Topic) (i : Item) : Type 0 where
  pub row : CommitRow
  pub stands : In row cs
  pub is : item_at t row ≡ i
  pub named : names t (topics_of row.txn.sends) ≡ true

-- topic t, beside all tickets and the commit list
pub record Tied (ts cs : List CommitRow) (t : Topic) (x : TopicState) : Type 0 where
  pub topic : x.topic ≡ t
  pub given : (a : CommitRow) → In a ts → a.stamp.topic ≡ t → a.stamp.n ≤ x.clock
  pub ticketed : (p : Pending) → In p x.pending → Ticketed ts p.part p.number
  pub decided : (p : Pending) → In p x.pending → (s : Stamp) → p.learnt ≡ Some s → Committed cs p.part.id s
  pub logged : (l : LogRow) → In l x.held → Logged cs t l
  pub placed : (r : CommitRow) → In r cs → names t (topics_of r.txn.sends) ≡ true → In (log_row r) x.held ⊎ Waits r.txn.id x.pending
  pub items : (e : Entry) → In e x.subscriptions → (i : Item) → In i e.accepted → Itemed cs t i
  pub undrained : x.base ≡ zero_stamp
  pub sound : IsSound x

-- the topic of this number in a list; beyond its end, an empty one
abbrev pub topic_in : List TopicState → Topic → TopicState
topic_in topics t = get_or topics t.0 (new_topic t 0 0)

-- ---- senders

-- no two are of one topic
abbrev pub OneEach : List Stamp → Type 0
OneEach [] = Unit {0}
OneEach (a ∷ rest) = ((b : Stamp) → In b rest → a.topic.0 ≢ b.topic.0) × OneEach rest

-- no two are of one transaction and one topic
abbrev pub LeftApart : List Leftover → Type 0
LeftApart [] = Unit {0}
LeftApart (k ∷ rest) = ((l : Leftover) → In l rest → k.id ≡ l.id → k.ticket.topic.0 ≢ l.ticket.topic.0) × LeftApart rest

-- the undecided transaction of sender s
pub record Flies (ts cs : List CommitRow) (topics : List TopicState) (s seq : ℕ) (floor : Stamp) (f : Undecided) : Type 0 where
  pub sender : f.txn.id.sender.0 ≡ s
  pub seq_le : f.txn.id.seq ≤ seq
  pub newest : (r : CommitRow) → In r cs → r.txn.id.sender.0 ≡ s → r.txn.id.seq < f.txn.id.seq
  pub same : (a : CommitRow) → In a ts → same_id a.txn.id f.txn.id ≡ true → a.txn ≡ f.txn
  pub higher : (a : CommitRow) → In a ts → a.txn ≡ f.txn → stamp_lt floor a.stamp ≡ true
  pub given_in : (g : Stamp) → In g f.given → In (row f.txn g) ts
  pub given_all : (a : CommitRow) → In a ts → a.txn ≡ f.txn → In a.stamp f.given
  pub given_apart : OneEach f.given
  pub waits : (a : CommitRow) → In a ts → a.txn ≡ f.txn → Waits f.txn.id (topic_in topics a.stamp.topic).pending
  pub some : Topic
  pub some_named : names some (topics_of f.txn.sends) ≡ true

-- a ticket of a withdrawn transaction of sender s
pub record IsLeft (cs : List CommitRow) (topics : List TopicState) (s seq : ℕ) (k : Leftover) : Type 0 where
  pub sender : k.id.sender.0 ≡ s
  pub seq_le : k.id.seq ≤ seq
  pub uncommitted : Uncommitted cs k.id
  pub waits : Waits k.id (topic_in topics k.ticket.topic).pending

-- sender s: its seq, its floor, its undecided transaction and its leftover tickets, beside the commit list
pub record Serves (ts cs : List CommitRow) (topics : List TopicState) (s : ℕ) (x : SenderState) : Type 0 where
  pub used : (a : CommitRow) → In a ts → a.txn.id.sender.0 ≡ s → a.txn.id.seq ≤ x.seq
  pub floored : (r : CommitRow) → In r cs → r.txn.id.sender.0 ≡ s → stamp_lt x.floor r.stamp ≡ false
  pub flying : (f : Undecided) → x.flight ≡ Some f → Flies ts cs topics s x.seq x.floor f
  pub left : (k : Leftover) → In k x.leftovers → IsLeft cs topics s x.seq k
  pub left_older : (k : Leftover) (f : Undecided) → In k x.leftovers → x.flight ≡ Some f → k.id.seq < f.txn.id.seq
  pub left_apart : LeftApart x.leftovers

-- the sender of this number in a list; beyond its end, a new one
abbrev pub sender_in : List SenderState → ℕ → SenderState
sender_in senders s = get_or senders s new_sender

-- ---- verdicts

-- the verdict is a committed transaction's: its stamp, one row for each topic, and all its tickets
pub record Voted (ts cs : List CommitRow) (v : Decision) : Type 0 where
  pub row : CommitRow
  pub stands : In row cs
  pub id_is : row.txn.id ≡ v.id
  pub stamp_is : row.stamp ≡ decided_stamp v
  pub one_row : HasOneRowEach v
  pub all : (a : CommitRow) → In a ts → a.txn ≡ row.txn → In a.stamp v.rows

-- there is a verdict of this row's transaction
pub record HasVote (vs : List Decision) (r : CommitRow) : Type 0 where
  pub verdict : Decision
  pub stands : In verdict vs
  pub id_is : verdict.id ≡ r.txn.id

-- ---- subscriptions

-- the subscription of this number in a list; beyond its end, an empty one
abbrev pub sub_in : List Subscription → ℕ → Subscription
sub_in subs s = get_or subs s no_subscription

-- a topic has an entry of this number and beginning
pub record HasEntry (s : ℕ) (from : Stamp) (x : TopicState) : Type 0 where
  pub entry : Entry
  pub stands : In entry x.subscriptions
  pub number : entry.number ≡ s
  pub from_is : entry.from ≡ from

-- an entry of this number and beginning is that of a subscription which isn't closed
pub record Owned (subs : List Subscription) (t : Topic) (number : ℕ) (from : Stamp) : Type 0 where
  pub there : number < length subs
  pub topic : (sub_in subs number).topic ≡ t
  pub closed : (sub_in subs number).closed ≡ None
  pub from_is : (sub_in subs number).from ≡ from

-- what a closed subscription has accepted
pub record IsClosed (cs : List CommitRow) (from : Stamp) (end : EntryEnd) (t : Topic) (x : TopicState) : Type 0 where
  pub queue : IsQueueOf x.base x.frontier x.held from (Some end.to) end.accepted
  pub items : (i : Item) → In i end.accepted → Itemed cs t i

-- open subscriptions are the topics' entries, and what a closed one left is as its span says
pub record Subscribes (cs : List CommitRow) (topics : List TopicState) (subs : List Subscription) : Type 0 where
  pub live : (s : ℕ) → s < length subs → (sub_in subs s).closed ≡ None → HasEntry s (sub_in subs s).from (topic_in topics (sub_in subs s).topic)
  pub owned : (t : Topic) (e : Entry) → In e (topic_in topics t).subscriptions → Owned subs t e.number e.from
  pub one : (t : Topic) (e f : Entry) → In e (topic_in topics t).subscriptions → In f (topic_in topics t).subscriptions → e.number ≡ f.number → e ≡ f
  pub closed : (s : ℕ) (end : EntryEnd) → (sub_in subs s).closed ≡ Some end → IsClosed cs (sub_in subs s).from end (sub_in subs s).topic (topic_in topics (sub_in subs s).topic)

-- ---- all together

-- the invariant: each topic, sender, verdict, committed row and subscription is as said above
pub record Inv (ts cs : List CommitRow) (vs : List Decision) (topics : List TopicState) (senders : List SenderState) (subs : List Subscription) : Type 0 where
  pub consistent : Consistent ts cs
  pub tied : (t : Topic) → Tied ts cs t (topic_in topics t)
  pub serves : (s : ℕ) → Serves ts cs topics s (sender_in senders s)
  pub voted : (v : Decision) → In v vs → Voted ts cs v
  pub counted : (r : CommitRow) → In r cs → HasVote vs r
  pub subscribes : Subscribes cs topics subs

-- of a world, where these tickets were given
abbrev pub Holds : List CommitRow → World → Type 0
Holds ts w = Inv ts w.commits w.verdicts w.topics w.senders w.subscriptions
