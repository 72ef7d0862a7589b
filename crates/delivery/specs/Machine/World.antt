-- What the core holds of topics, senders, connections and subscriptions.
use Rattle.std.specs.Prelude.{ℕ, ◌+◌, ◌==◌, Bool, true, false, not, ◌&&◌, List, [], ◌∷◌, length, get_or, set, Option, Some, None}
use Rattle.std.specs.List.{list_any}
use Rattle.std.specs.Option.{option_map_or, unwrap_or}
use Rattle.mcast_txn.specs.declared.id.Topic.{Topic}
use Rattle.mcast_txn.specs.declared.id.TxnId.{TxnId}
use Rattle.mcast_txn.specs.declared.stamp.Stamp.{Stamp}
use Rattle.mcast_txn.specs.Stamp.{zero_stamp}
use Rattle.mcast_txn.specs.Agreed.{Transaction, CommitRow}
use Rattle.mcast_txn.specs.Ballot.{Decision}
use Rattle.mcast_group.specs.declared.fault.ProposeFault.{ProposeFault}
use Rattle.mcast_group.specs.Machine.{TopicState, Entry, EntryEnd, new_topic, find_entry}

-- a sender's undecided transaction: the tickets that it was given, by rising topic, and why a topic refused
-- it, if one did (then it is marked)
pub record Undecided : Type 0 where
  pub txn : Transaction
  pub given : List Stamp
  pub mark : Option ProposeFault

-- a ticket of a withdrawn transaction that isn't cancelled yet
pub record Leftover : Type 0 where
  pub id : TxnId
  pub ticket : Stamp

-- a sender: the number of its transactions so far, its last stamp, its undecided transaction, and what it
-- has to cancel
pub record SenderState : Type 0 where
  pub seq : ℕ
  pub floor : Stamp
  pub flight : Option Undecided
  pub leftovers : List Leftover

-- a connection is open, then leaving while its transaction and subscriptions end, then gone
pub data Standing : Type 0 where
  Open : Standing
  Leaving : Standing
  Gone : Standing

-- it is open: its frames are read
abbrev pub is_reading : Standing → Bool
is_reading Open = true
is_reading Leaving = false
is_reading Gone = false

-- it is gone: nothing is asked of it
abbrev pub is_gone : Standing → Bool
is_gone Open = false
is_gone Leaving = false
is_gone Gone = true

-- a connection, and the sender that it speaks for, once it has one
pub record Connection : Type 0 where
  pub sender : Option ℕ
  pub standing : Standing

-- a subscription: whose it is, where its span begins, how many of its items were handed on, and what it
-- left if it was closed
pub record Subscription : Type 0 where
  pub connection : ℕ
  pub topic : Topic
  pub from : Stamp
  pub taken : ℕ
  pub closed : Option EntryEnd

-- the core: the commit list and the verdicts stand in the order of Decide
pub record World : Type 0 where
  pub capacity : ℕ
  pub log_limit : ℕ
  pub topics : List TopicState
  pub senders : List SenderState
  pub connections : List Connection
  pub subscriptions : List Subscription
  pub commits : List CommitRow
  pub verdicts : List Decision

-- topics with these opening clocks, numbered from i
abbrev pub new_topics : ℕ → ℕ → List ℕ → List TopicState
new_topics i log_limit [] = []
new_topics i log_limit (clock ∷ clocks) = new_topic (record { 0 = i }) log_limit clock
    ∷ new_topics (i + 1) log_limit clocks

-- topics with these opening clocks, and nobody there
abbrev pub start : ℕ → ℕ → List ℕ → World
start capacity log_limit clocks = record {
  capacity = capacity;
  log_limit = log_limit;
  topics = new_topics 0 log_limit clocks;
  senders = [];
  connections = [];
  subscriptions = [];
  commits = [];
  verdicts = [];
}

-- ---- reading

-- the topic of this number; beyond the last, an empty one
abbrev pub topic_at : World → Topic → TopicState
topic_at w t = get_or w.topics t.0 (new_topic t 0 0)

-- a sender that has made no transaction
abbrev pub new_sender : SenderState
new_sender = record { seq = 0; floor = zero_stamp; flight = None; leftovers = [] }

-- the sender of this number; beyond the last, a new one
abbrev pub sender_at : World → ℕ → SenderState
sender_at w sender = get_or w.senders sender new_sender

-- what stands for a connection that there never was: it is gone
abbrev pub nobody : Connection
nobody = record { sender = None; standing = Gone }

-- the connection of this number; beyond the last, nobody
abbrev pub connection_at : World → ℕ → Connection
connection_at w c = get_or w.connections c nobody

-- the number of the sender that a connection speaks for; while it speaks for none, that of the next one that
-- begins
abbrev pub speaker_number : World → ℕ → ℕ
speaker_number w c = unwrap_or (connection_at w c).sender (length w.senders)

-- the sender that a connection speaks for; while it speaks for none, a new one
abbrev pub speaker : World → ℕ → SenderState
speaker w c = sender_at w (speaker_number w c)

-- the connection speaks for this sender, and isn't gone
abbrev pub speaks_for : ℕ → Connection → Bool
speaks_for sender x = not (is_gone x.standing) && option_map_or (λ n. n == sender) x.sender false

-- The sender is in use: a connection that isn't gone speaks for it. So the sender of a connection that was
-- lost is in use while that connection is leaving.
abbrev pub is_in_use : World → ℕ → Bool
is_in_use w sender = list_any (speaks_for sender) w.connections

-- what stands for a subscription that there never was
abbrev pub no_subscription : Subscription
no_subscription =
    record { connection = 0; topic = record { 0 = 0 }; from = zero_stamp; taken = 0; closed = None }

-- the subscription of this number; beyond the last, none
abbrev pub subscription_at : World → ℕ → Subscription
subscription_at w sub = get_or w.subscriptions sub no_subscription

-- the subscription's entry at its topic, while it isn't closed
abbrev pub entry_at : World → ℕ → Option Entry
entry_at w sub = find_entry sub (topic_at w (subscription_at w sub).topic).subscriptions

-- ---- writing

-- the core with this topic in its place
abbrev pub with_topic : World → Topic → TopicState → World
with_topic w t x = record w { topics = set w.topics t.0 x }

-- the core with this sender in its place
abbrev pub with_sender : World → ℕ → SenderState → World
with_sender w sender x = record w { senders = set w.senders sender x }

-- the core with this standing of a connection
abbrev pub with_standing : World → ℕ → Standing → World
with_standing w c standing = record w {
  connections = set w.connections c (record { sender = (connection_at w c).sender; standing = standing });
}

-- the core where this connection speaks for this sender
abbrev pub with_speaker : World → ℕ → ℕ → World
with_speaker w c sender = record w {
  connections =
      set w.connections c (record { sender = Some sender; standing = (connection_at w c).standing });
}

-- the core with this subscription in its place
abbrev pub with_subscription : World → ℕ → Subscription → World
with_subscription w sub x = record w { subscriptions = set w.subscriptions sub x }
