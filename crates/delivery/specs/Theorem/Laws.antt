-- What is claimed of every run, over all capacities, log limits, opening clocks and lists of events, and of
-- each step.
use Rattle.std.specs.Prelude.{◌≡◌, ◌≢◌, ℕ, ◌<◌, ◌+◌, ◌-◌, ◌++◌, nat_lt, max, Bool, true, false, Option, Some, None, ◌⊎◌, List, [], ◌∷◌, map, filter, length}
use Rattle.std.specs.Prelude.{not, ◌&&◌, take}
use Rattle.std.specs.List.{list_any}
use Rattle.mcast_txn.specs.declared.mark.Mark.{Mark}
use Rattle.mcast_txn.specs.declared.id.Topic.{Topic}
use Rattle.mcast_txn.specs.declared.id.TxnId.{TxnId}
use Rattle.mcast_txn.specs.declared.draft.sent_message.SentMessage.{SentMessage}
use Rattle.mcast_txn.specs.declared.stamp.Stamp.{Stamp}
use Rattle.mcast_txn.specs.Stamp.{zero_stamp, stamp_lt, greatest}
use Rattle.mcast_txn.specs.Transaction.{topics_of}
use Rattle.mcast_txn.specs.Agreed.{CommitRow, committed_id, stamp_of, agreed, EachOnce, SenderOrder}
use Rattle.mcast_txn.specs.Lists.{In}
use Rattle.mcast_txn.specs.TopicSet.{names}
use Rattle.mcast_txn.specs.Ids.{same_id}
use Rattle.mcast_txn.specs.Ballot.{Decision}
use Rattle.mcast_group.specs.declared.fault.LearnFault.{LearnFault}
use Rattle.mcast_group.specs.declared.fault.ProposeFault.{ProposeFault}
use Rattle.mcast_txn.specs.Span.{LogRow, Item, item_mark}
use Rattle.mcast_group.specs.Sound.{IsSound}
use Rattle.mcast_group.specs.Machine.{Pending, Entry, learn_fault, item_of, due_part, find_entry, subscribe_fault, unsubscribe_fault}
use Rattle.delivery.specs.Machine.Objections.{Objection, is_reported}
use Rattle.delivery.specs.Theorem.Due.{log_row, due}
use Rattle.delivery.specs.Machine.World.{World, start, topic_at, speaker, subscription_at}
use Rattle.delivery.specs.Machine.Observed.{accepted_at, span_at, log_at, frontier_at}
use Rattle.delivery.specs.Machine.Moves.{Move, Answer, world_after, answer_to, move_refusal, undecided_at, verdict_in, oldest_live}
use Rattle.delivery.specs.Machine.Moves.Move.{Connects, Commits, Subscribes, Unsubscribes, Leaves, Proposes, Cancels, Learns, Releases, Turns}
use Rattle.delivery.specs.Machine.Moves.Answer.{Refused, Ticket, Failed, Decided, Withdrawn, Released, Turned}
use Rattle.delivery.specs.Machine.Runs.{run, answers_from, commits_of, tickets_of, delivered_items, Numbered}
use Rattle.delivery.specs.Machine.Runs.{released_at}
use Rattle.delivery.specs.Theorem.Settled.{IsSettled, SilentAfterClose}

-- a run: how many items a queue holds, how many rows a topic holds, the topics' opening clocks, and the
-- events
pub record Run : Type 0 where
  pub capacity : ℕ
  pub log_limit : ℕ
  pub clocks : List ℕ
  pub events : List Move

-- what came of its events, the newest first
abbrev pub answers_of : Run → List Answer
answers_of r = answers_from r.events (start r.capacity r.log_limit r.clocks) []

-- the core after it
abbrev pub final_world : Run → World
final_world r = run r.events (start r.capacity r.log_limit r.clocks)

-- the commit list is what the core kept of it
abbrev pub CommitsAreKept : Type 0
CommitsAreKept = (r : Run) → (final_world r).commits ≡ commits_of (answers_of r)

-- what a subscription's queue has accepted, taken or not, is what is due to it: whole parts, each once, in
-- the agreed order
abbrev pub AcceptedIsDue : Type 0
AcceptedIsDue =
    (r : Run) (s : ℕ) → s < length (final_world r).subscriptions
    → accepted_at (final_world r) s
    ≡ due (commits_of (answers_of r)) (span_at (final_world r) s)
    (frontier_at (final_world r) (subscription_at (final_world r) s).topic)

-- a transaction's seq counts those that its sender has made
abbrev pub SeqsCount : Type 0
SeqsCount = (r : Run) → Numbered (answers_of r)

-- no id and no stamp stands twice in the agreed sequence
abbrev pub AgreedOnce : Type 0
AgreedOnce = (r : Run) → EachOnce committed_id stamp_of (agreed (commits_of (answers_of r)))

-- each sender's transactions come in its order in the agreed sequence
abbrev pub AgreedInSenderOrder : Type 0
AgreedInSenderOrder = (r : Run) → SenderOrder committed_id (agreed (commits_of (answers_of r)))

-- the transactions of one queue that stand in the other too, in the one's order
abbrev pub shared_marks : List Item → List Item → List Mark
shared_marks items others = filter (λ p. list_any (λ i. same_id i.id p.id) others) (map item_mark items)

-- two subscriptions have the transactions that they share in one order
abbrev pub SharedInOneOrder : Type 0
SharedInOneOrder =
    (r : Run) (s q : ℕ) → s < length (final_world r).subscriptions → q < length (final_world r).subscriptions
    → shared_marks (accepted_at (final_world r) s) (accepted_at (final_world r) q)
    ≡ shared_marks (accepted_at (final_world r) q) (accepted_at (final_world r) s)

-- a committed transaction that names a settled topic stands in its log, at most at its frontier
abbrev pub SettledLeavesNoneOut : Type 0
SettledLeavesNoneOut =
    (r : Run) (t : Topic) (row : CommitRow) → IsSettled t (answers_of r) → In row (commits_of (answers_of r))
    → names t (topics_of row.txn.sends) ≡ true
    → In (log_row row) (log_at (final_world r) t)
    × (stamp_lt (frontier_at (final_world r) t) row.stamp ≡ false)

-- a topic's log is whole: nothing was drained of it, its rows rise, and its frontier is the stamp of the last
abbrev pub TopicsAreSound : Type 0
TopicsAreSound =
    (r : Run) (t : Topic)
    → IsSound (topic_at (final_world r) t) × ((topic_at (final_world r) t).base ≡ zero_stamp)
    × ((topic_at (final_world r) t).frontier ≡ frontier_at (final_world r) t)

-- what was handed on is a prefix of what was accepted
abbrev pub HandedIsPrefix : Type 0
HandedIsPrefix =
    (r : Run) (s : ℕ) → s < length (final_world r).subscriptions
    → (rest : List Item) × (accepted_at (final_world r) s ≡ delivered_items s (answers_of r) ++ rest)

-- the row names the topic, and is at most its frontier
abbrev pub is_logged : Topic → Stamp → CommitRow → Bool
is_logged t frontier row = names t (topics_of row.txn.sends) && not (stamp_lt frontier row.stamp)

-- a topic's log is the agreed sequence restricted to the topic, up to its frontier
abbrev pub LogIsAgreed : Type 0
LogIsAgreed =
    (r : Run) (t : Topic)
    → log_at (final_world r) t
    ≡ map log_row (filter (is_logged t (frontier_at (final_world r) t)) (agreed (commits_of (answers_of r))))

-- it has as many rows as the outcomes released
abbrev pub LogCountsReleases : Type 0
LogCountsReleases = (r : Run) (t : Topic) → length (log_at (final_world r) t) ≡ released_at t (answers_of r)

-- the rows of the agreed sequence that name a topic
abbrev pub agreed_rows : Topic → List CommitRow → List LogRow
agreed_rows t commits = map log_row (filter (λ row. names t (topics_of row.txn.sends)) (agreed commits))

-- so the outcomes alone say what it is: as many of these rows as were released, from the first
abbrev pub LogIsOfAnswers : Type 0
LogIsOfAnswers =
    (r : Run) (t : Topic)
    → log_at (final_world r) t
    ≡ take (released_at t (answers_of r)) (agreed_rows t (commits_of (answers_of r)))

-- nothing is handed on of a subscription that was unsubscribed, or whose connection closed
abbrev pub ClosedIsSilent : Type 0
ClosedIsSilent = (r : Run) → SilentAfterClose (answers_of r)

-- a transaction's stamp is the greatest of its tickets
abbrev pub StampIsGreatest : Type 0
StampIsGreatest =
    (r : Run) (id : TxnId) (stamp : Stamp) → In (Decided id stamp) (answers_of r)
    → stamp ≡ greatest (tickets_of id (answers_of r))

-- ---- of each step

-- a refused event changes nothing
abbrev pub RefusalsChangeNothing : Type 0
RefusalsChangeNothing = (w : World) (e : Move) (why : Objection) → answer_to w e ≡ Refused why
    → world_after w e ≡ w

-- a turn is its learns, one for each part that was pending, in their order, and then as many releases:
-- those that find nothing are refused
abbrev pub TurnIsItsSteps : Type 0
TurnIsItsSteps =
    (w : World) (t : Topic)
    → world_after w (Turns t)
    ≡ run (map (λ p. Learns t p.part.id) (topic_at w t).pending
    ++ map (λ p. Releases t) (topic_at w t).pending) w

-- a release that isn't refused adds one row to its topic's log: that of the transaction which its outcome
-- names
abbrev pub ReleasedIsLogged : Type 0
ReleasedIsLogged =
    (w : World) (t u : Topic) (id : TxnId) → answer_to w (Releases t) ≡ Released u id
    → (u ≡ t) × (row : LogRow) × (row.id ≡ id)
    × (log_at (world_after w (Releases t)) t ≡ log_at w t ++ row ∷ [])

-- a turn adds as many rows to its topic's log as its outcome says
abbrev pub TurnedIsLogged : Type 0
TurnedIsLogged =
    (w : World) (t u : Topic) (count : ℕ) → answer_to w (Turns t) ≡ Turned u count
    → (u ≡ t) × (rows : List LogRow) × (length rows ≡ count)
    × (log_at (world_after w (Turns t)) t ≡ log_at w t ++ rows)

-- the topic of this subscription, if there is one
abbrev pub live_topic : World → Option ℕ → Option Topic
live_topic w None = None
live_topic w (Some s) = Some (subscription_at w s).topic

-- the topic that an event is about, if there is one
abbrev pub move_topic : World → Move → Option Topic
move_topic w (Subscribes c t) = Some t
move_topic w (Unsubscribes c s) = Some (subscription_at w s).topic
move_topic w (Leaves c) = live_topic w (oldest_live c 0 w.subscriptions)
move_topic w (Proposes c t memory) = Some t
move_topic w (Cancels c t) = Some t
move_topic w (Learns t id) = Some t
move_topic w (Releases t) = Some t
move_topic w (Turns t) = Some t
move_topic w e = None

-- an event changes no other topic than its own
abbrev pub OthersUntouched : Type 0
OthersUntouched =
    (w : World) (e : Move) (u : Topic) → u.0 < length w.topics → move_topic w e ≢ Some u
    → topic_at (world_after w e) u ≡ topic_at w u

-- a ticket comes from a named topic alone, one above its clock and its sender's floor
abbrev pub TicketIsOwn : Type 0
TicketIsOwn =
    (w : World) (e : Move) (id : TxnId) (ticket : Stamp) → answer_to w e ≡ Ticket id ticket
    → (c : ℕ) × (t : Topic) × (memory : Bool) × (e ≡ Proposes c t memory) × (id ≡ (undecided_at w c).txn.id)
    × (names t (topics_of (undecided_at w c).txn.sends) ≡ true)
    × (ticket ≡ record { n = max (topic_at w t).clock (speaker w c).floor.n + 1; topic = t })

-- a verdict isn't the part's or clashes, or a part that has learnt its stamp is to be cancelled: what no
-- run meets
abbrev pub is_odd : Objection → Bool
is_odd Objection.Foreign = true
is_odd Objection.Clash = true
is_odd Objection.Decided = true
is_odd why = false

-- foreign, clash and decided never come
abbrev pub OddNeverComes : Type 0
OddNeverComes = (r : Run) (why : Objection) → In (Refused why) (answers_of r) → is_odd why ≡ false

-- it stands against speaking for a sender
abbrev pub is_of_claim : Objection → Bool
is_of_claim Objection.NoSender = true
is_of_claim Objection.HasSender = true
is_of_claim Objection.InUse = true
is_of_claim why = false

-- The core reports what refuses a move, with two exceptions: a frame that would make a transaction whose
-- sender has no sequence number left, or whose connection speaks for no sender; and one that would have a
-- connection speak for a sender. The core answers such a frame by an ERROR, and makes no move of it.
abbrev pub RefusalsAreReported : Type 0
RefusalsAreReported =
    (r : Run) (e : Move) (why : Objection) → answer_to (final_world r) e ≡ Refused why
    → (is_reported why ≡ true)
    ⊎ ((((why ≡ Objection.SeqFull) ⊎ (why ≡ Objection.NoSender))
    × (c : ℕ) × (sends : List SentMessage) × (e ≡ Commits c sends))
    ⊎ ((is_of_claim why ≡ true) × (c : ℕ) × (claimed : Option ℕ) × (e ≡ Connects c claimed)))

-- nor do they within a turn: what is found for a transaction is learnt wherever it is pending
abbrev pub FoundIsLearnt : Type 0
FoundIsLearnt =
    (r : Run) (t : Topic) (id : TxnId) (v : Decision) → verdict_in (final_world r) id ≡ Some v
    → (learn_fault id v (topic_at (final_world r) t) ≡ None)
    ⊎ (learn_fault id v (topic_at (final_world r) t) ≡ Some LearnFault.NotPending)

-- a ticket that is to be cancelled has its part pending
abbrev pub CancelFindsItsPart : Type 0
CancelFindsItsPart = (r : Run) (c : ℕ) (t : Topic)
    → answer_to (final_world r) (Cancels c t) ≢ Refused Objection.NotPending

-- no topic refuses a part because its transaction is pending there
abbrev pub NoneIsPendingTwice : Type 0
NoneIsPendingTwice = (r : Run) (id : TxnId) → In (Failed id ProposeFault.Twice) (answers_of r) → Prim.⊥

-- the number that the next subscription gets is free at each topic
abbrev pub NumbersAreFree : Type 0
NumbersAreFree = (r : Run) (t : Topic)
    → subscribe_fault (length (final_world r).subscriptions) (topic_at (final_world r) t) ≡ None

-- a subscription that isn't closed has its entry at its topic
abbrev pub EntriesAreThere : Type 0
EntriesAreThere =
    (r : Run) (s : ℕ) → s < length (final_world r).subscriptions
    → (subscription_at (final_world r) s).closed ≡ None
    → unsubscribe_fault s (topic_at (final_world r) (subscription_at (final_world r) s).topic) ≡ None

-- an entry of a topic is that of a subscription to it that isn't closed, with its beginning
abbrev pub EntriesAreOwned : Type 0
EntriesAreOwned =
    (r : Run) (t : Topic) (e : Entry) → In e (topic_at (final_world r) t).subscriptions
    → (e.number < length (final_world r).subscriptions)
    × ((subscription_at (final_world r) e.number).topic ≡ t)
    × ((subscription_at (final_world r) e.number).closed ≡ None)
    × ((subscription_at (final_world r) e.number).from ≡ e.from)

-- no transaction is both withdrawn and decided
abbrev pub WithdrawnIsUndecided : Type 0
WithdrawnIsUndecided =
    (r : Run) (id : TxnId) (c : ℕ) (stamp : Stamp) → In (Withdrawn id c) (answers_of r)
    → In (Decided id stamp) (answers_of r) → Prim.⊥

-- an open subscription as a release of p leaves it: where fewer items than its capacity weren't handed on
-- it has one more, and else it has ended before it
pub record IsGiven (w : World) (frontier : Stamp) (p : Pending) (before later : Entry) : Type 0 where
  pub number : later.number ≡ before.number
  pub room : nat_lt (length before.accepted - (subscription_at w before.number).taken) w.capacity ≡ true
      → (later.to ≡ None) × (later.accepted ≡ before.accepted ++ item_of p ∷ [])
  pub full : nat_lt (length before.accepted - (subscription_at w before.number).taken) w.capacity ≡ false
      → (later.to ≡ Some frontier) × (later.accepted ≡ before.accepted)

-- a release gives the open subscription of this number the item where its queue has room, and lags it where
-- it is full
abbrev pub LagsWhereFull : Type 0
LagsWhereFull =
    (w : World) (t : Topic) (p : Pending) (n : ℕ) (before : Entry) → move_refusal w (Releases t) ≡ None
    → due_part (topic_at w t) ≡ Some p → find_entry n (topic_at w t).subscriptions ≡ Some before
    → before.to ≡ None
    → (later : Entry) × (find_entry n (topic_at (world_after w (Releases t)) t).subscriptions ≡ Some later)
    × IsGiven w (topic_at w t).frontier p before later
