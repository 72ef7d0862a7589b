-- The account that a run's steps give of transactions, topics and subscriptions, in the words of the
-- machine's answers. It takes nothing from the machine: what a transaction has and which item is next is
-- worked out from frames and outcomes.
use Rattle.std.specs.Prelude.{ℕ, ◌==◌, ◌+◌, List, [], ◌∷◌, ◌++◌, length, take, get_or, Option, Some, None, if◌then◌else◌}
use Rattle.stomp_frame.specs.declared.raw_frame.RawFrame.{RawFrame}
use Rattle.mcast_txn.specs.declared.id.Topic.{Topic}
use Rattle.mcast_txn.specs.declared.id.TxnId.{TxnId}
use Rattle.mcast_txn.specs.declared.stamp.Stamp.{Stamp}
use Rattle.mcast_txn.specs.Stamp.{zero_stamp}
use Rattle.mcast_txn.specs.Span.{LogRow, Item, last_stamp}
use Rattle.stomp_session.specs.Frames.{topic_of, id_of}
use Rattle.delivery.specs.declared.event.Event.{Event}
use Rattle.delivery.specs.declared.outcome.Outcome.{Outcome}
use Rattle.delivery.specs.Theorem.Due.{due}
use Rattle.delivery.specs.Theorem.Laws.{agreed_rows}
use Rattle.delivery.specs.Machine.Moves.{Answer}
use Rattle.delivery.specs.Machine.Runs.{commits_of, delivered_items, txn_count, released_at}
use Rattle.delivery.specs.Core.Claims.{claims_of, sender_of}
use Rattle.delivery.specs.Core.Steps.{CoreStep, frame_in, accepted_of, names_after, number_by}
use Rattle.delivery.specs.Core.Told.{sends_by}

-- ---- what is read of an account

-- The id of the last transaction of the sender that connection c speaks for after these steps: seq counts the
-- sender's from 1. So of the third, where an earlier connection of its client-id made two, and this one
-- another.
abbrev pub last_of : ℕ → List CoreStep → List Answer → TxnId
last_of c older account =
    let s = sender_of c (claims_of older) in
    record { sender = record { 0 = s }; seq = txn_count s account }

-- A topic's log: as many rows as were released, the first of the agreed sequence that name it. So where (1,
-- 0) and (2, 0) name topic 0 and one part was released there, it is the row of (1, 0).
abbrev pub released_log : Topic → List Answer → List LogRow
released_log t account = take (released_at t account) (agreed_rows t (commits_of account))

-- a topic's frontier: the stamp of its log's last row
abbrev pub released_frontier : Topic → List Answer → Stamp
released_frontier t account = last_stamp zero_stamp (released_log t account)

-- a subscription as it began: whose it is, its topic, and where its span begins
pub record Beginning : Type 0 where
  pub connection : ℕ
  pub topic : Topic
  pub from : Stamp

-- what stands for a subscription that never began
abbrev pub no_beginning : Beginning
no_beginning = record { connection = 0; topic = record { 0 = 0 }; from = zero_stamp }

-- the subscription of this number as it began
abbrev pub beginning_of : ℕ → List Answer → Beginning
beginning_of s [] = no_beginning
beginning_of s (Answer.Subscribed r c t from ∷ before) =
    if r == s then record { connection = c; topic = t; from = from } else beginning_of s before
beginning_of s (o ∷ before) = beginning_of s before

-- what is due to the subscription so far, wherever its span ends
abbrev pub due_to : ℕ → List Answer → List Item
due_to s account =
    let x = beginning_of s account in
    due (commits_of account) (record { topic = x.topic; from = x.from; to = None })
    (released_frontier x.topic account)

-- what stands for an item where there is none
abbrev pub no_item : Item
no_item =
    record { id = record { sender = record { 0 = 0 }; seq = 0 }; stamp = zero_stamp; sends = [] }

-- The next item that is delivered to the subscription: of those that are due, the first that wasn't. So where
-- three are due and one was delivered, it is the second.
abbrev pub next_item : ℕ → List Answer → Item
next_item s account = get_or (due_to s account) (length (delivered_items s account)) no_item

-- ---- what a step adds

-- What a step adds to the account so far, where this frame was read, if one was. A refused event, one without
-- memory and a frame that only its session needs add nothing.
abbrev pub account_of_step : List (List ℕ) → List CoreStep → List Answer → Event → Option RawFrame
    → Outcome → List Answer
account_of_step names older past Event.Open read (Outcome.Opened c) = Answer.Opened c ∷ []
account_of_step names older past (Event.Next c) read (Outcome.Faulted fault cut) = Answer.Error c ∷ []
account_of_step names older past (Event.Next c) (Some f) (Outcome.Flying id) =
    let last = last_of c older past in
    let sends = sends_by f.command names (accepted_of c older) f in
    Answer.Begun (record { id = record last { seq = last.seq + 1 }; sends = sends }) ∷ []
account_of_step names older past (Event.Next c) (Some f) (Outcome.Subscribed s from) =
    Answer.Subscribed s c (topic_of names f) from ∷ []
account_of_step names older past (Event.Next c) (Some f) (Outcome.Unsubscribed s to) =
    Answer.Unsubscribed (number_by c (id_of f) older) to ∷ []
account_of_step names older past (Event.Next c) (Some f) Outcome.Leaving = Answer.Leaving c ∷ []
account_of_step names older past (Event.Propose c t) read (Outcome.Proposed n) =
    Answer.Ticket (last_of c older past) (record { n = n; topic = t }) ∷ []
account_of_step names older past (Event.Propose c t) read (Outcome.Failed why) =
    Answer.Failed (last_of c older past) why ∷ []
account_of_step names older past (Event.Decide c) read (Outcome.Decided stamp cut) =
    (if cut then Answer.Leaving c ∷ [] else []) ++ Answer.Decided (last_of c older past) stamp ∷ []
account_of_step names older past (Event.Withdraw c) read (Outcome.Withdrawn cut) =
    Answer.Withdrawn (last_of c older past) c ∷ []
account_of_step names older past (Event.Cancel c t) read Outcome.Cancelled =
    Answer.Cancelled (last_of c older past) t ∷ []
account_of_step names older past (Event.Learn t id) read Outcome.Learnt = Answer.Learnt id t ∷ []
account_of_step names older past (Event.Release t) read (Outcome.Released id) = Answer.Released t id ∷ []
account_of_step names older past (Event.Turn t) read (Outcome.Turned count) = Answer.Turned t count ∷ []
account_of_step names older past (Event.Take s) read (Outcome.Handed n) =
    Answer.Handed s (next_item s past) ∷ []
account_of_step names older past (Event.Take s) read (Outcome.Faulted fault cut) =
    Answer.Error (beginning_of s past).connection ∷ []
account_of_step names older past (Event.Leave c) read (Outcome.Unsubscribed s to) =
    Answer.Unsubscribed s to ∷ []
account_of_step names older past (Event.Leave c) read (Outcome.Gone cut) = Answer.Gone c ∷ []
account_of_step names older past (Event.Lost c) read Outcome.Leaving = Answer.Leaving c ∷ []
account_of_step names older past e read o = []

-- The account of a run that began with topics of these names, the newest answer first: each step's
-- destinations are numbered by the names before it.
abbrev pub account_of : List (List ℕ) → List CoreStep → List Answer
account_of names [] = []
account_of names (step ∷ older) =
    let past = account_of names older in
    account_of_step (names_after names older) older past step.event (frame_in step.reading) step.outcome
    ++ past
