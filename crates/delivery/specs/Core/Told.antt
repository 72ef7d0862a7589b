-- What the steps of a run tell of transactions, topics and subscriptions, and what a reader takes from that.
-- It takes nothing from the machine: whose a transaction is and what it sends is worked out from frames
-- alone.
use Rattle.std.specs.Prelude.{◌≡◌, ◌≢◌, ℕ, ◌==◌, ◌+◌, false, true, List, [], ◌∷◌, ◌++◌, codes, take, Option, Some, None, if◌then◌else◌, ◌⊎◌}
use Rattle.std.specs.List.{fold}
use Rattle.std.specs.Option.{option_map, option_map_or, unwrap_or}
use Rattle.std.specs.Str.{bytes_eq}
use Rattle.stomp_frame.specs.declared.command.Command.{Command}
use Rattle.stomp_frame.specs.declared.command.Command.TheVariants as commands
use Rattle.stomp_frame.specs.declared.raw_frame.RawFrame.{RawFrame}
use Rattle.stomp_frame.specs.Headers.{first_of}
use Rattle.mcast_txn.specs.declared.draft.sent_message.SentMessage.{SentMessage}
use Rattle.mcast_txn.specs.declared.id.Topic.{Topic}
use Rattle.mcast_txn.specs.declared.id.TxnId.{TxnId}
use Rattle.mcast_txn.specs.declared.stamp.Stamp.{Stamp}
use Rattle.mcast_txn.specs.Stamp.{zero_stamp}
use Rattle.mcast_txn.specs.Span.{LogRow, last_stamp}
use Rattle.mcast_txn.specs.Transaction.{topics_of}
use Rattle.mcast_txn.specs.TopicSet.{names}
use Rattle.mcast_txn.specs.Lists.{In}
use Rattle.mcast_txn.specs.Agreed.{Transaction, CommitRow}
use Rattle.stomp_session.specs.Frames.{topic_of, id_of, transaction_of, is_send_in, send_of}
use Rattle.delivery.specs.declared.event.Event.{Event}
use Rattle.delivery.specs.declared.event.Event.TheVariants.{Next, Propose, Decide, Withdraw, Cancel, Release, Turn, Take, Leave, Lost}
use Rattle.delivery.specs.declared.outcome.Outcome.{Outcome}
use Rattle.delivery.specs.Theorem.Laws.{agreed_rows}
use Rattle.delivery.specs.Core.Claims.{claims_of, sender_of}
use Rattle.delivery.specs.Core.Steps.{CoreStep, frame_in, accepted_of, names_after, number_by}

-- what a step tells
pub data Told : Type 0 where
  -- the transaction was made; it was withdrawn; it was decided, and its stamp
  Begun Withdrawn : (txn : Transaction) → Told
  Decided : (txn : Transaction) (stamp : Stamp) → Told
  -- t gave the transaction of this id a ticket; that was cancelled
  Ticket Cancelled : (id : TxnId) (t : Topic) → Told
  -- one part was released at t; at a turn of t count parts were
  Released : (t : Topic) → Told
  Turned : (t : Topic) (count : ℕ) → Told
  -- subscription s, of connection c to t, began; its end was answered; its next item was handed on
  Subscribed : (s c : ℕ) (t : Topic) → Told
  Unsubscribed : (s : ℕ) (to : Stamp) → Told
  Handed : (s : ℕ) → Told
  -- connection c was closed: it is leaving by itself or lost, by an ERROR, or by a withdrawal
  Closed : (c : ℕ) → Told

-- ---- what is read of it

-- the commit list: one row for each transaction that was decided, in that order
abbrev pub committed : List Told → List CommitRow
committed [] = []
committed (Told.Decided txn stamp ∷ before) = committed before ++ record { txn = txn; stamp = stamp } ∷ []
committed (o ∷ before) = committed before

-- how many parts were released at t
abbrev pub released_count : Topic → List Told → ℕ
released_count t [] = 0
released_count t (Told.Released u ∷ before) = released_count t before + (if u.0 == t.0 then 1 else 0)
released_count t (Told.Turned u count ∷ before) = released_count t before + (if u.0 == t.0 then count else 0)
released_count t (o ∷ before) = released_count t before

-- A topic's log: as many rows as were released, the first of the agreed sequence that name it. So where (1,
-- 0) and (2, 0) name topic 0 and one part was released there, it is the row of (1, 0).
abbrev pub told_log : Topic → List Told → List LogRow
told_log t told = take (released_count t told) (agreed_rows t (committed told))

-- a topic's frontier: the stamp of its log's last row
abbrev pub frontier_of : Topic → List Told → Stamp
frontier_of t told = last_stamp zero_stamp (told_log t told)

-- how many items of subscription s were handed on
abbrev pub handed_count : ℕ → List Told → ℕ
handed_count s [] = 0
handed_count s (Told.Handed r ∷ before) = handed_count s before + (if r == s then 1 else 0)
handed_count s (o ∷ before) = handed_count s before

-- whose subscription s is
abbrev pub owner_of : ℕ → List Told → ℕ
owner_of s [] = 0
owner_of s (Told.Subscribed r c t ∷ before) = if r == s then c else owner_of s before
owner_of s (o ∷ before) = owner_of s before

-- the last transaction of sender s; before its first, one of seq 0 without SENDs
abbrev pub last_by : ℕ → List Told → Transaction
last_by s [] = record { id = record { sender = record { 0 = s }; seq = 0 }; sends = [] }
last_by s (Told.Begun txn ∷ before) = if txn.id.sender.0 == s then txn else last_by s before
last_by s (o ∷ before) = last_by s before

-- ---- what a step adds

-- what a frame of this command leaves of the SENDs of its transaction, while that is open
abbrev pub left_by : Command → Option (List SentMessage) → Option (List SentMessage)
left_by commands.Begin sends = Some []
left_by commands.Commit sends = None
left_by commands.Abort sends = None
left_by command sends = sends

-- The SENDs of transaction x that these frames left open: a BEGIN opens it, each SEND in it adds itself, and
-- a COMMIT or an ABORT ends it. So of BEGIN x, SEND in x, COMMIT x, BEGIN x, two SENDs in x and one in y, the
-- two; after an ABORT x none.
abbrev pub sends_left : List ℕ → List (List ℕ) → List RawFrame → List SentMessage
sends_left x names frames = unwrap_or (fold (λ (sends : Option (List SentMessage)) (f : RawFrame).
    if is_send_in x f then option_map (λ held. held ++ send_of names f ∷ []) sends
    else if bytes_eq (transaction_of f) x then left_by f.command sends else sends) None frames) []

-- the SENDs that a frame of this command commits, after these accepted frames: a COMMIT those of its
-- transaction, a SEND alone itself
abbrev pub sends_by : Command → List (List ℕ) → List RawFrame → RawFrame → List SentMessage
sends_by commands.Commit names accepted f = sends_left (transaction_of f) names accepted
sends_by commands.Send names accepted f =
    option_map_or (λ x. []) (first_of (codes "transaction") f.headers) (send_of names f ∷ [])
sends_by command names accepted f = []

-- of a step after these, which told this: the names of the topics are then these
module _ (names : List (List ℕ)) (older : List CoreStep) (past : List Told) where
  -- The last transaction of the sender that connection c speaks for. So it is an earlier connection's, where
  -- that had the same client-id, and c has made none.
  abbrev pub last_txn : ℕ → Transaction
  last_txn c = last_by (sender_of c (claims_of older)) past

  -- What the step tells, where this frame was read, if one was. A refused event, one without memory and a
  -- frame that only its session needs tell nothing. A transaction's seq is the one after that of its sender's
  -- last.
  abbrev pub told_by : Event → Option RawFrame → Outcome → List Told
  told_by (Next c) read (Outcome.Faulted fault cut) = Told.Closed c ∷ []
  told_by (Next c) (Some f) (Outcome.Flying id) =
      let last = (last_txn c).id in
      let sends = sends_by f.command names (accepted_of c older) f in
      Told.Begun (record { id = record last { seq = last.seq + 1 }; sends = sends }) ∷ []
  told_by (Next c) (Some f) (Outcome.Subscribed s from) = Told.Subscribed s c (topic_of names f) ∷ []
  told_by (Next c) (Some f) (Outcome.Unsubscribed s to) =
      Told.Unsubscribed (number_by c (id_of f) older) to ∷ []
  told_by (Next c) (Some f) Outcome.Leaving = Told.Closed c ∷ []
  told_by (Propose c t) read (Outcome.Proposed n) = Told.Ticket (last_txn c).id t ∷ []
  told_by (Decide c) read (Outcome.Decided stamp cut) =
      (if cut then Told.Closed c ∷ [] else []) ++ Told.Decided (last_txn c) stamp ∷ []
  told_by (Withdraw c) read (Outcome.Withdrawn cut) = Told.Closed c ∷ Told.Withdrawn (last_txn c) ∷ []
  told_by (Cancel c t) read Outcome.Cancelled = Told.Cancelled (last_txn c).id t ∷ []
  told_by (Release t) read (Outcome.Released id) = Told.Released t ∷ []
  told_by (Turn t) read (Outcome.Turned count) = Told.Turned t count ∷ []
  told_by (Take s) read (Outcome.Handed n) = Told.Handed s ∷ []
  told_by (Take s) read (Outcome.Faulted fault cut) = Told.Closed (owner_of s past) ∷ []
  told_by (Leave c) read (Outcome.Unsubscribed s to) = Told.Unsubscribed s to ∷ []
  told_by (Lost c) read Outcome.Leaving = Told.Closed c ∷ []
  told_by e read o = []

-- What the steps of a run tell that began with topics of these names, the newest first: each step's
-- destinations are numbered by the names before it.
abbrev pub told_of : List (List ℕ) → List CoreStep → List Told
told_of names [] = []
told_of names (step ∷ older) =
    let past = told_of names older in
    told_by (names_after names older) older past step.event (frame_in step.reading) step.outcome ++ past

-- ---- when a topic is settled, and a subscription silent

-- each transaction that names t was decided; or it was withdrawn and, if t gave it a ticket, cancelled at t
abbrev pub AllResolved : Topic → List Told → Type 0
AllResolved t told =
    (txn : Transaction) → In (Told.Begun txn) told → names t (topics_of txn.sends) ≡ true
    → ((stamp : Stamp) × In (Told.Decided txn stamp) told)
    ⊎ (In (Told.Withdrawn txn) told × (In (Told.Ticket txn.id t) told → In (Told.Cancelled txn.id t) told))

-- each transaction that names t is resolved, and a turn of t stands after the last of these outcomes, where
-- there is any
abbrev pub IsSettled : Topic → List Told → Type 0
IsSettled t [] = Unit {0}
IsSettled t (Told.Begun txn ∷ before) = (names t (topics_of txn.sends) ≡ false) × IsSettled t before
IsSettled t (Told.Decided txn stamp ∷ before) = (names t (topics_of txn.sends) ≡ false) × IsSettled t before
IsSettled t (Told.Withdrawn txn ∷ before) = (names t (topics_of txn.sends) ≡ false) × IsSettled t before
IsSettled t (Told.Cancelled id u ∷ before) = (u ≢ t) × IsSettled t before
IsSettled t (Told.Turned u count ∷ before) = ((u ≡ t) × AllResolved t before) ⊎ IsSettled t before
IsSettled t (o ∷ before) = IsSettled t before

-- subscription s was unsubscribed, or its connection closed
abbrev pub IsSilent : ℕ → List Told → Type 0
IsSilent s told =
    ((to : Stamp) × In (Told.Unsubscribed s to) told)
    ⊎ ((c : ℕ) × (t : Topic) × In (Told.Subscribed s c t) told × In (Told.Closed c) told)
