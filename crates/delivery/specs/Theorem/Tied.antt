-- What ties a topic's clock, its pending parts and its log to the tickets that it gave, and a sender's
-- floor to the commit list. (Skeen's protocol: what each process keeps of the messages that it has proposed
-- a timestamp for.)
use Rattle.std.specs.Prelude.{◌≡◌, ◌≢◌, ℕ, ◌<◌, ◌≤◌, ◌==◌, true, false, Some, ◌⊎◌, List, [], ◌∷◌, ◌++◌, get_or, if◌then◌else◌}
use Rattle.mcast_txn.specs.declared.id.Topic.{Topic}
use Rattle.mcast_txn.specs.declared.id.TxnId.{TxnId}
use Rattle.mcast_txn.specs.declared.stamp.Stamp.{Stamp}
use Rattle.mcast_txn.specs.Stamp.{zero_stamp, stamp_lt}
use Rattle.mcast_txn.specs.Lists.{RisesBy, In}
use Rattle.mcast_txn.specs.Transaction.{topics_of}
use Rattle.mcast_txn.specs.Part.{part_at}
use Rattle.mcast_txn.specs.Agreed.{CommitRow}
use Rattle.mcast_txn.specs.TopicSet.{names}
use Rattle.mcast_txn.specs.Span.{LogRow}
use Rattle.mcast_group.specs.Machine.{Pending}
use Rattle.delivery.specs.Machine.World.{Undecided, topic_at, sender_at}
use Rattle.delivery.specs.Machine.Observed.{log_at}
use Rattle.delivery.specs.Machine.Moves.{Move, Answer}
use Rattle.delivery.specs.Machine.Moves.Move.{AddsTopic}
use Rattle.delivery.specs.Machine.Moves.Answer.{Ticket, Decided, Cancelled}
use Rattle.delivery.specs.Machine.Runs.{txn_of_id, commits_of}
use Rattle.delivery.specs.Theorem.Laws.{Run, answers_of, final_world}

-- ---- a topic

-- the opening clocks of the topics that these events add, in order
abbrev pub added_clocks : List Move → List ℕ
added_clocks [] = []
added_clocks (AddsTopic clock ∷ events) = clock ∷ added_clocks events
added_clocks (e ∷ events) = added_clocks events

-- a topic's opening clock: the run begins with the topic, or adds it; 0 where it does neither
abbrev pub opening_clock : Run → Topic → ℕ
opening_clock r t = get_or (r.clocks ++ added_clocks r.events) t.0 0

-- the numbers that t gave as tickets, in the order in which it gave them
abbrev pub numbers_at : Topic → List Answer → List ℕ
numbers_at t [] = []
numbers_at t (Ticket id ticket ∷ before) = if ticket.topic.0 == t.0
    then numbers_at t before ++ ticket.n ∷ [] else numbers_at t before
numbers_at t (o ∷ before) = numbers_at t before

-- A pending part is its transaction's at t, by the ticket that t gave it, which wasn't cancelled. It isn't
-- in the log, and a stamp that it has learnt is its transaction's: so the part of an undecided or a
-- withdrawn transaction has learnt none.
pub record IsWaiting (r : Run) (t : Topic) (p : Pending) : Type 0 where
  pub part : p.part ≡ part_at p.part.id (txn_of_id p.part.id (answers_of r)).sends t
  pub ticket : In (Ticket p.part.id (record { n = p.number; topic = t })) (answers_of r)
  pub uncancelled : In (Cancelled p.part.id t) (answers_of r) → Prim.⊥
  pub unlogged : (row : LogRow) → In row (log_at (final_world r) t) → row.id ≢ p.part.id
  pub learnt : (stamp : Stamp) → p.learnt ≡ Some stamp → In (Decided p.part.id stamp) (answers_of r)

-- where the part is that t gave a ticket: it was cancelled, or it is in the log, or it is pending by that
-- ticket
abbrev pub IsAccountedFor : Run → Topic → TxnId → Stamp → Type 0
IsAccountedFor r t id ticket =
    In (Cancelled id t) (answers_of r)
    ⊎ ((row : LogRow) × In row (log_at (final_world r) t) × (row.id ≡ id))
    ⊎ ((p : Pending) × In p (topic_at (final_world r) t).pending × (p.part.id ≡ id) × (p.number ≡ ticket.n))

-- a committed transaction that names t has one ticket there: its stamp is at least that, and equal to it
-- where t is the stamp's topic
pub record HasTicket (r : Run) (t : Topic) (row : CommitRow) : Type 0 where
  pub ticket : Stamp
  pub given : In (Ticket row.txn.id ticket) (answers_of r)
  pub topic : ticket.topic ≡ t
  pub least : stamp_lt row.stamp ticket ≡ false
  pub own : row.stamp.topic ≡ t → ticket ≡ row.stamp

-- Topic t after a run. The numbers that it gave rise along the run, each above its opening clock, and are
-- at most its clock. Its pending parts are exactly those of the uncancelled tickets of undecided or
-- withdrawn transactions, and of the committed transactions that name it and aren't in its log. So where A
-- opened at 9 and gave 10 to a transaction that isn't decided, its numbers are 10, its clock is 10 or more,
-- and that transaction's part is pending by 10.
pub record IsTied (r : Run) (t : Topic) : Type 0 where
  pub rising : RisesBy (λ n. n) (numbers_at t (answers_of r))
  pub opening : (n : ℕ) → In n (numbers_at t (answers_of r)) → opening_clock r t < n
  pub clock : (n : ℕ) → In n (numbers_at t (answers_of r)) → n ≤ (topic_at (final_world r) t).clock
  pub opened : opening_clock r t ≤ (topic_at (final_world r) t).clock
  pub pending : (p : Pending) → In p (topic_at (final_world r) t).pending → IsWaiting r t p
  pub accounted : (id : TxnId) (ticket : Stamp) → In (Ticket id ticket) (answers_of r) → ticket.topic ≡ t
      → IsAccountedFor r t id ticket
  pub tickets : (row : CommitRow) → In row (commits_of (answers_of r))
      → names t (topics_of row.txn.sends) ≡ true → HasTicket r t row

-- each topic is tied to what it gave
abbrev pub TopicsAreTied : Type 0
TopicsAreTied = (r : Run) (t : Topic) → IsTied r t

-- ---- a sender

-- the stamp of the last of these rows that is of sender s, or else the floor that is given
abbrev pub floor_after : ℕ → Stamp → List CommitRow → Stamp
floor_after s floor [] = floor
floor_after s floor (r ∷ rows) = floor_after s (if r.txn.id.sender.0 == s then r.stamp else floor) rows

-- Sender s after a run: its floor is the stamp of its last committed transaction, or zero, whatever was
-- withdrawn; each ticket of its undecided transaction is above the floor.
pub record IsFloored (r : Run) (s : ℕ) : Type 0 where
  pub floor : (sender_at (final_world r) s).floor ≡ floor_after s zero_stamp (commits_of (answers_of r))
  pub above : (f : Undecided) (ticket : Stamp) → (sender_at (final_world r) s).flight ≡ Some f
      → In (Ticket f.txn.id ticket) (answers_of r)
      → stamp_lt (sender_at (final_world r) s).floor ticket ≡ true

-- each sender's floor is the stamp of its last row
abbrev pub SendersAreFloored : Type 0
SendersAreFloored = (r : Run) (s : ℕ) → IsFloored r s
