-- Worked examples: seven runs, and what each of them comes to. Each equation holds by computation alone.
use Rattle.std.specs.Prelude.{◌≡◌, ℕ, true, List, [], ◌∷◌, map, reverse, Option, Some, None}
use Rattle.mcast_txn.specs.declared.id.Topic.{Topic}
use Rattle.mcast_txn.specs.declared.id.TxnId.{TxnId}
use Rattle.mcast_txn.specs.declared.draft.sent_message.SentMessage.{SentMessage}
use Rattle.mcast_txn.specs.declared.parts.part_message.PartMessage.{PartMessage}
use Rattle.mcast_txn.specs.declared.stamp.Stamp.{Stamp}
use Rattle.mcast_txn.specs.Stamp.{zero_stamp}
use Rattle.mcast_txn.specs.Agreed.{Transaction}
use Rattle.mcast_group.specs.declared.cause.Cause.TheVariants.{Asked, Lag}
use Rattle.mcast_group.specs.declared.fault.ProposeFault.{ProposeFault}
use Rattle.mcast_txn.specs.Span.{Item, Span}
use Rattle.mcast_group.specs.Machine.{EntryEnd}
use Rattle.delivery.specs.Machine.Objections.{Objection}
use Rattle.delivery.specs.Machine.World.{subscription_at}
use Rattle.delivery.specs.Machine.Observed.{log_at, accepted_at, span_at}
use Rattle.delivery.specs.Machine.Moves.{Move, Answer}
use Rattle.delivery.specs.Machine.Moves.Move.{AddsTopic, Opens, Connects, Commits, Subscribes, Unsubscribes, Disconnects}
use Rattle.delivery.specs.Machine.Moves.Move.{Errs, Lost, Leaves, Proposes, Decides, Withdraws, Cancels, Learns}
use Rattle.delivery.specs.Machine.Moves.Move.{Releases, Turns, Takes}
use Rattle.delivery.specs.Machine.Moves.Answer.{Refused, Done, Opened, Begun, Subscribed, Unsubscribed, Leaving}
use Rattle.delivery.specs.Machine.Moves.Answer.{Error, Gone, Ticket, Failed, Decided, Withdrawn, Cancelled}
use Rattle.delivery.specs.Machine.Moves.Answer.{Learnt, Released, Turned, Handed}
use Rattle.delivery.specs.Machine.Runs.{delivered_items}
use Rattle.delivery.specs.Theorem.Laws.{Run, answers_of, final_world}

-- ---- words

-- the topic of this number
abbrev pub topic : ℕ → Topic
topic n = record { 0 = n }

-- number n at topic t: `stamp 10 0` is (10, A)
abbrev pub stamp : ℕ → ℕ → Stamp
stamp n t = record { n = n; topic = topic t }

-- this sender's transaction of this seq
abbrev pub id : ℕ → ℕ → TxnId
id sender seq = record { sender = record { 0 = sender }; seq = seq }

-- a SEND to topic t of one octet
abbrev pub send : ℕ → ℕ → SentMessage
send t octet = record { topic = topic t; headers = []; body = octet ∷ [] }

-- the same in a part, with its index in the whole transaction
abbrev pub part : ℕ → ℕ → PartMessage
part index octet = record { index = index; headers = []; body = octet ∷ [] }

-- the transaction of this id with these SENDs
abbrev pub transaction : TxnId → List SentMessage → Transaction
transaction i sends = record { id = i; sends = sends }

-- its part in a queue
abbrev pub item : TxnId → Stamp → List PartMessage → Item
item i at sends = record { id = i; stamp = at; sends = sends }

-- topic t from this stamp to this end
abbrev pub span : ℕ → Stamp → Option Stamp → Span
span t from to = record { topic = topic t; from = from; to = to }

-- a run of queues of 64 items and logs of 65536 rows: topics with these opening clocks, and these events
abbrev pub run_of : List ℕ → List Move → Run
run_of clocks events = record { capacity = 64; log_limit = 65536; clocks = clocks; events = events }

-- what came of the events, the oldest first
abbrev pub answers_in_order : Run → List Answer
answers_in_order r = reverse (answers_of r)

-- the stamps of the log of topic t after the run
abbrev pub log_stamps : Run → ℕ → List Stamp
log_stamps r t = map (λ row. row.stamp) (log_at (final_world r) (topic t))

-- the senders' floors after the run
abbrev pub floors : Run → List Stamp
floors r = map (λ s. s.floor) (final_world r).senders

-- what the queue of subscription s has accepted
abbrev pub queue : Run → ℕ → List Item
queue r s = accepted_at (final_world r) s

-- what subscription s left as it was closed
abbrev pub left : Run → ℕ → Option EntryEnd
left r s = (subscription_at (final_world r) s).closed

-- ---- crossing

-- one octet to A, and to B
abbrev pub to_a_and_b : List SentMessage
to_a_and_b = send 0 1 ∷ send 1 1 ∷ []

-- one octet to B, and to C
abbrev pub to_b_and_c : List SentMessage
to_b_and_c = send 1 2 ∷ send 2 2 ∷ []

-- topics A at clock 9, B and C at 0: connection 0 subscribes to B, and commits transaction 1 to A and B, and
-- then transaction 2 to B and C. The floor lifts both tickets of transaction 2 above (10, A): it is second.
abbrev pub crossing : Run
crossing = run_of (9 ∷ 0 ∷ 0 ∷ []) (
    Opens ∷ Connects 0 None ∷ Subscribes 0 (topic 1)
    ∷ Commits 0 to_a_and_b ∷ Proposes 0 (topic 0) true ∷ Proposes 0 (topic 1) true ∷ Decides 0
    ∷ Commits 0 to_b_and_c ∷ Proposes 0 (topic 1) true ∷ Proposes 0 (topic 2) true ∷ Decides 0
    ∷ Turns (topic 1) ∷ Takes 0 ∷ Takes 0 ∷ Takes 0
    ∷ Turns (topic 0) ∷ Turns (topic 2) ∷ [])

-- both transactions' parts at B
abbrev pub crossing_at_b : List Item
crossing_at_b = item (id 0 1) (stamp 10 0) (part 1 1 ∷ []) ∷ item (id 0 2) (stamp 11 2) (part 0 2 ∷ []) ∷ []

-- ---- withdrawal

-- topics A at clock 2^64 - 2, and B: connection 0 takes A's last number. Connection 2 commits to A and B, and
-- connection 1 to B: B can't release what 1 sent while the part of 2 is pending before it. A refuses 2, whose
-- transaction is withdrawn and cancelled at B, which keeps its clock: connection 3 gets the ticket 3 there.
abbrev pub withdrawal : Run
withdrawal = run_of (18446744073709551614 ∷ 0 ∷ []) (
    Opens ∷ Connects 0 None ∷ Opens ∷ Connects 1 None ∷ Opens ∷ Connects 2 None ∷ Opens ∷ Connects 3 None
    ∷ Subscribes 3 (topic 1)
    ∷ Commits 0 (send 0 1 ∷ []) ∷ Proposes 0 (topic 0) true ∷ Decides 0 ∷ Turns (topic 0)
    ∷ Commits 2 to_a_and_b ∷ Proposes 2 (topic 1) true
    ∷ Commits 1 (send 1 2 ∷ []) ∷ Proposes 1 (topic 1) true ∷ Decides 1 ∷ Turns (topic 1)
    ∷ Proposes 2 (topic 0) true ∷ Decides 2 ∷ Withdraws 2 ∷ Commits 2 to_a_and_b ∷ Turns (topic 1)
    ∷ Cancels 2 (topic 1) ∷ Cancels 2 (topic 1) ∷ Commits 3 (send 1 3 ∷ []) ∷ Proposes 3 (topic 1) true
    ∷ Turns (topic 1) ∷ Decides 3 ∷ Turns (topic 1) ∷ Leaves 2
    ∷ Takes 0 ∷ Takes 0 ∷ Takes 0 ∷ [])

-- the parts at B of the transactions that were committed
abbrev pub withdrawal_at_b : List Item
withdrawal_at_b = item (id 1 1) (stamp 2 1) (part 0 2 ∷ []) ∷ item (id 3 1) (stamp 3 1) (part 0 3 ∷ []) ∷ []

-- ---- loss

-- one octet to A, one to B, and one to A
abbrev pub to_a_b_and_a : List SentMessage
to_a_b_and_a = send 0 1 ∷ send 1 2 ∷ send 0 3 ∷ []

-- connections 0 and 1 subscribe to A. Connection 0 commits to A, B and A, and is lost when A has given its
-- ticket. No frame of it is read and nothing is delivered to it after that; its transaction goes on, and
-- connection 1 gets its whole part at A.
abbrev pub loss : Run
loss = run_of (0 ∷ 0 ∷ []) (
    Opens ∷ Connects 0 None ∷ Opens ∷ Connects 1 None ∷ Subscribes 0 (topic 0) ∷ Subscribes 1 (topic 0)
    ∷ Commits 0 to_a_b_and_a ∷ Proposes 0 (topic 0) true
    ∷ Lost 0 ∷ Commits 0 to_a_b_and_a ∷ Takes 0 ∷ Leaves 0 ∷ Leaves 0
    ∷ Proposes 0 (topic 1) true ∷ Decides 0
    ∷ Learns (topic 0) (id 0 1) ∷ Releases (topic 0) ∷ Turns (topic 1)
    ∷ Leaves 0 ∷ Leaves 0 ∷ Takes 1 ∷ [])

-- the transaction's part at A
abbrev pub loss_at_a : List Item
loss_at_a = item (id 0 1) (stamp 1 1) (part 0 1 ∷ part 2 3 ∷ []) ∷ []

-- ---- disconnect

-- topic B is added with clock 4. Connection 0 subscribes to it, and disconnects before it takes the item that
-- its queue has accepted. The item is never delivered, and lies in the span, which ends with the frontier.
abbrev pub disconnect : Run
disconnect = run_of (0 ∷ []) (
    AddsTopic 4 ∷ Opens ∷ Connects 0 None ∷ Opens ∷ Connects 1 None ∷ Subscribes 0 (topic 1)
    ∷ Commits 1 (send 1 1 ∷ []) ∷ Proposes 1 (topic 1) true ∷ Decides 1 ∷ Turns (topic 1)
    ∷ Disconnects 0 ∷ Takes 0 ∷ Leaves 0 ∷ Leaves 0 ∷ Leaves 0 ∷ [])

-- the transaction's part at B
abbrev pub disconnect_at_b : List Item
disconnect_at_b = item (id 1 1) (stamp 5 1) (part 0 1 ∷ []) ∷ []

-- ---- lag

-- connection 0 sends one octet to A, and A has a turn; then these events
abbrev pub one_send : ℕ → List Move → List Move
one_send octet then =
    Commits 0 (send 0 octet ∷ []) ∷ Proposes 0 (topic 0) true ∷ Decides 0 ∷ Turns (topic 0) ∷ then

-- what comes of it where it is the transaction of this seq and A's clock is one below; then these outcomes
abbrev pub one_sent : ℕ → List Answer → List Answer
one_sent n then =
    Begun (transaction (id 0 n) (send 0 n ∷ [])) ∷ Ticket (id 0 n) (stamp n 0) ∷ Decided (id 0 n) (stamp n 0)
    ∷ Turned (topic 0) 1 ∷ then

-- its part
abbrev pub one_item : ℕ → Item
one_item n = item (id 0 n) (stamp n 0) (part 0 n ∷ [])

-- queues of two items, and three transactions to A. Connection 1 takes nothing of its subscription 0 before
-- all are released, so that it lags at the third. Connection 2 takes one item of its subscription 1 in time,
-- so that there is room for all three.
abbrev pub lag : Run
lag = record {
  capacity = 2;
  log_limit = 65536;
  clocks = 0 ∷ [];
  events = Opens ∷ Connects 0 None ∷ Opens ∷ Connects 1 None ∷ Opens ∷ Connects 2 None
      ∷ Subscribes 1 (topic 0) ∷ Subscribes 2 (topic 0)
      ∷ one_send 1 (one_send 2 (Takes 1 ∷ one_send 3 (
      Takes 0 ∷ Takes 0 ∷ Takes 0 ∷ Takes 0 ∷ Leaves 1
      ∷ Takes 1 ∷ Takes 1 ∷ Unsubscribes 2 1 ∷ Errs 2 ∷ [])));
}

-- ---- lasting

-- topics A at clock 9, and B. Connection 0 begins a sender, commits to A and B, and is lost. No other
-- connection can go on as that sender before it is gone; connection 1 begins one of its own, and subscribes
-- to B. Connection 2 goes on as the first sender. Both send to B: connection 1's transaction has no floor and
-- is the first of all; connection 2's has the sender's next seq, and the floor (10, A) lifts its ticket above
-- it.
abbrev pub lasting : Run
lasting = run_of (9 ∷ 0 ∷ []) (
    Opens ∷ Commits 0 to_a_and_b ∷ Connects 0 (Some 0) ∷ Connects 0 None ∷ Connects 0 None
    ∷ Commits 0 to_a_and_b ∷ Proposes 0 (topic 0) true ∷ Lost 0
    ∷ Opens ∷ Connects 1 (Some 0) ∷ Leaves 0
    ∷ Proposes 0 (topic 1) true ∷ Decides 0 ∷ Connects 1 (Some 0) ∷ Leaves 0
    ∷ Connects 1 None ∷ Subscribes 1 (topic 1) ∷ Opens ∷ Connects 2 (Some 0)
    ∷ Commits 2 (send 1 2 ∷ []) ∷ Commits 1 (send 1 3 ∷ [])
    ∷ Proposes 1 (topic 1) true ∷ Decides 1 ∷ Proposes 2 (topic 1) true ∷ Decides 2
    ∷ Turns (topic 1) ∷ Takes 0 ∷ Takes 0 ∷ Takes 0 ∷ Takes 0 ∷ [])

-- the parts at B, the first sender's in its order
abbrev pub lasting_at_b : List Item
lasting_at_b = item (id 1 1) (stamp 2 1) (part 0 3 ∷ []) ∷ item (id 0 1) (stamp 10 0) (part 1 1 ∷ [])
    ∷ item (id 0 2) (stamp 11 1) (part 0 2 ∷ []) ∷ []

-- ---- resuming

-- topics A at clock 4, B at 9, C at its end, and D. Connection 0 begins a sender and commits to A, and then
-- sends to B and C. C refuses that transaction: it is withdrawn, and its ticket (10, B) is cancelled.
-- Connection 1 goes on as the sender and sends to D. The sender's floor is still (5, A): so its ticket at D
-- is 6, and neither above the cancelled one nor 1.
abbrev pub resuming : Run
resuming = run_of (4 ∷ 9 ∷ 18446744073709551615 ∷ 0 ∷ []) (
    Opens ∷ Connects 0 None ∷ Commits 0 (send 0 1 ∷ []) ∷ Proposes 0 (topic 0) true ∷ Decides 0
    ∷ Commits 0 to_b_and_c ∷ Proposes 0 (topic 1) true ∷ Proposes 0 (topic 2) true
    ∷ Withdraws 0 ∷ Cancels 0 (topic 1) ∷ Leaves 0
    ∷ Opens ∷ Connects 1 (Some 0) ∷ Commits 1 (send 3 3 ∷ []) ∷ Proposes 1 (topic 3) true ∷ Decides 1
    ∷ Turns (topic 0) ∷ Turns (topic 1) ∷ Turns (topic 3) ∷ [])

-- ---- what they come to

-- of each run the outcomes, the stamps of each topic's log, and of each subscription what its queue has
-- accepted, its span, what was delivered of it, and what it left if it was closed
pub record WorkedRows : Type 0 where
  -- B has (10, A) and then (11, C), each once, and both are delivered; A and C have one each
  pub crossing_answers : answers_in_order crossing
      ≡ Opened 0 ∷ Done ∷ Subscribed 0 0 (topic 1) zero_stamp
      ∷ Begun (transaction (id 0 1) to_a_and_b)
      ∷ Ticket (id 0 1) (stamp 10 0) ∷ Ticket (id 0 1) (stamp 1 1) ∷ Decided (id 0 1) (stamp 10 0)
      ∷ Begun (transaction (id 0 2) to_b_and_c)
      ∷ Ticket (id 0 2) (stamp 11 1) ∷ Ticket (id 0 2) (stamp 11 2) ∷ Decided (id 0 2) (stamp 11 2)
      ∷ Turned (topic 1) 2 ∷ Handed 0 (item (id 0 1) (stamp 10 0) (part 1 1 ∷ []))
      ∷ Handed 0 (item (id 0 2) (stamp 11 2) (part 0 2 ∷ [])) ∷ Refused Objection.NothingDue
      ∷ Turned (topic 0) 1 ∷ Turned (topic 2) 1 ∷ []
  pub crossing_logs : log_stamps crossing 0 ∷ log_stamps crossing 1 ∷ log_stamps crossing 2 ∷ []
      ≡ (stamp 10 0 ∷ []) ∷ (stamp 10 0 ∷ stamp 11 2 ∷ []) ∷ (stamp 11 2 ∷ []) ∷ []
  pub crossing_queue : queue crossing 0 ≡ crossing_at_b
  pub crossing_span : span_at (final_world crossing) 0 ≡ span 1 zero_stamp None
  pub crossing_delivered : delivered_items 0 (answers_of crossing) ≡ crossing_at_b
  -- the refused transaction has no row and no item; its sender keeps its floor
  pub withdrawal_answers : answers_in_order withdrawal
      ≡ Opened 0 ∷ Done ∷ Opened 1 ∷ Done ∷ Opened 2 ∷ Done ∷ Opened 3 ∷ Done
      ∷ Subscribed 0 3 (topic 1) zero_stamp
      ∷ Begun (transaction (id 0 1) (send 0 1 ∷ [])) ∷ Ticket (id 0 1) (stamp 18446744073709551615 0)
      ∷ Decided (id 0 1) (stamp 18446744073709551615 0) ∷ Turned (topic 0) 1
      ∷ Begun (transaction (id 2 1) to_a_and_b) ∷ Ticket (id 2 1) (stamp 1 1)
      ∷ Begun (transaction (id 1 1) (send 1 2 ∷ [])) ∷ Ticket (id 1 1) (stamp 2 1)
      ∷ Decided (id 1 1) (stamp 2 1)
      ∷ Turned (topic 1) 0
      ∷ Failed (id 2 1) ProposeFault.ClockFull ∷ Refused Objection.Marked ∷ Withdrawn (id 2 1) 2
      ∷ Refused Objection.Busy ∷ Turned (topic 1) 0
      ∷ Cancelled (id 2 1) (topic 1) ∷ Refused Objection.NotNamed
      ∷ Begun (transaction (id 3 1) (send 1 3 ∷ [])) ∷ Ticket (id 3 1) (stamp 3 1)
      ∷ Turned (topic 1) 1 ∷ Decided (id 3 1) (stamp 3 1) ∷ Turned (topic 1) 1 ∷ Gone 2
      ∷ Handed 0 (item (id 1 1) (stamp 2 1) (part 0 2 ∷ []))
      ∷ Handed 0 (item (id 3 1) (stamp 3 1) (part 0 3 ∷ [])) ∷ Refused Objection.NothingDue ∷ []
  pub withdrawal_logs : log_stamps withdrawal 0 ∷ log_stamps withdrawal 1 ∷ []
      ≡ (stamp 18446744073709551615 0 ∷ []) ∷ (stamp 2 1 ∷ stamp 3 1 ∷ []) ∷ []
  pub withdrawal_floors : floors withdrawal
      ≡ stamp 18446744073709551615 0 ∷ stamp 2 1 ∷ zero_stamp ∷ stamp 3 1 ∷ []
  pub withdrawal_queue : queue withdrawal 0 ≡ withdrawal_at_b
  pub withdrawal_span : span_at (final_world withdrawal) 0 ≡ span 1 zero_stamp None
  pub withdrawal_delivered : delivered_items 0 (answers_of withdrawal) ≡ withdrawal_at_b
  -- the span of the lost connection ends where it began; the other has the part of two SENDs as one item
  pub loss_answers : answers_in_order loss
      ≡ Opened 0 ∷ Done ∷ Opened 1 ∷ Done ∷ Subscribed 0 0 (topic 0) zero_stamp
      ∷ Subscribed 1 1 (topic 0) zero_stamp
      ∷ Begun (transaction (id 0 1) to_a_b_and_a) ∷ Ticket (id 0 1) (stamp 1 0)
      ∷ Leaving 0 ∷ Refused Objection.Busy ∷ Refused Objection.Gone ∷ Unsubscribed 0 zero_stamp
      ∷ Refused Objection.Busy
      ∷ Ticket (id 0 1) (stamp 1 1) ∷ Decided (id 0 1) (stamp 1 1)
      ∷ Learnt (id 0 1) (topic 0) ∷ Released (topic 0) (id 0 1) ∷ Turned (topic 1) 1
      ∷ Gone 0 ∷ Refused Objection.Gone
      ∷ Handed 1 (item (id 0 1) (stamp 1 1) (part 0 1 ∷ part 2 3 ∷ [])) ∷ []
  pub loss_logs : log_stamps loss 0 ∷ log_stamps loss 1 ∷ [] ≡ (stamp 1 1 ∷ []) ∷ (stamp 1 1 ∷ []) ∷ []
  pub loss_queues : queue loss 0 ∷ queue loss 1 ∷ [] ≡ [] ∷ loss_at_a ∷ []
  pub loss_spans : span_at (final_world loss) 0 ∷ span_at (final_world loss) 1 ∷ []
      ≡ span 0 zero_stamp (Some zero_stamp) ∷ span 0 zero_stamp None ∷ []
  pub loss_delivered : delivered_items 0 (answers_of loss) ∷ delivered_items 1 (answers_of loss) ∷ [] ≡ []
      ∷ loss_at_a ∷ []
  pub loss_left : left loss 0 ≡ Some (record { to = zero_stamp; accepted = []; cause = Asked })
  -- the item is accepted, the span ends with its stamp, and nothing was delivered
  pub disconnect_answers : answers_in_order disconnect
      ≡ Done ∷ Opened 0 ∷ Done ∷ Opened 1 ∷ Done ∷ Subscribed 0 0 (topic 1) zero_stamp
      ∷ Begun (transaction (id 1 1) (send 1 1 ∷ [])) ∷ Ticket (id 1 1) (stamp 5 1)
      ∷ Decided (id 1 1) (stamp 5 1) ∷ Turned (topic 1) 1
      ∷ Leaving 0 ∷ Refused Objection.Gone ∷ Unsubscribed 0 (stamp 5 1) ∷ Gone 0 ∷ Refused Objection.Gone ∷ []
  pub disconnect_logs : log_stamps disconnect 0 ∷ log_stamps disconnect 1 ∷ [] ≡ [] ∷ (stamp 5 1 ∷ []) ∷ []
  pub disconnect_queue : queue disconnect 0 ≡ disconnect_at_b
  pub disconnect_span : span_at (final_world disconnect) 0 ≡ span 1 zero_stamp (Some (stamp 5 1))
  pub disconnect_delivered : delivered_items 0 (answers_of disconnect) ≡ []
  pub disconnect_left : left disconnect 0
      ≡ Some (record { to = stamp 5 1; accepted = disconnect_at_b; cause = Asked })
  -- the full queue ends before the third item, and an ERROR follows its two; the log and the other have three
  pub lag_answers : answers_in_order lag
      ≡ Opened 0 ∷ Done ∷ Opened 1 ∷ Done ∷ Opened 2 ∷ Done
      ∷ Subscribed 0 1 (topic 0) zero_stamp ∷ Subscribed 1 2 (topic 0) zero_stamp
      ∷ one_sent 1 (one_sent 2 (Handed 1 (one_item 1) ∷ one_sent 3 (
      Handed 0 (one_item 1) ∷ Handed 0 (one_item 2) ∷ Error 1 ∷ Refused Objection.Gone
      ∷ Unsubscribed 0 (stamp 2 0) ∷ Handed 1 (one_item 2) ∷ Handed 1 (one_item 3)
      ∷ Unsubscribed 1 (stamp 3 0) ∷ Error 2 ∷ [])))
  pub lag_log : log_stamps lag 0 ≡ stamp 1 0 ∷ stamp 2 0 ∷ stamp 3 0 ∷ []
  pub lag_queues : queue lag 0 ∷ queue lag 1 ∷ []
      ≡ (one_item 1 ∷ one_item 2 ∷ []) ∷ (one_item 1 ∷ one_item 2 ∷ one_item 3 ∷ []) ∷ []
  pub lag_spans : span_at (final_world lag) 0 ∷ span_at (final_world lag) 1 ∷ []
      ≡ span 0 zero_stamp (Some (stamp 2 0)) ∷ span 0 zero_stamp (Some (stamp 3 0)) ∷ []
  pub lag_delivered : delivered_items 0 (answers_of lag) ∷ delivered_items 1 (answers_of lag) ∷ []
      ≡ (one_item 1 ∷ one_item 2 ∷ []) ∷ (one_item 1 ∷ one_item 2 ∷ one_item 3 ∷ []) ∷ []
  pub lag_left : left lag 0
      ≡ Some (record { to = stamp 2 0; accepted = one_item 1 ∷ one_item 2 ∷ []; cause = Lag })
  pub asked_left : left lag 1
      ≡ Some (record { to = stamp 3 0; accepted = one_item 1 ∷ one_item 2 ∷ one_item 3 ∷ []; cause = Asked })
  -- a connection needs a sender, has one at most, and gets none that is in use; the second transaction of the
  -- sender that lasts is above its floor, and delivered after its first
  pub lasting_answers : answers_in_order lasting
      ≡ Opened 0 ∷ Refused Objection.NoSender ∷ Refused Objection.NoSender ∷ Done
      ∷ Refused Objection.HasSender
      ∷ Begun (transaction (id 0 1) to_a_and_b) ∷ Ticket (id 0 1) (stamp 10 0) ∷ Leaving 0
      ∷ Opened 1 ∷ Refused Objection.InUse ∷ Refused Objection.Busy
      ∷ Ticket (id 0 1) (stamp 1 1) ∷ Decided (id 0 1) (stamp 10 0) ∷ Refused Objection.InUse ∷ Gone 0
      ∷ Done ∷ Subscribed 0 1 (topic 1) zero_stamp ∷ Opened 2 ∷ Done
      ∷ Begun (transaction (id 0 2) (send 1 2 ∷ [])) ∷ Begun (transaction (id 1 1) (send 1 3 ∷ []))
      ∷ Ticket (id 1 1) (stamp 2 1) ∷ Decided (id 1 1) (stamp 2 1)
      ∷ Ticket (id 0 2) (stamp 11 1) ∷ Decided (id 0 2) (stamp 11 1)
      ∷ Turned (topic 1) 3 ∷ Handed 0 (item (id 1 1) (stamp 2 1) (part 0 3 ∷ []))
      ∷ Handed 0 (item (id 0 1) (stamp 10 0) (part 1 1 ∷ []))
      ∷ Handed 0 (item (id 0 2) (stamp 11 1) (part 0 2 ∷ [])) ∷ Refused Objection.NothingDue ∷ []
  pub lasting_log : log_stamps lasting 1 ≡ stamp 2 1 ∷ stamp 10 0 ∷ stamp 11 1 ∷ []
  pub lasting_floors : floors lasting ≡ stamp 11 1 ∷ stamp 2 1 ∷ []
  pub lasting_queue : queue lasting 0 ≡ lasting_at_b
  pub lasting_delivered : delivered_items 0 (answers_of lasting) ≡ lasting_at_b
  -- a withdrawal and its cancelling leave the sender's floor as it was, also for its next connection
  pub resuming_answers : answers_in_order resuming
      ≡ Opened 0 ∷ Done ∷ Begun (transaction (id 0 1) (send 0 1 ∷ [])) ∷ Ticket (id 0 1) (stamp 5 0)
      ∷ Decided (id 0 1) (stamp 5 0)
      ∷ Begun (transaction (id 0 2) to_b_and_c) ∷ Ticket (id 0 2) (stamp 10 1)
      ∷ Failed (id 0 2) ProposeFault.ClockFull ∷ Withdrawn (id 0 2) 0 ∷ Cancelled (id 0 2) (topic 1) ∷ Gone 0
      ∷ Opened 1 ∷ Done ∷ Begun (transaction (id 0 3) (send 3 3 ∷ [])) ∷ Ticket (id 0 3) (stamp 6 3)
      ∷ Decided (id 0 3) (stamp 6 3)
      ∷ Turned (topic 0) 1 ∷ Turned (topic 1) 0 ∷ Turned (topic 3) 1 ∷ []
  pub resuming_logs
      : log_stamps resuming 0 ∷ log_stamps resuming 1 ∷ log_stamps resuming 2 ∷ log_stamps resuming 3 ∷ []
      ≡ (stamp 5 0 ∷ []) ∷ [] ∷ [] ∷ (stamp 6 3 ∷ []) ∷ []
  pub resuming_floors : floors resuming ≡ stamp 6 3 ∷ []
