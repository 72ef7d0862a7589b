-- What a run's outcomes and spans tell: whose a transaction is, whom a connection speaks for, where a span
-- begins and ends, and how much a queue holds.
use Rattle.std.specs.Prelude.{◌≡◌, ℕ, ◌<◌, ◌≤◌, ◌+◌, true, false, Option, Some, None, ◌⊎◌, List, [], length}
use Rattle.std.specs.Option.{unwrap_or}
use Rattle.mcast_txn.specs.declared.id.Topic.{Topic}
use Rattle.mcast_txn.specs.declared.draft.sent_message.SentMessage.{SentMessage}
use Rattle.mcast_txn.specs.declared.stamp.Stamp.{Stamp}
use Rattle.mcast_txn.specs.Agreed.{Transaction}
use Rattle.mcast_txn.specs.Lists.{In}
use Rattle.delivery.specs.Machine.World.{World, sender_at, connection_at, speaker, speaks_for, is_in_use, subscription_at}
use Rattle.delivery.specs.Machine.Observed.{accepted_at, end_at, span_at, frontier_at}
use Rattle.delivery.specs.Machine.Moves.{Move, world_after, answer_to}
use Rattle.delivery.specs.Machine.Moves.Move.{Connects, Commits, Releases, Turns}
use Rattle.delivery.specs.Machine.Moves.Answer.{Done, Begun, Subscribed, Unsubscribed}
use Rattle.delivery.specs.Machine.Runs.{delivered_items}
use Rattle.delivery.specs.Theorem.Laws.{Run, answers_of, final_world}

-- a transaction that is made has all SENDs of its frame, in their order, and is its connection's sender's
abbrev pub BegunIsOwn : Type 0
BegunIsOwn =
    (w : World) (e : Move) (txn : Transaction) → answer_to w e ≡ Begun txn
    → (c : ℕ) × (sends : List SentMessage) × (e ≡ Commits c sends) × (txn.sends ≡ sends)
    × ((connection_at w c).sender ≡ Some txn.id.sender.0)

-- No two connections that aren't gone speak for one sender, and whom one speaks for is there.
abbrev pub SendersAreOwn : Type 0
SendersAreOwn =
    (r : Run) (c d s : ℕ) → speaks_for s (connection_at (final_world r) c) ≡ true
    → speaks_for s (connection_at (final_world r) d) ≡ true → (c ≡ d) × (s < length (final_world r).senders)

-- A sender that isn't in use has no undecided transaction, and nothing to cancel: who goes on as it begins
-- where the last one ended.
abbrev pub RestingAreIdle : Type 0
RestingAreIdle =
    (r : Run) (s : ℕ) → is_in_use (final_world r) s ≡ false
    → ((sender_at (final_world r) s).flight ≡ None) × ((sender_at (final_world r) s).leftovers ≡ [])

-- Who goes on as a sender has its seq and its floor as they were, and all else of it; who begins one has the
-- next number and a new sender.
abbrev pub ClaimsGoOn : Type 0
ClaimsGoOn =
    (w : World) (c : ℕ) (claimed : Option ℕ) → answer_to w (Connects c claimed) ≡ Done
    → let s = unwrap_or claimed (length w.senders) in let v = world_after w (Connects c claimed) in
    ((connection_at v c).sender ≡ Some s) × (speaker v c ≡ sender_at w s)

-- whom a connection speaks for it speaks for until the end
abbrev pub SendersStay : Type 0
SendersStay =
    (w : World) (e : Move) (c s : ℕ) → (connection_at w c).sender ≡ Some s
    → (connection_at (world_after w e) c).sender ≡ Some s

-- a subscription's span has the topic and the beginning that SUBSCRIBE was answered
abbrev pub SpansBeginAsAnswered : Type 0
SpansBeginAsAnswered =
    (r : Run) (s c : ℕ) (t : Topic) (from : Stamp) → In (Subscribed s c t from) (answers_of r)
    → (s < length (final_world r).subscriptions) × ((span_at (final_world r) s).topic ≡ t)
    × ((span_at (final_world r) s).from ≡ from)

-- it has the end that UNSUBSCRIBE was answered
abbrev pub SpansEndAsAnswered : Type 0
SpansEndAsAnswered = (r : Run) (s : ℕ) (to : Stamp) → In (Unsubscribed s to) (answers_of r)
    → end_at (final_world r) s ≡ Some to

-- a span begins at its topic's frontier
abbrev pub SpansBeginAtFrontier : Type 0
SpansBeginAtFrontier =
    (r : Run) (e : Move) (s c : ℕ) (t : Topic) (from : Stamp)
    → answer_to (final_world r) e ≡ Subscribed s c t from
    → from ≡ frontier_at (final_world r) t

-- an end that is there stays
abbrev pub EndsStay : Type 0
EndsStay =
    (r : Run) (e : Move) (s : ℕ) (end : Stamp) → end_at (final_world r) s ≡ Some end
    → end_at (world_after (final_world r) e) s ≡ Some end

-- of what a queue has accepted no more than its capacity wasn't handed on
abbrev pub QueuesAreBounded : Type 0
QueuesAreBounded =
    (r : Run) (s : ℕ) → s < length (final_world r).subscriptions
    → length (accepted_at (final_world r) s) ≤ length (delivered_items s (answers_of r)) + r.capacity

-- a span gets its end by UNSUBSCRIBE, or by a release or a turn of its topic that leaves its queue full
abbrev pub EndsAreAnswered : Type 0
EndsAreAnswered =
    (r : Run) (e : Move) (s : ℕ) (end : Stamp) → end_at (final_world r) s ≡ None
    → end_at (world_after (final_world r) e) s ≡ Some end
    → (answer_to (final_world r) e ≡ Unsubscribed s end)
    ⊎ (((e ≡ Releases (subscription_at (final_world r) s).topic)
    ⊎ (e ≡ Turns (subscription_at (final_world r) s).topic))
    × (length (accepted_at (world_after (final_world r) e) s)
    ≡ length (delivered_items s (answers_of r)) + r.capacity))
