-- What each event is answered: for each outcome, which event it answers, and of which connection, topic,
-- subscription and transaction it speaks.
use Rattle.std.specs.Prelude.{◌≡◌, ℕ, ◌<◌, ◌+◌, Bool, true, false, Option, Some, None, ◌⊎◌, [], length, slice_get}
use Rattle.std.specs.Option.{is_some}
use Rattle.mcast_txn.specs.declared.id.Topic.{Topic}
use Rattle.mcast_txn.specs.Stamp.{greatest}
use Rattle.mcast_txn.specs.Part.{part_at}
use Rattle.mcast_txn.specs.Lists.{In}
use Rattle.mcast_txn.specs.Ballot.{Decision}
use Rattle.mcast_group.specs.declared.fault.ProposeFault.{ProposeFault}
use Rattle.mcast_group.specs.Machine.{Pending, propose_fault, due_part}
use Rattle.delivery.specs.Machine.World.{World, Leftover, topic_at, connection_at, speaker, subscription_at}
use Rattle.delivery.specs.Machine.Observed.{accepted_at, end_at}
use Rattle.delivery.specs.Machine.Moves.{Move, Answer, answer_to, undecided_at, is_live}
use Rattle.delivery.specs.Machine.Moves.Move.{AddsTopic, Opens, Connects, Commits, Subscribes, Unsubscribes, Disconnects, Errs, Lost}
use Rattle.delivery.specs.Machine.Moves.Move.{Leaves, Proposes, Decides, Withdraws, Cancels, Learns, Releases, Turns, Takes}
use Rattle.delivery.specs.Machine.Moves.Answer.{Refused, Done, Opened, Begun, Subscribed, Unsubscribed, Leaving, Error, Gone}
use Rattle.delivery.specs.Machine.Moves.Answer.{Ticket, Failed, Decided, Withdrawn, Cancelled, Learnt, Released, Turned, Handed}

-- s is a subscription of c that isn't closed, and each of c's before it is closed
pub record IsOldest (w : World) (c s : ℕ) : Type 0 where
  pub there : s < length w.subscriptions
  pub live : is_live c (subscription_at w s) ≡ true
  pub oldest : (q : ℕ) → q < s → is_live c (subscription_at w q) ≡ false

-- each subscription of c is closed
abbrev pub AllClosed : World → ℕ → Type 0
AllClosed w c = (q : ℕ) → q < length w.subscriptions → is_live c (subscription_at w q) ≡ false

-- t refuses the connection's transaction for this: by the topic's own rules; or for memory, where nothing
-- else stands against it and the event says that there was none
abbrev pub IsFailure : World → ℕ → Topic → (memory : Bool) → ProposeFault → Type 0
IsFailure w c t memory why =
    let f = undecided_at w c in
    let fault = propose_fault (speaker w c).floor (part_at f.txn.id f.txn.sends t) (topic_at w t) in
    (fault ≡ Some why) ⊎ ((why ≡ ProposeFault.NoMemory) × (memory ≡ false) × (fault ≡ None))

-- The outcome answers this event. So `Lost 0` isn't answered `Done`, `Takes 1` isn't by an item of the
-- subscription 2, and no proposal for which there was memory fails for want of it. What is refused, and
-- when, is the table `checks`.
abbrev pub IsAnswer : World → Move → Answer → Type 0
IsAnswer w e (Refused why) = Unit {0}
IsAnswer w e Done =
    ((clock : ℕ) × (e ≡ AddsTopic clock))
    ⊎ (((c : ℕ) × (claimed : Option ℕ) × (e ≡ Connects c claimed)) ⊎ ((c : ℕ) × (e ≡ Commits c [])))
IsAnswer w e (Opened c) = (e ≡ Opens) × (c ≡ length w.connections)
IsAnswer w e (Begun txn) =
    (c : ℕ) × (e ≡ Commits c txn.sends) × ((connection_at w c).sender ≡ Some txn.id.sender.0)
    × (txn.id.seq ≡ (speaker w c).seq + 1)
IsAnswer w e (Subscribed s c t from) =
    (e ≡ Subscribes c t) × (s ≡ length w.subscriptions) × (from ≡ (topic_at w t).frontier)
IsAnswer w e (Unsubscribed s to) =
    ((c : ℕ) × (e ≡ Unsubscribes c s) × (is_live c (subscription_at w s) ≡ true))
    ⊎ ((c : ℕ) × (e ≡ Leaves c) × IsOldest w c s)
IsAnswer w e (Leaving c) = (e ≡ Disconnects c) ⊎ (e ≡ Lost c)
IsAnswer w e (Error c) =
    (e ≡ Errs c)
    ⊎ ((s : ℕ) × (e ≡ Takes s) × ((subscription_at w s).connection ≡ c) × (is_some (end_at w s) ≡ true)
    × (slice_get (accepted_at w s) (subscription_at w s).taken ≡ None))
IsAnswer w e (Gone c) = (e ≡ Leaves c) × AllClosed w c
IsAnswer w e (Ticket id ticket) = (c : ℕ) × (memory : Bool) × (e ≡ Proposes c ticket.topic memory)
    × (id ≡ (undecided_at w c).txn.id)
IsAnswer w e (Failed id why) =
    (c : ℕ) × (t : Topic) × (memory : Bool) × (e ≡ Proposes c t memory) × (id ≡ (undecided_at w c).txn.id)
    × IsFailure w c t memory why
IsAnswer w e (Decided id stamp) =
    (c : ℕ) × (e ≡ Decides c) × (id ≡ (undecided_at w c).txn.id) × (stamp ≡ greatest (undecided_at w c).given)
IsAnswer w e (Withdrawn id c) = (e ≡ Withdraws c) × (id ≡ (undecided_at w c).txn.id)
IsAnswer w e (Cancelled id t) =
    (c : ℕ) × (e ≡ Cancels c t) × (k : Leftover) × In k (speaker w c).leftovers × (k.id ≡ id)
    × (k.ticket.topic ≡ t)
IsAnswer w e (Learnt id t) = (e ≡ Learns t id) × (v : Decision) × In v w.verdicts × (v.id ≡ id)
IsAnswer w e (Released t id) = (e ≡ Releases t) × (p : Pending) × (due_part (topic_at w t) ≡ Some p)
    × (p.part.id ≡ id)
IsAnswer w e (Turned t count) = e ≡ Turns t
IsAnswer w e (Handed s item) = (e ≡ Takes s)
    × (slice_get (accepted_at w s) (subscription_at w s).taken ≡ Some item)

-- each event is answered by an outcome of its own, in any core
abbrev pub MovesAreAnswered : Type 0
MovesAreAnswered = (w : World) (e : Move) → IsAnswer w e (answer_to w e)
