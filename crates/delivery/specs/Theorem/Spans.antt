-- Where a span ends, what its queue has accepted as it does, and what a closed subscription leaves.
use Rattle.std.specs.Prelude.{◌≡◌, ℕ, ◌<◌, ◌++◌, List, ◌∷◌, Option, Some, None, length}
use Rattle.mcast_txn.specs.declared.stamp.Stamp.{Stamp}
use Rattle.mcast_txn.specs.Stamp.{zero_stamp}
use Rattle.mcast_group.specs.declared.cause.Cause.{Cause}
use Rattle.mcast_group.specs.declared.cause.Cause.TheVariants.{Asked, Lag}
use Rattle.mcast_txn.specs.Span.{LogRow, Item, last_stamp}
use Rattle.mcast_group.specs.Machine.{EntryEnd}
use Rattle.delivery.specs.Machine.World.{subscription_at}
use Rattle.delivery.specs.Machine.Observed.{log_at, accepted_at, end_at, frontier_at}
use Rattle.delivery.specs.Machine.Moves.{Move, world_after, answer_to}
use Rattle.delivery.specs.Machine.Moves.Answer.{Unsubscribed}
use Rattle.delivery.specs.Theorem.Laws.{Run, final_world}

-- a span that is open until UNSUBSCRIBE, or until its connection leaves, ends with its topic's frontier
abbrev pub SpansEndAtFrontier : Type 0
SpansEndAtFrontier =
    (r : Run) (e : Move) (s : ℕ) (to : Stamp) → answer_to (final_world r) e ≡ Unsubscribed s to
    → end_at (final_world r) s ≡ None → to
    ≡ frontier_at (final_world r) (subscription_at (final_world r) s).topic

-- a log got rows, one for which a queue had no room, and others: the end is the last stamp before that row;
-- where rows 2, 3 and 4 come after row 1 and the queue has room for 2 alone, it is row 2's stamp
pub record EndsBeforeRow (before later : List LogRow) (end : Stamp) : Type 0 where
  pub rows : List LogRow
  pub row : LogRow
  pub others : List LogRow
  pub log_is : later ≡ (before ++ rows) ++ row ∷ others
  pub end_is : end ≡ last_stamp zero_stamp (before ++ rows)

-- a span that gets its end otherwise lags: it ends with the frontier before one of its topic's new rows
abbrev pub LagsEndBeforeRow : Type 0
LagsEndBeforeRow =
    (r : Run) (e : Move) (s : ℕ) (end : Stamp) → end_at (final_world r) s ≡ None
    → end_at (world_after (final_world r) e) s ≡ Some end
    → (answer_to (final_world r) e ≡ Unsubscribed s end → Prim.⊥)
    → let t = (subscription_at (final_world r) s).topic in
    EndsBeforeRow (log_at (final_world r) t) (log_at (world_after (final_world r) e) t) end

-- what a queue has accepted stays: more is added to its end alone
abbrev pub QueuesGrow : Type 0
QueuesGrow =
    (r : Run) (e : Move) (s : ℕ) → s < length (final_world r).subscriptions
    → (more : List Item) × (accepted_at (world_after (final_world r) e) s ≡ accepted_at (final_world r) s
    ++ more)

-- why a subscription is closed: it has lagged where its span had an end before, and else it was asked to end
abbrev pub cause_of : Option Stamp → Cause
cause_of None = Asked
cause_of (Some end) = Lag

-- what a closed subscription leaves: the end that is answered, what its queue had accepted, and the cause
abbrev pub ClosedAsAnswered : Type 0
ClosedAsAnswered =
    (r : Run) (e : Move) (s : ℕ) (to : Stamp) → answer_to (final_world r) e ≡ Unsubscribed s to
    → (subscription_at (world_after (final_world r) e) s).closed
    ≡ Some (record {
      to = to;
      accepted = accepted_at (final_world r) s;
      cause = cause_of (end_at (final_world r) s);
    })

-- only an event that answers a subscription's end closes it
abbrev pub ClosesAreAnswered : Type 0
ClosesAreAnswered =
    (r : Run) (e : Move) (s : ℕ) (left : EntryEnd) → (subscription_at (final_world r) s).closed ≡ None
    → (subscription_at (world_after (final_world r) e) s).closed ≡ Some left
    → answer_to (final_world r) e ≡ Unsubscribed s left.to

-- what a closed subscription left stays as it is
abbrev pub ClosedStays : Type 0
ClosedStays =
    (r : Run) (e : Move) (s : ℕ) (left : EntryEnd) → (subscription_at (final_world r) s).closed ≡ Some left
    → (subscription_at (world_after (final_world r) e) s).closed ≡ Some left
