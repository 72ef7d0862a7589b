-- Outlets that count what was taken: their answers are a function of what they show.
use Rattle.std.specs.Prelude.{◌≡◌, ℕ, ◌==◌, Bool, false, List, [], ◌∷◌, slice_get}
use Rattle.std.specs.Prelude.{Option, Some, None, if◌then◌else◌}
use Rattle.mcast_txn.specs.Span.{Item}
use Rattle.mcast_txn.specs.declared.id.TxnId.{TxnId}
use Rattle.mcast_txn.specs.Ballot.{Decision}
use Rattle.sub_queue.specs.Shown.{Shown, Gauge, has_room, next_index, gauge_after_take}
use Rattle.mcast_group.specs.Machine.{Entry, after_turn, find_entry}
use Rattle.mcast_group.specs.Sound.{NumbersDiffer}
use Rattle.mcast_group.specs.Group.{GroupState, Releases, ReleasesAll, group_after_release, gauge_at, shown_at, shows, group_after_tries}

-- fewer items of the subscription than the gauge's capacity are untaken, where there is a gauge
abbrev pub takes_in : Option Gauge → Entry → Bool
takes_in None e = false
takes_in (Some gauge) e = has_room (shows e gauge)

-- the same, with the gauge of its number
abbrev pub takes_with : List Entry → List Gauge → Entry → Bool
takes_with es gauges e = takes_in (gauge_at e.number es gauges) e

-- the same, in a group
abbrev pub takes_of : GroupState → Entry → Bool
takes_of g e = takes_with g.topic.subscriptions g.gauges e

-- an outlet that counts answers so, and in no other way
abbrev pub counted : Shown → Bool → Type 0
counted s b = b ≡ has_room s

-- a release to outlets that count is the machine's, with this function
abbrev pub CountedReleases : Type 0
CountedReleases =
    (g new : GroupState) → NumbersDiffer g.topic.subscriptions → Releases counted g new
    → new ≡ group_after_release (takes_of g) g

-- and so is a turn
abbrev pub CountedTurns : Type 0
CountedTurns =
    (find : TxnId → Option Decision) (g new : GroupState) → NumbersDiffer g.topic.subscriptions
    → ReleasesAll counted (group_after_tries find g) new
    → new ≡ record g { topic = after_turn (takes_of g) find g.topic }

-- ---- take

-- the index of the next item of a subscription, if there is the subscription and an item is untaken
abbrev pub next_in : Option Shown → Option ℕ
next_in None = None
next_in (Some s) = next_index s

-- the same, of the subscription of this number
abbrev pub next_at : ℕ → GroupState → Option ℕ
next_at number g = next_in (shown_at number g)

-- the gauges after a take of this number: its subscription's counts one more as taken, where one was left
abbrev pub gauges_after_take : ℕ → List Entry → List Gauge → List Gauge
gauges_after_take number [] gauges = gauges
gauges_after_take number (e ∷ es) [] = []
gauges_after_take number (e ∷ es) (gauge ∷ gauges) =
    if number == e.number then gauge_after_take (shows e gauge) ∷ gauges
    else gauge ∷ gauges_after_take number es gauges

-- a group after a take of this number
abbrev pub group_after_take : ℕ → GroupState → GroupState
group_after_take number g = record g { gauges = gauges_after_take number g.topic.subscriptions g.gauges }

-- the item of this index among those that a subscription's queue accepted, if there are both
abbrev pub item_in : ℕ → Option Entry → Option Item
item_in index None = None
item_in index (Some e) = slice_get e.accepted index

-- the same, of the subscription of this number
abbrev pub queue_item_at : ℕ → ℕ → GroupState → Option Item
queue_item_at number index g = item_in index (find_entry number g.topic.subscriptions)
