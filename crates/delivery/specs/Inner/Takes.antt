-- Only serves proofs: what a Take finds and does, as functions of what the core holds.
use Rattle.std.specs.Prelude.{ℕ, Bool, ◌||◌, List, [], ◌∷◌, slice_get, get_or, set, Option, Some, None}
use Rattle.std.specs.List.{flat_map}
use Rattle.std.specs.Option.{is_some}
use Rattle.stomp_frame.specs.Writing.{spelling_of}
use Rattle.mcast_txn.specs.Checks.{first_refusal}
use Rattle.mcast_txn.specs.Span.{Item}
use Rattle.sub_queue.specs.Shown.{Shown, known_taken}
use Rattle.mcast_group.specs.Counted.{group_after_take}
use Rattle.mcast_group.specs.Group.{GroupState, shown_at}
use Rattle.mcast_group.specs.Machine.{find_entry}
use Rattle.delivery.specs.Machine.Objections.{Objection}
use Rattle.delivery.specs.Machine.Observed.{entry_to}
use Rattle.delivery.specs.Core.Output.{messages_for}
use Rattle.delivery.specs.Inner.Stands.{endpoint_objection}
use Rattle.delivery.specs.Inner.Subscriptions.{no_sub}
use Rattle.delivery.specs.Inner.View.{View, SubView, EndpointView, no_group, no_endpoint, written_endpoint}

-- what stands against delivering to a subscription, if there is one: it was closed, or its connection isn't
-- open
abbrev pub sub_objection : List EndpointView → Option SubView → Option Objection
sub_objection endpoints None = Some Objection.NoSub
sub_objection endpoints (Some x) =
    first_refusal
    ((is_some x.left || is_some (endpoint_objection (slice_get endpoints x.connection)), Objection.Gone) ∷ [])

-- the same of the subscription of this number
abbrev pub take_objection : View → ℕ → Option Objection
take_objection v s = sub_objection v.endpoints (slice_get v.subs s)

-- the subscription of this number
abbrev pub sub_held : View → ℕ → SubView
sub_held v s = get_or v.subs s no_sub

-- the next item of what a queue shows
abbrev pub next_shown : Option Shown → Option Item
next_shown None = None
next_shown (Some q) = slice_get q.accepted (known_taken q.gauge.taken)

-- the next item of subscription s at its topic's group
abbrev pub next_of : ℕ → GroupState → Option Item
next_of s g = next_shown (shown_at s g)

-- subscription s has lagged at its topic's group
abbrev pub has_lagged : ℕ → GroupState → Bool
has_lagged s g = is_some (entry_to (find_entry s g.topic.subscriptions))

-- the group at the topic of subscription s
abbrev pub group_held : View → ℕ → GroupState
group_held v s = get_or v.groups (sub_held v s).topic.0 no_group

-- the next item of subscription s
abbrev pub next_held : View → ℕ → Option Item
next_held v s = next_of s (group_held v s)

-- what is held after an item was delivered to subscription s: it is taken, and its MESSAGEs are written
abbrev pub after_item : View → ℕ → Item → View
after_item v s item =
    let x = sub_held v s in
    record v {
      groups = set v.groups x.topic.0 (group_after_take s (group_held v s));
      endpoints = set v.endpoints x.connection
          (written_endpoint (flat_map spelling_of (messages_for x.parts x.id item))
          (get_or v.endpoints x.connection no_endpoint));
    }

-- the same where there is an item, and otherwise what was held
abbrev pub after_next_item : View → ℕ → Option Item → View
after_next_item v s None = v
after_next_item v s (Some item) = after_item v s item
