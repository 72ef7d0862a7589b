-- Only serves proofs: the report of what the code holds.
use Rattle.std.specs.Prelude.{ℕ, List, [], map, take, slice_get, Option, Some, None}
use Rattle.std.specs.List.{enumerate_from}
use Rattle.std.specs.Option.{option_map, option_and_then}
use Rattle.mcast_txn.specs.declared.id.Topic.{Topic}
use Rattle.mcast_txn.specs.declared.stamp.Stamp.{Stamp}
use Rattle.mcast_txn.specs.Span.{Item}
use Rattle.sub_queue.specs.Shown.{Shown, known_taken}
use Rattle.mcast_group.specs.declared.cause.Cause.TheVariants.{Lag}
use Rattle.mcast_group.specs.declared.state.SubState.{SubState}
use Rattle.mcast_group.specs.Group.{GroupState, shown_at}
use Rattle.mcast_group.specs.Machine.{subscription_state}
use Rattle.delivery.specs.Core.Reports.{QueueReport, Report}
use Rattle.delivery.specs.Inner.View.{View, SubView, LeftView}

-- ---- an open subscription, at its topic's group

-- where a subscription of this state lagged, if it did
abbrev pub lag_of : SubState → Option Stamp
lag_of SubState.Open = None
lag_of (SubState.Lag end) = Some end

-- where subscription s of topic t lagged, if it did
abbrev pub lag_in : List GroupState → Topic → ℕ → Option Stamp
lag_in groups t s =
    option_and_then lag_of (option_and_then (λ g. subscription_state s g.topic) (slice_get groups t.0))

-- what the queue of subscription s of topic t shows
abbrev pub queue_shown : List GroupState → Topic → ℕ → Option Shown
queue_shown groups t s = option_and_then (shown_at s) (slice_get groups t.0)

-- the items that a queue accepted, if there is one
abbrev pub queued_items : Option Shown → List Item
queued_items None = []
queued_items (Some q) = q.accepted

-- the items that were taken of it
abbrev pub handed_items : Option Shown → List Item
handed_items None = []
handed_items (Some q) = take (known_taken q.gauge.taken) q.accepted

-- ---- reports

-- subscription s of these groups, which isn't closed
abbrev pub open_report : List GroupState → ℕ → SubView → QueueReport
open_report groups s x = record {
  span = record { topic = x.topic; from = x.from; to = lag_in groups x.topic s };
  cause = option_map (λ end. Lag) (lag_in groups x.topic s);
  queued = queued_items (queue_shown groups x.topic s);
  handed = handed_items (queue_shown groups x.topic s);
}

-- a closed subscription, which left this
abbrev pub closed_report : SubView → LeftView → QueueReport
closed_report x left = record {
  span = record { topic = x.topic; from = x.from; to = Some left.to };
  cause = Some left.cause;
  queued = left.accepted;
  handed = take left.taken left.accepted;
}

-- subscription s of these groups
abbrev pub sub_report : List GroupState → ℕ → SubView → QueueReport
sub_report groups s x = elim x.left [ None ↦ open_report groups s x | Some left ↦ closed_report x left ]

-- the report of what is held
abbrev pub report_in : View → Report
report_in v = record {
  commits = v.commits;
  logs = map (λ g. g.topic.held) v.groups;
  subscriptions = map (λ p. sub_report v.groups p.0 p.1) (enumerate_from 0 v.subs);
  outs = map (λ endpoint. endpoint.output) v.endpoints;
}
