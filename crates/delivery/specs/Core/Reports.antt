-- What a core reports.
use Rattle.std.specs.Prelude.{ℕ, ◌+◌, List, [], ◌∷◌, map, take, get_or, Option, Some, None}
use Rattle.std.specs.Option.{option_map}
use Rattle.mcast_txn.specs.declared.id.Topic.{Topic}
use Rattle.mcast_txn.specs.Span.{LogRow, Item, Span}
use Rattle.mcast_group.specs.declared.cause.Cause.{Cause}
use Rattle.mcast_group.specs.declared.cause.Cause.TheVariants.{Lag}
use Rattle.delivery.specs.Theorem.Due.{log_row}
use Rattle.delivery.specs.Machine.World.{World, entry_at, subscription_at}
use Rattle.delivery.specs.Machine.Observed.{accepted_at, end_at, entry_to}
use Rattle.delivery.specs.Core.Output.{text_out}
use Rattle.delivery.specs.Core.State.{Core}

-- a subscription: its span, why that ended if it did, what its queue accepted, and what of that was delivered
pub record QueueReport : Type 0 where
  pub span : Span
  pub cause : Option Cause
  pub queued : List Item
  pub handed : List Item

-- the commits in the order of Decide, each topic's log, the subscriptions and the octets out of each
-- connection, each by its number
pub record Report : Type 0 where
  pub commits : List LogRow
  pub logs : List (List LogRow)
  pub subscriptions : List QueueReport
  pub outs : List (List ℕ)

-- ---- of a core

-- why the subscription's span has ended, if it has: it was closed, or it lags
abbrev pub cause_at : World → ℕ → Option Cause
cause_at w s = elim (subscription_at w s).closed [
  | None ↦ option_map (λ end. Lag) (entry_to (entry_at w s))
  | Some end ↦ Some end.cause
]

-- a subscription as it is reported
abbrev pub queue_report : World → ℕ → QueueReport
queue_report w s = record {
  span = record { topic = (subscription_at w s).topic; from = (subscription_at w s).from; to = end_at w s };
  cause = cause_at w s;
  queued = accepted_at w s;
  handed = take (subscription_at w s).taken (accepted_at w s);
}

-- f of the number of each of these, where the first has number i
abbrev pub each_number : {X Y : Type 0} → (ℕ → Y) → ℕ → List X → List Y
each_number f i [] = []
each_number f i (x ∷ xs) = f i ∷ each_number f (i + 1) xs

-- the report of a core
abbrev pub report_of : Core → Report
report_of k = record {
  commits = map log_row k.world.commits;
  logs = map (λ x. x.held) k.world.topics;
  subscriptions = each_number (queue_report k.world) 0 k.world.subscriptions;
  outs = each_number (λ c. text_out k.names c k.steps) 0 k.world.connections;
}

-- ---- reading a report

-- the log of a topic
abbrev pub log_in : Report → Topic → List LogRow
log_in r t = get_or r.logs t.0 []

-- the octets written to a connection
abbrev pub out_in : Report → ℕ → List ℕ
out_in r c = get_or r.outs c []
