-- Connections of a core that a run leads to: whose they are, and which were closed.
use Rattle.std.proofs.Common.{◌≡◌, ℕ, ◌<◌, not, length, ◌∙◌}
use Rattle.delivery.proofs.Words.All.{is_reading, connection_at, answers_of, account_of, has_closed, Core, IsReached}
use Rattle.delivery.proofs.Core.Said.{has_closed_said}
use Rattle.delivery.proofs.Words.Changes.{by_account, closed_where_shut}

-- the account says that a connection was closed where it isn't open
pub closed_is : (k : Core) (c : ℕ) → IsReached k → c < length k.world.connections → has_closed c (account_of k.names k.steps) ≡ not (is_reading (connection_at k.world c).standing)
closed_is k c reached =
    by_account (λ account w. c < length w.connections → has_closed c account ≡ not (is_reading (connection_at w c).standing)) k reached
    (λ r l. has_closed_said c (answers_of r) ∙ closed_where_shut r c l)
