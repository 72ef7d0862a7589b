use Rattle.std.proofs.Common.{◌-◌, ◌≡◌, ◌<◌, ◌≤◌, ℕ, true, false, length, get_or}
use Rattle.mcast_txn.specs.Span.{LogRow}
use Rattle.mcast_txn.specs.Stamp.{stamp_lt}
use Rattle.broker_locks.proofs.log_section.LogSection.count_to.Given as goal

-- those before `low` are at most the stamp, and those from `high` on are above it
abbrev pub invariant-loop-low : goal.invariant-loop-low
invariant-loop-low g l = record {
  order : l.low ≤ l.high;
  within : l.high ≤ length l.self;
  past : (i : ℕ) (d : LogRow) → i < l.low → stamp_lt l.stamp (get_or l.self i d).stamp ≡ false;
  above : (i : ℕ) (d : LogRow) → l.high ≤ i → i < length l.self → stamp_lt l.stamp (get_or l.self i d).stamp ≡ true;
}

abbrev pub decreases-loop-low : goal.decreases-loop-low
decreases-loop-low g l = l.high - l.low
