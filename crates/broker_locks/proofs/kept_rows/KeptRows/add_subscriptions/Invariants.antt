use Rattle.std.proofs.Common.{◌++◌, take}
use Rattle.broker_locks.specs.Inner.KeptRows.{spans_rows}
use Rattle.broker_locks.specs.KeptTrace.{AddsAll}
use Rattle.broker_locks.proofs.kept_rows.KeptRows.add_subscriptions.Given as goal

-- the subscriptions so far were added
abbrev pub invariant-loop-span : goal.invariant-loop-span
invariant-loop-span g l = AddsAll (spans_rows l.group.topic (l.drained ++ l.held) (take l.span-index l.self.spans)) l.fn.trace l.trace
