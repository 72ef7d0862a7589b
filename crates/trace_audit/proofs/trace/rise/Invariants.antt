use Rattle.std.proofs.Common.{◌≡◌, None, drop}
use Rattle.trace_audit.specs.Trace.{rise_after}
use Rattle.trace_audit.proofs.trace.rise.Given as goal

-- what is left rises after the last exactly where all do
abbrev pub invariant-loop-topic : goal.invariant-loop-topic
invariant-loop-topic l = rise_after l.last (drop l.topic-index l.topics) ≡ rise_after None l.topics
