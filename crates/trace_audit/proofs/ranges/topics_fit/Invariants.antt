use Rattle.std.proofs.Common.{take}
use Rattle.std.specs.List.{AllByRecursion}
use Rattle.trace_audit.specs.Text.{IsTopicInRange}
use Rattle.trace_audit.proofs.ranges.topics_fit.Given as goal

-- the topics so far fit
abbrev pub invariant-loop-topic : goal.invariant-loop-topic
invariant-loop-topic l = AllByRecursion IsTopicInRange (take l.topic-index l.fn.topics)
