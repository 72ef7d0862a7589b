use Rattle.std.proofs.Common.{◌≡◌, ◌++◌, drop, map}
use Rattle.std.specs.Prelude.{decimal}
use Rattle.trace_audit.specs.Inner.Printing.{left_after, IsLonger}
use Rattle.trace_audit.specs.Text.{topics_text}
use Rattle.trace_audit.proofs.text.line_printing.put_topics.Given as goal

-- what is written and what is left make all topics
abbrev pub invariant-loop-topic : goal.invariant-loop-topic
invariant-loop-topic l = record {
  whole : l.out ++ left_after 44 l.first (map (λ t. decimal t.0) (drop l.topic-index l.topics)) ≡ l.fn.out ++ topics_text l.fn.topics;
  grown : IsLonger l.fn.out l.out;
}
