use Rattle.std.proofs.Common.{◌++◌}
use Rattle.std.specs.Prelude.{decimal}
use Rattle.trace_audit.specs.Text.{topics_text}
use Rattle.trace_audit.proofs.Printing.{part_more, longer_by}
use Rattle.trace_audit.proofs.text.line_printing.put_topics.Goals as goal

pub loop-topic-preserved : goal.loop-topic-preserved
loop-topic-preserved c = record {
  whole = part_more 44 (λ t. decimal t.0) c.loop-topic.out c.next_topic.new.out (c.args.out.now ++ topics_text c.args.topics.now) c.loop-topic.first c.args.topics.now c.loop-topic.topic-index _
      c.loop-topic-test.true c.in_ok-next_topic.ensures.ok c.loop-topic.invariant.whole;
  grown = longer_by _ _ _ _ c.loop-topic.invariant.grown c.in_ok-next_topic.ensures.ok;
}
