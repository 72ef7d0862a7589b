use Rattle.std.proofs.Common.{sym}
use Rattle.trace_audit.specs.Inner.Reading.{spelled_topics, topics_from, text_parts}
use Rattle.trace_audit.proofs.Cuts.{cut_shorter}
use Rattle.trace_audit.proofs.Fields.{topic_read, topic_unread, last_read, last_unread}
use Rattle.trace_audit.proofs.text.field_reading.topics.Goals as goal

pub returns-in_default-topic : goal.returns-in_default-topic
unfolding spelled_topics
returns-in_default-topic c = topic_unread c.loop-word.topics.items c.loop-word.rest.now c.in-Some.word.now c.in-Some.after.now (topics_from (text_parts 44 c.args.text.now)) (sym c.in-Some.ensures) (sym c.in_default-topic.ensures) c.loop-word.invariant

pub loop-word-smaller : goal.loop-word-smaller
loop-word-smaller c = cut_shorter 44 c.loop-word.rest.now (c.in-Some.word.now, c.in-Some.after.now) (sym c.in-Some.ensures)

pub loop-word-preserved : goal.loop-word-preserved
loop-word-preserved c = rw c.in_ok-push.ensures.items (topic_read c.loop-word.topics.items c.loop-word.rest.now c.in-Some.word.now c.in-Some.after.now c.in-Some-topic.topic (topics_from (text_parts 44 c.args.text.now)) (sym c.in-Some.ensures) (sym c.in-Some-topic.ensures) c.loop-word.invariant)

pub returns-in_default-topic-2 : goal.returns-in_default-topic-2
unfolding spelled_topics
returns-in_default-topic-2 c = last_unread c.loop-word.topics.items c.loop-word.rest.now (topics_from (text_parts 44 c.args.text.now)) (sym c.in_default.ensures) (sym c.in_default-topic-2.ensures) c.loop-word.invariant

pub returns : goal.returns
unfolding spelled_topics
returns c = rw c.in_ok-push-2.ensures.items (last_read c.loop-word.topics.items c.loop-word.rest.now c.in-Some-topic-2.topic (topics_from (text_parts 44 c.args.text.now)) (sym c.in_default.ensures) (sym c.in-Some-topic-2.ensures) c.loop-word.invariant)
