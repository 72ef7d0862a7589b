use Rattle.std.proofs.Common.{◌<◌, length, Bor, sym, ap, ◌∙◌, Some, rules}
use Rattle.trace_audit.specs.Logs.{TopicRow}
use Rattle.trace_audit.proofs.Halving.{found_here, found_beyond, found_none}
use Rattle.trace_audit.proofs.logs.stamp_at.Goals as goal

pub returns-then-index-by_topic : goal.returns-then-index-by_topic
returns-then-index-by_topic c =
    found_none c.args.topic c.args.stamp c.args.by_topic.now c.index_of-index.result c.index_of-index.ensures.point (search rules)

pub returns-then-row-topic : goal.returns-then-row-topic
returns-then-row-topic c =
    let row = c.index-by_topic-index.result in
    let inside : c.index_of-index.result < length c.args.by_topic.now = search rules in
    ap (λ z. Some z) (ap (λ (l : TopicRow). l.row.stamp) c.row.view_is ∙ ap (λ (r : Bor TopicRow). r.now.row.stamp) c.index-by_topic-index.is)
    ∙ found_here c.args.topic c.args.stamp c.args.by_topic.now c.index_of-index.result row c.index_of-index.ensures.point inside
    (sym (ap (λ (l : TopicRow). l.topic.0) c.row.view_is ∙ ap (λ (r : Bor TopicRow). r.now.topic.0) c.index-by_topic-index.is) ∙ c.if-row-topic.true)

pub returns-else-row-topic : goal.returns-else-row-topic
returns-else-row-topic c =
    let row = c.index-by_topic-index.result in
    let inside : c.index_of-index.result < length c.args.by_topic.now = search rules in
    found_beyond c.args.topic c.args.stamp c.args.by_topic.now c.index_of-index.result row c.requires c.index_of-index.ensures.point inside
    (λ e. c.if-row-topic.false (ap (λ (l : TopicRow). l.topic.0) c.row.view_is ∙ (ap (λ (r : Bor TopicRow). r.now.topic.0) c.index-by_topic-index.is ∙ e)))
