use Rattle.std.proofs.Common.{rules}
use Rattle.std.proofs.lemmas.List.Sorted.{IsPartitionPoint-from_clause}
use Rattle.trace_audit.specs.Inner.Chained.{comes_before}
use Rattle.trace_audit.proofs.Halving.{before_parted}
use Rattle.trace_audit.proofs.logs.index_of.Goals as goal

pub returns-clause-point : goal.returns-clause-point
returns-clause-point c =
    IsPartitionPoint-from_clause (λ row. comes_before c.args.topic c.args.stamp row.now) c.args.by_topic.now _ c.partition_point.ensures.partitioned (before_parted c.args.topic c.args.stamp c.args.by_topic.now c.requires) (λ a r q k. search rules)
