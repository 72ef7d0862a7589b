-- A row of a log, with its topic.
use Rattle.mcast_txn.specs.declared.id.Topic.{Topic}
use Rattle.mcast_txn.specs.Span.{LogRow}

-- a row, and the topic whose log has it
pub record TopicRow : Type 0 where
  pub topic : Topic
  pub row : LogRow
