-- An end of a queue with all that it knows.
use Rattle.std.specs.Prelude.{ℕ, List}
use Rattle.mcast_txn.specs.Span.{Item}
use Rattle.sub_queue.specs.declared.rule.Knowledge.{Knowledge}
use Rattle.sub_queue.specs.Ends.{QueueId}
use Rattle.sub_queue.specs.Rule.{after_pushing, after_taking, knowing_taken}

-- queue: which queue it is.
-- capacity: the queue holds at most this many items.
-- knows: what it knows.
pub record EndState : Type 0 where
  pub queue : QueueId
  pub capacity : ℕ
  pub knows : Knowledge

-- it knows this now
abbrev pub with_knowledge : Knowledge → EndState → EndState
with_knowledge v e = record e { knows = v }

-- it pushed one more item
abbrev pub end_after_push : Item → EndState → EndState
end_after_push item e = with_knowledge (after_pushing item e.knows) e

-- it took one more item
abbrev pub end_after_take : Item → EndState → EndState
end_after_take item e = with_knowledge (after_taking item e.knows) e

-- it knows now that these items were taken
abbrev pub end_knowing_taken : List Item → EndState → EndState
end_knowing_taken taken e = with_knowledge (knowing_taken taken e.knows) e
