use Rattle.std.proofs.Common.{◌≡◌, ◌++◌, map}
use Rattle.std.specs.Vec.Iter.{into_iter_items}
use Rattle.broker_server.specs.BrokerRows.{AsksInOrder, Unsubscribes}
use Rattle.broker_server.specs.Conversations.{OpenSubState}
use Rattle.broker_server.proofs.conversation.closing.end_each.Given as goal

-- those so far were ended
abbrev pub invariant-loop-open : goal.invariant-loop-open
invariant-loop-open g l = record {
  cut : l.yielded ++ into_iter_items l.open-iterator ≡ l.fn.subs.items;
  asked : AsksInOrder g.C.BrokerCalls.called l.fn.calls (map (λ (o : OpenSubState). Unsubscribes o.sub) l.yielded) l.calls;
}
