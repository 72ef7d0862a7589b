use Rattle.std.proofs.Common.{◌≡◌, ◌++◌, map}
use Rattle.std.specs.Vec.Iter.{into_iter_items}
use Rattle.broker_server.specs.BrokerRows.{AsksInOrder, Unsubscribes}
use Rattle.broker_server.proofs.conversation.broker_calls.BrokerCalls.end_all.Given as goal

-- those so far were ended
abbrev pub invariant-loop-sub : goal.invariant-loop-sub
invariant-loop-sub g l = record {
  cut : l.yielded ++ into_iter_items l.sub-iterator ≡ l.fn.subs.items;
  asked : AsksInOrder g.Self.BrokerCalls.called l.fn.self (map (λ sub. Unsubscribes (g.Self.BrokerCalls.name sub)) l.yielded) l.self;
}
