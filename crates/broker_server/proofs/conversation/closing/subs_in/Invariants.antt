use Rattle.std.proofs.Common.{◌≡◌, ◌≤◌, ◌+◌, ◌++◌, length, map, vec_capacity, vec_len}
use Rattle.std.specs.Vec.Iter.{into_iter_items}
use Rattle.broker_server.specs.Conversations.{OpenSubState}
use Rattle.broker_server.proofs.conversation.closing.subs_in.Given as goal

-- those so far were put into the list, which has room for the others
abbrev pub invariant-loop-open : goal.invariant-loop-open
invariant-loop-open g l = record {
  cut : l.yielded ++ into_iter_items l.open-iterator ≡ l.fn.subs.items;
  found : map g.C.BrokerCalls.name l.found.items ≡ map (λ (o : OpenSubState). o.sub) l.yielded;
  many : vec_len l.found ≡ length l.yielded;
  space : length l.fn.subs.items ≤ vec_capacity l.found;
}
