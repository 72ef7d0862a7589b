use Rattle.delivery.specs.Core.Output.{messages_for}
use Rattle.broker_server.proofs.DeliveringLemmas.{SoFar}
use Rattle.broker_server.proofs.conversation.taking.put_messages.Given as goal

-- the MESSAGEs so far were all written
abbrev pub invariant-loop-at : goal.invariant-loop-at
invariant-loop-at l = record {
  written : SoFar (messages_for l.fn.parts l.fn.id l.fn.item) l.fn.next l.at l.fn.wire l.wire;
}
