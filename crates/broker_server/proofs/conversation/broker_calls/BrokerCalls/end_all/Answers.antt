use Rattle.std.proofs.Common.{[], ◌∷◌, ◌++◌, sym, ap, ◌∙◌, append_assoc}
use Rattle.std.specs.Vec.Iter.{into_iter_items}
use Rattle.broker_server.proofs.ConversationLemmas.{asks_next}
use Rattle.broker_server.proofs.conversation.broker_calls.BrokerCalls.end_all.Goals as goal

pub loop-sub-preserved : goal.loop-sub-preserved
loop-sub-preserved g c =
    let was = c.loop-sub.yielded in
    let it = c.in-Some.sub in
    record {
      cut = append_assoc was (it ∷ []) (into_iter_items c.next.new.self) ∙ ap (λ xs. was ++ xs) (sym c.in-Some.ensures.steps.0) ∙ c.loop-sub.invariant.cut;
      asked = asks_next g.Self.BrokerCalls.called g.Self.BrokerCalls.name was it c.args.self.now c.loop-sub.self c.unsubscribe.new.self c.loop-sub.invariant.asked c.unsubscribe.ensures;
    }
