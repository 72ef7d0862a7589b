use Rattle.broker_server.specs.Conversations.{OpenSubState}
use Rattle.broker_server.proofs.ConversationLemmas.{asks_named}
use Rattle.broker_server.proofs.conversation.closing.end_subs.Goals as goal

pub returns-in-Ok : goal.returns-in-Ok
returns-in-Ok g c =
    asks_named g.C.BrokerCalls.called g.C.BrokerCalls.name (λ (o : OpenSubState). o.sub) c.subs_in.result.items c.args.subs.items c.args.calls.now c.end_all.new.self c.subs_in.ensures c.end_all.ensures
