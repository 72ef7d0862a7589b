use Rattle.std.proofs.Common.{[], Ok, refl}
use Rattle.stomp_session.specs.declared.action.Action.TheVariants as actions
use Rattle.broker_server.specs.Conversations.{closing_rows}
use Rattle.broker_server.proofs.ConversationLemmas.{acts_by}
use Rattle.broker_server.proofs.conversation.Conversation.act.Goals as goal

pub returns-in-Connected : goal.returns-in-Connected
returns-in-Connected g c =
    let did = c.connect-done.ensures in
    let told = c.conclude.ensures in
    acts_by g.C.BrokerCalls.called c.args.calls.now c.connect-done.new.calls c.conclude.new.calls c.args.step (actions.Connected c.in-Connected.client) c.args.self.now c.connect-done.new.self c.conclude.new.self did.0 told.0 c.connect-done.result c.in-Connected.is did.1 told.1 did.2 told.2

pub returns-in-Nothing : goal.returns-in-Nothing
returns-in-Nothing g c =
    let now = c.args.calls.now in
    let told = c.answer.ensures in
    acts_by g.C.BrokerCalls.called now now c.answer.new.calls c.args.step actions.Nothing c.args.self.now c.args.self.now c.answer.new.self [] told.0 (Ok tt) c.in-Nothing.is refl told.1 (refl, refl, refl) told.2

pub returns-in-Subscribe : goal.returns-in-Subscribe
returns-in-Subscribe g c =
    let did = c.subscribe-done.ensures in
    let told = c.conclude-in-Subscribe.ensures in
    acts_by g.C.BrokerCalls.called c.args.calls.now c.subscribe-done.new.calls c.conclude-in-Subscribe.new.calls c.args.step (actions.Subscribe c.in-Subscribe.id c.in-Subscribe.topic) c.args.self.now c.subscribe-done.new.self c.conclude-in-Subscribe.new.self did.0 told.0 c.subscribe-done.result c.in-Subscribe.is did.1 told.1 did.2 told.2

pub returns-in-Unsubscribe : goal.returns-in-Unsubscribe
returns-in-Unsubscribe g c =
    let did = c.unsubscribe.ensures in
    let told = c.answer-in-Unsubscribe.ensures in
    acts_by g.C.BrokerCalls.called c.args.calls.now c.unsubscribe.new.calls c.answer-in-Unsubscribe.new.calls c.args.step (actions.Unsubscribe c.in-Unsubscribe.id) c.args.self.now c.unsubscribe.new.self c.answer-in-Unsubscribe.new.self did.0 told.0 (Ok tt) c.in-Unsubscribe.is did.1 told.1 (refl, did.2) told.2

pub returns-in-Disconnect : goal.returns-in-Disconnect
returns-in-Disconnect g c =
    let told = c.answer-in-Disconnect.ensures in
    acts_by g.C.BrokerCalls.called c.args.calls.now c.close.new.calls c.answer-in-Disconnect.new.calls c.args.step actions.Disconnect c.args.self.now c.close.new.self c.answer-in-Disconnect.new.self (closing_rows c.args.self.now) told.0 (Ok tt) c.in-Disconnect.is c.close.ensures.rows told.1 (refl, refl, c.close.ensures.closed) told.2
