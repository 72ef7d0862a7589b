use Rattle.std.proofs.Common.{List, [], ◌∷◌, Ok, Err, refl, ap, subst, inl, inr}
use Rattle.mcast_txn.specs.declared.draft.sent_message.SentMessage.{SentMessage}
use Rattle.sender_gate.specs.declared.fault.GateFault.{GateFault}
use Rattle.sender_gate.specs.Gate.{FlightState, GateState, flight_of}
use Rattle.broker_server.specs.BrokerRows.{Commits, GivesRoomBack, IsGateAfter}
use Rattle.broker_server.specs.declared.conversation.conversation_fault.ConversationFault.TheVariants as fault
use Rattle.broker_server.specs.Conversations.{Done}
use Rattle.broker_server.proofs.ConversationLemmas.{asks_one}
use Rattle.broker_server.proofs.conversation.commit_by.Goals as goal

pub returns-in-Err : goal.returns-in-Err
returns-in-Err g c =
    let called = g.C.BrokerCalls.called in
    let refused = c.in-Err.ensures.err in
    let failed : GateState × List SentMessage × GateFault → Done = λ e. Err (fault.Begin e.2) in (
      GivesRoomBack ∷ [],
      asks_one called c.args.calls.now c.give_room_back.new.self GivesRoomBack c.give_room_back.ensures,
      inl (refl, ap failed refused, ap (λ (e : GateState × List SentMessage × GateFault). e.0) refused),
    )

pub returns-in-Ok-commit : goal.returns-in-Ok-commit
returns-in-Ok-commit g c =
    let called = g.C.BrokerCalls.called in
    let answer = Ok c.in-Ok-commit.gate in
    let one = subst (λ (f : FlightState). called c.args.calls.now (Commits f answer) c.commit.new.self) c.in-Ok.ensures.ok c.in-Ok-commit.ensures.committed in
    let left = subst (λ (f : FlightState). IsGateAfter f c.in-Ok-commit.gate) c.in-Ok.ensures.ok c.in-Ok-commit.ensures.left in (
      Commits (flight_of c.args.gate c.args.txn) answer ∷ [],
      asks_one called c.args.calls.now c.commit.new.self (Commits (flight_of c.args.gate c.args.txn) answer) one,
      inr (inl (refl, refl, left)),
    )

pub returns-in-Err-commit : goal.returns-in-Err-commit
returns-in-Err-commit g c =
    let called = g.C.BrokerCalls.called in
    let answer = Err (c.in-Err-commit.gate, c.in-Err-commit.fault) in
    let one = subst (λ (f : FlightState). called c.args.calls.now (Commits f answer) c.commit.new.self) c.in-Ok.ensures.ok c.in-Err-commit.ensures.refused in
    let left = subst (λ (f : FlightState). IsGateAfter f c.in-Err-commit.gate) c.in-Ok.ensures.ok c.in-Err-commit.ensures.left_too in (
      Commits (flight_of c.args.gate c.args.txn) answer ∷ [],
      asks_one called c.args.calls.now c.commit.new.self (Commits (flight_of c.args.gate c.args.txn) answer) one,
      inr (inr (c.in-Err-commit.fault, refl, refl, left)),
    )
