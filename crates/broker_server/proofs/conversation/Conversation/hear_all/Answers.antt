use Rattle.std.proofs.Common.{[], ◌∷◌, ◌++◌, refl}
use Rattle.broker_server.proofs.ConversationLemmas.{asks_on}
use Rattle.broker_server.proofs.HearingLemmas.{one_shorter}
use Rattle.broker_server.proofs.TakingLemmas.{takes_on}
use Rattle.broker_server.proofs.conversation.Conversation.hear_all.Goals as goal

pub returns-then-not-hear_next : goal.returns-then-not-hear_next
returns-then-not-hear_next g c =
    let called = g.C.BrokerCalls.called in
    let so_far = c.frames.invariant.taken in
    let last = c.hear_next.ensures.rests c.if-not-hear_next.true in (
      so_far.1 ++ last.0,
      asks_on called c.args.calls.now c.frames.calls c.hear_next.new.calls so_far.1 last.0 so_far.2 last.1,
      (so_far.0, c.frames.self, so_far.1, last.0, refl, so_far.3, last.2),
    )

pub frames-smaller : goal.frames-smaller
frames-smaller g c =
    let one = c.hear_next.ensures.took c.if-not-hear_next.false in
    one_shorter one.2 c.frames.self one.0 c.hear_next.new.self one.3

pub frames-preserved : goal.frames-preserved
frames-preserved g c =
    let called = g.C.BrokerCalls.called in
    let so_far = c.frames.invariant.taken in
    let one = c.hear_next.ensures.took c.if-not-hear_next.false in
    record {
      taken = (
        so_far.0 ++ one.2 ∷ [],
        so_far.1 ++ one.0,
        asks_on called c.args.calls.now c.frames.calls c.hear_next.new.calls so_far.1 one.0 so_far.2 one.1,
        takes_on so_far.0 (one.2 ∷ []) c.args.self.now so_far.1 c.frames.self one.0 c.hear_next.new.self so_far.3 one.3,
      );
    }
