use Rattle.std.proofs.Common.{List, length}
use Rattle.stomp_frame.specs.declared.raw_frame.RawFrame.{RawFrame}
use Rattle.broker_server.specs.BrokerRows.{AsksInOrder, BrokerRow}
use Rattle.broker_server.specs.Hearing.{TakesFrames}
use Rattle.broker_server.proofs.conversation.Conversation.hear_all.Given as goal

-- the frames so far were taken
abbrev pub invariant-frames : goal.invariant-frames
invariant-frames g l = record {
  taken : (frames : List RawFrame) × (asked : List BrokerRow) × AsksInOrder g.C.BrokerCalls.called l.fn.calls asked l.calls × TakesFrames frames l.fn.self asked l.self;
}

abbrev pub decreases-frames : goal.decreases-frames
decreases-frames g l = length l.self.reader.text
