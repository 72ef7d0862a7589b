use Rattle.std.proofs.Common.{ap, sym, ◌∙◌}
use Rattle.stomp_frame.specs.Reader.{Unread}
use Rattle.stomp_frame.proofs.Unread.{only_answer}
use Rattle.stomp_frame.proofs.reading.reader.FrameReader.next.Goals as goal

pub returns-in-None-clause-only : goal.returns-in-None-clause-only
returns-in-None-clause-only c = only_answer c.args.self.now c.read_next.result c.read_next.new.self (ap (λ (u : Unread). u.answered) (sym c.self.view_is) ∙ c.in-None.is) c.read_next.ensures.answer
