use Rattle.stomp_frame.proofs.Texts.{is_ok-is_utf8}
use Rattle.stomp_frame.proofs.reading.lines.is_utf8.Goals as goal

pub returns : goal.returns
returns c = is_ok-is_utf8 _ _ c.args.octets.now c.from_utf8.result c.is_ok.result c.from_utf8.ensures.cases c.is_ok.ensures.value
