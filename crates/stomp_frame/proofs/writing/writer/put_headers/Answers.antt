use Rattle.std.proofs.Common.{◌∙◌}
use Rattle.stomp_frame.proofs.Written.{lines_more}
use Rattle.stomp_frame.proofs.writing.writer.put_headers.Goals as goal

pub loop-i-preserved : goal.loop-i-preserved
loop-i-preserved c = c.in_ok-put_header.ensures.ok ∙ lines_more c.args.escapes c.args.headers.now c.loop-i.i (c.pair.result.0.now, c.pair.result.1.now) c.loop-i.out c.args.out.now c.pair.ensures.value c.loop-i.invariant
