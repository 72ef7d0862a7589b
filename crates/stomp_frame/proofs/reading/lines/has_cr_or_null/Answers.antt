use Rattle.std.proofs.Common.{◌∙◌}
use Rattle.memchr.specs.Find.{is_byte2}
use Rattle.stomp_frame.proofs.Breaks.{first_is_any}
use Rattle.stomp_frame.proofs.reading.lines.has_cr_or_null.Goals as goal

pub returns : goal.returns
returns c = c.is_some.ensures ∙ first_is_any (is_byte2 13 0) c.args.content.now c.memchr2.result c.memchr2.ensures
