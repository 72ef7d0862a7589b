use Rattle.std.proofs.Common.{ap, ◌∙◌, arith}
use Rattle.stomp_escape.specs.Inner.Unescaping.{octet_of}
use Rattle.stomp_escape.proofs.Letters.{octet_none, octet_found}
use Rattle.stomp_escape.proofs.unescaping.octet_for.Goals as goal

pub returns-then-octet-eq0 : goal.returns-then-octet-eq0
returns-then-octet-eq0 c = octet_none c.from.result (omega (arith, c.from.ensures, c.ranges.letter.fits)) c.if-octet-eq0.true ∙ ap octet_of c.from.ensures

pub returns : goal.returns
returns c = octet_found c.from.result (omega (arith, c.from.ensures, c.ranges.letter.fits)) c.if-octet-eq0.false ∙ ap octet_of c.from.ensures
